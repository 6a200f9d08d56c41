use Rattle.std.proofs.Common.{◌≡◌, [], length, rules, sym, subst, ℕ, List}
use Rattle.brace_num.proofs.Lists.{none_long}
use Rattle.brace_fold.specs.inner.Asks.{Asks}
use Rattle.brace_fold.proofs.Askings.{asks-more, asks-none}
use Rattle.brace_fold.proofs.asking.ask_all.Goals as goal

pub loop-left-init : goal.loop-left-init
loop-left-init c = λ d end h. h

pub loop-left-preserved : goal.loop-left-preserved
loop-left-preserved c = λ d end h.
    let scene = c.args.scene.now in
    let group = c.in_ok-group.group in
    c.loop-left.invariant d end
    (subst (λ (l : List ℕ). Asks scene d l c.loop-left.heard end) c.in_ok-group.ensures.rows
    (asks-more scene d group.rows.now group.rest.now c.loop-left.heard c.ask.new.heard end
    (c.in_ok-ask.ensures d) h))

pub returns : goal.returns
returns c = λ d.
    let scene = c.args.scene.now in
    let heard = c.loop-left.heard in
    let left = c.loop-left.left.now in
    let empty : length left ≡ 0 = search rules in
    let none : left ≡ [] = none_long left empty in
    c.loop-left.invariant d heard (subst (λ (l : List ℕ). Asks scene d l heard heard)
    (sym none) (asks-none scene d heard))
