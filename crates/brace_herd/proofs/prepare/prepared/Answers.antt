use Rattle.std.proofs.Common.{rules, ◌≡◌, ◌∙◌, refl, sym, ap, subst, [], ◌∷◌, length, drop, fold, get_or, ℕ, ◌+◌, ◌-◌, arith, Contains}
use Rattle.std.proofs.lemmas.List.Elements.{All-cons, All-nil}
use Rattle.std.proofs.lemmas.List.Sums.{fold-append}
use Rattle.brace_pieces.specs.Steps.{met}
use Rattle.brace_pieces.specs.Exchanged.{counted, AreOut}
use Rattle.brace_pieces.proofs.OutLemmas.{none_prepared, one_prepared}
use Rattle.brace_herd.proofs.prepare.prepared.Goals as goal

pub loop-i-init : goal.loop-i-init
loop-i-init c =
    let w = c.args.worker.now in
    let none : c.in_ok-pieces.pieces.items ≡ [] = search rules in
    record {
      out = subst (AreOut w.setting.now w.number w.part (drop (length c.args.others.now - 0) c.args.others.now)) (sym none) (none_prepared w.setting.now w.number w.part c.args.others.now);
      sums = ap (fold (counted w.next) c.args.counts.now) (sym none);
    }

pub piece_for-requires-clause-to : goal.piece_for-requires-clause-to
piece_for-requires-clause-to c =
    let w = c.args.worker.now in
    let others = c.args.others.now in
    let place : ℕ = length others - 1 - c.loop-i.i in
    let is_met : ℕ → Type 0 = λ q. Contains (met w.setting.now c.args.at w.part) q in
    All-cons is_met (get_or others place 0) [] (c.requires.others place 0 (omega (arith, c.loop-i-test.true))) (All-nil is_met)

pub loop-i-preserved : goal.loop-i-preserved
loop-i-preserved c =
    let w = c.args.worker.now in
    let others = c.args.others.now in
    let items = c.loop-i.pieces.items in
    let piece = c.in_ok-piece.piece in
    let first = c.args.counts.now in
    record {
      out = subst (AreOut w.setting.now w.number w.part (drop (length others - (c.loop-i.i + 1)) others)) (sym c.in_ok-push.ensures.items)
          (one_prepared w.setting.now w.number w.part others c.loop-i.i (get_or others (length others - 1 - c.loop-i.i) 0) items piece c.loop-i-test.true refl c.in_ok-piece.ensures.right c.in_ok-piece.ensures.goes_on c.loop-i.invariant.out);
      sums = c.in_ok-add.ensures ∙ ap (λ n. counted w.next n piece) c.loop-i.invariant.sums ∙ sym (fold-append (counted w.next) first items (piece ∷ [])) ∙ ap (fold (counted w.next) first) (sym c.in_ok-push.ensures.items);
    }

pub returns-clause-out : goal.returns-clause-out
returns-clause-out c =
    let w = c.args.worker.now in
    let others = c.args.others.now in
    let all : length others - c.loop-i.i ≡ 0 = omega (arith, c.loop-i-test.false) in
    subst (λ n. AreOut w.setting.now w.number w.part (drop n others) c.loop-i.pieces.items) all c.loop-i.invariant.out

pub returns-clause-counts : goal.returns-clause-counts
returns-clause-counts c = c.loop-i.invariant.sums
