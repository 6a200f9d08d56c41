use Rattle.std.proofs.Common.{◌≡◌, ◌∙◌, [], length, refl, rules}
use Rattle.brace_num.proofs.Lists.{none_long}
use Rattle.brace_fold.proofs.RenewalLemmas.{rows-none, rows-on}
use Rattle.brace_fold.proofs.renewal.renew_all.Goals as goal

pub loop-left-init : goal.loop-left-init
loop-left-init c = record {
  wide = refl;
  leaves = λ end h. h;
}

pub loop-left-preserved : goal.loop-left-preserved
loop-left-preserved c =
    let group = c.in_ok-group.group in
    record {
      wide = c.in_ok-renew_some.ensures.wide ∙ c.loop-left.invariant.wide;
      leaves = λ end h.
          c.loop-left.invariant.leaves end
          (rows-on c.args.ground.now c.args.said.now c.args.columns.now group.rows.now
          group.rest.now c.loop-left.left.now c.loop-left.renewed c.renew_some.new.renewed end
          c.in_ok-group.ensures.rows c.in_ok-renew_some.ensures.leaves h);
    }

pub returns-clause-leaves : goal.returns-clause-leaves
returns-clause-leaves c =
    let left = c.loop-left.left.now in
    let empty : length left ≡ 0 = search rules in
    let none : left ≡ [] = none_long left empty in
    c.loop-left.invariant.leaves c.loop-left.renewed (rows-none c.args.ground.now
    c.args.said.now c.args.columns.now left c.loop-left.renewed none)

pub returns-clause-wide : goal.returns-clause-wide
returns-clause-wide c = c.loop-left.invariant.wide
