use Rattle.std.proofs.Common.{rules, ◌≡◌, ◌∙◌, refl, sym, true, false, Some, slice_get, arith}
use Rattle.brace_pieces.specs.Steps.{steps, is_show}
use Rattle.brace_pieces.proofs.WalkLemmas.{steps_short}
use Rattle.brace_pieces.proofs.CourseLemmas.{there_within}
use Rattle.brace_pieces.proofs.FrontLemmas.{shows_there, shows_on, shows_none}
use Rattle.brace_pieces.proofs.fronts.behind_show.Goals as goal

pub loop-next-init : goal.loop-next-init
loop-next-init c = record { stands = c.requires.stands; within = c.requires.within; place = refl }

pub overflow_add-count : goal.overflow_add-count
overflow_add-count c =
    let s = c.args.setting.now in
    let last = c.requires.lawful.job_is_lawful.last_in_range in
    omega (arith, c.loop-next.invariant.within, steps_short s, last)

pub loop-next-smaller : goal.loop-next-smaller
loop-next-smaller c =
    let s = c.args.setting.now in
    let there : slice_get (steps s) c.loop-next.count ≡ Some c.in-Some.at = sym c.loop-next.invariant.stands ∙ c.in-Some.is in
    omega (arith, there_within (steps s) c.loop-next.count c.in-Some.at there)

pub loop-next-preserved : goal.loop-next-preserved
loop-next-preserved c =
    let s = c.args.setting.now in
    let so = c.loop-next.invariant in
    let there : slice_get (steps s) c.loop-next.count ≡ Some c.in-Some.at = sym so.stands ∙ c.in-Some.is in
    let other : is_show c.in-Some.at.stage ≡ false = search rules in
    record {
      stands = c.step_after-next.ensures.next c.loop-next.count there;
      within = there_within (steps s) c.loop-next.count c.in-Some.at there;
      place = shows_on (steps s) c.loop-next.count c.in-Some.at there other ∙ so.place;
    }

pub returns-then-eq : goal.returns-then-eq
returns-then-eq c =
    let s = c.args.setting.now in
    let so = c.loop-next.invariant in
    let there : slice_get (steps s) c.loop-next.count ≡ Some c.in-Some.at = sym so.stands ∙ c.in-Some.is in
    let shows : is_show c.in-Some.at.stage ≡ true = search rules in
    record {
      place = (let one = shows_there (steps s) c.loop-next.count c.in-Some.at there shows in omega (arith, one, so.place));
      within = there_within (steps s) c.loop-next.count c.in-Some.at there;
      stands = c.step_after-next.ensures.next c.loop-next.count there;
    }

pub returns : goal.returns
returns c =
    let s = c.args.setting.now in
    let so = c.loop-next.invariant in
    let (none, over) = shows_none (steps s) c.loop-next.count (sym so.stands ∙ c.in_default.is) in
    record { place = omega (arith, none, so.place); within = so.within; stands = so.stands }
