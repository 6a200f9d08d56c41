use Rattle.std.proofs.Common.{◌∙◌, ◌≤◌, ap, length, [], ◌∷◌, arith}
use Rattle.std.proofs.lemmas.List.{length-append}
use Rattle.brace_plan.proofs.FormerLemmas.{undone-last, undone-past, kept-last}
use Rattle.brace_plan.proofs.desk.set_back.Goals as goal

pub loop-trail-preserved-then-former-locals : goal.loop-trail-preserved-then-former-locals
loop-trail-preserved-then-former-locals c =
    let all = c.loop-trail.trail.items in
    let left = c.pop.new.self.items in
    let low : c.args.mark ≤ length left =
    omega (arith, c.loop-trail-test.true, c.len.ensures, ap length c.in-Some.ensures.items, length-append left (c.in-Some.former ∷ [])) in
    record {
      same = undone-last c.args.mark all left c.in-Some.former c.loop-trail.locals c.in-Some.ensures.items low ∙ c.loop-trail.invariant.same;
      kept = kept-last c.args.mark all left c.in-Some.former c.in-Some.ensures.items low ∙ c.loop-trail.invariant.kept;
    }

pub loop-trail-preserved : goal.loop-trail-preserved
loop-trail-preserved c =
    let all = c.loop-trail.trail.items in
    let left = c.pop.new.self.items in
    let low : c.args.mark ≤ length left =
    omega (arith, c.loop-trail-test.true, c.len.ensures, ap length c.in-Some.ensures.items, length-append left (c.in-Some.former ∷ [])) in
    record {
      same = undone-past c.args.mark all left c.in-Some.former c.loop-trail.locals c.in-Some.ensures.items low c.if-former-locals.false ∙ c.loop-trail.invariant.same;
      kept = kept-last c.args.mark all left c.in-Some.former c.in-Some.ensures.items low ∙ c.loop-trail.invariant.kept;
    }
