use Rattle.std.proofs.Common.{◌∙◌, refl, sym, ap, ◌+◌, drop, length, arith}
use Rattle.brace_pieces.specs.Steps.{steps}
use Rattle.brace_pieces.specs.Fronts.{OnFronts, to_show}
use Rattle.brace_pieces.proofs.FrontLemmas.{goes_nowhere}
use Rattle.brace_pieces.proofs.fronts.Fronts.next.Goals as goal

pub behind_show-step-requires : goal.behind_show-step-requires
behind_show-step-requires c = record { lawful = c.self.invariant.is_lawful; within = c.self.invariant.within_steps; stands = c.self.invariant.step_is_there }

pub invariant_of-self : goal.invariant_of-self
invariant_of-self c = record { is_lawful = c.self.invariant.is_lawful; within_steps = c.behind_show-step.ensures.within; step_is_there = c.behind_show-step.ensures.stands }

pub returns-then-before-number : goal.returns-then-before-number
returns-then-before-number c =
    let is = c.self.view_is in
    let shown = c.behind_show-step.ensures in
    record {
      place = shown.place ∙ ap (λ (f : OnFronts). f.number + to_show (drop f.number (steps f.setting))) is;
      same = ap (λ (f : OnFronts). f.setting) is;
      within = omega (arith, shown.within, ap (λ (f : OnFronts). length (steps f.setting)) is);
      on = (refl, omega (arith, c.if-before-number.true, ap (λ (f : OnFronts). f.number) is));
      over = tt;
    }

pub returns : goal.returns
returns c =
    let is = c.self.view_is in
    let shown = c.behind_show-step.ensures in
    let (still, all) = goes_nowhere (steps c.self.inside.setting.now) c.self.inside.number c.self.invariant.within_steps (omega (arith, c.if-before-number.false, shown.place)) in
    record {
      place = shown.place ∙ ap (λ (f : OnFronts). f.number + to_show (drop f.number (steps f.setting))) is;
      same = ap (λ (f : OnFronts). f.setting) is;
      within = omega (arith, shown.within, ap (λ (f : OnFronts). length (steps f.setting)) is);
      on = tt;
      over = (
        ap (λ n. record { setting = c.self.inside.setting.now; number = n }) (shown.place ∙ still) ∙ is,
        sym (ap (λ (f : OnFronts). f.number) is) ∙ all ∙ ap (λ (f : OnFronts). length (steps f.setting)) is,
      );
    }
