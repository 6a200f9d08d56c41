use Rattle.std.proofs.Common.{◌≡◌, sym, refl, subst, List, Some, slice_get}
use Rattle.std.proofs.lemmas.Option.{slice_get_read}
use Rattle.brace_model.specs.declared.program.Program.{Program}
use Rattle.brace_plan.specs.declared.plans.Planned.{Planned}
use Rattle.brace_plan.specs.Planning.{IsPlanned}
use Rattle.brace_plan.proofs.ToldLemmas.{planned-of}
use Rattle.brace_plan.proofs.plans.Plans.told.Goals as goal

pub returns : goal.returns
returns c =
    let planned : Planned = c.in_ok-planned.planned.now in
    let queries : List Planned = c.self.inside.queries in
    let got : slice_get queries c.args.class ≡ Some planned =
    subst (λ (l : List Planned). slice_get l c.args.class ≡ Some planned) c.as_slice.ensures
    (slice_get_read c.as_slice.result.now _ c.args.class planned refl c.in_ok-planned.ensures.lookup.3.0 c.in_ok-planned.ensures.lookup.1) in
    subst (λ (p : Program). IsPlanned p c.args.class planned.actions planned.constants) c.self.view_is
    (planned-of c.self.inside.program queries c.self.invariant.1 c.args.class planned got)
