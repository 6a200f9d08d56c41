use Rattle.std.proofs.Common.{◌≡◌, sym, refl, subst, List, Some, slice_get}
use Rattle.std.proofs.lemmas.Option.{slice_get_read}
use Rattle.brace_model.specs.declared.program.Program.{Program}
use Rattle.brace_model.specs.declared.program.Class.{Class}
use Rattle.brace_plan.specs.declared.rules.Rules.{Rules}
use Rattle.brace_plan.specs.Leaving.{IsRuled}
use Rattle.brace_plan.proofs.ToldLemmas.{ruled-of}
use Rattle.brace_plan.proofs.plans.Plans.ruled.Goals as goal

pub returns : goal.returns
returns c =
    let class : Class = c.in_ok-class.class.now in
    let rules : Rules = c.in_ok-rules.rules.now in
    let program : Program = c.self.inside.program in
    let all : List Rules = c.self.inside.rules in
    let has : slice_get program.classes c.args.class ≡ Some class =
    subst (λ (l : List Class). slice_get l c.args.class ≡ Some class) c.as_slice.ensures
    (slice_get_read c.as_slice.result.now _ c.args.class class refl c.in_ok-class.ensures.lookup.3.0 c.in_ok-class.ensures.lookup.1) in
    let got : slice_get all c.args.class ≡ Some rules =
    subst (λ (l : List Rules). slice_get l c.args.class ≡ Some rules) c.as_slice-2.ensures
    (slice_get_read c.as_slice-2.result.now _ c.args.class rules refl c.in_ok-rules.ensures.lookup.3.0 c.in_ok-rules.ensures.lookup.1) in
    subst (λ (p : Program). IsRuled p c.args.class class rules) c.self.view_is
    (ruled-of program all c.self.invariant.0 c.self.invariant.3 c.args.class class rules has got)
