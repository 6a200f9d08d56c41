use Rattle.std.proofs.Common.{◌≡◌, ◌∙◌, refl, sym, ap, ◌<◌, length, Some, rules, tests, arith}
use Rattle.std.specs.Prelude.{slice_get}
use Rattle.std.specs.List.{list_all}
use Rattle.std.proofs.lemmas.Iterator.{YieldsList-from_slice}
use Rattle.std.proofs.lemmas.Iterator.Search.{all_from_yields_List}
use Rattle.std.proofs.lemmas.Option.{slice_get_read}
use Rattle.brace_model.specs.declared.program.Ty.TheVariants as ty
use Rattle.brace_model.specs.declared.program.State.{State}
use Rattle.brace_model.specs.Typing.{same_type}
use Rattle.brace_command.proofs.FourFixed.{first_is_fixed}
use Rattle.brace_command.proofs.trial.has_four_fixed.Goals as goal

pub returns-then-states-eq4 : goal.returns-then-states-eq4
returns-then-states-eq4 c =
    let classes = c.as_slice.result.now in
    let class = c.class-item.result in
    let states = c.as_slice-states.result.now in
    let tested : c.all.result ≡ list_all (λ (s : State). same_type s.ty ty.Fixed) states =
    all_from_yields_List (λ (s : State). same_type s.ty ty.Fixed) _ _ c.all.result c.all.ensures.ran (YieldsList-from_slice states cc) (λ x b q k. search (rules, tests)) in
    let some : 0 < length classes = omega (arith, c.in-len1-up.len_at_least) in
    let first : slice_get classes 0 ≡ Some class = slice_get_read classes (length classes) 0 class refl some c.class-item.is in
    tested
    ∙ first_is_fixed c.args.program.now.classes class states (sym (ap (λ l. slice_get l 0) c.as_slice.ensures) ∙ first) c.as_slice-states.ensures c.if-states-eq4.true
