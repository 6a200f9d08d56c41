use Rattle.std.proofs.Common.{◌≡◌, ◌∙◌, refl, sym, ap, subst, ℕ, ℤ, List, Some, slice_get, rules, to_z, of_z}
use Rattle.std.specs.Int.{w64, w128}
use Rattle.std.specs.Prelude.{FitsSigned, option_map}
use Rattle.std.proofs.lemmas.Int.{to_z-of_z}
use Rattle.std.proofs.lemmas.Option.{same_Some, slice_get-map, slice_get_read}
use Rattle.brace_model.specs.declared.program.Class.{Class}
use Rattle.brace_model.specs.declared.program.Effect.{Effect}
use Rattle.brace_model.specs.declared.world.Agent.{Agent}
use Rattle.brace_model.specs.World.{class_of}
use Rattle.brace_comb.specs.Totals.{tally}
use Rattle.brace_eval.specs.Heard.{AreTold, effects_in}
use Rattle.brace_herd.proofs.HoldLemmas.{told_hears}
use Rattle.brace_herd.proofs.joining.join_at.Goals as goal

pub returns : goal.returns
returns c all a told moved apart there tells =
    let entry = c.args.entry.now in
    let program = c.args.program.now in
    let row = c.args.row in
    let number = to_z w64 (of_z w64 c.in-Ok.number) in
    let count = c.in-Ok-try_from.count in
    let class : Class = c.in-Some-get.class.now in
    let e : Effect = c.in-Some-get-2.effect.now in
    let fits : FitsSigned w128 c.number.result = search rules in
    let plain : to_z w128 (of_z w128 c.number.result) ≡ c.number.result =
    to_z-of_z w128 c.number.result fits in
    let small : FitsSigned w64 c.in-Ok.number = search rules in
    let read_is : c.in-Ok.number ≡ (tally entry.total).number = search (rules, plain) in
    let number_is : number ≡ (tally entry.total).number =
    to_z-of_z w64 c.in-Ok.number small ∙ read_is in
    let count_is : count ≡ (tally entry.total).count = search rules in
    let named : slice_get c.deref.result.now row ≡ Some c.in-Some.number = c.in-Some.ensures.some in
    let its : c.in-Some.number ≡ a.class =
    same_Some _ _ (sym named
    ∙ ap (λ (l : List ℕ). slice_get l row) (c.deref.ensures.value ∙ moved.classes)
    ∙ slice_get-map (λ (b : Agent). b.class) all row
    ∙ ap (option_map (λ (b : Agent). b.class)) there) in
    let known : slice_get c.as_slice.result.now c.in-Some.number ≡ Some class =
    slice_get_read c.as_slice.result.now _ c.in-Some.number class refl
    c.in-Some-get.ensures.lookup.3.0 c.in-Some-get.ensures.lookup.1 in
    let has : class_of program a ≡ Some class =
    ap (slice_get program.classes) (sym its)
    ∙ ap (λ (l : List Class). slice_get l c.in-Some.number) (sym c.as_slice.ensures) ∙ known in
    let effects : c.as_slice-2.result.now ≡ effects_in (class_of program a) =
    c.as_slice-2.ensures ∙ sym (ap effects_in has) in
    let read : slice_get c.as_slice-2.result.now entry.field ≡ Some e =
    slice_get_read c.as_slice-2.result.now _ entry.field e refl
    c.in-Some-get-2.ensures.lookup.3.0 c.in-Some-get-2.ensures.lookup.1 in
    told_hears program all a e row entry.field count number told c.args.said.now c.join.new.self
    apart there
    (ap (λ (l : List Effect). slice_get l entry.field) (sym effects) ∙ read)
    (subst (λ (n : ℤ). AreTold program a entry.field n count told) (sym number_is)
    (subst (λ (k : ℕ). AreTold program a entry.field (tally entry.total).number k told)
    (sym count_is) tells))
    c.in_ok-join.ensures
