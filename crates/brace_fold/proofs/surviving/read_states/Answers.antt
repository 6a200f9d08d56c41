use Rattle.std.proofs.Common.{◌≡◌, ◌∙◌, refl, sym, ap, arith, rules, to_z, of_z, w64, length, map, ◌++◌, ◌∷◌, [], ℤ, List, Some, slice_get}
use Rattle.std.specs.Prelude.{option_map}
use Rattle.std.specs.List.{range_with_len}
use Rattle.std.proofs.lemmas.Int.{to_z-of_z}
use Rattle.std.proofs.lemmas.List.{length-map}
use Rattle.std.proofs.lemmas.Option.{slice_get-map, slice_get_read}
use Rattle.brace_model.specs.declared.program.State.{State}
use Rattle.brace_model.specs.declared.program.Ty.{Ty}
use Rattle.brace_model.specs.Value.{typed}
use Rattle.brace_fold.specs.Rows.{value_in, words_of}
use Rattle.brace_fold.proofs.Survivings.{states-more}
use denote.Ref.{Bor}
use Rattle.brace_fold.proofs.surviving.read_states.Goals as goal

pub loop-i-preserved : goal.loop-i-preserved
loop-i-preserved c =
    let columns = c.args.columns.now in
    let i = c.loop-i.i in
    let states : List State = c.as_slice-states.result.now in
    let state = c.in-Some.state.now in
    let column = c.in-Some-get.column.now in
    let there : slice_get states i ≡ Some state =
    slice_get_read states _ i state refl c.in-Some.ensures.lookup.3.0 c.in-Some.ensures.lookup.1 in
    let types = map (λ (s : State). s.ty) c.args.own.now.states in
    let has : slice_get types i ≡ Some state.ty =
    slice_get-map (λ (s : State). s.ty) c.args.own.now.states i
    ∙ ap (λ (l : List State). option_map (λ (s : State). s.ty) (slice_get l i))
    (sym c.as_slice-states.ensures)
    ∙ ap (option_map (λ (s : State). s.ty)) there in
    let shown : slice_get columns.states.now i ≡ Some column =
    slice_get_read columns.states.now _ i column refl c.in-Some-get.ensures.lookup.3.0
    c.in-Some-get.ensures.lookup.1 in
    let words : slice_get (words_of columns) i ≡ Some column.now =
    slice_get-map (λ (v : Bor (List ℤ)). v.now) columns.states.now i
    ∙ ap (option_map (λ (v : Bor (List ℤ)). v.now)) shown in
    let plain : to_z w64 (of_z w64 c.in_ok-word.word) ≡ c.in_ok-word.word =
    search (rules, to_z-of_z) in
    states-more types (words_of columns) c.args.row i state.ty column.now c.in_ok-word.word _ _ has
    words c.in_ok-word.ensures
    c.loop-i.invariant (c.in_ok-push.ensures.items ∙ ap (λ v. c.loop-i.values.items ++ v ∷ [])
    (c.typed.ensures ∙ ap (typed state.ty) plain))

pub returns : goal.returns
returns c =
    let columns = c.args.columns.now in
    let states : List State = c.as_slice-states.result.now in
    let types : List Ty = map (λ (s : State). s.ty) c.args.own.now.states in
    let end : c.loop-i.i ≡ length states = omega (
      arith,
      c.loop-i-test.false,
      c.loop-i.auto.i-end,
    ) in
    let many : c.loop-i.i ≡ length types =
    end ∙ ap length c.as_slice-states.ensures ∙ sym (length-map c.args.own.now.states
    (λ (s : State). s.ty)) in
    c.loop-i.invariant ∙ ap (λ n. map (value_in types (words_of columns) c.args.row)
    (range_with_len 0 n)) many
