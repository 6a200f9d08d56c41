use Rattle.std.proofs.Common.{◌≡◌, ◌∙◌, ◌+◌, ◌++◌, ◌∷◌, [], refl, sym, ap, ap₂, arith, rules, to_z, of_z, w64, ℤ, pos, List, Some, get_or, slice_get}
use Rattle.std.proofs.lemmas.Int.{to_z-of_z}
use Rattle.std.proofs.lemmas.List.FromFn.{map-range_with_len_more}
use Rattle.std.proofs.lemmas.Option.{slice_get_read, get_or_from_slice_get}
use Rattle.brace_herd.specs.inner.Packing.{word_at}
use Rattle.brace_herd.proofs.packing.read_words.Goals as goal

pub loop-i-preserved : goal.loop-i-preserved
loop-i-preserved c =
    let states : List (List ℤ) = c.args.states.now in
    let row = c.args.row in
    let i = c.loop-i.i in
    let column : List ℤ = c.in-Some.column.now in
    let there : slice_get states i ≡ Some column =
    slice_get_read states _ i column refl c.in-Some.ensures.lookup.3.0
    c.in-Some.ensures.lookup.1 in
    let got : get_or states i [] ≡ column = get_or_from_slice_get states i column [] there in
    let plain : to_z w64 (of_z w64 c.item_or.result) ≡ c.item_or.result =
    search (rules, to_z-of_z) in
    let word : to_z w64 (of_z w64 c.item_or.result) ≡ word_at states row i =
    plain ∙ c.item_or.ensures ∙ ap (λ (l : List ℤ). get_or l row (pos 0))
    (c.as_slice.ensures ∙ sym got) in
    let on : 0 + i ≡ i = omega arith in
    c.in_ok-push.ensures.items
    ∙ ap₂ (λ (l : List ℤ) (w : ℤ). l ++ w ∷ []) c.loop-i.invariant word
    ∙ sym (map-range_with_len_more (word_at states row) 0 i i on)
