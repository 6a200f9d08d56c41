use Rattle.std.proofs.Common.{◌≡◌, ◌∙◌, ◌++◌, ◌∷◌, [], ap, ap₂, rules, sym, to_z, of_z, w64, ℕ, ℤ, List, get_or, map, take}
use Rattle.std.specs.Int.{w128}
use Rattle.std.proofs.lemmas.Int.{to_z-of_z}
use Rattle.std.proofs.lemmas.List.{get_or_default, map-append, take_all, take_more}
use Rattle.brace_model.specs.Total.{identity}
use Rattle.brace_fold.specs.Sums.{no_sum, total_in}
use Rattle.brace_fold.proofs.telling.total_column.Goals as goal

pub loop-row-preserved : goal.loop-row-preserved
loop-row-preserved c = record {
  so_far =
      let rows = c.args.rows.now in
      let sums = c.args.sums.now in
      let k = c.loop-row.row-index in
      let row = get_or rows k 0 in
      let tells : ℕ → ℤ = λ r. total_in (identity c.args.comb) (get_or sums r no_sum) in
      let held : to_z w64 (of_z w64 c.in_ok-none.none) ≡ c.in_ok-none.none =
      search (rules, to_z-of_z) in
      let wide : to_z w128 (of_z w128 c.identity.result) ≡ c.identity.result =
      search (rules, to_z-of_z) in
      let word : to_z w64 (of_z w64 c.total_in.result) ≡ c.total_in.result =
      search (rules, to_z-of_z) in
      let read : c.index-sums-row.result ≡ get_or sums row no_sum =
      c.index-sums-row.is
      ∙ get_or_default sums row c.index-sums-row.result no_sum (search rules) in
      c.push_reserved.ensures.items
      ∙ ap₂ (λ (l : List ℤ) v. l ++ v ∷ []) c.loop-row.invariant.so_far
      (word ∙ c.total_in.ensures
      ∙ ap₂ total_in (held ∙ c.in_ok-none.ensures ∙ wide ∙ c.identity.ensures)
      (c.sum-sum.ensures ∙ read))
      ∙ sym (ap (map tells) (take_more rows k 0 c.loop-row-test.true)
      ∙ map-append tells (take k rows) (row ∷ []));
  room = search rules;
}

pub returns-clause-words : goal.returns-clause-words
returns-clause-words c =
    c.from_vec.ensures ∙ c.loop-row.invariant.so_far
    ∙ ap (map (λ r. total_in (identity c.args.comb) (get_or c.args.sums.now r no_sum)))
    (take_all c.loop-row.row-index c.args.rows.now c.loop-row-test.false)
