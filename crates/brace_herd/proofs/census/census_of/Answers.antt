use Rattle.std.proofs.Common.{◌≡◌, ◌∙◌, ap, ap₂, ℕ, List, length, map, arith, rules}
use Rattle.std.proofs.lemmas.List.{length-map, take_all}
use Rattle.brace_model.specs.declared.world.Agent.{Agent}
use Rattle.brace_model.specs.declared.world.Census.{Census}
use Rattle.brace_model.specs.declared.world.Parent.{Parent}
use Rattle.std.proofs.lemmas.List.Sorted.{length_permutation, sum_by-IsPermutation}
use Rattle.brace_model.specs.Step.{count_values}
use Rattle.brace_fold.proofs.RowLemmas.{lawful_moved}
use Rattle.brace_pieces.proofs.CensusRows.{count_in, counted_rows}
use Rattle.brace_herd.proofs.census.census_of.Goals as goal

pub returns : goal.returns
returns c agents stored lawful =
    let those = stored.those in
    let moved = stored.listed.moved in
    let left = c.args.left.now in
    let program = c.args.program.now in
    let parent : Agent → Parent = λ a. record { id = a.id; class = a.class } in
    let all_born = take_all c.loop-child.child-index c.args.born.now c.loop-child-test.false in
    let born : c.from_vec.result ≡ map parent c.args.born.now =
    c.from_vec.ensures ∙ c.loop-child.invariant ∙ ap (map parent) all_born in
    let living : c.len.result ≡ length agents =
    search (
      rules,
      ap length moved.classes ∙ length-map those (λ (a : Agent). a.class)
          ∙ length_permutation agents those stored.same,
    ) in
    let seen = ap length c.as_slice-class-items.ensures.value in
    let all = c.loop-class.invariant
    ∙ ap (count_in program) (take_all c.loop-class.class-index left.classes.items
    (omega (arith, c.loop-class-test.false, seen))) in
    let values : c.loop-class.values ≡ count_values agents =
    all ∙ ap (count_in program) moved.classes
    ∙ counted_rows program those (lawful_moved program agents those stored.same lawful)
    ∙ sum_by-IsPermutation (λ (a : Agent). length a.states) agents those stored.same in
    made living values born
  where
    census : ℕ → ℕ → List Parent → Census
    census living values parents = record { living = living; values = values; parents = parents }

    made : {l k v u : ℕ} {ps qs : List Parent} → l ≡ k → v ≡ u → ps ≡ qs
        → census l v ps ≡ census k u qs
    made {l} {k} {v} {u} {ps} {qs} p q r = ap₂ (λ a b. census a b ps) p q ∙ ap (census k u) r
