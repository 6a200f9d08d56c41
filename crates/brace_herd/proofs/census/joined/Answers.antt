use Rattle.std.proofs.Common.{rules, ◌∙◌, ◌++◌, ◌∷◌, sym, ap, subst, flat_map, arith}
use Rattle.std.specs.List.Sorted.{IsPermutation, IsNonDecreasingBy}
use Rattle.std.proofs.lemmas.List.Sorted.{IsNonDecreasingBy-from_sort_by_key}
use Rattle.brace_model.specs.declared.world.Parent.{Parent}
use Rattle.brace_pieces.specs.Exchanged.{counts_brought}
use Rattle.brace_herd.proofs.CensusJoins.{parents_in, sum_more, parents_more, sum_is_all}
use Rattle.brace_herd.proofs.census.joined.Goals as goal

pub loop-piece-preserved-in-Some-census_in : goal.loop-piece-preserved-in-Some-census_in
loop-piece-preserved-in-Some-census_in c =
    let old = c.loop-piece.taken.items in
    let rest = c.pop.new.self.items in
    let got = c.in-Some-census_in.census in
    let is = c.in-Some.ensures.items in
    let brings = c.in-Some-census_in.ensures.some in
    let invariant = c.loop-piece.invariant in
    let lives = sum_more old rest c.in-Some.piece got is brings (λ c. c.living) in
    let values = sum_more old rest c.in-Some.piece got is brings (λ c. c.values) in
    let start = flat_map (λ c. c.parents) (c.args.own ∷ flat_map counts_brought c.args.taken.now.items) in
    record {
      living = omega (arith, invariant.living, lives, c.in_ok-living.ensures);
      values = omega (arith, invariant.values, values, c.in_ok-values.ensures);
      parents = subst (λ ps. IsPermutation start (ps ++ parents_in rest)) (sym (c.in_ok-append.ensures.items ∙ ap (λ ps. c.loop-piece.parents.items ++ ps) c.into_vec.ensures))
          (parents_more old rest c.in-Some.piece got is brings start c.loop-piece.parents.items invariant.parents);
      places = search rules;
    }

pub returns-clause-sum : goal.returns-clause-sum
returns-clause-sum c =
    let sorted = c.sort_by_key.new.self.items in
    sum_is_all (c.args.own ∷ flat_map counts_brought c.args.taken.now.items) c.loop-piece.taken.items (record { living = c.loop-piece.living; values = c.loop-piece.values; parents = c.from_vec.result }) c.loop-piece.parents.items
    (search rules) c.loop-piece.invariant.living c.loop-piece.invariant.values c.loop-piece.invariant.parents
    (subst (IsPermutation c.loop-piece.parents.items) (sym c.from_vec.ensures) c.in_ok-sort_by_key.ensures.permutation)
    (subst (IsNonDecreasingBy (λ (p : Parent). p.id)) (sym c.from_vec.ensures) (IsNonDecreasingBy-from_sort_by_key (λ (p : Parent). p.id) sorted c.in_ok-sort_by_key.ensures.sorted (λ a r q k. search rules)))
