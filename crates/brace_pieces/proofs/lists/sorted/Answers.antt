use Rattle.std.proofs.Common.{◌+◌, subst, refl, rules, arith}
use Rattle.std.proofs.lemmas.List.Sorted.{IsNonDecreasingBy-from_all_adjacent, IsNonDecreasingBy-from_sort_by_key, IsPermutation-refl}
use Rattle.brace_model.specs.World.{RisesById}
use Rattle.brace_model.specs.declared.world.Agent.{Agent}
use Rattle.brace_model.proofs.WorldLemmas.{RisesById-pair}
use Rattle.brace_pieces.proofs.lists.sorted.Goals as goal

pub returns-then-rises : goal.returns-then-rises
returns-then-rises c =
    let agents = c.args.agents.items in
    let rises = subst RisesById c.as_slice.ensures.value c.if-rises.ensures in
    record {
      same = IsPermutation-refl agents;
      in_order = IsNonDecreasingBy-from_all_adjacent (λ (a : Agent). a.id) agents
          (λ k d lt. let up = RisesById-pair agents k (k + 1) d d refl lt rises in omega (arith, up));
    }

pub returns : goal.returns
returns c = record {
  same = c.in_ok-sort_by_key.ensures.permutation;
  in_order = IsNonDecreasingBy-from_sort_by_key
      (λ (a : Agent). a.id) c.sort_by_key.new.self.items c.in_ok-sort_by_key.ensures.sorted
      (λ a r q k. search rules);
}
