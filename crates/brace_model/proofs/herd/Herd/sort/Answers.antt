use Rattle.std.proofs.Common.{◌≡◌, rules, arith, map, subst}
use Rattle.std.specs.List.Sorted.{IsPermutation}
use Rattle.std.proofs.lemmas.List.Sorted.{All-permutation, IsPermutation-map, IsNonDecreasingBy-from_sort_by_key}
use Rattle.brace_model.specs.declared.heads.Head.{Head}
use Rattle.brace_model.specs.inner.Packed.{agent_of, agents_of, IsWithin}
use Rattle.brace_model.proofs.HeadLemmas.{rises-packed}
use Rattle.brace_model.proofs.herd.Herd.sort.Goals as goal

pub invariant_of-self : goal.invariant_of-self
invariant_of-self c =
    let herd = c.self.inside in
    All-permutation (IsWithin herd.blocks.items) herd.heads.items
    c.sort_unstable_by_key.new.self.items c.sort_unstable_by_key.ensures.permutation
    c.self.invariant

pub returns-clause-same : goal.returns-clause-same
returns-clause-same c =
    let herd = c.self.inside in
    let after = agents_of herd.blocks.items c.sort_unstable_by_key.new.self.items in
    subst (λ l. IsPermutation l after) c.self.view_is
    (IsPermutation-map (agent_of herd.blocks.items) herd.heads.items
    c.sort_unstable_by_key.new.self.items c.sort_unstable_by_key.ensures.permutation)

pub returns-clause-in_order : goal.returns-clause-in_order
returns-clause-in_order c =
    let herd = c.self.inside in
    rises-packed herd.blocks.items c.sort_unstable_by_key.new.self.items
    (IsNonDecreasingBy-from_sort_by_key (λ (h : Head). h.id)
    c.sort_unstable_by_key.new.self.items c.sort_unstable_by_key.ensures.sorted
    (λ a r q k. search rules))
