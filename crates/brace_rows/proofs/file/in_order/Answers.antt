use Rattle.std.proofs.Common.{◌≡◌, ◌∙◌, ap, sym, subst, rules}
use Rattle.std.specs.Prelude.{nat_le}
use Rattle.std.proofs.lemmas.List.Sorted.{IsNonDecreasingBy-from_sort_by_key}
use Rattle.brace_num.proofs.Orders.{by_key_sorted, distinct_moved, sorted_rises}
use Rattle.brace_model.specs.declared.world.Agent.{Agent}
use Rattle.brace_model.specs.Step.{greatest_id}
use Rattle.brace_model.specs.World.{IsNumbered, world_of}
use Rattle.brace_rows.proofs.LawfulAgent.{all_in_order}
use Rattle.brace_rows.proofs.Order.{rising_are_numbered}
use Rattle.brace_rows.proofs.file.in_order.Goals as goal

pub unreachable-requires : goal.unreachable-requires
unreachable-requires c =
    let old = c.args.agents.items in
    let new = c.sort_by_key.new.self.items in
    let moves = c.in_ok-sort_by_key.ensures.permutation in
    let up = IsNonDecreasingBy-from_sort_by_key (λ (a : Agent). a.id) new c.in_ok-sort_by_key.ensures.sorted (λ a r q k. search rules) in
    let low = all_in_order (λ (a : Agent). nat_le a.id greatest_id) old new moves c.requires.in_range in
    let packed : c.in_ok-herd.herd ≡ new = c.in_ok-herd.ensures ∙ c.as_slice.ensures.value in
    c.in-None.ensures.none (subst (λ l. IsNumbered (world_of l)) (sym packed) (rising_are_numbered new (sorted_rises (λ (a : Agent). a.id) new (distinct_moved (λ (a : Agent). a.id) old new moves c.requires.differ) up) low))

pub returns-clause-world : goal.returns-clause-world
returns-clause-world c =
    let old = c.args.agents.items in
    let new = c.sort_by_key.new.self.items in
    let moves = c.in_ok-sort_by_key.ensures.permutation in
    let up = IsNonDecreasingBy-from_sort_by_key (λ (a : Agent). a.id) new c.in_ok-sort_by_key.ensures.sorted (λ a r q k. search rules) in
    let packed : c.in_ok-herd.herd ≡ new = c.in_ok-herd.ensures ∙ c.as_slice.ensures.value in
    c.in-Some.ensures.world ∙ ap world_of packed ∙ ap world_of (sym (by_key_sorted (λ (a : Agent). a.id) old new c.requires.differ moves up))
