use Rattle.std.proofs.Common.{◌∙◌, ◌-◌, length, drop, sym, arith, rules, length-drop, int_le}
use Rattle.std.specs.Prelude.{int_lt}
use Rattle.std.proofs.lemmas.List.{take_all}
use Rattle.std.proofs.lemmas.List.Sorted.{IsPartitionPoint-from_clause}
use Rattle.brace_balance.proofs.Counts.{lt_not, not_lt}
use Rattle.brace_balance.proofs.Ordered.{filter_is_back, lower_come_first}
use Rattle.brace_balance.proofs.fill.not_below.Goals as goal

pub returns : goal.returns
returns c =
    let xs = c.args.xs.now in
    let cut = c.args.cut in
    let start = c.partition_point-start.result in
    let point = IsPartitionPoint-from_clause (λ v. int_lt v cut) xs _ c.partition_point-start.ensures.partitioned (lower_come_first cut xs c.requires) (λ a r q k. search rules) in
    take_all (length xs - start) (drop start xs) (omega (arith, length-drop start xs))
    ∙ sym (filter_is_back (λ v. int_le cut v) xs start c.partition_point-start.ensures.bound
    (λ k d h. lt_not _ cut (point.0 k d (omega arith) h)) (λ k d from below. not_lt _ cut (point.1 k d from below)))
