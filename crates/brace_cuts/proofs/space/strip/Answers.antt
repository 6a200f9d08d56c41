use Rattle.std.proofs.Common.{arith, rules, int_le}
use Rattle.std.proofs.lemmas.List.Sorted.{IsPartitionPoint-from_clause}
use Rattle.brace_cuts.proofs.Strips.{count_is_place, cuts_are_parted}
use Rattle.brace_cuts.proofs.space.strip.Goals as goal

pub returns : goal.returns
returns c =
    let cuts = c.args.cuts.now in
    let v = c.args.v in
    let point = IsPartitionPoint-from_clause (λ z. int_le z v) cuts _ c.partition_point.ensures.partitioned (cuts_are_parted v cuts c.requires) (λ a r q k. search rules) in
    count_is_place (λ z. int_le z v) cuts c.partition_point.result c.partition_point.ensures.bound
    (λ k d h. point.0 k d (omega arith) h) (λ k d from below. point.1 k d from below)
