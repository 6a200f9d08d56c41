use Rattle.std.proofs.Common.{rules}
use Rattle.std.specs.Ordering.{is_lt}
use Rattle.std.proofs.lemmas.List.Sorted.{IsPartitionPoint-from_clause}
use Rattle.brace_comb.specs.Entries.{by_place}
use Rattle.brace_comb.proofs.Walks.{partitioned, ranked_at}
use Rattle.brace_comb.proofs.merge.rank.Goals as goal

pub returns : goal.returns
returns c =
    let xs = c.args.entries.now in
    let e = c.args.entry.now in
    ranked_at e xs c.partition_point.result c.partition_point.ensures.bound
    (IsPartitionPoint-from_clause (λ k. is_lt (by_place k e)) xs _ c.partition_point.ensures.partitioned (partitioned e xs c.requires) (λ a r f q. search rules))
