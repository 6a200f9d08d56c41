use Rattle.std.proofs.Common.{rules, get_or}
use Rattle.std.proofs.lemmas.List.Sorted.{IsNonDecreasingBy-from_sort_by_key}
use Rattle.brace_herd.proofs.near.rows_by_id.Goals as goal

pub returns : goal.returns
returns c = record {
  same = c.in_ok-sort_by_key.ensures.permutation;
  in_order = IsNonDecreasingBy-from_sort_by_key
      (λ row. get_or c.args.ids.now row 0) c.sort_by_key.new.self.items
      c.in_ok-sort_by_key.ensures.sorted (λ a r q k. search rules);
}
