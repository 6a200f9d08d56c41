use Rattle.std.proofs.Common.{◌∙◌, sym, ap, subst, arith, rules, leb, ◌==◌, ◌&&◌}
use Rattle.std.specs.List.{list_any}
use Rattle.std.proofs.lemmas.List.Sorted.{IsPartitionPoint-from_clause}
use Rattle.brace_cuts.specs.CutPlans.{IsInOrder}
use Rattle.brace_cuts.proofs.Orders.{lines_are_parted, some_line}
use Rattle.brace_pieces.proofs.WalkLemmas.{line_there, is_low}
use Rattle.brace_pieces.proofs.setting.Setting.is_recut.Goals as goal

pub overflow_sub-result : goal.overflow_sub-result
overflow_sub-result c =
    let lines = c.as_slice-lines.result.now in
    let tick = c.args.tick in
    let order : IsInOrder lines = subst IsInOrder (sym c.as_slice-lines.ensures) c.requires.in_order in
    let point = IsPartitionPoint-from_clause (λ line. leb line.tick tick) lines _ c.partition_point-behind.ensures.partitioned (lines_are_parted lines tick order.goes_on) (λ a r q k. search rules) in
    some_line lines tick c.partition_point-behind.result order (λ k d from below. point.1 k d from below)

pub returns-then-tick-self : goal.returns-then-tick-self
returns-then-tick-self c =
    let s = c.args.self.now in
    let lines = c.as_slice-lines.result.now in
    let tick = c.args.tick in
    let n = c.partition_point-behind.result in
    let order : IsInOrder lines = subst IsInOrder (sym c.as_slice-lines.ensures) c.requires.in_order in
    let point = IsPartitionPoint-from_clause (λ line. leb line.tick tick) lines _ c.partition_point-behind.ensures.partitioned (lines_are_parted lines tick order.goes_on) (λ a r q k. search rules) in
    let some = some_line lines tick n order (λ k d from below. point.1 k d from below) in
    line_there lines tick n c.index-lines-behind.result order some c.partition_point-behind.ensures.bound (λ k e below. point.0 k e (omega arith) below) (λ k e from below. point.1 k e from below)
    ∙ ap (λ l. list_any (λ line. line.tick == tick) l) c.as_slice-lines.ensures
    ∙ ap (λ v. v && list_any (λ line. line.tick == tick) s.cuts.lines) (sym (is_low s.job.first tick c.if-tick-self.true))
