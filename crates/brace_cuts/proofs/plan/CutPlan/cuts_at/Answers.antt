use Rattle.std.proofs.Common.{◌≡◌, ◌-◌, ◌≤◌, ◌<◌, ℕ, true, false, sym, subst, arith, rules, length, get_or, leb}
use Rattle.brace_cuts.specs.declared.plan.CutLine.{CutLine}
use Rattle.std.proofs.lemmas.List.Sorted.{IsPartitionPoint-from_clause}
use Rattle.brace_cuts.specs.CutPlans.{IsInOrder}
use Rattle.brace_cuts.specs.Space.{cuts_at}
use Rattle.brace_cuts.proofs.Orders.{cuts_of_last, lines_are_parted, some_line}
use Rattle.brace_cuts.proofs.plan.CutPlan.cuts_at.Goals as goal

pub overflow_sub-result : goal.overflow_sub-result
overflow_sub-result c =
    let lines = c.as_slice-lines.result.now in
    let tick = c.args.tick in
    let order : IsInOrder lines = subst IsInOrder (sym c.as_slice-lines.ensures) c.requires in
    let point = IsPartitionPoint-from_clause (λ line. leb line.tick tick) lines _ c.partition_point-behind.ensures.partitioned (lines_are_parted lines tick order.goes_on) (λ a r q k. search rules) in
    some_line lines tick c.partition_point-behind.result order (λ k d from below. point.1 k d from below)

pub returns : goal.returns
returns c =
    let plan = c.args.self.now in
    let lines = plan.lines in
    let tick = c.args.tick in
    let n = c.partition_point-behind.result in
    let d = c.index-lines-behind.result in
    let same : c.as_slice-lines.result.now ≡ lines = c.as_slice-lines.ensures in
    let order : IsInOrder c.as_slice-lines.result.now = subst IsInOrder (sym same) c.requires in
    let point = IsPartitionPoint-from_clause (λ line. leb line.tick tick) c.as_slice-lines.result.now _ c.partition_point-behind.ensures.partitioned (lines_are_parted c.as_slice-lines.result.now tick order.goes_on) (λ a r q k. search rules) in
    let some = some_line c.as_slice-lines.result.now tick n order (λ k e from below. point.1 k e from below) in
    let short : n ≤ length lines = subst (λ l. n ≤ length l) same c.partition_point-behind.ensures.bound in
    let parted = subst (λ l. ((k : ℕ) (e : CutLine) → 0 ≤ k → k < n → leb (get_or l k e).tick tick ≡ true) × ((k : ℕ) (e : CutLine) → n ≤ k → k < length l → leb (get_or l k e).tick tick ≡ false)) same point in
    subst (λ l. (get_or l (n - 1) d).cuts ≡ cuts_at plan tick) (sym same)
    (cuts_of_last plan tick n (n - 1) d (omega (arith, some)) short (λ k e below. parted.0 k e (omega arith) below) (λ k e from below. parted.1 k e from below))
