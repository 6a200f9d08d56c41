use Rattle.std.proofs.Common.{sym, subst}
use Rattle.std.specs.List.{All}
use Rattle.brace_crew.specs.inner.Teams.{AreLater, StaysWithin}
use Rattle.brace_crew.proofs.TeamLemmas.{later_further, still_within}
use Rattle.brace_crew.proofs.team.drive_to.Goals as goal
use Rattle.brace_crew.proofs.team.drive_to.Goals.{else-can_fork-via-then-can_fork+else-drive_each, else-can_fork-via-else-can_fork}

pub loop-preserved : goal.loop-preserved
loop-preserved g c =
    let first = c.args.benches.now in
    let before = c.loop.benches in
    let so = c.loop.invariant in
    let e = c.drive_in_turn.ensures in
    let now : AreLater first c.else-can_fork.benches × All (StaysWithin c.args.steps) c.else-can_fork.benches =
    elim c.else-can_fork.branch [
      | else-can_fork-via-then-can_fork+else-drive_each w ↦
          let on = w.drive_each.ensures in
          subst (λ bs. AreLater first bs × All (StaysWithin c.args.steps) bs) (sym w.benches-is)
          (later_further first before w.drive_each.new.benches so.same on.same, still_within c.args.steps before w.drive_each.new.benches on.same on.within so.within)
      | else-can_fork-via-else-can_fork w ↦ subst (λ bs. AreLater first bs × All (StaysWithin c.args.steps) bs) (sym w.benches-is) (so.same, so.within)
    ] in
    record {
      same = later_further first c.else-can_fork.benches c.drive_in_turn.new.benches now.0 e.same;
      within = still_within c.args.steps c.else-can_fork.benches c.drive_in_turn.new.benches e.same e.within now.1;
    }

pub returns-then-are_complete-clause-come : goal.returns-then-are_complete-clause-come
returns-then-are_complete-clause-come g c = c.are_complete.ensures c.if-are_complete.true c.loop.invariant.within
