use Rattle.std.proofs.Common.{[], take}
use Rattle.brace_code.specs.Columns.{Leads}
use Rattle.brace_code.specs.inner.Runs.{run}
use Rattle.brace_code.proofs.running.+running_lanes.Given as goal

abbrev pub invariant-run_lanes-loop-instr : goal.invariant-run_lanes-loop-instr
invariant-run_lanes-loop-instr l = Leads (run (take l.instr-index l.instr-items)) l.room l.frame l.lanes [] l.stack
