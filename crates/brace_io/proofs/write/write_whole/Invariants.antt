use Rattle.std.proofs.Common.{◌≡◌, ◌<◌, ◌≤◌, ◌-◌, length, take, false}
use Rattle.brace_io.specs.Sinks.{Gains}
use Rattle.brace_io.proofs.write.write_whole.Given as goal

abbrev pub invariant-loop-done : goal.invariant-loop-done
invariant-loop-done g l = record {
  within : l.done ≤ length l.piece;
  so_far : Gains (g.O.Sink.written l.initial.out) (g.O.Sink.written l.out) (take l.done l.piece);
  unclean : 0 < l.done → g.O.Sink.clean l.out ≡ false;
  same : l.done ≡ 0 → l.out ≡ l.initial.out;
  faults : g.O.Sink.faults l.initial.out ≤ g.O.Sink.faults l.out;
}

abbrev pub decreases-loop-done : goal.decreases-loop-done
decreases-loop-done g l = length l.piece - l.done
