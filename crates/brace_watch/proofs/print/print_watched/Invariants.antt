use Rattle.std.proofs.Common.{◌≡◌, flat_map, take}
use Rattle.std.specs.List.{enumerate_from}
use Rattle.brace_watch.specs.Texts.{watch_text}
use Rattle.brace_watch.specs.inner.Columns.{all_owned}
use Rattle.brace_watch.proofs.print.print_watched.Given as goal

abbrev pub invariant-loop-place : goal.invariant-loop-place
invariant-loop-place l = record {
  owned : l.boxes.items ≡ all_owned l.program l.cuts l.agents;
  told : l.lines.items ≡ flat_map (watch_text l.program l.cuts l.tick l.agents) (take l.place (enumerate_from 0 l.watches));
}
