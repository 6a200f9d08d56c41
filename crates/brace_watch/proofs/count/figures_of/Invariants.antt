use Rattle.std.proofs.Common.{◌≡◌, map, take}
use Rattle.brace_comb.specs.Totals.{tally}
use Rattle.brace_watch.specs.Figures.{figure}
use Rattle.brace_watch.proofs.count.figures_of.Given as goal

abbrev pub invariant-loop-rows : goal.invariant-loop-rows
invariant-loop-rows l = record {
  kept : l.boxes ≡ l.initial.boxes;
  found : map tally l.totals.items ≡ map (figure l.watch) (take l.rows-index l.initial.boxes);
}
