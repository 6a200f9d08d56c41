use Rattle.std.proofs.Common.{◌≡◌, ◌≤◌, length, take}
use Rattle.brace_pieces.specs.Given.{lived}
use Rattle.brace_pieces.proofs.counts.count_lived.Given as goal

abbrev pub invariant-loop-place : goal.invariant-loop-place
invariant-loop-place l = record {
  counted : l.count ≡ length (lived l.next (take l.place l.agents));
  few : l.count ≤ l.place;
}
