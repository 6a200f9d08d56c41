use Rattle.std.proofs.Common.{◌≡◌, ◌≤◌, take}
use Rattle.brace_command.specs.Places.{since_feed}
use Rattle.brace_command.proofs.places.since_feed.Given as goal

abbrev pub invariant-loop-byte : goal.invariant-loop-byte
invariant-loop-byte l = record {
  count : l.since ≡ since_feed (take l.byte-index l.text);
  bound : l.since ≤ l.byte-index;
}
