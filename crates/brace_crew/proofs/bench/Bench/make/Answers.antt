use Rattle.brace_crew.proofs.BenchRounds.{counted_first}
use Rattle.brace_crew.proofs.FrontEnds.{come_first}
use Rattle.brace_crew.proofs.bench.Bench.make.Goals as goal

pub invariant_of-result : goal.invariant_of-result
invariant_of-result g c = record {
  at_lanes = c.requires.at_lanes;
  number_is = c.requires.number_is;
  members_counted = counted_first c.args.end.seat.view c.args.members.items c.requires.served c.requires.unused;
}

pub returns-clause-start : goal.returns-clause-start
returns-clause-start g c = come_first (record { number = c.args.number; members = c.args.members.items; lanes = c.args.end.seat.lanes; seat = c.args.end.seat.view }) c.requires.served.first_turns c.requires.unused
