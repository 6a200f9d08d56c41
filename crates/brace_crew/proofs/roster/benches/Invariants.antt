use Rattle.std.proofs.Common.{◌≡◌, ◌≤◌, ◌++◌, length, map}
use Rattle.std.specs.List.{All}
use Rattle.std.specs.Vec.{vec_capacity}
use Rattle.std.specs.Vec.Iter.{into_iter_items, into_iter_len}
use Rattle.brace_crew.specs.inner.Crews.{AreNew}
use Rattle.brace_crew.specs.inner.Teams.{HasCome}
use Rattle.brace_crew.proofs.roster.benches.Given as goal

abbrev pub invariant-loop-seat : goal.invariant-loop-seat
invariant-loop-seat g l = record {
  seats_left : l.yielded ++ into_iter_items l.seat-iterator ≡ l.fn.seats.items;
  many_seats : into_iter_len l.seat-iterator ≡ length (into_iter_items l.seat-iterator);
  lists_left : map (λ b. b.members) l.all.items ++ map (λ v. v.items) (into_iter_items l.rosters) ≡ map (λ v. v.items) (into_iter_items l.initial.rosters);
  many_lists : into_iter_len l.rosters ≡ length (into_iter_items l.rosters);
  new : All (λ v. AreNew v.items) (into_iter_items l.rosters);
  seats_so_far : map (λ b. b.seat) l.all.items ≡ map (λ x. x.view) l.yielded;
  lanes_so_far : All (λ b. b.lanes ≡ l.fn.lanes) l.all.items;
  start : All (HasCome 0) l.all.items;
  room : l.fn.workers ≤ vec_capacity l.all;
}
