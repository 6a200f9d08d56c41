use Rattle.std.proofs.Common.{refl, sym, ap, subst, ◌+◌, length, map, arith, inl, inr}
use Rattle.std.specs.List.{All}
use Rattle.std.specs.Vec.Iter.{into_iter_items}
use Rattle.brace_crew.specs.Members.{IsLast}
use Rattle.brace_crew.specs.inner.Crews.{all_numbers}
use Rattle.brace_crew.specs.inner.Teams.{AreRosters, HasCome, IsTeam}
use Rattle.brace_crew.proofs.GatherLemmas.{many_lists, rosters_left, last_left, seats_left}
use Rattle.brace_crew.proofs.team.run_on.Goals as goal

pub drive_through-requires-clause-team : goal.drive_through-requires-clause-team
drive_through-requires-clause-team g c κs within =
    (c.args.publisher, (c.args.workers, subst (IsTeam c.args.setting.now c.args.publisher c.args.workers (all_numbers c.args.setting.now)) (sym c.deref_mut.ensures.value) c.in-Ok-benches.ensures.team))

pub drive_through-requires-clause-start : goal.drive_through-requires-clause-start
drive_through-requires-clause-start g c κs within = subst (All (HasCome 0)) (sym c.deref_mut.ensures.value) c.in-Ok-benches.ensures.start

pub take_in_turn-requires-clause-some_list : goal.take_in_turn-requires-clause-some_list
take_in_turn-requires-clause-some_list g c =
    let many = many_lists into_iter_items c.args.setting.now c.args.publisher c.args.workers c.in-Ok-benches.team.items c.deref_mut.result.now c.drive_through.new.benches _ _ c.unpack.new.lists.items c.in-Ok-benches.ensures.team
    c.deref_mut.ensures.value c.deref_mut.ensures.len c.drive_through.ensures.still c.unpack.ensures.lists in
    omega (arith, many, ap length c.deref_mut-2.ensures.value, c.requires.some_worker)

pub concluded-publisher-requires-clause-members : goal.concluded-publisher-requires-clause-members
concluded-publisher-requires-clause-members g c =
    let s = c.args.setting.now in
    let lists = c.unpack.new.lists.items in
    let rosters = rosters_left into_iter_items s c.args.publisher c.args.workers c.in-Ok-benches.team.items c.deref_mut.result.now c.drive_through.new.benches _ _ lists c.in-Ok-benches.ensures.team
    c.deref_mut.ensures.value c.deref_mut.ensures.len c.drive_through.ensures.still c.unpack.ensures.lists in (
      c.args.publisher,
      c.take_in_turn.ensures.members s c.args.publisher (ap (λ n. n + 1) c.parts.ensures)
          (subst (λ l. AreRosters s c.args.publisher (length l) (all_numbers s) (map into_iter_items l)) (sym c.deref_mut-2.ensures.value) rosters),
    )

pub concluded-publisher-requires-clause-ended : goal.concluded-publisher-requires-clause-ended
concluded-publisher-requires-clause-ended g c =
    let s = c.args.setting.now in
    let lists = c.unpack.new.lists.items in
    let (n, ended) = c.drive_through.ensures.ended in
    let before = ended.reached.before in
    let all = last_left into_iter_items s c.args.publisher c.args.workers c.in-Ok-benches.team.items c.deref_mut.result.now c.drive_through.new.benches _ _ lists c.in-Ok-benches.ensures.team
    c.deref_mut.ensures.value c.deref_mut.ensures.len c.drive_through.ensures.still c.unpack.ensures.lists before n ended.last in
    (n, record { reached = ended.reached; last = c.take_in_turn.ensures.last s before n (subst (All (λ l. All (IsLast s before n) (into_iter_items l))) (sym c.deref_mut-2.ensures.value) all) })

pub returns-clause-came : goal.returns-clause-came
returns-clause-came g c =
    let s = c.args.setting.now in
    let lists = c.unpack.new.lists.items in
    let rosters = rosters_left into_iter_items s c.args.publisher c.args.workers c.in-Ok-benches.team.items c.deref_mut.result.now c.drive_through.new.benches _ _ lists c.in-Ok-benches.ensures.team
    c.deref_mut.ensures.value c.deref_mut.ensures.len c.drive_through.ensures.still c.unpack.ensures.lists in
    c.concluded-publisher.ensures.came c.args.publisher (c.take_in_turn.ensures.members s c.args.publisher (ap (λ n. n + 1) c.parts.ensures)
    (subst (λ l. AreRosters s c.args.publisher (length l) (all_numbers s) (map into_iter_items l)) (sym c.deref_mut-2.ensures.value) rosters))

pub returns-clause-left : goal.returns-clause-left
returns-clause-left g c =
    let s = c.args.setting.now in
    let lists = c.unpack.new.lists.items in
    let rosters = rosters_left into_iter_items s c.args.publisher c.args.workers c.in-Ok-benches.team.items c.deref_mut.result.now c.drive_through.new.benches _ _ lists c.in-Ok-benches.ensures.team
    c.deref_mut.ensures.value c.deref_mut.ensures.len c.drive_through.ensures.still c.unpack.ensures.lists in
    let (n, ended) = c.drive_through.ensures.ended in
    let before = ended.reached.before in
    let all = last_left into_iter_items s c.args.publisher c.args.workers c.in-Ok-benches.team.items c.deref_mut.result.now c.drive_through.new.benches _ _ lists c.in-Ok-benches.ensures.team
    c.deref_mut.ensures.value c.deref_mut.ensures.len c.drive_through.ensures.still c.unpack.ensures.lists before n ended.last in
    inl (
      n,
      (
        c.concluded-publisher.ensures.ends c.args.publisher n
            (c.take_in_turn.ensures.members s c.args.publisher (ap (λ n. n + 1) c.parts.ensures)
            (subst (λ l. AreRosters s c.args.publisher (length l) (all_numbers s) (map into_iter_items l)) (sym c.deref_mut-2.ensures.value) rosters))
            (record { reached = ended.reached; last = c.take_in_turn.ensures.last s before n (subst (All (λ l. All (IsLast s before n) (into_iter_items l))) (sym c.deref_mut-2.ensures.value) all) }),
        seats_left into_iter_items s c.args.publisher c.args.workers c.in-Ok-benches.team.items c.deref_mut.result.now c.drive_through.new.benches _ _ lists c.in-Ok-benches.ensures.team
            c.deref_mut.ensures.value c.deref_mut.ensures.len c.drive_through.ensures.still n ended.come c.unpack.new.seats.items c.unpack.ensures.seats,
      ),
    )

pub returns-in_default-clause-left : goal.returns-in_default-clause-left
returns-in_default-clause-left g c = inr (record { no_memory = refl; same = refl }, c.new.ensures.items)

pub returns-in-Err-clause-left : goal.returns-in-Err-clause-left
returns-in-Err-clause-left g c = inr (record { no_memory = refl; same = c.in-Err.ensures.back }, c.new-in-Err.ensures.items)
