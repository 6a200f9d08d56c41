use Rattle.std.proofs.Common.{◌≡◌, ◌∙◌, sym, ap, subst, suc, ◌+◌, ◌≤◌, drop, length, arith}
use Rattle.std.specs.List.{All}
use Rattle.brace_pieces.specs.Steps.{steps}
use Rattle.brace_pieces.specs.Fronts.{OnFronts, to_show}
use Rattle.brace_crew.specs.Members.{HasTold, WasUntold, IsLast}
use Rattle.brace_crew.specs.inner.Teams.{HasCome, HaveEnded}
use Rattle.brace_crew.proofs.FrontEnds.{at_first, reached_to, reached_all}
use Rattle.brace_crew.proofs.TeamLemmas.{team_later, all_still, still_later, still_further, team_settings, benches_within, benches_at, benches_untold, first_benches, benches_told, benches_last}
use Rattle.brace_crew.proofs.team.drive_through.Goals.{After-drive_to}
use Rattle.brace_crew.proofs.team.drive_through.Goals as goal

pub loop-end-init : goal.loop-end-init
loop-end-init g c = record {
  of = ap (λ (f : OnFronts). f.setting) c.of-fronts.ensures;
  still = all_still c.args.benches.now;
  come = subst (λ n. All (HasCome n) c.args.benches.now)
      (at_first c.args.setting.now c.of-fronts.result c.of-fronts.ensures) c.requires.start;
  reached = (0, sym (at_first c.args.setting.now c.of-fronts.result c.of-fronts.ensures));
  untold = subst (λ n. All (λ b. All (WasUntold c.args.setting.now n) b.members)
      c.args.benches.now) (at_first c.args.setting.now c.of-fronts.result c.of-fronts.ensures)
      (first_benches c.args.setting.now c.args.benches.now);
}

pub drive_to-requires-clause-some_bench : goal.drive_to-requires-clause-some_bench
drive_to-requires-clause-some_bench g c κs within = omega (arith, c.requires.some_bench, c.loop-end.invariant.still.one_each)

pub drive_to-requires-clause-within : goal.drive_to-requires-clause-within
drive_to-requires-clause-within g c κs within = benches_within c.loop-end.fronts.number c.in-Some.end (omega (arith, c.in-Some.ensures.on.1)) c.loop-end.benches c.loop-end.invariant.come

pub end_here-requires-clause-some_bench : goal.end_here-requires-clause-some_bench
end_here-requires-clause-some_bench g c = omega (arith, c.requires.some_bench, c.loop-end.invariant.still.one_each, c.drive_to.ensures.same.one_each)

pub end_here-requires-clause-team : goal.end_here-requires-clause-team
end_here-requires-clause-team g c =
    let (publisher, (workers, team)) = c.requires.team in (
      publisher,
      (
        workers,
        team_later c.args.setting.now publisher workers _ c.args.benches.now c.drive_to.new.benches team
            (still_later c.args.benches.now c.loop-end.benches c.drive_to.new.benches c.loop-end.invariant.still c.drive_to.ensures.same),
      ),
    )

pub loop-end-smaller : goal.loop-end-smaller
loop-end-smaller g c =
    let all = ap (λ s. length (steps s)) c.loop-end.invariant.of in
    omega (arith, c.in-Some.ensures.on.0, c.in-Some.ensures.on.1, c.next.ensures.within, all)

-- the benches have come to the next end
come : (g : _) (c : After-drive_to g) → All (HasCome c.next.new.self.number) c.drive_to.new.benches
come g c =
    subst (λ n. All (HasCome n) c.drive_to.new.benches) c.in-Some.ensures.on.0
    c.drive_to.ensures.come

place : (g : _) (c : After-drive_to g) → c.next.new.self.number
    ≡ c.loop-end.fronts.number + to_show (drop c.loop-end.fronts.number (steps c.args.setting.now))
place g c =
    let before = c.loop-end.fronts.number in
    c.next.ensures.place
    ∙ ap (λ r. before + to_show (drop before (steps r))) c.loop-end.invariant.of

pub loop-end-preserved : goal.loop-end-preserved
loop-end-preserved g c =
    let s = c.args.setting.now in
    let so = c.loop-end.invariant in
    let after = c.next.new.self in
    let (count, was) = so.reached in
    let drove = (goal.at.loop-end-preserved g c).After-drive_to in
    let still = still_later c.args.benches.now c.loop-end.benches c.drive_to.new.benches so.still
    c.drive_to.ensures.same in
    let within : after.number ≤ length (steps s) =
    omega (arith, c.next.ensures.within, ap (λ r. length (steps r)) so.of) in
    record {
      of = c.next.ensures.same ∙ so.of;
      still = still_further c.args.benches.now c.drive_to.new.benches c.end_here.new.benches still
          c.end_here.ensures.still;
      come = c.end_here.ensures.come after.number (come g drove);
      reached = (suc count, place g drove ∙ ap (λ k. k + to_show (drop k (steps s))) was);
      untold = c.end_here.ensures.untold c.if-end_here.false after.number within
          (benches_at after.number c.drive_to.new.benches (come g drove));
    }

pub returns-then-end_here : goal.returns-then-end_here
returns-then-end_here g c =
    let s = c.args.setting.now in
    let so = c.loop-end.invariant in
    let before = c.loop-end.fronts in
    let after = c.next.new.self in
    let (count, was) = so.reached in
    let drove = (goal.at.returns-then-end_here g c).After-drive_to in
    let same = c.end_here.ensures.same c.if-end_here.true in
    let told = subst (All (λ b. All HasTold b.members)) same (c.end_here.ensures.told c.if-end_here.true) in
    let (at, back) = reached_to s before.number after.number count was (place g drove) in
    let untold = benches_untold s before.number c.loop-end.benches c.drive_to.new.benches c.drive_to.ensures.same so.untold in
    let last = subst (λ k. All (λ b. All (IsLast s k after.number) b.members)
    c.drive_to.new.benches) (sym back)
    (benches_told s before.number after.number c.drive_to.new.benches (come g drove) told untold) in
    record {
      still = still_further c.args.benches.now c.drive_to.new.benches c.end_here.new.benches
          (still_later c.args.benches.now c.loop-end.benches c.drive_to.new.benches so.still c.drive_to.ensures.same) c.end_here.ensures.still;
      ended = (
        after.number,
        subst (HaveEnded s after.number) (sym same)
            (record { reached = at; come = come g drove; last = last }),
      );
    }

pub returns : goal.returns
returns g c =
    let s = c.args.setting.now in
    let so = c.loop-end.invariant in
    let (publisher, (workers, team)) = c.requires.team in
    let n = c.loop-end.fronts.number in
    let (count, was) = so.reached in
    let now = team_later s publisher workers _ c.args.benches.now c.loop-end.benches team so.still in
    let all : n ≡ length (steps s) = c.in_default.ensures.over.1 ∙ ap (λ r. length (steps r)) so.of in
    let (at, back) = reached_all s n count was all in
    let last = benches_last s n n c.loop-end.benches (team_settings s publisher workers c.loop-end.benches now) all so.come so.untold in
    record {
      still = so.still;
      ended = (n, record { reached = at; come = so.come; last = subst (λ k. All (λ b. All (IsLast s k n) b.members) c.loop-end.benches) (sym back) last });
    }
