use Rattle.std.proofs.Common.{◌≡◌, ◌∙◌, sym, ap, subst, ℕ, ◌+◌, ◌<◌, List, length, get_or, set, arith}
use Rattle.brace_lanes.specs.declared.table.View.{View}
use Rattle.brace_pieces.specs.declared.setting.Setting.{Setting}
use Rattle.brace_pieces.proofs.ScheduleLemmas.{schedule_lawful}
use Rattle.brace_crew.specs.declared.member.Member.{Member}
use Rattle.brace_crew.specs.inner.Driven.{Counts, AreCounted, WentAll}
use Rattle.brace_crew.proofs.BenchRounds.{all_counted, same_members, same_count, same_on, later_on, within_on, went_more, went_through}
use Rattle.brace_crew.proofs.bench.make_turns.Goals as goal

-- the seat counts the member at a place
counts_at : {P : Type 0} (v : View Setting) (ms : List (Member P)) (i : ℕ) (m : Member P) → AreCounted v ms → i < length ms → m ≡ get_or ms i m → Counts v m
counts_at v ms i m are low at = subst (Counts v) (sym at) (are.counted i m low)

pub make_turn-one-requires-clause-lawful : goal.make_turn-one-requires-clause-lawful
make_turn-one-requires-clause-lawful g c κs within = schedule_lawful c.loop-i.end.seat.view.setting

pub make_turn-one-requires-clause-setting : goal.make_turn-one-requires-clause-setting
make_turn-one-requires-clause-setting g c κs within =
    let ms = c.loop-i.members in
    let i = c.loop-i.i in
    let long = same_count c.args.members.now ms c.loop-i.invariant.same in
    let at = ap (get_or ms i) c.index-members-i-in-loop-i.is in
    (counts_at c.loop-i.end.seat.view ms i (get_or ms i c.index-members-i-in-loop-i.result) c.loop-i.invariant.counted (omega (arith, long, c.loop-i-test.true)) at).0

pub make_turn-one-requires-clause-counted : goal.make_turn-one-requires-clause-counted
make_turn-one-requires-clause-counted g c κs within =
    let ms = c.loop-i.members in
    let i = c.loop-i.i in
    let so = c.loop-i.invariant in
    let long = same_count c.args.members.now ms so.same in
    let at = ap (get_or ms i) c.index-members-i-in-loop-i.is in
    let is = (counts_at c.loop-i.end.seat.view ms i (get_or ms i c.index-members-i-in-loop-i.result) so.counted (omega (arith, long, c.loop-i-test.true)) at).1 in
    record { served = (so.later.lanes ∙ c.requires.at_lanes ∙ sym so.lanes, is.served); put = is.put; taken = is.taken }

pub loop-i-preserved : goal.loop-i-preserved
loop-i-preserved g c =
    let first = c.args.members.now in
    let ms = c.loop-i.members in
    let i = c.loop-i.i in
    let m = get_or ms i c.index-members-i-in-loop-i.result in
    let n = c.make_turn-one.new.actor in
    let start = c.args.end.now.seat in
    let before = c.loop-i.end.seat in
    let after = c.make_turn-one.new.exchange.seat in
    let so = c.loop-i.invariant in
    let e = c.make_turn-one.ensures in
    let at = ap (get_or ms i) c.index-members-i-in-loop-i.is in
    let long = same_count first ms so.same in
    let low : i < length ms = omega (arith, long, c.loop-i-test.true) in
    let (lanes, later) = e.kept in
    record {
      counted = all_counted c.args.steps before.view after.view ms i m n c.make_turn-one.result so.counted later.same low at e.same_number
          (e.same_setting ∙ (counts_at before.view ms i m so.counted low at).0 ∙ sym later.same.setting, record { served = e.counted.served.1; put = e.counted.put; taken = e.counted.taken }) e.put e.taken;
      same = same_on first ms (set ms i n) so.same (same_members ms i m n at e.same_setting e.same_number e.same_opening);
      later = later_on start before after so.later later;
      lanes = lanes ∙ so.lanes;
      few = omega (arith, c.loop-i-test.true);
      within = λ all. within_on c.args.steps start.view before.view after.view so.later.misses later.misses first ms i m n low at e.same_setting e.same_number c.make_turn-one.result e.went (so.within all);
      went = subst (WentAll c.args.steps start.view first after.view (set ms i n) (i + 1)) (sym c.behind-all.ensures)
          (went_more c.args.steps start.view before.view after.view so.later.misses later.misses first ms i m n low at e.same_setting e.same_number c.loop-i.all c.make_turn-one.result so.went e.went);
    }

pub returns-clause-went : goal.returns-clause-went
returns-clause-went g c =
    went_through c.args.steps c.args.end.now.seat.view c.loop-i.end.seat.view c.args.members.now c.loop-i.members c.loop-i.i c.loop-i.all
    (omega (arith, c.loop-i-test.false)) c.loop-i.invariant.few c.loop-i.invariant.went
