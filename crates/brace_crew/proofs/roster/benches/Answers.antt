use Rattle.std.proofs.Common.{rules, ◌≡◌, ◌∙◌, sym, ap, ap₂, subst, ◌+◌, [], ◌∷◌, ◌++◌, length, map, append_assoc, append-nil, arith}
use Rattle.std.specs.List.{All}
use Rattle.std.specs.Vec.{vec_len}
use Rattle.std.specs.Vec.Iter.{into_iter_items}
use Rattle.std.proofs.lemmas.List.{nil_from_length, length-map, length-append, map-append}
use Rattle.std.proofs.lemmas.List.Elements.{All-nil, All-head, All-tail, All-push}
use Rattle.brace_pieces.specs.Settings.{parts}
use Rattle.brace_crew.specs.Benches.{IsUnused, AreServed}
use Rattle.brace_crew.specs.inner.Crews.{AreNew}
use Rattle.brace_crew.specs.inner.Teams.{HasCome}
use Rattle.brace_crew.proofs.RosterLemmas.{seat_next, unused, served_next, team_is}
use Rattle.brace_crew.proofs.roster.benches.Goals as goal

pub loop-seat-init : goal.loop-seat-init
loop-seat-init g c =
    let none = c.in-Ok.ensures in
    let r = c.into_iter-rosters in
    let s = c.into_iter-seat-iterator in
    record {
      seats_left = s.ensures.into_iter_gives.0;
      many_seats = (let long : vec_len c.args.seats ≡ length c.args.seats.items = search rules in s.ensures.into_iter_gives.1 ∙ long ∙ ap length (sym s.ensures.into_iter_gives.0));
      lists_left = ap (λ l. map (λ b. b.members) l ++ map (λ v. v.items) (into_iter_items r.result)) none.items;
      many_lists = (let long : vec_len c.in_ok-rosters.field-0 ≡ length c.in_ok-rosters.field-0.items = search rules in r.ensures.len ∙ long ∙ ap length (sym r.ensures.rest));
      new = subst (All (λ v. AreNew v.items)) (sym r.ensures.rest) c.in_ok-rosters.ensures.first_turns;
      seats_so_far = ap (map (λ b. b.seat)) none.items;
      lanes_so_far = subst (All (λ b. b.lanes ≡ c.args.lanes.now)) (sym none.items) (All-nil (λ b. b.lanes ≡ c.args.lanes.now));
      start = subst (All (HasCome 0)) (sym none.items) (All-nil (HasCome 0));
      room = omega (arith, none.capacity);
    }

pub make-requires-clause-at_lanes : goal.make-requires-clause-at_lanes
make-requires-clause-at_lanes g c =
    let at = c.loop-seat in
    let (low, (made, is)) = seat_next c.args.lanes.now c.args.setting.now (parts c.args.setting.now + 1) c.args.workers c.requires.some_worker
    at.yielded (into_iter_items at.seat-iterator) (into_iter_items c.next.new.self) c.in-Some.seat (at.invariant.seats_left ∙ c.requires.seats) c.in-Some.ensures.steps.0 in
    ap (λ x. x.lanes) is

pub make-requires-clause-number_is : goal.make-requires-clause-number_is
make-requires-clause-number_is g c =
    let at = c.loop-seat in
    let (low, (made, is)) = seat_next c.args.lanes.now c.args.setting.now (parts c.args.setting.now + 1) c.args.workers c.requires.some_worker
    at.yielded (into_iter_items at.seat-iterator) (into_iter_items c.next.new.self) c.in-Some.seat (at.invariant.seats_left ∙ c.requires.seats) c.in-Some.ensures.steps.0 in
    let many : length at.all.items ≡ length at.yielded = sym (length-map at.all.items (λ b. b.seat)) ∙ ap length at.invariant.seats_so_far ∙ length-map at.yielded (λ x. x.view) in
    let long : vec_len at.all ≡ length at.all.items = search rules in
    ap (λ x. x.view.number) is ∙ sym (c.len-number.ensures ∙ long ∙ many)

pub make-requires-clause-unused : goal.make-requires-clause-unused
make-requires-clause-unused g c =
    let at = c.loop-seat in
    let n = parts c.args.setting.now + 1 in
    let (low, (made, is)) = seat_next c.args.lanes.now c.args.setting.now n c.args.workers c.requires.some_worker
    at.yielded (into_iter_items at.seat-iterator) (into_iter_items c.next.new.self) c.in-Some.seat (at.invariant.seats_left ∙ c.requires.seats) c.in-Some.ensures.steps.0 in
    subst IsUnused (sym (ap (λ x. x.view) is)) (unused c.args.lanes.now c.args.setting.now n c.args.workers (length at.yielded) made)

pub make-requires-clause-served : goal.make-requires-clause-served
make-requires-clause-served g c =
    let s = c.args.setting.now in
    let at = c.loop-seat in
    let so = at.invariant in
    let one = c.in-Some-next.members in
    let left = into_iter_items c.next-in-loop-seat.new.self in
    let steps : into_iter_items at.rosters ≡ one ∷ left = c.in-Some-next.ensures.items in
    let before = map (λ b. b.members) at.all.items in
    let (low, (made, is)) = seat_next c.args.lanes.now s (parts s + 1) c.args.workers c.requires.some_worker
    at.yielded (into_iter_items at.seat-iterator) (into_iter_items c.next.new.self) c.in-Some.seat (so.seats_left ∙ c.requires.seats) c.in-Some.ensures.steps.0 in
    let many : length before ≡ length at.yielded =
    length-map at.all.items (λ b. b.members) ∙ sym (length-map at.all.items (λ b. b.seat)) ∙ ap length so.seats_so_far ∙ length-map at.yielded (λ x. x.view) in
    let all = ap (λ l. before ++ map (λ v. v.items) l) (sym steps) ∙ so.lists_left ∙ ap (map (λ v. v.items)) c.into_iter-rosters.ensures.rest in
    let new = All-head (λ v. AreNew v.items) one left (subst (All (λ v. AreNew v.items)) steps so.new) in
    subst (λ v. AreServed v one.items) (sym (ap (λ x. x.view) is))
    (served_next s c.args.publisher c.args.workers (map (λ v. v.items) c.in_ok-rosters.field-0.items) c.in_ok-rosters.ensures.rosters
    before (map (λ v. v.items) left) one.items (length at.yielded) made all many low new)

pub push_reserved-requires : goal.push_reserved-requires
push_reserved-requires g c =
    let at = c.loop-seat in
    let (low, (made, is)) = seat_next c.args.lanes.now c.args.setting.now (parts c.args.setting.now + 1) c.args.workers c.requires.some_worker
    at.yielded (into_iter_items at.seat-iterator) (into_iter_items c.next.new.self) c.in-Some.seat (at.invariant.seats_left ∙ c.requires.seats) c.in-Some.ensures.steps.0 in
    let many : length at.all.items ≡ length at.yielded = sym (length-map at.all.items (λ b. b.seat)) ∙ ap length at.invariant.seats_so_far ∙ length-map at.yielded (λ x. x.view) in
    let long : vec_len at.all ≡ length at.all.items = search rules in
    omega (arith, low, many, long, at.invariant.room)

pub loop-seat-preserved-in-Some-next : goal.loop-seat-preserved-in-Some-next
loop-seat-preserved-in-Some-next g c =
    let at = c.loop-seat in
    let so = at.invariant in
    let x = c.in-Some.seat in
    let seats : into_iter_items at.seat-iterator ≡ x ∷ into_iter_items c.next.new.self = c.in-Some.ensures.steps.0 in
    let one = c.in-Some-next.members in
    let left = into_iter_items c.next-in-loop-seat.new.self in
    let lists : into_iter_items at.rosters ≡ one ∷ left = c.in-Some-next.ensures.items in
    let before = map (λ b. b.members) at.all.items in
    let bench = c.make.result in
    let more = c.push_reserved.ensures.items in
    let (low, (made, is)) = seat_next c.args.lanes.now c.args.setting.now (parts c.args.setting.now + 1) c.args.workers c.requires.some_worker
    at.yielded (into_iter_items at.seat-iterator) (into_iter_items c.next.new.self) x (so.seats_left ∙ c.requires.seats) seats in
    record {
      seats_left = append_assoc at.yielded (x ∷ []) _ ∙ ap (λ l. at.yielded ++ l) (sym seats) ∙ so.seats_left;
      many_seats = (let gone = c.in-Some.ensures.steps.1 in omega (arith, so.many_seats, gone, ap length seats));
      lists_left = ap (λ l. map (λ b. b.members) l ++ map (λ v. v.items) left) more
          ∙ ap (λ l. l ++ map (λ v. v.items) left) (map-append (λ b. b.members) at.all.items (bench ∷ []))
          ∙ append_assoc before (bench.members ∷ []) (map (λ v. v.items) left)
          ∙ ap (λ m. before ++ m ∷ map (λ v. v.items) left) c.make.ensures.members
          ∙ ap (λ l. before ++ map (λ v. v.items) l) (sym lists) ∙ so.lists_left;
      many_lists = (let gone = c.in-Some-next.ensures.len in omega (arith, so.many_lists, gone, ap length lists));
      new = All-tail (λ v. AreNew v.items) one left (subst (All (λ v. AreNew v.items)) lists so.new);
      seats_so_far = ap (map (λ b. b.seat)) more ∙ map-append (λ b. b.seat) at.all.items (bench ∷ [])
          ∙ ap₂ (λ l v. l ++ v ∷ []) so.seats_so_far c.make.ensures.seat ∙ sym (map-append (λ y. y.view) at.yielded (x ∷ []));
      lanes_so_far = subst (All (λ b. b.lanes ≡ c.args.lanes.now)) (sym more)
          (All-push (λ b. b.lanes ≡ c.args.lanes.now) at.all.items bench so.lanes_so_far (c.make.ensures.lanes ∙ ap (λ x. x.lanes) is));
      start = subst (All (HasCome 0)) (sym more) (All-push (HasCome 0) at.all.items bench so.start c.make.ensures.start);
      room = omega (arith, so.room, c.push_reserved.ensures.capacity);
    }

pub loop-seat-preserved : goal.loop-seat-preserved
loop-seat-preserved g c =
    let s = c.args.setting.now in
    let at = c.loop-seat in
    let so = at.invariant in
    let left = into_iter_items at.rosters in
    let before = map (λ b. b.members) at.all.items in
    let (low, other) = seat_next c.args.lanes.now s (parts s + 1) c.args.workers c.requires.some_worker
    at.yielded (into_iter_items at.seat-iterator) (into_iter_items c.next.new.self) c.in-Some.seat (so.seats_left ∙ c.requires.seats) c.in-Some.ensures.steps.0 in
    let many : length before ≡ length at.yielded =
    length-map at.all.items (λ b. b.members) ∙ sym (length-map at.all.items (λ b. b.seat)) ∙ ap length so.seats_so_far ∙ length-map at.yielded (λ x. x.view) in
    let all = ap length (so.lists_left ∙ ap (map (λ v. v.items)) c.into_iter-rosters.ensures.rest) ∙ c.in_ok-rosters.ensures.rosters.one_each in
    let sum = length-append before (map (λ v. v.items) left) in
    let long = length-map left (λ v. v.items) in
    let none = c.in_default-next.ensures.cases.0 in
    absurd (omega (arith, low, many, all, sum, long, none, so.many_lists))

pub returns-clause-team : goal.returns-clause-team
returns-clause-team g c =
    let at = c.loop-seat in
    let so = at.invariant in
    let lists : map (λ v. v.items) (into_iter_items c.into_iter-rosters.result) ≡ map (λ v. v.items) c.in_ok-rosters.field-0.items = ap (map (λ v. v.items)) c.into_iter-rosters.ensures.rest in
    let none : into_iter_items at.seat-iterator ≡ [] = nil_from_length _ (sym so.many_seats ∙ c.in-None.ensures.steps.0) in
    let whole = sym (append-nil at.yielded) ∙ ap (λ l. at.yielded ++ l) (sym none) ∙ so.seats_left ∙ c.requires.seats in
    team_is c.args.setting.now c.args.publisher c.args.workers (map (λ v. v.items) c.in_ok-rosters.field-0.items) c.in_ok-rosters.ensures.rosters
    c.args.lanes.now at.all.items (map (λ v. v.items) (into_iter_items at.rosters)) at.yielded c.requires.some_worker (so.lists_left ∙ lists) so.seats_so_far whole so.lanes_so_far

pub returns-clause-start : goal.returns-clause-start
returns-clause-start g c = c.loop-seat.invariant.start
