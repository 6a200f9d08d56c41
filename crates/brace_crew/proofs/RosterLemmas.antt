-- The members of each worker of a run before their first turns.
use Rattle.std.proofs.Common.{◌≡◌, ◌∙◌, refl, sym, ap, subst, ℕ, zero, suc, ◌+◌, ◌-◌, ◌*◌, ◌%◌, ◌<◌, Bool, true, false, cond, ◌&&◌, nat_lt, List, [], ◌∷◌, ◌++◌, length, map, replicate, get_or, set, slice_index, append-nil, arith, inl, inr}
use Rattle.std.specs.List.{All}
use Rattle.std.proofs.Math.ListN.{get_or-append}
use Rattle.std.proofs.Math.Seq.{get_or-append_seam}
use Rattle.std.proofs.lemmas.Bool.{cases_eq, cases_lt}
use Rattle.std.proofs.lemmas.List.{nil_from_length, length_push, length-append, length-map, length-set, get_or-map, get_or-set_same, get_or-set_other}
use Rattle.std.proofs.lemmas.List.FromFn.{length-map-range_with_len, get_or-map-range_with_len}
use Rattle.atomic_table.specs.Seated.{TableId}
use Rattle.brace_lanes.specs.Places.{place}
use Rattle.brace_lanes.specs.Seats.{OnSeat, new_seats}
use Rattle.brace_lanes.specs.Views.{opening}
use Rattle.brace_lanes.proofs.StepsKept.{zero_at}
use Rattle.brace_pieces.specs.declared.setting.Setting.{Setting}
use Rattle.brace_pieces.specs.Settings.{parts}
use Rattle.brace_crew.specs.declared.member.Member.{Member}
use Rattle.brace_crew.specs.Benches.{OnBench, IsUnused, AreServed}
use Rattle.brace_crew.specs.Workers.{IsSeatOf}
use Rattle.brace_crew.specs.inner.Crews.{AreMembers, AreNew, all_numbers, part_numbers, served}
use Rattle.brace_crew.specs.inner.Teams.{AreRosters, IsTeam, seat_of}
use Rattle.brace_crew.proofs.MemberLemmas.{serves_more, serves_same}

-- the members of the first workers, of so many
pub record AreFirst {P : Type 0} (s : Setting) (publisher : P) (workers count : ℕ) (numbers : List ℕ)
    (rosters : List (List (Member P))) : Type 0 where
  pub one_each : length rosters ≡ count
  pub each : (k : ℕ) (d : List (Member P)) → k < count → AreMembers s publisher (served workers k numbers) (get_or rosters k d)

module _ {P : Type 0} (s : Setting) (publisher : P) (workers : ℕ) where
  pub first_none : (numbers : List ℕ) → AreFirst s publisher workers 0 numbers []
  first_none numbers = record { one_each = refl; each = λ k d low. absurd (omega (arith, low)) }

  -- those of one more worker
  pub first_more : (numbers : List ℕ) (count : ℕ) (rosters : List (List (Member P))) (one : List (Member P)) → AreFirst s publisher workers count numbers rosters
      → AreMembers s publisher (served workers count numbers) one → AreFirst s publisher workers (count + 1) numbers (rosters ++ one ∷ [])
  first_more numbers count rosters one are more = record { one_each = length_push rosters one ∙ ap (λ n. n + 1) are.one_each; each = each }
    where
      each : (k : ℕ) (d : List (Member P)) → k < count + 1 → AreMembers s publisher (served workers k numbers) (get_or (rosters ++ one ∷ []) k d)
      each k d low = elim (cases_lt k count) [
        | inl below ↦
            let within : k < length rosters = subst (λ n. k < n) (sym are.one_each) below in
            subst (AreMembers s publisher (served workers k numbers)) (sym (get_or-append rosters (one ∷ []) d k within)) (are.each k d below)
        | inr here ↦
            let is : count ≡ k = omega (arith, low, here) in
            let at : get_or (rosters ++ one ∷ []) k d ≡ one = ap (λ j. get_or (rosters ++ one ∷ []) j d) (sym is ∙ sym are.one_each) ∙ get_or-append_seam rosters one [] d in
            subst (AreMembers s publisher (served workers k numbers)) (sym at) (subst (λ j. AreMembers s publisher (served workers j numbers) one) is more)
      ]

  pub first_all : (numbers : List ℕ) (count : ℕ) (rosters : List (List (Member P))) → AreFirst s publisher workers count numbers rosters → count ≡ workers
      → AreRosters s publisher workers numbers rosters
  first_all numbers count rosters are all = record { one_each = are.one_each ∙ all; each = λ k d low. are.each k d (subst (λ n. k < n) (sym all) low) }

  -- with the desk, which one worker serves
  pub with_last : (w : ℕ) → parts s % workers ≡ w → (rosters : List (List (Member P))) (one : List (Member P)) → w < workers → AreRosters s publisher workers (part_numbers s) rosters
      → AreMembers s publisher (served workers w (part_numbers s) ++ parts s ∷ []) one → AreRosters s publisher workers (all_numbers s) (set rosters w one)
  with_last w serves rosters one low are more = record { one_each = length-set rosters w one ∙ are.one_each; each = each }
    where
      each : (k : ℕ) (d : List (Member P)) → k < workers → AreMembers s publisher (served workers k (all_numbers s)) (get_or (set rosters w one) k d)
      each k d within = elim (cases_eq k w) [
        | inl is ↦
            let at : get_or (set rosters w one) k d ≡ one = ap (λ j. get_or (set rosters w one) j d) is ∙ get_or-set_same rosters w one d (subst (λ n. w < n) (sym are.one_each) low) in
            subst (AreMembers s publisher (served workers k (all_numbers s))) (sym at)
            (subst (λ j. AreMembers s publisher (served workers j (all_numbers s)) one) (sym is)
            (subst (λ l. AreMembers s publisher l one) (sym (serves_more workers w (parts s) serves)) more))
        | inr other ↦
            let same : get_or (set rosters w one) k d ≡ get_or rosters k d = get_or-set_other rosters w k one d other in
            subst (AreMembers s publisher (served workers k (all_numbers s))) (sym same)
            (subst (λ l. AreMembers s publisher l (get_or rosters k d)) (sym (serves_same workers k (parts s) (λ e. other (sym e ∙ serves)))) (are.each k d within))
      ]

-- ---- the seats of new lanes

one_of_none : (b : Bool) (x : ℕ) → x ≡ 0 → cond b x 0 ≡ 0
one_of_none true x is = is
one_of_none false x is = refl

module _ (lanes : TableId) (s : Setting) (n w : ℕ) where
  abbrev on_seat : ℕ → ℕ → OnSeat Setting
  on_seat k made = record { lanes = lanes; view = opening s n w k made }

  pub unused : (k made : ℕ) → IsUnused (opening s n w k made)
  unused k made = record {
    nothing_put = λ p q. one_of_none (nat_lt p n && nat_lt q n) _ (none (place n p q));
    nothing_taken = λ p q. one_of_none (nat_lt q n && nat_lt p n) _ (none (place n q p));
  }
    where
      none : (i : ℕ) → slice_index (replicate (n * n) 0) i ≡ 0
      none i = zero_at (n * n) i

  -- the seat at a place
  pub seat_at : (k : ℕ) (d : OnSeat Setting) → k < w → (made : ℕ) × (get_or (new_seats lanes s n w w) k d ≡ on_seat k made)
  seat_at zero d low = (w, refl)
  seat_at (suc j) d low = (0, get_or-map-range_with_len (λ k. on_seat k 0) 1 (w - 1) j (suc j) d (omega (arith, low)) (omega arith))

  pub as_many_seats : 0 < w → length (new_seats lanes s n w w) ≡ w
  as_many_seats some = let rest = length-map-range_with_len (λ k. on_seat k 0) 1 (w - 1) in omega (arith, some, rest)

  -- the next seat of those that are left
  pub seat_next : 0 < w → (before left rest : List (OnSeat Setting)) (x : OnSeat Setting) → before ++ left ≡ new_seats lanes s n w w → left ≡ x ∷ rest
      → (length before < w) × ((made : ℕ) × (x ≡ on_seat (length before) made))
  seat_next some before left rest x all is =
      let whole : before ++ x ∷ rest ≡ new_seats lanes s n w w = ap (λ l. before ++ l) (sym is) ∙ all in
      let long = ap length whole ∙ as_many_seats some in
      let more = length-append before (x ∷ rest) in
      let low : length before < w = omega (arith, long, more) in
      let (made, at) = seat_at (length before) x low in
      (low, (made, sym (get_or-append_seam before x rest x) ∙ ap (λ l. get_or l (length before) x) whole ∙ at))

-- ---- the benches

module _ {P : Type 0} (s : Setting) (publisher : P) (w : ℕ) (rosters : List (List (Member P))) (are : AreRosters s publisher w (all_numbers s) rosters) where
  -- a seat serves the next members
  pub served_next : (before left : List (List (Member P))) (x : List (Member P)) (k made : ℕ) → before ++ x ∷ left ≡ rosters → length before ≡ k → k < w → AreNew x
      → AreServed (opening s (parts s + 1) w k made) x
  served_next before left x k made all long low new =
      let at : get_or rosters k x ≡ x = ap (λ l. get_or l k x) (sym all) ∙ ap (λ j. get_or (before ++ x ∷ left) j x) (sym long) ∙ get_or-append_seam before x left x in
      let here = subst (AreMembers s publisher (served w k (all_numbers s))) at (are.each k x low) in
      record { settings = here.settings; numbers = here.numbered; first_turns = new }

  -- where each seat has a bench, no list of members is left
  none_left : (before left : List (List (Member P))) → before ++ left ≡ rosters → length before ≡ w → before ≡ rosters
  none_left before left all long =
      let sum = ap length all ∙ are.one_each in
      let parts = length-append before left in
      let none : length left ≡ 0 = omega (arith, sum, parts, long) in
      sym (append-nil before) ∙ ap (λ l. before ++ l) (sym (nil_from_length left none)) ∙ all

  pub team_is : (lanes : TableId) (benches : List (OnBench P)) (left : List (List (Member P))) (seats : List (OnSeat Setting)) → 0 < w
      → map (λ b. b.members) benches ++ left ≡ rosters → map (λ b. b.seat) benches ≡ map (λ x. x.view) seats → seats ≡ new_seats lanes s (parts s + 1) w w
      → All (λ b. b.lanes ≡ lanes) benches → IsTeam s publisher w (all_numbers s) benches
  team_is lanes benches left seats some all same new there = record {
    rosters = subst (AreRosters s publisher w (all_numbers s)) (sym (none_left (map (λ b. b.members) benches) left all (length-map benches (λ b. b.members) ∙ long))) are;
    seats = each;
    one_lanes = (lanes, there);
  }
    where
      long : length benches ≡ w
      long = sym (length-map benches (λ b. b.seat)) ∙ ap length same ∙ length-map seats (λ x. x.view) ∙ ap length new ∙ as_many_seats lanes s (parts s + 1) w some

      each : (k : ℕ) (d : OnBench P) → k < w → IsSeatOf s w k (get_or benches k d).seat
      each k d low =
          let (made, at) = seat_at lanes s (parts s + 1) w k (seat_of d) low in
          let in_benches : k < length benches = subst (λ n. k < n) (sym long) low in
          let in_seats : k < length seats = subst (λ n. k < n) (sym (ap length new ∙ as_many_seats lanes s (parts s + 1) w some)) low in
          let view : (get_or benches k d).seat ≡ opening s (parts s + 1) w k made =
          sym (get_or-map (λ b. b.seat) benches k d d.seat in_benches) ∙ ap (λ l. get_or l k d.seat) same ∙ get_or-map (λ x. x.view) seats k (seat_of d) d.seat in_seats
          ∙ ap (λ l. (get_or l k (seat_of d)).view) new ∙ ap (λ x. x.view) at in
          subst (IsSeatOf s w k) (sym view) (record { setting_is = refl; actors_are = refl; seats_are = refl; number_is = refl })
