-- The members of a bench in a round: what their seat counts of all, how they went on, and the end.
use Rattle.std.proofs.Common.{◌≡◌, ◌∙◌, refl, sym, ap, subst, ℕ, ◌+◌, ◌%◌, ◌<◌, ◌≤◌, ◌==◌, Bool, true, List, map, length, take, get_or, set, arith, inl, inr}
use Rattle.std.specs.List.{All, Contains, filter, range_with_len, sum_by}
use Rattle.std.proofs.lemmas.Bool.{cases_eq, cases_lt, eq-eqb, eqb-true}
use Rattle.std.proofs.lemmas.List.{get_or-map, length-map, length-set, get_or-set_same, get_or-set_other, get_or_default, get_or_past, set-get_or, take_all}
use Rattle.std.proofs.lemmas.List.Elements.{All-map, All-more, All-contains, filter_passes}
use Rattle.brace_core.specs.declared.name.Name.{Name}
use Rattle.brace_core.specs.declared.name.Turn.TheVariants.{Take, Done}
use Rattle.brace_core.specs.declared.turn.Went.{Went}
use Rattle.brace_core.specs.declared.turn.Went.TheVariants as went
use Rattle.brace_core.specs.Schedule.{Schedule, front, lane, turns, turn_at}
use Rattle.brace_core.specs.Exchanges.{IsCounted, WentBy, made_by, put_by, taken_by}
use Rattle.brace_core.proofs.ActorLemmas.{all_set, map_kept, left_smaller}
use Rattle.brace_core.proofs.Fronts.{front_lawful, due_same, counted_front}
use Rattle.brace_core.proofs.Owners.{own_turns, done_past, left_before}
use Rattle.brace_core.proofs.Counted.{counted_still, puts_none, takes_none, all_put, all_taken}
use Rattle.brace_lanes.specs.declared.table.View.{View}
use Rattle.brace_lanes.specs.Seats.{OnSeat, IsSameSeat, IsLater, puts_of, takes_of, misses_of}
use Rattle.brace_lanes.specs.Views.{Serves}
use Rattle.brace_pieces.specs.declared.setting.Setting.{Setting}
use Rattle.brace_pieces.specs.Steps.{schedule}
use Rattle.brace_pieces.specs.Courses.{past_of}
use Rattle.brace_pieces.proofs.ScheduleLemmas.{schedule_lawful}
use Rattle.brace_crew.specs.declared.member.Member.{Member}
use Rattle.brace_crew.specs.Members.{course_of, kept_of, next_of, turns_to, IsDone, IsWithin, IsAt}
use Rattle.brace_crew.specs.Benches.{served_by, IsUnused, IsUsedTo, AreServed, Waits, AreWaiting}
use Rattle.brace_crew.specs.inner.Driven.{Counts, AreCounted, AreSame, WentAll, turns_left, both}
use Rattle.brace_crew.proofs.MemberLemmas.{of_all_map, kept_rise}
use Rattle.brace_crew.proofs.RunMembers.{all_same, same_of}
use Rattle.brace_num.proofs.Lists.{in_filter}
use Rattle.brace_num.proofs.Rows.{row_has}

-- ---- what a seat counts of all members

same_served : (v w : View Setting) → IsSameSeat v w → served_by w ≡ served_by v
same_served v w same =
    ap (λ n. filter (λ a. a % w.seats == w.number) (range_with_len 0 n)) same.actors
    ∙ ap (λ k. filter (λ a. a % k == w.number) (range_with_len 0 v.actors)) same.seats
    ∙ ap (λ k. filter (λ a. a % v.seats == k) (range_with_len 0 v.actors)) same.number

serves_still : (v w : View Setting) → IsSameSeat v w → (a : ℕ) → Serves v a → Serves w a
serves_still v w same a serves = ap (λ k. a % k) same.seats ∙ serves ∙ sym same.number

-- a seat put all names of an actor in the first steps, so many, and took all
abbrev AllUsed : ℕ → View Setting → ℕ → Type 0
AllUsed end v a =
    ((q : ℕ) → puts_of v a q ≡ length (lane (front (schedule v.setting) end) a q))
    × ((q : ℕ) → takes_of v q a ≡ length (lane (front (schedule v.setting) end) q a))

module _ {P : Type 0} where
  abbrev number_of : Member P → ℕ
  number_of m = (course_of m).actor

  -- members of two places have two numbers
  apart : (v : View Setting) (ms : List (Member P)) → map number_of ms ≡ served_by v → (i j : ℕ) (d : Member P) → i < length ms → j < length ms → (i ≡ j → ⊥)
      → number_of (get_or ms i d) ≡ number_of (get_or ms j d) → ⊥
  apart v ms numbers i j d i_low j_low other same =
      let n : ℕ = v.actors in
      let f : ℕ → Bool = λ a. a % v.seats == v.number in
      let long : length (filter f (range_with_len 0 n)) ≡ length ms = ap length (sym numbers) ∙ length-map ms number_of in
      let at_i : number_of (get_or ms i d) ≡ get_or (filter f (range_with_len 0 n)) i 0 = sym (get_or-map number_of ms i d 0 i_low) ∙ ap (λ ns. get_or ns i 0) numbers in
      let at_j : number_of (get_or ms j d) ≡ get_or (filter f (range_with_len 0 n)) j 0 = sym (get_or-map number_of ms j d 0 j_low) ∙ ap (λ ns. get_or ns j 0) numbers in
      elim (cases_lt i j) [
        | inl up ↦ let less = kept_rise f n 0 i j 0 up (omega (arith, long, j_low)) in omega (arith, less, same, at_i, at_j)
        | inr down ↦ let less = kept_rise f n 0 j i 0 (omega (arith, down, other)) (omega (arith, long, i_low)) in omega (arith, less, same, at_i, at_j)
      ]

  -- one member went on, and the counts of all others are left
  pub all_counted : (end : ℕ) (v w : View Setting) (ms : List (Member P)) (i : ℕ) (m n : Member P) (by : Went) → AreCounted v ms → IsSameSeat v w → i < length ms → m ≡ get_or ms i m
      → number_of n ≡ number_of m → Counts w n → ((p q : ℕ) → puts_of w p q ≡ puts_of v p q + put_by (made_by (next_of end m) by) p q)
      → ((p q : ℕ) → takes_of w p q ≡ takes_of v p q + taken_by (made_by (next_of end m) by) p q) → AreCounted w (set ms i n)
  all_counted end v w ms i m n by counted seat low at same here put taken = record {
    numbers = map_kept number_of ms i m n at same ∙ counted.numbers ∙ sym (same_served v w seat);
    counted = each;
  }
    where
      still : (x : Member P) → (number_of x ≡ number_of m → ⊥) → Counts v x → Counts w x
      still x two (setting, is) =
          let a : ℕ = number_of x in
          let past : ℕ = past_of (course_of x) in
          let plan : Schedule = front (schedule (course_of m).setting) end in (
            setting ∙ sym seat.setting,
            counted_still (schedule v.setting) a past (Serves v) (puts_of v) (takes_of v) is (schedule w.setting) a past (Serves w) (puts_of w) (takes_of w) (ap schedule seat.setting) refl
                (serves_still v w seat a is.served) refl
                (λ q. let none = puts_none plan (number_of m) (past_of (course_of m)) a q two by in omega (arith, put a q, none))
                (λ q. let none = takes_none plan (number_of m) (past_of (course_of m)) q a two by in omega (arith, taken q a, none)),
          )

      each : All (Counts w) (set ms i n)
      each k d k_low =
          let long : length (set ms i n) ≡ length ms = length-set ms i n in
          elim (cases_eq k i) [
            | inl is ↦ subst (λ j. Counts w (get_or (set ms i n) j d)) (sym is) (subst (Counts w) (sym (get_or-set_same ms i n d low)) here)
            | inr other ↦
                let x : Member P = get_or ms k d in
                let k_in : k < length ms = omega (arith, long, k_low) in
                let m_at : get_or ms i d ≡ m = sym (get_or_default ms i m d low) ∙ sym at in
                let two : number_of x ≡ number_of m → ⊥ = λ e. apart v ms counted.numbers k i d k_in low other (e ∙ ap number_of (sym m_at)) in
                subst (Counts w) (sym (get_or-set_other ms i k n d other)) (still x two (counted.counted k d k_in))
          ]

  -- ---- before the first turn, and behind the last

  pub counted_first : (v : View Setting) (ms : List (Member P)) → AreServed v ms → IsUnused v → AreCounted v ms
  counted_first v ms are unused = record { numbers = are.numbers; counted = each }
    where
      served : All (λ m. (number_of m % v.seats == v.number) ≡ true) ms
      served = of_all_map number_of (λ a. (a % v.seats == v.number) ≡ true) ms
          (subst (All (λ a. (a % v.seats == v.number) ≡ true)) (sym are.numbers) (filter_passes (λ a. a % v.seats == v.number) (range_with_len 0 v.actors)))

      each : All (Counts v) ms
      each k d low =
          let m : Member P = get_or ms k d in
          let a : ℕ = number_of m in (
            are.settings k d low,
            subst (λ n. IsCounted (schedule v.setting) a n (Serves v) (puts_of v) (takes_of v)) (sym (are.first_turns k d low))
                (record { served = eqb-true (a % v.seats) v.number (served k d low); put = λ q. unused.nothing_put a q; taken = λ q. unused.nothing_taken q a }),
          )

  -- who has no turn left in the first steps, and made none behind them, stands at their end
  pub at_end : (end : ℕ) (m : Member P) → IsWithin end m → IsDone end m → IsAt end m
  at_end end m within done =
      let plan : Schedule = front (schedule (course_of m).setting) end in
      let over : turns_to end m ≤ past_of (course_of m) = done_past (number_of m) (turns plan (number_of m)) (past_of (course_of m)) (own_turns 0 plan.actors plan.steps (number_of m)) done in
      omega (arith, over, within)

  pub all_at_end : (end : ℕ) (ms : List (Member P)) → All (IsWithin end) ms → All (IsDone end) ms → All (IsAt end) ms
  all_at_end end ms within done k d low = at_end end (get_or ms k d) (within k d low) (done k d low)

  pub used_to : (end : ℕ) (v : View Setting) (ms : List (Member P)) → AreCounted v ms → All (IsAt end) ms → IsUsedTo end v
  used_to end v ms are come = record {
    all_put = λ a q low serves. (at a low serves).0 q;
    all_taken = λ a q low serves. (at a low serves).1 q;
  }
    where
      each : All (λ m. AllUsed end v (number_of m)) ms
      each k d low =
          let m : Member P = get_or ms k d in
          let a : ℕ = number_of m in
          let past : ℕ = past_of (course_of m) in
          let plan : Schedule = front (schedule v.setting) end in
          let (setting, is) = are.counted k d low in
          let long : past ≡ length (turns plan a) = come k d low ∙ ap (λ (s : Setting). length (turns (front (schedule s) end) a)) setting in
          let over : turn_at plan a past ≡ Done = get_or_past (turns plan a) past Done (omega (arith, long)) in
          let counted = counted_front (schedule v.setting) end a past (Serves v) (puts_of v) (takes_of v) (omega (arith, long)) is in
          let lawful = front_lawful (schedule v.setting) end (schedule_lawful v.setting) in (
            all_put plan a past (Serves v) (puts_of v) (takes_of v) counted lawful over,
            all_taken plan a past (Serves v) (puts_of v) (takes_of v) counted lawful over,
          )

      at : (a : ℕ) → a < v.actors → Serves v a → AllUsed end v a
      at a low serves =
          let has : Contains (served_by v) a = in_filter (λ b. b % v.seats == v.number) (range_with_len 0 v.actors) a (row_has 0 v.actors a (omega arith) (omega (arith, low))) (eq-eqb (a % v.seats) v.number serves) in
          All-contains (AllUsed end v) (served_by v) a (subst (All (AllUsed end v)) are.numbers (All-map (AllUsed end v) number_of ms each)) has

  -- members that stand where they stood are counted still
  pub still_counted : (v : View Setting) (ms ns : List (Member P)) → map course_of ns ≡ map course_of ms → AreCounted v ms → AreCounted v ns
  still_counted v ms ns same are = record {
    numbers = same_of course_of (λ c. c.actor) ms ns same ∙ are.numbers;
    counted = all_same course_of (λ c. (c.setting ≡ v.setting) × IsCounted (schedule v.setting) c.actor (past_of c) (Serves v) (puts_of v) (takes_of v)) ms ns same are.counted;
  }

  -- ---- a later time

  pub same_members : (ms : List (Member P)) (i : ℕ) (m n : Member P) → m ≡ get_or ms i m → (course_of n).setting ≡ (course_of m).setting → number_of n ≡ number_of m
      → kept_of n ≡ kept_of m → AreSame ms (set ms i n)
  same_members ms i m n at setting number opening = record {
    settings = map_kept (λ m. (course_of m).setting) ms i m n at setting;
    numbers = map_kept number_of ms i m n at number;
    kept = map_kept kept_of ms i m n at opening;
  }

  pub same_count : (ms ns : List (Member P)) → AreSame ms ns → length ns ≡ length ms
  same_count ms ns same = sym (length-map ns number_of) ∙ ap length same.numbers ∙ length-map ms number_of

  pub same_on : (ms ns os : List (Member P)) → AreSame ms ns → AreSame ns os → AreSame ms os
  same_on ms ns os one two = record { settings = two.settings ∙ one.settings; numbers = two.numbers ∙ one.numbers; kept = two.kept ∙ one.kept }

pub later_on : {S : Type 0} (u v w : OnSeat S) → IsLater u v → IsLater v w → IsLater u w
later_on u v w one two = record {
  lanes = two.lanes ∙ one.lanes;
  same = record {
    setting = two.same.setting ∙ one.same.setting;
    actors = two.same.actors ∙ one.same.actors;
    seats = two.same.seats ∙ one.same.seats;
    number = two.same.number ∙ one.same.number;
  };
  misses = λ p q. let a = one.misses p q in let b = two.misses p q in omega (arith, a, b);
}

-- ---- how members went on

module _ {P : Type 0} (end : ℕ) where
  abbrev WaitsOne : View Setting → View Setting → Member P → Type 0
  WaitsOne v w m = (IsDone end m → ⊥) → Waits end v w 1 m

  -- how one member went on
  abbrev WentOne : View Setting → View Setting → Member P → Member P → Went → Type 0
  WentOne v w m n by = WentBy (λ x. past_of (course_of x)) (λ (name : Name). misses_of v name.from name.to + 1 ≤ misses_of w name.from name.to) (next_of end m) m n by

  waits_open : (v w : View Setting) (k : ℕ) (m : Member P) → Waits end v w k m → IsDone end m → ⊥
  waits_open v w k m (name, is, few) done = let no : Take name ≡ Done = sym is ∙ done in absurd cc

  waits_longer : (u v w : View Setting) (k : ℕ) (m : Member P) → ((p q : ℕ) → misses_of v p q ≤ misses_of w p q) → Waits end u v k m → Waits end u w k m
  waits_longer u v w k m more (name, is, few) = (name, is, (let up = more name.from name.to in omega (arith, up, few)))

  waits_before : (u v w : View Setting) (k : ℕ) (m : Member P) → ((p q : ℕ) → misses_of u p q ≤ misses_of v p q) → Waits end v w k m → Waits end u w k m
  waits_before u v w k m more (name, is, few) = (name, is, (let up = more name.from name.to in omega (arith, up, few)))

  all_weaker : (Q R : Member P → Type 0) → ((m : Member P) → Q m → R m) → (ms : List (Member P)) → All Q ms → All R ms
  all_weaker Q R weaker ms all k d low = weaker (get_or ms k d) (all k d low)

  module _ (u v w : View Setting) (before : (p q : ℕ) → misses_of u p q ≤ misses_of v p q) (more : (p q : ℕ) → misses_of v p q ≤ misses_of w p q)
      (ms ns : List (Member P)) (i : ℕ) (m n : Member P) (low : i < length ns) (at : m ≡ get_or ns i m)
      (setting : (course_of n).setting ≡ (course_of m).setting) (number : (course_of n).actor ≡ (course_of m).actor) where
    still : n ≡ m → set ns i n ≡ ns
    still is = ap (set ns i) (is ∙ at) ∙ set-get_or ns i m

    sum_on : WentOne v w m n went.On → sum_by turns_left (set ns i n) < sum_by turns_left ns
    sum_on (on, some) = left_smaller (λ x. (course_of x).setting) (λ x. (course_of x).actor) (λ x. past_of (course_of x)) schedule ns i m n low at setting number on
        (λ done. some (sym (due_same (schedule (course_of m).setting) end (course_of m).actor (past_of (course_of m)) some) ∙ done))

    -- and made no turn behind the end
    within_one : (by : Went) → WentOne v w m n by → IsWithin end m → IsWithin end n
    within_one went.On (on, some) within =
        let ts = turns (front (schedule (course_of m).setting) end) (course_of m).actor in
        let left : past_of (course_of m) < length ts = left_before ts (past_of (course_of m)) some in
        let same : turns_to end n ≡ length ts =
        ap (λ (s : Setting). length (turns (front (schedule s) end) (course_of n).actor)) setting
        ∙ ap (λ a. length (turns (front (schedule (course_of m).setting) end) a)) number in
        omega (arith, on, left, same)
    within_one went.Nowhere (is, rest) within = subst (IsWithin end) (sym is) within
    within_one went.Over (is, rest) within = subst (IsWithin end) (sym is) within

    pub within_on : (by : Went) → WentOne v w m n by → All (IsWithin end) ns → All (IsWithin end) (set ns i n)
    within_on by went all = all_set (IsWithin end) ns i n all (within_one by went (subst (IsWithin end) (sym at) (all i m low)))

    long_as : ns ≡ ms → i < length ms
    long_as is = subst (λ xs. i < length xs) is low

    at_of : ns ≡ ms → m ≡ get_or ms i m
    at_of is = at ∙ ap (λ xs. get_or xs i m) is

    on_where_still : ns ≡ ms → WentOne v w m n went.On → WentAll end u ms w (set ns i n) (i + 1) went.On
    on_where_still is by = subst (λ xs. sum_by turns_left (set ns i n) < sum_by turns_left xs) is (sum_on by)

    one_more : (Q : Member P → Type 0) → ns ≡ ms → All Q (take i ms) → Q m → All Q (take (i + 1) ms)
    one_more Q is all here = All-more Q ms i m (long_as is) all (subst Q (at_of is) here)

    pub went_more : (all one : Went) → WentAll end u ms v ns i all → WentOne v w m n one → WentAll end u ms w (set ns i n) (i + 1) (both all one)
    went_more went.On went.On less by = let less' = sum_on by in omega (arith, less, less')
    went_more went.On went.Nowhere less (is, waits) = subst (λ xs. sum_by turns_left xs < sum_by turns_left ms) (sym (still is)) less
    went_more went.On went.Over less (is, rest) = subst (λ xs. sum_by turns_left xs < sum_by turns_left ms) (sym (still is)) less
    went_more went.Nowhere went.On (is, some, waits) by = on_where_still is by
    went_more went.Nowhere went.Nowhere (is, some, waits) (same_one, waits_here) = (
      still same_one ∙ is,
      some,
      one_more (WaitsOne u w) is (all_weaker (WaitsOne u v) (WaitsOne u w) (λ x longer going. waits_longer u v w 1 x more (longer going)) (take i ms) waits) (λ going. waits_before u v w 1 m before waits_here),
    )
    went_more went.Nowhere went.Over (is, some, waits) (same_one, done) = (
      still same_one ∙ is,
      some,
      one_more (WaitsOne u w) is (all_weaker (WaitsOne u v) (WaitsOne u w) (λ x longer going. waits_longer u v w 1 x more (longer going)) (take i ms) waits) (λ going. absurd (going done)),
    )
    went_more went.Over went.On (is, done) by = on_where_still is by
    went_more went.Over went.Nowhere (is, done) (same_one, waits_here) = (
      still same_one ∙ is,
      (λ all. waits_open v w 1 m waits_here (subst (IsDone end) (sym (at_of is)) (all i m (long_as is)))),
      one_more (WaitsOne u w) is (all_weaker (IsDone end) (WaitsOne u w) (λ x over going. absurd (going over)) (take i ms) done) (λ going. waits_before u v w 1 m before waits_here),
    )
    went_more went.Over went.Over (is, done) (same_one, over) = (still same_one ∙ is, one_more (IsDone end) is done over)

  -- all went on
  pub went_through : (u w : View Setting) (ms ns : List (Member P)) (i : ℕ) (all : Went) → length ms ≤ i → i ≤ length ms → WentAll end u ms w ns i all → WentAll end u ms w ns (length ms) all
  went_through u w ms ns i all high low went = let is : i ≡ length ms = omega (arith, high, low) in subst (λ k. WentAll end u ms w ns k all) is went

  pub over_done : (u w : View Setting) (ms ns : List (Member P)) → WentAll end u ms w ns (length ms) went.Over → All (IsDone end) ns
  over_done u w ms ns (is, done) = subst (All (IsDone end)) (take_all (length ms) ms (omega arith) ∙ sym is) done

  -- ---- rounds that lead nowhere

  pub waits_more : (u v w : View Setting) (idle : ℕ) (ms ns : List (Member P)) → ((p q : ℕ) → misses_of u p q ≤ misses_of v p q)
      → (0 < idle → AreWaiting end u v idle ms) → WentAll end v ms w ns (length ms) went.Nowhere → AreWaiting end u w (idle + 1) ns
  waits_more u v w idle ms ns before waited (is, some, waits) = subst (AreWaiting end u w (idle + 1)) (sym is) (record { is_left = some; waits = each })
    where
      now : All (WaitsOne v w) ms
      now = subst (All (WaitsOne v w)) (take_all (length ms) ms (omega arith)) waits

      longer : (m : Member P) → Waits end u v idle m → Waits end v w 1 m → Waits end u w (idle + 1) m
      longer m (name, is, few) (other, is', few') =
          let same : name ≡ other = let takes : Take name ≡ Take other = sym is ∙ is' in cc in
          let more : misses_of v name.from name.to + 1 ≤ misses_of w name.from name.to = subst (λ (n : Name). misses_of v n.from n.to + 1 ≤ misses_of w n.from n.to) (sym same) few' in
          (name, is, omega (arith, few, more))

      one : (m : Member P) → Waits end v w 1 m → idle ≡ 0 → Waits end u w (idle + 1) m
      one m (name, is, few) none = (name, is, (let low = before name.from name.to in omega (arith, low, few, none)))

      each : All (λ m. (IsDone end m → ⊥) → Waits end u w (idle + 1) m) ms
      each k d low going = elim (cases_lt 0 idle) [
        | inl some_idle ↦ longer (get_or ms k d) ((waited some_idle).waits k d low going) (now k d low going)
        | inr none ↦ one (get_or ms k d) (now k d low going) (omega (arith, none))
      ]
