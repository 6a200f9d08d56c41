-- The benches of a run at a later time.
use Rattle.std.proofs.Common.{◌≡◌, ◌∙◌, refl, sym, ap, subst, ℕ, ◌%◌, ◌<◌, ◌≤◌, List, [], ◌∷◌, map, length, get_or, set, None, arith, inl, inr}
use Rattle.std.specs.List.{All}
use Rattle.std.proofs.lemmas.Bool.{cases_eq}
use Rattle.std.proofs.lemmas.List.{length-map, length-set, get_or_default, get_or-map, get_or-set_same, get_or-set_other}
use Rattle.brace_core.specs.Schedule.{front, turns}
use Rattle.brace_lanes.specs.declared.table.View.{View}
use Rattle.brace_lanes.specs.Seats.{IsSameSeat}
use Rattle.brace_pieces.specs.declared.setting.Setting.{Setting}
use Rattle.brace_pieces.specs.Settings.{parts}
use Rattle.brace_pieces.specs.Courses.{past_of}
use Rattle.brace_pieces.specs.Steps.{steps, schedule}
use Rattle.brace_crew.specs.declared.member.Member.{Member}
use Rattle.brace_crew.specs.Members.{course_of, opening_of, HasTold, IsAt, IsLast, WasUntold}
use Rattle.brace_crew.specs.Benches.{OnBench, IsSameBench, IsUsedTo}
use Rattle.brace_crew.specs.Workers.{IsSeatOf}
use Rattle.brace_crew.specs.inner.Crews.{AreMembers, HaveDeskLast, all_numbers, served}
use Rattle.brace_crew.specs.inner.Teams.{IsTeam, HasCome, StaysWithin, AreLater, IsStill, AreStill}
use Rattle.brace_crew.proofs.FrontEnds.{all_within, all_last, told_last, first_untold}
use Rattle.brace_crew.proofs.MemberLemmas.{served_desk_last, served_parts}
use Rattle.brace_crew.proofs.RunMembers.{others_set, all_same, same_of, same_openings, still_untold}

same_seat : (v : View Setting) → IsSameSeat v v
same_seat v = record { setting = refl; actors = refl; seats = refl; number = refl }

still_seat : (a b c : View Setting) → IsSameSeat a b → IsSameSeat b c → IsSameSeat a c
still_seat a b c one two = record {
  setting = two.setting ∙ one.setting;
  actors = two.actors ∙ one.actors;
  seats = two.seats ∙ one.seats;
  number = two.number ∙ one.number;
}

module _ {P : Type 0} where
  -- members of one setting stay members of it
  settings_kept : (s : Setting) (ms ns : List (Member P)) → map (λ m. (course_of m).setting) ns ≡ map (λ m. (course_of m).setting) ms
      → All (λ m. (course_of m).setting ≡ s) ms → All (λ m. (course_of m).setting ≡ s) ns
  settings_kept s ms ns same all k d low =
      let f : Member P → Setting = λ m. (course_of m).setting in
      let long : length ns ≡ length ms = sym (length-map ns f) ∙ ap length same ∙ length-map ms f in
      let k_in : k < length ms = omega (arith, long, low) in
      sym (get_or-map f ns k d s low) ∙ ap (λ l. get_or l k s) same ∙ get_or-map f ms k d s k_in ∙ all k d k_in

  -- so do the members of a bench
  members_later : (s : Setting) (publisher : P) (numbers : List ℕ) (a b : OnBench P) → IsStill a b
      → AreMembers s publisher numbers a.members → AreMembers s publisher numbers b.members
  members_later s publisher numbers a b same are = record {
    settings = settings_kept s a.members b.members same.settings are.settings;
    numbered = same.numbers ∙ are.numbered;
    openings = same.openings ∙ are.openings;
  }

  seat_later : (s : Setting) (workers k : ℕ) (a b : OnBench P) → IsStill a b → IsSeatOf s workers k a.seat → IsSeatOf s workers k b.seat
  seat_later s workers k a b same is = record {
    setting_is = same.seat.setting ∙ is.setting_is;
    actors_are = same.seat.actors ∙ is.actors_are;
    seats_are = same.seat.seats ∙ is.seats_are;
    number_is = same.seat.number ∙ is.number_is;
  }

  abbrev members_of : OnBench P → List (Member P)
  members_of b = b.members

  -- a bench of some
  first_of : (xs : List (OnBench P)) (k : ℕ) → k < length xs → OnBench P
  first_of [] k low = absurd (omega (arith, low))
  first_of (x ∷ xs) k low = x

  -- the benches of a run stay its benches
  pub team_later : (s : Setting) (publisher : P) (workers : ℕ) (numbers : List ℕ) (xs ys : List (OnBench P))
      → IsTeam s publisher workers numbers xs → AreStill xs ys → IsTeam s publisher workers numbers ys
  team_later s publisher workers numbers xs ys team later = record {
    rosters = record { one_each = many; each = each };
    seats = λ k d low. seat_later s workers k (get_or xs k d) (get_or ys k d) (later.each k d (omega (arith, low, before))) (team.seats k d low);
    one_lanes = (
      team.one_lanes.0,
      λ k d low.
          let in_xs : k < length xs = omega (arith, low, later.one_each) in
          (later.each k d in_xs).lanes ∙ team.one_lanes.1 k d in_xs,
    );
  }
    where
      before : length xs ≡ workers
      before = sym (length-map xs members_of) ∙ team.rosters.one_each

      many : length (map members_of ys) ≡ workers
      many = length-map ys members_of ∙ later.one_each ∙ before

      each : (k : ℕ) (d : List (Member P)) → k < workers → AreMembers s publisher (served workers k numbers) (get_or (map members_of ys) k d)
      each k d low =
          let in_xs : k < length xs = omega (arith, low, before) in
          let in_ys : k < length ys = omega (arith, later.one_each, in_xs) in
          let e : OnBench P = first_of xs k in_xs in
          let here : AreMembers s publisher (served workers k numbers) (members_of (get_or xs k e)) =
          subst (AreMembers s publisher (served workers k numbers)) (get_or-map members_of xs k e d in_xs) (team.rosters.each k d low) in
          subst (AreMembers s publisher (served workers k numbers)) (sym (get_or-map members_of ys k e d in_ys))
          (members_later s publisher (served workers k numbers) (get_or xs k e) (get_or ys k e) (later.each k e in_xs) here)

  -- ---- a later time, and a time behind it

  bench_still : (b : OnBench P) → IsStill b b
  bench_still b = record { settings = refl; numbers = refl; openings = refl; lanes = refl; seat = same_seat b.seat }

  pub all_still : (xs : List (OnBench P)) → AreStill xs xs
  all_still xs = record { one_each = refl; each = λ k d low. bench_still (get_or xs k d) }

  later_still : (a b c : OnBench P) → IsStill a b → IsSameBench b c → IsStill a c
  later_still a b c one two = record {
    settings = two.settings ∙ one.settings;
    numbers = two.numbers ∙ one.numbers;
    openings = same_openings b.members c.members two.kept ∙ one.openings;
    lanes = two.lanes ∙ one.lanes;
    seat = still_seat a.seat b.seat c.seat one.seat two.seat;
  }

  pub still_later : (xs ys zs : List (OnBench P)) → AreStill xs ys → AreLater ys zs → AreStill xs zs
  still_later xs ys zs one two = record {
    one_each = two.one_each ∙ one.one_each;
    each = λ k d low. later_still (get_or xs k d) (get_or ys k d) (get_or zs k d) (one.each k d low) (two.each k d (omega (arith, one.one_each, low)));
  }

  still_on : (a b c : OnBench P) → IsStill a b → IsStill b c → IsStill a c
  still_on a b c one two = record {
    settings = two.settings ∙ one.settings;
    numbers = two.numbers ∙ one.numbers;
    openings = two.openings ∙ one.openings;
    lanes = two.lanes ∙ one.lanes;
    seat = still_seat a.seat b.seat c.seat one.seat two.seat;
  }

  pub still_further : (xs ys zs : List (OnBench P)) → AreStill xs ys → AreStill ys zs → AreStill xs zs
  still_further xs ys zs one two = record {
    one_each = two.one_each ∙ one.one_each;
    each = λ k d low. still_on (get_or xs k d) (get_or ys k d) (get_or zs k d) (one.each k d low) (two.each k d (omega (arith, one.one_each, low)));
  }

  bench_further : (a b c : OnBench P) → IsSameBench a b → IsSameBench b c → IsSameBench a c
  bench_further a b c one two = record {
    number = two.number ∙ one.number;
    settings = two.settings ∙ one.settings;
    numbers = two.numbers ∙ one.numbers;
    kept = two.kept ∙ one.kept;
    lanes = two.lanes ∙ one.lanes;
    seat = still_seat a.seat b.seat c.seat one.seat two.seat;
  }

  pub later_further : (xs ys zs : List (OnBench P)) → AreLater xs ys → AreLater ys zs → AreLater xs zs
  later_further xs ys zs one two = record {
    one_each = two.one_each ∙ one.one_each;
    each = λ k d low. bench_further (get_or xs k d) (get_or ys k d) (get_or zs k d) (one.each k d low) (two.each k d (omega (arith, one.one_each, low)));
  }

  -- none of them made a turn behind some steps
  pub still_within : (n : ℕ) (xs ys : List (OnBench P)) → AreLater xs ys
      → ((k : ℕ) (d : OnBench P) → k < length xs → StaysWithin n (get_or xs k d) → StaysWithin n (get_or ys k d))
      → All (StaysWithin n) xs → All (StaysWithin n) ys
  still_within n xs ys later still within k d low =
      let there : k < length xs = omega (arith, low, later.one_each) in
      still k d there (within k d there)

  -- ---- benches between two ends

  abbrev OfRun : Setting → OnBench P → Type 0
  OfRun s b = All (λ m. (course_of m).setting ≡ s) b.members

  pub team_long : (s : Setting) (publisher : P) (workers : ℕ) (xs : List (OnBench P)) → IsTeam s publisher workers (all_numbers s) xs → length xs ≡ workers
  team_long s publisher workers xs team = sym (length-map xs members_of) ∙ team.rosters.one_each

  bench_members : (s : Setting) (publisher : P) (workers : ℕ) (xs : List (OnBench P)) → IsTeam s publisher workers (all_numbers s) xs → (k : ℕ) (d : OnBench P) → k < length xs
      → AreMembers s publisher (served workers k (all_numbers s)) (get_or xs k d).members
  bench_members s publisher workers xs team k d low =
      subst (AreMembers s publisher (served workers k (all_numbers s))) (get_or-map members_of xs k d d.members low) (team.rosters.each k d.members (omega (arith, low, team_long s publisher workers xs team)))

  pub team_settings : (s : Setting) (publisher : P) (workers : ℕ) (xs : List (OnBench P)) → IsTeam s publisher workers (all_numbers s) xs → All (OfRun s) xs
  team_settings s publisher workers xs team k d low = (bench_members s publisher workers xs team k d low).settings

  pub benches_within : (m n : ℕ) → m ≤ n → (xs : List (OnBench P)) → All (HasCome m) xs → All (StaysWithin n) xs
  benches_within m n up xs come k d low = all_within m n up (get_or xs k d).members (come k d low).at

  pub benches_at : (n : ℕ) (xs : List (OnBench P)) → All (HasCome n) xs → All (λ b. All (IsAt n) b.members) xs
  benches_at n xs come k d low = (come k d low).at

  -- what their desk was seen to be it is still
  pub benches_untold : (s : Setting) (n : ℕ) (xs ys : List (OnBench P)) → AreLater xs ys → All (λ b. All (WasUntold s n) b.members) xs → All (λ b. All (WasUntold s n) b.members) ys
  benches_untold s n xs ys later untold k d low =
      let there : k < length xs = omega (arith, low, later.one_each) in
      still_untold s n (get_or xs k d).members (get_or ys k d).members (later.each k d there).kept (untold k d there)

  pub first_benches : (s : Setting) (xs : List (OnBench P)) → All (λ b. All (WasUntold s 0) b.members) xs
  first_benches s xs k d low i e l = first_untold s (get_or (get_or xs k d).members i e)

  pub benches_told : (s : Setting) (before n : ℕ) (xs : List (OnBench P)) → All (HasCome n) xs → All (λ b. All HasTold b.members) xs → All (λ b. All (WasUntold s before) b.members) xs
      → All (λ b. All (IsLast s before n) b.members) xs
  benches_told s before n xs come told untold k d low = told_last s before n (get_or xs k d).members (come k d low).at (told k d low) (untold k d low)

  pub benches_last : (s : Setting) (before n : ℕ) (xs : List (OnBench P)) → All (OfRun s) xs → n ≡ length (steps s) → All (HasCome n) xs → All (λ b. All (WasUntold s before) b.members) xs
      → All (λ b. All (IsLast s before n) b.members) xs
  benches_last s before n xs settings all come untold k d low = all_last s before n (get_or xs k d).members (settings k d low) all (come k d low).at (untold k d low)

  -- ---- one bench is asked whether its desk has told

  -- the benches of the others have none
  pub others_parts : (s : Setting) (publisher : P) (workers : ℕ) (xs : List (OnBench P)) → IsTeam s publisher workers (all_numbers s) xs → (k : ℕ) (d : OnBench P) → k < length xs → (parts s % workers ≡ k → ⊥)
      → All (λ m. opening_of m ≡ None) (get_or xs k d).members
  others_parts s publisher workers xs team k d low other = served_parts s publisher workers k (get_or xs k d).members other (bench_members s publisher workers xs team k d low)

  pub desk_bench : (s : Setting) (publisher : P) (workers : ℕ) (xs : List (OnBench P)) → IsTeam s publisher workers (all_numbers s) xs → (d : OnBench P) → parts s % workers < length xs → HaveDeskLast (get_or xs (parts s % workers) d).members
  desk_bench s publisher workers xs team d low = served_desk_last s publisher workers (get_or xs (parts s % workers) d).members (bench_members s publisher workers xs team (parts s % workers) d low)

  module _ (xs : List (OnBench P)) (w : ℕ) (a b : OnBench P) (low : w < length xs) (at : a ≡ get_or xs w a) where
    pub set_still : map course_of b.members ≡ map course_of a.members → map opening_of b.members ≡ map opening_of a.members → b.lanes ≡ a.lanes → b.seat ≡ a.seat → AreStill xs (set xs w b)
    set_still courses openings lanes seat = record { one_each = length-set xs w b; each = each }
      where
        still : IsStill a b
        still = record {
          settings = same_of course_of (λ c. c.setting) a.members b.members courses;
          numbers = same_of course_of (λ c. c.actor) a.members b.members courses;
          openings = openings;
          lanes = lanes;
          seat = subst (IsSameSeat a.seat) (sym seat) (same_seat a.seat);
        }

        each : (k : ℕ) (d : OnBench P) → k < length xs → IsStill (get_or xs k d) (get_or (set xs w b) k d)
        each k d within = elim (cases_eq k w) [
          | inl is ↦
              let there : get_or xs k d ≡ a = ap (λ j. get_or xs j d) is ∙ get_or_default xs w d a low ∙ sym at in
              let here : get_or (set xs w b) k d ≡ b = ap (λ j. get_or (set xs w b) j d) is ∙ get_or-set_same xs w b d low in
              subst (λ x. IsStill x (get_or (set xs w b) k d)) (sym there) (subst (IsStill a) (sym here) still)
          | inr other ↦ subst (IsStill (get_or xs k d)) (sym (get_or-set_other xs w k b d other)) (bench_still (get_or xs k d))
        ]

    pub set_come : (n : ℕ) → map course_of b.members ≡ map course_of a.members → b.seat ≡ a.seat → All (HasCome n) xs → All (HasCome n) (set xs w b)
    set_come n courses seat come = others_set (HasCome n) xs w b low here (λ k d within other. come k d within)
      where
        was : HasCome n a
        was = subst (HasCome n) (sym at) (come w a low)

        here : HasCome n b
        here = record {
          at = all_same course_of (λ c. past_of c ≡ length (turns (front (schedule c.setting) n) c.actor)) a.members b.members courses was.at;
          used_to = subst (IsUsedTo n) (sym seat) was.used_to;
        }
