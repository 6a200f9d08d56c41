-- The members of a run that is driven from end to end.
use Rattle.std.proofs.Common.{◌≡◌, ◌∙◌, refl, sym, ap, subst, ℕ, zero, suc, ◌+◌, ◌<◌, ◌≤◌, List, [], ◌∷◌, map, length, get_or, drop, slice_index, All, arith, inl, inr}
use Rattle.std.proofs.lemmas.List.{get_or_default}
use Rattle.brace_core.specs.Schedule.{front, turns}
use Rattle.brace_core.specs.Order.{StandsAt}
use Rattle.brace_core.proofs.ActorLemmas.{count, setting_at, number_at, past_at}
use Rattle.brace_core.proofs.Fronts.{longer}
use Rattle.brace_core.proofs.Starts.{no_turns, no_names}
use Rattle.brace_pieces.specs.declared.setting.Setting.{Setting}
use Rattle.brace_pieces.specs.Settings.{parts}
use Rattle.brace_pieces.specs.Steps.{steps, schedule}
use Rattle.brace_pieces.specs.Fronts.{OnFronts, to_show, steps_to}
use Rattle.brace_pieces.proofs.FrontLemmas.{shown_few, steps_over}
use Rattle.brace_pieces.specs.Courses.{past_of}
use Rattle.brace_crew.specs.declared.member.Member.{Member}
use Rattle.brace_crew.specs.declared.member.Member.TheVariants as member
use Rattle.brace_crew.specs.Members.{course_of, opening_of, kept_of, HasTold, IsAt, IsLast, IsWithin, WasUntold}
use Rattle.brace_crew.specs.Benches.{OnBench, IsUnused}
use Rattle.brace_crew.specs.Workers.{AreUsedTo}
use Rattle.brace_crew.specs.inner.Teams.{HasCome}
use Rattle.brace_crew.specs.inner.Crews.{AreMembers, AreNew, IsReached, AreEnded, HaveDeskLast, all_numbers}
use Rattle.brace_crew.proofs.MemberLemmas.{all_desk_last}
use Rattle.brace_crew.proofs.RunMembers.{same_of, same_openings, still_untold, are_later}

-- before its first step a run is at its first end
pub at_first : (s : Setting) (f : OnFronts) → f ≡ record { setting = s; number = 0 } → 0 ≡ f.number
at_first s f start = sym (ap (λ (h : OnFronts). h.number) start)

module _ {P : Type 0} where
  abbrev setting_of : Member P → Setting
  setting_of m = (course_of m).setting

  abbrev number_of : Member P → ℕ
  number_of m = (course_of m).actor

  abbrev past : Member P → ℕ
  past m = past_of (course_of m)

  -- before their first turns
  pub first_at : (members : List (Member P)) → AreNew members → All (IsAt 0) members
  first_at members new i d low = let m : Member P = get_or members i d in new i d low ∙ sym (no_turns (schedule (setting_of m)) (number_of m))

  pub come_first : (b : OnBench P) → AreNew b.members → IsUnused b.seat → HasCome 0 b
  come_first b new unused = record {
    at = first_at b.members new;
    used_to = record {
      all_put = λ a q low serves. unused.nothing_put a q ∙ sym (no_names (schedule b.seat.setting) a q);
      all_taken = λ a q low serves. unused.nothing_taken q a ∙ sym (no_names (schedule b.seat.setting) q a);
    };
  }

  pub first_pasts : (members : List (Member P)) → AreNew members → (p : ℕ) → slice_index (map past members) p ≡ 0
  first_pasts [] new p = refl
  first_pasts (m ∷ members) new zero = new 0 m (omega arith)
  first_pasts (m ∷ members) new (suc p) = first_pasts members (λ i d l. new (suc i) d (omega (arith, l))) p

  -- all stand at the end of the first steps, as the drivers count it
  pub all_at : (s : Setting) (n : ℕ) (members : List (Member P)) (puts takes : ℕ → ℕ → ℕ) → All (λ m. setting_of m ≡ s) members → map number_of members ≡ all_numbers s
      → StandsAt (schedule s) n (map past members) puts takes → All (IsAt n) members
  all_at s n members puts takes settings numbers at i d low =
      let m : Member P = get_or members i d in
      let here : m ≡ get_or members i m = get_or_default members i d m low in
      let many = count setting_of number_of past schedule members s (parts s + 1) settings numbers in
      let p_low : i < parts s + 1 = omega (arith, low, many) in
      past_at setting_of number_of past schedule members s (parts s + 1) settings numbers i p_low m here
      ∙ at.places i p_low
      ∙ sym (ap (λ a. length (turns (front (schedule s) n) a)) (number_at setting_of number_of past schedule members s (parts s + 1) settings numbers i p_low m here))
      ∙ sym (ap (λ r. length (turns (front (schedule r) n) (number_of m))) (setting_at setting_of number_of past schedule members s (parts s + 1) settings numbers i p_low m here))

  -- at the end of fewer steps they made no turn behind more
  pub all_within : (m n : ℕ) → m ≤ n → (members : List (Member P)) → All (IsAt m) members → All (IsWithin n) members
  all_within m n up members at i d low =
      let x : Member P = get_or members i d in
      let more = longer (schedule (setting_of x)) m n (number_of x) up in
      omega (arith, more, at i d low)

  -- where no step is left the run ends
  pub all_last : (s : Setting) (before n : ℕ) (members : List (Member P)) → All (λ m. setting_of m ≡ s) members → n ≡ length (steps s) → All (IsAt n) members → All (WasUntold s before) members → All (IsLast s before n) members
  all_last s before n members settings all at untold i d low = (at i d low, (inr (all ∙ ap (λ r. length (steps r)) (sym (settings i d low))), untold i d low))

  -- and where its desk has told
  pub told_last : (s : Setting) (before n : ℕ) (members : List (Member P)) → All (IsAt n) members → All HasTold members → All (WasUntold s before) members → All (IsLast s before n) members
  told_last s before n members at told untold i d low = (at i d low, (inl (told i d low), untold i d low))

  -- before the first step nobody has told
  pub first_untold : (s : Setting) (m : Member P) → WasUntold s 0 m
  first_untold s (member.Part p) = tt
  first_untold s (member.Desk d) = omega (arith, shown_few s 0)

  -- ---- between two ends

  pub record IsBetween (s : Setting) (n : ℕ) (first members : List (Member P)) : Type 0 where
    pub same_settings : map setting_of members ≡ map setting_of first
    pub same_numbers : map number_of members ≡ map number_of first
    pub same_openings : map opening_of members ≡ map opening_of first
    pub count : ℕ
    pub reached : n ≡ steps_to s count
    pub untold : All (WasUntold s n) members

  -- ---- the drive from one end to the next

  pub record IsDriven (s : Setting) (first members after : List (Member P)) (m n : ℕ)
      (puts takes : ℕ → ℕ → ℕ) : Type 0 where
    pub so : IsBetween s m first members
    pub place : n ≡ m + to_show (drop m (steps s))
    pub within : n ≤ length (steps s)
    pub settings : map setting_of after ≡ map setting_of members
    pub numbers : map number_of after ≡ map number_of members
    pub kept : map kept_of after ≡ map kept_of members
    pub stands : StandsAt (schedule s) n (map past after) puts takes

  -- as a run through plain lanes or links knows it
  pub is_driven : (s : Setting) (first members after : List (Member P)) (f h : OnFronts)
      (puts takes : ℕ → ℕ → ℕ) → IsBetween s f.number first members → f.setting ≡ s
      → h.number ≡ f.number + to_show (drop f.number (steps f.setting))
      → h.number ≤ length (steps f.setting) → map setting_of after ≡ map setting_of members
      → map number_of after ≡ map number_of members → map kept_of after ≡ map kept_of members
      → StandsAt (schedule s) h.number (map past after) puts takes
      → IsDriven s first members after f.number h.number puts takes
  is_driven s first members after f h puts takes so of place within same ids kept at = record {
    so = so;
    place = place ∙ ap (λ r. f.number + to_show (drop f.number (steps r))) of;
    within = subst (λ r. h.number ≤ length (steps r)) of within;
    settings = same;
    numbers = ids;
    kept = kept;
    stands = at;
  }

  -- before its first step a run is between two ends
  pub between_first : (s : Setting) (members : List (Member P)) (f : OnFronts)
      → f ≡ record { setting = s; number = 0 } → IsBetween s f.number members members
  between_first s members f start = subst (λ n. IsBetween s n members members) (at_first s f start)
      (record {
        same_settings = refl;
        same_numbers = refl;
        same_openings = refl;
        count = 0;
        reached = refl;
        untold = λ i d low. first_untold s (get_or members i d);
      })

  -- between two ends they are the members of the run
  pub still : {s : Setting} {publisher : P} {n : ℕ} {first members : List (Member P)}
      → AreMembers s publisher (all_numbers s) first → IsBetween s n first members
      → AreMembers s publisher (all_numbers s) members
  still {s} {publisher} {n} {first} {members} are so =
      are_later s publisher (all_numbers s) first members are so.same_settings so.same_numbers
      so.same_openings

-- a run that was driven on to the next end
pub reached_to : (s : Setting) (m n count : ℕ) → m ≡ steps_to s count → n ≡ m + to_show (drop m (steps s)) → (at : IsReached s n) × (at.before ≡ m)
reached_to s m n count was place = (record { before = m; count = count; was = was; is = place ∙ ap (λ k. k + to_show (drop k (steps s))) was }, refl)

-- and one of which no step is left
pub reached_all : (s : Setting) (n count : ℕ) → n ≡ steps_to s count → n ≡ length (steps s) → (at : IsReached s n) × (at.before ≡ n)
reached_all s n count is all = (record { before = n; count = count; was = is; is = all ∙ sym (steps_over s count (suc count) (omega arith) (sym is ∙ all)) }, refl)

-- what a run through plain lanes or links knows behind the drive to an end
module _ {P : Type 0} {s : Setting} {publisher : P} {first members after : List (Member P)}
    {m n : ℕ} {puts takes : ℕ → ℕ → ℕ} (are : AreMembers s publisher (all_numbers s) first)
    (d : IsDriven s first members after m n puts takes) where
  openings : map opening_of after ≡ map opening_of first
  openings = same_openings members after d.kept ∙ d.so.same_openings

  now : AreMembers s publisher (all_numbers s) after
  now = are_later s publisher (all_numbers s) first after are (d.settings ∙ d.so.same_settings)
      (d.numbers ∙ d.so.same_numbers) openings

  at_next : All (IsAt n) after
  at_next = all_at s n after puts takes now.settings now.numbered d.stands

  pub has_desk_last : HaveDeskLast after
  has_desk_last = all_desk_last s publisher after now

  -- the run goes on
  pub goes_between : (last : List (Member P)) → map course_of last ≡ map course_of after → map opening_of last ≡ map opening_of after
      → ((r : Setting) (k : ℕ) → k ≤ length (steps r) → All (λ m. setting_of m ≡ r) after → All (IsAt k) after → All (WasUntold r k) last) → IsBetween s n first last
  goes_between last courses opened untold = record {
    same_settings = same_of course_of (λ c. c.setting) after last courses ∙ d.settings
        ∙ d.so.same_settings;
    same_numbers = same_of course_of (λ c. c.actor) after last courses ∙ d.numbers
        ∙ d.so.same_numbers;
    same_openings = opened ∙ openings;
    count = suc d.so.count;
    reached = d.place ∙ ap (λ k. k + to_show (drop k (steps s))) d.so.reached;
    untold = untold s n d.within now.settings at_next;
  }

  -- or ends there
  pub ends_told : (last : List (Member P)) → last ≡ after → All HasTold last
      → (map setting_of last ≡ map setting_of first) × (map number_of last ≡ map number_of first) × (map opening_of last ≡ map opening_of first) × AreEnded s n last
  ends_told last same told =
      let (at, back) = reached_to s m n d.so.count d.so.reached d.place in
      let all = told_last s m n after at_next (subst (All HasTold) same told)
      (still_untold s m members after d.kept d.so.untold) in
      subst (λ ms. (map setting_of ms ≡ map setting_of first) × (map number_of ms ≡ map number_of first) × (map opening_of ms ≡ map opening_of first) × AreEnded s n ms) (sym same) (
        d.settings ∙ d.so.same_settings,
        d.numbers ∙ d.so.same_numbers,
        openings,
        record { reached = at; last = subst (λ k. All (IsLast s k n) after) (sym back) all },
      )

-- and where no step is left
pub ends_last : {P : Type 0} {s : Setting} {publisher : P} {first members : List (Member P)}
    {n : ℕ} {puts takes : ℕ → ℕ → ℕ} → AreMembers s publisher (all_numbers s) first
    → IsBetween s n first members → StandsAt (schedule s) n (map past members) puts takes
    → n ≡ length (steps s) → AreEnded s n members
ends_last {s = s} {members = members} {n = n} {puts = puts} {takes = takes} are so stands all =
    let here = still are so in
    let (reached, same) = reached_all s n so.count so.reached all in
    let at = all_at s n members puts takes here.settings here.numbered stands in
    record {
      reached = reached;
      last = subst (λ k. All (IsLast s k n) members) (sym same)
          (all_last s n n members here.settings all at so.untold);
    }

-- where it ends, the lanes are used to there
pub used_there : (s : Setting) {n : ℕ} {pasts : List ℕ} {puts takes : ℕ → ℕ → ℕ}
    → StandsAt (schedule s) n pasts puts takes → AreUsedTo s n puts takes
used_there s stands = record { all_put = stands.put; all_taken = stands.taken }
