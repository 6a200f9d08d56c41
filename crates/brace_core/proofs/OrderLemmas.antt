-- The loop over drawn events: where actors and lanes stand after a run, one event more, and the end.
use Rattle.std.proofs.Common.{◌≡◌, ℕ, ◌+◌, ◌-◌, ◌*◌, ◌/◌, ◌%◌, ◌^◌, ◌<◌, ◌≤◌, Bool, true, false, cond, ◌==◌, ◌&&◌, nat_lt, List, [], ◌∷◌, ◌++◌, map, length, get_or, set, slice_index, refl, sym, ap, ◌∙◌, subst, arith, inl, inr}
use Rattle.std.specs.List.{All, range_with_len, sum_by}
use Rattle.std.proofs.lemmas.Bool.{eq-eqb, ne_eqb, and_parts, lt-ltb, ltb-true, cases_lt, cases_eq, cond-true, cond-false}
use Rattle.std.proofs.lemmas.List.{get_or-set_same, get_or-set_other, length-map, map-set}
use Rattle.std.proofs.lemmas.Nat.{mod-mul-add}
use Rattle.brace_num.specs.Generator.{following}
use Rattle.brace_core.specs.declared.name.Turn.{Turn}
use Rattle.brace_core.specs.declared.name.Turn.TheVariants.{Take, Done}
use Rattle.brace_core.specs.declared.turn.Went.{Went}
use Rattle.brace_core.specs.declared.turn.Went.TheVariants.{On, Nowhere, Over}
use Rattle.brace_core.specs.Schedule.{Schedule, IsLawful, front, lane, turns, turn_at}
use Rattle.brace_core.specs.Events.{State, opening, next, is_ready, is_enabled, AllDone, IsRun, end_of, put_on, taken_from}
use Rattle.brace_core.specs.Exchanges.{IsCounted, WentBy, made_by, put_by, taken_by, turns_left}
use Rattle.brace_core.specs.Lanes.{OnLanes, puts_of, takes_of}
use Rattle.brace_core.specs.Order.{IsChosen, IsDrawn, none, one_more, StandsAfter, StandsAt, HasRun}
use Rattle.brace_core.specs.inner.Turns.{can_make, IsFirst}
use Rattle.brace_core.proofs.ActorLemmas.{count, setting_at, number_at, past_at, turn_is, all_set, map_kept, left_smaller}
use Rattle.brace_core.proofs.Turns.{put_first, taken_first}
use Rattle.brace_core.proofs.Counted.{moved}
use Rattle.brace_core.proofs.Owners.{own_turns, done_past}
use Rattle.brace_core.proofs.CoreLaw.{kept, put_is, taken_is, progress, all_put, all_taken}
use Rattle.brace_core.proofs.Fronts.{front_lawful, counted_whole}
use Rattle.brace_core.proofs.Starts.{start_run}
use Rattle.brace_core.proofs.Calls.{take_is_found, end_more, run_more, put_on_more, taken_from_more}

pub drawn_run : (s : Schedule) (order : ℕ) (before events : List ℕ) (g : ℕ) → IsRun s before → IsDrawn s order before events g → IsRun s events
drawn_run s order before _ _ run none = run
drawn_run s order before _ _ run (one_more events g p drawn chosen) = run_more s opening events p (drawn_run s order before events g run drawn) chosen.enabled

-- from a drawn number onward each number is met
pub met_from : (drawn n p : ℕ) → p < n → (i : ℕ) × (i < n) × ((drawn + i) % n ≡ p)
met_from drawn n p low =
    let r : ℕ = drawn % n in
    elim (cases_lt p r) [
      | inl before ↦ (
        n + p - r,
        omega arith,
        (let is : drawn + (n + p - r) ≡ (drawn / n + 1) * n + p = omega arith in ap (λ m. m % n) is) ∙ mod-mul-add (drawn / n + 1) n p low,
      )
      | inr behind ↦ (
        p - r,
        omega arith,
        (let is : drawn + (p - r) ≡ (drawn / n) * n + p = omega arith in ap (λ m. m % n) is) ∙ mod-mul-add (drawn / n) n p low,
      )
    ]

not_done : {F S : Type 0} (v : OnLanes F S) (t : Turn) → can_make v t ≡ true → t ≡ Done → ⊥
not_done v t can done = let no : false ≡ true = ap (can_make v) (sym done) ∙ can in absurd cc

-- an actor whose turn can be made goes on by it
went_on : {F S A : Type 0} (past : A → ℕ) (v : OnLanes F S) (t : Turn) (a b : A) (went : Went) → can_make v t ≡ true →
    WentBy past (λ n. nat_lt (takes_of v n.from n.to) (puts_of v n.from n.to) ≡ false) t a b went → (past b ≡ past a + 1) × (went ≡ On)
went_on past v t a b On can (on, some) = (on, refl)
went_on past v t a b Nowhere can (same, (n, is, missed)) = absurd (let no : true ≡ false = sym can ∙ ap (can_make v) is ∙ missed in cc)
went_on past v t a b Over can (same, done) = absurd (not_done v t can done)

module _ {F S : Type 0} (s : Schedule) (lawful : IsLawful s) (order : ℕ) (first : List ℕ) (u : OnLanes F S) (pasts : List ℕ) (v : OnLanes F S)
    (has : HasRun s order first (puts_of u) (takes_of u) pasts (puts_of v) (takes_of v)) where
  run : IsRun s has.events
  run = drawn_run s order has.before has.events has.last has.run has.drawn

  abbrev x : State
  x = end_of s has.events

  abbrev turn : ℕ → Turn
  turn p = turn_at s p (slice_index pasts p)

  turn_now : (p : ℕ) → p < s.actors → next s x p ≡ turn p
  turn_now p low = ap (turn_at s p) (sym (has.stands.places p low))

  ready_is : (p : ℕ) (t : Turn) → next s x p ≡ t → is_ready x.flight t ≡ can_make v t
  ready_is p (Take n) is =
      take_is_found s has.events lawful run p n is
      ∙ ap (λ k. nat_lt k (length (put_on s has.events n.from n.to))) (sym (has.stands.taken n.from n.to))
      ∙ ap (nat_lt (takes_of v n.from n.to)) (sym (has.stands.put n.from n.to))
  ready_is p _ is = refl

  pub enabled_is : (p : ℕ) → p < s.actors → is_enabled s x p ≡ can_make v (turn p)
  enabled_is p low =
      ap (λ b. b && is_ready x.flight (next s x p)) (lt-ltb _ _ low)
      ∙ ap (is_ready x.flight) (turn_now p low) ∙ ready_is p (turn p) (turn_now p low)

  pub counted : (p : ℕ) → p < s.actors → IsCounted s p (slice_index pasts p) (λ a. Unit {0}) (puts_of v) (takes_of v)
  counted p low = record {
    served = tt;
    put = λ q. has.stands.put p q ∙ ap length (put_is s has.events lawful run p q) ∙ ap (λ n. length (put_first p q (turns s p) n)) (sym (has.stands.places p low));
    taken = λ q. has.stands.taken q p ∙ ap length (taken_is s has.events lawful run q p) ∙ ap (λ n. length (taken_first q p (turns s p) n)) (sym (has.stands.places p low));
  }

  pub within : (p : ℕ) → p < s.actors → slice_index pasts p ≤ length (turns s p)
  within p low = let place = has.stands.places p low in let low_place = (kept s has.events lawful run).within p low in omega (arith, place, low_place)

  chosen : (drawn p : ℕ) → IsFirst (λ a. can_make v (turn a)) s.actors drawn p → IsChosen s x drawn p
  chosen drawn p is_first =
      let low : p < s.actors = let is : p ≡ (drawn + is_first.steps) % s.actors = is_first.is in let some : is_first.steps < s.actors = is_first.within in omega arith in
      record {
        steps = is_first.steps;
        within = is_first.within;
        actor = is_first.is;
        enabled = enabled_is p low ∙ is_first.passes;
        first = λ i l.
            let below : (drawn + i) % s.actors < s.actors = let some : is_first.steps < s.actors = is_first.within in omega arith in
            enabled_is ((drawn + i) % s.actors) below ∙ is_first.first i l;
      }

  -- the state after the event that was chosen
  pub has_more : (p : ℕ) → IsFirst (λ a. can_make v (turn a)) s.actors (following has.last) p → (pasts' : List ℕ) (w : OnLanes F S) → length pasts ≡ s.actors →
      pasts' ≡ set pasts p (slice_index pasts p + 1) →
      ((a b : ℕ) → puts_of w a b ≡ puts_of v a b + put_by (turn p) a b) → ((a b : ℕ) → takes_of w a b ≡ takes_of v a b + taken_by (turn p) a b) →
      (h : HasRun s order first (puts_of u) (takes_of u) pasts' (puts_of w) (takes_of w)) × (h.last ≡ following has.last)
  has_more p is_first pasts' w all now put taken = (
    record {
      before = has.before;
      run = has.run;
      stood = has.stood;
      events = has.events ++ p ∷ [];
      last = following has.last;
      drawn = one_more has.events has.last p has.drawn (chosen (following has.last) p is_first);
      stands = stands;
    },
    refl,
  )
    where
      low : p < s.actors
      low = let is : p ≡ (following has.last + is_first.steps) % s.actors = is_first.is in let some : is_first.steps < s.actors = is_first.within in omega arith

      places : (q : ℕ) → q < s.actors → slice_index pasts' q ≡ (end_of s (has.events ++ p ∷ [])).place q
      places q q_low =
          let end : (end_of s (has.events ++ p ∷ [])).place q ≡ cond (q == p) (x.place q + 1) (x.place q) = ap (λ (y : State). y.place q) (end_more s opening has.events p) in
          elim (cases_eq q p) [
            | inl same ↦
                ap (λ (ns : List ℕ). get_or ns q 0) now
                ∙ ap (λ a. get_or (set pasts p (slice_index pasts p + 1)) a 0) same
                ∙ get_or-set_same pasts p (slice_index pasts p + 1) 0 (omega arith)
                ∙ ap (λ n. n + 1) (has.stands.places p low)
                ∙ ap (λ a. x.place a + 1) (sym same)
                ∙ sym (end ∙ cond-true (q == p) _ _ (eq-eqb q p same))
            | inr other ↦
                ap (λ (ns : List ℕ). get_or ns q 0) now
                ∙ get_or-set_other pasts p q (slice_index pasts p + 1) 0 other
                ∙ has.stands.places q q_low
                ∙ sym (end ∙ cond-false (q == p) _ _ (ne_eqb q p other))
          ]

      stands : StandsAfter s (has.events ++ p ∷ []) pasts' (puts_of w) (takes_of w)
      stands = record {
        places = places;
        put = λ a b. put a b ∙ ap (λ n. n + put_by (turn p) a b) (has.stands.put a b)
            ∙ ap (λ t. length (put_on s has.events a b) + put_by t a b) (sym (turn_now p low)) ∙ sym (put_on_more s has.events p a b);
        taken = λ a b. taken a b ∙ ap (λ n. n + taken_by (turn p) a b) (has.stands.taken a b)
            ∙ ap (λ t. length (taken_from s has.events a b) + taken_by t a b) (sym (turn_now p low)) ∙ sym (taken_from_more s has.events p a b);
      }

  -- where no actor can go on, all are Done
  module _ (drawn : ℕ) (none_can : (i : ℕ) → i < s.actors → can_make v (turn ((drawn + i) % s.actors)) ≡ false) where
    all_done : AllDone s x
    all_done = elim (progress s has.events lawful run) [
      | inl done ↦ done
      | inr (p, enabled) ↦ absurd (
          let (in_range, ready) = and_parts (nat_lt p s.actors) (is_ready x.flight (next s x p)) enabled in
          let low : p < s.actors = ltb-true _ _ in_range in
          let (i, i_low, at) = met_from drawn s.actors p low in
          let can : can_make v (turn p) ≡ true = sym (enabled_is p low) ∙ enabled in
          let cannot : can_make v (turn p) ≡ false = ap (λ a. can_make v (turn a)) (sym at) ∙ none_can i i_low in
          cc)
    ]

    pub places_done : (p : ℕ) → p < s.actors → slice_index pasts p ≡ length (turns s p)
    places_done p low =
        let over : length (turns s p) ≤ slice_index pasts p = done_past p (turns s p) (slice_index pasts p) (own_turns 0 s.actors s.steps p) (sym (turn_now p low) ∙ all_done p low) in
        omega (arith, over, within p low)

    pub puts_done : (p q : ℕ) → puts_of v p q ≡ length (lane s p q)
    puts_done p q = has.stands.put p q ∙ ap length (all_put s has.events lawful run all_done p q)

    pub takes_done : (p q : ℕ) → takes_of v p q ≡ length (lane s p q)
    takes_done p q = has.stands.taken p q ∙ ap length (all_taken s has.events lawful run all_done p q)

-- before the first event
pub has_none : {F S : Type 0} (s : Schedule) (order : ℕ) (pasts : List ℕ) (v : OnLanes F S) (before : List ℕ) → IsRun s before → StandsAfter s before pasts (puts_of v) (takes_of v) →
    (h : HasRun s order pasts (puts_of v) (takes_of v) pasts (puts_of v) (takes_of v)) × (h.last ≡ order % 2 ^ 32)
has_none s order pasts v before run stood = (record { before = before; run = run; stood = stood; events = before; last = order % 2 ^ 32; drawn = none; stands = stood }, refl)

-- What the loop keeps, in the first steps of the schedule, so many.
module _ {F S A O : Type 0} (setting : A → S) (number past : A → ℕ) (opening : A → O) (plan : S → Schedule) (end : ℕ) (given : S) (order : ℕ) (first : List A) (u : OnLanes F S) where
  abbrev schedule : S → Schedule
  schedule s = front (plan s) end

  pub record IsRunning (actors : List A) (v : OnLanes F S) (g : ℕ) : Type 0 where
    pub lanes_setting : v.setting ≡ given
    pub lanes_actors : v.actors ≡ (plan given).actors
    pub settings : All (λ a. setting a ≡ given) actors
    pub numbers : map number actors ≡ range_with_len 0 (plan given).actors
    pub same_settings : map setting actors ≡ map setting first
    pub same_numbers : map number actors ≡ map number first
    pub same_openings : map opening actors ≡ map opening first
    pub run : HasRun (front (plan given) end) order (map past first) (puts_of u) (takes_of u) (map past actors) (puts_of v) (takes_of v)
    pub last : run.last ≡ g

  pub running_start : (g : ℕ) → IsLawful (plan given) → u.setting ≡ given → u.actors ≡ (plan given).actors → All (λ a. setting a ≡ given) first → map number first ≡ range_with_len 0 (plan given).actors →
      ((m : ℕ) × (m ≤ end) × StandsAt (plan given) m (map past first) (puts_of u) (takes_of u)) → g ≡ order % 2 ^ 32 → IsRunning first u g
  running_start g lawful same for settings numbers (m, up, at) drawn =
      let (before, ran, stood, long) = start_run (plan given) lawful m end up (map past first) (puts_of u) (takes_of u) at in
      let (run, last) = has_none (schedule given) order (map past first) u before ran stood in
      record { lanes_setting = same; lanes_actors = for; settings = settings; numbers = numbers; same_settings = refl; same_numbers = refl; same_openings = refl; run = run; last = last ∙ sym drawn }

  module _ (lawful : IsLawful (plan given)) (actors : List A) (v : OnLanes F S) (g : ℕ) (running : IsRunning actors v g) where
    lawful_here : IsLawful (schedule given)
    lawful_here = front_lawful (plan given) end lawful

    abbrev test : ℕ → Bool
    test a = can_make v (turn_at (schedule given) a (slice_index (map past actors) a))

    -- the number that was chosen, in terms of the setting
    first_of : (drawn p : ℕ) → IsFirst (λ a. can_make v (turn_at (schedule v.setting) a (slice_index (map past actors) a))) v.actors drawn p → IsFirst test (schedule given).actors drawn p
    first_of drawn p is = subst (λ n. IsFirst test n drawn p) running.lanes_actors
        (subst (λ (s : S). IsFirst (λ a. can_make v (turn_at (schedule s) a (slice_index (map past actors) a))) v.actors drawn p) running.lanes_setting is)

    module _ (g' drawn p : ℕ) (next_g : g' ≡ following g) (drew : drawn ≡ g') (is : IsFirst (λ a. can_make v (turn_at (schedule v.setting) a (slice_index (map past actors) a))) v.actors drawn p)
        (a : A) (here : a ≡ get_or actors p a) where
      chosen_first : IsFirst test (schedule given).actors (following running.run.last) p
      chosen_first = subst (λ d. IsFirst test (schedule given).actors d p) (drew ∙ next_g ∙ ap following (sym running.last)) (first_of drawn p is)

      low : p < (schedule given).actors
      low = let at : p ≡ (drawn + is.steps) % v.actors = is.is in let some : is.steps < v.actors = is.within in omega (arith, running.lanes_actors)

      turn_here : turn_at (schedule (setting a)) (number a) (past a) ≡ turn_at (schedule given) p (slice_index (map past actors) p)
      turn_here = turn_is setting number past schedule actors given (schedule given).actors running.settings running.numbers p low a here

      pub setting_here : setting a ≡ v.setting
      setting_here = setting_at setting number past schedule actors given (schedule given).actors running.settings running.numbers p low a here ∙ sym running.lanes_setting

      pub counted_here : IsCounted (plan v.setting) (number a) (past a) (λ a. Unit {0}) (puts_of v) (takes_of v)
      counted_here = moved (plan given) (plan v.setting) p (number a) (slice_index (map past actors) p) (past a) (λ a. Unit {0}) (puts_of v) (takes_of v)
          (ap plan running.lanes_setting)
          (number_at setting number past schedule actors given (schedule given).actors running.settings running.numbers p low a here)
          (past_at setting number past schedule actors given (schedule given).actors running.settings running.numbers p low a here)
          (counted_whole (plan given) end p (slice_index (map past actors) p) (λ a. Unit {0}) (puts_of v) (takes_of v)
          (within (schedule given) lawful_here order (map past first) u (map past actors) v running.run p low)
          (counted (schedule given) lawful_here order (map past first) u (map past actors) v running.run p low))

      module _ (b : A) (w : OnLanes F S) (went : Went)
          (by : WentBy past (λ n. nat_lt (takes_of v n.from n.to) (puts_of v n.from n.to) ≡ false) (turn_at (schedule (setting a)) (number a) (past a)) a b went)
          (same_setting : setting b ≡ setting a) (same_number : number b ≡ number a) where
        can : can_make v (turn_at (schedule (setting a)) (number a) (past a)) ≡ true
        can = ap (can_make v) turn_here ∙ chosen_first.passes

        gone : (past b ≡ past a + 1) × (went ≡ On)
        gone = went_on past v (turn_at (schedule (setting a)) (number a) (past a)) a b went can by

        -- one turn less is left
        pub running_smaller : sum_by (turns_left setting number past schedule) (set actors p b) < sum_by (turns_left setting number past schedule) actors
        running_smaller = left_smaller setting number past schedule actors p a b
            (omega (arith, low, count setting number past schedule actors given (schedule given).actors running.settings running.numbers))
            here same_setting same_number gone.0 (not_done v (turn_at (schedule (setting a)) (number a) (past a)) can)

        pub running_more : opening b ≡ opening a → w.setting ≡ v.setting → w.actors ≡ v.actors →
            ((c d : ℕ) → puts_of w c d ≡ puts_of v c d + put_by (made_by (turn_at (schedule (setting a)) (number a) (past a)) went) c d) →
            ((c d : ℕ) → takes_of w c d ≡ takes_of v c d + taken_by (made_by (turn_at (schedule (setting a)) (number a) (past a)) went) c d) → IsRunning (set actors p b) w g'
        running_more same_opening lanes_setting lanes_actors put taken =
            let all : length actors ≡ (schedule given).actors = count setting number past schedule actors given (schedule given).actors running.settings running.numbers in
            let made : made_by (turn_at (schedule (setting a)) (number a) (past a)) went ≡ turn_at (schedule given) p (slice_index (map past actors) p) =
            ap (made_by (turn_at (schedule (setting a)) (number a) (past a))) gone.1 ∙ turn_here in
            let now : map past (set actors p b) ≡ set (map past actors) p (slice_index (map past actors) p + 1) =
            map-set past actors p b ∙ ap (set (map past actors) p) (gone.0 ∙ ap (λ n. n + 1) (past_at setting number past schedule actors given (schedule given).actors running.settings running.numbers p low a here)) in
            let (run, last) = has_more (schedule given) lawful_here order (map past first) u (map past actors) v running.run p chosen_first (map past (set actors p b)) w (length-map actors past ∙ all) now
            (λ c d. put c d ∙ ap (λ t. puts_of v c d + put_by t c d) made) (λ c d. taken c d ∙ ap (λ t. takes_of v c d + taken_by t c d) made) in
            record {
              lanes_setting = lanes_setting ∙ running.lanes_setting;
              lanes_actors = lanes_actors ∙ running.lanes_actors;
              settings = all_set (λ c. setting c ≡ given) actors p b running.settings (same_setting ∙ setting_here ∙ running.lanes_setting);
              numbers = map_kept number actors p a b here same_number ∙ running.numbers;
              same_settings = map_kept setting actors p a b here same_setting ∙ running.same_settings;
              same_numbers = map_kept number actors p a b here same_number ∙ running.same_numbers;
              same_openings = map_kept opening actors p a b here same_opening ∙ running.same_openings;
              run = run;
              last = last ∙ ap following running.last ∙ sym next_g;
            }

    module _ (drawn : ℕ) (none_can : (i : ℕ) → i < v.actors → can_make v (turn_at (schedule v.setting) ((drawn + i) % v.actors) (slice_index (map past actors) ((drawn + i) % v.actors))) ≡ false) where
      none_of : (i : ℕ) → i < (schedule given).actors → test ((drawn + i) % (schedule given).actors) ≡ false
      none_of = subst (λ n. (i : ℕ) → i < n → test ((drawn + i) % n) ≡ false) running.lanes_actors
          (subst (λ (s : S). (i : ℕ) → i < v.actors → can_make v (turn_at (schedule s) ((drawn + i) % v.actors) (slice_index (map past actors) ((drawn + i) % v.actors))) ≡ false) running.lanes_setting none_can)

      pub running_stands : StandsAt (plan given) end (map past actors) (puts_of v) (takes_of v)
      running_stands = record {
        places = places_done (schedule given) lawful_here order (map past first) u (map past actors) v running.run drawn none_of;
        put = puts_done (schedule given) lawful_here order (map past first) u (map past actors) v running.run drawn none_of;
        taken = takes_done (schedule given) lawful_here order (map past first) u (map past actors) v running.run drawn none_of;
      }
