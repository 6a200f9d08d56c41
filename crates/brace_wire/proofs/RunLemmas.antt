-- The loop over events and rounds: where actors and lanes stand, and how many rounds there are.
use Rattle.std.proofs.Common.{◌≡◌, ◌∙◌, ℕ, suc, ◌+◌, ◌-◌, ◌*◌, ◌/◌, ◌%◌, ◌^◌, ◌<◌, ◌≤◌, min, Bool, true, false, cond, ◌&&◌, ◌==◌, nat_lt, List, [], ◌∷◌, ◌++◌, map, length, get_or, set, slice_index, refl, sym, ap, subst, arith, inl, inr}
use Rattle.std.specs.List.{All, range_with_len, sum_by}
use Rattle.std.proofs.lemmas.Bool.{eq-eqb, ne_eqb, and_parts, lt-ltb, ltb-true, cases_eq, cond-true, cond-false}
use Rattle.std.proofs.lemmas.List.{get_or-set_same, get_or-set_other, length-map, length-append, map-set}
use Rattle.std.proofs.lemmas.List.Sums.{sum_by-cons}
use Rattle.std.proofs.lemmas.Nat.{mul-le}
use Rattle.std.proofs.Math.Nat.{mul-suc, suc-mul}
use Rattle.brace_core.specs.declared.name.Turn.{Turn}
use Rattle.brace_core.specs.declared.name.Turn.TheVariants.{Take, Done}
use Rattle.brace_core.specs.declared.turn.Went.{Went}
use Rattle.brace_core.specs.declared.turn.Went.TheVariants.{On, Nowhere, Over}
use Rattle.brace_core.specs.Schedule.{Schedule, IsLawful, front, lane, turns, turn_at}
use Rattle.brace_core.specs.Events.{State, opening, next, is_ready, is_enabled, AllDone, IsRun, end_of, put_on, taken_from, events_of}
use Rattle.brace_core.specs.Exchanges.{IsCounted, WentBy, made_by, put_by, taken_by, turns_left}
use Rattle.brace_core.specs.Order.{StandsAfter}
use Rattle.brace_core.specs.inner.Turns.{IsFirst}
use Rattle.brace_core.proofs.ActorLemmas.{count, setting_at, number_at, past_at, turn_is, all_set, map_kept, left_smaller}
use Rattle.brace_core.proofs.Turns.{put_first, taken_first}
use Rattle.brace_core.proofs.Counted.{moved}
use Rattle.brace_core.proofs.Owners.{own_turns, done_past}
use Rattle.brace_core.proofs.CoreLaw.{kept as kept_along, put_is, taken_is, progress, all_put, all_taken}
use Rattle.brace_core.proofs.Fronts.{front_lawful, counted_whole}
use Rattle.brace_core.proofs.Starts.{start_run, no_names, stands_first}
use Rattle.brace_core.proofs.Counts.{counted as all_counted}
use Rattle.brace_core.proofs.Calls.{take_is_found, end_more, run_more, put_on_more, taken_from_more}
use Rattle.brace_core.proofs.OrderLemmas.{met_from}
use Rattle.brace_pieces.specs.declared.setting.Setting.{Setting}
use Rattle.brace_pieces.specs.Steps.{schedule}
use Rattle.brace_pieces.proofs.ScheduleLemmas.{schedule_lawful}
use Rattle.brace_wire.specs.declared.fate.Fate.{Fate}
use Rattle.brace_wire.specs.Links.{OnLink, OnLinks, fresh, link_of, puts_on, takes_on, received, received_on}
use Rattle.brace_wire.specs.Hope.{rounds_left, hope, all_hope}
use Rattle.brace_wire.specs.Keeps.{Keeps}
use Rattle.brace_wire.specs.Stands.{StandsOn}
use Rattle.brace_wire.specs.inner.Going.{can_make, can_go_on}

-- actors that have made so many turns each, and lanes with these counts, stand where some run ends
pub record HasGone (s : Schedule) (pasts : List ℕ) (puts takes : ℕ → ℕ → ℕ) : Type 0 where
  pub events : List ℕ
  pub run : IsRun s events
  pub stands : StandsAfter s events pasts puts takes

-- whether a turn can be made, by counts of what was put and taken
abbrev pub is_open : (ℕ → ℕ → ℕ) → (ℕ → ℕ → ℕ) → Turn → Bool
is_open puts takes (Take n) = nat_lt (takes n.from n.to) (puts n.from n.to)
is_open puts takes Done = false
is_open puts takes _ = true

module _ (s : Schedule) (lawful : IsLawful s) (pasts : List ℕ) (puts takes : ℕ → ℕ → ℕ) (gone : HasGone s pasts puts takes) where
  abbrev x : State
  x = end_of s gone.events

  abbrev turn : ℕ → Turn
  turn p = turn_at s p (slice_index pasts p)

  turn_now : (p : ℕ) → p < s.actors → next s x p ≡ turn p
  turn_now p low = ap (turn_at s p) (sym (gone.stands.places p low))

  ready_is : (p : ℕ) (t : Turn) → next s x p ≡ t → is_ready x.flight t ≡ is_open puts takes t
  ready_is p (Take n) is =
      take_is_found s gone.events lawful gone.run p n is
      ∙ ap (λ k. nat_lt k (length (put_on s gone.events n.from n.to))) (sym (gone.stands.taken n.from n.to))
      ∙ ap (nat_lt (takes n.from n.to)) (sym (gone.stands.put n.from n.to))
  ready_is p _ is = refl

  enabled_is : (p : ℕ) → p < s.actors → is_enabled s x p ≡ is_open puts takes (turn p)
  enabled_is p low =
      ap (λ b. b && is_ready x.flight (next s x p)) (lt-ltb _ _ low)
      ∙ ap (is_ready x.flight) (turn_now p low) ∙ ready_is p (turn p) (turn_now p low)

  pub gone_counted : (p : ℕ) → p < s.actors → IsCounted s p (slice_index pasts p) (λ a. Unit {0}) puts takes
  gone_counted p low = record {
    served = tt;
    put = λ q. gone.stands.put p q ∙ ap length (put_is s gone.events lawful gone.run p q) ∙ ap (λ n. length (put_first p q (turns s p) n)) (sym (gone.stands.places p low));
    taken = λ q. gone.stands.taken q p ∙ ap length (taken_is s gone.events lawful gone.run q p) ∙ ap (λ n. length (taken_first q p (turns s p) n)) (sym (gone.stands.places p low));
  }

  pub gone_within : (p : ℕ) → p < s.actors → slice_index pasts p ≤ length (turns s p)
  gone_within p low = let place = gone.stands.places p low in let few = (kept_along s gone.events lawful gone.run).within p low in omega (arith, place, few)

  -- one event more
  pub gone_more : (p : ℕ) → p < s.actors → is_open puts takes (turn p) ≡ true → (pasts' : List ℕ) (puts' takes' : ℕ → ℕ → ℕ) → length pasts ≡ s.actors →
      pasts' ≡ set pasts p (slice_index pasts p + 1) →
      ((a b : ℕ) → puts' a b ≡ puts a b + put_by (turn p) a b) → ((a b : ℕ) → takes' a b ≡ takes a b + taken_by (turn p) a b) →
      (h : HasGone s pasts' puts' takes') × (length h.events ≡ length gone.events + 1)
  gone_more p low ready pasts' puts' takes' all now put taken =
      (record { events = gone.events ++ p ∷ []; run = run_more s opening gone.events p gone.run (enabled_is p low ∙ ready); stands = stands }, length-append gone.events (p ∷ []))
    where
      places : (q : ℕ) → q < s.actors → slice_index pasts' q ≡ (end_of s (gone.events ++ p ∷ [])).place q
      places q q_low =
          let end : (end_of s (gone.events ++ p ∷ [])).place q ≡ cond (q == p) (x.place q + 1) (x.place q) = ap (λ (y : State). y.place q) (end_more s opening gone.events p) in
          elim (cases_eq q p) [
            | inl same ↦
                ap (λ (ns : List ℕ). get_or ns q 0) now
                ∙ ap (λ a. get_or (set pasts p (slice_index pasts p + 1)) a 0) same
                ∙ get_or-set_same pasts p (slice_index pasts p + 1) 0 (omega (arith, all, low))
                ∙ ap (λ n. n + 1) (gone.stands.places p low)
                ∙ ap (λ a. x.place a + 1) (sym same)
                ∙ sym (end ∙ cond-true (q == p) _ _ (eq-eqb q p same))
            | inr other ↦
                ap (λ (ns : List ℕ). get_or ns q 0) now
                ∙ get_or-set_other pasts p q (slice_index pasts p + 1) 0 other
                ∙ gone.stands.places q q_low
                ∙ sym (end ∙ cond-false (q == p) _ _ (ne_eqb q p other))
          ]

      stands : StandsAfter s (gone.events ++ p ∷ []) pasts' puts' takes'
      stands = record {
        places = places;
        put = λ a b. put a b ∙ ap (λ n. n + put_by (turn p) a b) (gone.stands.put a b)
            ∙ ap (λ t. length (put_on s gone.events a b) + put_by t a b) (sym (turn_now p low)) ∙ sym (put_on_more s gone.events p a b);
        taken = λ a b. taken a b ∙ ap (λ n. n + taken_by (turn p) a b) (gone.stands.taken a b)
            ∙ ap (λ t. length (taken_from s gone.events a b) + taken_by t a b) (sym (turn_now p low)) ∙ sym (taken_from_more s gone.events p a b);
      }

  -- where no turn can be made, all are Done
  module _ (none_can : (p : ℕ) → p < s.actors → is_open puts takes (turn p) ≡ false) where
    all_done : AllDone s x
    all_done = elim (progress s gone.events lawful gone.run) [
      | inl done ↦ done
      | inr (p, enabled) ↦ absurd (
          let (in_range, ready) = and_parts (nat_lt p s.actors) (is_ready x.flight (next s x p)) enabled in
          let low : p < s.actors = ltb-true _ _ in_range in
          let can : is_open puts takes (turn p) ≡ true = sym (enabled_is p low) ∙ enabled in
          let cannot : is_open puts takes (turn p) ≡ false = none_can p low in
          cc)
    ]

    pub gone_places : (p : ℕ) → p < s.actors → slice_index pasts p ≡ length (turns s p)
    gone_places p low =
        let over : length (turns s p) ≤ slice_index pasts p = done_past p (turns s p) (slice_index pasts p) (own_turns 0 s.actors s.steps p) (sym (turn_now p low) ∙ all_done p low) in
        omega (arith, over, gone_within p low)

    pub gone_puts : (p q : ℕ) → puts p q ≡ length (lane s p q)
    gone_puts p q = gone.stands.put p q ∙ ap length (all_put s gone.events lawful gone.run all_done p q)

    pub gone_takes : (p q : ℕ) → takes p q ≡ length (lane s p q)
    gone_takes p q = gone.stands.taken p q ∙ ap length (all_taken s gone.events lawful gone.run all_done p q)

    pub gone_events : length gone.events ≡ events_of s
    gone_events = all_counted s gone.events lawful gone.run all_done

-- ---- turns at lanes over links

-- a turn that can be made there can be made by the counts
open_is : (v : OnLinks) → ((p q : ℕ) → received_on v p q ≤ puts_on v p q) → (t : Turn) → can_make v t ≡ true → is_open (puts_on v) (takes_on v) t ≡ true
open_is v low (Take n) can = lt-ltb _ _ (let more : takes_on v n.from n.to < received_on v n.from n.to = ltb-true _ _ can in omega (arith, more, low n.from n.to))
open_is v low Done can = absurd cc
open_is v low _ can = refl

-- and where all was received, no other can
closed_is : (v : OnLinks) → ((p q : ℕ) → puts_on v p q ≡ received_on v p q) → (t : Turn) → can_make v t ≡ false → is_open (puts_on v) (takes_on v) t ≡ false
closed_is v quiet (Take n) can = ap (nat_lt (takes_on v n.from n.to)) (quiet n.from n.to) ∙ can
closed_is v quiet Done can = refl
closed_is v quiet _ can = absurd cc

not_done : (v : OnLinks) (t : Turn) → can_make v t ≡ true → t ≡ Done → ⊥
not_done v t can done = let no : false ≡ true = ap (can_make v) (sym done) ∙ can in absurd cc

missed : (a b : ℕ) → a ≡ b → nat_lt a b ≡ false
missed a b e = search (arith, e)

went_on : {A : Type 0} (past : A → ℕ) (v : OnLinks) (t : Turn) (a b : A) (went : Went) → can_make v t ≡ true →
    WentBy past (λ n. takes_on v n.from n.to ≡ received_on v n.from n.to) t a b went → (past b ≡ past a + 1) × (went ≡ On)
went_on past v t a b On can (on, some) = (on, refl)
went_on past v t a b Nowhere can (same, (n, is, none)) = absurd (let no : true ≡ false = sym can ∙ ap (can_make v) is ∙ missed (takes_on v n.from n.to) (received_on v n.from n.to) none in cc)
went_on past v t a b Over can (same, done) = absurd (not_done v t can done)

-- ---- what the loop keeps

-- one row less, and less than a row more
fewer : (m n f h k : ℕ) → m < n → h ≤ k + (f + 1) → m * (f + 2) + h < n * (f + 2) + k
fewer m n f h k lt le =
    let rows : suc m * (f + 2) ≤ n * (f + 2) = mul-le (suc m) (f + 2) n (f + 2) (omega (arith, lt)) (omega arith) in
    omega (arith, rows, suc-mul m (f + 2), le)

-- as many rows, and less behind them
pub less_behind : (n a b : ℕ) → a < b → n + a < n + b
less_behind n a b lt = omega (arith, lt)

-- one event more
times_more : (a n m : ℕ) → m ≡ n + 1 → a * m ≡ a * n + a
times_more a n m more = ap (λ k. a * k) (let is : m ≡ suc n = omega (arith, more) in is) ∙ mul-suc a n

-- nothing is hoped for on lanes where all was received that was put
abbrev IsQuiet : OnLink → Type 0
IsQuiet l = received l.receiver ≡ l.put

hopes_none : (fates : List Fate) (xs : List OnLink) → ((i : ℕ) → IsQuiet (get_or xs i fresh)) → sum_by (hope fates) xs ≡ 0
hopes_none fates [] quiet = refl
hopes_none fates (l ∷ ls) quiet =
    let left : l.put - received l.receiver ≡ 0 = omega (arith, quiet 0) in
    let one : hope fates l ≡ 0 = ap (rounds_left fates l.late l.older l.newer (received l.receiver)) left in
    omega (arith, sum_by-cons (hope fates) l ls, one, hopes_none fates ls (λ i. quiet (suc i)))

pub no_hope : (v : OnLinks) → 0 < v.actors → ((p q : ℕ) → received_on v p q ≡ puts_on v p q) → all_hope v ≡ 0
no_hope v some quiet = hopes_none v.fates v.links each
  where
    each : (i : ℕ) → IsQuiet (get_or v.links i fresh)
    each i =
        let low : i % v.actors < v.actors = omega (arith, some) in
        let is : i / v.actors * v.actors + i % v.actors ≡ i = omega (arith, some) in
        let here : link_of v (i / v.actors) (i % v.actors) ≡ get_or v.links i fresh =
        cond-true (nat_lt (i % v.actors) v.actors) _ _ (lt-ltb _ _ low) ∙ ap (λ k. get_or v.links k fresh) is in
        subst IsQuiet here (quiet (i / v.actors) (i % v.actors))

-- before their first turns actors stand at the end of no steps, with lanes on which nothing was put
pub stands_new : (s : Setting) (pasts : List ℕ) (v : OnLinks) → ((p : ℕ) → p < (schedule s).actors → slice_index pasts p ≡ 0) → ((p q : ℕ) → link_of v p q ≡ fresh) → v.rounds ≡ 0 → StandsOn s 0 pasts v
stands_new s pasts v first nothing none = record {
  stands = stands_first (schedule s) pasts (puts_on v) (takes_on v) first (λ p q. ap (λ (l : OnLink). l.put) (nothing p q)) (λ p q. ap (λ (l : OnLink). l.receiver.taken) (nothing p q));
  all_received = λ p q. ap (λ (l : OnLink). received l.receiver) (nothing p q) ∙ sym (no_names (schedule s) p q);
  few_rounds = omega (arith, none);
}

module _ {A O : Type 0} (setting : A → Setting) (number past : A → ℕ) (opening_of : A → O) (end : ℕ) (given : Setting) (fates : List Fate) (first : List A) where
  -- the first steps of a run, so many
  abbrev plan : Setting → Schedule
  plan s = front (schedule s) end

  pub record IsRunning (actors : List A) (v : OnLinks) : Type 0 where
    pub lanes_setting : v.setting ≡ given
    pub lanes_actors : v.actors ≡ (plan given).actors
    pub lanes_fates : v.fates ≡ fates
    pub settings : All (λ a. setting a ≡ given) actors
    pub numbers : map number actors ≡ range_with_len 0 (plan given).actors
    pub same_settings : map setting actors ≡ map setting first
    pub same_numbers : map number actors ≡ map number first
    pub same_openings : map opening_of actors ≡ map opening_of first
    pub gone : HasGone (plan given) (map past actors) (puts_on v) (takes_on v)
    pub few : v.rounds + all_hope v ≤ (length fates + 1) * length gone.events

  pub running_start : (v : OnLinks) → v.setting ≡ given → v.actors ≡ (schedule given).actors → v.fates ≡ fates → All (λ a. setting a ≡ given) first →
      map number first ≡ range_with_len 0 (schedule given).actors → ((m : ℕ) × (m ≤ end) × StandsOn given m (map past first) v) → 0 < v.actors → IsRunning first v
  running_start v same for fated settings numbers (m, up, on) some =
      let (events, run, stands, long) = start_run (schedule given) (schedule_lawful given) m end up (map past first) (puts_on v) (takes_on v) on.stands in
      let hopeless : all_hope v ≡ 0 = no_hope v some (λ p q. on.all_received p q ∙ sym (on.stands.put p q)) in
      let few : (length fates + 1) * events_of (front (schedule given) m) ≡ (length v.fates + 1) * events_of (front (schedule given) m) = ap (λ f. (length f + 1) * events_of (front (schedule given) m)) (sym fated) in
      let counted : (length fates + 1) * length events ≡ (length fates + 1) * events_of (front (schedule given) m) = ap (λ k. (length fates + 1) * k) long in
      record {
        lanes_setting = same;
        lanes_actors = for;
        lanes_fates = fated;
        settings = settings;
        numbers = numbers;
        same_settings = refl;
        same_numbers = refl;
        same_openings = refl;
        gone = record { events = events; run = run; stands = stands };
        few = omega (arith, hopeless, few, counted, on.few_rounds);
      }

  lawful : IsLawful (plan given)
  lawful = front_lawful (schedule given) end (schedule_lawful given)

  module _ (actors : List A) (v : OnLinks) (running : IsRunning actors v) where
    abbrev test : ℕ → Bool
    test a = can_make v (turn_at (plan given) a (slice_index (map past actors) a))

    module _ (drawn p : ℕ) (is : IsFirst (can_go_on (plan v.setting) v (map past actors)) v.actors drawn p) (low_received : (a b : ℕ) → received_on v a b ≤ puts_on v a b)
        (a : A) (here : a ≡ get_or actors p a) where
      low : p < (plan given).actors
      low = let at : p ≡ (drawn + is.steps) % v.actors = is.is in let some : is.steps < v.actors = is.within in omega (arith, at, some, running.lanes_actors)

      passes : test p ≡ true
      passes = ap (λ (s : Setting). can_make v (turn_at (plan s) p (slice_index (map past actors) p))) (sym running.lanes_setting) ∙ is.passes

      turn_here : turn_at (plan (setting a)) (number a) (past a) ≡ turn_at (plan given) p (slice_index (map past actors) p)
      turn_here = turn_is setting number past plan actors given (plan given).actors running.settings running.numbers p low a here

      pub setting_here : setting a ≡ v.setting
      setting_here = setting_at setting number past plan actors given (plan given).actors running.settings running.numbers p low a here ∙ sym running.lanes_setting

      pub counted_here : IsCounted (schedule v.setting) (number a) (past a) (λ a. Unit {0}) (puts_on v) (takes_on v)
      counted_here = moved (schedule given) (schedule v.setting) p (number a) (slice_index (map past actors) p) (past a) (λ a. Unit {0}) (puts_on v) (takes_on v)
          (ap schedule running.lanes_setting)
          (number_at setting number past plan actors given (plan given).actors running.settings running.numbers p low a here)
          (past_at setting number past plan actors given (plan given).actors running.settings running.numbers p low a here)
          (counted_whole (schedule given) end p (slice_index (map past actors) p) (λ a. Unit {0}) (puts_on v) (takes_on v)
          (gone_within (plan given) lawful (map past actors) (puts_on v) (takes_on v) running.gone p low)
          (gone_counted (plan given) lawful (map past actors) (puts_on v) (takes_on v) running.gone p low))

      module _ (b : A) (w : OnLinks) (went : Went)
          (by : WentBy past (λ n. takes_on v n.from n.to ≡ received_on v n.from n.to) (turn_at (plan (setting a)) (number a) (past a)) a b went)
          (same_setting : setting b ≡ setting a) (same_number : number b ≡ number a) (kept : Keeps v w) where
        can : can_make v (turn_at (plan (setting a)) (number a) (past a)) ≡ true
        can = ap (can_make v) turn_here ∙ passes

        made : (past b ≡ past a + 1) × (went ≡ On)
        made = went_on past v (turn_at (plan (setting a)) (number a) (past a)) a b went can by

        all : length actors ≡ (plan given).actors
        all = count setting number past plan actors given (plan given).actors running.settings running.numbers

        one_turn_less : sum_by (turns_left setting number past plan) (set actors p b) < sum_by (turns_left setting number past plan) actors
        one_turn_less = left_smaller setting number past plan actors p a b (omega (arith, low, all)) here same_setting same_number made.0
            (not_done v (turn_at (plan (setting a)) (number a) (past a)) can)

        -- one turn less is left, and at most those rounds are needed more that one piece takes
        pub running_smaller : sum_by (turns_left setting number past plan) (set actors p b) * (length fates + 2) + all_hope w < sum_by (turns_left setting number past plan) actors * (length fates + 2) + all_hope v
        running_smaller = fewer (sum_by (turns_left setting number past plan) (set actors p b)) (sum_by (turns_left setting number past plan) actors) (length fates)
            (all_hope w) (all_hope v) one_turn_less (omega (arith, kept.hope, ap length running.lanes_fates))

        pub running_more : opening_of b ≡ opening_of a → w.setting ≡ v.setting →
            ((c d : ℕ) → puts_on w c d ≡ puts_on v c d + put_by (made_by (turn_at (plan (setting a)) (number a) (past a)) went) c d) →
            ((c d : ℕ) → takes_on w c d ≡ takes_on v c d + taken_by (made_by (turn_at (plan (setting a)) (number a) (past a)) went) c d) → IsRunning (set actors p b) w
        running_more same_opening lanes_setting put taken =
            let turn_made : made_by (turn_at (plan (setting a)) (number a) (past a)) went ≡ turn_at (plan given) p (slice_index (map past actors) p) =
            ap (made_by (turn_at (plan (setting a)) (number a) (past a))) made.1 ∙ turn_here in
            let now : map past (set actors p b) ≡ set (map past actors) p (slice_index (map past actors) p + 1) =
            map-set past actors p b ∙ ap (set (map past actors) p) (made.0 ∙ ap (λ n. n + 1) (past_at setting number past plan actors given (plan given).actors running.settings running.numbers p low a here)) in
            let ready : is_open (puts_on v) (takes_on v) (turn_at (plan given) p (slice_index (map past actors) p)) ≡ true =
            open_is v low_received (turn_at (plan given) p (slice_index (map past actors) p)) passes in
            let (gone, more) = gone_more (plan given) lawful (map past actors) (puts_on v) (takes_on v) running.gone p low ready (map past (set actors p b)) (puts_on w) (takes_on w) (length-map actors past ∙ all) now
            (λ c d. put c d ∙ ap (λ t. puts_on v c d + put_by t c d) turn_made) (λ c d. taken c d ∙ ap (λ t. takes_on v c d + taken_by t c d) turn_made) in
            record {
              lanes_setting = lanes_setting ∙ running.lanes_setting;
              lanes_actors = kept.actors ∙ running.lanes_actors;
              lanes_fates = kept.fates ∙ running.lanes_fates;
              settings = all_set (λ c. setting c ≡ given) actors p b running.settings (same_setting ∙ setting_here ∙ running.lanes_setting);
              numbers = map_kept number actors p a b here same_number ∙ running.numbers;
              same_settings = map_kept setting actors p a b here same_setting ∙ running.same_settings;
              same_numbers = map_kept number actors p a b here same_number ∙ running.same_numbers;
              same_openings = map_kept opening_of actors p a b here same_opening ∙ running.same_openings;
              gone = gone;
              few = omega (arith, times_more (length fates + 1) (length running.gone.events) (length gone.events) more, running.few, kept.hope, kept.rounds, ap length running.lanes_fates);
            }

    -- a round is made
    module _ (w : OnLinks) (same : w.setting ≡ v.setting) (actors_same : w.actors ≡ v.actors) (fates_same : w.fates ≡ v.fates)
        (put : (p q : ℕ) → puts_on w p q ≡ puts_on v p q) (taken : (p q : ℕ) → takes_on w p q ≡ takes_on v p q) where
      pub running_kept : (w.rounds + all_hope w ≤ (length fates + 1) * length running.gone.events) → IsRunning actors w
      running_kept few = record {
        lanes_setting = same ∙ running.lanes_setting;
        lanes_actors = actors_same ∙ running.lanes_actors;
        lanes_fates = fates_same ∙ running.lanes_fates;
        settings = running.settings;
        numbers = running.numbers;
        same_settings = running.same_settings;
        same_numbers = running.same_numbers;
        same_openings = running.same_openings;
        gone = record {
          events = running.gone.events;
          run = running.gone.run;
          stands = record {
            places = running.gone.stands.places;
            put = λ p q. put p q ∙ running.gone.stands.put p q;
            taken = λ p q. taken p q ∙ running.gone.stands.taken p q;
          };
        };
        few = few;
      }

      pub running_round : w.rounds ≡ min (v.rounds + 1) (2 ^ 64 - 1) → all_hope w < all_hope v → IsRunning actors w
      running_round counted nearer = running_kept (omega (arith, running.few, counted, nearer))

    -- where no actor can go on and all was received
    module _ (drawn : ℕ) (none_can : (i : ℕ) → i < v.actors → can_go_on (plan v.setting) v (map past actors) ((drawn + i) % v.actors) ≡ false)
        (quiet : (p q : ℕ) → puts_on v p q ≡ received_on v p q) where
      none_open : (p : ℕ) → p < (plan given).actors → is_open (puts_on v) (takes_on v) (turn_at (plan given) p (slice_index (map past actors) p)) ≡ false
      none_open p p_low =
          let (i, i_low, at) = met_from drawn v.actors p (omega (arith, p_low, running.lanes_actors)) in
          let cannot : test p ≡ false =
          ap (λ (s : Setting). can_make v (turn_at (plan s) p (slice_index (map past actors) p))) (sym running.lanes_setting)
          ∙ ap (λ k. can_go_on (plan v.setting) v (map past actors) k) (sym at) ∙ none_can i i_low in
          closed_is v quiet (turn_at (plan given) p (slice_index (map past actors) p)) cannot

      pub running_stands : StandsOn given end (map past actors) v
      running_stands =
          let events : length running.gone.events ≡ events_of (plan given) = gone_events (plan given) lawful (map past actors) (puts_on v) (takes_on v) running.gone none_open in
          let all : (length fates + 1) * length running.gone.events ≡ (length fates + 1) * events_of (plan given) = ap (λ k. (length fates + 1) * k) events in
          let same : (length v.fates + 1) * events_of (plan given) ≡ (length fates + 1) * events_of (plan given) = ap (λ f. (length f + 1) * events_of (plan given)) running.lanes_fates in
          let put = gone_puts (plan given) lawful (map past actors) (puts_on v) (takes_on v) running.gone none_open in
          record {
            stands = record {
              places = gone_places (plan given) lawful (map past actors) (puts_on v) (takes_on v) running.gone none_open;
              put = put;
              taken = gone_takes (plan given) lawful (map past actors) (puts_on v) (takes_on v) running.gone none_open;
            };
            all_received = λ p q. sym (quiet p q) ∙ put p q;
            few_rounds = omega (arith, running.few, all, same);
          }

-- what a test said of a turn, at an equal turn
pub said_of : (v : OnLinks) (t u : Turn) (said answer : Bool) → t ≡ u → said ≡ can_make v t → said ≡ answer → can_make v u ≡ answer
said_of v t u said answer same is e = ap (can_make v) (sym same) ∙ sym is ∙ e
