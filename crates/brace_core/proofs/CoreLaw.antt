-- The law of the core: what the facts along runs say at their ends.
use Rattle.std.proofs.Common.{◌≡◌, ℕ, zero, suc, ◌+◌, ◌<◌, ◌≤◌, ◌⊎◌, true, false, cond, ◌==◌, nat_lt, IsTrue, List, [], ◌∷◌, ◌++◌, length, take, drop, get_or, refl, sym, ap, ◌∙◌, subst, arith, inl, inr}
use Rattle.std.specs.List.{filter, list_any, sum_by, range_with_len}
use Rattle.std.proofs.lemmas.Bool.{eq-eqb, ne_eqb, and_parts, and_from, lt-ltb, ltb-true, ltb-false, cases_lt, cases_eq, cond-true, cond-false}
use Rattle.std.proofs.lemmas.List.{append_assoc, take_all, take_at, drop_at, length-append, get_or_past}
use Rattle.std.proofs.lemmas.List.Sums.{sum_by-cons}
use Rattle.brace_core.specs.declared.name.Name.{Name}
use Rattle.brace_core.specs.declared.name.Turn.TheVariants.{Take, Done}
use Rattle.brace_core.specs.Schedule.{Pair, Schedule, IsLawful, meets, name, names_from, lane, turns}
use Rattle.brace_core.specs.Events.{State, opening, is_name, next, is_ready, is_enabled, after, are_enabled, after_all, OnRuns, IsRun, AllDone, end_of, put_on, taken_from, in_flight, is_on, names_put, names_taken}
use Rattle.brace_core.proofs.Lists.{IsFront, front_takes, same_next, search_below}
use Rattle.brace_core.proofs.Turns.{AreLawful, are_lawful, meets_below, all_put as turns_put, all_taken as turns_take, put_front, taken_front, in_step}
use Rattle.brace_core.proofs.Owners.{own_turns, done_past}
use Rattle.brace_core.proofs.ActorTurns.{take_front}
use Rattle.brace_core.proofs.Runs.{IsKept, kept_opening, kept_all, put_made, taken_made, put_by_now, taken_by_now, first_in_flight}
use Rattle.brace_core.proofs.Progress.{progress_from}
use Rattle.brace_num.proofs.Lists.{sum_alike, sum_none}
use Rattle.brace_num.proofs.Rows.{in_row}

pub lawful_steps : (s : Schedule) → IsLawful s → AreLawful s.actors s.steps
lawful_steps s lawful = are_lawful s.actors s.steps lawful

module _ (s : Schedule) (events : List ℕ) (lawful : IsLawful s) (run : IsRun s events) where
  pub kept : IsKept s (end_of s events)
  kept = kept_all s (lawful_steps s lawful) opening events (kept_opening s) run

  pub put_is : (p q : ℕ) → put_on s events p q ≡ put_by_now s (end_of s events) p q
  put_is p q = sym (put_made s (lawful_steps s lawful) opening events p q run)

  pub taken_is : (p q : ℕ) → taken_from s events p q ≡ taken_by_now s (end_of s events) p q
  taken_is p q = sym (taken_made s (lawful_steps s lawful) opening events p q run)

  put_is_front : (p q : ℕ) → IsFront (put_on s events p q) (lane s p q)
  put_is_front p q = subst (λ names. IsFront names (lane s p q)) (sym (put_is p q)) (put_front 0 s.actors s.steps (lawful_steps s lawful) p q ((end_of s events).place p))

  taken_is_front : (p q : ℕ) → IsFront (taken_from s events p q) (lane s p q)
  taken_is_front p q = subst (λ names. IsFront names (lane s p q)) (sym (taken_is p q)) (taken_front 0 s.actors s.steps (lawful_steps s lawful) q p ((end_of s events).place q))

  pub flown_is : (p q : ℕ) → put_on s events p q ≡ taken_from s events p q ++ in_flight s events p q
  flown_is p q = put_is p q ∙ kept.flown p q ∙ ap (λ names. names ++ in_flight s events p q) (sym (taken_is p q))

pub put_in_order : OnRuns (λ s events. (p q : ℕ) → put_on s events p q ≡ take (length (put_on s events p q)) (lane s p q))
put_in_order s events lawful run p q = front_takes (put_on s events p q) (lane s p q) (put_is_front s events lawful run p q)

pub taken_in_order : OnRuns (λ s events. (p q : ℕ) → taken_from s events p q ≡ take (length (taken_from s events p q)) (lane s p q))
taken_in_order s events lawful run p q = front_takes (taken_from s events p q) (lane s p q) (taken_is_front s events lawful run p q)

pub consecutive : OnRuns (λ s events. (p q : ℕ) → in_flight s events p q ≡ take (length (in_flight s events p q)) (drop (length (taken_from s events p q)) (lane s p q)))
consecutive s events lawful run p q =
    let taken : List Name = taken_from s events p q in
    let flight : List Name = in_flight s events p q in
    let (rest, e) = put_is_front s events lawful run p q in
    let all : lane s p q ≡ taken ++ (flight ++ rest) = e ∙ ap (λ names. names ++ rest) (flown_is s events lawful run p q) ∙ append_assoc taken flight rest in
    sym (ap (λ names. take (length flight) (drop (length taken) names)) all ∙ ap (take (length flight)) (drop_at taken (flight ++ rest) (length taken) refl) ∙ take_at flight rest (length flight) refl)

pub answered : OnRuns (λ s events. (p q : ℕ) → length (put_on s events p q) ≤ length (taken_from s events q p) + 1)
answered s events lawful run p q =
    let x : State = end_of s events in
    let (low, high) = in_step 0 s.actors s.steps (lawful_steps s lawful) p q (x.place p) in
    omega (arith, ap length (put_is s events lawful run p q), ap length (taken_is s events lawful run q p))

pub two_in_flight : OnRuns (λ s events. (p q : ℕ) → length (in_flight s events p q) ≤ 2)
two_in_flight s events lawful run p q =
    let here : length (put_on s events p q) ≤ length (taken_from s events q p) + 1 = answered s events lawful run p q in
    let there : length (put_on s events q p) ≤ length (taken_from s events p q) + 1 = answered s events lawful run q p in
    let behind : length (taken_from s events q p) ≤ length (put_on s events q p) =
    omega (arith, ap length (flown_is s events lawful run q p), length-append (taken_from s events q p) (in_flight s events q p)) in
    omega (arith, ap length (flown_is s events lawful run p q), length-append (taken_from s events p q) (in_flight s events p q))

-- names of a lane rise by step
names_rise : (k : ℕ) (steps : List (List Pair)) (p q i : ℕ) (d : Name) → i < length (names_from k steps p q) → k ≤ (get_or (names_from k steps p q) i d).step
names_rise k [] p q i d l = absurd (omega arith)
names_rise k (step ∷ steps) p q i d l =
    let names : List Name = names_from (suc k) steps p q in
    elim (meets step p q) as (λ v. i < length (cond v (name k p q ∷ names) names) → k ≤ (get_or (cond v (name k p q ∷ names) names) i d).step) [
      | true ↦ elim i as (λ j. j < length (name k p q ∷ names) → k ≤ (get_or (name k p q ∷ names) j d).step) [
        | zero ↦ λ h. omega arith
        | suc j ↦ λ h. let later : suc k ≤ (get_or names j d).step = names_rise (suc k) steps p q j d (omega arith) in omega arith
      ]
      | false ↦ λ h. let later : suc k ≤ (get_or names i d).step = names_rise (suc k) steps p q i d h in omega arith
    ] l

rise_from : (k : ℕ) (steps : List (List Pair)) (p q i j : ℕ) (d : Name) → i < j → j < length (names_from k steps p q) →
    (get_or (names_from k steps p q) i d).step < (get_or (names_from k steps p q) j d).step
rise_from k [] p q i j d h l = absurd (omega arith)
rise_from k (step ∷ steps) p q i j d h l =
    let names : List Name = names_from (suc k) steps p q in
    elim (meets step p q) as (λ v. j < length (cond v (name k p q ∷ names) names) → (get_or (cond v (name k p q ∷ names) names) i d).step < (get_or (cond v (name k p q ∷ names) names) j d).step) [
      | true ↦ elim j as (λ j. i < j → j < length (name k p q ∷ names) → (get_or (name k p q ∷ names) i d).step < (get_or (name k p q ∷ names) j d).step) [
        | zero ↦ λ below. absurd (omega arith)
        | suc j ↦ λ below. elim i as (λ i. i < suc j → suc j < length (name k p q ∷ names) → (get_or (name k p q ∷ names) i d).step < (get_or names j d).step) [
          | zero ↦ λ less m. let later : suc k ≤ (get_or names j d).step = names_rise (suc k) steps p q j d (omega arith) in omega arith
          | suc i ↦ λ less m. rise_from (suc k) steps p q i j d (omega arith) (omega arith)
        ] below
      ] h
      | false ↦ λ m. rise_from (suc k) steps p q i j d h m
    ] l

pub no_name_twice : (s : Schedule) (p q i j : ℕ) (d : Name) → i < j → j < length (lane s p q) → (get_or (lane s p q) i d).step < (get_or (lane s p q) j d).step
no_name_twice s p q i j d h l = rise_from 0 s.steps p q i j d h l

-- an actor that is none of the schedule's meets nobody
pub lane_outside : (k actors : ℕ) (steps : List (List Pair)) → AreLawful actors steps → (p q : ℕ) → actors ≤ p → names_from k steps p q ≡ []
lane_outside k actors [] lawful p q h = refl
lane_outside k actors (step ∷ steps) lawful p q h =
    let none : meets step p q ≡ false = lawful.0.both_ways p q ∙ meets_below actors step lawful.0 q p h in
    cond-false (meets step p q) _ _ none ∙ lane_outside (suc k) actors steps lawful.1 p q h

pub lane_outside_to : (k actors : ℕ) (steps : List (List Pair)) → AreLawful actors steps → (p q : ℕ) → actors ≤ q → names_from k steps p q ≡ []
lane_outside_to k actors [] lawful p q h = refl
lane_outside_to k actors (step ∷ steps) lawful p q h =
    cond-false (meets step p q) _ _ (meets_below actors step lawful.0 p q h) ∙ lane_outside_to (suc k) actors steps lawful.1 p q h

front_of_nothing : {A : Type 0} (xs : List A) → IsFront xs [] → xs ≡ []
front_of_nothing [] f = refl
front_of_nothing {A} (x ∷ xs) (rest, e) = absurd (let nothing : List A = [] in let no : nothing ≡ x ∷ (xs ++ rest) = e in cc)

module _ (s : Schedule) (events : List ℕ) (lawful : IsLawful s) (run : IsRun s events) (done : AllDone s (end_of s events)) where
  pub turns_past : (p : ℕ) → p < s.actors → length (turns s p) ≤ (end_of s events).place p
  turns_past p l = done_past p (turns s p) ((end_of s events).place p) (own_turns 0 s.actors s.steps p) (done p l)

  pub puts_all : (p q : ℕ) → put_on s events p q ≡ lane s p q
  puts_all p q = elim (cases_lt p s.actors) [
    | inl l ↦
        put_is s events lawful run p q
        ∙ ap (λ ts. filter (is_on p q) (names_put ts)) (take_all ((end_of s events).place p) (turns s p) (turns_past p l))
        ∙ turns_put 0 s.actors s.steps (lawful_steps s lawful) p q
    | inr h ↦
        let none : lane s p q ≡ [] = lane_outside 0 s.actors s.steps (lawful_steps s lawful) p q h in
        front_of_nothing (put_on s events p q) (subst (λ names. IsFront (put_on s events p q) names) none (put_is_front s events lawful run p q)) ∙ sym none
  ]

  pub takes_all : (p q : ℕ) → taken_from s events p q ≡ lane s p q
  takes_all p q = elim (cases_lt q s.actors) [
    | inl l ↦
        taken_is s events lawful run p q
        ∙ ap (λ ts. filter (is_on p q) (names_taken ts)) (take_all ((end_of s events).place q) (turns s q) (turns_past q l))
        ∙ turns_take 0 s.actors s.steps (lawful_steps s lawful) q p
    | inr h ↦
        let none : lane s p q ≡ [] = lane_outside_to 0 s.actors s.steps (lawful_steps s lawful) p q h in
        front_of_nothing (taken_from s events p q) (subst (λ names. IsFront (taken_from s events p q) names) none (taken_is_front s events lawful run p q)) ∙ sym none
  ]

pub all_put : OnRuns (λ s events. AllDone s (end_of s events) → (p q : ℕ) → put_on s events p q ≡ lane s p q)
all_put s events lawful run done p q = puts_all s events lawful run done p q

pub all_taken : OnRuns (λ s events. AllDone s (end_of s events) → (p q : ℕ) → taken_from s events p q ≡ lane s p q)
all_taken s events lawful run done p q = takes_all s events lawful run done p q

-- in a state that a run can reach, a take whose name was put is ready
pub take_ready : (s : Schedule) → AreLawful s.actors s.steps → (x : State) → IsKept s x → (p : ℕ) (n : Name) → next s x p ≡ Take n →
    length (taken_by_now s x n.from p) < length (put_by_now s x n.from p) → list_any (is_name n) x.flight ≡ true
take_ready s lawful x kept p n at more = ready (filter (is_on n.from p) x.flight) refl
  where
    ready : (flight : List Name) → filter (is_on n.from p) x.flight ≡ flight → list_any (is_name n) x.flight ≡ true
    ready [] e =
        let all : put_by_now s x n.from p ≡ taken_by_now s x n.from p ++ [] = kept.flown n.from p ∙ ap (λ names. taken_by_now s x n.from p ++ names) e in
        absurd (omega (arith, ap length all, length-append (taken_by_now s x n.from p) []))
    ready (m ∷ rest) e =
        let all : put_by_now s x n.from p ≡ taken_by_now s x n.from p ++ m ∷ rest = kept.flown n.from p ∙ ap (λ names. taken_by_now s x n.from p ++ names) e in
        let same : m ≡ n = same_next (taken_by_now s x n.from p) rest [] (lane s n.from p) m n
        (subst (λ names. IsFront names (lane s n.from p)) all (put_front 0 s.actors s.steps lawful n.from p (x.place n.from)))
        (take_front s p (x.place p) lawful n at) in
        first_in_flight n.from p n x.flight rest (e ∙ ap (λ a. a ∷ rest) same)

-- in such a state all actors are Done, or an event is enabled
pub can_go_on : (s : Schedule) → AreLawful s.actors s.steps → (x : State) → IsKept s x → AllDone s x ⊎ ((p : ℕ) × IsTrue (is_enabled s x p))
can_go_on s lawful x kept = elim (search_below s.actors (λ p. nat_lt (x.place p) (length (turns s p)))) [
  | inl (p, low, left) ↦
      let (a, a_low, ready) = progress_from 0 s.actors s.steps lawful x.place x.flight (λ a b a_low b_low n at from more.
      take_ready s lawful x kept a n at (subst (λ b. length (taken_by_now s x b a) < length (put_by_now s x b a)) (sym from) more)) (p, low, ltb-true _ _ left) in
      inr (a, and_from (nat_lt a s.actors) _ (lt-ltb _ _ a_low) ready)
  | inr none ↦ inl (λ p low. get_or_past (turns s p) (x.place p) Done (ltb-false _ _ (none p low)))
]

pub progress : OnRuns (λ s events. AllDone s (end_of s events) ⊎ ((p : ℕ) × IsTrue (is_enabled s (end_of s events) p)))
progress s events lawful run = can_go_on s (lawful_steps s lawful) (end_of s events) (kept s events lawful run)

pub sum_agree : (f g : ℕ → ℕ) (a n : ℕ) → ((p : ℕ) → a ≤ p → p < a + n → f p ≡ g p) → sum_by f (range_with_len a n) ≡ sum_by g (range_with_len a n)
sum_agree f g a n same = sum_alike f g (range_with_len a n) (λ p has. let h = in_row a n p has in same p h.0 h.1)

-- one more at one number is one more in the sum
sum_one_more : (f : ℕ → ℕ) (e a n : ℕ) → a ≤ e → e < a + n → sum_by (λ p. cond (p == e) (f p + 1) (f p)) (range_with_len a n) ≡ sum_by f (range_with_len a n) + 1
sum_one_more f e a zero h l = absurd (omega arith)
sum_one_more f e a (suc n) h l =
    let g : ℕ → ℕ = λ p. cond (p == e) (f p + 1) (f p) in
    let sum_g : sum_by g (range_with_len a (suc n)) ≡ g a + sum_by g (range_with_len (a + 1) n) = sum_by-cons g a (range_with_len (a + 1) n) in
    let sum_f : sum_by f (range_with_len a (suc n)) ≡ f a + sum_by f (range_with_len (a + 1) n) = sum_by-cons f a (range_with_len (a + 1) n) in
    elim (cases_eq a e) [
      | inl same ↦
          let here : g a ≡ f a + 1 = cond-true (a == e) (f a + 1) (f a) (eq-eqb a e same) in
          let rest : sum_by g (range_with_len (a + 1) n) ≡ sum_by f (range_with_len (a + 1) n) =
          sum_agree g f (a + 1) n (λ p above below. cond-false (p == e) (f p + 1) (f p) (ne_eqb p e (λ is. omega arith))) in
          omega arith
      | inr other ↦
          let here : g a ≡ f a = cond-false (a == e) (f a + 1) (f a) (ne_eqb a e other) in
          let rest : sum_by g (range_with_len (a + 1) n) ≡ sum_by f (range_with_len (a + 1) n) + 1 = sum_one_more f e (a + 1) n (omega arith) (omega arith) in
          omega arith
    ]

-- each event is one turn
pub places_sum : (s : Schedule) (x : State) (events : List ℕ) → are_enabled s x events ≡ true →
    sum_by (after_all s x events).place (range_with_len 0 s.actors) ≡ sum_by x.place (range_with_len 0 s.actors) + length events
places_sum s x [] run = omega arith
places_sum s x (e ∷ events) run =
    let (now, later) = and_parts (is_enabled s x e) (are_enabled s (after s x e) events) run in
    let (low, ready) = and_parts (nat_lt e s.actors) (is_ready x.flight (next s x e)) now in
    let below : e < s.actors = ltb-true _ _ low in
    let one : sum_by (after s x e).place (range_with_len 0 s.actors) ≡ sum_by x.place (range_with_len 0 s.actors) + 1 = sum_one_more x.place e 0 s.actors (omega arith) (omega arith) in
    let rest : sum_by (after_all s (after s x e) events).place (range_with_len 0 s.actors) ≡ sum_by (after s x e).place (range_with_len 0 s.actors) + length events =
    places_sum s (after s x e) events later in
    omega arith

-- how many turns all actors have
abbrev pub turns_of_all : Schedule → ℕ
turns_of_all s = sum_by (λ p. length (turns s p)) (range_with_len 0 s.actors)

pub all_turns_made : OnRuns (λ s events. AllDone s (end_of s events) → length events ≡ turns_of_all s)
all_turns_made s events lawful run done =
    let x : State = end_of s events in
    let sum : sum_by x.place (range_with_len 0 s.actors) ≡ sum_by (λ p. 0) (range_with_len 0 s.actors) + length events = places_sum s opening events run in
    let is : sum_by x.place (range_with_len 0 s.actors) ≡ turns_of_all s =
    sum_agree x.place (λ p. length (turns s p)) 0 s.actors (λ p h l.
    let past : length (turns s p) ≤ x.place p = turns_past s events lawful run done p (omega arith) in
    let within : x.place p ≤ length (turns s p) = (kept s events lawful run).within p (omega arith) in
    omega arith) in
    omega (arith, sum_none (range_with_len 0 s.actors))
