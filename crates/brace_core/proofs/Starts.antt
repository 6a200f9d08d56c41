-- Runs that start at the end of a front: every lawful schedule has a run to its end, and a run of a front is one of the whole.
use Rattle.std.proofs.Common.{◌≡◌, ◌∙◌, refl, sym, ap, ℕ, zero, suc, ◌+◌, ◌<◌, ◌≤◌, true, false, ◌&&◌, nat_lt, IsTrue, List, [], ◌∷◌, ◌++◌, length, take, slice_index, ◌⊎◌, arith, inl, inr}
use Rattle.std.specs.List.{filter, range_with_len, sum_by}
use Rattle.std.proofs.lemmas.Bool.{and_parts, and_from}
use Rattle.std.proofs.lemmas.List.{length-append, take-take}
use Rattle.std.proofs.lemmas.List.Sums.{sum_by-cons}
use Rattle.brace_core.specs.Schedule.{Pair, Schedule, IsLawful, front, lane, names_from, turns, turns_from, turn_at}
use Rattle.brace_core.specs.Events.{State, opening, next, is_ready, is_enabled, after, are_enabled, after_all, turns_made, is_on, names_put, names_taken, AllDone, IsRun, end_of, events_of}
use Rattle.brace_core.specs.Order.{StandsAfter, StandsAt}
use Rattle.brace_core.proofs.CoreLaw.{kept, places_sum, progress, turns_of_all, turns_past, all_put, all_taken}
use Rattle.brace_core.proofs.Counts.{counted}
use Rattle.brace_core.proofs.Calls.{run_more}
use Rattle.brace_core.proofs.Fronts.{front_lawful, due_same, same_after}
use Rattle.brace_num.proofs.Lists.{sum_none}

-- ---- a run to the end

sum_at_most : (f g : ℕ → ℕ) (a n : ℕ) → ((p : ℕ) → a ≤ p → p < a + n → f p ≤ g p) → sum_by f (range_with_len a n) ≤ sum_by g (range_with_len a n)
sum_at_most f g a zero low = omega arith
sum_at_most f g a (suc n) low =
    let rest : sum_by f (range_with_len (a + 1) n) ≤ sum_by g (range_with_len (a + 1) n) =
    sum_at_most f g (a + 1) n (λ p above below. low p (omega (arith, above)) (omega (arith, below))) in
    let here : f a ≤ g a = low a (omega arith) (omega arith) in
    omega (arith, sum_by-cons f a (range_with_len (a + 1) n), sum_by-cons g a (range_with_len (a + 1) n), rest, here)

-- no run has more events than all actors have turns
few_events : (s : Schedule) (events : List ℕ) → IsLawful s → IsRun s events → length events ≤ turns_of_all s
few_events s events lawful run =
    let sum : sum_by (end_of s events).place (range_with_len 0 s.actors) ≡ sum_by (λ p. 0) (range_with_len 0 s.actors) + length events = places_sum s opening events run in
    let few : sum_by (end_of s events).place (range_with_len 0 s.actors) ≤ turns_of_all s =
    sum_at_most (end_of s events).place (λ p. length (turns s p)) 0 s.actors (λ p above below. (kept s events lawful run).within p (omega (arith, below))) in
    omega (arith, sum, few, sum_none (range_with_len 0 s.actors))

-- a run of so many events, or of fewer to the end
run_of : (s : Schedule) → IsLawful s → (k : ℕ) → (events : List ℕ) × IsRun s events × (AllDone s (end_of s events) ⊎ (length events ≡ k))
run_of s lawful zero = ([], refl, inr refl)
run_of s lawful (suc k) =
    let (events, run, how) = run_of s lawful k in
    elim how [
      | inl done ↦ (events, run, inl done)
      | inr long ↦ elim (progress s events lawful run) [
        | inl done ↦ (events, run, inl done)
        | inr (p, enabled) ↦ (events ++ p ∷ [], run_more s opening events p run enabled, inr (omega (arith, length-append events (p ∷ []), long)))
      ]
    ]

complete_run : (s : Schedule) → IsLawful s → (events : List ℕ) × IsRun s events × AllDone s (end_of s events)
complete_run s lawful =
    let (events, run, how) = run_of s lawful (turns_of_all s + 1) in
    elim how [
      | inl done ↦ (events, run, done)
      | inr long ↦ absurd (let few = few_events s events lawful run in omega (arith, few, long))
    ]

-- ---- a run of a front

run_out : (s : Schedule) (n : ℕ) (x : State) (events : List ℕ) → IsTrue (are_enabled (front s n) x events)
    → IsTrue (are_enabled s x events) × (after_all s x events ≡ after_all (front s n) x events) × (turns_made s x events ≡ turns_made (front s n) x events)
run_out s n x [] enabled = (refl, refl, refl)
run_out s n x (p ∷ events) enabled =
    let f : Schedule = front s n in
    let (on, later) = and_parts (is_enabled f x p) (are_enabled f (after f x p) events) enabled in
    let (in_range, ready) = and_parts (nat_lt p s.actors) (is_ready x.flight (next f x p)) on in
    let same : turn_at s p (x.place p) ≡ turn_at f p (x.place p) =
    due_same s n p (x.place p) (λ done. let no : false ≡ true = ap (is_ready x.flight) (sym done) ∙ ready in absurd cc) in
    let now : after s x p ≡ after f x p = sym (same_after s n x p (sym same)) in
    let (enabled', end, made) = run_out s n (after f x p) events later in
    let on' : is_enabled s x p ≡ true = ap (λ t. nat_lt p s.actors && is_ready x.flight t) same ∙ on in (
      and_from (is_enabled s x p) (are_enabled s (after s x p) events) on' (ap (λ y. are_enabled s y events) now ∙ enabled'),
      ap (λ y. after_all s y events) now ∙ end,
      ap (λ t. t ∷ turns_made s (after s x p) events) same ∙ ap (λ y. next f x p ∷ turns_made s y events) now ∙ ap (λ ts. next f x p ∷ ts) made,
    )

pub front_front : (s : Schedule) (m e : ℕ) → m ≤ e → front (front s e) m ≡ front s m
front_front s m e up = ap (λ steps. record s { steps = steps }) (take-take m e s.steps up)

-- where actors and lanes stand at the end of a front a run of each longer front leads
pub start_run : (s : Schedule) → IsLawful s → (m e : ℕ) → m ≤ e → (pasts : List ℕ) (puts takes : ℕ → ℕ → ℕ) → StandsAt s m pasts puts takes →
    (events : List ℕ) × IsRun (front s e) events × StandsAfter (front s e) events pasts puts takes × (length events ≡ events_of (front s m))
start_run s lawful m e up pasts puts takes at =
    let long : Schedule = front s e in
    let f : Schedule = front long m in
    let same : front s m ≡ f = sym (front_front s m e up) in
    let lawful_f : IsLawful f = front_lawful long m (front_lawful s e lawful) in
    let (events, run, done) = complete_run f lawful_f in
    let (run', end, made) = run_out long m opening events run in
    let places : (p : ℕ) → p < s.actors → slice_index pasts p ≡ (end_of long events).place p = λ p low.
    let over : length (turns f p) ≤ (end_of f events).place p = turns_past f events lawful_f run done p low in
    let within : (end_of f events).place p ≤ length (turns f p) = (kept f events lawful_f run).within p low in
    let place : (end_of long events).place p ≡ (end_of f events).place p = ap (λ (y : State). y.place p) end in
    let past : slice_index pasts p ≡ length (turns f p) = at.places p low ∙ ap (λ t. length (turns t p)) same in
    omega (arith, over, within, place, past) in (
      events,
      run',
      record {
        places = places;
        put = λ p q. at.put p q ∙ ap (λ t. length (lane t p q)) same ∙ ap length (sym (all_put f events lawful_f run done p q)) ∙ ap (λ ts. length (filter (is_on p q) (names_put ts))) (sym made);
        taken = λ p q. at.taken p q ∙ ap (λ t. length (lane t p q)) same ∙ ap length (sym (all_taken f events lawful_f run done p q)) ∙ ap (λ ts. length (filter (is_on p q) (names_taken ts))) (sym made);
      },
      counted f events lawful_f run done ∙ ap events_of (sym same),
    )

-- no steps have no turns and no names
no_steps : (steps : List (List Pair)) → take 0 steps ≡ []
no_steps [] = refl
no_steps (step ∷ steps) = refl

pub no_turns : (s : Schedule) (p : ℕ) → length (turns (front s 0) p) ≡ 0
no_turns s p = ap (λ steps. length (turns_from 0 s.actors steps p)) (no_steps s.steps)

pub no_names : (s : Schedule) (p q : ℕ) → length (lane (front s 0) p q) ≡ 0
no_names s p q = ap (λ steps. length (names_from 0 steps p q)) (no_steps s.steps)

-- before their first turns actors stand at the end of no steps, with lanes on which nothing was put
pub stands_first : (s : Schedule) (pasts : List ℕ) (puts takes : ℕ → ℕ → ℕ) → ((p : ℕ) → p < s.actors → slice_index pasts p ≡ 0) → ((p q : ℕ) → puts p q ≡ 0) → ((p q : ℕ) → takes p q ≡ 0)
    → StandsAt s 0 pasts puts takes
stands_first s pasts puts takes first nothing none = record {
  places = λ p low. first p low ∙ sym (no_turns s p);
  put = λ p q. nothing p q ∙ sym (no_names s p q);
  taken = λ p q. none p q ∙ sym (no_names s p q);
}
