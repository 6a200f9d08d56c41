-- Fronts of schedules: they are lawful, and a run that goes behind no front is one of that front.
use Rattle.std.proofs.Common.{◌≡◌, ℕ, zero, suc, ◌+◌, ◌<◌, ◌≤◌, true, false, cond, ◌==◌, ◌&&◌, nat_lt, IsTrue, List, [], ◌∷◌, ◌++◌, length, take, get_or, refl, sym, ap, ◌∙◌, ◌⊎◌, subst, arith, inl, inr}
use Rattle.std.specs.List.{filter}
use Rattle.std.proofs.lemmas.Bool.{eq-eqb, and_parts, and_from, ltb-true, cond-true, cases_lt}
use Rattle.std.proofs.lemmas.List.{append_assoc, length-append, get_or_append_left, get_or_past, take-take}
use Rattle.std.proofs.lemmas.List.Elements.{All-take}
use Rattle.brace_core.specs.declared.name.Turn.{Turn}
use Rattle.brace_core.specs.declared.name.Turn.TheVariants.{Work, Done}
use Rattle.brace_core.specs.Schedule.{Pair, Schedule, IsLawful, IsLawfulStep, name, meets, met, puts, takes, names_from, lane, turns, turns_from, turn_at, front}
use Rattle.brace_core.specs.Events.{State, opening, next, is_ready, is_enabled, after, are_enabled, after_all, turns_made, flight_after, is_on, names_put, names_taken, AllDone, OnRuns, IsRun, end_of, put_on, taken_from, AreFirst, IsWithin}
use Rattle.brace_core.specs.Exchanges.{IsCounted}
use Rattle.brace_core.proofs.Lists.{IsFront, front_takes}
use Rattle.brace_core.proofs.CoreLaw.{all_put, all_taken, progress}

pub front_lawful : (s : Schedule) (n : ℕ) → IsLawful s → IsLawful (front s n)
front_lawful s n lawful = All-take (IsLawfulStep s.actors) n s.steps lawful

-- ---- names and turns of a front

names_in : (k : ℕ) (steps : List (List Pair)) (n p q : ℕ) → IsFront (names_from k (take n steps) p q) (names_from k steps p q)
names_in k [] zero p q = ([], refl)
names_in k [] (suc n) p q = ([], refl)
names_in k (step ∷ steps) zero p q = (names_from k (step ∷ steps) p q, refl)
names_in k (step ∷ steps) (suc n) p q =
    let (rest, e) = names_in (suc k) steps n p q in
    elim (meets step p q) as (λ v. IsFront (cond v (name k p q ∷ names_from (suc k) (take n steps) p q) (names_from (suc k) (take n steps) p q)) (cond v (name k p q ∷ names_from (suc k) steps p q) (names_from (suc k) steps p q))) [
      | true ↦ (rest, ap (λ ns. name k p q ∷ ns) e)
      | false ↦ (rest, e)
    ]

turns_in : (k actors : ℕ) (steps : List (List Pair)) (n p : ℕ) → IsFront (turns_from k actors (take n steps) p) (turns_from k actors steps p)
turns_in k actors [] zero p = ([], refl)
turns_in k actors [] (suc n) p = ([], refl)
turns_in k actors (step ∷ steps) zero p = (turns_from k actors (step ∷ steps) p, refl)
turns_in k actors (step ∷ steps) (suc n) p =
    let (rest, e) = turns_in (suc k) actors steps n p in
    let first : List Turn = puts k p (met actors step p) in
    let second : List Turn = takes k p (met actors step p) in
    let less : List Turn = turns_from (suc k) actors (take n steps) p in (
      rest,
      ap (λ ts. first ++ (second ++ (Work ∷ ts))) e ∙ sym (append_assoc first (second ++ (Work ∷ less)) rest ∙ ap (λ ts. first ++ ts) (append_assoc second (Work ∷ less) rest)),
    )

pub names_first : (s : Schedule) (n p q : ℕ) → AreFirst (lane (front s n) p q) (lane s p q)
names_first s n p q = front_takes (lane (front s n) p q) (lane s p q) (names_in 0 s.steps n p q)

pub turns_first : (s : Schedule) (n p : ℕ) → turns (front s n) p ≡ take (length (turns (front s n) p)) (turns s p)
turns_first s n p = front_takes (turns (front s n) p) (turns s p) (turns_in 0 s.actors s.steps n p)

pub turn_same : (s : Schedule) (n p i : ℕ) → i < length (turns (front s n) p) → turn_at (front s n) p i ≡ turn_at s p i
turn_same s n p i low = let (rest, e) = turns_in 0 s.actors s.steps n p in sym (ap (λ ts. get_or ts i Done) e ∙ get_or_append_left (turns (front s n) p) rest Done i low)

-- a turn of a front is that of the whole, unless none is left there
pub due_same : (s : Schedule) (n p i : ℕ) → (turn_at (front s n) p i ≡ Done → ⊥) → turn_at s p i ≡ turn_at (front s n) p i
due_same s n p i some = elim (cases_lt i (length (turns (front s n) p))) [
  | inl low ↦ sym (turn_same s n p i low)
  | inr high ↦ absurd (some (get_or_past (turns (front s n) p) i Done high))
]

-- who made no turn behind a front is counted there as in the whole
module _ (s : Schedule) (n a past : ℕ) (serves : ℕ → Type 0) (puts takes : ℕ → ℕ → ℕ) (within : past ≤ length (turns (front s n) a)) where
  turns_alike : take past (turns (front s n) a) ≡ take past (turns s a)
  turns_alike = ap (take past) (turns_first s n a) ∙ take-take past (length (turns (front s n) a)) (turns s a) within

  pub counted_whole : IsCounted (front s n) a past serves puts takes → IsCounted s a past serves puts takes
  counted_whole is = record {
    served = is.served;
    put = λ q. is.put q ∙ ap (λ ts. length (filter (is_on a q) (names_put ts))) turns_alike;
    taken = λ q. is.taken q ∙ ap (λ ts. length (filter (is_on q a) (names_taken ts))) turns_alike;
  }

  pub counted_front : IsCounted s a past serves puts takes → IsCounted (front s n) a past serves puts takes
  counted_front is = record {
    served = is.served;
    put = λ q. is.put q ∙ ap (λ ts. length (filter (is_on a q) (names_put ts))) (sym turns_alike);
    taken = λ q. is.taken q ∙ ap (λ ts. length (filter (is_on q a) (names_taken ts))) (sym turns_alike);
  }

-- a longer front has no fewer turns
longer_in : (k actors : ℕ) (steps : List (List Pair)) (n e p : ℕ) → n ≤ e → length (turns_from k actors (take n steps) p) ≤ length (turns_from k actors (take e steps) p)
longer_in k actors [] zero zero p up = omega arith
longer_in k actors [] zero (suc e) p up = omega arith
longer_in k actors [] (suc n) zero p up = omega arith
longer_in k actors [] (suc n) (suc e) p up = omega arith
longer_in k actors (step ∷ steps) zero zero p up = omega arith
longer_in k actors (step ∷ steps) zero (suc e) p up = omega arith
longer_in k actors (step ∷ steps) (suc n) zero p up = absurd (omega (arith, up))
longer_in k actors (step ∷ steps) (suc n) (suc e) p up =
    let first : List Turn = puts k p (met actors step p) in
    let second : List Turn = takes k p (met actors step p) in
    let less : List Turn = turns_from (suc k) actors (take n steps) p in
    let more : List Turn = turns_from (suc k) actors (take e steps) p in
    let rest : length less ≤ length more = longer_in (suc k) actors steps n e p (omega (arith, up)) in
    omega (arith, rest, length-append first (second ++ (Work ∷ less)), length-append second (Work ∷ less), length-append first (second ++ (Work ∷ more)), length-append second (Work ∷ more))

pub longer : (s : Schedule) (n e p : ℕ) → n ≤ e → length (turns (front s n) p) ≤ length (turns (front s e) p)
longer s n e p up = longer_in 0 s.actors s.steps n e p up

-- ---- runs that go behind no front

pub place_now : (s : Schedule) (x : State) (p : ℕ) → (after s x p).place p ≡ x.place p + 1
place_now s x p = cond-true (p == p) (x.place p + 1) (x.place p) (eq-eqb p p refl)

pub one_rises : (s : Schedule) (x : State) (p q : ℕ) → x.place q ≤ (after s x p).place q
one_rises s x p q = elim (q == p) as (λ v. x.place q ≤ cond v (x.place q + 1) (x.place q)) [
  | true ↦ omega arith
  | false ↦ omega arith
]

rises : (s : Schedule) (x : State) (events : List ℕ) (q : ℕ) → x.place q ≤ (after_all s x events).place q
rises s x [] q = omega arith
rises s x (p ∷ events) q = let one = one_rises s x p q in let later = rises s (after s x p) events q in omega (arith, one, later)

module _ (s : Schedule) (n : ℕ) where
  abbrev f : Schedule
  f = front s n

  abbrev behind : State → ℕ → Turn → State
  behind x p t = record { place = λ a. cond (a == p) (x.place a + 1) (x.place a); flight = flight_after x.flight t }

  pub same_after : (x : State) (p : ℕ) → turn_at f p (x.place p) ≡ turn_at s p (x.place p) → after f x p ≡ after s x p
  same_after x p same = ap (behind x p) same

  run_in : (x : State) (events : List ℕ) → IsTrue (are_enabled s x events) → ((p : ℕ) → p < s.actors → (after_all s x events).place p ≤ length (turns f p))
      → IsTrue (are_enabled f x events) × (after_all f x events ≡ after_all s x events) × (turns_made f x events ≡ turns_made s x events)
  run_in x [] enabled within = (refl, refl, refl)
  run_in x (p ∷ events) enabled within =
      let (on, later) = and_parts (is_enabled s x p) (are_enabled s (after s x p) events) enabled in
      let (in_range, ready) = and_parts (nat_lt p s.actors) (is_ready x.flight (next s x p)) on in
      let low : p < s.actors = ltb-true _ _ in_range in
      let more = rises s (after s x p) events p in
      let here : x.place p < length (turns f p) = omega (arith, place_now s x p, more, within p low) in
      let same = turn_same s n p (x.place p) here in
      let now : after f x p ≡ after s x p = same_after x p same in
      let (enabled', end, made) = run_in (after s x p) events later within in
      let on' : is_enabled f x p ≡ true = ap (λ t. nat_lt p s.actors && is_ready x.flight t) same ∙ on in (
        and_from (is_enabled f x p) (are_enabled f (after f x p) events) on' (ap (λ y. are_enabled f y events) now ∙ enabled'),
        ap (λ y. after_all f y events) now ∙ end,
        ap (λ t. t ∷ turns_made f (after f x p) events) same ∙ ap (λ y. next s x p ∷ turns_made f y events) now ∙ ap (λ ts. next s x p ∷ ts) made,
      )

pub front_run : OnRuns (λ s events. (n : ℕ) → IsWithin s n (end_of s events) → IsRun (front s n) events)
front_run s events lawful run n within = let (is, end, made) = run_in s n opening events run within in is

pub front_end : OnRuns (λ s events. (n : ℕ) → IsWithin s n (end_of s events) → end_of (front s n) events ≡ end_of s events)
front_end s events lawful run n within = let (is, end, made) = run_in s n opening events run within in end

made_alike : OnRuns (λ s events. (n : ℕ) → IsWithin s n (end_of s events) → turns_made (front s n) opening events ≡ turns_made s opening events)
made_alike s events lawful run n within = let (is, end, made) = run_in s n opening events run within in made

done_alike : (s : Schedule) (events : List ℕ) → IsLawful s → IsRun s events → (n : ℕ) → IsWithin s n (end_of s events) → AllDone (front s n) (end_of s events) → AllDone (front s n) (end_of (front s n) events)
done_alike s events lawful run n within done = subst (AllDone (front s n)) (sym (front_end s events lawful run n within)) done

pub stopped_put : OnRuns (λ s events. (n : ℕ) → IsWithin s n (end_of s events) → AllDone (front s n) (end_of s events) → (p q : ℕ) → put_on s events p q ≡ lane (front s n) p q)
stopped_put s events lawful run n within done p q =
    sym (ap (λ ts. filter (is_on p q) (names_put ts)) (made_alike s events lawful run n within))
    ∙ all_put (front s n) events (front_lawful s n lawful) (front_run s events lawful run n within) (done_alike s events lawful run n within done) p q

pub stopped_taken : OnRuns (λ s events. (n : ℕ) → IsWithin s n (end_of s events) → AllDone (front s n) (end_of s events) → (p q : ℕ) → taken_from s events p q ≡ lane (front s n) p q)
stopped_taken s events lawful run n within done p q =
    sym (ap (λ ts. filter (is_on p q) (names_taken ts)) (made_alike s events lawful run n within))
    ∙ all_taken (front s n) events (front_lawful s n lawful) (front_run s events lawful run n within) (done_alike s events lawful run n within done) p q

pub goes_on : OnRuns (λ s events. (n : ℕ) → IsWithin s n (end_of s events) → AllDone (front s n) (end_of s events) ⊎ ((p : ℕ) × IsTrue (is_enabled (front s n) (end_of s events) p)))
goes_on s events lawful run n within =
    subst (λ x. AllDone (front s n) x ⊎ ((p : ℕ) × IsTrue (is_enabled (front s n) x p))) (front_end s events lawful run n within)
    (progress (front s n) events (front_lawful s n lawful) (front_run s events lawful run n within))
