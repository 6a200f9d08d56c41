-- How many turns all actors have: two for each pair of each step, and one for each actor of each step.
use Rattle.std.proofs.Common.{◌≡◌, ℕ, zero, suc, ◌+◌, ◌<◌, ◌≤◌, Bool, true, false, cond, ◌==◌, ◌&&◌, ◌||◌, List, [], ◌∷◌, ◌++◌, length, count_by, refl, sym, ap, ◌∙◌, arith, inl, inr}
use Rattle.std.specs.List.{filter, sum_by, range_with_len}
use Rattle.std.proofs.lemmas.Bool.{eq-eqb, ne_eqb, and_from, cases_Bool, cases_eq, cond-true, cond-false}
use Rattle.std.proofs.Math.Bool.{or-true}
use Rattle.std.proofs.lemmas.List.{length-append, length-map}
use Rattle.std.proofs.lemmas.List.Sums.{sum_by-cons}
use Rattle.brace_core.specs.declared.name.Turn.TheVariants.{Put, Take, Work}
use Rattle.brace_core.specs.Schedule.{Pair, name, Schedule, IsLawful, IsLawfulStep, is_pair, meets, met, puts, takes, turns_from}
use Rattle.brace_core.specs.Events.{OnRuns, AllDone, end_of, events_of}
use Rattle.brace_core.proofs.Turns.{AreLawful}
use Rattle.brace_core.proofs.CoreLaw.{lawful_steps, sum_agree, turns_of_all, all_turns_made}
use Rattle.brace_core.proofs.Lawful.{none_counted}
use Rattle.brace_num.proofs.Lists.{sum_none}

abbrev numbers : ℕ → ℕ → List ℕ
numbers a n = range_with_len a n

sum_plus : (f g : ℕ → ℕ) (a n : ℕ) → sum_by (λ p. f p + g p) (numbers a n) ≡ sum_by f (numbers a n) + sum_by g (numbers a n)
sum_plus f g a zero = refl
sum_plus f g a (suc n) =
    omega (arith, sum_by-cons (λ p. f p + g p) a (numbers (a + 1) n), sum_by-cons f a (numbers (a + 1) n), sum_by-cons g a (numbers (a + 1) n), sum_plus f g (a + 1) n)

sum_ones : (a n : ℕ) → sum_by (λ p. 1) (numbers a n) ≡ n
sum_ones a zero = refl
sum_ones a (suc n) = omega (arith, sum_by-cons (λ p. 1) a (numbers (a + 1) n), sum_ones (a + 1) n)

-- one number alone counts
sum_single : (f : ℕ → ℕ) (e a n : ℕ) → a ≤ e → e < a + n → ((p : ℕ) → (p ≡ e → ⊥) → f p ≡ 0) → sum_by f (numbers a n) ≡ f e
sum_single f e a zero h l none = absurd (omega arith)
sum_single f e a (suc n) h l none = elim (cases_eq a e) [
  | inl same ↦
      let rest : sum_by f (numbers (a + 1) n) ≡ sum_by (λ p. 0) (numbers (a + 1) n) = sum_agree f (λ p. 0) (a + 1) n (λ p above below. none p (λ is. omega arith)) in
      omega (arith, sum_by-cons f a (numbers (a + 1) n), sum_none (range_with_len (a + 1) n), ap f same)
  | inr other ↦ omega (arith, sum_by-cons f a (numbers (a + 1) n), none a other, sum_single f e (a + 1) n (omega arith) (omega arith) none)
]

-- a filter keeps as many numbers as pass
length_kept : (f : ℕ → Bool) (a n : ℕ) → length (filter f (numbers a n)) ≡ sum_by (λ q. cond (f q) 1 0) (numbers a n)
length_kept f a zero = refl
length_kept f a (suc n) =
    let rest : List ℕ = filter f (numbers (a + 1) n) in
    let one : length (cond (f a) (a ∷ rest) rest) ≡ cond (f a) 1 0 + length rest =
    elim (f a) as (λ v. length (cond v (a ∷ rest) rest) ≡ cond v 1 0 + length rest) [ true ↦ omega arith | false ↦ omega arith ] in
    omega (arith, one, sum_by-cons (λ q. cond (f q) 1 0) a (numbers (a + 1) n), length_kept f (a + 1) n)

-- a pair is met once among all pairs of numbers
pair_once : (n : ℕ) (x : Pair) → x.from < n → x.to < n → sum_by (λ p. sum_by (λ q. cond (is_pair p q x) 1 0) (numbers 0 n)) (numbers 0 n) ≡ 1
pair_once n x from to =
    let row : (p : ℕ) → ℕ = λ p. sum_by (λ q. cond (is_pair p q x) 1 0) (numbers 0 n) in
    let none : (p : ℕ) → (p ≡ x.from → ⊥) → row p ≡ 0 = λ p other.
    sum_agree (λ q. cond (is_pair p q x) 1 0) (λ q. 0) 0 n (λ q above below. cond-false (is_pair p q x) 1 0 (ap (λ v. v && (x.to == q)) (ne_eqb x.from p (λ e. other (sym e))))) ∙ sum_none (range_with_len 0 n) in
    let here : row x.from ≡ cond (is_pair x.from x.to x) 1 0 =
    sum_single (λ q. cond (is_pair x.from q x) 1 0) x.to 0 n (omega arith) (omega arith)
    (λ q other. cond-false (is_pair x.from q x) 1 0 (and_false (x.from == x.from) (x.to == q) (ne_eqb x.to q (λ e. other (sym e))))) in
    sum_single row x.from 0 n (omega arith) (omega arith) none ∙ here ∙ cond-true (is_pair x.from x.to x) 1 0 (and_from (x.from == x.from) (x.to == x.to) (eq-eqb x.from x.from refl) (eq-eqb x.to x.to refl))
  where
    and_false : (a b : Bool) → b ≡ false → (a && b) ≡ false
    and_false true b e = e
    and_false false b e = refl

-- pairs of numbers below n
abbrev pub AreIn : ℕ → List Pair → Type 0
AreIn n [] = Unit {0}
AreIn n (x ∷ step) = (x.from < n) × (x.to < n) × AreIn n step

are_in : (n : ℕ) (step : List Pair) → ((p q : ℕ) → meets step p q ≡ true → (p < n) × (q < n)) → AreIn n step
are_in n [] met = tt
are_in n (x ∷ step) met =
    let on : is_pair x.from x.to x ≡ true = and_from (x.from == x.from) (x.to == x.to) (eq-eqb x.from x.from refl) (eq-eqb x.to x.to refl) in
    let (from, to) = met x.from x.to (ap (λ v. v || meets step x.from x.to) on) in
    (from, to, are_in n step (λ p q e. met p q (ap (λ v. is_pair p q x || v) e ∙ or-true (is_pair p q x))))

pairs_counted : (n : ℕ) (step : List Pair) → AreIn n step → sum_by (λ p. sum_by (λ q. count_by (is_pair p q) step) (numbers 0 n)) (numbers 0 n) ≡ length step
pairs_counted n [] all = sum_agree (λ p. sum_by (λ q. 0) (numbers 0 n)) (λ p. 0) 0 n (λ p above below. sum_none (range_with_len 0 n)) ∙ sum_none (range_with_len 0 n)
pairs_counted n (x ∷ step) (from, to, rest) =
    let one : ℕ → ℕ = λ p. sum_by (λ q. cond (is_pair p q x) 1 0) (numbers 0 n) in
    let more : ℕ → ℕ = λ p. sum_by (λ q. count_by (is_pair p q) step) (numbers 0 n) in
    sum_agree (λ p. sum_by (λ q. count_by (is_pair p q) (x ∷ step)) (numbers 0 n)) (λ p. one p + more p) 0 n (λ p above below.
    sum_agree (λ q. count_by (is_pair p q) (x ∷ step)) (λ q. cond (is_pair p q x) 1 0 + count_by (is_pair p q) step) 0 n (λ q a b. sum_by-cons (λ (y : Pair). cond (is_pair p q y) 1 0) x step)
    ∙ sum_plus (λ q. cond (is_pair p q x) 1 0) (λ q. count_by (is_pair p q) step) 0 n)
    ∙ sum_plus one more 0 n
    ∙ (let first : sum_by one (numbers 0 n) ≡ 1 = pair_once n x from to in
    let others : sum_by more (numbers 0 n) ≡ length step = pairs_counted n step rest in
    omega arith)

some_counted : (p q : ℕ) (step : List Pair) → meets step p q ≡ true → 1 ≤ count_by (is_pair p q) step
some_counted p q [] e = absurd cc
some_counted p q (x ∷ step) e = elim (cases_Bool (is_pair p q x)) [
  | inl is ↦
      let here : cond {A = ℕ} (is_pair p q x) 1 0 ≡ 1 = cond-true (is_pair p q x) 1 0 is in
      omega (arith, sum_by-cons (λ (y : Pair). cond (is_pair p q y) 1 0) x step)
  | inr other ↦
      let rest : 1 ≤ count_by (is_pair p q) step = some_counted p q step (ap (λ v. v || meets step p q) (sym other) ∙ e) in
      omega (arith, sum_by-cons (λ (y : Pair). cond (is_pair p q y) 1 0) x step)
]

-- a lawful step lists as many pairs as its actors meet
met_counted : (n : ℕ) (step : List Pair) → IsLawfulStep n step → sum_by (λ p. length (met n step p)) (numbers 0 n) ≡ length step
met_counted n step lawful =
    sum_agree (λ p. length (met n step p)) (λ p. sum_by (λ q. count_by (is_pair p q) step) (numbers 0 n)) 0 n (λ p above below.
    length_kept (meets step p) 0 n
    ∙ sum_agree (λ q. cond (meets step p q) 1 0) (λ q. count_by (is_pair p q) step) 0 n (λ q a b. elim (cases_Bool (meets step p q)) [
      | inl yes_they_meet ↦
          let one : cond {A = ℕ} (meets step p q) 1 0 ≡ 1 = cond-true (meets step p q) 1 0 yes_they_meet in
          let low : 1 ≤ count_by (is_pair p q) step = some_counted p q step yes_they_meet in
          let high : count_by (is_pair p q) step ≤ 1 = lawful.once p q in
          omega arith
      | inr apart ↦ cond-false (meets step p q) 1 0 apart ∙ sym (none_counted p q step apart)
    ]))
    ∙ pairs_counted n step (are_in n step (λ p q e. (lawful.below p q e, lawful.below q p (sym (lawful.both_ways p q) ∙ e))))

turns_counted : (k n : ℕ) (steps : List (List Pair)) → AreLawful n steps →
    sum_by (λ p. length (turns_from k n steps p)) (numbers 0 n) ≡ sum_by (λ step. length step + length step + n) steps
turns_counted k n [] lawful = sum_none (range_with_len 0 n)
turns_counted k n (step ∷ steps) (here, later) =
    let m : ℕ → ℕ = λ p. length (met n step p) in
    let rest : ℕ → ℕ = λ p. length (turns_from (suc k) n steps p) in
    let each : sum_by (λ p. length (turns_from k n (step ∷ steps) p)) (numbers 0 n) ≡ sum_by (λ p. (m p + m p + 1) + rest p) (numbers 0 n) =
    sum_agree (λ p. length (turns_from k n (step ∷ steps) p)) (λ p. (m p + m p + 1) + rest p) 0 n (λ p above below.
    omega (
      arith,
      length-append (puts k p (met n step p)) (takes k p (met n step p) ++ (Work ∷ turns_from (suc k) n steps p)),
      length-append (takes k p (met n step p)) (Work ∷ turns_from (suc k) n steps p),
      length-map (met n step p) (λ q. Put (name k p q)),
      length-map (met n step p) (λ q. Take (name k q p)),
    )) in
    let split : sum_by (λ p. (m p + m p + 1) + rest p) (numbers 0 n) ≡ sum_by (λ p. m p + m p + 1) (numbers 0 n) + sum_by rest (numbers 0 n) = sum_plus (λ p. m p + m p + 1) rest 0 n in
    let works : sum_by (λ p. m p + m p + 1) (numbers 0 n) ≡ sum_by (λ p. m p + m p) (numbers 0 n) + sum_by (λ p. 1) (numbers 0 n) = sum_plus (λ p. m p + m p) (λ p. 1) 0 n in
    let twice : sum_by (λ p. m p + m p) (numbers 0 n) ≡ sum_by m (numbers 0 n) + sum_by m (numbers 0 n) = sum_plus m m 0 n in
    let pairs : sum_by m (numbers 0 n) ≡ length step = met_counted n step here in
    omega (arith, sum_ones 0 n, turns_counted (suc k) n steps later, sum_by-cons (λ (s : List Pair). length s + length s + n) step steps)

all_turns : (s : Schedule) → IsLawful s → turns_of_all s ≡ events_of s
all_turns s lawful = turns_counted 0 s.actors s.steps (lawful_steps s lawful)

pub counted : OnRuns (λ s events. AllDone s (end_of s events) → length events ≡ events_of s)
counted s events lawful run done = all_turns_made s events lawful run done ∙ all_turns s lawful
