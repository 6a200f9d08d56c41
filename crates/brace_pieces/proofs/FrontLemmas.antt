-- From each step that shows all to the next: how many there are, and how many of them show all.
use Rattle.std.proofs.Common.{◌≡◌, ◌∙◌, refl, sym, ap, subst, ℕ, zero, suc, ◌+◌, ◌<◌, ◌≤◌, List, [], ◌∷◌, filter, length, take, drop, Bool, true, false, cond, if◌then◌else◌, Some, None, slice_get, ◌⊎◌, arith, inl, inr}
use Rattle.std.proofs.lemmas.Bool.{cases_lt}
use Rattle.brace_pieces.specs.declared.setting.Setting.{Setting}
use Rattle.brace_pieces.specs.declared.setting.Step.{Step}
use Rattle.brace_pieces.specs.Steps.{steps, is_show}
use Rattle.brace_pieces.specs.Fronts.{to_show, steps_to}

-- how many of some steps show all
abbrev pub shows : List Step → ℕ
shows ats = length (filter (λ at. is_show at.stage) ats)

-- ---- one step on

-- a step that shows all is the last of those up to the next
pub shows_there : (ats : List Step) (n : ℕ) (at : Step) → slice_get ats n ≡ Some at → is_show at.stage ≡ true → to_show (drop n ats) ≡ 1
shows_there [] n at is shows = absurd cc
shows_there (x ∷ ats) zero at is shows = let same : x ≡ at = cc in ap (λ b. if b then 1 else suc (to_show ats)) (ap (λ (y : Step). is_show y.stage) same ∙ shows)
shows_there (x ∷ ats) (suc n) at is shows = shows_there ats n at is shows

-- another is not
shows_behind : (ats : List Step) (n : ℕ) (at : Step) → slice_get ats n ≡ Some at → is_show at.stage ≡ false → to_show (drop n ats) ≡ suc (to_show (drop (suc n) ats))
shows_behind [] n at is none = absurd cc
shows_behind (x ∷ []) zero at is none = let same : x ≡ at = cc in ap (λ b. if b then 1 else 1) (ap (λ (y : Step). is_show y.stage) same ∙ none)
shows_behind (x ∷ y ∷ ats) zero at is none =
    let same : x ≡ at = cc in ap (λ b. if b then 1 else suc (to_show (y ∷ ats))) (ap (λ (y : Step). is_show y.stage) same ∙ none)
shows_behind (x ∷ ats) (suc n) at is none = shows_behind ats n at is none

pub shows_on : (ats : List Step) (n : ℕ) (at : Step) → slice_get ats n ≡ Some at → is_show at.stage ≡ false → n + 1 + to_show (drop (n + 1) ats) ≡ n + to_show (drop n ats)
shows_on ats n at is none =
    let one : n + 1 ≡ suc n = omega arith in
    omega (arith, shows_behind ats n at is none, ap (λ k. to_show (drop k ats)) one)

-- behind the last there is none
pub shows_none : (ats : List Step) (n : ℕ) → slice_get ats n ≡ None → (to_show (drop n ats) ≡ 0) × (length ats ≤ n)
shows_none [] zero is = (refl, omega arith)
shows_none [] (suc n) is = (refl, omega arith)
shows_none (x ∷ ats) zero is = absurd cc
shows_none (x ∷ ats) (suc n) is = let (none, over) = shows_none ats n is in (none, omega (arith, over))

-- ---- up to the next that shows all

-- those up to it are all, or one of them shows all; none does but the last
first_counts : (ats : List Step) → (to_show ats ≤ length ats) × (shows (take (to_show ats) ats) ≤ 1) × ((to_show ats ≡ length ats) ⊎ (shows (take (to_show ats) ats) ≡ 1))
first_counts [] = (omega arith, omega arith, inl refl)
first_counts (at ∷ ats) = by_test (is_show at.stage) refl (first_counts ats)
  where
    kept : (v : Bool) → is_show at.stage ≡ v → (n : ℕ) → shows (take (suc n) (at ∷ ats)) ≡ (if v then 1 else 0) + shows (take n ats)
    kept true is n =
        let one : shows (take (suc n) (at ∷ ats)) ≡ suc (shows (take n ats)) =
        ap (λ b. length (cond b (at ∷ filter (λ at. is_show at.stage) (take n ats)) (filter (λ at. is_show at.stage) (take n ats)))) is in
        omega (arith, one)
    kept false is n =
        let same : shows (take (suc n) (at ∷ ats)) ≡ shows (take n ats) =
        ap (λ b. length (cond b (at ∷ filter (λ at. is_show at.stage) (take n ats)) (filter (λ at. is_show at.stage) (take n ats)))) is in
        omega (arith, same)

    none_taken : (xs : List Step) → shows (take 0 xs) ≡ 0
    none_taken [] = refl
    none_taken (x ∷ xs) = refl

    by_test : (v : Bool) → is_show at.stage ≡ v → (to_show ats ≤ length ats) × (shows (take (to_show ats) ats) ≤ 1) × ((to_show ats ≡ length ats) ⊎ (shows (take (to_show ats) ats) ≡ 1))
        → (to_show (at ∷ ats) ≤ suc (length ats)) × (shows (take (to_show (at ∷ ats)) (at ∷ ats)) ≤ 1) × ((to_show (at ∷ ats) ≡ suc (length ats)) ⊎ (shows (take (to_show (at ∷ ats)) (at ∷ ats)) ≡ 1))
    by_test true is rest =
        let one : to_show (at ∷ ats) ≡ 1 = ap (λ b. if b then 1 else suc (to_show ats)) is in
        let count : shows (take 1 (at ∷ ats)) ≡ 1 = omega (arith, kept true is 0, none_taken ats) in
        subst (λ n. (n ≤ suc (length ats)) × (shows (take n (at ∷ ats)) ≤ 1) × ((n ≡ suc (length ats)) ⊎ (shows (take n (at ∷ ats)) ≡ 1))) (sym one)
        (omega arith, omega (arith, count), inr count)
    by_test false is (few, low, how) =
        let more : to_show (at ∷ ats) ≡ suc (to_show ats) = ap (λ b. if b then 1 else suc (to_show ats)) is in
        let count : shows (take (suc (to_show ats)) (at ∷ ats)) ≡ shows (take (to_show ats) ats) = omega (arith, kept false is (to_show ats)) in
        subst (λ n. (n ≤ suc (length ats)) × (shows (take n (at ∷ ats)) ≤ 1) × ((n ≡ suc (length ats)) ⊎ (shows (take n (at ∷ ats)) ≡ 1))) (sym more) (
          omega (arith, few),
          omega (arith, count, low),
          elim how [
            | inl all ↦ inl (ap suc all)
            | inr one ↦ inr (count ∙ one)
          ],
        )

-- from behind the first steps on, so many
pub record GoesOn (ats : List Step) (n m : ℕ) : Type 0 where
  pub within : m ≤ length ats
  pub one_at_most : shows (take m ats) ≤ shows (take n ats) + 1
  pub one_or_all : (m ≡ length ats) ⊎ (shows (take m ats) ≡ shows (take n ats) + 1)

from_start : (ats : List Step) → GoesOn ats 0 (to_show (drop 0 ats))
from_start [] = record { within = omega arith; one_at_most = omega arith; one_or_all = inl refl }
from_start (at ∷ ats) = let (few, one, how) = first_counts (at ∷ ats) in record { within = few; one_at_most = one; one_or_all = how }

one_kept : (at : Step) (rest : List Step) (v : Bool) → length (cond v (at ∷ rest) rest) ≡ length rest + (if v then 1 else 0)
one_kept at rest true = omega arith
one_kept at rest false = omega arith

goes_on : (ats : List Step) (n : ℕ) → n ≤ length ats → GoesOn ats n (n + to_show (drop n ats))
goes_on ats zero low =
    let same : to_show (drop 0 ats) ≡ 0 + to_show (drop 0 ats) = omega arith in
    subst (GoesOn ats 0) same (from_start ats)
goes_on [] (suc n) low = absurd (omega (arith, low))
goes_on (at ∷ ats) (suc n) low =
    let rest = goes_on ats n (omega (arith, low)) in
    let m : ℕ = n + to_show (drop n ats) in
    let same : suc m ≡ suc n + to_show (drop n ats) = omega arith in
    let kept : (k : ℕ) → shows (take (suc k) (at ∷ ats)) ≡ shows (take k ats) + (if is_show at.stage then 1 else 0) = λ k. one_kept at (filter (λ at. is_show at.stage) (take k ats)) (is_show at.stage) in
    subst (GoesOn (at ∷ ats) (suc n)) same (record {
      within = omega (arith, rest.within);
      one_at_most = omega (arith, rest.one_at_most, kept m, kept n);
      one_or_all = elim rest.one_or_all [
        | inl all ↦ inl (ap suc all)
        | inr one ↦ inr (omega (arith, one, kept m, kept n))
      ];
    })

-- a step that is left is one that is gone
some_gone : (at : Step) (ats : List Step) (v : Bool) → (if v then 1 else suc (to_show ats)) ≡ 0 → ⊥
some_gone at ats true e = omega (arith, e)
some_gone at ats false e = omega (arith, e)

at_end : (ats : List Step) (n : ℕ) → n ≤ length ats → to_show (drop n ats) ≡ 0 → n ≡ length ats
at_end [] n low is = omega (arith, low)
at_end (at ∷ ats) zero low is = absurd (some_gone at ats (is_show at.stage) is)
at_end (at ∷ ats) (suc n) low is = omega (arith, at_end ats n (omega (arith, low)) is)

-- who goes on by no step stands behind the last
pub goes_nowhere : (ats : List Step) (n : ℕ) → n ≤ length ats → n + to_show (drop n ats) ≤ n → (n + to_show (drop n ats) ≡ n) × (n ≡ length ats)
goes_nowhere ats n low none = (omega (arith, none), at_end ats n low (omega (arith, none)))

-- ---- behind so many that show all

module _ (s : Setting) where
  abbrev next : ℕ → ℕ
  next k = steps_to s k + to_show (drop (steps_to s k) (steps s))

  one_more : (k : ℕ) → steps_to s (suc k) ≡ next k
  one_more k = refl

  pub steps_within : (k : ℕ) → steps_to s k ≤ length (steps s)
  steps_within zero = omega arith
  steps_within (suc k) = (goes_on (steps s) (steps_to s k) (steps_within k)).within

  on_from : (k : ℕ) → GoesOn (steps s) (steps_to s k) (steps_to s (suc k))
  on_from k = goes_on (steps s) (steps_to s k) (steps_within k)

  none_taken : (xs : List Step) → shows (take 0 xs) ≡ 0
  none_taken [] = refl
  none_taken (x ∷ xs) = refl

  -- no more than so many showed all, and one step behind the other no fewer
  pub shown_few : (k : ℕ) → shows (take (steps_to s k) (steps s)) ≤ k
  shown_few zero = omega (arith, none_taken (steps s))
  shown_few (suc k) = omega (arith, shown_few k, (on_from k).one_at_most)

  -- and as many, where a step is left
  pub shown_all : (k : ℕ) → steps_to s k < length (steps s) → k ≤ shows (take (steps_to s k) (steps s))
  shown_all zero left = omega arith
  shown_all (suc k) left = elim (on_from k).one_or_all [
    | inl all ↦ absurd (omega (arith, left, all))
    | inr one ↦ omega (arith, one, shown_all k (omega (arith, left, one_more k)))
  ]

  -- behind the last step it stays
  pub steps_over : (k l : ℕ) → k ≤ l → steps_to s k ≡ length (steps s) → steps_to s l ≡ length (steps s)
  steps_over k zero up over = let none : k ≡ 0 = omega (arith, up) in ap (steps_to s) (sym none) ∙ over
  steps_over k (suc l) up over = elim (cases_lt l k) [
    | inl behind ↦ let same : suc l ≡ k = omega (arith, up, behind) in ap (steps_to s) same ∙ over
    | inr before ↦ omega (arith, steps_over k l before over, one_more l, steps_within (suc l))
  ]
