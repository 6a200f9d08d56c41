-- Which step comes first in a run, which behind each, and how many there are.
use Rattle.std.proofs.Common.{◌≡◌, ◌∙◌, refl, sym, ap, subst, ℕ, zero, suc, ◌+◌, ◌-◌, ◌*◌, ◌<◌, ◌≤◌, List, [], ◌∷◌, ◌++◌, flat_map, length, get_or, Bool, true, false, Option, Some, None, ◌==◌, arith, inl, inr}
use Rattle.std.specs.Prelude.{slice_get, if◌then◌else◌, not, nat_lt, nat_le, ℤ, pos, int_le, ◌&&◌}
use Rattle.std.specs.List.{range_with_len, list_any}
use Rattle.std.proofs.lemmas.Bool.{cases_lt}
use Rattle.std.proofs.lemmas.Bool.Decides.{nat_tests}
use Rattle.std.proofs.lemmas.List.{length-append, get_or_default}
use Rattle.std.proofs.lemmas.List.Folds.{list_any_at, list_any_none}
use Rattle.std.specs.Int.{int_max}
use Rattle.std.proofs.lemmas.Int.{ints}
use Rattle.brace_cuts.specs.declared.plan.CutLine.{CutLine}
use Rattle.brace_cuts.specs.CutPlans.{IsInOrder}
use Rattle.brace_cuts.proofs.Orders.{lines_are_parted}
use Rattle.brace_model.specs.Next.{has_births}
use Rattle.brace_pieces.specs.declared.setting.Setting.{Setting}
use Rattle.brace_pieces.specs.declared.setting.Stage.{Stage}
use Rattle.brace_pieces.specs.declared.setting.Stage.TheVariants.{Hand, Border, Effects, Census, Move, Show}
use Rattle.brace_pieces.specs.declared.setting.Step.{Step}
use Rattle.brace_pieces.specs.Settings.{is_end}
use Rattle.brace_pieces.specs.Steps.{step, made_if, is_recut, show, steps_in, steps}
use Rattle.brace_pieces.specs.inner.Walks.{steps_from, ticks_from, behind_effects, behind_move}
use Rattle.brace_pieces.proofs.PlaceLemmas.{some_is, shape}

-- the first of some steps, or else what follows them
abbrev first_or : List Step → Option Step → Option Step
first_or [] o = o
first_or (x ∷ xs) o = Some x

first_both : (xs ys : List Step) (o : Option Step) → first_or xs (first_or ys o) ≡ first_or (xs ++ ys) o
first_both [] ys o = refl
first_both (x ∷ xs) ys o = refl

first_at : (xs : List Step) → slice_get xs 0 ≡ first_or xs None
first_at [] = refl
first_at (x ∷ xs) = refl

pub first_in_both : (xs ys : List Step) → slice_get (xs ++ ys) 0 ≡ first_or xs (slice_get ys 0)
first_in_both [] ys = refl
first_in_both (x ∷ xs) ys = refl

module _ (next : Step → Option Step) where
  -- what is next of each step is the one behind it, and of the last one what follows
  abbrev Linked : List Step → Option Step → Type 0
  Linked [] o = Unit {0}
  Linked (x ∷ xs) o = (next x ≡ first_or xs o) × Linked xs o

  linked_both : (xs ys : List Step) (o : Option Step) → Linked xs (first_or ys o) → Linked ys o → Linked (xs ++ ys) o
  linked_both [] ys o front back = back
  linked_both (x ∷ xs) ys o (here, front) back = (here ∙ first_both xs ys o, linked_both xs ys o front back)

  linked_one : (c : Bool) (x : Step) (o : Option Step) → next x ≡ o → Linked (made_if c x) o
  linked_one true x o e = (e, tt)
  linked_one false x o e = tt

  linked_if : (c : Bool) (x : Step) (rest : List Step) (o : Option Step) → next x ≡ first_or rest o → Linked rest o → Linked (made_if c x ++ rest) o
  linked_if true x rest o e behind = (e, behind)
  linked_if false x rest o e behind = behind

  next_there : (xs : List Step) → Linked xs None → (k : ℕ) (at : Step) → slice_get xs k ≡ Some at → next at ≡ slice_get xs (suc k)
  next_there [] linked k at e = absurd (cc)
  next_there (x ∷ xs) (here, linked) zero at e = ap next (sym (some_is x at e)) ∙ here ∙ sym (first_at xs)
  next_there (x ∷ xs) (here, linked) (suc k) at e = next_there xs linked k at e

-- the step behind one
abbrev pub next_in : Setting → Stage → ℕ → Option Step
next_in s Hand t = Some (step Border t)
next_in s Border t = Some (step (if s.invert then behind_effects s else Effects) t)
next_in s Effects t = Some (step (behind_effects s) t)
next_in s Census t = Some (step Move t)
next_in s Move t = behind_move s t
next_in s Show t = slice_get (ticks_from s t) 0

abbrev pub next_of : Setting → Step → Option Step
next_of s at = next_in s at.stage at.tick

first_said : (invert births : Bool) (t : ℕ) (rest : List Step) (o : Option Step)
    → Some (step (if invert then (if births then Census else Move) else Effects) t) ≡ first_or (made_if (not invert) (step Effects t) ++ (made_if births (step Census t) ++ (step Move t ∷ rest))) o
first_said false births t rest o = refl
first_said true true t rest o = refl
first_said true false t rest o = refl

pub is_low : (t n : ℕ) → t < n → nat_lt t n ≡ true
is_low t n low = grind (arith, nat_tests, low)

module _ (s : Setting) where
  abbrev ending : ℕ → List Step
  ending t = step Move t ∷ show s (t + 1)

  abbrev later : ℕ → Option Step
  later t = slice_get (ticks_from s (t + 1)) 0

  tick_linked : (t : ℕ) → t < s.job.last → Linked (next_of s) (steps_in s t) (later t)
  tick_linked t low =
      let o : Option Step = later t in
      let census : List Step = made_if (has_births s.job.program) (step Census t) ++ ending t in
      let effects : List Step = made_if (not s.invert) (step Effects t) ++ census in
      let move_next : next_in s Move t ≡ first_or (show s (t + 1)) o =
      ap (λ c. if c then slice_get (steps_from s (t + 1)) 0 else None) (is_low t s.job.last low) ∙ first_in_both (show s (t + 1)) (ticks_from s (t + 1)) in
      subst (λ xs. Linked (next_of s) xs o) (sym (shape s t))
      (linked_if (next_of s) (is_recut s t) (step Hand t) (step Border t ∷ effects) o refl (
        first_said s.invert (has_births s.job.program) t (show s (t + 1)) o,
        linked_if (next_of s) (not s.invert) (step Effects t) census o (first_said true (has_births s.job.program) t (show s (t + 1)) o)
            (linked_if (next_of s) (has_births s.job.program) (step Census t) (ending t) o refl
            (move_next, linked_one (next_of s) (is_end s (t + 1)) (step Show (t + 1)) o refl)),
      ))

  ticks_linked : (n t : ℕ) → s.job.last - t ≡ n → Linked (next_of s) (flat_map (steps_in s) (range_with_len t n)) None
  ticks_linked zero t e = tt
  ticks_linked (suc n) t e =
      let rest : List Step = flat_map (steps_in s) (range_with_len (t + 1) n) in
      let left : s.job.last - (t + 1) ≡ n = omega (arith, e) in
      let follows : later t ≡ first_or rest None = ap (λ m. slice_get (flat_map (steps_in s) (range_with_len (t + 1) m)) 0) left ∙ first_at rest in
      linked_both (next_of s) (steps_in s t) rest None
      (subst (λ o. Linked (next_of s) (steps_in s t) o) follows (tick_linked t (omega (arith, e))))
      (ticks_linked n (t + 1) left)

  all_linked : Linked (next_of s) (steps s) None
  all_linked =
      let first : ℕ = s.job.first in
      linked_both (next_of s) (show s first) (ticks_from s first) None
      (linked_one (next_of s) (is_end s first) (step Show first) (first_or (ticks_from s first) None) (first_at (ticks_from s first)))
      (ticks_linked (s.job.last - first) first refl)

  -- what is next of a step of the run stands behind it
  pub next_is : (k : ℕ) (at : Step) → slice_get (steps s) k ≡ Some at → next_of s at ≡ slice_get (steps s) (k + 1)
  next_is k at e = let one : suc k ≡ k + 1 = omega arith in next_there (next_of s) (steps s) all_linked k at e ∙ ap (slice_get (steps s)) one

  -- where a stage is known
  pub is_behind : (at : Step) (stage : Stage) (o : Option Step) → at.stage ≡ stage → o ≡ next_in s stage at.tick → (k : ℕ) → slice_get (steps s) k ≡ Some at → o ≡ slice_get (steps s) (k + 1)
  is_behind at stage o is same k e = same ∙ ap (λ x. next_in s x at.tick) (sym is) ∙ next_is k at e

  -- no tick is left
  pub no_tick : (t : ℕ) → s.job.last ≤ t → None ≡ slice_get (ticks_from s t) 0
  no_tick t high =
      let none : 0 ≡ s.job.last - t = omega (arith, high) in
      ap (λ n. slice_get (flat_map (steps_in s) (range_with_len t n)) 0) none

  some_if : (c : Bool) (x y : Step) (rest others : List Step) → (if c then Some x else Some y) ≡ slice_get ((made_if c x ++ (y ∷ rest)) ++ others) 0
  some_if true x y rest others = refl
  some_if false x y rest others = refl

  -- the first step of a tick that is there
  pub first_of_tick : (t : ℕ) → t < s.job.last → (if is_recut s t then Some (step Hand t) else Some (step Border t)) ≡ slice_get (ticks_from s t) 0
  first_of_tick t low =
      let n : ℕ = s.job.last - (t + 1) in
      let some : suc n ≡ s.job.last - t = omega (arith, low) in
      let rest : List Step = made_if (not s.invert) (step Effects t) ++ (made_if (has_births s.job.program) (step Census t) ++ ending t) in
      let others : List Step = flat_map (steps_in s) (range_with_len (t + 1) n) in
      some_if (is_recut s t) (step Hand t) (step Border t) rest others
      ∙ ap (λ xs. slice_get (xs ++ others) 0) (sym (shape s t))
      ∙ ap (λ m. slice_get (flat_map (steps_in s) (range_with_len t m)) 0) some

  first_shown : (c : Bool) (x : Step) (ys : List Step) → (if c then Some x else slice_get ys 0) ≡ slice_get (made_if c x ++ ys) 0
  first_shown true x ys = refl
  first_shown false x ys = refl

  -- the first step behind those that lead to the world of a tick
  pub first_behind_tick : (t : ℕ) → (if is_end s t then Some (step Show t) else slice_get (ticks_from s t) 0) ≡ slice_get (steps_from s t) 0
  first_behind_tick t = first_shown (is_end s t) (step Show t) (ticks_from s t)

  -- ---- how many steps there are

  short_if : (c : Bool) (x : Step) → length (made_if c x) ≤ 1
  short_if true x = omega arith
  short_if false x = omega arith

  tick_short : (t : ℕ) → length (steps_in s t) ≤ 6
  tick_short t =
      let hand : List Step = made_if (is_recut s t) (step Hand t) in
      let effects : List Step = made_if (not s.invert) (step Effects t) in
      let census : List Step = made_if (has_births s.job.program) (step Census t) in
      omega (
        arith,
        ap length (shape s t),
        length-append hand (step Border t ∷ (effects ++ (census ++ ending t))),
        length-append effects (census ++ ending t),
        length-append census (ending t),
        short_if (is_recut s t) (step Hand t),
        short_if (not s.invert) (step Effects t),
        short_if (has_births s.job.program) (step Census t),
        short_if (is_end s (t + 1)) (step Show (t + 1)),
      )

  ticks_short : (n t : ℕ) → length (flat_map (steps_in s) (range_with_len t n)) ≤ 6 * n
  ticks_short zero t = omega arith
  ticks_short (suc n) t = omega (arith, length-append (steps_in s t) (flat_map (steps_in s) (range_with_len (t + 1) n)), tick_short t, ticks_short n (t + 1))

  -- a run has at most six steps a tick, and one
  pub steps_short : length (steps s) ≤ 6 * s.job.last + 1
  steps_short =
      let first : ℕ = s.job.first in
      omega (arith, length-append (show s first) (ticks_from s first), short_if (is_end s first) (step Show first), ticks_short (s.job.last - first) first)

-- ---- the lines of a plan

later_is_other : (a b t : ℕ) → nat_le a b ≡ true → nat_le b t ≡ true → (b == t) ≡ false → (a == t) ≡ false
later_is_other a b t le low other = grind (arith, nat_tests, le, low, other)

is_least : (a : ℕ) → nat_le a a ≡ true
is_least a = grind (arith, nat_tests)

higher_is_other : (a t : ℕ) → nat_le a t ≡ false → (a == t) ≡ false
higher_is_other a t high = grind (arith, nat_tests, high)

-- a line of a tick is there where the last line that is not later is of that tick
pub line_there : (lines : List CutLine) (tick n : ℕ) (d : CutLine) → IsInOrder lines → 1 ≤ n → n ≤ length lines
    → ((k : ℕ) (e : CutLine) → k < n → nat_le (get_or lines k e).tick tick ≡ true)
    → ((k : ℕ) (e : CutLine) → n ≤ k → k < length lines → nat_le (get_or lines k e).tick tick ≡ false)
    → ((get_or lines (n - 1) d).tick == tick) ≡ list_any (λ line. line.tick == tick) lines
line_there lines tick n d order some within is isnt =
    elim ((get_or lines (n - 1) d).tick == tick) as (λ v. ((get_or lines (n - 1) d).tick == tick) ≡ v → v ≡ list_any (λ line. line.tick == tick) lines) [
      | true ↦ λ e. sym (list_any_at (λ line. line.tick == tick) lines (n - 1) d (omega (arith, some, within)) e)
      | false ↦ λ e. sym (list_any_none (λ line. line.tick == tick) lines (λ i x below. elim (cases_lt i n) [
        | inl low ↦ later_is_other (get_or lines i x).tick (get_or lines (n - 1) x).tick tick (lines_are_parted lines (get_or lines (n - 1) x).tick order.goes_on i (n - 1) x (omega arith) (omega (arith, some, within)) (is_least (get_or lines (n - 1) x).tick)) (is (n - 1) x (omega (arith, some))) (subst (λ y. (y.tick == tick) ≡ false) (get_or_default lines (n - 1) d x (omega (arith, some, within))) e)
        | inr high ↦ higher_is_other (get_or lines i x).tick tick (isnt i x high below)
      ]))
    ] refl

-- ---- areas

pub both_none : (m n : ℤ) → (int_le m (pos 0) && int_le n (pos 0)) ≡ int_le (int_max m n) (pos 0)
both_none m n = grind (arith, ints)
