-- Actors that stand by rising number: the one at a place, and what is left when it has made a turn.
use Rattle.std.proofs.Common.{◌≡◌, ℕ, zero, suc, ◌+◌, ◌%◌, ◌<◌, Bool, true, false, List, [], ◌∷◌, map, length, get_or, set, slice_index, refl, sym, ap, ◌∙◌, subst, arith}
use Rattle.std.specs.List.{All, range_with_len, sum_by}
use Rattle.std.proofs.lemmas.List.{length-map}
use Rattle.std.proofs.lemmas.List.Sums.{sum_by-set}
use Rattle.std.proofs.lemmas.List.FromFn.{length-range_with_len, get_or-range_with_len}
use Rattle.brace_core.specs.declared.name.Turn.{Turn}
use borrow.Author.Count.{below_more}
use Rattle.brace_core.specs.declared.name.Turn.TheVariants.{Done}
use Rattle.brace_core.specs.Schedule.{Schedule, turns, turn_at}
use Rattle.brace_core.specs.Exchanges.{turns_left}
use Rattle.brace_core.specs.Lanes.{OnLanes}
use Rattle.brace_core.specs.inner.Turns.{IsFirst, can_make}
use Rattle.brace_core.proofs.Owners.{left_before}

at_map_of : {A : Type 0} (f : A → ℕ) (xs : List A) (i : ℕ) (d : A) → i < length xs → get_or (map f xs) i 0 ≡ f (get_or xs i d)
at_map_of f [] i d l = absurd (omega arith)
at_map_of f (x ∷ xs) zero d l = refl
at_map_of f (x ∷ xs) (suc i) d l = at_map_of f xs i d (omega arith)

module _ {A S : Type 0} (setting : A → S) (number past : A → ℕ) (schedule : S → Schedule) (actors : List A) (common : S) (n : ℕ)
    (settings : All (λ a. setting a ≡ common) actors) (numbers : map number actors ≡ range_with_len 0 n) where
  pub count : length actors ≡ n
  count = sym (length-map actors number) ∙ ap length numbers ∙ length-range_with_len 0 n

  module _ (p : ℕ) (low : p < n) (a : A) (is : a ≡ get_or actors p a) where
    pub setting_at : setting a ≡ common
    setting_at = ap setting is ∙ settings p a (omega (arith, count))

    pub number_at : number a ≡ p
    number_at =
        let at : get_or (map number actors) p 0 ≡ number (get_or actors p a) = at_map_of number actors p a (omega (arith, count)) in
        let value : get_or (range_with_len 0 n) p 0 ≡ 0 + p = get_or-range_with_len 0 n p 0 low in
        let same : number a ≡ number (get_or actors p a) = ap number is in
        let list : get_or (map number actors) p 0 ≡ get_or (range_with_len 0 n) p 0 = ap (λ ns. get_or ns p 0) numbers in
        omega arith

    pub past_at : past a ≡ slice_index (map past actors) p
    past_at = ap past is ∙ sym (at_map_of past actors p a (omega (arith, count)))

    pub turn_is : turn_at (schedule (setting a)) (number a) (past a) ≡ turn_at (schedule common) p (slice_index (map past actors) p)
    turn_is =
        ap (λ s. turn_at (schedule s) (number a) (past a)) setting_at
        ∙ ap (λ k. turn_at (schedule common) k (past a)) number_at
        ∙ ap (turn_at (schedule common) p) past_at

-- where one of actors has made one turn more, fewer are left in all
pub left_smaller : {A S : Type 0} (setting : A → S) (number past : A → ℕ) (schedule : S → Schedule) (actors : List A) (p : ℕ) (a b : A) → p < length actors → a ≡ get_or actors p a
    → setting b ≡ setting a → number b ≡ number a → past b ≡ past a + 1 → (turn_at (schedule (setting a)) (number a) (past a) ≡ Done → ⊥)
    → sum_by (turns_left setting number past schedule) (set actors p b) < sum_by (turns_left setting number past schedule) actors
left_smaller {A} {S} setting number past schedule actors p a b low here same own on some =
    let left : A → ℕ = turns_left setting number past schedule in
    let sums : sum_by left (set actors p b) + left (get_or actors p a) ≡ sum_by left actors + left b = sum_by-set left actors p b a low in
    let all : length (turns (schedule (setting b)) (number b)) ≡ length (turns (schedule (setting a)) (number a)) =
    ap (λ (s : S). length (turns (schedule s) (number b))) same ∙ ap (λ n. length (turns (schedule (setting a)) n)) own in
    let more : past a < length (turns (schedule (setting a)) (number a)) = left_before (turns (schedule (setting a)) (number a)) (past a) some in
    omega (arith, ap left here)

-- a search from a drawn number onward, cyclically
module _ (test : ℕ → Bool) (n count drawn i : ℕ) (is : count ≡ n) (low : i < count) (before : (k : ℕ) → k < i → test ((drawn + k) % n) ≡ false) where
  pub found_first : test ((drawn + i) % count) ≡ true → IsFirst test n drawn ((drawn + i) % count)
  found_first passes = record { steps = i; within = omega arith; is = ap (λ m. (drawn + i) % m) is; passes = passes; first = before }

  pub passed_more : test ((drawn + i) % count) ≡ false → (k : ℕ) → k < i + 1 → test ((drawn + k) % n) ≡ false
  passed_more fails = below_more (λ k. test ((drawn + k) % n) ≡ false) i before (subst (λ m. test ((drawn + i) % m) ≡ false) is fails)

-- what holds of each holds of each after one was replaced by such a one
pub all_set : {A : Type 0} (P : A → Type 0) (xs : List A) (p : ℕ) (b : A) → All P xs → P b → All P (set xs p b)
all_set P [] p b all here = all
all_set P (x ∷ xs) zero b all here = λ i d l. elim i as (λ j. j < length (b ∷ xs) → P (get_or (b ∷ xs) j d)) [ zero ↦ λ _. here | suc j ↦ λ low. all (suc j) d low ] l
all_set P (x ∷ xs) (suc p) b all here = λ i d l. elim i as (λ j. j < length (x ∷ set xs p b) → P (get_or (x ∷ set xs p b) j d)) [
  | zero ↦ λ _. all 0 d (omega arith)
  | suc j ↦ λ low. all_set P xs p b (λ k e m. all (suc k) e (omega arith)) here j d (omega arith)
] l

-- one replaced by another that reads the same leaves what is read of all
pub map_kept : {A B : Type 0} (f : A → B) (xs : List A) (p : ℕ) (a b : A) → a ≡ get_or xs p a → f b ≡ f a → map f (set xs p b) ≡ map f xs
map_kept f [] p a b is same = refl
map_kept f (x ∷ xs) zero a b is same = ap (λ y. y ∷ map f xs) (same ∙ ap f is)
map_kept f (x ∷ xs) (suc p) a b is same = ap (λ ys. f x ∷ ys) (map_kept f xs p a b is same)

-- what a test said of a turn, at an equal turn
pub said_of : {F S : Type 0} (v : OnLanes F S) (t u : Turn) (said answer : Bool) → t ≡ u → said ≡ can_make v t → said ≡ answer → can_make v u ≡ answer
said_of v t u said answer same is e = ap (can_make v) (sym same) ∙ sym is ∙ e
