-- Which strip a number is in: of rising cuts it is not below the first ones.
use Rattle.std.proofs.Common.{◌≡◌, ◌∙◌, ℕ, zero, suc, ◌+◌, ◌≤◌, ◌<◌, ℤ, List, [], ◌∷◌, length, get_or, take, drop, Bool, true, false, refl, sym, ap, subst, arith, ⊎_elim, ◌≤ℤ◌, zero-add}
use Rattle.std.specs.Prelude.{int_lt, int_le, cond}
use Rattle.std.specs.List.{filter, count_by}
use Rattle.std.specs.List.Sorted.{IsPartitionedBy}
use Rattle.std.proofs.lemmas.List.{length-take-le}
use Rattle.std.proofs.lemmas.List.Sums.{length-filter, sum_by-cons}
use Rattle.std.proofs.lemmas.Int.{ints}
use Rattle.std.proofs.lemmas.Bool.{cases_Bool, and_parts}
use Rattle.brace_num.proofs.Numbers.{le_told, le_holds, le_through}
use Rattle.brace_cuts.specs.Space.{rises, strip}

lt_then_not : (c d v : ℤ) → int_lt c d ≡ true → int_le c v ≡ false → int_le d v ≡ false
lt_then_not c d v up isnt = grind (arith, ints, up, isnt)

one_more : (n : ℕ) → 1 + n ≡ suc n
one_more n = omega arith

strip_yes : (c v : ℤ) (cuts : List ℤ) → int_le c v ≡ true → strip (c ∷ cuts) v ≡ suc (strip cuts v)
strip_yes c v cuts is = sum_by-cons (λ z. cond (int_le z v) 1 0) c cuts ∙ ap (λ b. cond b 1 0 + strip cuts v) is ∙ one_more (strip cuts v)

strip_skip : (c v : ℤ) (cuts : List ℤ) → int_le c v ≡ false → strip (c ∷ cuts) v ≡ strip cuts v
strip_skip c v cuts isnt = sum_by-cons (λ z. cond (int_le z v) 1 0) c cuts ∙ ap (λ b. cond b 1 0 + strip cuts v) isnt ∙ zero-add (strip cuts v)

-- below the first cut no cut is reached
strip_no : (c v : ℤ) (cuts : List ℤ) → rises (c ∷ cuts) ≡ true → int_le c v ≡ false → strip (c ∷ cuts) v ≡ 0
strip_no c v [] r isnt = strip_skip c v [] isnt
strip_no c v (d ∷ cuts) r isnt =
    let (up, rest) = and_parts (int_lt c d) (rises (d ∷ cuts)) r in
    strip_skip c v (d ∷ cuts) isnt ∙ strip_no d v cuts rest (lt_then_not c d v up isnt)

-- cuts but for the first rise
tail_rises : (c : ℤ) (cuts : List ℤ) → rises (c ∷ cuts) ≡ true → rises cuts ≡ true
tail_rises c [] r = refl
tail_rises c (d ∷ cuts) r = (and_parts (int_lt c d) (rises (d ∷ cuts)) r).1

lt_of : (c v : ℤ) → int_lt c v ≡ true → c ≤ℤ v
lt_of c v e = grind (arith, ints, e)

-- a number is not below the low end of its strip
pub own_low : (low v d : ℤ) (cuts : List ℤ) → rises cuts ≡ true → int_le low v ≡ true → int_le (get_or (low ∷ cuts) (strip cuts v) d) v ≡ true
own_low low v d [] r h = h
own_low low v d (c ∷ cuts) r h =
    ⊎_elim
    (λ (is : int_le c v ≡ true). subst (λ n. int_le (get_or (low ∷ c ∷ cuts) n d) v ≡ true) (sym (strip_yes c v cuts is)) (own_low c v d cuts (tail_rises c cuts r) is))
    (λ (isnt : int_le c v ≡ false). subst (λ n. int_le (get_or (low ∷ c ∷ cuts) n d) v ≡ true) (sym (strip_no c v cuts r isnt)) h)
    (cases_Bool (int_le c v))

-- a number is below the cut behind its strip
pub own_high : (v high : ℤ) (cuts : List ℤ) → rises cuts ≡ true → int_le high v ≡ false → int_le (get_or cuts (strip cuts v) high) v ≡ false
own_high v high [] r h = h
own_high v high (c ∷ cuts) r h =
    ⊎_elim
    (λ (is : int_le c v ≡ true). subst (λ n. int_le (get_or (c ∷ cuts) n high) v ≡ false) (sym (strip_yes c v cuts is)) (own_high v high cuts (tail_rises c cuts r) h))
    (λ (isnt : int_le c v ≡ false). subst (λ n. int_le (get_or (c ∷ cuts) n high) v ≡ false) (sym (strip_no c v cuts r isnt)) isnt)
    (cases_Bool (int_le c v))

-- the first of rising cuts is the least
first_least : (c d : ℤ) (cuts : List ℤ) (k : ℕ) → rises (c ∷ cuts) ≡ true → k ≤ length cuts → c ≤ℤ get_or (c ∷ cuts) k d
first_least c d cuts zero r low = grind (arith, ints)
first_least c d [] (suc k) r low = absurd (omega (arith, low))
first_least c d (b ∷ cuts) (suc k) r low =
    let (up, rest) = and_parts (int_lt c b) (rises (b ∷ cuts)) r in
    le_through c b _ (lt_of c b up) (first_least b d cuts k rest (omega (arith, low)))

-- no other strip has the number between its ends
pub only_strip : (low v high d : ℤ) (cuts : List ℤ) (i : ℕ) → rises cuts ≡ true → i ≤ length cuts
    → int_le (get_or (low ∷ cuts) i d) v ≡ true → int_le (get_or cuts i high) v ≡ false → i ≡ strip cuts v
only_strip low v high d [] zero r within above below = refl
only_strip low v high d [] (suc i) r within above below = absurd (omega (arith, within))
only_strip low v high d (c ∷ cuts) zero r within above below = sym (strip_no c v cuts r below)
only_strip low v high d (c ∷ cuts) (suc i) r within above below =
    let short : i ≤ length cuts = omega (arith, within) in
    let is = le_holds c v (le_through c _ v (first_least c d cuts i r short) (le_told _ v above)) in
    ap suc (only_strip c v high d cuts i (tail_rises c cuts r) short above below) ∙ sym (strip_yes c v cuts is)

-- rising cuts, in order
in_order : (d : ℤ) (cuts : List ℤ) (i j : ℕ) → rises cuts ≡ true → i ≤ j → j < length cuts → get_or cuts i d ≤ℤ get_or cuts j d
in_order d [] i j r up below = absurd (omega (arith, below))
in_order d (c ∷ cuts) zero j r up below = first_least c d cuts j r (omega (arith, below))
in_order d (c ∷ cuts) (suc i) zero r up below = absurd (omega (arith, up))
in_order d (c ∷ cuts) (suc i) (suc j) r up below = in_order d cuts i j (tail_rises c cuts r) (omega (arith, up)) (omega (arith, below))

-- the cuts that a number is not below come first
pub cuts_are_parted : (v : ℤ) (cuts : List ℤ) → rises cuts ≡ true → IsPartitionedBy (λ c. int_le c v) cuts
cuts_are_parted v cuts r i j d up below is = le_holds _ v (le_through _ _ v (in_order d cuts i j r up below) (le_told _ v is))

-- what passes a test before a place and not behind it is what stands before that place
pub filter_is_front : {X : Type 0} (p : X → Bool) (xs : List X) (i : ℕ) → i ≤ length xs
    → ((k : ℕ) (d : X) → k < i → p (get_or xs k d) ≡ true) → ((k : ℕ) (d : X) → i ≤ k → k < length xs → p (get_or xs k d) ≡ false)
    → filter p xs ≡ take i xs
filter_is_front p [] zero short is isnt = refl
filter_is_front p [] (suc i) short is isnt = absurd (omega (arith, short))
filter_is_front p (x ∷ xs) zero short is isnt =
    ap (λ b. cond b (x ∷ filter p xs) (filter p xs)) (isnt 0 x (omega arith) (omega arith))
    ∙ filter_is_front p xs zero (omega arith) (λ k d h. absurd (omega (arith, h))) (λ k d from below. isnt (suc k) d (omega arith) (omega (arith, below)))
filter_is_front p (x ∷ xs) (suc i) short is isnt =
    ap (λ b. cond b (x ∷ filter p xs) (filter p xs)) (is 0 x (omega arith))
    ∙ ap (λ l. x ∷ l) (filter_is_front p xs i (omega (arith, short)) (λ k d h. is (suc k) d (omega (arith, h))) (λ k d from below. isnt (suc k) d (omega (arith, from)) (omega (arith, below))))

-- and so many pass it
pub count_is_place : {X : Type 0} (p : X → Bool) (xs : List X) (i : ℕ) → i ≤ length xs
    → ((k : ℕ) (d : X) → k < i → p (get_or xs k d) ≡ true) → ((k : ℕ) (d : X) → i ≤ k → k < length xs → p (get_or xs k d) ≡ false)
    → i ≡ count_by p xs
count_is_place p xs i short is isnt =
    sym (length-take-le i xs short) ∙ ap length (sym (filter_is_front p xs i short is isnt)) ∙ length-filter p xs

-- no cut and one cut rise
pub rises_at_end : (cuts : List ℤ) (n : ℕ) → length cuts ≤ n + 1 → rises (drop n cuts) ≡ true
rises_at_end [] zero short = refl
rises_at_end [] (suc n) short = refl
rises_at_end (c ∷ []) zero short = refl
rises_at_end (c ∷ []) (suc zero) short = refl
rises_at_end (c ∷ []) (suc (suc n)) short = refl
rises_at_end (c ∷ b ∷ cuts) zero short = absurd (omega (arith, short))
rises_at_end (c ∷ b ∷ cuts) (suc n) short = rises_at_end (b ∷ cuts) n (omega (arith, short))
