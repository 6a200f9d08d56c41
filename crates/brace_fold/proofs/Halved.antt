-- Lower halves of words of spots, one by one.
use Rattle.std.proofs.Common.{◌≡◌, ◌∙◌, sym, ap, ap₂, subst, arith, ℕ, ◌+◌, ◌-◌, ◌<◌, ◌≤◌, ⊎_elim, ℤ, pos, ◌-ℤ◌, ◌*ℤ◌, ◌<ℤ◌, ◌≤ℤ◌, false, FitsSigned, of_z, to_z, w64, int_lt, List, [], ◌∷◌, ◌++◌, length, map, take, get_or}
use Rattle.std.specs.Prelude.{int_le, replicate}
use Rattle.std.proofs.lemmas.Bool.{cases_lt}
use Rattle.std.proofs.lemmas.Int.{ints, to_z-of_z}
use Rattle.std.proofs.lemmas.List.{length-map, map-append, take_all, take_more}
use Rattle.brace_fold.specs.declared.cells.Spot.{Spot}
use Rattle.brace_fold.specs.inner.Sights.{IsLow}

-- a loop's step: the word of one spot more
pub words_on : (f : Spot → ℤ) (spots : List Spot) (i : ℕ) (d : Spot) (before new : List ℤ)
    (v : ℤ) → i < length spots → new ≡ before ++ v ∷ [] → v ≡ f (get_or spots i d)
    → before ≡ map f (take i spots) → new ≡ map f (take (i + 1) spots)
words_on f spots i d before new v low is v_is so_far =
    is
    ∙ ap₂ (λ l z. l ++ z ∷ []) so_far v_is
    ∙ sym (map-append f (take i spots) (get_or spots i d ∷ []))
    ∙ ap (map f) (sym (take_more spots i d low))

-- the words of all spots, and four more
pub words_all : (f : Spot → ℤ) (spots : List Spot) (i len count : ℕ) (before new : List ℤ)
    → new ≡ take count before ++ replicate (count - len) (pos 0) → len ≡ length before
    → count ≡ length spots + 4 → length spots ≤ i → before ≡ map f (take i spots)
    → new ≡ map f spots ++ replicate 4 (pos 0)
words_all f spots i len count before new is len_is count_is all so_far =
    let words : before ≡ map f spots = so_far ∙ ap (map f) (take_all i spots all) in
    let long : len ≡ length spots = len_is ∙ ap length words ∙ length-map spots f in
    is
    ∙ ap₂ (λ l n. l ++ replicate n (pos 0))
    (take_all count before (omega (arith, count_is, long, len_is)) ∙ words)
    (let e : count - len ≡ 4 = omega (arith, count_is, long) in e)

-- what holds of the words of spots up to one, and of that one, holds of those up to the next
pub each_on : (P : ℤ → Type 0) (spots : List Spot) (i : ℕ)
    → ((k : ℕ) (d : Spot) → k < i → P (get_or spots k d).y) → ((d : Spot) → P (get_or spots i d).y)
    → (k : ℕ) (d : Spot) → k < i + 1 → P (get_or spots k d).y
each_on P spots i so_far here k d low =
    ⊎_elim
    (λ (less : k < i). so_far k d less)
    (λ (more : i ≤ k).
    let same : i ≡ k = omega (arith, low, more) in
    subst (λ n. P (get_or spots n d).y) same (here d))
    (cases_lt k i)

not_below : (a b : ℤ) → int_lt a b ≡ false → b ≤ℤ a
not_below a b h = grind (arith, ints, h)

not_up_to : (a b : ℤ) → int_le a b ≡ false → b <ℤ a
not_up_to a b h = grind (arith, ints, h)

-- what two comparisons with the edges tell
pub low_here : (v side : ℤ) → pos 0 <ℤ side → int_lt (pos 1073741824) side ≡ false
    → FitsSigned w64 v
    → int_lt (to_z w64 (of_z w64 v))
    (to_z w64 (of_z w64 (pos 0 -ℤ to_z w64 (of_z w64 (pos 262142 *ℤ side))))) ≡ false
    → int_le (to_z w64 (of_z w64 (pos 262142 *ℤ side))) (to_z w64 (of_z w64 v)) ≡ false
    → IsLow side v
low_here v side some wide fits above below =
    let small = not_below (pos 1073741824) side wide in
    let edge_fits : FitsSigned w64 (pos 262142 *ℤ side) = omega (arith, ints, some, small) in
    let less_fits : FitsSigned w64 (pos 0 -ℤ (pos 262142 *ℤ side)) =
    omega (arith, ints, some, small) in
    let edge = to_z-of_z w64 (pos 262142 *ℤ side) edge_fits in
    let less = ap (λ e. to_z w64 (of_z w64 (pos 0 -ℤ e))) edge
    ∙ to_z-of_z w64 (pos 0 -ℤ (pos 262142 *ℤ side)) less_fits in
    let same = to_z-of_z w64 v fits in
    record {
      above = not_below v (pos 0 -ℤ (pos 262142 *ℤ side))
          (sym (λ i. int_lt (same i) (less i)) ∙ above);
      below = not_up_to (pos 262142 *ℤ side) v (sym (λ i. int_le (edge i) (same i)) ∙ below);
    }
