-- Where the points of a part stand, and that each point has one part.
use Rattle.std.proofs.Common.{◌≡◌, ◌∙◌, ℕ, ◌+◌, ◌*◌, ◌/◌, ◌%◌, ◌≤◌, ◌<◌, ℤ, pos, ◌-ℤ◌, ◌≤ℤ◌, List, length, true, false, sym, ap, ap₂, subst, arith}
use Rattle.std.specs.Prelude.{int_le, FitsSigned}
use Rattle.std.specs.Int.{int_max, w64}
use Rattle.std.proofs.lemmas.Int.{ints}
use Rattle.std.proofs.lemmas.List.Sums.{count_by-le-length}
use Rattle.std.proofs.lemmas.Nat.{div-add-mod', div-mul-add, mod-mul-add, div_below, mod_below}
use Rattle.brace_num.specs.declared.kinds.Area.{Area}
use Rattle.brace_num.specs.Areas.{outside, gap_to}
use Rattle.brace_num.proofs.Numbers.{le_holds, le_told}
use Rattle.brace_cuts.specs.declared.space.Cuts.{Cuts}
use Rattle.brace_cuts.specs.Space.{least, behind_all, rises, strip, low_end, high_end, columns_of, parts_of, area_of, owner_of}
use Rattle.brace_cuts.proofs.Strips.{own_low, own_high, only_strip}

-- a number of 64 bits is between the ends of all
above_least : (v : ℤ) → FitsSigned w64 v → int_le least v ≡ true
above_least v f = grind (arith, ints, f)

below_all : (v : ℤ) → FitsSigned w64 v → int_le behind_all v ≡ false
below_all v f = grind (arith, ints, f)

high_of : (c v : ℤ) → v ≤ℤ (c -ℤ pos 1) → int_le c v ≡ false
high_of c v h = grind (arith, ints, h)

of_high : (c v : ℤ) → int_le c v ≡ false → v ≤ℤ (c -ℤ pos 1)
of_high c v e = grind (arith, ints, e)

-- a number is between the ends of its strip
strip_holds : (cuts : List ℤ) (v : ℤ) → rises cuts ≡ true → FitsSigned w64 v → (low_end cuts (strip cuts v) ≤ℤ v) × (v ≤ℤ high_end cuts (strip cuts v))
strip_holds cuts v r f =
    (le_told _ v (own_low least v least cuts r (above_least v f)), of_high _ v (own_high v behind_all cuts r (below_all v f)))

-- and of no other one
strip_only : (cuts : List ℤ) (v : ℤ) (i : ℕ) → rises cuts ≡ true → i ≤ length cuts → low_end cuts i ≤ℤ v → v ≤ℤ high_end cuts i → i ≡ strip cuts v
strip_only cuts v i r within above below = only_strip least v behind_all least cuts i r within (le_holds _ v above) (high_of _ v below)

max_zero : (a b : ℤ) → int_max (pos 0) (int_max a b) ≤ℤ pos 0 → (a ≤ℤ pos 0) × (b ≤ℤ pos 0)
max_zero a b h = (grind (arith, h), grind (arith, h))

no_difference : (a b : ℤ) → (a -ℤ b) ≤ℤ pos 0 → a ≤ℤ b
no_difference a b h = omega (arith, ints, h)

difference : (a b : ℤ) → a ≤ℤ b → (a -ℤ b) ≤ℤ pos 0
difference a b h = omega (arith, ints, h)

max_of_two : (a b : ℤ) → a ≤ℤ pos 0 → b ≤ℤ pos 0 → int_max (pos 0) (int_max a b) ≡ pos 0
max_of_two a b h g = grind (arith, h, g)

outside_none : (low high p : ℤ) → low ≤ℤ p → p ≤ℤ high → outside low high p ≡ pos 0
outside_none low high p h g = max_of_two (low -ℤ p) (p -ℤ high) (difference low p h) (difference p high g)

pub none_outside : (low high p : ℤ) → outside low high p ≤ℤ pos 0 → (low ≤ℤ p) × (p ≤ℤ high)
none_outside low high p h =
    let (a, b) = max_zero (low -ℤ p) (p -ℤ high) h in (no_difference low p a, no_difference p high b)

pub both_at_most : (a b : ℤ) → int_max a b ≡ pos 0 → (a ≤ℤ pos 0) × (b ≤ℤ pos 0)
both_at_most a b e = (grind (arith, e), grind (arith, e))

-- a point of an area has no gap to it
gap_none : (area : Area) (x y : ℤ) → area.x0 ≤ℤ x → x ≤ℤ area.x1 → area.y0 ≤ℤ y → y ≤ℤ area.y1 → gap_to area x y ≡ pos 0
gap_none area x y a b c d = ap₂ int_max (outside_none area.x0 area.x1 x a b) (outside_none area.y0 area.y1 y c d)

strip_below : (cuts : List ℤ) (v : ℤ) → strip cuts v < length cuts + 1
strip_below cuts v = omega (arith, count_by-le-length (λ c. int_le c v) cuts)

-- a part without a gap to a point owns it
only_owner : (cuts : Cuts) (x y : ℤ) → rises cuts.xs ≡ true → rises cuts.ys ≡ true → (p : ℕ) → p < parts_of cuts
    → gap_to (area_of cuts p) x y ≡ pos 0 → p ≡ owner_of cuts x y
only_owner cuts x y rx ry p below e =
    let w = columns_of cuts in
    let column = mod_below p w (omega arith) in
    let row = div_below p w (length cuts.ys + 1) (omega arith) below in
    let (along_x, along_y) = both_at_most (outside (area_of cuts p).x0 (area_of cuts p).x1 x) (outside (area_of cuts p).y0 (area_of cuts p).y1 y) e in
    let (a, b) = none_outside (area_of cuts p).x0 (area_of cuts p).x1 x along_x in
    let (c, d) = none_outside (area_of cuts p).y0 (area_of cuts p).y1 y along_y in
    let i = strip_only cuts.xs x (p % w) rx (omega (arith, column)) a b in
    let j = strip_only cuts.ys y (p / w) ry (omega (arith, row)) c d in
    sym (div-add-mod' p w) ∙ ap₂ (λ m n. m * w + n) j i

-- a part that owns a point has no gap to it
owner_holds : (cuts : Cuts) (x y : ℤ) → rises cuts.xs ≡ true → rises cuts.ys ≡ true → FitsSigned w64 x → FitsSigned w64 y → (p : ℕ)
    → p ≡ owner_of cuts x y → gap_to (area_of cuts p) x y ≡ pos 0
owner_holds cuts x y rx ry fx fy p e =
    let w = columns_of cuts in
    let short : strip cuts.xs x < w = strip_below cuts.xs x in
    let i : p % w ≡ strip cuts.xs x = ap (λ n. n % w) e ∙ mod-mul-add (strip cuts.ys y) w (strip cuts.xs x) short in
    let j : p / w ≡ strip cuts.ys y = ap (λ n. n / w) e ∙ div-mul-add (strip cuts.ys y) w (strip cuts.xs x) short in
    let (a, b) = strip_holds cuts.xs x rx fx in
    let (c, d) = strip_holds cuts.ys y ry fy in
    gap_none (area_of cuts p) x y
    (subst (λ n. low_end cuts.xs n ≤ℤ x) (sym i) a) (subst (λ n. x ≤ℤ high_end cuts.xs n) (sym i) b)
    (subst (λ n. low_end cuts.ys n ≤ℤ y) (sym j) c) (subst (λ n. y ≤ℤ high_end cuts.ys n) (sym j) d)

-- the part that owns a point is the only one without a gap to it
pub owner_only : (cuts : Cuts) (x y : ℤ) → rises cuts.xs ≡ true → rises cuts.ys ≡ true → FitsSigned w64 x → FitsSigned w64 y → (p : ℕ) → p < parts_of cuts
    → (gap_to (area_of cuts p) x y ≡ pos 0 → p ≡ owner_of cuts x y) × (p ≡ owner_of cuts x y → gap_to (area_of cuts p) x y ≡ pos 0)
owner_only cuts x y rx ry fx fy p below = (only_owner cuts x y rx ry p below, owner_holds cuts x y rx ry fx fy p)
