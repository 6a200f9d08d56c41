-- Who sees an agent of an area, or is seen by one, stands near it.
use Rattle.std.proofs.Common.{◌≡◌, refl, ap, ℕ, zero, suc, ℤ, pos, ◌≤ℤ◌, ◌+ℤ◌, ◌-ℤ◌, List, [], ◌∷◌, true, Option, Some, None, arith}
use Rattle.std.specs.Prelude.{not, ◌==◌, fold, slice_get, int_le}
use Rattle.std.specs.Int.{int_max}
use Rattle.std.proofs.lemmas.Int.{ints, clamps}
use Rattle.brace_num.specs.declared.kinds.Area.{Area}
use Rattle.brace_model.specs.declared.program.Class.{Class}
use Rattle.brace_model.specs.declared.program.Program.{Program}
use Rattle.brace_model.specs.declared.world.Agent.{Agent}
use Rattle.brace_model.specs.World.{class_of, x_of, y_of, is_within, reaches_to, sees}
use Rattle.brace_model.specs.Lawful.{LawfulProgram}
use Rattle.brace_num.specs.Areas.{outside, gap_to}
use Rattle.brace_invert.specs.Range.{greatest_visible}
use Rattle.brace_invert.proofs.RangeLemmas.{distance_low}
use Rattle.brace_invert.specs.Held.{stands_near, is_near}
use Rattle.std.proofs.lemmas.Bool.{and_parts}
use Rattle.std.proofs.lemmas.Option.{same_Some}
use Rattle.brace_num.proofs.Numbers.{le_holds, le_told, le_through, max_within, within_max}

-- two numbers within a distance, as an order of each
within : (v p q : ℤ) → is_within v p q ≡ true → ((p -ℤ q) ≤ℤ v) × ((q -ℤ p) ≤ℤ v)
within v p q e = (grind (arith, e), grind (arith, e))

either_way : (v p q : ℤ) → is_within v p q ≡ true → is_within v q p ≡ true
either_way v p q e = grind (arith, e)

outside_near : (low high p q v k : ℤ) → pos 0 ≤ℤ v → pos 0 ≤ℤ k → (p -ℤ q) ≤ℤ v → (q -ℤ p) ≤ℤ v → outside low high q ≤ℤ k → outside low high p ≤ℤ (k +ℤ v)
outside_near low high p q v k some more up down h = omega (arith, ints, clamps)

le_plus : (z k v w : ℤ) → z ≤ℤ (k +ℤ v) → v ≤ℤ w → z ≤ℤ (k +ℤ w)
le_plus z k v w h g = grind (arith, h, g)

-- a point so near another one that is near an area is near it too
gap_near : (area : Area) (ax ay bx by v k most : ℤ) → (pos 0 ≤ℤ v) × (v ≤ℤ most) → pos 0 ≤ℤ k → is_within v ax bx ≡ true → is_within v ay by ≡ true → int_le (gap_to area bx by) k ≡ true → int_le (gap_to area ax ay) (k +ℤ most) ≡ true
gap_near area ax ay bx by v k most (some, little) more x y h =
    let (along_x, along_y) = within_max (outside area.x0 area.x1 bx) (outside area.y0 area.y1 by) k (le_told _ _ h) in
    let (xu, xd) = within v ax bx x in
    let (yu, yd) = within v ay by y in
    le_holds _ _ (le_plus (gap_to area ax ay) k v most (max_within (outside area.x0 area.x1 ax) (outside area.y0 area.y1 ay) (k +ℤ v)
    (outside_near area.x0 area.x1 ax bx v k some more xu xd along_x) (outside_near area.y0 area.y1 ay by v k some more yu yd along_y)) little)

-- who reaches an agent that stands near an area stands near it
reaching_near : (area : Area) (o p : Option Class) (a b : Agent) (k most : ℤ) → ((c : Class) → o ≡ Some c → (pos 0 ≤ℤ c.visible) × (c.visible ≤ℤ most)) → pos 0 ≤ℤ k
    → reaches_to o p a b ≡ true → stands_near area k p b ≡ true → stands_near area (k +ℤ most) o a ≡ true
reaching_near area None p a b k most bounds more r h = absurd (cc)
reaching_near area (Some c) None a b k most bounds more r h = absurd (cc)
reaching_near area (Some c) (Some d) a b k most bounds more r h =
    let (x, y) = and_parts (is_within c.visible (x_of c a) (x_of d b)) (is_within c.visible (y_of c a) (y_of d b)) r in
    gap_near area (x_of c a) (y_of c a) (x_of d b) (y_of d b) c.visible k most (bounds c refl) more x y h

-- and so does who is reached from near it
reached_near : (area : Area) (o p : Option Class) (a b : Agent) (k most : ℤ) → ((c : Class) → o ≡ Some c → (pos 0 ≤ℤ c.visible) × (c.visible ≤ℤ most)) → pos 0 ≤ℤ k
    → reaches_to o p a b ≡ true → stands_near area k o a ≡ true → stands_near area (k +ℤ most) p b ≡ true
reached_near area None p a b k most bounds more r h = absurd (cc)
reached_near area (Some c) None a b k most bounds more r h = absurd (cc)
reached_near area (Some c) (Some d) a b k most bounds more r h =
    let (x, y) = and_parts (is_within c.visible (x_of c a) (x_of d b)) (is_within c.visible (y_of c a) (y_of d b)) r in
    gap_near area (x_of d b) (y_of d b) (x_of c a) (y_of c a) c.visible k most (bounds c refl) more
    (either_way c.visible (x_of c a) (x_of d b) x) (either_way c.visible (y_of c a) (y_of d b) y) h

-- of no class a number is above the greatest of all
module _ (of : Class → ℤ) where
  fold_up : (classes : List Class) (v : ℤ) → v ≤ℤ fold (λ v c. int_max v (of c)) v classes
  fold_up [] v = grind arith
  fold_up (c ∷ classes) v = let rest = fold_up classes (int_max v (of c)) in omega (arith, ints, clamps, rest)

  pub most_of : (classes : List Class) (v : ℤ) (n : ℕ) (c : Class) → slice_get classes n ≡ Some c → of c ≤ℤ fold (λ v c. int_max v (of c)) v classes
  most_of [] v n c e = absurd (cc)
  most_of (d ∷ classes) v zero c e =
      let rest = fold_up classes (int_max v (of d)) in let same : of d ≡ of c = ap of (same_Some d c e) in omega (arith, ints, clamps, rest, same)
  most_of (d ∷ classes) v (suc n) c e = most_of classes (int_max v (of d)) n c e

visible_bounds : (m : Program) → LawfulProgram m → (a : Agent) (c : Class) → class_of m a ≡ Some c → (pos 0 ≤ℤ c.visible) × (c.visible ≤ℤ greatest_visible m)
visible_bounds m lawful a c e = (distance_low c.visible (lawful.classes_are_lawful a.class c e).visible_is_distance, most_of (λ c. c.visible) m.classes (pos 0) a.class c e)

pub seer_near : (m : Program) → LawfulProgram m → (area : Area) (a b : Agent) (k : ℤ) → pos 0 ≤ℤ k → sees m a b ≡ true → is_near m area k b ≡ true → is_near m area (k +ℤ greatest_visible m) a ≡ true
seer_near m lawful area a b k more e h =
    let (two, reaches) = and_parts (not (a.id == b.id)) (reaches_to (class_of m a) (class_of m b) a b) e in
    reaching_near area (class_of m a) (class_of m b) a b k (greatest_visible m) (visible_bounds m lawful a) more reaches h

pub seen_near : (m : Program) → LawfulProgram m → (area : Area) (a b : Agent) (k : ℤ) → pos 0 ≤ℤ k → sees m a b ≡ true → is_near m area k a ≡ true → is_near m area (k +ℤ greatest_visible m) b ≡ true
seen_near m lawful area a b k more e h =
    let (two, reaches) = and_parts (not (a.id == b.id)) (reaches_to (class_of m a) (class_of m b) a b) e in
    reached_near area (class_of m a) (class_of m b) a b k (greatest_visible m) (visible_bounds m lawful a) more reaches h

farther : (area : Area) (o : Option Class) (a : Agent) (k n : ℤ) → k ≤ℤ n → stands_near area k o a ≡ true → stands_near area n o a ≡ true
farther area None a k n le h = absurd (cc)
farther area (Some c) a k n le h = le_holds (gap_to area (x_of c a) (y_of c a)) n (le_through (gap_to area (x_of c a) (y_of c a)) k n (le_told (gap_to area (x_of c a) (y_of c a)) k h) le)

pub nearer : (m : Program) (area : Area) (a : Agent) (k n : ℤ) → k ≤ℤ n → is_near m area k a ≡ true → is_near m area n a ≡ true
nearer m area a k n = farther area (class_of m a) a k n
