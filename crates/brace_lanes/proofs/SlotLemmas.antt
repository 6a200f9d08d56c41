-- Slots are apart, and who holds one.
use Rattle.std.proofs.Common.{◌≡◌, ◌≤◌, ◌<◌, ◌+◌, ◌*◌, ◌%◌, ◌∙◌, ℕ, List, [], ◌∷◌, ◌++◌, set, sym, ap, inl, inr, arith, mul-le-mul_right}
use Rattle.std.proofs.lemmas.Bool.{cases_eq}
use Rattle.std.proofs.lemmas.Nat.{mod_below}
use mathlib.Core.Option.{some, some-injective}
use lib.ListN.{get_elem?}
use Rattle.atomic_table.specs.Table.{State}
use Rattle.atomic_table.proofs.Lists.{set_else, at_longer}
use Rattle.brace_lanes.specs.declared.table.View.{View}
use Rattle.brace_lanes.specs.declared.table.Hand.{Hand}
use Rattle.brace_lanes.specs.declared.table.Hand.TheVariants.{Empty, ToPut, ToTake}
use Rattle.brace_lanes.specs.Places.{place, slot, slot_count}
use Rattle.brace_lanes.specs.Views.{Serves}
use Rattle.brace_lanes.specs.Rule.{KeptAmong, IsHeld}
use Rattle.brace_lanes.proofs.PlaceLemmas.{place_below, apart}
use Rattle.brace_lanes.proofs.ViewLists.{view_here}

pub slot_below : (n a b k : ℕ) → a < n → b < n → slot n (place n a b) k < slot_count n
slot_below n a b k la lb =
    let r = mod_below k 2 (omega arith) in
    let m : k % 2 * (n * n) ≤ 1 * (n * n) = mul-le-mul_right (n * n) (omega (arith, r)) in
    let l = place_below n a b la lb in
    omega (arith, m, l)

pub slots_apart : (n a b c d k m : ℕ) → a < n → b < n → c < n → d < n → slot n (place n a b) k ≡ slot n (place n c d) m → (a ≡ c) × (b ≡ d) × (k % 2 ≡ m % 2)
slots_apart n a b c d k m la lb lc ld e =
    let (r, l) = apart (n * n) (k % 2) (place n a b) (m % 2) (place n c d) (place_below n a b la lb) (place_below n c d lc ld) e in
    let (x, y) = apart n a b c d lb ld l in
    (x, y, r)

-- what a hand is for, and at which place
abbrev hand_kind : Hand → ℕ
hand_kind Empty = 0
hand_kind (ToPut at) = 1
hand_kind (ToTake at) = 2

abbrev hand_place : Hand → ℕ
hand_place Empty = 0
hand_place (ToPut at) = at
hand_place (ToTake at) = at

pub same_put : (a b : ℕ) → ToPut a ≡ ToPut b → a ≡ b
same_put a b e = ap hand_place e

pub same_take : (a b : ℕ) → ToTake a ≡ ToTake b → a ≡ b
same_take a b e = ap hand_place e

pub put_or_take : (a b : ℕ) → ToPut a ≡ ToTake b → ⊥
put_or_take a b e = let k : 1 ≡ 2 = ap hand_kind e in absurd (omega (arith, k))

pub idle_or_put : (b : ℕ) → Empty ≡ ToPut b → ⊥
idle_or_put b e = let k : 0 ≡ 1 = ap hand_kind e in absurd (omega (arith, k))

pub idle_or_take : (b : ℕ) → Empty ≡ ToTake b → ⊥
idle_or_take b e = let k : 0 ≡ 2 = ap hand_kind e in absurd (omega (arith, k))

module _ {S : Type 0} where
  -- a slot is held after the view of a seat changed, which let go of no such slot
  pub held_after : (views : List (View S)) (id : ℕ) (v w : View S) (hand : Hand) → get_elem? views id ≡ some v → (v.hand ≡ hand → w.hand ≡ hand) → IsHeld views hand → IsHeld (set views id w) hand
  held_after views id v w hand at still (j, u, e, is) = elim (cases_eq j id) [
    | inl same ↦ (id, w, view_here views id v w at, still (ap (λ (x : View S). x.hand) (some-injective v u (sym at ∙ ap (get_elem? views) (sym same) ∙ e)) ∙ is))
    | inr far ↦ (j, u, set_else views id j w far ∙ e, is)
  ]

  pub held_more : (views : List (View S)) (w : View S) (hand : Hand) → IsHeld views hand → IsHeld (views ++ w ∷ []) hand
  held_more views w hand (j, u, e, is) = (j, u, at_longer views (w ∷ []) j u e, is)

  -- one actor is served by one seat
  pub one_place : {X : Type 0} (n seats made : ℕ) (s : State X (View S)) (k : KeptAmong n seats made s) (j id : ℕ) (u v : View S) (a : ℕ) → get_elem? s.views j ≡ some u → get_elem? s.views id ≡ some v → Serves u a → Serves v a → j ≡ id
  one_place n seats made s k j id u v a e at hers his =
      k.alone j id u v e at (sym hers ∙ ap (λ m. a % m) ((k.each j u e).of_seats ∙ sym ((k.each id v at).of_seats)) ∙ his)

  pub one_seat : {X : Type 0} (n seats made : ℕ) (s : State X (View S)) (k : KeptAmong n seats made s) (j id : ℕ) (u v : View S) (a : ℕ) → get_elem? s.views j ≡ some u → get_elem? s.views id ≡ some v → Serves u a → Serves v a → u ≡ v
  one_seat n seats made s k j id u v a e at hers his = some-injective u v (sym e ∙ ap (get_elem? s.views) (one_place n seats made s k j id u v a e at hers his) ∙ at)
