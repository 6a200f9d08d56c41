-- Constants that are set and set back.
use Rattle.std.proofs.Common.{◌≡◌, ◌∙◌, sym, refl, ap, ℕ, zero, suc, List, [], ◌∷◌, ◌++◌, ◌≤◌, length, take, drop, set, get_or, append_assoc}
use Rattle.std.proofs.lemmas.List.{set_past, take-append-le, drop-append-le}
use Rattle.brace_model.specs.declared.program.Value.{Value}
use Rattle.brace_plan.specs.declared.desk.Former.{Former}
use Rattle.brace_plan.specs.inner.Walks.{Sets, undone}

undone-append : (xs ys : List Former) (l : List Value) → undone (xs ++ ys) l ≡ undone xs (undone ys l)
undone-append [] ys l = refl
undone-append (b ∷ xs) ys l = ap (λ (r : List Value). set r b.place b.before) (undone-append xs ys l)

back : (l : List Value) (i : ℕ) (v d : Value) → set (set l i v) i (get_or l i d) ≡ l
back [] i v d = refl
back (x ∷ l) zero v d = refl
back (x ∷ l) (suc i) v d = ap (λ (r : List Value). x ∷ r) (back l i v d)

-- one constant is set
pub sets-one : (t : List Former) (n : ℕ) (d v : Value) (l : List Value)
    → Sets t (t ++ record { place = n; before = get_or l n d } ∷ []) l (set l n v)
sets-one t n d v l = record {
  more = record { place = n; before = get_or l n d } ∷ [];
  is = refl;
  back = back l n v d;
}

-- constants are set, and then others
pub sets-then : (a b c : List Former) (x y z : List Value) → Sets a b x y → Sets b c y z → Sets a c x z
sets-then a b c x y z s u = record {
  more = s.more ++ u.more;
  is = u.is ∙ ap (λ (t : List Former). t ++ u.more) s.is ∙ append_assoc a s.more u.more;
  back = undone-append s.more u.more z ∙ ap (undone s.more) u.back ∙ s.back;
}

-- the last constant of a trail is set back
pub undone-last : (mark : ℕ) (all left : List Former) (b : Former) (l : List Value) → all ≡ left ++ b ∷ []
    → mark ≤ length left → undone (drop mark left) (set l b.place b.before) ≡ undone (drop mark all) l
undone-last mark all left b l is low =
    sym (ap (λ (t : List Former). undone (drop mark t) l) is
    ∙ ap (λ (t : List Former). undone t l) (drop-append-le mark left (b ∷ []) low)
    ∙ undone-append (drop mark left) (b ∷ []) l)

pub kept-last : (mark : ℕ) (all left : List Former) (b : Former) → all ≡ left ++ b ∷ []
    → mark ≤ length left → take mark left ≡ take mark all
kept-last mark all left b is low =
    sym (ap (take mark) is ∙ take-append-le mark left (b ∷ []) low)

-- the last constant of a trail has no place
pub undone-past : (mark : ℕ) (all left : List Former) (b : Former) (l : List Value) → all ≡ left ++ b ∷ []
    → mark ≤ length left → length l ≤ b.place → undone (drop mark left) l ≡ undone (drop mark all) l
undone-past mark all left b l is low past =
    ap (undone (drop mark left)) (sym (set_past l b.place b.before past)) ∙ undone-last mark all left b l is low
