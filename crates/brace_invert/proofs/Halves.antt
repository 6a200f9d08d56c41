-- How a block and its two parts stand to each other.
use Rattle.std.proofs.Common.{◌≡◌, ◌∙◌, refl, sym, ap, ap₂, subst, ℕ, ◌+◌, List, [], ◌∷◌, ◌++◌, map, flat_map, sum, Bool, true, false, ◌==◌, arith}
use Rattle.brace_model.specs.declared.program.Who.{Who}
use Rattle.brace_model.specs.declared.program.Expr.{Expr}
use Rattle.brace_model.specs.declared.program.Stmt.{Stmt}
use Rattle.std.specs.Prelude.{if◌then◌else◌}
use Rattle.brace_model.specs.declared.program.Who.TheVariants.{This, Outer, Inner}
use Rattle.brace_model.specs.declared.program.Stmt.TheVariants.{Const, If, Foreach, Assign}
use Rattle.brace_model.specs.Sites.{constant_numbers, assignments}
use Rattle.brace_model.proofs.LawEquations.{assignments-If, assignments-Foreach, assignments-Assign}
use Rattle.brace_invert.specs.Split.{forward_of, inverse_of, places}
use Rattle.brace_invert.proofs.PartEquations.{forward_of-Const, forward_of-If, forward_of-Foreach, forward_of-Assign, inverse_of-Const, inverse_of-If, inverse_of-Foreach, inverse_of-Assign}
use Rattle.brace_model.proofs.Blocks as b
use Rattle.brace_model.proofs.Blocks.{Plain, plain}
use Rattle.brace_invert.proofs.Pruned as p
use Rattle.brace_invert.proofs.Pruned.{Pruned}
use Rattle.brace_invert.proofs.Numbers.{count-cons, count-append, numbers_kept}

-- a block, its forward part and its inverse part
pub data Halves : List Stmt → List Stmt → List Stmt → Type 0 where
  none : Halves [] [] []
  const : (n : ℕ) (e : Expr) (s f i : List Stmt) → Halves s f i → Halves (Const n e ∷ s) (Const n e ∷ f) (Const n e ∷ i)
  cond : (c : Expr) (a fa ia b fb ib s f i : List Stmt) → Halves a fa ia → Halves b fb ib → Halves s f i → Halves (If c a b ∷ s) (If c fa fb ∷ f) (If c ia ib ∷ i)
  loop : (class at : ℕ) (body fb ib s f i : List Stmt) → Halves body fb ib → Halves s f i → Halves (Foreach class body at ∷ s) (Foreach class fb at ∷ f) (Foreach class ib at ∷ i)
  away : (class at : ℕ) (body s f i : List Stmt) → Halves s f i → Halves (Foreach class body at ∷ s) (Foreach class body at ∷ f) (places (flat_map constant_numbers body) ++ i)
  own : (who : Who) (effect : ℕ) (e : Expr) (at : ℕ) (s f i : List Stmt) → Halves s f i → Halves (Assign who effect e at ∷ s) (Assign who effect e at ∷ f) i
  other : (who : Who) (effect : ℕ) (e : Expr) (at : ℕ) (s f i : List Stmt) → Halves s f i → Halves (Assign who effect e at ∷ s) f (Assign who effect e at ∷ i)

pub forward_pruned : (s f i : List Stmt) → Halves s f i → Pruned s f
forward_pruned _ _ _ none = p.none
forward_pruned _ _ _ (const n e s f i h) = p.const n e s f (forward_pruned s f i h)
forward_pruned _ _ _ (cond c a fa ia b fb ib s f i ha hb h) = p.cond c a fa b fb s f (forward_pruned a fa ia ha) (forward_pruned b fb ib hb) (forward_pruned s f i h)
forward_pruned _ _ _ (loop class at body fb ib s f i hb h) = p.loop class at body fb s f (forward_pruned body fb ib hb) (forward_pruned s f i h)
forward_pruned _ _ _ (away class at body s f i h) = p.loop class at body body s f (p.itself body (plain body)) (forward_pruned s f i h)
forward_pruned _ _ _ (own who effect e at s f i h) = p.kept who effect e at s f (forward_pruned s f i h)
forward_pruned _ _ _ (other who effect e at s f i h) = p.left_out who effect e at s f (forward_pruned s f i h)

pub inverse_pruned : (s f i : List Stmt) → Halves s f i → Pruned s i
inverse_pruned _ _ _ none = p.none
inverse_pruned _ _ _ (const n e s f i h) = p.const n e s i (inverse_pruned s f i h)
inverse_pruned _ _ _ (cond c a fa ia b fb ib s f i ha hb h) = p.cond c a ia b ib s i (inverse_pruned a fa ia ha) (inverse_pruned b fb ib hb) (inverse_pruned s f i h)
inverse_pruned _ _ _ (loop class at body fb ib s f i hb h) = p.loop class at body ib s i (inverse_pruned body fb ib hb) (inverse_pruned s f i h)
inverse_pruned _ _ _ (away class at body s f i h) = p.away class at body s i (inverse_pruned s f i h)
inverse_pruned _ _ _ (own who effect e at s f i h) = p.left_out who effect e at s i (inverse_pruned s f i h)
inverse_pruned _ _ _ (other who effect e at s f i h) = p.kept who effect e at s i (inverse_pruned s f i h)

-- where nothing is said in the inverse part, the forward part is the whole block
zero_left : (m n k : ℕ) → m ≡ n + k → m ≡ 0 → n ≡ 0
zero_left m n k is zero = omega (arith, is, zero)

zero_right : (m n k : ℕ) → m ≡ n + k → m ≡ 0 → k ≡ 0
zero_right m n k is zero = omega (arith, is, zero)

pub whole : (s f i : List Stmt) → Halves s f i → sum (map assignments i) ≡ 0 → f ≡ s
whole _ _ _ none e = refl
whole _ _ _ (const n x s f i h) e = ap (λ t. Const n x ∷ t) (whole s f i h (zero_right _ _ _ (count-cons assignments (Const n x) i) e))
whole _ _ _ (cond c a fa ia b fb ib s f i ha hb h) e =
    let here = zero_left _ _ _ (count-cons assignments (If c ia ib) i) e in
    ap₂ (λ t u. If c t u ∷ f) (whole a fa ia ha (zero_left _ _ _ (assignments-If c ia ib) here)) (whole b fb ib hb (zero_right _ _ _ (assignments-If c ia ib) here))
    ∙ ap (λ t. If c a b ∷ t) (whole s f i h (zero_right _ _ _ (count-cons assignments (If c ia ib) i) e))
whole _ _ _ (loop class at body fb ib s f i hb h) e =
    ap (λ t. Foreach class t at ∷ f) (whole body fb ib hb (sym (assignments-Foreach class ib at) ∙ zero_left _ _ _ (count-cons assignments (Foreach class ib at) i) e))
    ∙ ap (λ t. Foreach class body at ∷ t) (whole s f i h (zero_right _ _ _ (count-cons assignments (Foreach class ib at) i) e))
whole _ _ _ (away class at body s f i h) e =
    ap (λ t. Foreach class body at ∷ t) (whole s f i h (zero_right _ _ _ (count-append assignments (places (flat_map constant_numbers body)) i) e))
whole _ _ _ (own who effect x at s f i h) e = ap (λ t. Assign who effect x at ∷ t) (whole s f i h e)
whole _ _ _ (other who effect x at s f i h) e =
    let one = zero_left _ _ _ (count-cons assignments (Assign who effect x at) i) e in
    let here = assignments-Assign who effect x at in
    absurd (omega (arith, one, here))

-- the parts of a block are such parts
abbrev AreHalves : List Stmt → Bool → Type 0
AreHalves s in_loop = Halves s (flat_map forward_of s) (flat_map (λ x. inverse_of x in_loop) s)

inner_halves : (class at : ℕ) (body fb ib s f i : List Stmt) (silent : Bool) → (sum (map assignments ib) == 0) ≡ silent → Halves body fb ib → Halves s f i
    → Halves (Foreach class body at ∷ s) (Foreach class fb at ∷ f) ((if silent then places (flat_map constant_numbers ib) else Foreach class ib at ∷ []) ++ i)
inner_halves class at body fb ib s f i false e hb h = loop class at body fb ib s f i hb h
inner_halves class at body fb ib s f i true e hb h =
    let nothing : sum (map assignments ib) ≡ 0 = grind (arith, e) in
    subst (λ t. Halves (Foreach class body at ∷ s) (Foreach class t at ∷ f) (places (flat_map constant_numbers ib) ++ i)) (sym (whole body fb ib hb nothing))
    (subst (λ t. Halves (Foreach class body at ∷ s) (Foreach class body at ∷ f) (places t ++ i)) (sym (numbers_kept body ib (inverse_pruned body fb ib hb)))
    (away class at body s f i h))

other_halves : (who : Who) (effect : ℕ) (e : Expr) (at : ℕ) (s : List Stmt) (in_loop : Bool) → forward_of (Assign who effect e at) ≡ [] → inverse_of (Assign who effect e at) in_loop ≡ Assign who effect e at ∷ []
    → AreHalves s in_loop → AreHalves (Assign who effect e at ∷ s) in_loop
other_halves who effect e at s in_loop forward inverse h =
    rw (forward, inverse) (other who effect e at s _ _ h)

pub halves : (s : List Stmt) → Plain s → (in_loop : Bool) → AreHalves s in_loop
halves _ b.none in_loop = none
halves _ (b.const n e s h) in_loop = rw (forward_of-Const n e, inverse_of-Const n e in_loop) (const n e s _ _ (halves s h in_loop))
halves _ (b.cond c a d s ha hd h) in_loop =
    rw (forward_of-If c a d, inverse_of-If c a d in_loop) (cond c a _ _ d _ _ s _ _ (halves a ha in_loop) (halves d hd in_loop) (halves s h in_loop))
halves _ (b.loop class at body s hb h) false =
    rw (forward_of-Foreach class body at, inverse_of-Foreach class body at false) (loop class at body _ _ s _ _ (halves body hb true) (halves s h false))
halves _ (b.loop class at body s hb h) true =
    rw (forward_of-Foreach class body at, inverse_of-Foreach class body at true)
    (inner_halves class at body _ _ s _ _ (sum (map assignments (flat_map (λ x. inverse_of x true) body)) == 0) refl (halves body hb true) (halves s h true))
halves _ (b.say This effect e at s h) in_loop = rw (forward_of-Assign This effect e at, inverse_of-Assign This effect e at in_loop) (own This effect e at s _ _ (halves s h in_loop))
halves _ (b.say Outer effect e at s h) in_loop = other_halves Outer effect e at s in_loop (forward_of-Assign Outer effect e at) (inverse_of-Assign Outer effect e at in_loop) (halves s h in_loop)
halves _ (b.say Inner effect e at s h) in_loop = other_halves Inner effect e at s in_loop (forward_of-Assign Inner effect e at) (inverse_of-Assign Inner effect e at in_loop) (halves s h in_loop)
