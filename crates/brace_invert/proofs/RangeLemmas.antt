-- The greatest visible range is a distance, and which statements say a value in an inner loop.
use Rattle.std.proofs.Common.{◌≡◌, ◌∙◌, refl, sym, ap, ℕ, suc, ℤ, pos, List, [], ◌∷◌, map, Bool, true, false, Some, arith, ◌≤ℤ◌}
use Rattle.std.specs.Prelude.{◌||◌, ◌&&◌, fold, IsTrue, slice_get}
use Rattle.std.specs.List.{list_any}
use Rattle.std.specs.Int.{int_max}
use Rattle.brace_model.specs.declared.program.Who.{Who}
use Rattle.brace_model.specs.declared.program.Expr.{Expr}
use Rattle.brace_model.specs.declared.program.Stmt.{Stmt}
use Rattle.brace_model.specs.declared.program.Stmt.TheVariants.{Const, If, Foreach, Assign}
use Rattle.brace_model.proofs.Folds.{fold-Const, fold-If, fold-Foreach, fold-Assign}
use Rattle.brace_model.specs.declared.program.Class.{Class}
use Rattle.brace_model.specs.declared.program.Program.{Program}
use Rattle.brace_model.specs.Lawful.{LawfulProgram, is_distance}
use Rattle.brace_invert.specs.Range.{greatest_visible, is_other, says_within_step, says_within}

any_at : {A I J : Type 0} (f : A → I → J → Bool) (i : I) (j : J) (xs : List A) → list_any (λ (s : I → J → Bool). s i j) (map f xs) ≡ list_any (λ x. f x i j) xs
any_at f i j [] = refl
any_at f i j (x ∷ xs) = ap (λ t. f x i j || t) (any_at f i j xs)

pub says_within-Const : (n : ℕ) (e : Expr) (in_loop in_inner : Bool) → says_within (Const n e) in_loop in_inner ≡ false
says_within-Const n e in_loop in_inner = ap (λ f. f in_loop in_inner) (fold-Const says_within_step n e)

pub says_within-If : (c : Expr) (a b : List Stmt) (in_loop in_inner : Bool)
    → says_within (If c a b) in_loop in_inner ≡ (list_any (λ s. says_within s in_loop in_inner) a || list_any (λ s. says_within s in_loop in_inner) b)
says_within-If c a b in_loop in_inner = ap (λ f. f in_loop in_inner) (fold-If says_within_step c a b)
    ∙ ap (λ t. t || list_any (λ s. s in_loop in_inner) (map says_within b)) (any_at says_within in_loop in_inner a) ∙ ap (λ t. list_any (λ s. says_within s in_loop in_inner) a || t) (any_at says_within in_loop in_inner b)

pub says_within-Foreach : (class : ℕ) (body : List Stmt) (at : ℕ) (in_loop in_inner : Bool) → says_within (Foreach class body at) in_loop in_inner ≡ list_any (λ s. says_within s true in_loop) body
says_within-Foreach class body at in_loop in_inner = ap (λ f. f in_loop in_inner) (fold-Foreach says_within_step class body at)
    ∙ any_at says_within true in_loop body

pub says_within-Assign : (who : Who) (effect : ℕ) (e : Expr) (at : ℕ) (in_loop in_inner : Bool) → says_within (Assign who effect e at) in_loop in_inner ≡ (is_other who && in_inner)
says_within-Assign who effect e at in_loop in_inner = ap (λ f. f in_loop in_inner) (fold-Assign says_within_step who effect e at)

pub says_within_if : (c : Expr) (a b : List Stmt) (in_loop in_inner p q : Bool) → p ≡ list_any (λ s. says_within s in_loop in_inner) a → q ≡ list_any (λ s. says_within s in_loop in_inner) b
    → (p || q) ≡ says_within (If c a b) in_loop in_inner
says_within_if c a b in_loop in_inner p q is_p is_q = ap (λ t. t || q) is_p ∙ ap (λ t. list_any (λ s. says_within s in_loop in_inner) a || t) is_q ∙ sym (says_within-If c a b in_loop in_inner)

pub says_within_foreach : (class : ℕ) (body : List Stmt) (at : ℕ) (in_loop in_inner p : Bool) → p ≡ list_any (λ s. says_within s true in_loop) body → p ≡ says_within (Foreach class body at) in_loop in_inner
says_within_foreach class body at in_loop in_inner p is_p = is_p ∙ sym (says_within-Foreach class body at in_loop in_inner)

pub ruleset says_within_rules = (says_within-Const, says_within-Assign, says_within_if, says_within_foreach)

-- a distance, as an order
distance_high : (z : ℤ) → IsTrue (is_distance z) → z ≤ℤ pos 1000000000000
distance_high z h = grind (arith, h)

pub distance_low : (z : ℤ) → IsTrue (is_distance z) → pos 0 ≤ℤ z
distance_low z h = grind (arith, h)

greatest_within : (classes : List Class) (v : ℤ) → pos 0 ≤ℤ v → v ≤ℤ pos 1000000000000
    → ((n : ℕ) (c : Class) → slice_get classes n ≡ Some c → IsTrue (is_distance c.visible))
    → (pos 0 ≤ℤ fold (λ v c. int_max v c.visible) v classes) × (fold (λ v c. int_max v c.visible) v classes ≤ℤ pos 1000000000000)
greatest_within [] v low high each = (low, high)
greatest_within (c ∷ classes) v low high each =
    let d = each 0 c refl in
    let l = distance_low c.visible d in
    let h = distance_high c.visible d in
    greatest_within classes (int_max v c.visible) (grind (arith, low, l)) (grind (arith, high, h)) (λ n x is. each (suc n) x is)

pub greatest_in_range : (program : Program) → LawfulProgram program → (pos 0 ≤ℤ greatest_visible program) × (greatest_visible program ≤ℤ pos 1000000000000)
greatest_in_range program lawful =
    greatest_within program.classes (pos 0) (grind arith) (grind arith) (λ n c is. (lawful.classes_are_lawful n c is).visible_is_distance)

pub says_within_first : (s : Stmt) (c : Expr) (a b : List Stmt) (in_loop in_inner p : Bool) → s ≡ If c a b → p ≡ list_any (λ s. says_within s in_loop in_inner) a → p ≡ true → p ≡ says_within s in_loop in_inner
says_within_first s c a b in_loop in_inner p is is_p holds =
    holds ∙ ap (λ t. t || list_any (λ s. says_within s in_loop in_inner) b) (sym holds) ∙ says_within_if c a b in_loop in_inner p (list_any (λ s. says_within s in_loop in_inner) b) is_p refl
    ∙ ap (λ x. says_within x in_loop in_inner) (sym is)

pub says_within_second : (s : Stmt) (c : Expr) (a b : List Stmt) (in_loop in_inner p q : Bool) → s ≡ If c a b → p ≡ list_any (λ s. says_within s in_loop in_inner) a → p ≡ false
    → q ≡ list_any (λ s. says_within s in_loop in_inner) b → q ≡ says_within s in_loop in_inner
says_within_second s c a b in_loop in_inner p q is is_p not_p is_q =
    ap (λ t. t || q) (sym not_p) ∙ says_within_if c a b in_loop in_inner p q is_p is_q ∙ ap (λ x. says_within x in_loop in_inner) (sym is)
