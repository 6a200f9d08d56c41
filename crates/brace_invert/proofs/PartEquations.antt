-- The two parts of a statement of each kind.
use Rattle.std.proofs.Common.{◌≡◌, ◌∙◌, sym, ap, ap₂, ℕ, List, [], ◌∷◌, map, flat_map, Bool, true, false, not, ◌==◌, ◌<◌, ◌≤◌, length, get_or, sum, arith}
use Rattle.std.specs.List.{sum_by}
use Rattle.std.proofs.lemmas.List.Folds.{flat_map-map}
use Rattle.brace_model.specs.declared.program.Who.{Who}
use Rattle.brace_model.specs.declared.program.Expr.{Expr}
use Rattle.brace_model.specs.declared.program.Stmt.{Stmt}
use Rattle.brace_model.specs.declared.program.Stmt.TheVariants.{Const, If, Foreach, Assign}
use Rattle.brace_model.specs.declared.program.Stmt.TheOpen as layer
use Rattle.brace_model.proofs.Folds.{fold-Const, fold-If, fold-Foreach, fold-Assign}
use Rattle.std.proofs.lemmas.List.Sums.{get_or-le-sum_by, sum-map}
use Rattle.brace_model.proofs.LawEquations.{assignments-Const, assignments-If, assignments-Foreach, assignments-Assign}
use Rattle.brace_invert.specs.Split.{forward_step, forward_of, inner_loop, loop_part, inverse_step, inverse_of}

pub forward_of-Const : (n : ℕ) (e : Expr) → forward_of (Const n e) ≡ Const n e ∷ []
forward_of-Const n e = fold-Const forward_step n e

pub forward_of-If : (c : Expr) (a b : List Stmt) → forward_of (If c a b) ≡ If c (flat_map forward_of a) (flat_map forward_of b) ∷ []
forward_of-If c a b = fold-If forward_step c a b ∙ ap₂ (λ p q. If c p q ∷ []) (flat_map-map (λ s. s) forward_of a) (flat_map-map (λ s. s) forward_of b)

pub forward_of-Foreach : (class : ℕ) (body : List Stmt) (at : ℕ) → forward_of (Foreach class body at) ≡ Foreach class (flat_map forward_of body) at ∷ []
forward_of-Foreach class body at = fold-Foreach forward_step class body at ∙ ap (λ p. Foreach class p at ∷ []) (flat_map-map (λ s. s) forward_of body)

pub forward_of-Assign : (who : Who) (effect : ℕ) (e : Expr) (at : ℕ) → forward_of (Assign who effect e at) ≡ forward_step (layer.Assign who effect e at)
forward_of-Assign who effect e at = fold-Assign forward_step who effect e at

pub inverse_of-Const : (n : ℕ) (e : Expr) (in_loop : Bool) → inverse_of (Const n e) in_loop ≡ Const n e ∷ []
inverse_of-Const n e in_loop = ap (λ f. f in_loop) (fold-Const inverse_step n e)

pub inverse_of-If : (c : Expr) (a b : List Stmt) (in_loop : Bool) → inverse_of (If c a b) in_loop ≡ If c (flat_map (λ s. inverse_of s in_loop) a) (flat_map (λ s. inverse_of s in_loop) b) ∷ []
inverse_of-If c a b in_loop = ap (λ f. f in_loop) (fold-If inverse_step c a b)
    ∙ ap₂ (λ p q. If c p q ∷ []) (flat_map-map (λ s. s in_loop) inverse_of a) (flat_map-map (λ s. s in_loop) inverse_of b)

pub inverse_of-Foreach : (class : ℕ) (body : List Stmt) (at : ℕ) (in_loop : Bool) → inverse_of (Foreach class body at) in_loop ≡ loop_part in_loop class (flat_map (λ s. inverse_of s true) body) at
inverse_of-Foreach class body at in_loop = ap (λ f. f in_loop) (fold-Foreach inverse_step class body at) ∙ ap (λ p. loop_part in_loop class p at) (flat_map-map (λ s. s true) inverse_of body)

pub inverse_of-Assign : (who : Who) (effect : ℕ) (e : Expr) (at : ℕ) (in_loop : Bool) → inverse_of (Assign who effect e at) in_loop ≡ inverse_step (layer.Assign who effect e at) in_loop
inverse_of-Assign who effect e at in_loop = ap (λ f. f in_loop) (fold-Assign inverse_step who effect e at)

-- what is made of the parts of blocks
pub inverse_if : (s : Stmt) (in_loop : Bool) (c d : Expr) (a b p q : List Stmt) → s ≡ If d a b → c ≡ d → p ≡ flat_map (λ x. inverse_of x in_loop) a → q ≡ flat_map (λ x. inverse_of x in_loop) b
    → If c p q ∷ [] ≡ inverse_of s in_loop
inverse_if s in_loop c d a b p q is same is_p is_q =
    ap (λ x. If x p q ∷ []) same ∙ ap₂ (λ x y. If d x y ∷ []) is_p is_q ∙ sym (inverse_of-If d a b in_loop) ∙ ap (λ x. inverse_of x in_loop) (sym is)

pub inverse_inner : (class : ℕ) (body p : List Stmt) (at : ℕ) (in_loop : Bool) → p ≡ flat_map (λ x. inverse_of x true) body → in_loop ≡ true → inner_loop class p at ≡ inverse_of (Foreach class body at) in_loop
inverse_inner class body p at in_loop is_p holds = ap (λ x. inner_loop class x at) is_p ∙ sym (inverse_of-Foreach class body at true) ∙ ap (inverse_of (Foreach class body at)) (sym holds)

pub inverse_outer : (class : ℕ) (body p : List Stmt) (at : ℕ) (in_loop : Bool) → p ≡ flat_map (λ x. inverse_of x true) body → in_loop ≡ false → Foreach class p at ∷ [] ≡ inverse_of (Foreach class body at) in_loop
inverse_outer class body p at in_loop is_p fails = ap (λ x. Foreach class x at ∷ []) is_p ∙ sym (inverse_of-Foreach class body at false) ∙ ap (inverse_of (Foreach class body at)) (sym fails)

-- an element of a list with a count that is not 0
pub some_count : {A : Type 0} (f : A → ℕ) (xs : List A) (i : ℕ) (x : A) → i < length xs → x ≡ get_or xs i x → not (f x == 0) ≡ true → not (sum (map f xs) == 0) ≡ true
some_count f xs i x below is some =
    let most : f (get_or xs i x) ≤ sum_by f xs = get_or-le-sum_by f xs i x below in
    let here : f x ≡ f (get_or xs i x) = ap f is in
    let total : sum (map f xs) ≡ sum_by f xs = sum-map f xs in
    grind (arith, most, here, total, some)

pub ruleset part_rules = (forward_of-Const, forward_of-If, forward_of-Foreach, forward_of-Assign, inverse_of-Const, inverse_of-If, inverse_of-Foreach, inverse_of-Assign)

pub ruleset saying_rules = (some_count, assignments-Const, assignments-If, assignments-Foreach, assignments-Assign)
