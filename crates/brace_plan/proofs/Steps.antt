-- What an action of each kind does, and what a statement of each kind has of bounds, loops and constants.
use Rattle.std.proofs.Common.{◌≡◌, ◌∙◌, refl, sym, ap, ap₂, append_assoc, ℕ, List, [], ◌∷◌, ◌++◌, map, flat_map, length}
use Rattle.std.specs.Prelude.{slice_get}
use Rattle.brace_model.specs.declared.program.Who.{Who}
use Rattle.brace_model.specs.declared.program.Who.TheVariants.{Inner}
use Rattle.brace_model.specs.declared.program.Expr.{Expr}
use Rattle.brace_model.specs.declared.program.Class.{Class}
use Rattle.brace_model.specs.declared.program.Program.{Program}
use Rattle.brace_model.specs.declared.program.Stmt.{Stmt}
use Rattle.brace_model.specs.declared.program.Stmt.TheVariants as stmt
use Rattle.brace_model.specs.declared.program.Stmt.TheOpen as block_layer
use Rattle.brace_model.specs.declared.world.Agent.{Agent}
use Rattle.brace_model.specs.Value.{Scope, agent_of}
use Rattle.brace_model.specs.Query.{Deed, silent, deed_of, bound, closed, chosen, inside, iterated, saying}
use Rattle.brace_model.proofs.Folds as folds
use Rattle.brace_model.proofs.ValueEquations.{constants-Const, constants-If, constants-Foreach, constants-Assign}
use Rattle.brace_code.specs.declared.code.Code.{Code}
use Rattle.brace_code.specs.Codes.{gives}
use Rattle.brace_plan.specs.declared.loops.Loop.{Loop}
use Rattle.brace_plan.specs.declared.action.Bound.{Bound}
use Rattle.brace_plan.specs.declared.action.Action.{Action, roll-Action}
use Rattle.brace_plan.specs.declared.action.Action.TheVariants.{Const, If, Foreach, Assign, rolls-Const, rolls-If, rolls-Foreach, rolls-Assign}
use Rattle.brace_plan.specs.declared.action.Action.TheOpen as layer
use Rattle.brace_plan.specs.declared.action.Action.TheFolds.{map-Action, fold-roll-Action}
use Rattle.brace_plan.specs.Acts.{near_by, act_step, act, acts}
use Rattle.brace_plan.specs.Planning.{told_step, told, told_by}
use Rattle.brace_plan.specs.Narrowing.{all_loops, bounds_over, nested_step, nested, loops_of}

joined : {A B : Type 0} (f : A → List B) (xs : List A) → flat_map (λ (ys : List B). ys) (map f xs) ≡ flat_map f xs
joined f [] = refl
joined f (x ∷ xs) = ap (λ ys. f x ++ ys) (joined f xs)

module _ (program : Program) (world : List Agent) where
  abbrev Acting : Type 0
  Acting = Scope → Deed

  pub act-Const : (n : ℕ) (code : Code) (scope : Scope) → act program world (Const n code) scope ≡ deed_of scope (gives code scope) (λ v. silent (bound scope n v))
  act-Const n code scope = ap (λ a. act program world a scope) (sym (rolls-Const n code)) ∙ ap (λ f. f scope) (fold-roll-Action Acting (act_step program world) (layer.Const n code))

  pub act-If : (code : Code) (a b : List Action) (scope : Scope)
      → act program world (If code a b) scope ≡ deed_of scope (gives code scope) (λ v. closed scope (chosen v (acts program world a scope) (acts program world b scope)))
  act-If code a b scope = ap (λ x. act program world x scope) (sym (rolls-If code a b)) ∙ ap (λ f. f scope) (fold-roll-Action Acting (act_step program world) (layer.If code a b))

  pub act-Foreach : (class : ℕ) (bounds : List Bound) (body : List Action) (at : ℕ) (scope : Scope)
      → act program world (Foreach class bounds body at) scope ≡ iterated scope (map (λ b. acts program world body (inside scope b)) (near_by program world scope class bounds))
  act-Foreach class bounds body at scope =
      ap (λ x. act program world x scope) (sym (rolls-Foreach class bounds body at)) ∙ ap (λ f. f scope) (fold-roll-Action Acting (act_step program world) (layer.Foreach class bounds body at))

  pub act-Assign : (who : Who) (effect : ℕ) (code : Code) (scope : Scope) → act program world (Assign who effect code) scope ≡ deed_of scope (gives code scope) (saying scope (agent_of scope who) effect)
  act-Assign who effect code scope = ap (λ x. act program world x scope) (sym (rolls-Assign who effect code)) ∙ ap (λ f. f scope) (fold-roll-Action Acting (act_step program world) (layer.Assign who effect code))

pub nested-Const : (n : ℕ) (e : Expr) → nested (stmt.Const n e) ≡ nested_step (block_layer.Const n e)
nested-Const n e = folds.fold-Const nested_step n e

pub nested-If : (c : Expr) (a b : List Stmt) → nested (stmt.If c a b) ≡ nested_step (block_layer.If c (map nested a) (map nested b))
nested-If c a b = folds.fold-If nested_step c a b

pub nested-Foreach : (class : ℕ) (body : List Stmt) (at : ℕ) → nested (stmt.Foreach class body at) ≡ nested_step (block_layer.Foreach class (map nested body) at)
nested-Foreach class body at = folds.fold-Foreach nested_step class body at

pub nested-Assign : (who : Who) (effect : ℕ) (e : Expr) (at : ℕ) → nested (stmt.Assign who effect e at) ≡ nested_step (block_layer.Assign who effect e at)
nested-Assign who effect e at = folds.fold-Assign nested_step who effect e at

-- ---- the loops of one statement

pub loops-Const : (n : ℕ) (e : Expr) (classes : List Class) (variable : Who) → loops_of classes variable (stmt.Const n e ∷ []) ≡ []
loops-Const n e classes variable = ap (λ x. all_loops (x ∷ []) classes variable) (nested-Const n e)

pub loops-If : (c : Expr) (a b : List Stmt) (classes : List Class) (variable : Who) → loops_of classes variable (stmt.If c a b ∷ []) ≡ (loops_of classes variable a ++ loops_of classes variable b) ++ []
loops-If c a b classes variable = ap (λ x. all_loops (x ∷ []) classes variable) (nested-If c a b)

pub loops-Foreach : (class : ℕ) (body : List Stmt) (at : ℕ) (classes : List Class) (variable : Who) (bounds : List Bound)
    → bounds ≡ bounds_over (map nested body) variable (slice_get classes class)
    → loops_of classes variable (stmt.Foreach class body at ∷ []) ≡ record { at = at; class = class; bounds = length bounds } ∷ (loops_of classes Inner body ++ [])
loops-Foreach class body at classes variable bounds is =
    ap (λ x. all_loops (x ∷ []) classes variable) (nested-Foreach class body at)
    ∙ ap (λ bs. let l : Loop = record { at = at; class = class; bounds = length bs } in l ∷ (loops_of classes Inner body ++ [])) (sym is)

pub loops-Assign : (who : Who) (effect : ℕ) (e : Expr) (at : ℕ) (classes : List Class) (variable : Who) → loops_of classes variable (stmt.Assign who effect e at ∷ []) ≡ []
loops-Assign who effect e at classes variable = ap (λ x. all_loops (x ∷ []) classes variable) (nested-Assign who effect e at)

-- ---- the loops of one action

told_fold : (y : layer.Action-F Action) → told (roll-Action y) ≡ told_step (map-Action Action (List Loop) told y)
told_fold y = fold-roll-Action (List Loop) told_step y

pub told-Const : (n : ℕ) (code : Code) → told (Const n code) ≡ []
told-Const n code = ap told (sym (rolls-Const n code)) ∙ told_fold (layer.Const n code)

pub told-If : (code : Code) (a b : List Action) → told (If code a b) ≡ told_by a ++ told_by b
told-If code a b = ap told (sym (rolls-If code a b)) ∙ told_fold (layer.If code a b) ∙ ap₂ (λ p q. p ++ q) (joined told a) (joined told b)

pub told-Foreach : (class : ℕ) (bounds : List Bound) (body : List Action) (at : ℕ) → told (Foreach class bounds body at) ≡ record { at = at; class = class; bounds = length bounds } ∷ told_by body
told-Foreach class bounds body at =
    ap told (sym (rolls-Foreach class bounds body at)) ∙ told_fold (layer.Foreach class bounds body at)
    ∙ ap (λ ls. let l : Loop = record { at = at; class = class; bounds = length bounds } in l ∷ ls) (joined told body)

pub told-Assign : (who : Who) (effect : ℕ) (code : Code) → told (Assign who effect code) ≡ []
told-Assign who effect code = ap told (sym (rolls-Assign who effect code)) ∙ told_fold (layer.Assign who effect code)

pub told_both : (old mid : List Loop) (x : Action) (code : Code) (a b : List Action) → x ≡ If code a b → mid ≡ old ++ told_by a → mid ++ told_by b ≡ old ++ told x
told_both old mid x code a b is first =
    ap (λ m. m ++ told_by b) first ∙ append_assoc old (told_by a) (told_by b) ∙ ap (λ ls. old ++ ls) (sym (told-If code a b) ∙ ap told (sym is))

pub told_within : (old mid : List Loop) (x : Action) (class count : ℕ) (bounds : List Bound) (body : List Action) (at : ℕ) → x ≡ Foreach class bounds body at → count ≡ length bounds
    → mid ≡ old ++ record { at = at; class = class; bounds = count } ∷ [] → mid ++ told_by body ≡ old ++ told x
told_within old mid x class count bounds body at is counted first =
    ap (λ m. m ++ told_by body) first ∙ append_assoc old (record { at = at; class = class; bounds = count } ∷ []) (told_by body)
    ∙ ap (λ n. old ++ record { at = at; class = class; bounds = n } ∷ told_by body) counted ∙ ap (λ ls. old ++ ls) (sym (told-Foreach class bounds body at) ∙ ap told (sym is))

pub ruleset told_rules = (told-Const, told-If, told-Foreach, told-Assign)

pub ruleset count_rules = (constants-Const, constants-If, constants-Foreach, constants-Assign)
