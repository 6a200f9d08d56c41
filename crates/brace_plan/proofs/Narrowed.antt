-- A loop's block at an agent that does not meet the loop's bounds says nothing, and faults nowhere.
use Rattle.std.proofs.Common.{◌≡◌, ◌∙◌, refl, sym, ap, subst, arith, ℕ, suc, ℤ, Bool, true, false, List, [], ◌∷◌, map, length, Option, Some, None}
use Rattle.std.specs.Prelude.{◌&&◌, ◌==◌, if◌then◌else◌, is_none, slice_get, option_map, unwrap_or}
use Rattle.std.specs.List.{list_all}
use Rattle.std.proofs.lemmas.Bool.Decides.{nat_tests}
use Rattle.brace_model.specs.declared.program.Who.{Who}
use Rattle.brace_model.specs.declared.program.Class.{Class}
use Rattle.brace_model.specs.declared.program.Program.{Program}
use Rattle.brace_model.specs.declared.program.Expr.{Expr}
use Rattle.brace_model.specs.declared.program.Stmt.{Stmt}
use Rattle.brace_model.specs.declared.program.Stmt.TheVariants.{If}
use Rattle.brace_model.specs.declared.world.Agent.{Agent}
use Rattle.brace_model.specs.World.{number, value_at, class_of, x_of, y_of}
use Rattle.brace_model.specs.Value.{Scope}
use Rattle.brace_model.specs.Query.{Deed, silent, deed_of, followed_by, block, closed, chosen, inside, statement}
use Rattle.brace_model.specs.Typing.{Names}
use Rattle.brace_model.proofs.Blocks as b
use Rattle.brace_model.proofs.Blocks.{Plain, plain}
use Rattle.brace_model.proofs.ValueEquations.{statement-If}
use Rattle.brace_grid.specs.Grids.{Point, place_of, origin}
use Rattle.brace_plan.specs.declared.action.Axis.{Axis}
use Rattle.brace_plan.specs.declared.action.Axis.TheVariants.{X, Y}
use Rattle.brace_plan.specs.declared.action.Limit.{Limit}
use Rattle.brace_plan.specs.declared.action.Limit.TheVariants as limit
use Rattle.brace_plan.specs.declared.action.Bound.{Bound}
use Rattle.brace_plan.specs.Narrowing.{axis_at, sense, nested, alone, bounds_over}
use Rattle.brace_plan.specs.Acts.{limit_in, stands, coordinate, meets}
use Rattle.brace_plan.specs.inner.Doing.{Suits, variable_of}
use Rattle.brace_plan.proofs.Formed.{IsFormed, formed_if, first_formed}
use Rattle.brace_plan.proofs.Senses.{StandsHere, sensed}
use Rattle.brace_plan.proofs.Steps.{nested-Const, nested-If, nested-Foreach, nested-Assign}
use Rattle.brace_plan.proofs.Suiting.{variable_is}

-- nothing is said, and nothing faults
pub record Quiet (d : Deed) : Type 0 where
  pub said : d.said ≡ []
  pub faults : d.faults ≡ []

never_none : (n : ℕ) → (suc n == 0) ≡ false
never_none n = grind (arith, nat_tests)

module _ (program : Program) (world : List Agent) (scope : Scope) (p : Point) (variable : Who) (class : Class) (here : StandsHere scope p variable class) (names : Names) where
  quiet_if : (c : Expr) (a : List Stmt) → IsFormed (If c a [] ∷ []) names → list_all (meets scope p) (sense variable class c).bounds ≡ false
      → Quiet (block (map (statement program world) (If c a [] ∷ [])) scope)
  quiet_if c a formed far =
      let f = formed_if c a [] names (first_formed (If c a []) [] names formed) in
      let off = (sensed scope p variable class here names c _ f.condition).unmet far in
      subst (λ d. Quiet (followed_by d (block []))) (sym (statement-If program world c a [] scope
      ∙ ap (λ w. deed_of scope w (λ v. closed scope (chosen v (block (map (statement program world) a) scope) (silent scope)))) off))
      (record { said = refl; faults = refl })

  -- no bound is set by a statement that is no `if` with nothing else
  no_bound : (A : Type 0) (x : Stmt) → ((nested x).sets variable class ≡ []) → list_all (meets scope p) (alone (nested x ∷ []) variable class) ≡ false → A
  no_bound A x none far = absurd (let k : true ≡ false = sym (ap (list_all (meets scope p)) none) ∙ far in cc)

  pub quiet_block : (s : List Stmt) → Plain s → IsFormed s names → list_all (meets scope p) (alone (map nested s) variable class) ≡ false → Quiet (block (map (statement program world) s) scope)
  quiet_block _ (b.const n e [] h) formed far = no_bound _ _ (ap (λ x. x.sets variable class) (nested-Const n e)) far
  quiet_block _ (b.cond c x [] [] hx hy h) formed far = quiet_if c x formed (sym (ap (λ z. list_all (meets scope p) (z.sets variable class)) (nested-If c x [])) ∙ far)
  quiet_block _ (b.cond c x (z ∷ y) [] hx hy h) formed far = no_bound _ _ (ap (λ k. k.sets variable class) (nested-If c x (z ∷ y)) ∙ ap (λ t. if t then (sense variable class c).bounds else []) (never_none (length (map nested y)))) far
  quiet_block _ (b.loop k at body [] hb h) formed far = no_bound _ _ (ap (λ x. x.sets variable class) (nested-Foreach k body at)) far
  quiet_block _ (b.say who effect e at [] h) formed far = no_bound _ _ (ap (λ x. x.sets variable class) (nested-Assign who effect e at)) far
  quiet_block _ _ formed far = absurd (cc)

-- ---- where the loop's agent stands

same_place : (i x : ℕ) → (i == x) ≡ true → i ≡ x
same_place i x e = grind (arith, nat_tests, e)

stands_at : (class : Class) (i : ℕ) (axis : Axis) (p : Point) (worth : ℕ → ℤ) → axis_at class i ≡ Some axis → p.x ≡ worth class.x → p.y ≡ worth class.y → worth i ≡ coordinate axis p
stands_at class i axis p worth e at_x at_y = by_x (i == class.x) refl e
  where
    by_y : (t : Bool) → (i == class.y) ≡ t → (if t then Some Y else None) ≡ Some axis → worth i ≡ coordinate axis p
    by_y true is k = ap worth (same_place i class.y is) ∙ sym at_y ∙ ap (λ a. coordinate a p) (let j : Y ≡ axis = cc in j)
    by_y false is k = absurd (cc)

    by_x : (t : Bool) → (i == class.x) ≡ t → (if t then Some X else (if i == class.y then Some Y else None)) ≡ Some axis → worth i ≡ coordinate axis p
    by_x true is k = ap worth (same_place i class.x is) ∙ sym at_x ∙ ap (λ a. coordinate a p) (let j : X ≡ axis = cc in j)
    by_x false is k = by_y (i == class.y) refl k

-- where an agent of a class stands
abbrev point_in : Option Class → Agent → Point
point_in o b = unwrap_or (option_map (λ c. record { x = x_of c b; y = y_of c b }) o) origin

stands_here : (program : Program) (scope : Scope) (b : Agent) (c : Class) (o : Option ℕ) → class_of program b ≡ Some c → is_none scope.outer ≡ is_none o
    → StandsHere (inside scope b) (place_of program b) (variable_of o) c
stands_here program scope b c o is same i axis e =
    ap (λ a. number (value_at a.states i)) (variable_is scope b o same)
    ∙ stands_at c i axis (place_of program b) (λ k. number (value_at b.states k)) e (ap (λ k. (point_in k b).x) is) (ap (λ k. (point_in k b).y) is)

-- ---- a loop's bounds, in the loop and outside of it

limit_inside : (scope : Scope) (b : Agent) (l : Limit) → limit_in (inside scope b) l ≡ limit_in scope l
limit_inside scope b l = by_place (is_none scope.outer) l
  where
    by_place : (z : Bool) (m : Limit) → limit_in (if z then record scope { outer = Some b } else record scope { inner = Some b }) m ≡ limit_in scope m
    by_place true (limit.Number n) = refl
    by_place true (limit.State i) = refl
    by_place true (limit.Constant n) = refl
    by_place false (limit.Number n) = refl
    by_place false (limit.State i) = refl
    by_place false (limit.Constant n) = refl

meets_inside : (scope : Scope) (b : Agent) (p : Point) (bounds : List Bound) → list_all (meets (inside scope b) p) bounds ≡ list_all (meets scope p) bounds
meets_inside scope b p [] = refl
meets_inside scope b p (x ∷ bounds) =
    ap (λ l. stands x.side l (coordinate x.axis p) && list_all (meets (inside scope b) p) bounds) (limit_inside scope b x.limit)
    ∙ ap (λ t. stands x.side (limit_in scope x.limit) (coordinate x.axis p) && t) (meets_inside scope b p bounds)

pub quiet : (program : Program) (world : List Agent) (names within : Names) (scope : Scope) (b : Agent) (class : ℕ) (body : List Stmt) (bounds : List Bound) → Suits program world names scope
    → IsFormed body within → b.class ≡ class → bounds ≡ bounds_over (map nested body) (variable_of names.outer_class) (slice_get names.classes class)
    → list_all (meets scope (place_of program b)) bounds ≡ false → Quiet (block (map (statement program world) body) (inside scope b))
quiet program world names within scope b class body bounds suits formed of is far = by_class (slice_get names.classes class) refl
  where
    by_class : (o : Option Class) → slice_get names.classes class ≡ o → Quiet (block (map (statement program world) body) (inside scope b))
    by_class None none =
        absurd (let k : true ≡ false = sym (ap (list_all (meets scope (place_of program b))) (is ∙ ap (bounds_over (map nested body) (variable_of names.outer_class)) none)) ∙ far in cc)
    by_class (Some c) found =
        let here = ap (slice_get program.classes) of ∙ ap (λ cs. slice_get cs class) (sym suits.classes) ∙ found in
        quiet_block program world (inside scope b) (place_of program b) (variable_of names.outer_class) c
        (stands_here program scope b c names.outer_class here suits.in_loop) within body (plain body) formed
        (ap (list_all (meets (inside scope b) (place_of program b))) (sym (is ∙ ap (bounds_over (map nested body) (variable_of names.outer_class)) found))
        ∙ meets_inside scope b (place_of program b) bounds ∙ far)
