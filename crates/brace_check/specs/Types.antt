-- The type of an expression of a script, or the place of the first operation that does not fit its
-- operands.
use Rattle.std.specs.Prelude.{ℕ, Bool, Option, Some, None, option_map, Result, Ok, Err}
use Rattle.brace_model.specs.declared.program.Ty.{Ty}
use Rattle.brace_model.specs.declared.program.Ty.TheVariants as ty
use Rattle.brace_model.specs.Typing.{unary_type, binary_type, choice_type}
use Rattle.brace_syntax.specs.declared.tree.Digits.{Digits}
use Rattle.brace_syntax.specs.declared.tree.Digits.TheVariants as d
use Rattle.brace_syntax.specs.declared.tree.ExprTree.{ExprTree}
use Rattle.brace_syntax.specs.declared.tree.ExprTree.TheOpen.{ExprTree-F, Lit, True, False, Name, OfThis, OfLoop, Unary, Binary, Choice, Rand}
use Rattle.brace_syntax.specs.declared.tree.ExprTree.TheFolds.{fold-ExprTree}
use Rattle.brace_names.specs.declared.declared.Field.{Field}
use Rattle.brace_names.specs.declared.declared.Field.TheVariants as field
use Rattle.brace_names.specs.declared.scope.Named.{Named}
use Rattle.brace_names.specs.declared.scope.Named.TheVariants as named
use Rattle.brace_names.specs.Kinds.{unary_named, binary_named}
use Rattle.brace_names.specs.Scopes.{Scope, read, read_own, of_loop}

-- the place of an expression: its operator's, its word's, or that of its first token
abbrev pub place_step : ExprTree-F ℕ → ℕ
place_step (Lit number) = number.at
place_step (True at) = at
place_step (False at) = at
place_step (Name name) = name.at
place_step (OfThis name at) = at
place_step (OfLoop variable name) = variable.at
place_step (Unary op x at) = at
place_step (Binary op x y at) = at
place_step (Choice c x y at) = at
place_step (Rand at) = at

-- where a fault of the whole expression stands
abbrev pub place : ExprTree → ℕ
place = fold-ExprTree ℕ place_step

-- the type of a literal
abbrev pub digits_type : Digits → Ty
digits_type (d.Int n) = ty.Int
digits_type (d.Fixed n) = ty.Fixed

-- the type of a field
abbrev pub field_type : Field → Ty
field_type (field.State n t shared) = t
field_type (field.Effect n t shared c) = t

-- whether a field is public
abbrev pub is_shared : Field → Bool
is_shared (field.State n t shared) = shared
is_shared (field.Effect n t shared c) = shared

-- the type of what `n` or `this.n` stands for
abbrev pub named_type : Named → Ty
named_type (named.Constant n t) = t
named_type (named.Field f) = field_type f

-- what follows from a type; a fault stands
abbrev pub with_type : (Ty → Result Ty ℕ) → Result Ty ℕ → Result Ty ℕ
with_type next (Ok t) = next t
with_type next (Err at) = Err at

-- a type, or the place where there is none
abbrev pub typed_at : ℕ → Option Ty → Result Ty ℕ
typed_at at None = Err at
typed_at at (Some t) = Ok t

-- the type of an expression of each kind, by the scope; operands come first, from left to right
abbrev pub type_step : ExprTree-F (Scope → Result Ty ℕ) → Scope → Result Ty ℕ
type_step (Lit number) scope = Ok (digits_type number.digits)
type_step (True at) scope = Ok ty.Bool
type_step (False at) scope = Ok ty.Bool
type_step (Name name) scope = typed_at name.at (option_map named_type (read scope name.text))
type_step (OfThis name at) scope = typed_at at (option_map named_type (read_own scope name.text))
type_step (OfLoop variable name) scope =
    typed_at variable.at
    (option_map (λ x. field_type x.field) (of_loop scope variable.text name.text))
type_step (Unary op x at) scope =
    with_type (λ t. typed_at at (unary_type (unary_named op) t)) (x scope)
type_step (Binary op x y at) scope =
    with_type (λ t. with_type (λ u. typed_at at (binary_type (binary_named op) t u)) (y scope))
    (x scope)
type_step (Choice c x y at) scope =
    with_type
    (λ b. with_type (λ t. with_type (λ u. typed_at at (choice_type b t u)) (y scope)) (x scope))
    (c scope)
type_step (Rand at) scope = Ok ty.Fixed

-- the type of an expression in a scope, or the place of the first fault in finishing order
abbrev pub type_of : ExprTree → Scope → Result Ty ℕ
type_of = fold-ExprTree (Scope → Result Ty ℕ) type_step
