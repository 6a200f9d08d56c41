-- Well-formed expressions and statements: operations fit their operands' types, sites stand where
-- they must, and only what is in scope is named.
use Rattle.std.specs.Prelude.{ℕ, nat_lt, ◌==◌, List, [], ◌∷◌, length, slice_get, Bool, true, false, ◌&&◌, ◌||◌, if◌then◌else◌, Option, Some, None, is_some, is_none, option_map}
use Rattle.std.specs.Option.{option_and_then}
use Rattle.brace_model.specs.declared.program.Ty.{Ty}
use Rattle.brace_model.specs.declared.program.Ty.TheVariants as ty
use Rattle.brace_model.specs.declared.program.Value.{Value}
use Rattle.brace_model.specs.declared.program.Value.TheVariants as val
use Rattle.brace_model.specs.declared.program.UnOp.{UnOp}
use Rattle.brace_model.specs.declared.program.UnOp.TheVariants as un
use Rattle.brace_model.specs.declared.program.BinOp.{BinOp}
use Rattle.brace_model.specs.declared.program.BinOp.TheVariants as bin
use Rattle.brace_model.specs.declared.program.Comb.{Comb}
use Rattle.brace_model.specs.declared.program.Comb.TheVariants as comb
use Rattle.brace_model.specs.declared.program.Who.{Who}
use Rattle.brace_model.specs.declared.program.Who.TheVariants.{This, Outer, Inner}
use Rattle.brace_model.specs.declared.program.Effect.{Effect}
use Rattle.brace_model.specs.declared.program.Class.{Class}
use Rattle.brace_model.specs.declared.program.Expr.{Expr}
use Rattle.brace_model.specs.declared.program.Expr.TheOpen.{Expr-F, Lit, Field, Total, Local, Unary, Binary, Choice, Rand}
use Rattle.brace_model.specs.declared.program.Expr.TheFolds.{fold-Expr}
use Rattle.brace_model.specs.declared.program.Stmt.{Stmt}
use Rattle.brace_model.specs.declared.program.Stmt.TheOpen.{Stmt-F, Const, If, Foreach, Assign}
use Rattle.brace_model.specs.declared.program.Stmt.TheFolds.{fold-Stmt}

-- what is in scope: the classes, the class of `this` and of each loop agent by number, whether this
-- is a rule, and the constants with their types, the latest first
pub record Names : Type 0 where
  pub classes : List Class
  pub own : ℕ
  pub outer_class : Option ℕ
  pub inner_class : Option ℕ
  pub in_rule : Bool
  pub known : List (ℕ × Ty)

-- two types are one
abbrev pub same_type : Ty → Ty → Bool
same_type ty.Int ty.Int = true
same_type ty.Fixed ty.Fixed = true
same_type ty.Bool ty.Bool = true
same_type _ _ = false

-- a type that counts: int or fixed
abbrev pub is_number : Ty → Bool
is_number ty.Bool = false
is_number _ = true

-- the type that a value has
abbrev pub type_of_value : Value → Ty
type_of_value (val.Int n) = ty.Int
type_of_value (val.Fixed n) = ty.Fixed
type_of_value (val.Flag b) = ty.Bool

-- something, only where a test holds
abbrev pub only : {X : Type 0} → Bool → X → Option X
only test x = if test then Some x else None

-- the number of the class of an agent that is named
abbrev pub class_named : Names → Who → Option ℕ
class_named names This = Some names.own
class_named names Outer = names.outer_class
class_named names Inner = names.inner_class

-- of another class only what is public may be named
abbrev pub may_name : Names → ℕ → Bool → Bool
may_name names class shared = shared || (class == names.own)

-- the type of a state of an agent
abbrev pub state_type : Names → Who → ℕ → Option Ty
state_type names who i = option_and_then type_in (class_named names who)
  where
    type_in : ℕ → Option Ty
    type_in class = option_and_then (λ c.
        option_and_then (λ s. only (may_name names class s.shared) s.ty) (slice_get c.states i))
        (slice_get names.classes class)

-- an effect of an agent
abbrev pub effect_named : Names → Who → ℕ → Option Effect
effect_named names who i = option_and_then effect_in (class_named names who)
  where
    effect_in : ℕ → Option Effect
    effect_in class = option_and_then (λ c.
        option_and_then (λ e. only (may_name names class e.shared) e) (slice_get c.effects i))
        (slice_get names.classes class)

-- the type of a constant in scope
abbrev pub constant_type : List (ℕ × Ty) → ℕ → Option Ty
constant_type [] n = None
constant_type (c ∷ rest) n = if c.0 == n then Some c.1 else constant_type rest n

-- a site number stands exactly where the operation can fault
abbrev pub is_sited : Bool → Option ℕ → Bool
is_sited true site = is_some site
is_sited false site = is_none site

-- an operation on one operand that can fault
abbrev pub unary_faults : UnOp → Bool
unary_faults un.Not = false
unary_faults un.Trunc = false
unary_faults _ = true

-- an operation on two operands that can fault
abbrev pub binary_faults : BinOp → Bool
binary_faults bin.Add = true
binary_faults bin.Sub = true
binary_faults bin.Mul = true
binary_faults bin.Div = true
binary_faults bin.Rem = true
binary_faults _ = false

-- the one combinator whose total may not fit 64 bits
abbrev pub is_sum : Comb → Bool
is_sum comb.Sum = true
is_sum _ = false

-- the type that an operation gives for the type of its operand
abbrev pub unary_type : UnOp → Ty → Option Ty
unary_type un.Neg t = only (is_number t) t
unary_type un.Abs t = only (is_number t) t
unary_type un.Not t = only (same_type t ty.Bool) ty.Bool
unary_type un.Sqrt t = only (same_type t ty.Fixed) ty.Fixed
unary_type un.ToFixed t = only (same_type t ty.Int) ty.Fixed
unary_type un.Trunc t = only (same_type t ty.Fixed) ty.Int

-- the type that an operation gives for two operands of one type
abbrev pub operation_type : BinOp → Ty → Option Ty
operation_type bin.Rem t = only (same_type t ty.Int) ty.Int
operation_type bin.Lt t = only (is_number t) ty.Bool
operation_type bin.Le t = only (is_number t) ty.Bool
operation_type bin.Gt t = only (is_number t) ty.Bool
operation_type bin.Ge t = only (is_number t) ty.Bool
operation_type bin.Eq t = Some ty.Bool
operation_type bin.Ne t = Some ty.Bool
operation_type bin.And t = only (same_type t ty.Bool) ty.Bool
operation_type bin.Or t = only (same_type t ty.Bool) ty.Bool
operation_type _ t = only (is_number t) t

-- both operands have one type
abbrev pub binary_type : BinOp → Ty → Ty → Option Ty
binary_type op a b = if same_type a b then operation_type op a else None

-- a condition is bool, and both branches have one type
abbrev pub choice_type : Ty → Ty → Ty → Option Ty
choice_type c a b = only (same_type c ty.Bool && same_type a b) a

-- a total is read in a rule alone, as its effect's type, at a site where it is a sum
abbrev pub total_type : Names → ℕ → Ty → Option ℕ → Option Ty
total_type names effect type site =
    let fits : Effect → Bool = λ e. same_type e.ty type && is_sited (is_sum e.comb) site in
    if names.in_rule
    then option_and_then (λ e. only (fits e) type) (effect_named names This effect)
    else None

-- the type of one operation, whose operands have types in a scope
abbrev pub type_step : Expr-F (Names → Option Ty) → Names → Option Ty
type_step (Lit v) names = Some (type_of_value v)
type_step (Field who i) names = state_type names who i
type_step (Total effect type site) names = total_type names effect type site
type_step (Local n) names = constant_type names.known n
type_step (Unary op site a) names =
    if is_sited (unary_faults op) site then option_and_then (unary_type op) (a names) else None
type_step (Binary op site a b) names =
    if is_sited (binary_faults op) site
    then option_and_then (λ s. option_and_then (binary_type op s) (b names)) (a names)
    else None
type_step (Choice c a b) names = option_and_then (λ p.
    option_and_then (λ s. option_and_then (choice_type p s) (b names)) (a names)) (c names)
type_step (Rand site) names = Some ty.Fixed

-- the type of a well-formed expression; None for any other
abbrev pub type_of : Expr → Names → Option Ty
type_of = fold-Expr (Names → Option Ty) type_step

-- a well-formed expression has a type
abbrev pub is_of_type : Ty → Option Ty → Bool
is_of_type t None = false
is_of_type t (Some s) = same_type t s

-- one more loop around a statement, of which no more than two stand in each other
abbrev pub within_loop : Names → ℕ → Option Names
within_loop names class =
    if is_none names.outer_class then Some (record names { outer_class = Some class })
    else only (is_none names.inner_class) (record names { inner_class = Some class })

-- a value of a type is said to an effect; to `count` any type is
abbrev pub takes : Option Effect → Option Ty → Bool
takes (Some e) (Some t) = takes_type e.comb e.ty t
  where
    takes_type : Comb → Ty → Ty → Bool
    takes_type comb.Count declared t = true
    takes_type _ declared t = same_type declared t
takes _ _ = false

-- statements in turn, each in the scope that the one before it leaves
abbrev pub in_turn : List (Names → Option Names) → Names → Option Names
in_turn [] names = Some names
in_turn (s ∷ rest) names = option_and_then (in_turn rest) (s names)

-- what is in scope after one statement, whose blocks are lists of such
abbrev pub scope_step : Stmt-F (Names → Option Names) → Names → Option Names
scope_step (Const n e) names =
    option_map (λ t. record names { known = (n, t) ∷ names.known }) (type_of e names)
scope_step (If c a b) names =
    let blocks_fit = is_some (in_turn a names) && is_some (in_turn b names) in
    only (is_of_type ty.Bool (type_of c names) && blocks_fit) names
scope_step (Foreach class body at) names =
    let body_fits = is_some (option_and_then (in_turn body) (within_loop names class)) in
    only (nat_lt class (length names.classes) && body_fits) names
scope_step (Assign who effect e at) names =
    only (takes (effect_named names who effect) (type_of e names)) names

-- what is in scope after a well-formed statement; None for any other
abbrev pub scope_after : Stmt → Names → Option Names
scope_after = fold-Stmt (Names → Option Names) scope_step
