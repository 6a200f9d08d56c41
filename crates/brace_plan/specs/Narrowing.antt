-- The conditions that narrow a loop. Where an agent fails one of them, the loop's block says
-- nothing at it, and faults nowhere. What an expression in a loop's condition is to that loop is
-- its sense.
use Rattle.std.specs.Prelude.{ℕ, ◌==◌, List, [], ◌∷◌, ◌++◌, map, flat_map, slice_get, Bool, true, false, ◌&&◌, is_none, if◌then◌else◌, length, Option, Some, None}
use Rattle.brace_model.specs.declared.program.Value.TheVariants.{Fixed}
use Rattle.brace_model.specs.declared.program.BinOp.{BinOp}
use Rattle.brace_model.specs.declared.program.BinOp.TheVariants as bin
use Rattle.brace_model.specs.declared.program.Who.{Who}
use Rattle.brace_model.specs.declared.program.Who.TheVariants.{This, Outer, Inner}
use Rattle.brace_model.specs.declared.program.Class.{Class}
use Rattle.brace_model.specs.declared.program.Program.{Program}
use Rattle.brace_model.specs.declared.program.Expr.{Expr}
use Rattle.brace_model.specs.declared.program.Expr.TheOpen.{Expr-F, Lit, Field, Total, Local, Unary, Binary, Choice, Rand}
use Rattle.brace_model.specs.declared.program.Expr.TheFolds.{fold-Expr}
use Rattle.brace_model.specs.declared.program.Stmt.{Stmt}
use Rattle.brace_model.specs.declared.program.Stmt.TheOpen.{Stmt-F, If, Foreach}
use Rattle.brace_model.specs.declared.program.Stmt.TheFolds.{fold-Stmt}
use Rattle.brace_plan.specs.declared.action.Axis.{Axis}
use Rattle.brace_plan.specs.declared.action.Axis.TheVariants.{X, Y}
use Rattle.brace_plan.specs.declared.action.Side.{Side}
use Rattle.brace_plan.specs.declared.action.Side.TheVariants as side
use Rattle.brace_plan.specs.declared.action.Limit.{Limit}
use Rattle.brace_plan.specs.declared.action.Limit.TheVariants as limit
use Rattle.brace_plan.specs.declared.action.Bound.{Bound}
use Rattle.brace_plan.specs.declared.loops.Loop.{Loop}
use Rattle.brace_plan.specs.declared.narrowing.Sense.{Sense}

-- no coordinate and no limit, and no bound is set
abbrev pub plain : Bool → Sense
plain clear = record { clear = clear; place = None; limit = None; bounds = [] }

-- the coordinate at a place of a class's states
abbrev pub axis_at : Class → ℕ → Option Axis
axis_at class i =
    if i == class.x then Some X else (if i == class.y then Some Y else None)

-- what a state of an agent is, in a loop of that variable over a class
abbrev pub field_sense : Who → Class → Who → ℕ → Sense
field_sense Outer class Outer i = record (plain true) { place = axis_at class i }
field_sense Inner class Inner i = record (plain true) { place = axis_at class i }
field_sense loop class This i = record (plain true) { limit = Some (limit.State i) }
field_sense loop class who i = plain true

-- how a coordinate stands to a limit, with the coordinate on the left of the operation
abbrev pub side_left : BinOp → Option Side
side_left bin.Lt = Some side.Below
side_left bin.Le = Some side.AtMost
side_left bin.Gt = Some side.Above
side_left bin.Ge = Some side.AtLeast
side_left bin.Eq = Some side.At
side_left _ = None

-- the same with the coordinate on the right
abbrev pub side_right : BinOp → Option Side
side_right bin.Lt = Some side.Above
side_right bin.Le = Some side.AtLeast
side_right bin.Gt = Some side.Below
side_right bin.Ge = Some side.AtMost
side_right bin.Eq = Some side.At
side_right _ = None

-- the bound of a coordinate, a side and a limit, where there are all three
abbrev pub bound_of : Option Axis → Option Side → Option Limit → List Bound
bound_of (Some axis) (Some side) (Some limit) =
    record { axis = axis; side = side; limit = limit } ∷ []
bound_of _ _ _ = []

-- the bounds of a comparison
abbrev pub compared : BinOp → Sense → Sense → List Bound
compared op a b = bound_of a.place (side_left op) b.limit
    ++ bound_of b.place (side_right op) a.limit

-- an operation on two operands: of `&&` the bounds of the first, and those of the second where no
-- fault stands before them
abbrev pub binary_sense : BinOp → Bool → Sense → Sense → Sense
binary_sense bin.And clear a b =
    record (plain clear) { bounds = a.bounds ++ (if a.clear then b.bounds else []) }
binary_sense op clear a b =
    record (plain clear) { bounds = if clear then compared op a b else [] }

-- one operation in a loop of that variable over a class
abbrev pub sense_step : Who → Class → Expr-F Sense → Sense
sense_step loop class (Lit (Fixed n)) =
    record (plain true) { limit = Some (limit.Number n) }
sense_step loop class (Lit v) = plain true
sense_step loop class (Field who i) = field_sense loop class who i
sense_step loop class (Total effect type site) = plain (is_none site)
sense_step loop class (Local n) = record (plain true) { limit = Some (limit.Constant n) }
sense_step loop class (Unary op site a) = plain (a.clear && is_none site)
sense_step loop class (Binary op site a b) =
    binary_sense op (a.clear && (b.clear && is_none site)) a b
sense_step loop class (Choice c a b) = plain (c.clear && (a.clear && b.clear))
sense_step loop class (Rand site) = plain false

abbrev pub sense : Who → Class → Expr → Sense
sense loop class = fold-Expr Sense (sense_step loop class)

-- of a statement: the bounds that it sets where it is the whole block of a loop of a variable over
-- a class; and the loops in it, in text order, by the classes of the program and by the variable of
-- a loop that stands in no other loop of the statement
pub record Nested : Type 0 where
  pub sets : Who → Class → List Bound
  pub loops : List Class → Who → List Loop

-- the bounds of a block: those of its statement, where it is one statement alone
abbrev pub alone : List Nested → Who → Class → List Bound
alone (s ∷ []) variable class = s.sets variable class
alone _ variable class = []

-- the bounds of a block of a loop over a class; none over a class that the program does not have
abbrev pub bounds_over : List Nested → Who → Option Class → List Bound
bounds_over block variable None = []
bounds_over block variable (Some class) = alone block variable class

-- the loops of a block
abbrev pub all_loops : List Nested → List Class → Who → List Loop
all_loops block classes variable = flat_map (λ s. s.loops classes variable) block

-- one statement: an `if` with nothing else sets the bounds of its condition
abbrev pub nested_step : Stmt-F Nested → Nested
nested_step (If c a b) = record {
  sets = λ variable class. if length b == 0 then (sense variable class c).bounds else [];
  loops = λ classes variable. all_loops a classes variable ++ all_loops b classes variable;
}
nested_step (Foreach class body at) = record {
  sets = λ variable class. [];
  loops = λ classes variable. record {
    at = at;
    class = class;
    bounds = length (bounds_over body variable (slice_get classes class));
  } ∷ all_loops body classes Inner;
}
nested_step _ = record {
  sets = λ variable class. [];
  loops = λ classes variable. [];
}

abbrev pub nested : Stmt → Nested
nested = fold-Stmt Nested nested_step

-- the bounds of a loop of that variable over a class, by its block
abbrev pub bounds_of : Who → Class → List Stmt → List Bound
bounds_of variable class body = alone (map nested body) variable class

-- the loops of a block
abbrev pub loops_of : List Class → Who → List Stmt → List Loop
loops_of classes variable block = all_loops (map nested block) classes variable

-- the loops of a program, in text order
abbrev pub loops_in : Program → List Loop
loops_in program = flat_map (λ c. loops_of program.classes Outer c.query) program.classes

-- how many bounds the first of the loops at a byte offset has; 0 where there is none
abbrev pub bounds_at : List Loop → ℕ → ℕ
bounds_at [] offset = 0
bounds_at (l ∷ rest) offset = if l.at == offset then l.bounds else bounds_at rest offset
