-- What an expression is worth: a value, or the first fault met from left to right.
use Rattle.std.specs.Prelude.{ℕ, ℤ, pos, List, true, false, not, int_lt, int_le, Option, Some, None, Result, Ok, Err, unwrap_or, slice_index_or}
use Rattle.std.specs.Ordering.{int_eq}
use Rattle.std.specs.Int.{int_min, int_max}
use Rattle.std.specs.Result.{result_unwrap_or}
use Rattle.brace_num.specs.declared.kinds.Kind.{Kind}
use Rattle.brace_num.specs.Exact.{fitting, exact_add, exact_sub, exact_neg, exact_abs, exact_int_mul, exact_int_div, exact_int_rem, exact_fixed_mul, exact_fixed_div, exact_sqrt, exact_to_fixed, exact_trunc}
use Rattle.brace_draw.specs.Draw.{draw_value}
use Rattle.brace_model.specs.declared.program.Ty.{Ty}
use Rattle.brace_model.specs.declared.program.Ty.TheVariants as ty
use Rattle.brace_model.specs.declared.program.Value.{Value}
use Rattle.brace_model.specs.declared.program.Value.TheVariants.{Int, Fixed, Flag}
use Rattle.brace_model.specs.declared.program.UnOp.{UnOp}
use Rattle.brace_model.specs.declared.program.UnOp.TheVariants as un
use Rattle.brace_model.specs.declared.program.BinOp.{BinOp}
use Rattle.brace_model.specs.declared.program.BinOp.TheVariants as bin
use Rattle.brace_model.specs.declared.program.Who.{Who}
use Rattle.brace_model.specs.declared.program.Who.TheVariants.{This, Outer, Inner}
use Rattle.brace_model.specs.declared.program.Expr.{Expr}
use Rattle.brace_model.specs.declared.program.Expr.TheOpen.{Expr-F, Lit, Field, Total, Local, Unary, Binary, Choice, Rand}
use Rattle.brace_model.specs.declared.program.Expr.TheFolds.{fold-Expr}
use Rattle.brace_model.specs.declared.fault.Stop.{Stop}
use Rattle.brace_model.specs.declared.world.Agent.{Agent}
use Rattle.brace_model.specs.World.{number, value_at, no_value}

-- what an expression may name: the tick, the seed, the agents, the constants of the class and the
-- totals of the agent's effects
pub record Scope : Type 0 where
  pub tick : ℕ
  pub seed : ℕ
  pub this : Agent
  pub outer : Option Agent
  pub inner : Option Agent
  pub locals : List Value
  pub totals : List ℤ

-- a value, or the site and kind of a fault
abbrev pub Worth : Type 0
Worth = Result Value Stop

-- the agent that a name stands for; in a lawful script a loop's variable has one
abbrev pub agent_of : Scope → Who → Agent
agent_of scope This = scope.this
agent_of scope Outer = unwrap_or scope.outer scope.this
agent_of scope Inner = unwrap_or scope.inner scope.this

-- the exact result made a value, or its fault at the site
abbrev pub made : (ℤ → Value) → Option ℕ → Result ℤ Kind → Worth
made as_value site (Ok n) = Ok (as_value n)
made as_value site (Err kind) = Err (record { site = unwrap_or site 0; kind = kind })

-- a number as a value of a type; a flag is set where the number is not 0
abbrev pub typed : Ty → ℤ → Value
typed ty.Int n = Int n
typed ty.Fixed n = Fixed n
typed ty.Bool n = Flag (not (int_eq n (pos 0)))

-- a number as a value of the type that another value has
abbrev pub like : Value → ℤ → Value
like (Int _) n = Int n
like (Fixed _) n = Fixed n
like (Flag _) n = no_value

-- the product and the quotient, by the type of the first operand
abbrev pub product : Value → Value → Result ℤ Kind
product (Int a) b = exact_int_mul a (number b)
product a b = exact_fixed_mul (number a) (number b)

abbrev pub quotient : Value → Value → Result ℤ Kind
quotient (Int a) b = exact_int_div a (number b)
quotient a b = exact_fixed_div (number a) (number b)

-- an operation on one operand
abbrev pub unary : UnOp → Option ℕ → Value → Worth
unary un.Neg site a = made (like a) site (exact_neg (number a))
unary un.Not site a = Ok (Flag (int_eq (number a) (pos 0)))
unary un.Abs site a = made (like a) site (exact_abs (number a))
unary un.Sqrt site a = made Fixed site (exact_sqrt (number a))
unary un.ToFixed site a = made Fixed site (exact_to_fixed (number a))
unary un.Trunc site a = Ok (Int (exact_trunc (number a)))

-- an operation on two operands, both of which were evaluated
abbrev pub strict : BinOp → Option ℕ → Value → Value → Worth
strict bin.Add site a b = made (like a) site (exact_add (number a) (number b))
strict bin.Sub site a b = made (like a) site (exact_sub (number a) (number b))
strict bin.Mul site a b = made (like a) site (product a b)
strict bin.Div site a b = made (like a) site (quotient a b)
strict bin.Rem site a b = made (like a) site (exact_int_rem (number a) (number b))
strict bin.Lt site a b = Ok (Flag (int_lt (number a) (number b)))
strict bin.Le site a b = Ok (Flag (int_le (number a) (number b)))
strict bin.Gt site a b = Ok (Flag (int_lt (number b) (number a)))
strict bin.Ge site a b = Ok (Flag (int_le (number b) (number a)))
strict bin.Eq site a b = Ok (Flag (int_eq (number a) (number b)))
strict bin.Ne site a b = Ok (Flag (not (int_eq (number a) (number b))))
strict bin.Min site a b = Ok (like a (int_min (number a) (number b)))
strict bin.Max site a b = Ok (like a (int_max (number a) (number b)))
strict bin.And site a b = Ok b
strict bin.Or site a b = Ok b

-- goes on with a value; a fault stays
abbrev pub with_value : Worth → (Value → Worth) → Worth
with_value (Ok v) next = next v
with_value (Err stop) next = Err stop

-- one of two outcomes by a condition
abbrev pub choose : Value → Worth → Worth → Worth
choose (Flag true) a b = a
choose _ a b = b

-- an operation on two operands; `&&` and `||` leave the second where the first decides
abbrev pub binary : BinOp → Option ℕ → Worth → Worth → Worth
binary bin.And site a b = with_value a (λ x. choose x b (Ok (Flag false)))
binary bin.Or site a b = with_value a (λ x. choose x (Ok (Flag true)) b)
binary op site a b = with_value a (λ x. with_value b (strict op site x))

-- a total, read as a value of the effect's type: with a site it faults where it does not fit; one
-- without a site always fits
abbrev pub total_read : Ty → Option ℕ → ℤ → Worth
total_read type None n = Ok (typed type (result_unwrap_or (fitting n) (pos 0)))
total_read type (Some site) n = made (typed type) (Some site) (fitting n)

-- one operation, whose operands are outcomes in a scope
abbrev pub value_step : Expr-F (Scope → Worth) → Scope → Worth
value_step (Lit v) scope = Ok v
value_step (Field who i) scope = Ok (value_at (agent_of scope who).states i)
value_step (Total effect type site) scope =
    total_read type site (slice_index_or scope.totals effect (pos 0))
value_step (Local n) scope = Ok (value_at scope.locals n)
value_step (Unary op site a) scope = with_value (a scope) (unary op site)
value_step (Binary op site a b) scope = binary op site (a scope) (b scope)
value_step (Choice c a b) scope = with_value (c scope) (λ x. choose x (a scope) (b scope))
value_step (Rand site) scope =
    Ok (Fixed (pos (draw_value scope.seed scope.tick scope.this.id site)))

-- the value of an expression in a scope, or where and why it faults
abbrev pub value : Expr → Scope → Worth
value = fold-Expr (Scope → Worth) value_step
