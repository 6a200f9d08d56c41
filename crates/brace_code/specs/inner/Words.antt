-- Words: whole numbers that stand for values whose types are known, and the operations on them.
use Rattle.std.specs.Prelude.{ℕ, ℤ, pos, Bool, not, if◌then◌else◌, int_lt, int_le, Result, Ok, Err, slice_index_or}
use Rattle.std.specs.Ordering.{int_eq}
use Rattle.std.specs.Int.{int_min, int_max}
use Rattle.brace_num.specs.declared.kinds.Kind.{Kind}
use Rattle.brace_num.specs.Exact.{exact_add, exact_sub, exact_neg, exact_abs, exact_int_mul, exact_int_div, exact_int_rem, exact_fixed_mul, exact_fixed_div, exact_sqrt, exact_to_fixed, exact_trunc}
use Rattle.brace_draw.specs.Draw.{draw_value}
use Rattle.brace_model.specs.declared.program.Ty.{Ty}
use Rattle.brace_model.specs.declared.program.Ty.TheVariants as ty
use Rattle.brace_model.specs.declared.program.UnOp.{UnOp}
use Rattle.brace_model.specs.declared.program.UnOp.TheVariants as un
use Rattle.brace_model.specs.declared.program.BinOp.{BinOp}
use Rattle.brace_model.specs.declared.program.BinOp.TheVariants as bin
use Rattle.brace_model.specs.declared.fault.Stop.{Stop}
use Rattle.brace_model.specs.World.{number, value_at}
use Rattle.brace_model.specs.Value.{Scope, Worth, agent_of, typed, total_read}
use Rattle.brace_code.specs.declared.code.Operand.{Operand}
use Rattle.brace_code.specs.declared.code.Operand.TheVariants.{Word, Field, Total, Local, Rand}
use Rattle.brace_code.specs.declared.code.Source.{Source}
use Rattle.brace_code.specs.declared.code.Source.TheVariants.{One, Two}

-- a word, or the site and kind of a fault
abbrev pub Outcome : Type 0
Outcome = Result ℤ Stop

-- the word of a value
abbrev pub word_of : Worth → Outcome
word_of (Ok v) = Ok (number v)
word_of (Err stop) = Err stop

-- a word read as a value of a type
abbrev pub value_of : Ty → Outcome → Worth
value_of t (Ok n) = Ok (typed t n)
value_of t (Err stop) = Err stop

-- a flag as a word
abbrev pub flag : Bool → ℤ
flag b = if b then pos 1 else pos 0

-- an exact result, or its fault at the site
abbrev pub made_word : ℕ → Result ℤ Kind → Outcome
made_word site (Ok n) = Ok n
made_word site (Err kind) = Err (record { site = site; kind = kind })

-- goes on with a word; a fault stays
abbrev pub with_word : Outcome → (ℤ → Outcome) → Outcome
with_word (Ok n) next = next n
with_word (Err stop) next = Err stop

-- an operation on one word
abbrev pub unary_word : UnOp → ℤ → Result ℤ Kind
unary_word un.Neg a = exact_neg a
unary_word un.Not a = Ok (flag (int_eq a (pos 0)))
unary_word un.Abs a = exact_abs a
unary_word un.Sqrt a = exact_sqrt a
unary_word un.ToFixed a = exact_to_fixed a
unary_word un.Trunc a = Ok (exact_trunc a)

-- the product and the quotient of two words of a type
abbrev pub product_word : Ty → ℤ → ℤ → Result ℤ Kind
product_word ty.Int a b = exact_int_mul a b
product_word _ a b = exact_fixed_mul a b

abbrev pub quotient_word : Ty → ℤ → ℤ → Result ℤ Kind
quotient_word ty.Int a b = exact_int_div a b
quotient_word _ a b = exact_fixed_div a b

-- an operation on two words of a type
abbrev pub binary_word : BinOp → Ty → ℤ → ℤ → Result ℤ Kind
binary_word bin.Add t a b = exact_add a b
binary_word bin.Sub t a b = exact_sub a b
binary_word bin.Mul t a b = product_word t a b
binary_word bin.Div t a b = quotient_word t a b
binary_word bin.Rem t a b = exact_int_rem a b
binary_word bin.Lt t a b = Ok (flag (int_lt a b))
binary_word bin.Le t a b = Ok (flag (int_le a b))
binary_word bin.Gt t a b = Ok (flag (int_lt b a))
binary_word bin.Ge t a b = Ok (flag (int_le b a))
binary_word bin.Eq t a b = Ok (flag (int_eq a b))
binary_word bin.Ne t a b = Ok (flag (not (int_eq a b)))
binary_word bin.Min t a b = Ok (int_min a b)
binary_word bin.Max t a b = Ok (int_max a b)
binary_word bin.And t a b = Ok b
binary_word bin.Or t a b = Ok b

-- one of two by a word
abbrev pub choose_word : {A : Type 0} → ℤ → A → A → A
choose_word t a b = if int_eq t (pos 0) then b else a

-- the word of an operand in a scope
abbrev pub operand_word : Scope → Operand → Outcome
operand_word scope (Word n) = Ok n
operand_word scope (Field who i) = Ok (number (value_at (agent_of scope who).states i))
operand_word scope (Total effect type site) =
    word_of (total_read type site (slice_index_or scope.totals effect (pos 0)))
operand_word scope (Local n) = Ok (number (value_at scope.locals n))
operand_word scope (Rand site) =
    Ok (pos (draw_value scope.seed scope.tick scope.this.id site))

-- the word of a source in a scope
abbrev pub source_word : Scope → Source → Outcome
source_word scope (One operand) = operand_word scope operand
source_word scope (Two op type site first second) =
    with_word (operand_word scope first) (λ a. with_word (operand_word scope second)
    (λ b. made_word site (binary_word op type a b)))
