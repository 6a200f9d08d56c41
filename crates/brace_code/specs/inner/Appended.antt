-- Code that was made longer by an expression's.
use Rattle.std.specs.Prelude.{◌≡◌, ◌≤◌, ◌+◌, ℕ, ℤ, List, ◌++◌, length, Some}
use Rattle.brace_model.specs.declared.program.Ty.{Ty}
use Rattle.brace_model.specs.declared.program.Expr.{Expr}
use Rattle.brace_model.specs.Value.{Scope, value}
use Rattle.brace_model.specs.Typing.{Names, type_of}
use Rattle.brace_model.specs.Typed.{Fits}
use Rattle.brace_code.specs.declared.code.Instr.{Instr}
use Rattle.brace_code.specs.declared.compiling.Part.{Part}
use Rattle.brace_code.specs.declared.compiling.Leaf.{Leaf}
use Rattle.brace_code.specs.declared.compiling.Two.{Two}
use Rattle.brace_code.specs.inner.Words.{word_of, operand_word, source_word}
use Rattle.brace_code.specs.inner.Runs.{run, pushed}

-- an expression is an operand: of its type, and with its word or its fault in each scope
pub record IsLeaf (names : Names) (e : Expr) (leaf : Leaf) : Type 0 where
  pub type : (t : Ty) → type_of e names ≡ Some t → leaf.ty ≡ t
  pub word : (scope : Scope) → operand_word scope leaf.operand ≡ word_of (value e scope)

-- a typed expression is an operation on two operands: of its type, and with its word or its fault
-- in each scope
pub record IsTwo (names : Names) (e : Expr) (two : Two) : Type 0 where
  pub type : (t : Ty) → type_of e names ≡ Some t → two.ty ≡ t
  pub word : (t : Ty) → type_of e names ≡ Some t → (scope : Scope) → Fits names scope
      → source_word scope two.source ≡ word_of (value e scope)

-- on any stack with room for so many words more, code leaves the expression's word or its fault
pub record Does (names : Names) (e : Expr) (depth : ℕ) (code : List Instr) : Type 0 where
  pub each : (scope : Scope) → Fits names scope → (room : ℕ) (stack : List ℤ)
      → length stack + depth ≤ room
      → run code room scope stack ≡ pushed stack (word_of (value e scope))

-- of a typed expression, code has the type that is told and does what the expression means
pub record Appends (names : Names) (e : Expr) (part : Part)
    (before after : List Instr) : Type 0 where
  pub added : List Instr
  pub is : after ≡ before ++ added
  pub does : (t : Ty) → type_of e names ≡ Some t → (part.ty ≡ t) × Does names e part.depth added
