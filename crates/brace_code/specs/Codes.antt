-- Code: what it gives in a scope, and when it is an expression's.
use Rattle.std.specs.Prelude.{◌≡◌, ℕ}
use Rattle.brace_model.specs.declared.program.Ty.{Ty}
use Rattle.brace_model.specs.declared.program.Expr.{Expr}
use Rattle.brace_model.specs.Value.{Scope, Worth, value}
use Rattle.brace_model.specs.Typing.{Names}
use Rattle.brace_model.specs.Typed.{Fits}
use Rattle.brace_code.specs.declared.code.Code.{Code}
use Rattle.brace_code.specs.declared.names.Known.{Known}
use Rattle.brace_code.specs.inner.Words.{value_of}
use Rattle.brace_code.specs.inner.Runs.{outcome}

-- how many words the stack of code needs
abbrev pub depth_of : Code → ℕ
depth_of code = code.depth

-- the type of what code gives
abbrev pub type_given : Code → Ty
type_given code = code.ty

-- what code gives in a scope, on a stack of its depth: a value, or the site and kind of a fault
abbrev pub gives : Code → Scope → Worth
gives code scope = value_of code.ty (outcome code.instrs code.depth scope)

-- the code is that of an expression of a type: in each scope whose values are of the types in scope
-- it gives the expression's value, or its fault
pub record Computes (names : Names) (e : Expr) (t : Ty) (code : Code) : Type 0 where
  pub type : type_given code ≡ t
  pub value : (scope : Scope) → Fits names scope → gives code scope ≡ value e scope

-- the names that types are known of
abbrev pub names_of : Known → Names
names_of known = record {
  classes = known.classes.now;
  own = known.own;
  outer_class = known.outer;
  inner_class = known.inner;
  in_rule = known.in_rule;
  known = known.constants.now;
}
