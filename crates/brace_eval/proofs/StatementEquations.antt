-- What a statement that is known to be of a kind does, and how many constants it declares.
use Rattle.std.proofs.Common.{◌≡◌, ◌∙◌, ap, ℕ, ◌+◌, List, map}
use Rattle.std.specs.Prelude.{sum}
use Rattle.brace_model.specs.declared.program.Expr.{Expr}
use Rattle.brace_model.specs.declared.program.Program.{Program}
use Rattle.brace_model.specs.declared.program.Who.{Who}
use Rattle.brace_model.specs.declared.program.Stmt.{Stmt}
use Rattle.brace_model.specs.declared.program.Stmt.TheVariants.{Const, If, Foreach, Assign}
use Rattle.brace_model.specs.declared.world.Agent.{Agent}
use Rattle.brace_model.specs.Value.{Scope, value, agent_of}
use Rattle.brace_model.specs.Query.{silent, bound, deed_of, saying, closed, chosen, block, statement, inside, iterated, seen_by, constants}
use Rattle.brace_model.proofs.ValueEquations as kind

pub constants-If : (s : Stmt) (c : Expr) (a b : List Stmt) → s ≡ If c a b
    → constants s ≡ sum (map constants a) + sum (map constants b)
constants-If s c a b is = ap constants is ∙ kind.constants-If c a b

module _ (program : Program) (world : List Agent) (s : Stmt) (scope : Scope) where
  pub does-Const : (n : ℕ) (e : Expr) → s ≡ Const n e
      → statement program world s scope ≡ deed_of scope (value e scope) (λ v. silent (bound scope n v))
  does-Const n e is = ap (λ x. statement program world x scope) is ∙ kind.statement-Const program world n e scope

  pub does-If : (c : Expr) (a b : List Stmt) → s ≡ If c a b
      → statement program world s scope
      ≡ deed_of scope (value c scope) (λ v. closed scope (chosen v (block (map (statement program world) a) scope) (block (map (statement program world) b) scope)))
  does-If c a b is = ap (λ x. statement program world x scope) is ∙ kind.statement-If program world c a b scope

  pub does-Foreach : (class : ℕ) (body : List Stmt) (offset : ℕ) → s ≡ Foreach class body offset
      → statement program world s scope
      ≡ iterated scope (map (λ b. block (map (statement program world) body) (inside scope b)) (seen_by program world scope.this class))
  does-Foreach class body offset is = ap (λ x. statement program world x scope) is ∙ kind.statement-Foreach program world class body offset scope

  pub does-Assign : (who : Who) (effect : ℕ) (e : Expr) (offset : ℕ) → s ≡ Assign who effect e offset
      → statement program world s scope ≡ deed_of scope (value e scope) (saying scope (agent_of scope who) effect)
  does-Assign who effect e offset is = ap (λ x. statement program world x scope) is ∙ kind.statement-Assign program world who effect e offset scope
