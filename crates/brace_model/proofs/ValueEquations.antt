-- What an expression of each kind is worth, and what a statement of each kind does.
use Rattle.std.proofs.Common.{◌≡◌, ap, ℕ, pos, List, map, Option, Ok}
use Rattle.std.specs.Prelude.{slice_index_or, sum, ◌+◌}
use Rattle.brace_draw.specs.Draw.{draw_value}
use Rattle.brace_model.specs.declared.program.Ty.{Ty}
use Rattle.brace_model.specs.declared.program.Value.{Value}
use Rattle.brace_model.specs.declared.program.Value.TheVariants.{Fixed}
use Rattle.brace_model.specs.declared.program.UnOp.{UnOp}
use Rattle.brace_model.specs.declared.program.BinOp.{BinOp}
use Rattle.brace_model.specs.declared.program.Who.{Who}
use Rattle.brace_model.specs.declared.program.Expr.{Expr}
use Rattle.brace_model.specs.declared.program.Expr.TheVariants.{Lit, Field, Total, Local, Unary, Binary, Choice, Rand}
use Rattle.brace_model.specs.declared.program.Stmt.{Stmt}
use Rattle.brace_model.specs.declared.program.Stmt.TheVariants.{Const, If, Foreach, Assign}
use Rattle.brace_model.specs.declared.program.Program.{Program}
use Rattle.brace_model.specs.declared.world.Agent.{Agent}
use Rattle.brace_model.specs.World.{value_at}
use Rattle.brace_model.specs.Value.{Scope, value_step, value, agent_of, total_read, unary, binary, choose, with_value}
use Rattle.brace_model.specs.Query.{statement, statement_step, constants, constants_step, block, closed, chosen, deed_of, iterated, inside, seen_by, silent, bound, saying}
use Rattle.brace_model.proofs.Folds.{fold-Lit, fold-Field, fold-Total, fold-Local, fold-Unary, fold-Binary, fold-Choice, fold-Rand, fold-Const, fold-If, fold-Foreach, fold-Assign}

pub value-Lit : (v : Value) (scope : Scope) → value (Lit v) scope ≡ Ok v
value-Lit v scope = ap (λ f. f scope) (fold-Lit value_step v)

pub value-Field : (who : Who) (i : ℕ) (scope : Scope) → value (Field who i) scope ≡ Ok (value_at (agent_of scope who).states i)
value-Field who i scope = ap (λ f. f scope) (fold-Field value_step who i)

pub value-Total : (effect : ℕ) (type : Ty) (site : Option ℕ) (scope : Scope) → value (Total effect type site) scope ≡ total_read type site (slice_index_or scope.totals effect (pos 0))
value-Total effect type site scope = ap (λ f. f scope) (fold-Total value_step effect type site)

pub value-Local : (n : ℕ) (scope : Scope) → value (Local n) scope ≡ Ok (value_at scope.locals n)
value-Local n scope = ap (λ f. f scope) (fold-Local value_step n)

pub value-Unary : (op : UnOp) (site : Option ℕ) (a : Expr) (scope : Scope) → value (Unary op site a) scope ≡ with_value (value a scope) (unary op site)
value-Unary op site a scope = ap (λ f. f scope) (fold-Unary value_step op site a)

pub value-Binary : (op : BinOp) (site : Option ℕ) (a b : Expr) (scope : Scope) → value (Binary op site a b) scope ≡ binary op site (value a scope) (value b scope)
value-Binary op site a b scope = ap (λ f. f scope) (fold-Binary value_step op site a b)

pub value-Choice : (c a b : Expr) (scope : Scope) → value (Choice c a b) scope ≡ with_value (value c scope) (λ x. choose x (value a scope) (value b scope))
value-Choice c a b scope = ap (λ f. f scope) (fold-Choice value_step c a b)

pub value-Rand : (site : ℕ) (scope : Scope) → value (Rand site) scope ≡ Ok (Fixed (pos (draw_value scope.seed scope.tick scope.this.id site)))
value-Rand site scope = ap (λ f. f scope) (fold-Rand value_step site)

pub statement-Const : (program : Program) (world : List Agent) (n : ℕ) (e : Expr) (scope : Scope) → statement program world (Const n e) scope ≡ deed_of scope (value e scope) (λ v. silent (bound scope n v))
statement-Const program world n e scope = ap (λ f. f scope) (fold-Const (statement_step program world) n e)

pub statement-If : (program : Program) (world : List Agent) (c : Expr) (a b : List Stmt) (scope : Scope)
    → statement program world (If c a b) scope ≡ deed_of scope (value c scope) (λ v. closed scope (chosen v (block (map (statement program world) a) scope) (block (map (statement program world) b) scope)))
statement-If program world c a b scope = ap (λ f. f scope) (fold-If (statement_step program world) c a b)

pub statement-Foreach : (program : Program) (world : List Agent) (class : ℕ) (body : List Stmt) (at : ℕ) (scope : Scope)
    → statement program world (Foreach class body at) scope ≡ iterated scope (map (λ b. block (map (statement program world) body) (inside scope b)) (seen_by program world scope.this class))
statement-Foreach program world class body at scope = ap (λ f. f scope) (fold-Foreach (statement_step program world) class body at)

pub statement-Assign : (program : Program) (world : List Agent) (who : Who) (effect : ℕ) (e : Expr) (at : ℕ) (scope : Scope)
    → statement program world (Assign who effect e at) scope ≡ deed_of scope (value e scope) (saying scope (agent_of scope who) effect)
statement-Assign program world who effect e at scope = ap (λ f. f scope) (fold-Assign (statement_step program world) who effect e at)

pub constants-Const : (n : ℕ) (e : Expr) → constants (Const n e) ≡ 1
constants-Const n e = fold-Const constants_step n e

pub constants-Foreach : (class : ℕ) (body : List Stmt) (at : ℕ) → constants (Foreach class body at) ≡ sum (map constants body)
constants-Foreach class body at = fold-Foreach constants_step class body at

pub constants-If : (c : Expr) (a b : List Stmt) → constants (If c a b) ≡ sum (map constants a) + sum (map constants b)
constants-If c a b = fold-If constants_step c a b

pub constants-Assign : (who : Who) (effect : ℕ) (e : Expr) (at : ℕ) → constants (Assign who effect e at) ≡ 0
constants-Assign who effect e at = fold-Assign constants_step who effect e at
