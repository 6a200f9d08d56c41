-- Small scripts that inversion is worked on.
use Rattle.std.specs.Prelude.{ℕ, ℤ, pos, List, [], ◌∷◌, true, Some, None, codes}
use Rattle.brace_model.specs.declared.program.Ty.{Ty}
use Rattle.brace_model.specs.declared.program.Ty.TheVariants as ty
use Rattle.brace_model.specs.declared.program.Comb.{Comb}
use Rattle.brace_model.specs.declared.program.Comb.TheVariants as comb
use Rattle.brace_model.specs.declared.program.Value.TheVariants.{Int, Fixed}
use Rattle.brace_model.specs.declared.program.BinOp.TheVariants as op
use Rattle.brace_model.specs.declared.program.Who.TheVariants as who
use Rattle.brace_model.specs.declared.program.Expr.{Expr}
use Rattle.brace_model.specs.declared.program.Expr.TheVariants.{Lit, Field, Local, Binary}
use Rattle.brace_model.specs.declared.program.Stmt.{Stmt}
use Rattle.brace_model.specs.declared.program.Stmt.TheVariants.{Const, If, Foreach, Assign}
use Rattle.brace_model.specs.declared.program.State.{State}
use Rattle.brace_model.specs.declared.program.Class.{Class}
use Rattle.brace_model.specs.declared.program.Program.{Program}
use Rattle.brace_model.specs.declared.world.Agent.{Agent}

-- a public state without a rule
abbrev pub state : List ℕ → Ty → State
state name type = record { name = name; ty = type; shared = true; rule = None }

-- a class A that sees so far, with the states x, y and d, the effect e and this query
abbrev pub class : ℤ → Comb → List Stmt → Class
class visible how query = record {
  name = codes "A";
  visible = visible;
  reach = pos 0;
  x = 0;
  y = 1;
  states = state (codes "x") ty.Fixed ∷ state (codes "y") ty.Fixed ∷ state (codes "d") ty.Int ∷ [];
  effects = (record { name = codes "e"; ty = ty.Int; shared = true; comb = how }) ∷ [];
  query = query;
  die = None;
  spawn = None;
}

-- a script of this one class
abbrev pub script : ℤ → Comb → List Stmt → Program
script visible how query = record { classes = class visible how query ∷ []; sites = [] }

-- an agent by its id, its place along x and its d
abbrev pub agent : ℕ → ℤ → ℤ → Agent
agent id x d = record { class = 0; id = id; states = Fixed x ∷ Fixed (pos 0) ∷ Int d ∷ [] }

-- says 1 to each agent in sight
abbrev pub neighbours : Program
neighbours =
    script (pos 2000000) comb.Count
    (Foreach 0 (Assign who.Outer 0 (Lit (Int (pos 1))) 2 ∷ []) 1 ∷ [])

-- says 1 to each agent in sight, once for each agent in sight
abbrev pub pairs : Program
pairs = script (pos 3000000) comb.Count
    (Foreach 0 (Foreach 0 (Assign who.Outer 0 (Lit (Int (pos 1))) 3 ∷ []) 2 ∷ []) 1 ∷ [])

-- a quotient by the agent's own d, at a site
abbrev pub quotient : ℕ → ℤ → Expr
quotient site n = Binary op.Div (Some site) (Lit (Int n)) (Field who.This 2)

-- says 1 / d to each agent in sight, and then 2 / d to itself
abbrev pub quotients : Program
quotients = script (pos 5000000) comb.Sum
    (Foreach 0
    (Assign who.Outer 0 (quotient 1 (pos 1)) 2 ∷ Assign who.This 0 (quotient 2 (pos 2)) 3 ∷ [])
    1 ∷ [])

-- an inner loop with a constant that is said to `this`
abbrev pub own_loop : Stmt
own_loop = Foreach 0 (Const 0 (Field who.Inner 2) ∷ Assign who.This 0 (Local 0) 3 ∷ []) 2

-- the constant of the outer loop is said to its agent where it is less than 8, else to `this`
abbrev pub choice : Stmt
choice =
    If (Binary op.Lt None (Local 1) (Lit (Int (pos 8))))
    (Assign who.Outer 0 (Local 1) 4 ∷ [])
    (Assign who.This 0 (Local 1) 5 ∷ [])

-- both in an outer loop, with a constant in between
abbrev pub constants_in_loops : Program
constants_in_loops = script (pos 3000000) comb.Sum
    (Foreach 0 (own_loop ∷ Const 1 (Field who.Outer 2) ∷ choice ∷ []) 1 ∷ [])
