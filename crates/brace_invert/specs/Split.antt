-- The two programs into which a script is split: in the forward program agents say values to
-- themselves alone, in the inverse program to the agents of loops alone. All else of a script
-- stays, and each site and each constant keeps its number.
use Rattle.std.specs.Prelude.{ℕ, List, [], ◌∷◌, map, flat_map, sum, ◌==◌, Bool, true, false, if◌then◌else◌}
use Rattle.brace_model.specs.declared.program.Value.TheVariants.{Flag}
use Rattle.brace_model.specs.declared.program.Expr.TheVariants.{Lit}
use Rattle.brace_model.specs.declared.program.Who.TheVariants.{This}
use Rattle.brace_model.specs.declared.program.Stmt.{Stmt}
use Rattle.brace_model.specs.declared.program.Stmt.TheVariants as stmt
use Rattle.brace_model.specs.declared.program.Stmt.TheOpen.{Stmt-F, Const, If, Foreach, Assign}
use Rattle.brace_model.specs.declared.program.Stmt.TheFolds.{fold-Stmt}
use Rattle.brace_model.specs.declared.program.Class.{Class}
use Rattle.brace_model.specs.declared.program.Program.{Program}
use Rattle.brace_model.specs.Sites.{constant_numbers, assignments}

-- the forward part of one statement, whose blocks are lists of such parts: an assignment to a
-- loop's agent goes away
abbrev pub forward_step : Stmt-F (List Stmt) → List Stmt
forward_step (Const n e) = stmt.Const n e ∷ []
forward_step (If c a b) = stmt.If c (flat_map (λ s. s) a) (flat_map (λ s. s) b) ∷ []
forward_step (Foreach class body at) = stmt.Foreach class (flat_map (λ s. s) body) at ∷ []
forward_step (Assign This effect e at) = stmt.Assign This effect e at ∷ []
forward_step (Assign who effect e at) = []

-- the forward part of a statement
abbrev pub forward_of : Stmt → List Stmt
forward_of = fold-Stmt (List Stmt) forward_step

-- declares a constant whose value nothing reads
abbrev pub unread : ℕ → Stmt
unread n = stmt.Const n (Lit (Flag false))

-- declares constants where nothing is evaluated, so that all others keep their numbers
abbrev pub places : List ℕ → List Stmt
places [] = []
places (n ∷ rest) = stmt.If (Lit (Flag false)) (map unread (n ∷ rest)) [] ∷ []

-- an inner loop of which this block is left goes away where nothing is said in it
abbrev pub inner_loop : ℕ → List Stmt → ℕ → List Stmt
inner_loop class body at =
    if sum (map assignments body) == 0 then places (flat_map constant_numbers body)
    else stmt.Foreach class body at ∷ []

-- a loop of which this block is left, inside or outside of another loop
abbrev pub loop_part : Bool → ℕ → List Stmt → ℕ → List Stmt
loop_part true class body at = inner_loop class body at
loop_part false class body at = stmt.Foreach class body at ∷ []

-- the inverse part of one statement, inside or outside of a loop: an assignment to `this` goes
-- away, and so does an inner loop without an assignment to a loop's agent
abbrev pub inverse_step : Stmt-F (Bool → List Stmt) → Bool → List Stmt
inverse_step (Const n e) in_loop = stmt.Const n e ∷ []
inverse_step (If c a b) in_loop =
    stmt.If c (flat_map (λ s. s in_loop) a) (flat_map (λ s. s in_loop) b) ∷ []
inverse_step (Foreach class body at) in_loop =
    loop_part in_loop class (flat_map (λ s. s true) body) at
inverse_step (Assign This effect e at) in_loop = []
inverse_step (Assign who effect e at) in_loop = stmt.Assign who effect e at ∷ []

-- the inverse part of a statement
abbrev pub inverse_of : Stmt → Bool → List Stmt
inverse_of = fold-Stmt (Bool → List Stmt) inverse_step

-- the parts of a query
abbrev pub forward_query : List Stmt → List Stmt
forward_query query = flat_map forward_of query

abbrev pub inverse_block : Bool → List Stmt → List Stmt
inverse_block in_loop block = flat_map (λ s. inverse_of s in_loop) block

abbrev pub inverse_query : List Stmt → List Stmt
inverse_query query = inverse_block false query

-- a class with another query, made of its own
abbrev pub with_query : (List Stmt → List Stmt) → Class → Class
with_query part class = record class { query = part class.query }

-- a program with other queries, made of those of its classes
abbrev pub with_queries : (List Stmt → List Stmt) → Program → Program
with_queries part program =
    record program { classes = map (with_query part) program.classes }

-- the forward and the inverse program of a script
abbrev pub forward_program : Program → Program
forward_program = with_queries forward_query

abbrev pub inverse_program : Program → Program
inverse_program = with_queries inverse_query
