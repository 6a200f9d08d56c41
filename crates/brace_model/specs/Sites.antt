-- The numbers that a script carries: its sites in finishing order, its constants, its loops'
-- offsets, and how many assignments it has.
use Rattle.std.specs.Prelude.{ℕ, ◌+◌, List, [], ◌∷◌, ◌++◌, map, flat_map, sum, sum_by, length}
use Rattle.std.specs.List.{concat}
use Rattle.std.specs.Option.{option_to_list}
use Rattle.brace_model.specs.declared.program.Spawn.{Spawn}
use Rattle.brace_model.specs.declared.program.Class.{Class}
use Rattle.brace_model.specs.declared.program.Program.{Program}
use Rattle.brace_model.specs.declared.program.Expr.{Expr}
use Rattle.brace_model.specs.declared.program.Expr.TheOpen as expr
use Rattle.brace_model.specs.declared.program.Expr.TheFolds.{fold-Expr}
use Rattle.brace_model.specs.declared.program.Stmt.{Stmt}
use Rattle.brace_model.specs.declared.program.Stmt.TheOpen.{Stmt-F, Const, If, Foreach, Assign}
use Rattle.brace_model.specs.declared.program.Stmt.TheFolds.{fold-Stmt}

-- the sites of one operation: those of its operands from left to right, then its own
abbrev pub sites_step : expr.Expr-F (List ℕ) → List ℕ
sites_step (expr.Lit v) = []
sites_step (expr.Field who i) = []
sites_step (expr.Total effect type site) = option_to_list site
sites_step (expr.Local n) = []
sites_step (expr.Unary op site a) = a ++ option_to_list site
sites_step (expr.Binary op site a b) = a ++ (b ++ option_to_list site)
sites_step (expr.Choice c a b) = c ++ (a ++ b)
sites_step (expr.Rand site) = site ∷ []

-- the sites of an expression, in finishing order
abbrev pub sites_of : Expr → List ℕ
sites_of = fold-Expr (List ℕ) sites_step

-- the sites of one statement: those of its expressions and blocks in text order
abbrev pub query_sites_step : Stmt-F (List ℕ) → List ℕ
query_sites_step (Const n e) = sites_of e
query_sites_step (If c a b) = sites_of c ++ (concat a ++ concat b)
query_sites_step (Foreach class body at) = concat body
query_sites_step (Assign who effect e at) = sites_of e

-- the sites of a statement, in finishing order
abbrev pub sites_in : Stmt → List ℕ
sites_in = fold-Stmt (List ℕ) query_sites_step

-- the numbers of the constants of one statement and of its blocks
abbrev pub constant_numbers_step : Stmt-F (List ℕ) → List ℕ
constant_numbers_step (Const n e) = n ∷ []
constant_numbers_step (If c a b) = concat a ++ concat b
constant_numbers_step (Foreach class body at) = concat body
constant_numbers_step (Assign who effect e at) = []

-- the numbers of the constants that a statement declares
abbrev pub constant_numbers : Stmt → List ℕ
constant_numbers = fold-Stmt (List ℕ) constant_numbers_step

-- the offsets of one statement, if it is a loop, and of its blocks
abbrev pub loop_offsets_step : Stmt-F (List ℕ) → List ℕ
loop_offsets_step (Const n e) = []
loop_offsets_step (If c a b) = concat a ++ concat b
loop_offsets_step (Foreach class body at) = at ∷ concat body
loop_offsets_step (Assign who effect e at) = []

-- the byte offsets of a statement's loops
abbrev pub loop_offsets : Stmt → List ℕ
loop_offsets = fold-Stmt (List ℕ) loop_offsets_step

-- the assignments of one statement and of its blocks
abbrev pub assignments_step : Stmt-F ℕ → ℕ
assignments_step (Const n e) = 0
assignments_step (If c a b) = sum a + sum b
assignments_step (Foreach class body at) = sum body
assignments_step (Assign who effect e at) = 1

-- how many assignments a statement has
abbrev pub assignments : Stmt → ℕ
assignments = fold-Stmt ℕ assignments_step

-- the sites of expressions, in finishing order
abbrev pub sites_among : List Expr → List ℕ
sites_among es = flat_map sites_of es

-- the sites of a class's rules, in finishing order
abbrev pub rule_sites : Class → List ℕ
rule_sites class = sites_among (flat_map (λ s. option_to_list s.rule) class.states)

-- the sites of the condition under which agents of a class die
abbrev pub die_sites : Class → List ℕ
die_sites class = sites_among (option_to_list class.die)

-- the sites of a `spawn`: those of its condition and of its gifts, then its own
abbrev pub sites_of_spawn : Spawn → List ℕ
sites_of_spawn spawn =
    sites_of spawn.when ++ (sites_among (map (λ g. g.value) spawn.gifts) ++ spawn.site ∷ [])

-- the sites of the `spawn` of a class
abbrev pub spawn_sites : Class → List ℕ
spawn_sites class = flat_map sites_of_spawn (option_to_list class.spawn)

-- the sites of a class's query, in finishing order
abbrev pub query_sites : Class → List ℕ
query_sites class = flat_map sites_in class.query

-- all sites of a class
abbrev pub class_sites : Class → List ℕ
class_sites class =
    rule_sites class ++ (die_sites class ++ (spawn_sites class ++ query_sites class))

-- all sites of a program
abbrev pub all_sites : Program → List ℕ
all_sites program = flat_map class_sites program.classes

-- how many assignments a class has: those of its query, and the gifts of its `spawn`
abbrev pub class_assignments : Class → ℕ
class_assignments class =
    sum (map assignments class.query) + sum_by (λ s. length s.gifts) (option_to_list class.spawn)
