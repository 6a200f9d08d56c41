-- What expressions and statements of a script mean: the same with numbers for names, and each site
-- numbered by how many sites come before it in finishing order.
use Rattle.std.specs.Prelude.{ℕ, nat_eq, ◌+◌, Bool, true, false, List, [], ◌∷◌, ◌++◌, length, Option, Some, None, option_map, unwrap_or, if◌then◌else◌}
use Rattle.brace_model.specs.declared.program.Value.{Value}
use Rattle.brace_model.specs.declared.program.Value.TheVariants as val
use Rattle.brace_model.specs.declared.program.Who.{Who}
use Rattle.brace_model.specs.declared.program.Who.TheVariants.{This, Outer, Inner}
use Rattle.brace_model.specs.declared.program.Expr.{Expr}
use Rattle.brace_model.specs.declared.program.Expr.TheVariants as expr
use Rattle.brace_model.specs.declared.program.Stmt.{Stmt}
use Rattle.brace_model.specs.declared.program.Stmt.TheVariants as stmt
use Rattle.brace_model.specs.Typing.{only, unary_faults, binary_faults}
use Rattle.brace_syntax.specs.declared.tree.Ident.{Ident}
use Rattle.brace_syntax.specs.declared.tree.Digits.{Digits}
use Rattle.brace_syntax.specs.declared.tree.Digits.TheVariants as d
use Rattle.brace_syntax.specs.declared.tree.ExprTree.{ExprTree}
use Rattle.brace_syntax.specs.declared.tree.ExprTree.TheOpen.{ExprTree-F, Lit, True, False, Name, OfThis, OfLoop, Unary, Binary, Choice, Rand}
use Rattle.brace_syntax.specs.declared.tree.ExprTree.TheFolds.{fold-ExprTree}
use Rattle.brace_syntax.specs.declared.tree.StmtTree.{StmtTree}
use Rattle.brace_syntax.specs.declared.tree.StmtTree.TheOpen.{StmtTree-F, Const, If, Foreach, Assign, AssignThis, AssignLoop}
use Rattle.brace_syntax.specs.declared.tree.StmtTree.TheFolds.{fold-StmtTree}
use Rattle.brace_names.specs.declared.declared.Field.{Field}
use Rattle.brace_names.specs.declared.declared.Field.TheVariants as field
use Rattle.brace_names.specs.declared.scope.Named.{Named}
use Rattle.brace_names.specs.declared.scope.Named.TheVariants as named
use Rattle.brace_names.specs.declared.scope.LoopField.{LoopField}
use Rattle.brace_names.specs.Kinds.{type_named, unary_named, binary_named}
use Rattle.brace_names.specs.Tables.{look}
use Rattle.brace_names.specs.Scopes.{Scope, class_number, read, read_own, of_loop, inside, past}
use Rattle.brace_names.specs.Walk.{Part, behind, constants_in, constants_otherwise}
use Rattle.brace_names.specs.Walk as walk
use Rattle.brace_names.specs.Findings.{is_summed}

-- what something means behind sites of the script at these places, in finishing order, and the
-- places with its own behind them
abbrev pub Meaning : Type 0 → Type 0
Meaning A = List ℕ → A × List ℕ

-- something without sites
abbrev pub plain : {A : Type 0} → A → Meaning A
plain x = λ sites. (x, sites)

-- a site at a place, whose number is its position
abbrev pub site : ℕ → Meaning ℕ
site at = λ sites. (length sites, sites ++ at ∷ [])

-- the same, where a test holds
abbrev pub site_if : Bool → ℕ → Meaning (Option ℕ)
site_if test at = λ sites.
    (only test (length sites), if test then sites ++ at ∷ [] else sites)

-- something made of another
abbrev pub made : {A B : Type 0} → (A → B) → Meaning A → Meaning B
made make x = λ sites. (make (x sites).0, (x sites).1)

-- one thing behind another
abbrev pub followed : {A B C : Type 0} → (A → B → C) → Meaning A → Meaning B → Meaning C
followed both first second = λ sites.
    (both (first sites).0 (second (first sites).1).0, (second (first sites).1).1)

-- the value of a literal
abbrev pub literal : Digits → Value
literal (d.Int n) = val.Int n
literal (d.Fixed n) = val.Fixed n

-- the number of a field among the states or the effects of its class; of nothing 0
abbrev pub number_of : Option Field → ℕ
number_of None = 0
number_of (Some (field.State n t shared)) = n
number_of (Some (field.Effect n t shared c)) = n

-- what a name at a place stands for: a constant, or a state or the total of an effect of `this`
abbrev pub named_as : Scope → ℕ → Option Named → Meaning Expr
named_as scope at (Some (named.Constant n t)) = plain (expr.Local n)
named_as scope at (Some (named.Field (field.Effect n t shared c))) =
    made (expr.Total n t) (site_if (is_summed scope (field.Effect n t shared c)) at)
named_as scope at (Some (named.Field (field.State n t shared))) = plain (expr.Field This n)
named_as scope at None = plain (expr.Field This 0)

-- the agent of the loop that stands in so many loops
abbrev pub loop_agent : ℕ → Who
loop_agent n = if nat_eq n 0 then Outer else Inner

-- the agent of the loop of a field
abbrev pub agent_of : Option LoopField → Who
agent_of None = Outer
agent_of (Some x) = loop_agent x.loops

-- the number of a field of the agent of a loop
abbrev pub loop_number : Option LoopField → ℕ
loop_number x = number_of (option_map (λ x. x.field) x)

-- an operation on one operand at a place
abbrev pub unary : Bool → ℕ → (Option ℕ → Expr → Expr) → Meaning Expr → Meaning Expr
unary is_site at op x = followed (λ a n. op n a) x (site_if is_site at)

-- an operation on two operands at a place, the left one first
abbrev pub binary : Bool → ℕ → (Option ℕ → Expr → Expr → Expr) → Meaning Expr → Meaning Expr
    → Meaning Expr
binary is_site at op x y =
    followed (λ (operands : Expr × Expr) n. op n operands.0 operands.1)
    (followed (λ a b. (a, b)) x y)
    (site_if is_site at)

-- a choice: the condition first, then the two branches
abbrev pub choice : Meaning Expr → Meaning Expr → Meaning Expr → Meaning Expr
choice c x y =
    followed (λ a (branches : Expr × Expr). expr.Choice a branches.0 branches.1) c
    (followed (λ a b. (a, b)) x y)

-- an expression of each kind, by the scope
abbrev pub expression_step : ExprTree-F (Scope → Meaning Expr) → Scope → Meaning Expr
expression_step (Lit number) scope = plain (expr.Lit (literal number.digits))
expression_step (True at) scope = plain (expr.Lit (val.Flag true))
expression_step (False at) scope = plain (expr.Lit (val.Flag false))
expression_step (Name name) scope = named_as scope name.at (read scope name.text)
expression_step (OfThis name at) scope = named_as scope at (read_own scope name.text)
expression_step (OfLoop variable name) scope =
    plain
    (expr.Field (agent_of (of_loop scope variable.text name.text))
    (loop_number (of_loop scope variable.text name.text)))
expression_step (Unary op x at) scope =
    unary (unary_faults (unary_named op)) at (expr.Unary (unary_named op)) (x scope)
expression_step (Binary op x y at) scope =
    binary (binary_faults (binary_named op)) at (expr.Binary (binary_named op)) (x scope) (y scope)
expression_step (Choice c x y at) scope = choice (c scope) (x scope) (y scope)
expression_step (Rand at) scope = made expr.Rand (site at)

-- what an expression means
abbrev pub expression : ExprTree → Scope → Meaning Expr
expression = fold-ExprTree (Scope → Meaning Expr) expression_step

-- what a block means: each statement in the scope behind those before it
abbrev pub block : List (Part (Meaning Stmt)) → Scope → Meaning (List Stmt)
block [] scope = plain []
block (part ∷ parts) scope =
    followed (λ s rest. s ∷ rest) (part.here scope) (block parts (behind part scope))

-- what the block of an `else` means
abbrev pub otherwise : Option (List (Part (Meaning Stmt))) → Scope → Meaning (List Stmt)
otherwise None scope = plain []
otherwise (Some parts) scope = block parts scope

-- a value said to an effect of an agent, in a statement at a place
abbrev pub assigned : Who → ℕ → ℕ → Meaning Expr → Meaning Stmt
assigned who effect at x = made (λ e. stmt.Assign who effect e at) x

-- the number of the class of a name; of none 0
abbrev pub number_in : Scope → Ident → ℕ
number_in scope class = unwrap_or (class_number scope class.text) 0

-- a value said to a field of `this`, in an assignment at a place
abbrev pub said : ℕ → Ident → ExprTree → Scope → Meaning Stmt
said at name x scope =
    assigned This (number_of (look scope.home.own name.text)) at (expression x scope)

-- a value said to a field of the agent of a loop, in an assignment at a place
abbrev pub said_to_loop : ℕ → Option LoopField → ExprTree → Scope → Meaning Stmt
said_to_loop at x value scope =
    assigned (agent_of x) (loop_number x) at (expression value scope)

-- a statement of each kind
abbrev pub part_step : StmtTree-F (Part (Meaning Stmt)) → Part (Meaning Stmt)
part_step (Const type name x at) = record {
  declared = Some (name, type_named type);
  constants = 1;
  here = λ scope. made (stmt.Const scope.constants) (expression x scope);
}
part_step (If condition parts other at) =
    walk.plain (constants_in parts + constants_otherwise other)
    (λ scope. followed
    (λ (c : Expr) (blocks : List Stmt × List Stmt). stmt.If c blocks.0 blocks.1)
    (expression condition scope)
    (followed (λ a b. (a, b)) (block parts scope)
    (otherwise other (past (constants_in parts) scope))))
part_step (Foreach class variable other parts at) =
    walk.plain (constants_in parts)
    (λ scope. made (λ body. stmt.Foreach (number_in scope class) body at)
    (block parts (inside class variable scope)))
part_step (Assign name x) = walk.plain 0 (said name.at name x)
part_step (AssignThis name x at) = walk.plain 0 (said at name x)
part_step (AssignLoop variable name x) =
    walk.plain 0
    (λ scope. said_to_loop variable.at (of_loop scope variable.text name.text) x scope)

-- what a statement means
abbrev pub part : StmtTree → Part (Meaning Stmt)
part = fold-StmtTree (Part (Meaning Stmt)) part_step
