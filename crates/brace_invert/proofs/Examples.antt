-- Small scripts computed both ways, by the meaning itself.
use Rattle.std.proofs.Common.{◌≡◌, ◌∙◌, ap, refl, ℕ, ℤ, pos, List, [], ◌∷◌, ◌++◌, map, true, false, Some, None}
use Rattle.brace_num.specs.declared.kinds.Kind.TheVariants.{DivZero}
use Rattle.brace_model.specs.declared.program.Value.TheVariants.{Int, Flag}
use Rattle.brace_model.specs.declared.program.Comb.{Comb}
use Rattle.brace_model.specs.declared.program.Comb.TheVariants as comb
use Rattle.brace_model.specs.declared.program.BinOp.TheVariants as op
use Rattle.brace_model.specs.declared.program.Who.TheVariants as who
use Rattle.brace_model.specs.declared.program.Expr.TheVariants.{Lit, Field, Local, Binary}
use Rattle.brace_model.specs.declared.program.Stmt.TheVariants.{Const, If, Foreach, Assign}
use Rattle.brace_model.specs.declared.program.Stmt.{Stmt}
use Rattle.brace_model.specs.declared.program.Program.{Program}
use Rattle.brace_model.specs.declared.fault.Fault.{Fault}
use Rattle.brace_model.specs.declared.fault.Phase.TheVariants.{Query}
use Rattle.brace_model.specs.declared.world.Agent.{Agent}
use Rattle.brace_model.specs.Value.{Scope}
use Rattle.brace_model.specs.Query.{Saying, Deed, silent, statement, query_of, said_in, query_faults}
use Rattle.brace_model.specs.Total.{total_of, said_to}
use Rattle.brace_model.specs.FaultOrder.{least}
use Rattle.brace_model.proofs.ValueEquations.{value-Lit, value-Field, value-Local, value-Binary, statement-Const, statement-If, statement-Foreach, statement-Assign, constants-Const, constants-If, constants-Foreach, constants-Assign}
use Rattle.brace_model.proofs.LawEquations.{assignments-Const, assignments-Assign, constant_numbers-Const}
use Rattle.brace_invert.specs.Split.{forward_query, inverse_query, inverse_program}
use Rattle.brace_invert.specs.Range.{range_of}
use Rattle.brace_invert.specs.Inversion.{said_by_both, found_by_both}
use Rattle.brace_invert.specs.inner.Worked.{script, agent, neighbours, pairs, quotients, own_loop, choice, constants_in_loops}
use Rattle.brace_invert.proofs.PartEquations.{forward_of-Const, forward_of-If, forward_of-Foreach, forward_of-Assign, inverse_of-Const, inverse_of-If, inverse_of-Foreach, inverse_of-Assign}
use Rattle.brace_invert.proofs.RangeLemmas.{says_within-Const, says_within-If, says_within-Foreach, says_within-Assign}

abbrev saying : ℕ → ℤ → Saying
saying to n = record { target = to; field = 0; value = Int n }

-- the totals of agents that hear sayings
abbrev totals : Comb → List ℕ → List Saying → List ℤ
totals how to said = map (λ id. total_of how (said_to id 0 said)) to

-- agents 1 and 2 are exactly as far apart as they see
abbrev three_near : List Agent
three_near = agent 1 (pos 0) (pos 0) ∷ agent 2 (pos 2000000) (pos 0) ∷ agent 3 (pos 2000001) (pos 0) ∷ []

abbrev counted : List Saying
counted = saying 2 (pos 1) ∷ saying 1 (pos 1) ∷ saying 3 (pos 1) ∷ saying 2 (pos 1) ∷ []

neighbours_alone : said_in neighbours 0 0 three_near ≡ counted
neighbours_alone = simp (value-Lit, statement-Foreach, statement-Assign, constants-Foreach, constants-Assign)

neighbours_both : said_by_both neighbours 0 0 three_near ≡ counted
neighbours_both = simp (forward_of-Foreach, forward_of-Assign, inverse_of-Foreach, inverse_of-Assign, value-Lit, statement-Foreach, statement-Assign, constants-Foreach, constants-Assign)

neighbours_totals : totals comb.Count (1 ∷ 2 ∷ 3 ∷ []) (said_by_both neighbours 0 0 three_near) ≡ pos 1 ∷ pos 2 ∷ pos 1 ∷ []
neighbours_totals = ap (totals comb.Count (1 ∷ 2 ∷ 3 ∷ [])) neighbours_both

-- agents 1 and 3 are exactly twice as far apart as they see
abbrev three_far : List Agent
three_far = agent 1 (pos 0) (pos 0) ∷ agent 2 (pos 3000000) (pos 0) ∷ agent 3 (pos 6000000) (pos 0) ∷ []

abbrev paired : List Saying
paired = saying 2 (pos 1) ∷ saying 1 (pos 1) ∷ saying 1 (pos 1) ∷ saying 3 (pos 1) ∷ saying 3 (pos 1) ∷ saying 2 (pos 1) ∷ []

pairs_alone : said_in pairs 0 0 three_far ≡ paired
pairs_alone = simp (value-Lit, statement-Foreach, statement-Assign, constants-Foreach, constants-Assign)

pairs_both : said_by_both pairs 0 0 three_far ≡ paired
pairs_both = simp (forward_of-Foreach, forward_of-Assign, inverse_of-Foreach, inverse_of-Assign, assignments-Assign, value-Lit, statement-Foreach, statement-Assign, constants-Foreach, constants-Assign)

pairs_totals : totals comb.Count (1 ∷ 2 ∷ 3 ∷ []) (said_by_both pairs 0 0 three_far) ≡ pos 2 ∷ pos 2 ∷ pos 2 ∷ []
pairs_totals = ap (totals comb.Count (1 ∷ 2 ∷ 3 ∷ [])) pairs_both

-- the forward program of agent 1 meets site 2 alone, its inverse program site 1
abbrev two : List Agent
two = agent 1 (pos 0) (pos 0) ∷ agent 2 (pos 1000000) (pos 1) ∷ []

abbrev divided : ℕ → Fault
divided site = record { tick = 0; phase = Query; agent = 1; site = site; outer = Some 2; inner = None; kind = DivZero }

quotients_alone : query_faults quotients 0 0 two ≡ divided 1 ∷ []
quotients_alone = simp (value-Lit, value-Field, value-Binary, statement-Foreach, statement-Assign, constants-Foreach, constants-Assign)

quotients_both : found_by_both quotients 0 0 two ≡ divided 2 ∷ divided 1 ∷ []
quotients_both = simp (forward_of-Foreach, forward_of-Assign, inverse_of-Foreach, inverse_of-Assign, value-Lit, value-Field, value-Binary, statement-Foreach, statement-Assign, constants-Foreach, constants-Assign)

quotients_least : least (found_by_both quotients 0 0 two) ≡ Some (divided 1)
quotients_least = ap least quotients_both

-- an inner loop goes away but for its constant, which no one reads, and a condition stays
abbrev choice_with : List Stmt → List Stmt → Stmt
choice_with = If (Binary op.Lt None (Local 1) (Lit (Int (pos 8))))

abbrev inverse_part : List Stmt
inverse_part = Foreach 0 (If (Lit (Flag false)) (Const 0 (Lit (Flag false)) ∷ []) [] ∷ Const 1 (Field who.Outer 2) ∷ choice_with (Assign who.Outer 0 (Local 1) 4 ∷ []) [] ∷ []) 1 ∷ []

inverse_constants : inverse_query (Foreach 0 (own_loop ∷ Const 1 (Field who.Outer 2) ∷ choice ∷ []) 1 ∷ []) ≡ inverse_part
inverse_constants = simp (inverse_of-Const, inverse_of-If, inverse_of-Foreach, inverse_of-Assign, assignments-Const, constant_numbers-Const)

abbrev forward_part : List Stmt
forward_part = Foreach 0 (own_loop ∷ Const 1 (Field who.Outer 2) ∷ choice_with [] (Assign who.This 0 (Local 1) 5 ∷ []) ∷ []) 1 ∷ []

forward_constants : forward_query (Foreach 0 (own_loop ∷ Const 1 (Field who.Outer 2) ∷ choice ∷ []) 1 ∷ []) ≡ forward_part
forward_constants = simp (forward_of-Const, forward_of-If, forward_of-Foreach, forward_of-Assign)

abbrev seven : Agent
seven = agent 1 (pos 0) (pos 7)

abbrev eight : Agent
eight = agent 2 (pos 1000000) (pos 8)

abbrev seven_and_eight : List Agent
seven_and_eight = seven ∷ eight ∷ []

-- what the two say by a query, one after the other
two_say : (query : List Stmt) (one other : List Saying)
    → (query_of (script (pos 3000000) comb.Sum query) 0 0 seven_and_eight seven).said ≡ one → (query_of (script (pos 3000000) comb.Sum query) 0 0 seven_and_eight eight).said ≡ other
    → said_in (script (pos 3000000) comb.Sum query) 0 0 seven_and_eight ≡ one ++ (other ++ [])
two_say query one other is_one is_other =
    ap (λ t. t ++ ((query_of (script (pos 3000000) comb.Sum query) 0 0 seven_and_eight eight).said ++ [])) is_one ∙ ap (λ t. one ++ (t ++ [])) is_other

-- the scope in the outer loop, behind the inner one
abbrev behind : Agent → Agent → ℤ → Scope
behind this other n = record { tick = 0; seed = 0; this = this; outer = Some other; inner = None; locals = Flag false ∷ Int n ∷ []; totals = [] }

abbrev one_said : Scope → Saying → Deed
one_said scope said = record { said = said ∷ []; faults = []; stopped = false; scope = scope }

ruleset choice_rules = (statement-If, statement-Assign, value-Lit, value-Local, value-Binary)

else_said : (m : Program) (w : List Agent) (a : List Stmt) → statement m w (choice_with a (Assign who.This 0 (Local 1) 5 ∷ [])) (behind seven eight (pos 8)) ≡ one_said (behind seven eight (pos 8)) (saying 1 (pos 8))
else_said m w a = simp choice_rules

then_said : (m : Program) (w : List Agent) (b : List Stmt) → statement m w (choice_with (Assign who.Outer 0 (Local 1) 4 ∷ []) b) (behind eight seven (pos 7)) ≡ one_said (behind eight seven (pos 7)) (saying 1 (pos 7))
then_said m w b = simp choice_rules

none_said : (m : Program) (w : List Agent) (b : List Stmt) → statement m w (choice_with [] b) (behind eight seven (pos 7)) ≡ silent (behind eight seven (pos 7))
none_said m w b = simp choice_rules

ruleset loop_rules = (value-Field, value-Local, statement-Const, statement-Foreach, statement-Assign, constants-Const, constants-If, constants-Foreach, constants-Assign)

constants_alone : said_in constants_in_loops 0 0 seven_and_eight ≡ saying 1 (pos 8) ∷ saying 1 (pos 8) ∷ saying 2 (pos 7) ∷ saying 1 (pos 7) ∷ []
constants_alone = two_say (Foreach 0 (own_loop ∷ Const 1 (Field who.Outer 2) ∷ choice ∷ []) 1 ∷ []) (saying 1 (pos 8) ∷ saying 1 (pos 8) ∷ []) (saying 2 (pos 7) ∷ saying 1 (pos 7) ∷ [])
    (simp (else_said, loop_rules)) (simp (then_said, loop_rules))

forward_says : said_in (script (pos 3000000) comb.Sum forward_part) 0 0 seven_and_eight ≡ saying 1 (pos 8) ∷ saying 1 (pos 8) ∷ saying 2 (pos 7) ∷ []
forward_says = two_say forward_part (saying 1 (pos 8) ∷ saying 1 (pos 8) ∷ []) (saying 2 (pos 7) ∷ [])
    (simp (else_said, loop_rules)) (simp (none_said, loop_rules))

inverse_says : said_in (script (pos 3000000) comb.Sum inverse_part) 0 0 seven_and_eight ≡ saying 1 (pos 7) ∷ []
inverse_says = two_say inverse_part [] (saying 1 (pos 7) ∷ []) (simp (loop_rules, choice_rules)) (simp (loop_rules, choice_rules))

constants_both : said_by_both constants_in_loops 0 0 seven_and_eight ≡ saying 1 (pos 8) ∷ saying 1 (pos 8) ∷ saying 2 (pos 7) ∷ saying 1 (pos 7) ∷ []
constants_both =
    ap (λ q. said_in (script (pos 3000000) comb.Sum q) 0 0 seven_and_eight ++ said_in (inverse_program constants_in_loops) 0 0 seven_and_eight) forward_constants
    ∙ ap (λ q. said_in (script (pos 3000000) comb.Sum forward_part) 0 0 seven_and_eight ++ said_in (script (pos 3000000) comb.Sum q) 0 0 seven_and_eight) inverse_constants
    ∙ ap (λ t. t ++ said_in (script (pos 3000000) comb.Sum inverse_part) 0 0 seven_and_eight) forward_says ∙ ap (λ t. (saying 1 (pos 8) ∷ saying 1 (pos 8) ∷ saying 2 (pos 7) ∷ []) ++ t) inverse_says

-- ranges
neighbours_range : range_of neighbours true ≡ pos 2000000
neighbours_range = simp (says_within-Foreach, says_within-Assign)

pairs_range : range_of pairs true ≡ pos 6000000
pairs_range = simp (says_within-Foreach, says_within-Assign)

pairs_without : range_of pairs false ≡ pos 3000000
pairs_without = refl

constants_range : range_of constants_in_loops true ≡ pos 3000000
constants_range = simp (says_within-Const, says_within-If, says_within-Foreach, says_within-Assign)
