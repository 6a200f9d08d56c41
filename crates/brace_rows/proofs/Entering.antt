-- One agent more among those that are read.
use Rattle.std.proofs.Common.{◌≡◌, ◌≤◌, ◌+◌, ◌∙◌, ℕ, Bool, true, false, ◌||◌, List, [], ◌∷◌, ◌++◌, length, sym, refl, ap, ap₂, subst, arith, cond}
use Rattle.std.specs.Prelude.{nat_eq, nat_lt, not}
use Rattle.std.specs.BTreeSet as tree
use Rattle.std.specs.BTreeSet.{BTreeSet}
use Rattle.std.specs.Cmp.{nat_eq_equiv}
use Rattle.std.specs.List.{list_any, IsDistinct}
use Rattle.std.specs.Ordering.{nat_cmp, eq_by_cmp}
use Rattle.std.proofs.lemmas.Bool.{ltb-false, or_parts}
use Rattle.std.proofs.lemmas.Bool.Decides.{nat_tests}
use Rattle.std.proofs.lemmas.List.{map-append, length_push}
use Rattle.std.proofs.lemmas.List.Folds.{list_any-append}
use Rattle.std.proofs.lemmas.List.Sums.{sum_by_push}
use Rattle.std.proofs.lemmas.Map.Keys.{IsDistinct-push}
use Rattle.brace_model.specs.declared.world.Agent.{Agent}
use Rattle.brace_model.specs.World.{ids}
use Rattle.brace_model.specs.Step.{most_agents, most_values, count_values}
use Rattle.brace_rows.specs.AgentFile.{are_too_many}

-- the set has the ids of the agents
abbrev pub Knows : BTreeSet ℕ → List Agent → Type 0
Knows set agents = (q : ℕ) → tree.contains nat_cmp set q ≡ list_any (nat_eq q) (ids agents)

pub knows_none : (set : BTreeSet ℕ) (agents : List Agent) → set.keys ≡ [] → agents ≡ [] → Knows set agents
knows_none set agents none same q = ap (list_any (eq_by_cmp nat_cmp q)) none ∙ sym (ap (λ l. list_any (nat_eq q) (ids l)) same)

at_key : (x q : ℕ) → eq_by_cmp nat_cmp x q ≡ nat_eq q x
at_key x q = grind (arith, nat_tests)

one_of : (b l : Bool) → cond b true l ≡ (l || (b || false))
one_of true true = refl
one_of true false = refl
one_of false true = refl
one_of false false = refl

ids_more : (agents : List Agent) (a : Agent) → ids (agents ++ a ∷ []) ≡ ids agents ++ a.id ∷ []
ids_more agents a = map-append (λ (b : Agent). b.id) agents (a ∷ [])

pub knows_more : (old new : BTreeSet ℕ) (agents : List Agent) (a : Agent) → Knows old agents → tree.Updates nat_cmp old new a.id true → Knows new (agents ++ a ∷ [])
knows_more old new agents a knows updates q =
    updates.0 q ∙ ap₂ (λ b l. cond b true l) (at_key a.id q) (knows q) ∙ one_of (nat_eq q a.id) (list_any (nat_eq q) (ids agents))
    ∙ sym (ap (list_any (nat_eq q)) (ids_more agents a) ∙ list_any-append (nat_eq q) (ids agents) (a.id ∷ []))

pub differ_more : (agents : List Agent) (a : Agent) → IsDistinct nat_eq (ids agents) → list_any (nat_eq a.id) (ids agents) ≡ false → IsDistinct nat_eq (ids (agents ++ a ∷ []))
differ_more agents a differ new = subst (IsDistinct nat_eq) (sym (ids_more agents a)) (IsDistinct-push nat_eq_equiv (ids agents) a.id differ new)

pub counted_more : (agents : List Agent) (a : Agent) → count_values (agents ++ a ∷ []) ≡ count_values agents + length a.states
counted_more agents a = sum_by_push (λ (b : Agent). length b.states) agents a

pub few_values : (agents : List Agent) → are_too_many agents ≡ false → count_values agents ≤ most_values
few_values agents few = ltb-false most_values (count_values agents) ((or_parts _ _ few).1)

pub few_agents : (agents : List Agent) → are_too_many agents ≡ false → length agents ≤ most_agents
few_agents agents few = ltb-false most_agents (length agents) ((or_parts _ _ few).0)

-- what is tested in the place of the limits
pub many_more : (agents : List Agent) (a : Agent) (values : ℕ) → values ≡ count_values agents
    → are_too_many (agents ++ a ∷ []) ≡ (nat_lt most_agents (length agents + 1) || nat_lt most_values (values + length a.states))
many_more agents a values counted =
    ap₂ (λ n m. nat_lt most_agents n || nat_lt most_values m) (length_push agents a) (counted_more agents a ∙ ap (λ m. m + length a.states) (sym counted))

pub negated : (b c : Bool) → b ≡ not c → c ≡ not b
negated true true e = absurd cc
negated true false e = refl
negated false true e = refl
negated false false e = absurd cc
