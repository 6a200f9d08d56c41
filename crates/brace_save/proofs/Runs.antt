-- Lines of agents, read one behind the other.
use Rattle.std.proofs.Common.{◌≡◌, ◌∙◌, ℕ, ◌+◌, ◌^◌, ◌<◌, List, [], ◌∷◌, ◌++◌, length, map, cond, eqb, true, false, Option, Some, None, Err, refl, sym, ap, ap₂, arith}
use Rattle.std.specs.Prelude.{codes}
use Rattle.std.specs.List.{list_all}
use Rattle.std.specs.Result.{result_ok}
use Rattle.std.proofs.lemmas.Bool.Decides.{nat_tests}
use Rattle.std.proofs.lemmas.Option.{none-some, same_Some}
use Rattle.std.proofs.lemmas.Bool.{and_parts}
use Rattle.brace_num.specs.Spelling.{canonical_count}
use Rattle.brace_num.proofs.Lists.{same_parts}
use Rattle.brace_model.specs.declared.program.Program.{Program}
use Rattle.brace_model.specs.declared.world.Agent.{Agent}
use Rattle.brace_model.specs.Lawful.{LawfulProgram, is_lawful_agent}
use Rattle.brace_model.specs.Published.{agent_text}
use Rattle.brace_rows.specs.declared.kinds.RowKind.TheVariants.{WrongLength}
use Rattle.brace_rows.specs.AgentFile.{id_of, field, values_in, complete, states_in, agent_with, agent_in, agent_of, class_named}
use Rattle.brace_save.specs.Texts.{value_fits, count_line}
use Rattle.brace_save.specs.inner.Spelled.{IsAgentLine}
use Rattle.brace_save.proofs.AgentLines.{read, reads}
use Rattle.brace_save.proofs.ReadBack.{Free, free_both, count_free, split_end}

-- one field tells no agent
one_field : (program : Program) (text : List ℕ) → result_ok (agent_of program (text ∷ [])) ≡ None
one_field program text = by_class (class_named program text)
  where
    by_class : (o : Option ℕ) → result_ok (agent_in program (text ∷ []) o) ≡ None
    by_class None = refl
    by_class (Some class) =
        let states = states_in program class in
        let no : eqb 1 (length states + 2) ≡ false = grind (arith, nat_tests) in
        ap (λ b. result_ok (cond b (agent_with class (id_of (field 1 (text ∷ []))) (complete (values_in states (text ∷ [])))) (Err WrongLength))) no

-- an end line is that of no agent
pub no_end : (program : Program) (a : Agent) (n : ℕ) → n < 2 ^ 64 → LawfulProgram program → IsAgentLine program a (count_line (codes "end ") n) → ⊥
no_end program a n small lawful is =
    let text = count_line (codes "end ") n in
    let free : Free text = free_both (codes "end ") (canonical_count n) (refl, (refl, (refl, (refl, tt)))) (count_free n small) in
    let none : read program text ≡ None = ap (λ f. result_ok (agent_of program f)) (split_end text free) ∙ one_field program text in
    none-some a (sym none ∙ reads program a text lawful is)

-- agents that fit the program
pub record Fit (program : Program) (agents : List Agent) : Type 0 where
  pub lawful : list_all (is_lawful_agent program) agents ≡ true
  pub values_fit : list_all (λ a. list_all value_fits a.states) agents ≡ true

pub fit_first : (program : Program) (a : Agent) (agents : List Agent) → Fit program (a ∷ agents) → (IsAgentLine program a (agent_text program a)) × (Fit program agents)
fit_first program a agents fit =
    let (one, more) = and_parts (is_lawful_agent program a) (list_all (is_lawful_agent program) agents) fit.lawful in
    let (two, others) = and_parts (list_all value_fits a.states) (list_all (λ (b : Agent). list_all value_fits b.states) agents) fit.values_fit in
    (record { lawful = one; values_fit = two; same = refl }, record { lawful = more; values_fit = others })

-- an agent's line tells the agent
pub agent_same : (program : Program) (a b : Agent) (line : List ℕ) → LawfulProgram program → IsAgentLine program a line → IsAgentLine program b line → a ≡ b
agent_same program a b line lawful p q = same_Some a b (sym (reads program a line lawful p) ∙ reads program b line lawful q)

-- agents whose lines stand first among those of others, and an end line behind them, are the first of these
pub agents_first : (program : Program) (xs ys : List Agent) (l : List ℕ) (tail : List (List ℕ)) (n : ℕ) → LawfulProgram program → Fit program xs → Fit program ys → n < 2 ^ 64
    → map (agent_text program) xs ++ l ∷ tail ≡ map (agent_text program) ys ++ count_line (codes "end ") n ∷ []
    → (more : List Agent) × (ys ≡ xs ++ more) × (l ∷ tail ≡ map (agent_text program) more ++ count_line (codes "end ") n ∷ [])
agents_first program [] ys l tail n lawful p q small e = (ys, refl, e)
agents_first program (x ∷ xs) [] l tail n lawful p q small e =
    let (same, rest) = same_parts (agent_text program x) (count_line (codes "end ") n) (map (agent_text program) xs ++ l ∷ tail) [] e in
    let is = (fit_first program x xs p).0 in
    absurd (no_end program x n small lawful (record { lawful = is.lawful; values_fit = is.values_fit; same = sym same }))
agents_first program (x ∷ xs) (y ∷ ys) l tail n lawful p q small e =
    let (same, rest) = same_parts (agent_text program x) (agent_text program y) (map (agent_text program) xs ++ l ∷ tail) (map (agent_text program) ys ++ count_line (codes "end ") n ∷ []) e in
    let (is, fit) = fit_first program x xs p in
    let (other, fits) = fit_first program y ys q in
    let one : x ≡ y = agent_same program x y (agent_text program x) lawful is (record { lawful = other.lawful; values_fit = other.values_fit; same = same }) in
    let (more, are, behind) = agents_first program xs ys l tail n lawful fit fits small rest in
    (more, ap₂ (λ (a : Agent) (l : List Agent). a ∷ l) (sym one) are, behind)

-- lines of agents alone are never those of agents and an end line
pub no_end_missing : (program : Program) (xs ys : List Agent) (n : ℕ) → LawfulProgram program → Fit program xs → n < 2 ^ 64
    → map (agent_text program) xs ≡ map (agent_text program) ys ++ count_line (codes "end ") n ∷ [] → ⊥
no_end_missing program [] [] n lawful p small e = absurd (omega (arith, ap length e))
no_end_missing program [] (y ∷ ys) n lawful p small e = absurd (omega (arith, ap length e))
no_end_missing program (x ∷ xs) [] n lawful p small e =
    let (same, rest) = same_parts (agent_text program x) (count_line (codes "end ") n) (map (agent_text program) xs) [] e in
    let is = (fit_first program x xs p).0 in
    no_end program x n small lawful (record { lawful = is.lawful; values_fit = is.values_fit; same = sym same })
no_end_missing program (x ∷ xs) (y ∷ ys) n lawful p small e =
    let (same, rest) = same_parts (agent_text program x) (agent_text program y) (map (agent_text program) xs) (map (agent_text program) ys ++ count_line (codes "end ") n ∷ []) e in
    no_end_missing program xs ys n lawful (fit_first program x xs p).1 small rest
