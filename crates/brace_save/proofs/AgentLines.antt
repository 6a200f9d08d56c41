-- A line that is read is that of an agent exactly where the agent's text is the line.
use Rattle.std.proofs.Common.{◌≡◌, ◌∙◌, ℕ, List, true, false, Option, Some, None, Result, Ok, Err, sym, ap}
use Rattle.std.specs.Prelude.{◌==◌}
use Rattle.std.specs.List.{list_all, slice_split}
use Rattle.std.specs.Result.{result_ok}
use Rattle.std.specs.Str.{bytes_eq}
use Rattle.std.proofs.lemmas.Bool.{true≢false}
use Rattle.std.proofs.lemmas.Slice.Eq.{bytes_eq-Decides}
use Rattle.std.proofs.lemmas.Option.{none-some, same_Some}
use Rattle.brace_model.specs.declared.program.Program.{Program}
use Rattle.brace_model.specs.declared.world.Agent.{Agent}
use Rattle.brace_model.specs.Lawful.{LawfulProgram}
use Rattle.brace_model.specs.Published.{agent_text}
use Rattle.brace_rows.specs.AgentFile.{agent_of}
use Rattle.brace_rows.proofs.LawfulAgent.{agent_is_lawful}
use Rattle.brace_save.specs.Texts.{value_fits}
use Rattle.brace_save.specs.inner.Spelled.{IsAgentLine}
use Rattle.brace_save.proofs.ReadBack.{agent_back}

-- the agent that a line spells
abbrev pub read : Program → List ℕ → Option Agent
read program line = result_ok (agent_of program (slice_split (λ b. b == 44) line))

ok_of : {A E : Type 0} (r : Result A E) (x : A) → result_ok r ≡ Some x → r ≡ Ok x
ok_of (Ok y) x e = cc
ok_of (Err y) x e = absurd cc

pub reads : (program : Program) (a : Agent) (line : List ℕ) → LawfulProgram program → IsAgentLine program a line → read program line ≡ Some a
reads program a line lawful is = ap (read program) is.same ∙ ap result_ok (agent_back program a lawful is.lawful is.values_fit)

pub none_read : (program : Program) (line : List ℕ) (o : Option Agent) → o ≡ read program line → None ≡ o → LawfulProgram program → (a : Agent) → IsAgentLine program a line → ⊥
none_read program line o e none lawful a is = none-some a (none ∙ e ∙ reads program a line lawful is)

pub some_read : (program : Program) (line : List ℕ) (o : Option Agent) (a : Agent) → o ≡ read program line → Some a ≡ o → list_all value_fits a.states ≡ true → bytes_eq (agent_text program a) line ≡ true → IsAgentLine program a line
some_read program line o a e some fit same = record {
  lawful = agent_is_lawful program (slice_split (λ b. b == 44) line) a (ok_of (agent_of program (slice_split (λ b. b == 44) line)) a (sym (some ∙ e)));
  values_fit = fit;
  same = sym ((bytes_eq-Decides (agent_text program a) line).0 same);
}

pub other_read : (program : Program) (line : List ℕ) (o : Option Agent) (b : Agent) → o ≡ read program line → Some b ≡ o → bytes_eq (agent_text program b) line ≡ false → LawfulProgram program → (a : Agent) → IsAgentLine program a line → ⊥
other_read program line o b e some differs lawful a is =
    let one : b ≡ a = same_Some b a (some ∙ e ∙ reads program a line lawful is) in
    let same : agent_text program b ≡ line = ap (agent_text program) one ∙ sym is.same in
    true≢false (sym ((bytes_eq-Decides (agent_text program b) line).1 same) ∙ differs)
