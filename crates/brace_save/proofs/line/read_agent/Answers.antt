use Rattle.std.proofs.Common.{◌≡◌, ◌∙◌, ap, subst, map, Bor, List, ℕ}
use Rattle.std.specs.Prelude.{IfOk}
use Rattle.std.specs.Result.{result_ok}
use Rattle.brace_rows.specs.AgentFile.{agent_of}
use Rattle.brace_save.proofs.line.read_agent.Goals as goal

pub returns-clause-agent : goal.returns-clause-agent
returns-clause-agent c =
    subst (λ fields. IfOk c.read_fields.result (λ agent. agent ≡ result_ok (agent_of c.args.program.now fields)))
    (ap (map (λ (f : Bor (List ℕ)). f.now)) c.as_slice.ensures.value ∙ c.in_ok-fields.ensures) c.read_fields.ensures.agent
