use Rattle.std.proofs.Common.{◌≡◌, ◌∙◌, false, ap, sym, subst}
use Rattle.std.specs.Prelude.{nat_le}
use Rattle.std.specs.List.{list_all}
use Rattle.std.specs.List.Sorted.{IsPermutation}
use Rattle.brace_num.proofs.Orders.{by_key_keeps}
use Rattle.brace_model.specs.declared.world.Agent.{Agent}
use Rattle.brace_model.specs.Step.{greatest_id}
use Rattle.brace_model.specs.World.{World}
use Rattle.brace_rows.specs.AgentFile.{agents_in, are_too_many, by_id, records_of}
use Rattle.brace_rows.proofs.LawfulAgent.{agents_are_lawful, ids_are_low, lawful_in_order}
use Rattle.brace_rows.proofs.file.read_agents.Goals as goal

pub in_order-requires-clause-in_range : goal.in_order-requires-clause-in_range
in_order-requires-clause-in_range c =
    let program = c.args.program.now in
    let rows = records_of c.args.bytes.now in
    ap (list_all (λ (a : Agent). nat_le a.id greatest_id)) c.in_ok-register.ensures.agents ∙ ids_are_low program (agents_in program rows) (agents_are_lawful program rows)

pub returns-clause-agents : goal.returns-clause-agents
returns-clause-agents c =
    let agents = agents_in c.args.program.now (records_of c.args.bytes.now) in
    let same : c.in_ok-in_order.field-0.agents ≡ by_id agents = ap (λ (w : World). w.agents) c.in_ok-in_order.ensures.world ∙ ap by_id c.in_ok-register.ensures.agents in
    subst (IsPermutation agents) (sym same) (by_key_keeps (λ (a : Agent). a.id) agents)

pub returns-clause-lawful : goal.returns-clause-lawful
returns-clause-lawful c =
    let program = c.args.program.now in
    let rows = records_of c.args.bytes.now in
    let agents = agents_in program rows in
    let same : c.in_ok-in_order.field-0.agents ≡ by_id agents = ap (λ (w : World). w.agents) c.in_ok-in_order.ensures.world ∙ ap by_id c.in_ok-register.ensures.agents in
    let few : are_too_many agents ≡ false = sym (ap are_too_many c.in_ok-register.ensures.agents) ∙ c.in_ok-register.ensures.register.few in
    lawful_in_order program rows c.in_ok-in_order.field-0.agents (subst (IsPermutation agents) (sym same) (by_key_keeps (λ (a : Agent). a.id) agents)) few
