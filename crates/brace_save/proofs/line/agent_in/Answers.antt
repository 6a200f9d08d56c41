use Rattle.std.proofs.Common.{◌≡◌, ◌∙◌, true, sym, subst}
use Rattle.std.specs.Prelude.{IfSome}
use Rattle.std.specs.List.{list_all}
use Rattle.brace_model.specs.declared.world.Agent.{Agent}
use Rattle.brace_save.specs.Texts.{value_fits}
use Rattle.brace_save.specs.inner.Spelled.{IsAgentLine}
use Rattle.brace_save.proofs.AgentLines.{none_read, some_read, other_read}
use Rattle.brace_save.proofs.line.agent_in.Goals as goal

pub returns-in_default-clause-none : goal.returns-in_default-clause-none
returns-in_default-clause-none c = λ lawful e a is.
    none_read c.args.program.now c.args.line.now c.in_ok-agent.field-0 c.in_ok-agent.ensures.agent (sym c.in_default.is) lawful a is

pub returns-then-branch-clause-some : goal.returns-then-branch-clause-some
returns-then-branch-clause-some c = λ a e.
    let program = c.args.program.now in
    let line = c.args.line.now in
    let same : c.in-Some.agent ≡ a = cc in
    let fit : list_all value_fits c.in-Some.agent.states ≡ true =
    subst (λ o. IfSome o (λ (b : Agent). list_all value_fits b.states ≡ true)) c.in-Some.is c.in_ok-agent.ensures.fit in
    subst (λ b. IsAgentLine program b line) same
    (some_read program line c.in_ok-agent.field-0 c.in-Some.agent c.in_ok-agent.ensures.agent (sym c.in-Some.is) fit (sym c.in_ok-is_agent_line.ensures ∙ c.if-branch.true))

pub returns-else-branch-clause-none : goal.returns-else-branch-clause-none
returns-else-branch-clause-none c = λ lawful e a is.
    other_read c.args.program.now c.args.line.now c.in_ok-agent.field-0 c.in-Some.agent c.in_ok-agent.ensures.agent (sym c.in-Some.is) (sym c.in_ok-is_agent_line.ensures ∙ c.if-branch.false) lawful a is
