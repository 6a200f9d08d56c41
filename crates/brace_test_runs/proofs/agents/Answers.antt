use Rattle.std.proofs.Common.{◌∙◌, IsTrue, List, subst, sym}
use Rattle.std.specs.List.{list_all}
use Rattle.brace_model.specs.declared.world.Agent.{Agent}
use Rattle.brace_model.specs.Lawful.{is_lawful_agent}
use Rattle.brace_model.specs.World.{RisesById}
use Rattle.brace_test_runs.proofs.agents.Goals as goal

pub returns-clause-lawful : goal.returns-clause-lawful
returns-clause-lawful c =
    subst (λ (l : List Agent). IsTrue (list_all (is_lawful_agent c.args.program.now) l))
    (sym (c.in-Ok-agents.ensures ∙ c.agents.ensures.same)) c.in-Ok.ensures.lawful.each_is_lawful

pub returns-clause-rises : goal.returns-clause-rises
returns-clause-rises c =
    subst RisesById (sym (c.in-Ok-agents.ensures ∙ c.agents.ensures.same)) c.agents.ensures.numbered.rises
