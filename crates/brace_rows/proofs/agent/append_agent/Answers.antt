use Rattle.std.proofs.lemmas.Result.{on_ok_weaker}
use Rattle.brace_rows.proofs.Texts.{agent_appended}
use Rattle.brace_rows.proofs.agent.append_agent.Goals as goal

pub returns-clause-printed : goal.returns-clause-printed
returns-clause-printed c =
    on_ok_weaker c.append_values.result
    (λ e. agent_appended c.args.program.now c.args.agent.now _ _ _ _ _ _ _ c.name_of_class.ensures c.as_slice.ensures c.in_ok-extend_from_slice.ensures.items c.in_ok-extend_from_slice-2.ensures.items c.in_ok-print_count.ensures.printed e)
    c.append_values.ensures.printed
