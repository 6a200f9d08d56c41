use Rattle.std.proofs.Common.{◌∙◌}
use Rattle.std.proofs.lemmas.Option.{slice_get_within}
use Rattle.brace_fold.proofs.Survivings.{agent-is}
use Rattle.brace_fold.proofs.surviving.agent_in.Goals as goal

pub returns-clause-within : goal.returns-clause-within
returns-clause-within c =
    slice_get_within c.args.columns.now.ids.now c.args.row c.in-Some-item_at.id
    c.in-Some-item_at.ensures

pub returns-clause-agent : goal.returns-clause-agent
returns-clause-agent c = λ program has.
    agent-is program c.args.own.now c.args.columns.now c.args.row c.args.number c.in-Some.class
    c.in-Some-item_at.id _
    c.in-Some.ensures c.if-class-number.false c.in-Some-item_at.ensures has (c.from_vec.ensures
    ∙ c.in_ok-read_states.ensures)
