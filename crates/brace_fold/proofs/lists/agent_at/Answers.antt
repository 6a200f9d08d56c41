use Rattle.std.proofs.Common.{◌≡◌, ◌∙◌, refl, sym, ap, List, Some, slice_get}
use Rattle.std.proofs.lemmas.Option.{slice_get_read}
use Rattle.brace_model.specs.declared.program.Class.{Class}
use Rattle.brace_fold.proofs.Ownings.{agent-there}
use Rattle.brace_fold.proofs.lists.agent_at.Goals as goal
use Rattle.brace_fold.proofs.lists.agent_at.Goals.{In_ok-agent}

-- the class of the row
stands : (c : In_ok-agent) → slice_get c.args.program.now.classes c.in-Some.number ≡ Some c.in-Some-get.class.now
stands c =
    let number = c.in-Some.number in
    let class = c.in-Some-get.class.now in
    let read : slice_get c.as_slice.result.now number ≡ Some class =
    slice_get_read c.as_slice.result.now _ number class refl c.in-Some-get.ensures.lookup.3.0
    c.in-Some-get.ensures.lookup.1 in
    ap (λ (l : List Class). slice_get l number) (sym c.as_slice.ensures) ∙ read

pub returns-clause-is : goal.returns-clause-is
returns-clause-is c =
    c.in_ok-agent.ensures.agent c.args.program.now
    (stands (goal.at.returns-clause-is c).In_ok-agent)

pub returns-clause-there : goal.returns-clause-there
returns-clause-there c =
    let program = c.args.program.now in
    agent-there program c.args.columns.now c.args.row c.in_ok-agent.agent
    c.in_ok-agent.ensures.within (c.in_ok-agent.ensures.agent program
    (stands (goal.at.returns-clause-there c).In_ok-agent))
