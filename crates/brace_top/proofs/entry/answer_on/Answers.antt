use Rattle.std.proofs.Common.{◌≡◌, Ok, rules}
use Rattle.brace_command.specs.declared.preparing.Work.TheVariants as work
use Rattle.brace_command.proofs.AnswerLemmas.{plain_serves, saving_serves}
use Rattle.brace_top.proofs.entry.answer_on.Goals as goal

pub returns-in-Plain-clause-served : goal.returns-in-Plain-clause-served
returns-in-Plain-clause-served g c =
    let is : c.begin.result ≡ Ok (work.Plain c.in-Plain.task) = search rules in
    plain_serves g.S.Shelf g.O.Sink _ _ _ _ _ _ _ _ _ _ is c.begin.ensures.prepared c.crew_on.ensures.run

pub returns-in-Saving-clause-served : goal.returns-in-Saving-clause-served
returns-in-Saving-clause-served g c =
    let is : c.begin.result ≡ Ok (work.Saving c.in-Saving.task) = search rules in
    saving_serves g.S.Shelf g.O.Sink _ _ _ _ _ _ _ _ _ _ _ is c.begin.ensures.prepared c.crew_on-in-Saving.ensures.run (search rules)
