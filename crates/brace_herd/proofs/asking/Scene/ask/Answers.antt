use Rattle.std.proofs.Common.{◌∙◌, ◌++◌, ap, map, subst, sym}
use Rattle.std.proofs.lemmas.Option.{get_or_from_slice_get}
use Rattle.brace_model.specs.Query.{Deed, query_of}
use Rattle.brace_plan.specs.Answers.{IsAnswer, saying_of, ArePlaced}
use Rattle.brace_eval.specs.Heard.{IsHeard}
use Rattle.brace_herd.proofs.AskLemmas.{held_at}
use Rattle.brace_herd.proofs.asking.Scene.ask.Goals as goal

pub returns-clause-hears : goal.returns-clause-hears
returns-clause-hears c a there said faults is =
    let scene = c.args.self.now in
    let program = scene.program.now in
    let held = scene.held.now in
    let seed = c.args.hearing.now.room in
    let asked : Deed = query_of c.args.plans.now seed scene.tick held a in
    let answer = subst (λ b. IsAnswer c.args.plans.now seed scene.tick held b c.ask.new.answer) (get_or_from_slice_get held c.args.place a a there) (c.in_ok-ask.ensures.answer a) in
    c.found.ensures program held (said ++ asked.said) faults asked.faults answer.fault
    (subst (λ xs. IsHeard program held (said ++ xs) faults c.join.new.heard) (ap (map (saying_of held)) c.deref.ensures.value ∙ answer.said)
    (c.in_ok-join.ensures.said said faults is))

pub join-requires-clause-placed : goal.join-requires-clause-placed
join-requires-clause-placed c =
    let held = c.args.self.now.held.now in
    let (a, there, same) = held_at held c.args.place c.requires.place in
    subst (ArePlaced held) (sym c.deref.ensures.value) (c.in_ok-ask.ensures.answer a).placed
