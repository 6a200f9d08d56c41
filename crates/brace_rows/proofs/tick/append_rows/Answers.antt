use Rattle.std.proofs.Common.{◌<◌, ◌∙◌, ◌++◌, ℕ, List, length, ap, rules}
use Rattle.brace_model.specs.declared.world.Agent.{Agent}
use Rattle.brace_model.specs.Published.{row}
use Rattle.brace_rows.proofs.Texts.{texts_more}
use Rattle.brace_rows.proofs.tick.append_rows.Goals as goal

pub loop-place-preserved : goal.loop-place-preserved
loop-place-preserved c =
    let agents : List Agent = c.args.agents.now in
    let text : Agent → List ℕ = row c.args.program.now c.args.tick in
    let low : c.loop-place.place < length agents = search rules in
    c.in_ok-append_row.ensures.printed
    ∙ ap (λ (l : List ℕ). l ++ text c.in_ok-agent.agent) c.loop-place.invariant
    ∙ texts_more text c.args.out.now.items agents c.loop-place.place c.in_ok-agent.agent low
    c.in_ok-agent.ensures
