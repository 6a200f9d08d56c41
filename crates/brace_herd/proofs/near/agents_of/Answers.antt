use Rattle.std.proofs.Common.{◌≡◌, ◌∙◌, ap, filter, pos}
use Rattle.brace_num.specs.declared.kinds.Area.{Area}
use Rattle.brace_invert.specs.Held.{is_near}
use Rattle.brace_herd.proofs.NearLemmas.{owned_near}
use Rattle.brace_herd.proofs.near.agents_of.Goals as goal

pub returns : goal.returns
returns c agents stored =
    let program = c.args.program.now in
    let near : c.in_ok-theirs.theirs ≡ filter (is_near program c.area.result (pos 0)) agents =
    c.in_ok-theirs.ensures.near agents stored in
    near
    ∙ ap (λ (area : Area). filter (is_near program area (pos 0)) agents) c.area.ensures
    ∙ owned_near c.args.cuts.now c.requires.cuts c.args.part c.requires.part program agents
    (c.in_ok-theirs.ensures.fit agents stored)
