use Rattle.std.proofs.Common.{◌≡◌, ◌∙◌, ap, rules, to_z, of_z, w64}
use Rattle.std.proofs.lemmas.Int.{to_z-of_z}
use Rattle.brace_model.specs.declared.world.Agent.{Agent}
use Rattle.brace_model.specs.World.{number, value_at}
use Rattle.brace_watch.specs.inner.Columns.{no_agent}
use Rattle.brace_watch.proofs.member.Member.number.Goals as goal

pub number-requires : goal.number-requires
number-requires c = c.self.invariant

pub returns : goal.returns
returns c =
    let told : to_z w64 (of_z w64 c.number.result) ≡ c.number.result = search (rules, to_z-of_z) in
    told ∙ c.number.ensures no_agent
    ∙ ap (λ (a : Agent). number (value_at a.states c.args.state)) c.self.view_is
