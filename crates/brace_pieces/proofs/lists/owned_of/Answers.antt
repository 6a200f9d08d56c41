use Rattle.std.proofs.Common.{◌∙◌, List, [], ap, get_or, map}
use Rattle.brace_model.specs.declared.world.Agent.{Agent}
use Rattle.brace_cuts.specs.declared.space.Cuts.{Cuts}
use Rattle.brace_pieces.specs.Owned.{owned}
use Rattle.brace_pieces.proofs.CutLemmas.{lawful_as}
use Rattle.brace_pieces.proofs.lists.owned_of.Goals as goal

pub owned_places-requires : goal.owned_places-requires
owned_places-requires c = lawful_as _ _ _ _ c.cuts_at-cuts.ensures c.requires

pub returns : goal.returns
returns c =
    let agents : List Agent = c.args.agents.now in
    let d : Agent = record { class = 0; id = 0; states = [] } in
    record {
      theirs = c.in_ok-found.ensures d
          ∙ ap (map (λ n. get_or agents n d)) c.deref.ensures.value
          ∙ c.in_ok-places.ensures d
          ∙ ap (λ (k : Cuts). owned c.args.setting.now.job.program k c.args.to agents)
          c.cuts_at-cuts.ensures;
    }
