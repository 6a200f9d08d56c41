use Rattle.std.proofs.Common.{◌∙◌, ◌++◌, sym, ap, ap₂, List}
use Rattle.std.proofs.lemmas.List.Elements.{filter-append}
use Rattle.brace_cuts.specs.declared.space.Cuts.{Cuts}
use Rattle.brace_model.specs.declared.world.Agent.{Agent}
use Rattle.brace_pieces.specs.Settings.{cuts_of}
use Rattle.brace_pieces.specs.Owned.{owned, owns}
use Rattle.brace_pieces.proofs.CutLemmas.{lawful_as, part_as}
use Rattle.brace_herd.proofs.census.moves_to.Goals as goal

pub agents_of-requires-clause-cuts : goal.agents_of-requires-clause-cuts
agents_of-requires-clause-cuts c = lawful_as _ _ _ _ c.cuts_at-cuts.ensures c.requires.plan

pub agents_of-requires-clause-part : goal.agents_of-requires-clause-part
agents_of-requires-clause-part c =
    part_as _ _ c.args.setting.now.job.first _ _ _ c.cuts_at-cuts.ensures c.requires.plan
    c.requires.is_part

pub returns : goal.returns
returns c =
    let s = c.args.setting.now in
    let m = s.job.program in
    let cuts = cuts_of s c.args.tick in
    record {
      theirs = λ agents stored.
          let lives = c.in_ok-found.ensures agents stored
          ∙ ap (λ (k : Cuts). owned m k c.args.to agents) c.cuts_at-cuts.ensures in
          let second = c.in_ok-of.ensures ∙ c.as_slice.ensures ∙ c.in_ok-more.ensures.theirs in
          c.in_ok-append.ensures
          ∙ ap₂ (λ (xs ys : List Agent). xs ++ ys) lives second
          ∙ sym (filter-append (owns m cuts c.args.to) agents c.args.born.now);
    }
