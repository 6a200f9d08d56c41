use Rattle.std.proofs.Common.{◌∙◌, sym, ap, subst}
use Rattle.brace_cuts.specs.Space.{LawfulCuts}
use Rattle.brace_cuts.specs.declared.space.Cuts.{Cuts}
use Rattle.brace_pieces.specs.Owned.{owned}
use Rattle.brace_pieces.proofs.CutLemmas.{cuts_lawful}
use Rattle.brace_herd.proofs.work.Worker.kept.Goals as goal

pub kept-requires : goal.kept-requires
kept-requires c =
    let s = c.args.self.now.setting.now in
    subst LawfulCuts (sym c.cuts_at-cuts.ensures)
    (cuts_lawful s.epoch s.cuts c.args.tick c.requires.lawful.plan_is_lawful)

pub returns : goal.returns
returns c =
    let w = c.args.self.now in
    c.kept.ensures ∙ ap (λ (cuts : Cuts). owned w.setting.now.job.program cuts w.part
    c.args.agents.items) c.cuts_at-cuts.ensures
