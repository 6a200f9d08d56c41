use Rattle.std.proofs.Common.{◌++◌, subst, sym}
use Rattle.std.specs.List.Sorted.{IsPermutation}
use Rattle.brace_cuts.specs.declared.space.Cuts.{Cuts}
use Rattle.brace_pieces.specs.Owned.{owned}
use Rattle.brace_pieces.proofs.CutLemmas.{lawful_as, part_as}
use Rattle.brace_herd.proofs.work.Worker.settled.Goals as goal

pub settled-requires-clause-cuts : goal.settled-requires-clause-cuts
settled-requires-clause-cuts c =
    lawful_as _ _ _ _ c.cuts_at-cuts.ensures c.requires.lawful.plan_is_lawful

pub settled-requires-clause-part : goal.settled-requires-clause-part
settled-requires-clause-part c =
    part_as _ _ c.args.self.now.setting.now.job.first _ _ _ c.cuts_at-cuts.ensures
    c.requires.lawful.plan_is_lawful c.requires.is_part

pub returns-in-Ok : goal.returns-in-Ok
returns-in-Ok c agents these stored rises moved lawful =
    let w = c.args.self.now in
    c.in-Ok.ensures agents these stored rises
    (subst (λ (cuts : Cuts). IsPermutation these
    (owned w.setting.now.job.program cuts w.part agents ++ c.args.more.now))
    (sym c.cuts_at-cuts.ensures) moved) lawful
