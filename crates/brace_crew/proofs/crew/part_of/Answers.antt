use Rattle.std.proofs.Common.{◌∙◌, ap}
use Rattle.brace_pieces.specs.Settings.{cuts_of}
use Rattle.brace_pieces.specs.Owned.{owned}
use Rattle.brace_part.proofs.StartLemmas.{own_of}
use Rattle.brace_crew.proofs.crew.part_of.Goals as goal

pub make-requires-clause-owns : goal.make-requires-clause-owns
make-requires-clause-owns c =
    let s = c.args.setting.now in
    own_of s c.args.number c.in_ok-own.own
    (c.in_ok-own.ensures.theirs ∙ ap (owned s.job.program (cuts_of s s.job.first) c.args.number) c.agents.ensures.same)
