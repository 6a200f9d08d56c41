use Rattle.std.proofs.Common.{◌≡◌, take}
use Rattle.brace_pieces.specs.Settings.{cuts_of}
use Rattle.brace_pieces.specs.Owned.{owned}
use Rattle.brace_pieces.proofs.lists.moves_of.Given as goal

abbrev pub invariant-loop-a : goal.invariant-loop-a
invariant-loop-a l = l.found ≡ owned l.setting.job.program (cuts_of l.setting l.tick) l.to (take l.a-index l.agents)
