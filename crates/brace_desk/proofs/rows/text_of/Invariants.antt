use Rattle.std.proofs.Common.{◌≡◌, take}
use Rattle.brace_desk.specs.Shows.{shown_text}
use Rattle.brace_desk.proofs.rows.text_of.Given as goal

abbrev pub invariant-loop-world : goal.invariant-loop-world
invariant-loop-world l = l.text.items ≡ shown_text l.job l.fresh (take l.world-index l.shown)
