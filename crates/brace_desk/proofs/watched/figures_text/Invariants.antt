use Rattle.std.proofs.Common.{◌≡◌, take}
use Rattle.brace_desk.specs.Watched.{figures_text}
use Rattle.brace_desk.proofs.watched.figures_text.Given as goal

abbrev pub invariant-loop-world : goal.invariant-loop-world
invariant-loop-world l = l.text.items ≡ figures_text l.setting l.fresh l.watches (take l.world-index l.shown)
