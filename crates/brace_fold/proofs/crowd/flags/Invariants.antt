use Rattle.std.proofs.Common.{◌≡◌, map, take}
use Rattle.brace_model.specs.declared.program.Ty.TheVariants as ty
use Rattle.brace_model.specs.World.{number}
use Rattle.brace_model.specs.Value.{typed}
use Rattle.brace_fold.proofs.crowd.flags.Given as goal

abbrev pub invariant-loop-word : goal.invariant-loop-word
invariant-loop-word l = l.column.items ≡ map (λ w. number (typed ty.Bool w)) (take l.word-index l.words)
