use Rattle.std.proofs.Common.{◌≡◌, ◌++◌, map, take, replicate}
use Rattle.std.specs.Prelude.{sum}
use Rattle.brace_model.specs.World.{no_value}
use Rattle.brace_model.specs.Query.{constants}
use Rattle.brace_eval.proofs.query.+places.Given as goal

abbrev pub invariant-open_block-loop-s : goal.invariant-open_block-loop-s
invariant-open_block-loop-s l =
    l.locals.items ≡ l.fn.locals.items ++ replicate (sum (map constants (take l.s-index l.body))) no_value
