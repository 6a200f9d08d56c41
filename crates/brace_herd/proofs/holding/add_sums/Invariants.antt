use Rattle.std.proofs.Common.{◌≡◌, ◌++◌, List, map, take, slice_get, Some}
use Rattle.brace_model.specs.declared.program.Program.{Program}
use Rattle.brace_model.specs.declared.world.Agent.{Agent}
use Rattle.brace_model.specs.World.{class_of}
use Rattle.brace_model.specs.Query.{Saying}
use Rattle.brace_eval.specs.Heard.{effects_in}
use Rattle.brace_fold.specs.Sums.{AreSummed}
use Rattle.brace_pieces.specs.Right.{share_of, shares_from}
use Rattle.brace_herd.proofs.holding.add_sums.Given as goal

abbrev pub invariant-loop-k : goal.invariant-loop-k
invariant-loop-k l = (program : Program) (rows : List Agent) (a : Agent) (more : List Saying)
    → AreSummed program rows more l.said → slice_get rows l.row ≡ Some a → a.id ≡ l.target
    → effects_in (class_of program a) ≡ l.effects
    → map share_of l.entries ≡ map share_of l.fn.entries ++ shares_from 0 l.target
    (take l.k l.effects) more
