use Rattle.std.proofs.Common.{◌≡◌, map, take}
use Rattle.brace_model.specs.Total.{total_of}
use Rattle.brace_model.specs.Value.{typed}
use Rattle.brace_code.specs.Lanes.{words_of}
use Rattle.brace_fold.proofs.spoken.total_of.Given as goal

abbrev pub invariant-loop-k : goal.invariant-loop-k
invariant-loop-k l =
    l.total ≡ total_of l.comb (map (typed l.ty) (take l.k (words_of l.count l.words)))
