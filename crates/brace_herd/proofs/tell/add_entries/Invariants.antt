use Rattle.std.proofs.Common.{◌≡◌, ◌++◌, List, map, take}
use Rattle.brace_model.specs.Query.{Saying}
use Rattle.brace_model.specs.Total.{totals_from}
use Rattle.brace_pieces.specs.Right.{share_of, shares_from}
use Rattle.brace_eval.specs.Heard.{counted}
use Rattle.brace_herd.proofs.tell.add_entries.Given as goal

abbrev pub invariant-loop-i : goal.invariant-loop-i
invariant-loop-i l = (said : List Saying)
    → l.totals ≡ totals_from 0 l.target l.effects said
    → l.counts ≡ totals_from 0 l.target (map counted l.effects) said
    → map share_of l.entries ≡ map share_of l.fn.entries ++ shares_from 0 l.target (take l.i l.effects) said
