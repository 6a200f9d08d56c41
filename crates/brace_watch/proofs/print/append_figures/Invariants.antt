use Rattle.std.proofs.Common.{◌≡◌, ◌∷◌, ◌++◌, flat_map, map, take}
use Rattle.brace_comb.specs.Totals.{tally}
use Rattle.brace_watch.specs.Texts.{figure_text}
use Rattle.brace_watch.proofs.print.append_figures.Given as goal

abbrev pub invariant-loop-total : goal.invariant-loop-total
invariant-loop-total l =
    l.out.items ≡ l.initial.out.items ++ flat_map (λ f. 44 ∷ figure_text l.ty f) (map tally (take l.total-index l.totals))
