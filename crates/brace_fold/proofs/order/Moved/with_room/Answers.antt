use Rattle.std.proofs.Common.{◌≡◌, ◌∙◌, [], ap, length, slice_get, Some, subst}
use Rattle.std.proofs.lemmas.List.{length-replicate}
use Rattle.brace_fold.proofs.Survivings.{none-moved, unset-is}
use Rattle.brace_fold.proofs.order.Moved.with_room.Goals as goal

pub returns-clause-rows : goal.returns-clause-rows
returns-clause-rows c = none-moved _ c.in_ok-with_capacity.ensures.items
    c.in_ok-with_capacity-2.ensures.items
    (λ i column there. unset-is c.args.states i column
    (subst (λ l. slice_get l i ≡ Some column) c.in_ok-empty.ensures there))

pub returns-clause-wide : goal.returns-clause-wide
returns-clause-wide c = ap length c.in_ok-empty.ensures ∙ length-replicate c.args.states []
