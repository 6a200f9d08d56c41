use Rattle.std.proofs.lemmas.Result.{IfOk-weaker}
use Rattle.brace_command.proofs.ListingLemmas.{remotes_of_if}
use Rattle.brace_command.proofs.listing.+remotes.Goals as goal

pub add_remotes_in-returns-in_ok-add_remotes-in-If : goal.add_remotes_in-returns-in_ok-add_remotes-in-If
add_remotes_in-returns-in_ok-add_remotes-in-If t c =
    IfOk-weaker c.add_remotes-in-If.result _ _ (λ r second. remotes_of_if _ _ _ _ _ _ _ _ c.in-If.is c.in_ok-add_remotes-in-If.ensures second) c.add_remotes-in-If.ensures
