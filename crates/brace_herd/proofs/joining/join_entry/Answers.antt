use Rattle.std.proofs.Common.{◌∙◌, ℕ, List, Some, ap, slice_get, sym}
use Rattle.brace_herd.proofs.HoldLemmas.{stands_where}
use Rattle.brace_herd.proofs.TableTells.{on_ok}
use Rattle.brace_herd.proofs.joining.join_entry.Goals as goal

pub returns : goal.returns
returns c =
    let row = c.in_ok-row.row in
    on_ok c.join_at.result c.join_at.ensures (λ join all told moved apart tells.
    join all tells.agent told moved apart
    (stands_where all row tells.agent apart
    (ap (λ (l : List ℕ). slice_get l row) (sym (c.deref.ensures.value ∙ moved.ids_are))
    ∙ c.in_ok-row.ensures ∙ ap Some (sym tells.is_target)) tells.is_held)
    tells.values)
