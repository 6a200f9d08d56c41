use Rattle.std.proofs.Common.{◌∙◌, refl, sym, ap, ℤ, List, Some, slice_get}
use Rattle.std.proofs.lemmas.Option.{slice_get_read}
use Rattle.brace_herd.proofs.near.column.Goals as goal

pub returns-clause-is : goal.returns-clause-is
returns-clause-is c =
    let column : List ℤ = c.in-Some.column.now in
    ap (λ (l : List (List ℤ)). slice_get l c.args.state) (sym c.deref.ensures.value)
    ∙ slice_get_read c.deref.result.now _ c.args.state column refl
    c.in-Some.ensures.lookup.3.0 c.in-Some.ensures.lookup.1
    ∙ ap Some (sym c.as_slice-column.ensures)
