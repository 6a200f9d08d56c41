use Rattle.std.proofs.Common.{◌∙◌, sym, ap, rules, ℕ, List, slice_index_or}
use Rattle.brace_code.specs.declared.lanes.Rows.{Rows}
use Rattle.brace_code.specs.RowLists.{row_in}
use Rattle.brace_code.proofs.RowLemmas.{how_many, rows_are}
use Rattle.brace_code.proofs.lanes.Lanes.rows.Goals as goal

pub returns : goal.returns
returns c =
    let s = c.self.inside in
    let many = how_many c.args.self.now s.count s.this s.outer s.inner s.place c.self.view_is in
    rows_are c.args.self.now c.args.row c.deref.result.now (search (many, rules))
    (λ k d low. ap (λ (l : List ℕ). slice_index_or l k 0) c.deref.ensures.value
    ∙ ap (λ (r : Rows). row_in r k) (sym c.in-Each.is) ∙ c.of_kind.ensures k d low)
