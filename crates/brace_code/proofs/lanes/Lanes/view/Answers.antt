use Rattle.std.proofs.Common.{◌≡◌, ◌∙◌, sym, ap, rules, ℕ, pos, List, slice_index_or, to_z, of_z, w64}
use Rattle.brace_code.specs.declared.lanes.Rows.{Rows}
use Rattle.brace_code.specs.RowLists.{row_in}
use Rattle.brace_code.proofs.RowLemmas.{each_words, how_many, same_words}
use Rattle.brace_code.proofs.lanes.Lanes.view.Goals as goal

pub returns-in_ok-word-in-Same-clause-words : goal.returns-in_ok-word-in-Same-clause-words
returns-in_ok-word-in-Same-clause-words c =
    let word = c.in_ok-word-in-Same.word.now in
    let fits : to_z w64 (of_z w64 word) ≡ word = search rules in
    let read : slice_index_or c.args.column.now c.in-Same.row (pos 0) ≡ word = search rules in
    same_words c.args.self.now c.args.row c.args.column.now c.in-Same.row _ (read ∙ sym fits)
    (λ k d low. ap (λ (r : Rows). row_in r k) (sym c.in-Same.is) ∙ c.of_kind.ensures k d low)

pub returns-else-len-self-clause-words : goal.returns-else-len-self-clause-words
returns-else-len-self-clause-words c =
    let s = c.self.inside in
    let many = how_many c.args.self.now s.count s.this s.outer s.inner s.place c.self.view_is in
    each_words c.args.self.now c.args.row c.args.column.now c.deref.result.now
    (search (many, rules))
    (λ k d low. ap (λ (l : List ℕ). slice_index_or l k 0) c.deref.ensures.value
    ∙ ap (λ (r : Rows). row_in r k) (sym c.in-Each.is) ∙ c.of_kind.ensures k d low)
