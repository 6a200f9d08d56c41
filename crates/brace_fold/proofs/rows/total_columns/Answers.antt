use Rattle.std.proofs.Common.{rules, ◌∙◌, sym, ap, ℕ, pos, map, slice_index_or}
use Rattle.brace_fold.proofs.ColumnLemmas.{columns-more}
use Rattle.brace_fold.proofs.rows.total_columns.Goals as goal

pub loop-effect-preserved : goal.loop-effect-preserved
loop-effect-preserved c = record {
  long = search rules;
  each = rw c.in_ok-push.ensures.items (columns-more (λ i. map (λ r. slice_index_or r.now i (pos 0)) c.args.rows.now) c.loop-effect.columns.items _
      c.loop-effect.invariant.each
      (c.in_ok-column.ensures ∙ ap (λ (i : ℕ). map (λ r. slice_index_or r.now i (pos 0)) c.args.rows.now) (sym c.loop-effect.invariant.long)));
}
