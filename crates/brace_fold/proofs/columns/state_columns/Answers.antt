use Rattle.std.proofs.Common.{rules, ◌∙◌, sym, ap, ℕ, map}
use Rattle.brace_model.specs.World.{number, value_at}
use Rattle.brace_fold.proofs.ColumnLemmas.{columns-more}
use Rattle.brace_fold.proofs.columns.state_columns.Goals as goal

pub loop-place-preserved : goal.loop-place-preserved
loop-place-preserved c = record {
  long = search rules;
  each = rw c.in_ok-push.ensures.items (columns-more (λ i. map (λ s. number (value_at s.now i)) c.args.states.now) c.loop-place.columns.items _
      c.loop-place.invariant.each
      (c.in_ok-column.ensures ∙ ap (λ (i : ℕ). map (λ s. number (value_at s.now i)) c.args.states.now) (sym c.loop-place.invariant.long)));
}
