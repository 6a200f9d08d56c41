use Rattle.std.proofs.Common.{◌≡◌, ◌<◌, ◌≤◌, ℕ, Option, slice_index_or}
use Rattle.brace_model.specs.declared.program.Value.{Value}
use Rattle.brace_fold.specs.declared.outcome.Column.{Column}
use Rattle.brace_fold.specs.inner.Rulings.{value_in}
use Rattle.brace_fold.proofs.leaving.set_states.Given as goal

abbrev pub invariant-loop-i : goal.invariant-loop-i
invariant-loop-i l = record {
  set : (j : ℕ) (d e : Value) (o : Option Column) → j < l.i
      → slice_index_or l.states j d ≡ value_in (slice_index_or l.columns j o) l.row (slice_index_or l.initial.states j e);
  left : (j : ℕ) (d : Value) → l.i ≤ j → slice_index_or l.states j d ≡ slice_index_or l.initial.states j d;
}
