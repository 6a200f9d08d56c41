use Rattle.std.proofs.Common.{◌≡◌, map}
use Rattle.std.specs.List.{range_with_len}
use Rattle.brace_model.specs.declared.program.State.{State}
use Rattle.brace_fold.specs.Rows.{value_in, words_of}
use Rattle.brace_fold.proofs.surviving.read_states.Given as goal

abbrev pub invariant-loop-i : goal.invariant-loop-i
invariant-loop-i l = l.values.items
    ≡ map (value_in (map (λ (s : State). s.ty) l.own.states) (words_of l.columns) l.row)
    (range_with_len 0 l.i)
