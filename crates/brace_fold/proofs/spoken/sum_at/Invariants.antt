use Rattle.std.proofs.Common.{◌≡◌, ◌≤◌, ◌*◌, ◌^◌, map, pos, slice_index_or, take, unsigned_abs}
use Rattle.brace_model.specs.declared.program.Comb.TheVariants.{Sum}
use Rattle.brace_model.specs.Total.{total_of}
use Rattle.brace_model.specs.Value.{typed}
use Rattle.brace_fold.proofs.spoken.sum_at.Given as goal

abbrev pub invariant-loop-row : goal.invariant-loop-row
invariant-loop-row l = record {
  sum : l.total ≡ total_of Sum (map (typed l.fn.ty)
      (take l.row-index (map (λ row. slice_index_or l.column row (pos 0)) l.rows)));
  bound : unsigned_abs l.total ≤ 2 ^ 63 * l.row-index;
}
