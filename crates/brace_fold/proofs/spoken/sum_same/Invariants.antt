use Rattle.std.proofs.Common.{◌≡◌, ◌≤◌, ◌*◌, ◌^◌, map, take, unsigned_abs}
use Rattle.std.specs.Prelude.{replicate}
use Rattle.brace_model.specs.declared.program.Comb.TheVariants.{Sum}
use Rattle.brace_model.specs.Total.{total_of}
use Rattle.brace_model.specs.Value.{typed}
use Rattle.brace_fold.proofs.spoken.sum_same.Given as goal

abbrev pub invariant-loop : goal.invariant-loop
invariant-loop l = record {
  sum : l.total ≡ total_of Sum (map (typed l.fn.ty) (take l.counter (replicate l.count l.word)));
  bound : unsigned_abs l.total ≤ 2 ^ 63 * l.counter;
}
