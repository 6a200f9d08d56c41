use Rattle.std.proofs.Common.{◌≡◌, ◌≤◌, ◌*◌, ◌^◌, map, take, unsigned_abs}
use Rattle.brace_model.specs.declared.program.Comb.TheVariants.{Sum}
use Rattle.brace_model.specs.Total.{total_of}
use Rattle.brace_model.specs.Value.{typed}
use Rattle.brace_fold.proofs.spoken.sum_of.Given as goal

abbrev pub invariant-loop-word : goal.invariant-loop-word
invariant-loop-word l = record {
  sum : l.total ≡ total_of Sum (map (typed l.fn.ty) (take l.word-index l.words));
  bound : unsigned_abs l.total ≤ 2 ^ 63 * l.word-index;
}
