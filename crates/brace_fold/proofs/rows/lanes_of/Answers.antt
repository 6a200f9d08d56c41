use Rattle.std.proofs.Common.{subst, sym}
use Rattle.brace_code.specs.declared.lanes.Rows.TheVariants.{Number, Same}
use Rattle.brace_code.proofs.RowLemmas.{lane_at, long}
use Rattle.brace_fold.specs.inner.Rulings.{AreLanes}
use Rattle.brace_fold.proofs.rows.lanes_of.Goals as goal

pub returns : goal.returns
returns c = subst (AreLanes c.args.count) (sym c.of.ensures) (record {
  long = long c.args.count Number (Same 0) (Same 0) Number;
  each = λ k l low. lane_at c.args.count Number (Same 0) (Same 0) Number k l low;
})
