use Rattle.std.proofs.Common.{subst, ℕ, List}
use Rattle.brace_fold.specs.Asked.{by_row}
use Rattle.brace_fold.specs.Rows.{AreMoved, rows_in}
use Rattle.brace_fold.proofs.arranged.Arranged.of.Goals as goal

pub returns : goal.returns
returns c =
    let agents = rows_in c.args.program.now c.args.columns.now in
    let given = c.requires in
    let is = c.in_ok-sorted.ensures agents given.are in
    record {
      lawful = given.lawful;
      apart = given.apart;
      places = is.places;
      moved = subst (λ (l : List ℕ). AreMoved (by_row agents l) c.in_ok-rows.rows)
          c.deref.ensures.value (c.in_ok-rows.ensures.rows agents given.are);
      cells = is.are;
    }
