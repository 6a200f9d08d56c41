use Rattle.std.proofs.Common.{◌∙◌, ap, map, sym}
use Rattle.brace_fold.proofs.RowLemmas.{all_lawful, rows_are}
use Rattle.brace_fold.proofs.order.Moved.expect_listed.Goals as goal

pub returns : goal.returns
returns c agents is lawful =
    let program = c.args.program.now in
    let lent = ap (map (λ v. v.now)) c.deref-2.ensures.value ∙ c.in_ok-states.ensures
    ∙ c.deref.ensures.value in
    record {
      moved = is;
      are = sym (c.as_columns.ensures.rows lent program)
          ∙ rows_are program agents c.as_columns.result (c.as_columns.ensures.are lent agents is)
          c.in_ok-expect_wide.ensures (all_lawful program agents lawful);
    }
