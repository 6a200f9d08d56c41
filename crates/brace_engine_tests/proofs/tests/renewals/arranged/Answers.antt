use Rattle.std.proofs.Common.{subst, sym}
use Rattle.brace_model.specs.declared.program.Program.{Program}
use Rattle.brace_fold.specs.Arranged.{AreArranged}
use Rattle.brace_fold.specs.Rows.{AreRows, rows_in}
use Rattle.brace_engine_tests.proofs.tests.renewals.arranged.Goals as goal

pub of-requires : goal.of-requires
of-requires c =
    subst (λ (p : Program). AreRows p c.args.columns.now) (sym c.program.ensures) c.requires

pub returns : goal.returns
returns c =
    subst (λ (p : Program). AreArranged p (rows_in p c.args.columns.now) c.in_ok-arranged.arranged)
    c.program.ensures c.in_ok-arranged.ensures
