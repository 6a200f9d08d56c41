use Rattle.std.proofs.Common.{◌∙◌, ap, length, sym}
use Rattle.std.proofs.lemmas.List.{length-map}
use Rattle.brace_fold.specs.declared.columns.Columns.{Columns}
use Rattle.brace_fold.proofs.Ownings.{lent-are}
use Rattle.brace_fold.proofs.RowLemmas.{moved_are}
use Rattle.brace_fold.proofs.order.Moved.as_columns.Goals as goal

pub returns-clause-are : goal.returns-clause-are
returns-clause-are c = λ lent agents is.
    let columns : Columns =
    record { classes = c.deref.result; ids = c.deref-2.result; states = c.args.states } in
    moved_are agents c.args.self.now columns is c.deref.ensures.value c.deref-2.ensures.value lent

pub returns-clause-rows : goal.returns-clause-rows
returns-clause-rows c = λ lent program.
    let columns : Columns =
    record { classes = c.deref.result; ids = c.deref-2.result; states = c.args.states } in
    lent-are program c.args.self.now columns c.deref.ensures.value c.deref-2.ensures.value lent

pub returns-clause-wide : goal.returns-clause-wide
returns-clause-wide c = λ lent.
    sym (length-map c.args.states.now (λ v. v.now)) ∙ ap length lent
