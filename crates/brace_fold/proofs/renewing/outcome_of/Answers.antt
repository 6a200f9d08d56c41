use Rattle.std.proofs.Common.{subst, List}
use Rattle.std.specs.List.{AllZip}
use Rattle.brace_code.specs.declared.code.Code.{Code}
use Rattle.brace_fold.specs.declared.outcome.Column.{Column}
use Rattle.brace_fold.specs.inner.Rulings.{AreBorn, IsRun}
use Rattle.brace_fold.proofs.LeavingLemmas.{leaves-of}
use Rattle.brace_fold.proofs.renewing.outcome_of.Goals as goal

pub returns : goal.returns
returns c = λ scope shows.
    let class = c.args.ruled.now.class.now in
    let rules = c.args.ruled.now.rules.now in
    let agents = c.args.agents.now in
    let frame = c.args.frame.now in
    let out = c.in_ok-out.out in
    let lanes = c.lanes_of-lanes.result in
    let parents = c.in_ok-parents.parents in
    let gifts : List Column = c.in_ok-gifts.gifts.items in
    let born = c.in_ok-more.more.items in (
      lanes,
      (
        c.lanes_of-lanes.ensures,
        λ d.
            leaves-of class rules agents d frame lanes parents scope shows c.lanes_of-lanes.ensures
            out c.in_ok-out.ensures
            c.in_ok-parents.ensures
            gifts (subst (λ (l : List Code). AllZip (IsRun frame parents) l gifts) c.as_slice-codes.ensures c.in_ok-gifts.ensures)
            born c.args.born.now.items _
            (subst (λ (g : List Column). AreBorn class g agents parents born) c.deref.ensures.value
            c.in_ok-more.ensures)
            c.in_ok-append.ensures.items,
      ),
    )
