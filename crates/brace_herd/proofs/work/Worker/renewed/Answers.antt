use Rattle.std.proofs.Common.{◌≡◌, ◌∙◌, ◌++◌, true, sym, ap, subst, map}
use Rattle.std.specs.List.{list_all}
use Rattle.std.specs.List.Sorted.{IsPermutation}
use Rattle.brace_num.proofs.Orders.{distinct_moved}
use Rattle.brace_model.specs.declared.program.Program.{Program}
use Rattle.brace_model.specs.declared.world.Agent.{Agent}
use Rattle.brace_model.specs.Lawful.{is_lawful_agent}
use Rattle.brace_fold.specs.Asked.{by_row}
use Rattle.brace_fold.specs.Rows.{AreColumns, IsWide, rows_in}
use Rattle.brace_fold.specs.Sums.{AreSummed}
use Rattle.brace_fold.proofs.Ownings.{picked-row}
use Rattle.brace_fold.proofs.RowLemmas.{all_lawful, are_rows, lawful_moved, rows_are}
use Rattle.brace_herd.specs.Holding.{mine}
use Rattle.brace_herd.proofs.HoldWork.{held_apart, held_lawful, leaves_rows}
use Rattle.brace_herd.proofs.SumsLemmas.{summed_too}
use Rattle.brace_herd.proofs.TableLeft.{lawful_too}
use Rattle.brace_herd.proofs.work.Worker.renewed.Goals.{In_ok-expect_wide}
use Rattle.brace_herd.proofs.work.Worker.renewed.Goals as goal

-- what it holds stands in columns that are wide enough, and is lawful
stand : (c : In_ok-expect_wide)
    → AreColumns c.requires.held.holds.stand.all c.as_columns-columns.result
    × IsWide c.rules-plans.result.now c.as_columns-columns.result
    × (list_all (is_lawful_agent c.rules-plans.result.now) c.requires.held.holds.stand.all ≡ true)
stand c =
    let w = c.args.self.now in
    let s = w.setting.now in
    let h = c.requires.held.holds in
    let guests = h.guests in
    let own = mine s w.part c.args.tick in
    let all = h.stand.all in
    let lent = ap (map (λ v. v.now)) c.deref-2.ensures.value ∙ c.in_ok-states.ensures
    ∙ c.deref.ensures.value in (
      c.as_columns-columns.ensures.are lent all h.stand.listed.moved,
      subst (λ (q : Program). IsWide q c.as_columns-columns.result) c.program.ensures
          c.in_ok-expect_wide.ensures,
      lawful_too s c.rules-plans.result.now
          (c.rules-plans.ensures s c.requires.worker.queries_are) all
          (lawful_moved s.job.program (own ++ guests) all h.stand.moved
          (held_lawful w c.requires.worker c.args.tick own guests h.holds)),
    )

pub renew_rows-requires-clause-rows : goal.renew_rows-requires-clause-rows
renew_rows-requires-clause-rows c =
    let w = c.args.self.now in
    let h = c.requires.held.holds in
    let guests = h.guests in
    let own = mine w.setting.now w.part c.args.tick in
    let (are, wide, lawful) = stand (goal.at.renew_rows-requires-clause-rows c).In_ok-expect_wide in
    are_rows c.rules-plans.result.now h.stand.all c.as_columns-columns.result are wide lawful
    (distinct_moved (λ (a : Agent). a.id) (own ++ guests) h.stand.all h.stand.moved
    (held_apart w c.requires.worker c.args.tick own guests h.holds))

pub returns : goal.returns
returns c =
    let w = c.args.self.now in
    let s = w.setting.now in
    let held = c.args.held.now in
    let whole = c.requires.held in
    let h = whole.holds in
    let p = c.rules-plans.result.now in
    let own = mine s w.part c.args.tick in
    let all = h.stand.all in
    let columns = c.as_columns-columns.result in
    let rules = c.rules-plans.ensures s c.requires.worker.queries_are in
    let (are, wide, lawful) = stand (goal.at.returns c).In_ok-expect_wide in
    let same = rows_are p all columns are wide (all_lawful p all lawful) in
    let sums = subst (λ rows. AreSummed p rows whole.told held.said) (sym same)
    (summed_too p s.job.program (λ a. sym (rules.effects a)) all whole.told held.said whole.sums) in
    let list = c.deref-3.result.now in
    let theirs = picked-row all h.stand.theirs held.own.items h.stand.own_stand in
    let moved : IsPermutation own (by_row (rows_in p columns) list) =
    subst (λ rows. IsPermutation own (by_row rows list)) (sym same)
    (subst (IsPermutation own) (sym (ap (by_row all) c.deref-3.ensures.value ∙ theirs))
    h.stand.same) in
    record {
      leaves = leaves_rows w c.requires.worker c.args.tick p rules held whole
          c.in_ok-renewed.renewed (by_row (rows_in p columns) list) moved
          (c.in_ok-renewed.ensures.leaves whole.told sums);
    }
