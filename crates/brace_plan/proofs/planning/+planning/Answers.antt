use Rattle.std.proofs.Common.{◌≡◌, ◌∙◌, ◌<◌, ap, length, get_or, arith}
use Rattle.brace_plan.proofs.Planned.{planned_const, planned_assign, assign_scope, planned_if, planned_loop, told_const, told_assign, told_if, told_loop, after_next, rest_next, does_next, told_next, block_cut}
use Rattle.brace_plan.proofs.planning.+planning.Goals as goal

pub plan_block-loop-s-preserved : goal.plan_block-loop-s-preserved
plan_block-loop-s-preserved t c =
    let many : length c.as_slice-s-items.result.now ≡ length c.args.block.now = ap length c.as_slice-s-items.ensures in
    let low : c.loop-s.s-index < length c.args.block.now = omega (arith, many, c.loop-s-test.true, c.loop-s.auto.s-index-end) in
    let is : c.s-item.result ≡ get_or c.args.block.now c.loop-s.s-index c.s-item.result = c.s-item.is ∙ ap (λ xs. get_or xs c.loop-s.s-index c.s-item.result) c.as_slice-s-items.ensures in
    let at = c.loop-s.invariant in
    record {
      outside = at.outside;
      after = after_next c.args.block.now c.loop-s.s-index _ low is _ _ _ at.after c.in_ok-action.ensures.scope;
      rest = rest_next c.args.block.now c.loop-s.s-index _ low is _ _ at.rest c.in_ok-action.ensures.scope;
      does = does_next c.args.block.now c.loop-s.s-index _ low is _ _ _ _ _ _ at.does c.in_ok-action.ensures.action c.in_ok-push.ensures.ok;
      told = told_next c.args.block.now c.loop-s.s-index _ low is _ _ _ _ _ at.told c.in_ok-action.ensures.told c.in_ok-push.ensures.ok;
    }

pub plan_block-returns-clause-scope : goal.plan_block-returns-clause-scope
plan_block-returns-clause-scope t c =
    block_cut c.args.known.now c.args.block.now c.loop-s.s-index _ c.args.constants.now c.loop-s.constants _ (let many : length c.as_slice-s-items.result.now ≡ length c.args.block.now = ap length c.as_slice-s-items.ensures in omega (arith, many, c.loop-s-test.false, c.loop-s.auto.s-index-end))
    c.loop-s.invariant.outside c.loop-s.invariant.after c.keep.ensures

pub plan_loop-returns-clause-action : goal.plan_loop-returns-clause-action
plan_loop-returns-clause-action t c =
    planned_loop c.args.known.now c.args.constants.now c.args.class c.args.at c.args.body.now _ _ c.within.result _ c.requires c.variable_in.ensures c.in_ok-bounds.ensures c.within.ensures c.in_ok-body.ensures.actions

pub plan_loop-returns-clause-told : goal.plan_loop-returns-clause-told
plan_loop-returns-clause-told t c =
    told_loop c.args.known.now c.args.constants.now c.args.class c.args.at c.args.body.now _ _ c.within.result _ c.requires c.variable_in.ensures c.in_ok-bounds.ensures c.within.ensures c.in_ok-body.ensures.told

pub plan_statement-returns-in_ok-declare-in-Const-clause-action : goal.plan_statement-returns-in_ok-declare-in-Const-clause-action
plan_statement-returns-in_ok-declare-in-Const-clause-action t c =
    planned_const c.args.known.now c.args.constants.now c.args.s.now c.in-Const.number _ _ _ _ c.in-Const.is c.requires c.in_ok-code-in-Const.ensures c.ty.ensures c.in_ok-declare-in-Const.ensures.ok

pub plan_statement-returns-in_ok-b-in-If-clause-action : goal.plan_statement-returns-in_ok-b-in-If-clause-action
plan_statement-returns-in_ok-b-in-If-clause-action t c =
    planned_if c.args.known.now c.args.constants.now c.args.s.now _ _ _ _ _ _ _ _ c.in-If.is c.requires c.in_ok-condition-in-If.ensures c.in_ok-a-in-If.ensures.actions c.in_ok-a-in-If.ensures.scope
    c.in_ok-b-in-If.ensures.actions c.in_ok-b-in-If.ensures.scope

pub plan_statement-returns-in_ok-b-in-If-clause-told : goal.plan_statement-returns-in_ok-b-in-If-clause-told
plan_statement-returns-in_ok-b-in-If-clause-told t c =
    told_if c.args.known.now.classes.now _ c.args.s.now _ _ _ _ _ _ c.in-If.is c.in_ok-a-in-If.ensures.told c.in_ok-b-in-If.ensures.told

pub plan_statement-returns-in_ok-declare-in-Const-clause-told : goal.plan_statement-returns-in_ok-declare-in-Const-clause-told
plan_statement-returns-in_ok-declare-in-Const-clause-told t c = told_const c.args.known.now.classes.now _ c.args.s.now c.in-Const.number _ _ c.in-Const.is

pub plan_statement-returns-in_ok-code-in-Assign-clause-told : goal.plan_statement-returns-in_ok-code-in-Assign-clause-told
plan_statement-returns-in_ok-code-in-Assign-clause-told t c = told_assign c.args.known.now.classes.now _ c.args.s.now c.in-Assign.who c.in-Assign.effect _ _ _ c.in-Assign.is

pub plan_statement-returns-in_ok-code-in-Assign-clause-scope : goal.plan_statement-returns-in_ok-code-in-Assign-clause-scope
plan_statement-returns-in_ok-code-in-Assign-clause-scope t c =
    assign_scope c.args.known.now c.args.constants.now c.args.s.now c.in-Assign.who c.in-Assign.effect _ _ c.in-Assign.is c.requires

pub plan_statement-returns-in_ok-code-in-Assign-clause-action : goal.plan_statement-returns-in_ok-code-in-Assign-clause-action
plan_statement-returns-in_ok-code-in-Assign-clause-action t c =
    planned_assign c.args.known.now c.args.constants.now c.args.s.now c.in-Assign.who c.in-Assign.effect _ _ _ c.in-Assign.is c.requires c.in_ok-code-in-Assign.ensures
