use Rattle.std.proofs.Common.{◌≡◌, ◌∙◌, sym, ap, Result, Err}
use Rattle.brace_model.specs.declared.fault.Fault.{Fault}
use Rattle.brace_model.specs.Next.{Next}
use Rattle.brace_plan.proofs.LeaveLemmas.{run_stopped, run_left}
use Rattle.brace_plan.proofs.leaving.left_of_class.Goals as goal

abbrev failed : Fault → Result Next Fault
failed f = Err f

pub returns-in-Some-clause-fault : goal.returns-in-Some-clause-fault
returns-in-Some-clause-fault c fault e =
    let same : c.update_fault.result ≡ fault = cc in
    run_stopped c.args.desk.now.drawer.seed c.args.tick c.args.totals.now c.args.a.now c.args.class.now c.args.rules.now c.requires.rules
    c.as_slice.result.now c.as_slice-states.result.now c.ruled_states.new.desk.drawer.seed c.is_held.new.desk.drawer.seed c.ruled_states.new.met c.is_held.new.met c.child.new.met
    c.as_slice.ensures c.as_slice-states.ensures c.in_ok-new.ensures.seed c.in_ok-dies.ensures.seed c.in_ok-new.ensures.met c.in_ok-dies.ensures.met c.in_ok-child.ensures.met
    c.in-Some.stop c.in-Some.is ∙ ap failed (sym c.update_fault.ensures ∙ same)

pub returns-in-None-clause-left : goal.returns-in-None-clause-left
returns-in-None-clause-left c =
    run_left c.args.desk.now.drawer.seed c.args.tick c.args.totals.now c.args.a.now c.args.class.now c.args.rules.now c.requires.rules
    c.as_slice.result.now c.as_slice-states.result.now c.ruled_states.new.desk.drawer.seed c.is_held.new.desk.drawer.seed c.ruled_states.new.met c.is_held.new.met c.child.new.met
    c.as_slice.ensures c.as_slice-states.ensures c.in_ok-new.ensures.seed c.in_ok-dies.ensures.seed c.in_ok-new.ensures.met c.in_ok-dies.ensures.met c.in_ok-child.ensures.met
    c.in_ok-dies.dies c.in_ok-new.new.items c.survivor.result c.in_ok-child.child c.in-None.is c.in_ok-dies.ensures.held c.in_ok-new.ensures.ruled c.survivor.ensures c.in_ok-child.ensures.child
