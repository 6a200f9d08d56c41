use Rattle.std.proofs.Common.{◌≡◌, [], sym, refl, subst, ℕ, Option, IfOk, IfErr, Ok, Err, true}
use Rattle.brace_model.specs.declared.program.Class.{Class}
use Rattle.brace_model.specs.declared.fault.Fault.{Fault}
use Rattle.brace_model.specs.World.{class_of}
use Rattle.brace_model.specs.Next.{next_in}
use Rattle.brace_model.specs.Lawful.{rule_scope}
use Rattle.brace_plan.specs.declared.leaving.LeaveFault.TheVariants as leave_fault
use Rattle.brace_plan.proofs.RuleLemmas.{read_rules}
use Rattle.brace_plan.proofs.Suiting.{opening_fits}
use Rattle.brace_plan.proofs.plans.Plans.left_by.Goals as goal

pub left_of_class-requires-clause-reach : goal.left_of_class-requires-clause-reach
left_of_class-requires-clause-reach c =
    (read_rules c.self.inside.program c.args.self.now c.self.inside.rules c.as_slice-all.result.now c.as_slice-classes.result.now c.args.a.now c.index-classes-place.result c.index-all-place.result
    c.self.invariant.0 c.self.invariant.3 c.self.view_is c.requires.lawful c.as_slice-classes.ensures c.as_slice-all.ensures c.index-classes-place.is c.index-all-place.is).reach

pub left_of_class-requires-clause-rules : goal.left_of_class-requires-clause-rules
left_of_class-requires-clause-rules c =
    let its = read_rules c.self.inside.program c.args.self.now c.self.inside.rules c.as_slice-all.result.now c.as_slice-classes.result.now c.args.a.now c.index-classes-place.result c.index-all-place.result
    c.self.invariant.0 c.self.invariant.3 c.self.view_is c.requires.lawful c.as_slice-classes.ensures c.as_slice-all.ensures c.index-classes-place.is c.index-all-place.is in (
      rule_scope c.args.self.now c.args.a.now.class,
      opening_fits c.args.self.now true c.room.inside.desk.drawer.seed c.args.tick [] c.args.totals.now c.args.a.now c.args.a.now.class c.requires.lawful refl,
      its.rules_are,
    )

pub returns-clause-left : goal.returns-clause-left
returns-clause-left c =
    let a = c.args.a.now in
    let its = read_rules c.self.inside.program c.args.self.now c.self.inside.rules c.as_slice-all.result.now c.as_slice-classes.result.now c.args.a.now c.index-classes-place.result c.index-all-place.result
    c.self.invariant.0 c.self.invariant.3 c.self.view_is c.requires.lawful c.as_slice-classes.ensures c.as_slice-all.ensures c.index-classes-place.is c.index-all-place.is in
    subst (λ (n : ℕ). IfOk c.left_of_class.result (λ left. next_in n c.args.tick (class_of c.args.self.now a) c.args.totals.now a ≡ Ok (record { agent = left.agent; child = left.child }))) c.room.view_is
    (subst (λ (o : Option Class). IfOk c.left_of_class.result (λ left. next_in c.room.inside.desk.drawer.seed c.args.tick o c.args.totals.now a ≡ Ok (record { agent = left.agent; child = left.child })))
    (sym its.class_is) c.left_of_class.ensures.left)

pub returns-clause-fault : goal.returns-clause-fault
returns-clause-fault c =
    let a = c.args.a.now in
    let its = read_rules c.self.inside.program c.args.self.now c.self.inside.rules c.as_slice-all.result.now c.as_slice-classes.result.now c.args.a.now c.index-classes-place.result c.index-all-place.result
    c.self.invariant.0 c.self.invariant.3 c.self.view_is c.requires.lawful c.as_slice-classes.ensures c.as_slice-all.ensures c.index-classes-place.is c.index-all-place.is in
    subst (λ (n : ℕ). IfErr c.left_of_class.result (λ e. (fault : Fault) → e ≡ leave_fault.Fault fault → next_in n c.args.tick (class_of c.args.self.now a) c.args.totals.now a ≡ Err fault)) c.room.view_is
    (subst (λ (o : Option Class). IfErr c.left_of_class.result (λ e. (fault : Fault) → e ≡ leave_fault.Fault fault → next_in c.room.inside.desk.drawer.seed c.args.tick o c.args.totals.now a ≡ Err fault))
    (sym its.class_is) c.left_of_class.ensures.fault)
