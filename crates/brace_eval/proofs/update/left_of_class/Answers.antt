use Rattle.std.proofs.Common.{◌≡◌, ◌∙◌, sym, ap, subst, [], List, ℕ, Bool, Some, None, Result, Err}
use Rattle.std.specs.Prelude.{if◌then◌else◌}
use Rattle.brace_model.specs.declared.program.State.{State}
use Rattle.brace_model.specs.declared.program.Value.{Value}
use Rattle.brace_model.specs.declared.fault.Fault.{Fault}
use Rattle.brace_model.specs.Query.{opening_scope}
use Rattle.brace_model.specs.Next.{Next, rules_in, condition_in, holds, changed, child_in, values_of}
use Rattle.brace_eval.specs.inner.Updates.{worths}
use Rattle.brace_eval.proofs.UpdateLemmas.{all-told, next-stopped, next-left}
use Rattle.brace_eval.proofs.update.left_of_class.Goals as goal

abbrev failed : Fault → Result Next Fault
failed f = Err f

pub returns-in-Some-clause-fault : goal.returns-in-Some-clause-fault
returns-in-Some-clause-fault c fault e =
    let scope = opening_scope c.args.drawer.now.seed c.args.tick [] c.args.totals.now c.args.a.now in
    let class = c.args.class.now in
    let seed = c.condition-dies.ensures.seed ∙ c.in_ok-new.ensures.seed in
    let end = all-told c.args.drawer.now.seed c.args.tick c.args.totals.now class c.args.a.now c.as_slice-states.result.now c.as_slice.result.now c.ruled_states.new.drawer.seed c.condition-dies.new.drawer.seed c.ruled_states.new.first c.condition-dies.new.first c.child.new.first
    c.as_slice-states.ensures c.as_slice.ensures c.in_ok-new.ensures.seed seed c.in_ok-new.ensures.met c.condition-dies.ensures.met c.in_ok-child.ensures.met in
    let same : c.update_fault.result ≡ fault = cc in
    next-stopped scope class c.args.a.now c.args.tick c.in-Some.stop (sym end ∙ c.in-Some.is) ∙ ap failed (sym c.update_fault.ensures ∙ same)

pub returns-in-None-clause-left : goal.returns-in-None-clause-left
returns-in-None-clause-left c =
    let scope = opening_scope c.args.drawer.now.seed c.args.tick [] c.args.totals.now c.args.a.now in
    let class = c.args.class.now in
    let seed = c.condition-dies.ensures.seed ∙ c.in_ok-new.ensures.seed in
    let end = all-told c.args.drawer.now.seed c.args.tick c.args.totals.now class c.args.a.now c.as_slice-states.result.now c.as_slice.result.now c.ruled_states.new.drawer.seed c.condition-dies.new.drawer.seed c.ruled_states.new.first c.condition-dies.new.first c.child.new.first
    c.as_slice-states.ensures c.as_slice.ensures c.in_ok-new.ensures.seed seed c.in_ok-new.ensures.met c.condition-dies.ensures.met c.in_ok-child.ensures.met in
    let held : c.condition-dies.result ≡ holds (condition_in scope class.die) =
    subst (λ (n : ℕ). c.condition-dies.result ≡ holds (condition_in (opening_scope n c.args.tick [] c.args.totals.now c.args.a.now) class.die)) c.in_ok-new.ensures.seed c.condition-dies.ensures.holds in
    let values : c.in_ok-new.new.items ≡ values_of (rules_in scope class c.args.a.now) =
    sym (subst (λ (vs : List Value). values_of (worths scope class.states vs) ≡ c.in_ok-new.new.items) c.as_slice.ensures
    (subst (λ (ss : List State). values_of (worths scope ss c.as_slice.result.now) ≡ c.in_ok-new.new.items) c.as_slice-states.ensures c.in_ok-new.ensures.ruled)) in
    let lives : c.survivor.result ≡ (if holds (condition_in scope class.die) then None else Some (changed class c.args.a.now (values_of (rules_in scope class c.args.a.now)))) =
    c.survivor.ensures
    ∙ ap (λ (b : Bool). if b then None else Some (changed class c.args.a.now c.in_ok-new.new.items)) held
    ∙ ap (λ (vs : List Value). if holds (condition_in scope class.die) then None else Some (changed class c.args.a.now vs)) values in
    let born : c.in_ok-child.child ≡ child_in scope class c.args.a.now class.spawn =
    subst (λ (n : ℕ). c.in_ok-child.child ≡ child_in (opening_scope n c.args.tick [] c.args.totals.now c.args.a.now) class c.args.a.now class.spawn) seed c.in_ok-child.ensures.child in
    next-left scope class c.args.a.now c.args.tick c.survivor.result c.in_ok-child.child (sym end ∙ c.in-None.is) lives born
