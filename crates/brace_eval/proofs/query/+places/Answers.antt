use Rattle.std.proofs.Common.{◌≡◌, ◌∙◌, sym, ap, subst, ◌++◌, map, take, replicate, append_assoc, List, ℕ}
use Rattle.std.specs.Prelude.{IfOk, sum}
use Rattle.brace_model.specs.declared.program.Value.{Value}
use Rattle.brace_model.specs.World.{no_value}
use Rattle.brace_model.specs.Query.{constants}
use Rattle.brace_eval.proofs.PlaceLemmas.{more-places, replicate-add}
use Rattle.brace_eval.proofs.StatementEquations.{constants-If}
use Rattle.brace_eval.proofs.query.+places.Goals as goal

pub open_block-loop-s-preserved : goal.open_block-loop-s-preserved
open_block-loop-s-preserved t c =
    c.in_ok-open_statement.ensures
    ∙ ap (λ (l : List Value). l ++ replicate (constants c.s-item.result) no_value) c.loop-s.invariant
    ∙ append_assoc c.args.locals.now.items (replicate (sum (map constants (take c.loop-s.s-index c.args.body.now))) no_value) (replicate (constants c.s-item.result) no_value)
    ∙ ap (λ (l : List Value). c.args.locals.now.items ++ l)
    (sym (more-places no_value c.args.body.now c.loop-s.s-index c.s-item.result (rw c.as_slice-s-items.ensures at c.loop-s-test.true) (rw c.as_slice-s-items.ensures at c.s-item.is)))

pub open_statement-returns-in_ok-open_block-in-If : goal.open_statement-returns-in_ok-open_block-in-If
open_statement-returns-in_ok-open_block-in-If t c =
    let whole : (c.args.locals.now.items ++ replicate (sum (map constants c.in-If.a)) no_value) ++ replicate (sum (map constants c.in-If.b)) no_value
    ≡ c.args.locals.now.items ++ replicate (constants c.args.s.now) no_value =
    append_assoc c.args.locals.now.items (replicate (sum (map constants c.in-If.a)) no_value) (replicate (sum (map constants c.in-If.b)) no_value)
    ∙ ap (λ (l : List Value). c.args.locals.now.items ++ l)
    (sym (replicate-add no_value (sum (map constants c.in-If.a)) (sum (map constants c.in-If.b))) ∙ ap (λ (n : ℕ). replicate n no_value) (sym (constants-If c.args.s.now _ c.in-If.a c.in-If.b c.in-If.is))) in
    subst (λ (l : List Value). IfOk c.open_block-in-If.result (λ x. c.open_block-in-If.new.locals.items ≡ l))
    (ap (λ (l : List Value). l ++ replicate (sum (map constants c.in-If.b)) no_value) c.in_ok-open_block-in-If.ensures ∙ whole)
    c.open_block-in-If.ensures
