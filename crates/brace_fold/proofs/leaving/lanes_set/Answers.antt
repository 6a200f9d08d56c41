use Rattle.std.proofs.Common.{◌≤◌, ◌∙◌, ap, append-nil, filter, length, map, rules, slice_index_or, sym, true, false, ℕ, Bool}
use Rattle.std.proofs.lemmas.List.{take_all}
use Rattle.brace_code.specs.declared.lane.Lane.{Lane}
use Rattle.brace_code.specs.Columns.{no_lane}
use Rattle.brace_plan.proofs.WalkLemmas.{if_ok}
use Rattle.brace_fold.specs.inner.Rulings.{is_set}
use Rattle.brace_fold.proofs.Choosing.{numbers-more}
use Rattle.brace_fold.proofs.Crowdings.{picked-are}
use Rattle.brace_fold.proofs.leaving.lanes_set.Goals as goal
use Rattle.brace_fold.proofs.leaving.lanes_set.Goals.{then-is_set+in_ok-push, else-is_set}

pub loop-number-preserved : goal.loop-number-preserved
loop-number-preserved c = λ d.
    let lanes = c.args.lanes.now in
    let sets : Lane → Bool = λ l. is_set c.args.condition.now l.this in
    let numbers = c.loop-number.numbers.items in
    elim c.if-is_set.branch [
      | then-is_set+in_ok-push w ↦ numbers-more sets lanes numbers c.if-is_set.numbers.items
          c.loop-number.number c.in-Some.lane d true c.in-Some.ensures
          (search rules) (ap (λ v. v.items) w.numbers-is ∙ w.in_ok-push.ensures.items)
          (c.loop-number.invariant d)
      | else-is_set w ↦ numbers-more sets lanes numbers c.if-is_set.numbers.items
          c.loop-number.number c.in-Some.lane d false c.in-Some.ensures
          (search rules) (ap (λ v. v.items) w.numbers-is ∙ sym (append-nil numbers))
          (c.loop-number.invariant d)
    ]

pub returns : goal.returns
returns c = if_ok c.picked.result _ _ (λ set picked.
    let lanes = c.args.lanes.now in
    let sets : Lane → Bool = λ l. is_set c.args.condition.now l.this in
    let over : length lanes ≤ c.loop-number.number = search rules in
    picked-are lanes set c.deref.result.now no_lane picked
    ∙ ap (map (λ (n : ℕ). slice_index_or lanes n no_lane)) c.deref.ensures.value
    ∙ c.loop-number.invariant no_lane
    ∙ ap (filter sets) (take_all c.loop-number.number lanes over)) c.picked.ensures
