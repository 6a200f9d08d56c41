use Rattle.std.proofs.Common.{◌≡◌, ◌∙◌, sym, ap, subst, [], map, rules}
use Rattle.std.specs.List.{AllZip}
use Rattle.std.proofs.lemmas.Result.{IfOk-weaker}
use Rattle.brace_desk.specs.Desks.{whole_at}
use Rattle.brace_desk.specs.inner.Joins.{added_to, IsSortedWorld}
use Rattle.brace_desk.proofs.JoinLemmas.{IsLeft, left_first, left_next, left_none}
use Rattle.brace_desk.proofs.join.joined.Goals as goal

pub loop-lot-init : goal.loop-lot-init
loop-lot-init c = record {
  left = λ s held ticks are.
      subst (IsLeft s held ticks c.pop.new.self.items) (sym (c.in_ok-worlds.ensures ∙ c.into_vec.ensures))
      (left_first s held ticks c.args.lots.now.items c.pop.new.self.items c.in-Some.last are c.in-Some.ensures.items);
  places = c.pop.ensures.capacity;
}

pub loop-lot-preserved : goal.loop-lot-preserved
loop-lot-preserved c = record {
  left = λ s held ticks are.
      left_next s held ticks c.loop-lot.lots.items c.pop-in-loop-lot.new.self.items c.in-Some-pop.lot c.loop-lot.worlds.items c.in_ok-worlds-2.worlds.items
      (c.loop-lot.invariant.left s held ticks are) c.in-Some-pop.ensures.items
      (c.in_ok-worlds-2.ensures ∙ ap (added_to c.loop-lot.worlds.items) c.into_vec-in-Some-pop.ensures);
  places = c.pop-in-loop-lot.ensures.capacity ∙ c.loop-lot.invariant.places;
}

pub returns-clause-whole : goal.returns-clause-whole
returns-clause-whole c s held ticks lawful numbers are =
    let none : c.loop-lot.lots.items ≡ [] = search rules in
    IfOk-weaker c.all_sorted.result (λ all. AllZip IsSortedWorld c.loop-lot.worlds.items all.items) (λ all. all.items ≡ map (whole_at s) ticks)
    (λ all sorted. left_none s held lawful numbers ticks c.loop-lot.lots.items c.loop-lot.worlds.items all.items (c.loop-lot.invariant.left s held ticks are) none sorted) c.all_sorted.ensures
