use Rattle.std.proofs.Common.{rules, ◌≡◌, ◌∙◌, sym, ap, subst, ◌+◌, ◌%◌, ◌<◌, [], ◌∷◌, ◌++◌, length, map, get_or, set, Some, None, arith}
use Rattle.std.specs.Vec.Iter.{into_iter_items}
use Rattle.std.proofs.lemmas.List.{length-map, length-set, length-append, map-set, nil_from_length}
use Rattle.std.specs.List.{All}
use Rattle.std.proofs.lemmas.List.Elements.{All-append}
use Rattle.brace_crew.specs.Members.{IsLast}
use Rattle.brace_crew.proofs.GatherLemmas.{IsTaking, taking_more, taken_all, some_taken, list_here, kept_more}
use Rattle.brace_crew.proofs.team.take_in_turn.Goals as goal
use Rattle.brace_crew.proofs.team.take_in_turn.Goals.{in-Some, in_default}

pub loop-number-preserved : goal.loop-number-preserved
loop-number-preserved g c =
    let so = c.loop-number.invariant in
    let lists = c.loop-number.lists in
    let workers = length c.args.lists.now in
    let i = c.loop-number.number in
    let k = i % workers in
    let old = c.index-lists-number.result in
    let new = c.next.new.self in
    let long : length lists ≡ workers = so.long in
    let few : k < workers = omega (arith, c.requires.some_list) in
    let low : k < length lists = omega (arith, few, long) in
    let at : old ≡ get_or lists k old = c.index-lists-number.is in
    let kept : length (set lists k new) ≡ workers = length-set lists k new ∙ long in
    let as_lists : map into_iter_items (set lists k new) ≡ set (map into_iter_items lists) k (into_iter_items new) = map-set into_iter_items lists k new in
    elim c.match-next.branch [
      | in-Some w ↦
          let m = w.in-Some.member in
          let opened : into_iter_items old ≡ m ∷ into_iter_items new = ap into_iter_items at ∙ w.in-Some.ensures.items in
          let all : c.match-next.members.items ≡ c.loop-number.members.items ++ m ∷ [] = ap (λ v. v.items) w.members-is ∙ w.push_reserved.ensures.items in
          record {
            long = kept;
            few = omega (arith, ap length all, length-append c.loop-number.members.items (m ∷ []), so.few);
            within = omega (arith, c.loop-number-test.true);
            room = search rules;
            taking = λ s publisher is are.
                subst (λ l. IsTaking s publisher workers c.args.count (i + 1) l c.match-next.members.items) (sym as_lists)
                (subst (IsTaking s publisher workers c.args.count (i + 1) (set (map into_iter_items lists) k (into_iter_items new))) (sym all)
                (taking_more s publisher workers c.args.count i (map into_iter_items lists) c.loop-number.members.items c.loop-number-test.true (so.taking s publisher is are) few []
                (into_iter_items old) (list_here into_iter_items lists k old new low at) m (into_iter_items new) (length-map lists into_iter_items ∙ long) opened));
            last = λ s before_end n all_last.
                let before = so.last s before_end n all_last in
                let after = kept_more into_iter_items lists k old new low at (IsLast s before_end n) (Some m) opened before.0 in
                (after.0, subst (All (IsLast s before_end n)) (sym all) (All-append (IsLast s before_end n) c.loop-number.members.items (m ∷ []) before.1 after.1));
          }
      | in_default w ↦
          let nothing : into_iter_items old ≡ [] = nil_from_length (into_iter_items old) (search rules) in
          record {
            long = kept;
            few = search rules;
            within = omega (arith, c.loop-number-test.true);
            room = search rules;
            taking = λ s publisher is are.
                absurd (some_taken s publisher workers c.args.count i (map into_iter_items lists) c.loop-number.members.items c.loop-number-test.true (so.taking s publisher is are) few []
                (into_iter_items old) (list_here into_iter_items lists k old new low at) nothing);
            last = λ s before_end n all_last.
                let before = so.last s before_end n all_last in
                let same : c.loop-number.members.items ≡ c.match-next.members.items = ap (λ v. v.items) (sym w.members-is) in
                ((kept_more into_iter_items lists k old new low at (IsLast s before_end n) None (ap into_iter_items at ∙ w.in_default.ensures.items) before.0).0, subst (All (IsLast s before_end n)) same before.1);
          }
    ]

pub returns-clause-members : goal.returns-clause-members
returns-clause-members g c s publisher is are =
    let so = c.loop-number.invariant in
    taken_all s publisher (length c.args.lists.now) c.args.count c.loop-number.number (map into_iter_items c.loop-number.lists) c.loop-number.members.items is
    (omega (arith, c.loop-number-test.false, so.within)) (so.taking s publisher is are)

pub returns-clause-last : goal.returns-clause-last
returns-clause-last g c s before n all = (c.loop-number.invariant.last s before n all).1
