use Rattle.std.proofs.Common.{◌≡◌, ◌∙◌, sym, ap, refl, subst, [], ◌∷◌, ◌++◌, length, append_assoc, arith}
use Rattle.std.specs.List.{AllZip}
use Rattle.std.specs.Vec.Iter.{into_iter_items}
use Rattle.std.proofs.lemmas.List.Elements.{AllZip-push}
use Rattle.brace_pieces.specs.declared.piece.Shown.{Shown}
use Rattle.brace_desk.specs.inner.Joins.{IsSortedWorld}
use Rattle.brace_desk.proofs.join.all_sorted.Goals as goal

pub loop-world-preserved : goal.loop-world-preserved
loop-world-preserved c =
    let at = c.loop-world in
    let x = c.in-Some.world in
    let y : Shown = record { tick = x.tick; agents = c.sort.new.self; next = x.next } in
    let steps : into_iter_items at.world-iterator ≡ x ∷ into_iter_items c.next.new.self = c.in-Some.ensures.steps.0 in
    let sorted = c.sort.ensures in
    let one : IsSortedWorld x y = record {
      same_tick = refl;
      same_next = refl;
      by_id = record { same = sorted.same; in_order = sorted.in_order };
    } in
    record {
      rest = append_assoc at.yielded (x ∷ []) _ ∙ ap (λ l. at.yielded ++ l) (sym steps) ∙ at.invariant.rest;
      so_far = subst (AllZip IsSortedWorld (at.yielded ++ x ∷ [])) (sym c.in_ok-push.ensures.items) (AllZip-push IsSortedWorld at.yielded at.all.items x y at.invariant.so_far one);
      has =
          let was = at.invariant.has in
          let gone = c.in-Some.ensures.steps.1 in
          let short = ap length steps in
          omega (arith, was, gone, short);
    }
