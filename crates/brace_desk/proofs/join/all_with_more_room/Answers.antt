use Rattle.std.proofs.Common.{◌≡◌, ◌∙◌, sym, ap, [], ◌∷◌, ◌++◌, length, append_assoc, arith}
use Rattle.std.specs.Vec.Iter.{into_iter_items}
use Rattle.brace_pieces.specs.declared.piece.Shown.{Shown}
use Rattle.brace_desk.proofs.join.all_with_more_room.Goals as goal

pub loop-world-preserved : goal.loop-world-preserved
loop-world-preserved c =
    let at = c.loop-world in
    let x = c.in-Some.world in
    let steps : into_iter_items at.world-iterator ≡ x ∷ into_iter_items c.next.new.self = c.in-Some.ensures.steps.0 in
    let one : Shown = record { tick = x.tick; agents = c.in_ok-agents.agents; next = x.next } in
    let is : one ≡ x = ap (λ l. record { tick = x.tick; agents = l; next = x.next }) c.in_ok-agents.ensures in
    let more : c.push.new.self.items ≡ at.all.items ++ x ∷ [] = c.in_ok-push.ensures.items ∙ ap (λ y. at.all.items ++ y ∷ []) is in
    record {
      rest = ap (λ l. l ++ into_iter_items c.next.new.self) more ∙ append_assoc at.all.items (x ∷ []) _ ∙ ap (λ l. at.all.items ++ l) (sym steps) ∙ at.invariant.rest;
      has =
          let was = at.invariant.has in
          let gone = c.in-Some.ensures.steps.1 in
          let short = ap length steps in
          omega (arith, was, gone, short);
    }
