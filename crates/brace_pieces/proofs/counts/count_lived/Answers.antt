use Rattle.std.proofs.Common.{◌≡◌, ◌<◌, ◌≤◌, ◌∙◌, ◌+◌, ◌++◌, ◌∷◌, [], List, Bool, true, false, append-nil, ap, arith, cond, get_or, length, nat_lt, rules, sym, take}
use Rattle.std.proofs.lemmas.Bool.Decides.{nat_tests}
use Rattle.std.proofs.lemmas.List.{length-append, take_all}
use Rattle.std.proofs.lemmas.List.Elements.{filter_more}
use Rattle.brace_model.specs.declared.world.Agent.{Agent}
use Rattle.brace_pieces.specs.Given.{lived}
use Rattle.brace_pieces.proofs.counts.count_lived.Goals as goal
use Rattle.brace_pieces.proofs.counts.count_lived.Goals.{then-id-next, else-id-next}

pub loop-place-preserved : goal.loop-place-preserved
loop-place-preserved c =
    let agents : List Agent = c.args.agents.now in
    let next = c.args.next in
    let place = c.loop-place.place in
    let d : Agent = record { class = 0; id = 0; states = [] } in
    let a = get_or agents place d in
    let low : place < length agents = search rules in
    let before : List Agent = lived next (take place agents) in
    let so = c.loop-place.invariant in
    let more : (b : Bool) → nat_lt a.id next ≡ b
    → length (lived next (take (place + 1) agents)) ≡ length (before ++ cond b (a ∷ []) []) =
    λ b is. ap length (filter_more (λ (x : Agent). nat_lt x.id next) agents place d low
    ∙ ap (λ v. before ++ cond v (a ∷ []) []) is) in
    let named = c.id.ensures d in
    elim c.if-id-next.branch [
      | then-id-next w ↦
          let test = w.if-id-next.true in
          let is : nat_lt a.id next ≡ true = grind (arith, nat_tests, test, named) in
          record {
            counted = omega (arith, w.count-is, so.counted, more true is, length-append before (a ∷ []));
            few = omega (arith, w.count-is, so.few);
          }
      | else-id-next w ↦
          let test = w.if-id-next.false in
          let is : nat_lt a.id next ≡ false = grind (arith, nat_tests, test, named) in
          record {
            counted = w.count-is ∙ so.counted ∙ sym (more false is ∙ ap length (append-nil before));
            few = omega (arith, w.count-is, so.few);
          }
    ]

pub returns : goal.returns
returns c =
    let end : length c.args.agents.now ≤ c.loop-place.place = search rules in
    c.loop-place.invariant.counted
    ∙ ap (λ l. length (lived c.args.next l)) (take_all c.loop-place.place c.args.agents.now end)
