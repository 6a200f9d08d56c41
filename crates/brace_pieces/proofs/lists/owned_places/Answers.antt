use Rattle.std.proofs.Common.{◌≡◌, ◌<◌, ◌≤◌, ◌∙◌, ◌+◌, ◌++◌, ◌∷◌, [], ℕ, List, Bool, true, false, append-nil, ap, arith, cond, get_or, length, map, rules, sym, take}
use Rattle.std.proofs.lemmas.List.{map-append, take_all}
use Rattle.std.proofs.lemmas.List.Elements.{filter_more}
use Rattle.brace_model.specs.declared.world.Agent.{Agent}
use Rattle.brace_pieces.specs.Owned.{owned, owns}
use Rattle.brace_pieces.proofs.lists.owned_places.Goals as goal
use Rattle.brace_pieces.proofs.lists.owned_places.Goals.{then-owns_at+in_ok-push, else-owns_at}

pub loop-place-preserved : goal.loop-place-preserved
loop-place-preserved c d =
    let program = c.args.program.now in
    let cuts = c.args.cuts.now in
    let p = c.args.p in
    let agents : List Agent = c.args.agents.now in
    let place = c.loop-place.place in
    let many : c.in-Ok.count ≡ length agents = search rules in
    let under = c.loop-place-test.true in
    let low : place < length agents = omega (arith, many, under) in
    let before : List Agent = owned program cuts p (take place agents) in
    let here : Agent = get_or agents place d in
    let reads : ℕ → Agent = λ n. get_or agents n d in
    let old = c.loop-place.places.items in
    let more : (b : Bool) → owns program cuts p here ≡ b
    → owned program cuts p (take (place + 1) agents) ≡ before ++ cond b (here ∷ []) [] =
    λ b is. filter_more (owns program cuts p) agents place d low
    ∙ ap (λ v. before ++ cond v (here ∷ []) []) is in
    elim c.if-owns_at.branch [
      | then-owns_at+in_ok-push w ↦
          ap (λ v. map reads v.items) w.places-is ∙ ap (map reads) w.in_ok-push.ensures.items
          ∙ map-append reads old (place ∷ [])
          ∙ ap (λ (l : List Agent). l ++ here ∷ []) (c.loop-place.invariant d)
          ∙ sym (more true (sym (c.owns_at.ensures d) ∙ w.if-owns_at.true))
      | else-owns_at w ↦
          ap (λ v. map reads v.items) w.places-is ∙ c.loop-place.invariant d
          ∙ sym (append-nil before)
          ∙ sym (more false (sym (c.owns_at.ensures d) ∙ w.if-owns_at.false))
    ]

pub returns : goal.returns
returns c d =
    let many : c.in-Ok.count ≡ length c.args.agents.now = search rules in
    let past = c.loop-place-test.false in
    let end : length c.args.agents.now ≤ c.loop-place.place = omega (arith, many, past) in
    c.loop-place.invariant d
    ∙ ap (owned c.args.program.now c.args.cuts.now c.args.p)
    (take_all c.loop-place.place c.args.agents.now end)
