use Rattle.std.proofs.Common.{◌≡◌, ◌∙◌, ◌<◌, ◌+◌, ◌++◌, ◌∷◌, [], List, All, Some, get_or, length, map, ap, ap₂, refl, slice_get, sym, subst, take}
use Rattle.std.proofs.lemmas.List.{map-append, take_all, take_more}
use Rattle.std.proofs.lemmas.List.Elements.{All-push}
use Rattle.std.proofs.lemmas.Option.{get_or_from_slice_get, slice_get_read, slice_get_within}
use Rattle.brace_model.specs.declared.heads.Head.{Head}
use Rattle.brace_model.proofs.heads.picked.Goals as goal

pub loop-place-preserved : goal.loop-place-preserved
loop-place-preserved c =
    let heads : List Head = c.args.heads.now in
    let places = c.args.places.now in
    let k = c.loop-place.place-index in
    let p = get_or places k 0 in
    let head : Head = c.in-Some.head.now in
    let there : slice_get heads p ≡ Some head =
    slice_get_read heads _ p head refl c.in-Some.ensures.lookup.3.0 c.in-Some.ensures.lookup.1 in
    let so = c.loop-place.invariant in
    let more : take (k + 1) places ≡ take k places ++ p ∷ [] =
    take_more places k 0 c.loop-place-test.true in
    record {
      are = λ h. c.in_ok-push.ensures.items
          ∙ ap₂ (λ (l : List Head) x. l ++ x ∷ []) (so.are h)
          (sym (get_or_from_slice_get heads p head h there))
          ∙ sym (ap (map (λ n. get_or heads n h)) more
          ∙ map-append (λ n. get_or heads n h) (take k places) (p ∷ []));
      within = subst (All (λ n. n < length heads)) (sym more)
          (All-push (λ n. n < length heads) (take k places) p so.within
          (slice_get_within heads p head there));
    }

pub returns-clause-are : goal.returns-clause-are
returns-clause-are c h =
    let places = c.args.places.now in
    c.loop-place.invariant.are h
    ∙ ap (map (λ p. get_or c.args.heads.now p h))
    (take_all c.loop-place.place-index places c.loop-place-test.false)

pub returns-clause-within : goal.returns-clause-within
returns-clause-within c =
    subst (All (λ p. p < length c.args.heads.now))
    (take_all c.loop-place.place-index c.args.places.now c.loop-place-test.false)
    c.loop-place.invariant.within
