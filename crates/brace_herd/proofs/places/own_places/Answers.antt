use Rattle.std.proofs.Common.{◌≡◌, ◌∙◌, refl, ℕ, List, sym, subst, ap, map, length, true, false, Some}
use Rattle.std.specs.Prelude.{slice_get}
use Rattle.std.proofs.lemmas.Option.{slice_get_read}
use Rattle.std.proofs.lemmas.List.{take_all}
use Rattle.brace_pieces.specs.Owned.{owns, owned}
use Rattle.brace_herd.specs.Placed.{ArePlaces}
use Rattle.brace_herd.proofs.LaneLemmas.{place_more}
use Rattle.brace_herd.proofs.TableShares.{owns_one, owns_none}
use Rattle.brace_herd.proofs.places.own_places.Goals as goal
use Rattle.brace_herd.proofs.places.own_places.Goals.{then-owns+in_ok-push, else-owns}

pub loop-place-preserved : goal.loop-place-preserved
loop-place-preserved c =
    let program = c.args.program.now in
    let cuts = c.args.cuts.now in
    let part = c.args.part in
    let held = c.args.held.now in
    let i = c.loop-place.place in
    let a = c.index-held-place.result in
    let low = c.loop-place-test.true in
    elim c.if-owns.branch [
      | then-owns+in_ok-push w ↦
          let here : slice_get held i ≡ Some a = slice_get_read held (length held) i a refl low c.index-held-place.is in
          let test : owns program cuts part a ≡ true = sym c.owns.ensures ∙ w.if-owns.true in
          ap (λ v. map (λ place. slice_get held place) v.items) w.places-is
          ∙ subst (λ xs. ArePlaces held xs w.push.new.self.items) (sym (owns_one program cuts part held i a low c.index-held-place.is test))
          (subst (ArePlaces held _) (sym {A = List ℕ} w.in_ok-push.ensures.items) (place_more held _ c.loop-place.places.items i a here c.loop-place.invariant))
      | else-owns w ↦
          let test : owns program cuts part a ≡ false = sym c.owns.ensures ∙ w.if-owns.false in
          ap (λ v. map (λ place. slice_get held place) v.items) w.places-is
          ∙ subst (λ xs. ArePlaces held xs c.loop-place.places.items) (sym (owns_none program cuts part held i a low c.index-held-place.is test)) c.loop-place.invariant
    ]

pub returns : goal.returns
returns c =
    subst (λ xs. ArePlaces c.args.held.now (owned c.args.program.now c.args.cuts.now c.args.part xs) c.loop-place.places.items)
    (take_all c.loop-place.place c.args.held.now c.loop-place-test.false) c.loop-place.invariant
