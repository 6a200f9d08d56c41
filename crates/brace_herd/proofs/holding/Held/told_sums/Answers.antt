use Rattle.std.proofs.Common.{◌≡◌, ◌∙◌, ◌++◌, ◌<◌, ◌≤◌, sym, ap, ap₂, subst, ℕ, List, get_or, map, length, pos, true, false, Some, slice_get, arith, rules}
use Rattle.std.proofs.lemmas.List.{length-map, take_all}
use Rattle.std.proofs.lemmas.Option.{get_or_from_slice_get, slice_get-get_or}
use Rattle.brace_num.specs.declared.kinds.Area.{Area}
use Rattle.brace_model.specs.declared.program.Effect.{Effect}
use Rattle.brace_model.specs.declared.world.Agent.{Agent}
use Rattle.brace_model.specs.World.{class_of}
use Rattle.brace_cuts.specs.Space.{area_of}
use Rattle.brace_eval.specs.Heard.{effects_in}
use Rattle.brace_fold.specs.Asked.{no_agent}
use Rattle.brace_fold.specs.Rows.{by_id}
use Rattle.brace_pieces.specs.Owned.{owns}
use Rattle.brace_pieces.specs.Right.{Share, share_of, shares_from}
use Rattle.brace_herd.specs.inner.Near.{IsWidened}
use Rattle.brace_herd.specs.inner.Tables.{shares_in}
use Rattle.brace_herd.proofs.HoldLemmas.{stands_at}
use Rattle.brace_herd.proofs.NearLemmas.{column_there}
use Rattle.brace_herd.proofs.TableShares.{shares_more, shares_same}
use Rattle.brace_herd.proofs.holding.Held.told_sums.Goals as goal
use Rattle.brace_herd.proofs.holding.Held.told_sums.Goals.{then-theirs+in_ok-add_sums, else-theirs}

pub loop-k-preserved : goal.loop-k-preserved
loop-k-preserved c all others said moved stand are =
    let program = c.args.program.now in
    let cuts = c.args.cuts.now in
    let to = c.args.to in
    let guests : List Agent = by_id others in
    let places = c.args.self.now.places.items in
    let k = c.loop-k.k in
    let place = c.in-Some.place in
    let under : k < length places = search rules in
    let low : k < length guests = omega (
      arith,
      under,
      ap length stand,
      length-map places (λ (p : ℕ). slice_get all p),
      length-map guests Some,
    ) in
    let so = c.loop-k.invariant all others said moved stand are in
    let b = get_or guests k no_agent in
    let there : slice_get guests k ≡ Some b = slice_get-get_or guests k no_agent low in
    let its : b ≡ get_or guests k b = sym (get_or_from_slice_get guests k b b there) in
    let at : slice_get places k ≡ Some place =
    subst (λ (l : List ℕ). slice_get l k ≡ Some place) c.deref.ensures.value
    c.in-Some.ensures.some in
    let here = stands_at all guests places k place b stand at there in
    let named : b.id ≡ c.in-Some-item_at.id =
    column_there (λ (a : Agent). a.id) all c.deref-in-loop-k.result.now place c.in-Some-item_at.id b
    (c.deref-in-loop-k.ensures.value ∙ moved.ids_are) c.in-Some-item_at.ensures here in
    let class : b.class ≡ c.in-Some-number_at.number =
    column_there (λ (a : Agent). a.class) all c.deref-in-loop-k-2.result.now place
    c.in-Some-number_at.number b (c.deref-in-loop-k-2.ensures.value ∙ moved.classes)
    c.in-Some-number_at.ensures.some here in
    let wide : IsWidened (area_of cuts to) (pos 0) c.widened-area.result =
    subst (λ (area : Area). IsWidened area (pos 0) c.widened-area.result) c.area.ensures
    c.widened-area.ensures in
    let is : c.in-Ok.theirs ≡ owns program cuts to b =
    c.in-Ok.ensures cuts to all b c.requires.cuts c.requires.part wide moved here class in
    elim c.if-theirs.branch [
      | then-theirs+in_ok-add_sums w ↦
          let test : owns program cuts to b ≡ true = sym is ∙ w.if-theirs.true in
          let effects : effects_in (class_of program b) ≡ w.effects_at.result.now =
          ap (λ n. effects_in (slice_get program.classes n)) class ∙ sym w.effects_at.ensures in
          ap (map share_of) w.entries-is
          ∙ w.in_ok-add_sums.ensures program all b said are here named effects
          ∙ ap₂ (λ (n : ℕ) (l : List Effect).
          map share_of c.loop-k.entries ++ shares_from 0 n l said) (sym named) (sym effects)
          ∙ ap (λ (l : List Share). l ++ shares_from 0 b.id (effects_in (class_of program b)) said)
          so
          ∙ sym (shares_more program cuts to guests said k b low its test)
      | else-theirs w ↦
          let test : owns program cuts to b ≡ false = sym is ∙ w.if-theirs.false in
          ap (map share_of) w.entries-is ∙ so
          ∙ sym (shares_same program cuts to guests said k b low its test)
    ]

pub returns : goal.returns
returns c = record {
  told = λ all others said moved stand are.
      let guests : List Agent = by_id others in
      let places = c.args.self.now.places.items in
      let end : length places ≤ c.loop-k.k = search rules in
      let long : length guests ≤ c.loop-k.k = omega (
        arith,
        end,
        ap length stand,
        length-map places (λ (p : ℕ). slice_get all p),
        length-map guests Some,
      ) in
      c.loop-k.invariant all others said moved stand are
      ∙ ap (λ l. shares_in c.args.program.now c.args.cuts.now c.args.to l said)
      (take_all c.loop-k.k guests long);
}
