use Rattle.std.proofs.Common.{◌≡◌, ◌∙◌, ◌<◌, ℤ, List, Some, ap, length, map, slice_get, subst, sym}
use Rattle.std.specs.List.{All}
use Rattle.std.proofs.lemmas.List.{length-map}
use Rattle.brace_model.specs.declared.world.Agent.{Agent}
use Rattle.brace_model.specs.World.{number, value_at}
use Rattle.brace_fold.specs.Asked.{by_row}
use Rattle.brace_fold.specs.inner.Picks.{rows_picked}
use Rattle.brace_fold.proofs.MoveLemmas.{picked-is, picked-within, states-moved}
use denote.Ref.{Bor}
use Rattle.brace_fold.proofs.order.Moved.of.Goals as goal

pub returns-clause-rows : goal.returns-clause-rows
returns-clause-rows c = λ agents are.
    let rows = rows_picked c.in_ok-picks.picks in
    let these = c.in_ok-picks.ensures in
    let columns = c.args.columns.now in
    record {
      classes = picked-is (λ a. a.class) agents columns.classes.now rows _ are.classes
          c.in_ok-picked.ensures
          ∙ ap (λ l. map (λ (a : Agent). a.class) (by_row agents l)) these;
      ids_are = picked-is (λ a. a.id) agents columns.ids.now rows _ are.ids_are
          c.in_ok-picked-2.ensures
          ∙ ap (λ l. map (λ (a : Agent). a.id) (by_row agents l)) these;
      states = λ i column there.
          states-moved agents rows columns.states.now _ c.in_ok-picked_columns.ensures
          are.states i column there
          ∙ ap (λ l. map (λ (a : Agent). number (value_at a.states i)) (by_row agents l)) these;
    }

pub returns-clause-wide : goal.returns-clause-wide
returns-clause-wide c =
    sym (length-map c.in_ok-picked_columns.field-0.items (λ (out : List ℤ). map Some out))
    ∙ sym (ap length c.in_ok-picked_columns.ensures)
    ∙ length-map c.args.columns.now.states.now
    (λ (l : Bor (List ℤ)). map (slice_get l.now) (rows_picked c.in_ok-picks.picks))

pub returns-clause-within : goal.returns-clause-within
returns-clause-within c =
    let ids = c.args.columns.now.ids.now in
    subst (All (λ row. row < length ids)) c.in_ok-picks.ensures
    (picked-within ids (rows_picked c.in_ok-picks.picks) _ c.in_ok-picked-2.ensures)
