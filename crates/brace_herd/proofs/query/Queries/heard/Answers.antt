use Rattle.std.proofs.Common.{◌∙◌, ◌<◌, [], ℕ, List, length, sym, ap, subst}
use Rattle.std.specs.List.{All}
use Rattle.brace_model.specs.declared.world.Agent.{Agent}
use Rattle.brace_eval.specs.Heard.{IsHeard, said_by, faults_by}
use Rattle.brace_invert.specs.Split.{forward_query, inverse_query}
use Rattle.brace_herd.specs.Placed.{ArePlaces}
use Rattle.brace_herd.specs.Workers.{AreQueriesOf}
use Rattle.brace_herd.specs.Said.{said_over, faults_over}
use Rattle.brace_herd.proofs.TableHeard.{over_script, over_both}
use Rattle.brace_herd.proofs.AskLemmas.{can_ask_too, grew_over}
use Rattle.brace_herd.proofs.LaneLemmas.{places_within}
use Rattle.brace_herd.proofs.query.Queries.heard.Goals as goal
use Rattle.brace_herd.proofs.query.Queries.heard.Goals.{in-Script+in_ok-ask_some-in-Script, in-Inverted+in_ok-all-in-Inverted+in_ok-ask_some-in-Inverted+in_ok-ask_some-in-Inverted-2}

abbrev WithinScene : List ℕ → List Agent → Type 0
WithinScene places held = All (λ (place : ℕ). place < length held) places

pub ask_some-requires-clause-placed : goal.ask_some-requires-clause-placed
ask_some-requires-clause-placed c =
    subst (WithinScene c.args.places.now) (sym c.in_ok-scene.ensures.held) c.requires.placed

pub ask_some-requires-in-Inverted-clause-can_ask : goal.ask_some-requires-in-Inverted-clause-can_ask
ask_some-requires-in-Inverted-clause-can_ask c =
    let (inverts, forward, inverse) =
    subst (AreQueriesOf c.args.setting.now) c.in-Inverted.is c.requires.queries in
    can_ask_too forward_query c.args.setting.now.job.program c.in-Inverted.forward forward
    c.in_ok-scene.scene c.in_ok-scene.ensures.can_ask

pub ask_some-requires-in-Inverted-clause-placed : goal.ask_some-requires-in-Inverted-clause-placed
ask_some-requires-in-Inverted-clause-placed c =
    subst (WithinScene c.args.places.now) (sym c.in_ok-scene.ensures.held) c.requires.placed

pub ask_some-requires-in-Inverted-2-clause-can_ask :
    goal.ask_some-requires-in-Inverted-2-clause-can_ask
ask_some-requires-in-Inverted-2-clause-can_ask c =
    let (inverts, forward, inverse) =
    subst (AreQueriesOf c.args.setting.now) c.in-Inverted.is c.requires.queries in
    can_ask_too inverse_query c.args.setting.now.job.program c.in-Inverted.inverse inverse
    c.in_ok-scene.scene c.in_ok-scene.ensures.can_ask

pub ask_some-requires-in-Inverted-2-clause-placed :
    goal.ask_some-requires-in-Inverted-2-clause-placed
ask_some-requires-in-Inverted-2-clause-placed c =
    let held = c.args.held.now in
    subst (WithinScene c.deref.result.now) (sym c.in_ok-scene.ensures.held)
    (places_within held held c.deref.result.now
    (subst (ArePlaces held held) (sym {A = List ℕ} c.deref.ensures.value)
    c.in_ok-all-in-Inverted.ensures))

pub returns : goal.returns
returns c =
    let s = c.args.setting.now in
    let m = s.job.program in
    let seed = s.job.seed in
    let held = c.args.held.now in
    let tick = c.args.tick in
    let scene = c.in_ok-scene.scene in
    let is = c.in_ok-scene.ensures in
    elim c.match-self.branch [
      | in-Script+in_ok-ask_some-in-Script w ↦
          let (plain, script) = subst (AreQueriesOf s) w.in-Script.is c.requires.queries in
          let after = w.ask_some.new.hearing.heard in
          λ own at.
          let grew = grew_over scene m held w.in-Script.plans seed c.in_ok-make.field-0 tick own
          c.in_ok-nothing.field-0 after
          is.program is.held is.tick c.in_ok-make.ensures
          (w.in_ok-ask_some-in-Script.ensures.hears own
          (subst (λ xs. ArePlaces xs own c.args.places.now) (sym is.held) at)) in
          let heard = over_script s tick own held after plain
          (subst (λ p. IsHeard m held (said_by p seed tick held own)
          (faults_by p seed tick held own) after) script
          (grew [] [] c.in_ok-nothing.ensures.nothing)) in
          subst (IsHeard m held (said_over s tick own held) (faults_over s tick own held))
          (sym (ap (λ h. h.heard) w.hearing-is)) heard
      | in-Inverted+in_ok-all-in-Inverted+in_ok-ask_some-in-Inverted+in_ok-ask_some-in-Inverted-2
          w ↦
          let (inverts, forward, inverse) =
          subst (AreQueriesOf s) w.in-Inverted.is c.requires.queries in
          let p = w.in-Inverted.forward in
          let q = w.in-Inverted.inverse in
          let between = w.ask_some-in-Inverted.new.hearing in
          let after = w.ask_some-in-Inverted-2.new.hearing.heard in
          let all = subst (λ xs. ArePlaces xs held w.deref.result.now) (sym is.held)
          (subst (ArePlaces held held) (sym {A = List ℕ} w.deref.ensures.value)
          w.in_ok-all-in-Inverted.ensures) in
          λ own at.
          let first = grew_over scene m held p seed c.in_ok-make.field-0 tick own
          c.in_ok-nothing.field-0 between.heard
          is.program is.held is.tick c.in_ok-make.ensures
          (w.in_ok-ask_some-in-Inverted.ensures.hears own
          (subst (λ xs. ArePlaces xs own c.args.places.now)
          (sym is.held) at)) [] [] c.in_ok-nothing.ensures.nothing in
          let second = grew_over scene m held q seed between.room tick held between.heard after
          is.program is.held is.tick (w.in_ok-ask_some-in-Inverted.ensures.seed
          ∙ c.in_ok-make.ensures) (w.in_ok-ask_some-in-Inverted-2.ensures.hears held all) _ _ first
          in
          let heard = over_both s tick own held after p q inverts forward inverse second in
          subst (IsHeard m held (said_over s tick own held) (faults_over s tick own held))
          (sym (ap (λ h. h.heard) w.hearing-is)) heard
    ]
