use Rattle.std.proofs.Common.{[], ℕ, List, sym, subst}
use Rattle.brace_model.specs.declared.program.Program.{Program}
use Rattle.brace_eval.specs.Heard.{IsHeard, said_by, faults_by}
use Rattle.brace_invert.specs.Split.{forward_query, inverse_query}
use Rattle.brace_herd.specs.Placed.{ArePlaces}
use Rattle.brace_herd.specs.Workers.{AreQueriesOf}
use Rattle.brace_herd.specs.Said.{said_over, faults_over}
use Rattle.brace_herd.proofs.TableHeard.{over_script, over_both}
use Rattle.brace_herd.proofs.LaneLemmas.{adds_too, own_effects, effects_same}
use Rattle.brace_herd.proofs.query.heard_in_lanes.Goals as goal
use Rattle.brace_herd.proofs.query.heard_in_lanes.Goals.{in-Script+in_ok-fold-in-Script, in-Inverted+in_ok-all-in-Inverted+in_ok-fold-in-Inverted+in_ok-fold-in-Inverted-2}

pub returns : goal.returns
returns c =
    let s = c.args.setting.now in
    let m = s.job.program in
    let seed = s.job.seed in
    let places = c.args.places.now in
    let held = c.args.held.now in
    let tick = c.args.tick in
    let before = c.in_ok-heard.heard in
    let nothing = c.in_ok-heard.ensures.nothing in
    elim c.match-queries.branch [
      | in-Script+in_ok-fold-in-Script w ↦
          let (plain, script) = subst (AreQueriesOf s) w.in-Script.is c.requires.queries in
          let p = w.in-Script.plans in
          let after = w.fold.new.heard in
          λ own at.
          let added = adds_too m p seed tick held own places before after
          (own_effects m p script) at w.in_ok-fold-in-Script.ensures.heard [] [] nothing in
          let heard = over_script s tick own held after plain
          (subst (λ (x : Program). IsHeard m held (said_by x seed tick held own)
          (faults_by x seed tick held own) after) script added) in
          subst (IsHeard m held (said_over s tick own held) (faults_over s tick own held))
          (sym w.heard-is) heard
      | in-Inverted+in_ok-all-in-Inverted+in_ok-fold-in-Inverted+in_ok-fold-in-Inverted-2 w ↦
          let (inverts, forward, inverse) =
          subst (AreQueriesOf s) w.in-Inverted.is c.requires.queries in
          let p = w.in-Inverted.forward in
          let q = w.in-Inverted.inverse in
          let between = w.fold-in-Inverted.new.heard in
          let after = w.fold-in-Inverted-2.new.heard in
          let all = subst (ArePlaces held held)
          (sym {A = List ℕ} w.deref.ensures.value) w.in_ok-all-in-Inverted.ensures in
          λ own at.
          let first = adds_too m p seed tick held own places before between
          (effects_same forward_query m p forward) at w.in_ok-fold-in-Inverted.ensures.heard [] []
          nothing in
          let second = adds_too m q seed tick held held w.deref.result.now between after
          (effects_same inverse_query m q inverse) all w.in_ok-fold-in-Inverted-2.ensures.heard _ _
          first in
          let heard = over_both s tick own held after p q inverts forward inverse second in
          subst (IsHeard m held (said_over s tick own held) (faults_over s tick own held))
          (sym w.heard-is) heard
    ]
