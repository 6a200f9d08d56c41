use Rattle.std.proofs.Common.{◌∙◌, ◌<◌, ℕ, List, length, All, sym, subst}
use Rattle.brace_eval.specs.Heard.{IsHeard}
use Rattle.brace_cuts.specs.Space.{LawfulCuts}
use Rattle.brace_pieces.specs.Owned.{owned}
use Rattle.brace_pieces.proofs.CutLemmas.{cuts_lawful}
use Rattle.brace_herd.specs.Placed.{ArePlaces}
use Rattle.brace_herd.specs.Ready.{own_in}
use Rattle.brace_herd.specs.Said.{said_over, faults_over}
use Rattle.brace_herd.proofs.WorkHeard.{near_lawful, near_few, near_rises, own_at_places}
use Rattle.brace_herd.proofs.LaneLemmas.{places_within}
use Rattle.brace_herd.proofs.HoldWork.{merged_is}
use Rattle.brace_herd.proofs.work.Worker.query.Goals as goal

pub heard-requires : goal.heard-requires
heard-requires c =
    let w = c.args.self.now in
    let held = c.in_ok-held.held.items in
    let places = c.deref-2.result.now in
    let near = c.deref-3.ensures.value
    ∙ merged_is w c.requires.worker c.args.tick c.args.rows.now c.requires.held
    c.in_ok-agents.agents.items c.in_ok-held.held.items c.in_ok-agents.ensures c.in_ok-held.ensures
    in
    record {
      queries = c.requires.worker.queries_are;
      lawful = near_lawful w c.requires.worker c.args.tick c.deref-3.result.now near;
      few = near_few w c.requires.worker c.args.tick c.deref-3.result.now near;
      rises = near_rises w c.requires.worker c.args.tick c.deref-3.result.now near;
      placed =
          subst (λ xs. All (λ (place : ℕ). place < length xs) places) (sym c.deref-3.ensures.value)
          (places_within held _ places (subst (ArePlaces held _)
          (sym {A = List ℕ} c.deref-2.ensures.value)
          (subst (λ xs. ArePlaces xs (owned w.setting.now.job.program c.cuts_at-cuts.result.now
          w.part xs) c.in_ok-places.places.items) c.deref.ensures.value c.in_ok-places.ensures)));
      ticks = c.requires.ticks;
    }

pub own_places-requires-clause-cuts : goal.own_places-requires-clause-cuts
own_places-requires-clause-cuts c =
    let s = c.args.self.now.setting.now in
    subst LawfulCuts (sym c.cuts_at-cuts.ensures)
    (cuts_lawful s.epoch s.cuts c.args.tick c.requires.worker.lawful.plan_is_lawful)

pub own_places-requires-clause-few : goal.own_places-requires-clause-few
own_places-requires-clause-few c =
    near_few c.args.self.now c.requires.worker c.args.tick c.deref.result.now (c.deref.ensures.value
    ∙ merged_is c.args.self.now c.requires.worker c.args.tick c.args.rows.now c.requires.held
    c.in_ok-agents.agents.items c.in_ok-held.held.items c.in_ok-agents.ensures c.in_ok-held.ensures)

pub returns : goal.returns
returns c =
    let w = c.args.self.now in
    let s = w.setting.now in
    let m = s.job.program in
    let t = c.args.tick in
    let held = c.in_ok-held.held.items in
    let holds = merged_is c.args.self.now c.requires.worker c.args.tick c.args.rows.now
    c.requires.held c.in_ok-agents.agents.items c.in_ok-held.held.items c.in_ok-agents.ensures
    c.in_ok-held.ensures in
    let at = own_at_places w c.requires.worker t held c.cuts_at-cuts.result.now c.deref-2.result.now
    holds c.cuts_at-cuts.ensures
    (subst (ArePlaces held _) (sym {A = List ℕ} c.deref-2.ensures.value)
    (subst (λ xs. ArePlaces xs (owned m c.cuts_at-cuts.result.now w.part xs)
    c.in_ok-places.places.items) c.deref.ensures.value c.in_ok-places.ensures)) in
    record {
      heard = record {
        holds = holds;
        hears = subst (λ xs. IsHeard m xs (said_over s t (own_in s w.part t) xs)
            (faults_over s t (own_in s w.part t) xs) c.in_ok-heard.heard) c.deref-3.ensures.value
            (c.in_ok-heard.ensures (own_in s w.part t)
            (subst (λ xs. ArePlaces xs (own_in s w.part t) c.deref-2.result.now)
            (sym c.deref-3.ensures.value) at));
      };
    }
