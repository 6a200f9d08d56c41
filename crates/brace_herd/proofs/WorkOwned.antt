-- What a part holds and owns behind what it took in a step.
use Rattle.std.proofs.Common.{◌≡◌, ◌∙◌, sym, ap, ap₂, subst, ℕ, ◌+◌, ◌-◌, List, ◌++◌, flat_map, append_assoc}
use Rattle.std.specs.List.Sorted.{IsPermutation}
use Rattle.std.proofs.lemmas.List.Elements.{filter-append}
use Rattle.std.proofs.lemmas.List.Sorted.{IsPermutation-append, IsPermutation-refl}
use Rattle.brace_model.specs.declared.program.Program.{Program}
use Rattle.brace_model.specs.declared.world.Agent.{Agent}
use Rattle.brace_model.specs.World.{World}
use Rattle.brace_cuts.specs.declared.space.Cuts.{Cuts}
use Rattle.brace_pieces.specs.declared.setting.Setting.{Setting}
use Rattle.brace_pieces.specs.declared.setting.Stage.TheVariants as stage
use Rattle.brace_pieces.specs.declared.piece.Piece.{Piece}
use Rattle.brace_pieces.specs.Settings.{cuts_of}
use Rattle.brace_pieces.specs.Steps.{step, met}
use Rattle.brace_pieces.specs.Owned.{owned, owns}
use Rattle.brace_pieces.specs.Continued.{continued, on}
use Rattle.brace_pieces.specs.Together.{AreWhole}
use Rattle.brace_pieces.specs.Heard.{near}
use Rattle.brace_pieces.proofs.HeldLemmas.{held_together, handed_together}
use Rattle.brace_pieces.proofs.MoveLemmas.{moved_together}
use Rattle.brace_pieces.proofs.GivenLemmas.{given_with_births}
use Rattle.brace_pieces.proofs.OnLemmas.{on_next}
use Rattle.brace_herd.specs.declared.work.Worker.{Worker}
use Rattle.brace_pieces.specs.Exchanged.{brought}
use Rattle.brace_herd.specs.Ready.{own_in, left_in, born_in}
use Rattle.brace_herd.specs.Workers.{IsWorker, IsWork}
use Rattle.brace_herd.proofs.WorkTaken.{borders_bring, hands_bring, moves_bring}
use Rattle.brace_herd.proofs.WorkHeard.{step_ticks, rises, whole}

module _ (worker : Worker) (part : IsWorker worker) (t : ℕ) (pieces : List Piece) where
  abbrev run : Setting
  run = worker.setting.now

  abbrev mine_of : List Agent → List Agent
  mine_of agents = owned run.job.program (cuts_of run t) worker.part agents

  -- those of its agents that it keeps under other cuts, and those that pieces bring
  pub recut_moved : IsWork worker stage.Hand t pieces → (own : List Agent)
      → own ≡ owned run.job.program (cuts_of run (t - 1)) worker.part (on run t).agents
      → IsPermutation (mine_of own ++ flat_map brought pieces) (mine_of (on run t).agents)
  recut_moved work own same =
      let brings = hands_bring run worker.number worker.part t work.stands
      (met run (step stage.Hand t) worker.part) pieces work.took in
      subst (λ xs. IsPermutation xs (mine_of (on run t).agents))
      (sym (ap₂ (λ xs ys. xs ++ ys) (ap mine_of same) brings))
      (handed_together run part.lawful worker.part part.is_part t (on run t).agents
      (whole worker part t))

  -- those of what its agents leave that it keeps, and those that pieces bring
  pub next_moved : IsWork worker stage.Move t pieces → (left born : List Agent)
      → left ≡ left_in run worker.part t → born ≡ born_in run worker.part t
      → IsPermutation (mine_of (left ++ born) ++ flat_map brought pieces)
      (mine_of (on run (t + 1)).agents)
  next_moved work left born lives bears =
      let world : World = on run t in
      let up = rises worker part t in
      let on_all = whole worker part t in
      let next : on run (t + 1) ≡ continued run t world =
      on_next run t (step_ticks run worker.number t stage.Move (λ e. absurd (cc)) work.stands).0 in
      let given = ap₂ (λ xs ys. mine_of (xs ++ ys)) lives bears
      ∙ sym (given_with_births run t part.lawful world.agents up on_all worker.part worker.part
      world.next) in
      let brings = moves_bring run worker.number worker.part t work.stands
      (met run (step stage.Move t) worker.part) pieces work.took in
      subst (λ w. IsPermutation (mine_of (left ++ born) ++ flat_map brought pieces)
      (mine_of w.agents)) (sym next)
      (subst (λ xs. IsPermutation xs (mine_of (continued run t world).agents))
      (sym (ap₂ (λ xs ys. xs ++ ys) given brings))
      (moved_together run part.lawful t worker.part part.is_part world up on_all
      (subst (λ w. AreWhole run.job.program w.agents) next (whole worker part (t + 1)))))

-- behind what it keeps come those that were gathered
pub gathered_behind : (own taken more : List Agent) → IsPermutation taken more
    → IsPermutation (own ++ taken) (own ++ more)
gathered_behind own taken more same =
    IsPermutation-append own own taken more (IsPermutation-refl own) same

-- those that a part owns of two lists, before others
pub kept_both : (program : Program) (cuts : Cuts) (p : ℕ) (left born taken : List Agent)
    → owned program cuts p (left ++ born) ++ taken
    ≡ owned program cuts p left ++ (owned program cuts p born ++ taken)
kept_both program cuts p left born taken =
    ap (λ l. l ++ taken) (filter-append (owns program cuts p) left born)
    ∙ append_assoc (owned program cuts p left) (owned program cuts p born) taken

-- a part's own agents and those that pieces bring are what it holds, in some order
pub near_moved : (worker : Worker) (part : IsWorker worker) (t : ℕ) (pieces : List Piece)
    (mine : List Agent) → IsWork worker stage.Border t pieces
    → mine ≡ own_in worker.setting.now worker.part t
    → IsPermutation (mine ++ flat_map brought pieces)
    (near worker.setting.now t worker.part (on worker.setting.now t).agents)
near_moved worker part t pieces mine work same =
    let s = worker.setting.now in
    let brings = borders_bring s worker.number worker.part t work.stands
    (met s (step stage.Border t) worker.part) pieces work.took in
    subst (λ xs. IsPermutation xs (near s t worker.part (on s t).agents))
    (sym (ap₂ (λ xs ys. xs ++ ys) same brings))
    (held_together s part.lawful worker.part part.is_part t (on s t).agents (whole worker part t))
