-- Every right piece of a lawful run is of the program's classes.
use Rattle.std.proofs.Common.{◌≡◌, ◌∙◌, refl, sym, ap, subst, ℕ, ◌+◌, ◌-◌, ◌≤◌, List, [], ◌∷◌, map, filter, Bool, true, Option, Some, None}
use Rattle.std.specs.Prelude.{slice_get}
use Rattle.std.specs.List.{All, AllByRecursion, list_all, flat_map}
use Rattle.std.specs.Option.{option_map}
use Rattle.std.proofs.lemmas.Bool.{and_parts}
use Rattle.std.proofs.lemmas.Option.{slice_get-map, slice_get_within, get_or_from_slice_get}
use Rattle.std.proofs.lemmas.List.Concat.{flat_map-cons}
use Rattle.std.proofs.lemmas.List.Sums.{AllPass-from_list_all, list_all-from_AllPass}
use Rattle.std.proofs.lemmas.List.Elements.{All-filter, All-map}
use Rattle.brace_cuts.specs.declared.space.Cuts.{Cuts}
use Rattle.brace_model.specs.declared.program.Class.{Class}
use Rattle.brace_model.specs.declared.program.Program.{Program}
use Rattle.brace_model.specs.declared.world.Agent.{Agent}
use Rattle.brace_model.specs.World.{World, class_of}
use Rattle.brace_model.specs.Lawful.{LawfulAgents, has_states, is_lawful_agent}
use Rattle.brace_pieces.specs.declared.setting.Setting.{Setting}
use Rattle.brace_pieces.specs.declared.setting.Stage.{Stage}
use Rattle.brace_pieces.specs.declared.setting.Stage.TheVariants as stage
use Rattle.brace_pieces.specs.declared.setting.Step.{Step}
use Rattle.brace_pieces.specs.declared.piece.Piece.{Piece}
use Rattle.brace_pieces.specs.declared.piece.Piece.TheVariants as piece
use Rattle.brace_pieces.specs.declared.piece.Shown.{Shown}
use Rattle.brace_pieces.specs.Settings.{cuts_of, cuts_shown, shown_ticks}
use Rattle.brace_pieces.specs.Steps.{steps}
use Rattle.brace_pieces.specs.Continued.{descent, on}
use Rattle.brace_pieces.specs.Owned.{owned}
use Rattle.brace_pieces.specs.Right.{IsRightIn, IsRightAt, border, handed, moved, shown}
use Rattle.brace_pieces.proofs.OnLemmas.{on_next}
use Rattle.brace_pieces.proofs.OrderLemmas.{steps_tick}
use Rattle.brace_herd.proofs.LawfulOn.{some_pass}
use Rattle.brace_crew.proofs.MemberLemmas.{of_all_map}
use Rattle.brace_wire.specs.Fitting.{layout, are_of, is_of, IsOf}
use Rattle.brace_wire.specs.Shown.{HasBytes}
use Rattle.brace_wire.proofs.StreamLemmas.{all_append}

module _ (s : Setting) (lawful : (t : ℕ) → LawfulAgents s.job.program (on s t).agents) where
  abbrev m : Program
  m = s.job.program

  abbrev AreOf : List Agent → Type 0
  AreOf agents = AllByRecursion (λ a. is_of (layout m) a ≡ true) agents

  abbrev pass : List Agent → Type 0
  pass agents = list_all (is_lawful_agent m) agents ≡ true

  by_class : (o : Option Class) (a : Agent) → has_states o a ≡ true → are_of (option_map (λ c. map (λ st. st.ty) c.states) o) a.states ≡ true
  by_class None a e = absurd cc
  by_class (Some c) a e = e

  one_of : (a : Agent) → is_lawful_agent m a ≡ true → is_of (layout m) a ≡ true
  one_of a good =
      ap (λ o. are_of o a.states) (slice_get-map (λ c. map (λ st. st.ty) c.states) m.classes a.class)
      ∙ by_class (class_of m a) a (and_parts _ (has_states (class_of m a) a) good).1

  all_of : (agents : List Agent) → pass agents → AreOf agents
  all_of [] all = tt
  all_of (a ∷ agents) all = let (here, rest) = and_parts (is_lawful_agent m a) _ all in (one_of a here, all_of agents rest)

  owned_of : (cuts : Cuts) (p : ℕ) (agents : List Agent) → pass agents → pass (owned m cuts p agents)
  owned_of cuts p agents all = some_pass (is_lawful_agent m) _ agents all

  on_of : (t : ℕ) → pass (on s t).agents
  on_of t = (lawful t).each_is_lawful

  -- what is moved is of the next world
  next_of : (t : ℕ) → s.job.first ≤ t → pass (map (λ (d : ℕ × Agent). d.1) (descent s t (on s t)))
  next_of t low = subst (λ (w : World). pass w.agents) (on_next s t low) (on_of (t + 1))

  seconds : (ds : List (ℕ × Agent)) (test : ℕ × Agent → Bool) → pass (map (λ (d : ℕ × Agent). d.1) ds) → pass (map (λ (d : ℕ × Agent). d.1) (filter test ds))
  seconds ds test all =
      list_all-from_AllPass (is_lawful_agent m) (map (λ (d : ℕ × Agent). d.1) (filter test ds))
      (All-map (λ a. is_lawful_agent m a ≡ true) (λ (d : ℕ × Agent). d.1) (filter test ds)
      (All-filter test (λ (d : ℕ × Agent). is_lawful_agent m d.1 ≡ true) ds (each ds (AllPass-from_list_all (is_lawful_agent m) (map (λ (d : ℕ × Agent). d.1) ds) all))))
    where
      each : (ds : List (ℕ × Agent)) → All (λ a. is_lawful_agent m a ≡ true) (map (λ (d : ℕ × Agent). d.1) ds)
          → All (λ (d : ℕ × Agent). is_lawful_agent m d.1 ≡ true) ds
      each ds all = of_all_map (λ (d : ℕ × Agent). d.1) (λ a. is_lawful_agent m a ≡ true) ds all

  module _ (number tick from to : ℕ) where
    border_of : (at : Stage) (agents : List Agent) → IsRightAt s number at tick from to (piece.Border agents) → AreOf agents
    border_of stage.Border agents right =
        subst AreOf (sym right) (all_of (border s tick from to (on s tick).agents) (some_pass (is_lawful_agent m) _ (owned m (cuts_of s tick) from (on s tick).agents) (owned_of (cuts_of s tick) from (on s tick).agents (on_of tick))))
    border_of _ agents right = absurd right

    hand_of : (at : Stage) (agents : List Agent) → IsRightAt s number at tick from to (piece.Hand agents) → AreOf agents
    hand_of stage.Hand agents right =
        subst AreOf (sym right) (all_of (handed s tick from to (on s tick).agents)
        (owned_of (cuts_of s tick) to _ (owned_of (cuts_of s (tick - 1)) from (on s tick).agents (on_of tick))))
    hand_of _ agents right = absurd right

    move_of : (at : Stage) (agents : List Agent) → ((at ≡ stage.Show → ⊥) → s.job.first ≤ tick) → IsRightAt s number at tick from to (piece.Move agents) → AreOf agents
    move_of stage.Move agents low right =
        subst AreOf (sym right) (all_of (moved s tick from to (on s tick))
        (owned_of (cuts_of s tick) to _ (seconds (descent s tick (on s tick)) _ (next_of tick (low (λ same. absurd cc))))))
    move_of _ agents low right = absurd right

    shown_of : (ticks : List ℕ) → AllByRecursion (λ a. is_of (layout m) a ≡ true) (flat_map (λ (w : Shown). w.agents) (map (shown s tick from) ticks))
    shown_of [] = tt
    shown_of (t ∷ ticks) =
        subst AreOf (sym (flat_map-cons (λ (w : Shown). w.agents) (shown s tick from t) (map (shown s tick from) ticks)))
        (all_append (λ a. is_of (layout m) a ≡ true) (shown s tick from t).agents (flat_map (λ (w : Shown). w.agents) (map (shown s tick from) ticks))
        (all_of (shown s tick from t).agents (owned_of (cuts_shown s tick) from (on s t).agents (on_of t))) (shown_of ticks))

    show_of : (at : Stage) (list : List Shown) → IsRightAt s number at tick from to (piece.Show list) → AreOf (flat_map (λ (w : Shown). w.agents) list)
    show_of stage.Show list right = subst (λ (l : List Shown). AreOf (flat_map (λ (w : Shown). w.agents) l)) (sym right.shown) (shown_of (shown_ticks s tick))
    show_of _ list right = absurd right

    right_of : (at : Stage) → ((at ≡ stage.Show → ⊥) → s.job.first ≤ tick) → (p : Piece) → IsRightAt s number at tick from to p → IsOf (layout m) p
    right_of at low (piece.Border agents) right = border_of at agents right
    right_of at low (piece.Move agents) right = move_of at agents low right
    right_of at low (piece.Hand agents) right = hand_of at agents right
    right_of at low (piece.Show list) right = show_of at list right
    right_of at low _ right = tt

  pub have_bytes : HasBytes s
  have_bytes name p right = by_step (slice_get (steps s) name.step) refl right
    where
      by_step : (o : Option Step) → slice_get (steps s) name.step ≡ o → IsRightIn s name p o → IsOf (layout m) p
      by_step None is right = absurd right
      by_step (Some at) is right =
          let k : ℕ = name.step in
          let ticks = steps_tick s k at (slice_get_within (steps s) k at is) in
          let same = get_or_from_slice_get (steps s) k at at is in
          right_of name.step at.tick name.from name.to at.stage (λ other. subst (λ (x : Step). s.job.first ≤ x.tick) same (ticks (λ show. other (sym (ap (λ (x : Step). x.stage) same) ∙ show))).0) p right
