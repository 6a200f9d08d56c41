-- What a part hears and finds in a step, and what its agents leave.
use Rattle.std.proofs.Common.{◌≡◌, ◌∙◌, refl, sym, ap, ap₂, subst, ℕ, ◌<◌, ◌≤◌, ◌^◌, List, [], ◌∷◌, ◌++◌, map, filter_map, flat_map, length, Bool, true, false, Some, None, Result, Ok, Err, arith, IfErr}
use Rattle.std.specs.Prelude.{slice_get, if◌then◌else◌}
use Rattle.std.specs.List.{Contains, cons_option, list_all}
use Rattle.std.specs.Result.{result_ok, result_err}
use Rattle.std.proofs.lemmas.List.Elements.{All-append, All-weaker, All-contains_itself, Contains-append_left}
use Rattle.brace_model.specs.declared.program.Program.{Program}
use Rattle.brace_model.specs.declared.fault.Fault.{Fault}
use Rattle.brace_model.specs.declared.world.Agent.{Agent}
use Rattle.brace_model.specs.World.{RisesById}
use Rattle.brace_model.specs.FaultOrder.{phase_rank, comes_before, least}
use Rattle.brace_model.specs.Query.{Saying, said_in}
use Rattle.brace_model.specs.Next.{Next}
use Rattle.brace_model.specs.Step.{living, children}
use Rattle.brace_model.specs.Lawful.{is_lawful_agent}
use Rattle.brace_model.proofs.FaultLemmas.{least_is, least_none}
use Rattle.brace_cuts.specs.Space.{area_of}
use Rattle.brace_cuts.specs.declared.space.Cuts.{Cuts}
use Rattle.brace_invert.specs.Held.{is_near}
use Rattle.brace_invert.specs.Split.{forward_program, inverse_program}
use Rattle.brace_invert.proofs.Heard.{seen_in}
use Rattle.brace_invert.proofs.Nearness.{nearer}
use Rattle.brace_invert.proofs.Sites.{none_within}
use Rattle.brace_eval.specs.declared.heard.Heard.{Heard}
use Rattle.brace_eval.specs.Heard.{IsHeard}
use Rattle.brace_eval.specs.Heard as table
use Rattle.brace_pieces.specs.declared.setting.Setting.{Setting}
use Rattle.brace_pieces.specs.declared.setting.Stage.{Stage}
use Rattle.brace_pieces.specs.declared.setting.Stage.TheVariants as stage
use Rattle.brace_pieces.specs.declared.piece.Cause.{Cause}
use Rattle.brace_pieces.specs.declared.piece.Piece.{Piece}
use Rattle.brace_pieces.specs.Settings.{cuts_of, range}
use Rattle.brace_pieces.specs.Steps.{step, steps}
use Rattle.brace_pieces.specs.Owned.{owns, owned}
use Rattle.brace_pieces.specs.Continued.{said, becomes, left_or_kept, on}
use Rattle.brace_pieces.specs.Finds.{queries_found, updates_found}
use Rattle.brace_pieces.specs.Together.{AreWhole}
use Rattle.brace_pieces.specs.Right.{said_by}
use Rattle.brace_pieces.specs.Heard.{own, near, said_here, heard, told, tellers, joined}
use Rattle.brace_pieces.proofs.Meetings.{range_some}
use Rattle.brace_pieces.proofs.OnLemmas.{on_rises, on_whole}
use Rattle.brace_pieces.proofs.HeardHere.{StandInside, whole_inside, becomes_heard, becomes_joined, finds_here}
use Rattle.brace_pieces.proofs.FaultLemmas.{later_phase}
use Rattle.brace_pieces.proofs.ToldLemmas.{Ticks, steps_tick, query_found, update_found}
use Rattle.brace_herd.specs.declared.work.Worker.{Worker}
use Rattle.brace_herd.specs.Works.{found_in_work, IsCauseOf}
use Rattle.brace_herd.specs.Placed.{ArePlaces}
use Rattle.brace_herd.specs.Ready.{own_in, left_in, children_in, updates_in, HearsAsked, HearsAll}
use Rattle.brace_herd.specs.Workers.{IsWorker}
use Rattle.brace_herd.specs.Said.{said_over, faults_over}
use Rattle.brace_herd.specs.inner.Tables.{TellBy}
use Rattle.brace_herd.proofs.LawfulOn.{on_lawful, some_pass, some_few}
use Rattle.brace_num.proofs.Lists.{map_alike, All-place, filter_weaker}
use Rattle.brace_num.proofs.Orders.{filter_rises}

-- ---- lists

-- where no update faults, agents leave what becomes of them
pub all_leave : (f : Agent → Result Next Fault) (xs : List Agent)
    → filter_map result_err (map f xs) ≡ []
    → filter_map result_ok (map f xs) ≡ map (λ a. left_or_kept a (f a)) xs
all_leave f [] none = refl
all_leave f (x ∷ xs) none = (elim (f x) as (λ r. cons_option (result_err r) (filter_map result_err (map f xs)) ≡ [] → cons_option (result_ok r) (filter_map result_ok (map f xs)) ≡ left_or_kept x r ∷ map (λ a. left_or_kept a (f a)) xs) [
  | Ok n ↦ λ none. ap (λ ns. n ∷ ns) (all_leave f xs none)
  | Err e ↦ λ none. absurd (cc)
]) none

-- the least of two lists of faults is that of the first where all of the second come later
least_first : (xs ys : List Fault) (f : Fault) → least xs ≡ Some f → ((g : Fault) → Contains ys g → comes_before g f ≡ false) → least (xs ++ ys) ≡ Some f
least_first xs ys f e later =
    let P = λ (g : Fault). comes_before g f ≡ false in
    let (there, low) = (least_is xs f).0 e in
    (least_is (xs ++ ys) f).1 (Contains-append_left xs ys f there, All-append P xs ys low (All-weaker (Contains ys) P (λ g h. later g h) ys (All-contains_itself ys)))

-- ---- results

pub err_weaker : {X Y : Type 0} (r : Result X Y) (P Q : Y → Type 0) → ((y : Y) → P y → Q y) → IfErr r P → IfErr r Q
err_weaker (Ok x) P Q f p = p
err_weaker (Err e) P Q f p = f e p

-- ---- steps

pub step_ticks : (s : Setting) (k t : ℕ) (at : Stage) → (at ≡ stage.Show → ⊥) → slice_get (steps s) k ≡ Some (step at t) → (s.job.first ≤ t) × (t < s.job.last)
step_ticks s k t at other stands = All-place (Ticks s) (steps s) k (step at t) (steps_tick s) stands other

module _ (worker : Worker) (part : IsWorker worker) (t : ℕ) where
  abbrev s : Setting
  s = worker.setting.now

  abbrev p : ℕ
  p = worker.part

  abbrev m : Program
  m = s.job.program

  pub tick_fits : (at : Stage) → (at ≡ stage.Show → ⊥) → slice_get (steps s) worker.number ≡ Some (step at t) → t ≤ 2 ^ 32
  tick_fits at other stands = omega (arith, (step_ticks s worker.number t at other stands).1, part.lawful.job_is_lawful.last_in_range)

  abbrev w : List Agent
  w = (on s t).agents

  pub rises : RisesById w
  rises = on_rises s part.lawful t

  pub whole : AreWhole m w
  whole = on_whole s part.lawful part.numbers t

  -- ---- what a part owns of what it holds

  pub own_of_near : own s t p (near s t p w) ≡ own s t p w
  own_of_near = filter_weaker (owns m (cuts_of s t) p) (is_near m (area_of (cuts_of s t) p) (range s)) w
      (λ a there owned. nearer m (area_of (cuts_of s t) p) a _ (range s) (range_some s part.lawful) (whole_inside s part.lawful t w whole p a part.is_part there owned))

  pub own_is_near : (a : Agent) → Contains (own s t p w) a → Contains (near s t p w) a
  own_is_near a there = (seen_in (owns m (cuts_of s t) p) (near s t p w) a (subst (λ xs. Contains xs a) (sym own_of_near) there)).0

  -- the places of what it owns of what it holds are those of what it owns
  pub own_at_places : (agents : List Agent) (cuts : Cuts) (places : List ℕ) → agents ≡ near s t p w → cuts ≡ cuts_of s t
      → ArePlaces agents (owned m cuts p agents) places → ArePlaces agents (own_in s p t) places
  own_at_places agents cuts places e same are =
      subst (λ xs. ArePlaces agents xs places) (ap (λ (c : Cuts). owned m c p agents) same ∙ ap (own s t p) e ∙ own_of_near) are

  pub near_rises : (agents : List Agent) → agents ≡ near s t p w → RisesById agents
  near_rises agents e = subst RisesById (sym e) (filter_rises (λ (a : Agent). a.id) (is_near m (area_of (cuts_of s t) p) (range s)) w rises)

  pub near_lawful : (agents : List Agent) → agents ≡ near s t p w → list_all (is_lawful_agent m) agents ≡ true
  near_lawful agents e =
      subst (λ xs. list_all (is_lawful_agent m) xs ≡ true) (sym e)
      (some_pass (is_lawful_agent m) (is_near m (area_of (cuts_of s t) p) (range s)) w (on_lawful s part.lawful t).each_is_lawful)

  pub near_few : (agents : List Agent) → agents ≡ near s t p w → length agents ≤ 2 ^ 20
  near_few agents e =
      subst (λ (xs : List Agent). length xs ≤ 2 ^ 20) (sym e)
      (some_few (is_lawful_agent m) (is_near m (area_of (cuts_of s t) p) (range s)) w (2 ^ 20) (on_lawful s part.lawful t).few_agents)

  -- ---- what it hears

  pub inside : StandInside s t w
  inside = whole_inside s part.lawful t w whole

  -- with inversion what the queries say that it evaluates is all
  pub becomes_asked : s.invert ≡ true → (a : Agent) → Contains (own_in s p t) a
      → becomes s t (said s t w) a ≡ becomes s t (said_over s t (own_in s p t) (near s t p w)) a
  becomes_asked inverted a there =
      becomes_heard s part.lawful t w inside p part.is_part a there rises
      ∙ ap (λ xs. becomes s t xs a) same
    where
      same : heard s t p w ≡ said_over s t (own_in s p t) (near s t p w)
      same =
          ap (λ c. if c then (said_here
          (forward_program m) s t p w ++ said_in (inverse_program m) s.job.seed t
          (near s t p w)) else (said_here m s t p w ++ flat_map (λ q. said_by s t q w)
          (tellers s t p))) inverted
          ∙ sym (ap (λ c. if c then (table.said_by (forward_program m) s.job.seed t (near s t p w)
          (own s t p w) ++ table.said_by (inverse_program m) s.job.seed t (near s t p w)
          (near s t p w)) else table.said_by m s.job.seed t (near s t p w) (own s t p w)) inverted)

  pub asked_all : s.invert ≡ true → (agents : List Agent) (it : Heard) → HearsAsked s p t agents it → HearsAll s p t agents it
  asked_all inverted agents it h = record {
    holds = h.holds;
    told = said_over s t (own_in s p t) agents;
    faults = faults_over s t (own_in s p t) agents;
    hears = h.hears;
    becomes_so = λ a there. becomes_asked inverted a there
        ∙ sym (ap (λ xs. becomes s t (said_over s t (own_in s p t) xs) a) h.holds);
  }

  -- and without it what they say and what pieces tell
  abbrev pub told_there : List Saying
  told_there = flat_map (λ q. told s t q p w) (tellers s t p)

  pub becomes_told : s.invert ≡ false → (a : Agent) → Contains (own_in s p t) a
      → becomes s t (said s t w) a ≡ becomes s t
      (said_over s t (own_in s p t) (near s t p w) ++ told_there) a
  becomes_told plain a there =
      becomes_joined s part.lawful t w inside p part.is_part plain rises a there
      ∙ ap (λ xs. becomes s t xs a) same
    where
      same : joined s t p w ≡ said_over s t (own_in s p t) (near s t p w) ++ told_there
      same =
          sym (ap (λ c. (if c then (table.said_by (forward_program m) s.job.seed t (near s t p w)
          (own s t p w) ++ table.said_by (inverse_program m) s.job.seed t (near s t p w)
          (near s t p w)) else table.said_by m s.job.seed t (near s t p w)
          (own s t p w)) ++ told_there) plain)

  pub told_all : s.invert ≡ false → (agents : List Agent) (it after : Heard) (pieces : List Piece) → HearsAsked s p t agents it
      → TellBy m (near s t p w) pieces told_there
      → ((some more : List Saying) (faults : List Fault) → IsHeard m agents some faults it → TellBy m agents pieces more → IsHeard m agents (some ++ more) faults after)
      → HearsAll s p t agents after
  told_all plain agents it after pieces h tells joins = record {
    holds = h.holds;
    told = said_over s t (own_in s p t) agents ++ told_there;
    faults = faults_over s t (own_in s p t) agents;
    hears = joins (said_over s t (own_in s p t) agents) told_there
        (faults_over s t (own_in s p t) agents) h.hears
        (subst (λ xs. TellBy m xs pieces told_there) (sym h.holds) tells);
    becomes_so = λ a there. becomes_told plain a there
        ∙ sym (ap (λ xs. becomes s t (said_over s t (own_in s p t) xs ++ told_there) a) h.holds);
  }

  -- ---- what its agents leave

  results : (agents : List Agent) (it : Heard) (h : HearsAll s p t agents it) → map (becomes s t h.told) (owned m (cuts_of s t) p agents) ≡ map (becomes s t (said s t w)) (own_in s p t)
  results agents it h =
      ap (λ xs. map (becomes s t h.told) (own s t p xs)) h.holds
      ∙ ap (map (becomes s t h.told)) own_of_near
      ∙ sym (map_alike (becomes s t (said s t w)) (becomes s t h.told) (own s t p w) (λ a there. h.becomes_so a there))

  -- a fact on what becomes of the agents, whatever was heard
  abbrev pub OfResults : List Agent → Heard → (List (Result Next Fault) → Type 0) → Type 0
  OfResults agents it P = (some : List Saying) (faults : List Fault) → IsHeard m agents some faults it → P (map (becomes s t some) (owned m (cuts_of s t) p agents))

  of_results : (agents : List Agent) (it : Heard) → HearsAll s p t agents it → (P : List (Result Next Fault) → Type 0) → OfResults agents it P → P (map (becomes s t (said s t w)) (own_in s p t))
  of_results agents it h P each = subst P (results agents it h) (each h.told h.faults h.hears)

  pub none_found : (agents : List Agent) (it : Heard) → HearsAll s p t agents it → OfResults agents it (λ rs. least (filter_map result_err rs) ≡ None) → least (updates_in s p t) ≡ None
  none_found agents it h each = of_results agents it h (λ rs. least (filter_map result_err rs) ≡ None) each

  pub cause_found : (agents : List Agent) (it : Heard) → HearsAll s p t agents it → (c : Cause) → OfResults agents it (λ rs. IsCauseOf (filter_map result_err rs) c) → IsCauseOf (updates_in s p t) c
  cause_found agents it h c each = of_results agents it h (λ rs. IsCauseOf (filter_map result_err rs) c) each

  pub left_is : (agents : List Agent) (it : Heard) → HearsAll s p t agents it → (left : List Agent) → OfResults agents it (λ rs. left ≡ living (filter_map result_ok rs))
      → OfResults agents it (λ rs. least (filter_map result_err rs) ≡ None) → left ≡ left_in s p t
  left_is agents it h left each passes =
      of_results agents it h (λ rs. left ≡ living (filter_map result_ok rs)) each
      ∙ ap living (all_leave (becomes s t (said s t w)) (own_in s p t) ((least_none (updates_in s p t)).0 (none_found agents it h passes)))

  pub born_is : (agents : List Agent) (it : Heard) → HearsAll s p t agents it → (born : List Agent) → OfResults agents it (λ rs. born ≡ children (filter_map result_ok rs))
      → OfResults agents it (λ rs. least (filter_map result_err rs) ≡ None) → born ≡ children_in s p t
  born_is agents it h born each passes =
      of_results agents it h (λ rs. born ≡ children (filter_map result_ok rs)) each
      ∙ ap children (all_leave (becomes s t (said s t w)) (own_in s p t) ((least_none (updates_in s p t)).0 (none_found agents it h passes)))

  -- ---- what it finds

  pub asked_least : (agents : List Agent) (it : Heard) → HearsAsked s p t agents it → it.least ≡ least (queries_found s t p w)
  asked_least agents it h =
      h.hears.least ∙ ap (λ xs. least (faults_over s t (own_in s p t) xs)) h.holds ∙ ap least (finds_here s part.lawful t w inside p part.is_part)

  -- a fault of its queries comes before those of its updates
  pub query_is_least : (f : Fault) → least (queries_found s t p w) ≡ Some f → least (found_in_work s p stage.Border t) ≡ Some f
  query_is_least f e = least_first (queries_found s t p w) (if s.invert then updates_found s t p w else []) f e (later s.invert)
    where
      later : (b : Bool) (g : Fault) → Contains (if b then updates_found s t p w else []) g → comes_before g f ≡ false
      later true g h =
          let lawful = part.lawful.job_is_lawful.program_is_lawful in
          let first = (query_found s lawful t p w f ((least_is (queries_found s t p w) f).0 e).0).1 in
          let second = (update_found s lawful t p w g h).1 in
          later_phase g f (first.tick ∙ sym second.tick) (omega (arith, ap phase_rank first.phase, ap phase_rank second.phase))
      later false g h = none_within (comes_before g f ≡ false) g h

  pub found_inverted : s.invert ≡ true → least (queries_found s t p w) ≡ None → found_in_work s p stage.Border t ≡ updates_in s p t
  found_inverted inverted none = ap₂ (λ xs ys. xs ++ ys) ((least_none (queries_found s t p w)).0 none) (ap (λ c. if c then updates_found s t p w else []) inverted)

  pub found_plain : s.invert ≡ false → least (queries_found s t p w) ≡ None → found_in_work s p stage.Border t ≡ []
  found_plain plain none = ap₂ (λ xs ys. xs ++ ys) ((least_none (queries_found s t p w)).0 none) (ap (λ c. if c then updates_found s t p w else []) plain)
