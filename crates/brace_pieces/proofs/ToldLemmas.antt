-- The faults that a part finds may be told, behind the step in whose work they are found.
use Rattle.std.proofs.Common.{◌≡◌, ◌∙◌, refl, sym, ap, subst, ℕ, ◌<◌, ◌≤◌, List, [], ◌∷◌, ◌++◌, map, filter, filter_map, flat_map, Bool, true, false, Option, Result, Ok, Err, arith, ⊎_elim, inl, inr}
use Rattle.std.specs.Prelude.{option_map, if◌then◌else◌}
use Rattle.std.specs.List.{Contains, cons_option}
use Rattle.std.specs.Result.{result_err}
use Rattle.std.proofs.lemmas.List.Elements.{Contains-append_left, Contains-append_right, Contains-append_cases}
use Rattle.brace_model.specs.declared.program.Program.{Program}
use Rattle.brace_model.specs.declared.fault.Fault.{Fault}
use Rattle.brace_model.specs.declared.fault.Phase.{Phase}
use Rattle.brace_model.specs.declared.fault.Phase.TheVariants.{Query, Update, Birth}
use Rattle.brace_model.specs.declared.world.Agent.{Agent}
use Rattle.brace_model.specs.World.{World, class_of}
use Rattle.brace_model.specs.Query.{query_of, query_faults}
use Rattle.brace_model.specs.Next.{Next}
use Rattle.brace_model.specs.Step.{living, children, first_too_far, birth_fault}
use Rattle.brace_model.specs.Lawful.{LawfulProgram}
use Rattle.brace_invert.specs.Split.{forward_program, inverse_program}
use Rattle.brace_invert.specs.Inversion.{found_by_both, IsForeseen}
use Rattle.brace_invert.specs.Held.{is_near}
use Rattle.brace_cuts.specs.Space.{area_of}
use Rattle.brace_invert.proofs.Inverting.{found_foreseen}
use Rattle.brace_invert.proofs.Owners.{faults_held}
use Rattle.brace_invert.proofs.Heard.{seen_in}
use Rattle.brace_pieces.proofs.Origins.{of_flat_map, flat_map_of}
use Rattle.brace_pieces.specs.declared.setting.Setting.{Setting}
use Rattle.brace_pieces.specs.declared.piece.Cause.{Cause}
use Rattle.brace_pieces.specs.declared.piece.Cause.TheVariants as cause
use Rattle.brace_pieces.specs.Settings.{LawfulSetting, range, cuts_of}
use Rattle.brace_pieces.specs.Steps.{step, steps}
use Rattle.brace_pieces.specs.Owned.{owns}
use Rattle.brace_pieces.specs.Continued.{said, becomes, on, all_left, birth_faults}
use Rattle.brace_pieces.specs.Finds.{faults_of, queries_found, updates_found, all_queries_found, found_in, stage_of}
use Rattle.brace_pieces.specs.Right.{StandsBefore, IsTold, IsRightCause}
use Rattle.brace_pieces.specs.Heard.{own, near}
use Rattle.brace_pieces.proofs.FaultLemmas.{IsOf, queries_are_of, next_is_of, updates_are_of, births_of, in_births}
pub use Rattle.brace_pieces.proofs.OrderLemmas.{Ticks, steps_tick}
use Rattle.brace_pieces.proofs.PlaceLemmas.{no_show}
use Rattle.brace_num.proofs.Lists.{All-place}

-- ---- what some elements of a list give all of them give

given_within : {A B : Type 0} (f : A → List B) (t : A → Bool) (xs : List A) (g : B) → Contains (flat_map f (filter t xs)) g → Contains (flat_map f xs) g
given_within f t xs g h = let of = of_flat_map f (filter t xs) g h in flat_map_of f xs of.from g (seen_in t xs of.from of.there).0 of.gives

-- errors as a list
abbrev pub errors : Result Next Fault → List Fault
errors (Ok n) = []
errors (Err f) = f ∷ []

pub errors_are : (f : Agent → Result Next Fault) (agents : List Agent) → filter_map result_err (map f agents) ≡ flat_map (λ a. errors (f a)) agents
errors_are f [] = refl
errors_are f (a ∷ agents) = (elim (f a) as (λ r. cons_option (result_err r) (filter_map result_err (map f agents)) ≡ errors r ++ flat_map (λ x. errors (f x)) agents) [
  | Ok n ↦ errors_are f agents
  | Err e ↦ ap (λ xs. e ∷ xs) (errors_are f agents)
])

module _ (s : Setting) (lawful : LawfulProgram s.job.program) (t p : ℕ) (w : List Agent) where
  abbrev m : Program
  m = s.job.program

  foreseen_of : (f : Fault) → IsForeseen (query_faults m s.job.seed t w) f → IsOf t Query f
  foreseen_of f (inl here) = queries_are_of m lawful s.job.seed t w f here
  foreseen_of f (inr (g, there, after)) = let of = queries_are_of m lawful s.job.seed t w g there in record { tick = after.tick ∙ of.tick; phase = after.phase ∙ of.phase }

  all_of : (b : Bool) (f : Fault) → Contains (if b then found_by_both m s.job.seed t w else query_faults m s.job.seed t w) f → IsOf t Query f
  all_of true f h = foreseen_of f (found_foreseen m s.job.seed t w lawful f h)
  all_of false f h = queries_are_of m lawful s.job.seed t w f h

  both_found : (f : Fault) → Contains (faults_of (forward_program m) s t w (own s t p w) ++ faults_of (inverse_program m) s t (near s t p w) (near s t p w)) f → Contains (found_by_both m s.job.seed t w) f
  both_found f h =
      let forward : List Fault = query_faults (forward_program m) s.job.seed t w in
      let inverse : List Fault = query_faults (inverse_program m) s.job.seed t w in
      ⊎_elim
      (λ (y : Contains (faults_of (forward_program m) s t w (own s t p w)) f). Contains-append_left forward inverse f
      (given_within (λ a. (query_of (forward_program m) s.job.seed t w a).faults) (owns m (cuts_of s t) p) w f y))
      (λ (y : Contains (faults_of (inverse_program m) s t (near s t p w) (near s t p w)) f). Contains-append_right forward inverse f
      (faults_held (inverse_program m) s.job.seed t w (is_near m (area_of (cuts_of s t) p) (range s)) f y))
      (Contains-append_cases (faults_of (forward_program m) s t w (own s t p w)) (faults_of (inverse_program m) s t (near s t p w) (near s t p w)) f h)

  part_found : (b : Bool) (f : Fault)
      → Contains (if b then (faults_of (forward_program m) s t w (own s t p w) ++ faults_of (inverse_program m) s t (near s t p w) (near s t p w)) else faults_of m s t w (own s t p w)) f
      → Contains (if b then found_by_both m s.job.seed t w else query_faults m s.job.seed t w) f
  part_found true f h = both_found f h
  part_found false f h = given_within (λ a. (query_of m s.job.seed t w a).faults) (owns m (cuts_of s t) p) w f h

  -- what a part finds in its queries is found in those of all
  pub query_found : (f : Fault) → Contains (queries_found s t p w) f → Contains (all_queries_found s t w) f × IsOf t Query f
  query_found f h = let there = part_found s.invert f h in (there, all_of s.invert f there)

  -- and in its updates
  pub update_found : (f : Fault) → Contains (updates_found s t p w) f → Contains (filter_map result_err (map (becomes s t (said s t w)) w)) f × IsOf t Update f
  update_found f h =
      let next : Agent → Result Next Fault = becomes s t (said s t w) in
      let there : Contains (filter_map result_err (map next w)) f =
      subst (λ xs. Contains xs f) (sym (errors_are next w))
      (given_within (λ a. errors (next a)) (owns m (cuts_of s t) p) w f (subst (λ xs. Contains xs f) (errors_are next (own s t p w)) h)) in
      (there, updates_are_of t next (λ a g is. next_is_of s.job.seed t (class_of m a) _ a g is) w f there)

-- a fault that is told in a step is told in each later one
pub before_later : (s : Setting) (m n : ℕ) (f : Fault) → m ≤ n → IsTold s m f → IsTold s n f
before_later s m n f up h = record {
  not_before = h.not_before;
  within = h.within;
  found = h.found;
  behind = record { place = h.behind.place; stands_there = h.behind.stands_there; before = omega (arith, h.behind.before, up) };
}

pub right_later : (s : Setting) (m n : ℕ) (c : Cause) → m ≤ n → IsRightCause s m c → IsRightCause s n c
right_later s m n (cause.Fault f) up h = before_later s m n f up h
right_later s m n _ up h = h

-- a fault of a tick and a phase that is found there may be told behind the step of that tick and phase
told_then : (s : Setting) (t : ℕ) (phase : Phase) (f : Fault) (number : ℕ) → Contains (found_in s t phase) f → IsOf t phase f → StandsBefore s (step (stage_of s phase) t) number → IsTold s number f
told_then s t phase f number found of before =
    let (low, high) = All-place (Ticks s) (steps s) before.place (step (stage_of s phase) t) (steps_tick s) before.stands_there (λ e. no_show s phase (sym e)) in record {
      not_before = subst (λ u. s.job.first ≤ u) (sym of.tick) low;
      within = subst (λ u. u < s.job.last) (sym of.tick) high;
      found = subst (λ u. Contains (found_in s u f.phase) f) (sym of.tick) (subst (λ q. Contains (found_in s t q) f) (sym of.phase) found);
      behind = subst (λ u. StandsBefore s (step (stage_of s f.phase) u) number) (sym of.tick) (subst (λ q. StandsBefore s (step (stage_of s q) t) number) (sym of.phase) before);
    }

pub query_told : (s : Setting) → LawfulSetting s → (t p number : ℕ) (f : Fault) → Contains (queries_found s t p (on s t).agents) f → StandsBefore s (step (stage_of s Query) t) number → IsTold s number f
query_told s lawful t p number f h before =
    let (found, of) = query_found s lawful.job_is_lawful.program_is_lawful t p (on s t).agents f h in told_then s t Query f number found of before

pub update_told : (s : Setting) → LawfulSetting s → (t p number : ℕ) (f : Fault) → Contains (updates_found s t p (on s t).agents) f → StandsBefore s (step (stage_of s Update) t) number → IsTold s number f
update_told s lawful t p number f h before =
    let (found, of) = update_found s lawful.job_is_lawful.program_is_lawful t p (on s t).agents f h in told_then s t Update f number found of before

pub birth_told : (s : Setting) (t number : ℕ) (f : Fault) → Contains (birth_faults s t (on s t)) f → StandsBefore s (step (stage_of s Birth) t) number → IsTold s number f
birth_told s t number f h before =
    let world : World = on s t in
    let left : List Next = all_left s t world.agents in
    let far : Option Agent = first_too_far (living left) world.next (children left) in
    told_then s t Birth f number h (births_of s.job.program t far f (in_births (option_map (birth_fault s.job.program t) far) f h)) before
