-- What all find in a tick the parts find, and where they find nothing the run goes on.
use Rattle.std.proofs.Common.{◌≡◌, ◌∙◌, refl, sym, ap, subst, ℕ, ◌+◌, ◌-◌, ◌<◌, ◌≤◌, ℤ, pos, ◌≤ℤ◌, ◌+ℤ◌, List, [], ◌++◌, flat_map, Bool, true, false, Some, Result, Ok, Err, arith, ⊎_elim}
use Rattle.std.specs.Prelude.{if◌then◌else◌}
use Rattle.std.specs.List.{Contains}
use Rattle.std.proofs.lemmas.Bool.{eq-eqb}
use Rattle.std.proofs.lemmas.Int.{ints}
use Rattle.std.proofs.lemmas.List.Elements.{Contains-append_left, Contains-append_right, Contains-append_cases}
use Rattle.brace_num.specs.declared.kinds.Area.{Area}
use Rattle.brace_model.specs.declared.program.Class.{Class}
use Rattle.brace_model.specs.declared.program.Program.{Program}
use Rattle.brace_model.specs.declared.fault.Fault.{Fault}
use Rattle.brace_model.specs.declared.fault.Phase.{Phase}
use Rattle.brace_model.specs.declared.fault.Phase.TheVariants.{Query, Update, Birth}
use Rattle.brace_model.specs.declared.world.Agent.{Agent}
use Rattle.brace_model.specs.World.{class_of, x_of, y_of}
use Rattle.brace_model.specs.Query.{query_of, query_faults}
use Rattle.brace_model.specs.Next.{Next}
use Rattle.brace_model.specs.Run.{world_after, first_fault}
use Rattle.brace_model.proofs.RunLemmas.{world_after-ended}
use Rattle.brace_cuts.specs.declared.space.Cuts.{Cuts}
use Rattle.brace_cuts.specs.Space.{area_of, owner_of}
use Rattle.brace_invert.specs.Split.{inverse_query, forward_program, inverse_program}
use Rattle.brace_invert.specs.Inversion.{found_by_both}
use Rattle.brace_invert.specs.Range.{greatest_visible, range_of}
use Rattle.brace_invert.specs.Held.{is_in, is_near, HoldsNear}
use Rattle.brace_invert.proofs.Nearness.{nearer}
use Rattle.brace_invert.proofs.Heard.{seen_in}
use Rattle.brace_invert.proofs.Owners.{range_reaches}
use Rattle.brace_invert.proofs.Sites.{none_within}
use Rattle.brace_pieces.specs.declared.setting.Setting.{Setting}
use Rattle.brace_pieces.specs.Settings.{LawfulSetting, range, cuts_of, parts}
use Rattle.brace_pieces.specs.Owned.{owns_at, owns}
use Rattle.brace_pieces.specs.Numbers.{NumbersFit}
use Rattle.brace_pieces.specs.Together.{AreWhole, HaveClasses}
use Rattle.brace_pieces.specs.Continued.{said, becomes, continued_after, on, birth_faults, update_faults}
use Rattle.brace_pieces.specs.Finds.{faults_of, queries_found, updates_found, finds, found_by, IsFoundBy, all_queries_found, found_in}
use Rattle.brace_pieces.specs.Right.{IsFaultless}
use Rattle.brace_pieces.specs.Heard.{own, near}
use Rattle.brace_pieces.proofs.Origins.{of_flat_map, flat_map_of}
use Rattle.brace_pieces.proofs.Meetings.{owner_is_part, range_some}
use Rattle.brace_pieces.proofs.QueryHeld.{part_held}
use Rattle.brace_pieces.proofs.HeardHere.{whole_inside}
use Rattle.brace_pieces.proofs.WorldLemmas.{continued_is}
use Rattle.brace_pieces.proofs.FaultLemmas.{found_over, is_error, step_is_of, step_found}
use Rattle.brace_pieces.proofs.HaltLemmas.{Ended, ended, found_same}
use Rattle.brace_pieces.proofs.ToldLemmas.{errors, errors_are}
use Rattle.brace_pieces.proofs.OnLemmas.{on_whole, on_classed}
use Rattle.brace_num.proofs.Lists.{in_filter}

-- a part gives something
record SomeGives {B : Type 0} (s : Setting) (gives : ℕ → List B) (b : B) : Type 0 where
  pub part : ℕ
  pub is_part : part < parts s
  pub given : Contains (gives part) b

no_more : (v r : ℤ) → (pos 0 +ℤ v) ≤ℤ r → v ≤ℤ r
no_more v r h = omega (arith, ints, h)

module _ (s : Setting) (lawful : LawfulSetting s) (t : ℕ) (w : List Agent) (whole : AreWhole s.job.program w) (classed : HaveClasses s.job.program w) where
  abbrev m : Program
  m = s.job.program

  abbrev cuts : Cuts
  cuts = cuts_of s t

  owned_at : (a : Agent) → Contains w a → (c : Class) → class_of m a ≡ Some c → SomeGives s (λ p. own s t p w) a
  owned_at a there c is =
      let p : ℕ = owner_of cuts (x_of c a) (y_of c a) in
      record {
        part = p;
        is_part = owner_is_part s lawful t (x_of c a) (y_of c a);
        given = in_filter (owns m cuts p) w a there (ap (λ o. owns_at cuts p o a) is ∙ eq-eqb p p refl);
      }

  -- each agent has an owner
  has_owner : (a : Agent) → Contains w a → SomeGives s (λ p. own s t p w) a
  has_owner a there = let (c, is) = classed a there in owned_at a there c is

  -- what all agents give those of a part give
  by_owner : {B : Type 0} (f : Agent → List B) (b : B) → Contains (flat_map f w) b → SomeGives s (λ p. flat_map f (own s t p w)) b
  by_owner f b has =
      let from = of_flat_map f w b has in
      let owner = has_owner from.from from.there in
      record {
        part = owner.part;
        is_part = owner.is_part;
        given = flat_map_of f (own s t owner.part w) from.from b owner.given from.gives;
      }

  module _ (inverted : s.invert ≡ true) (p : ℕ) (is_part : p < parts s) (a : Agent) (there : Contains (own s t p w) a) where
    abbrev area : Area
    area = area_of cuts p

    abbrev by : Agent → Bool
    by = is_near m area (range s)

    far : greatest_visible m ≤ℤ range s
    far = subst (λ b. greatest_visible m ≤ℤ range_of m b) (sym inverted) (no_more _ _ (range_reaches m lawful.job_is_lawful.program_is_lawful))

    holds : HoldsNear m area (greatest_visible m) w by
    holds b within h = nearer m area b (greatest_visible m) (range s) far h

    stands : is_in m area a ≡ true
    stands = let (within, is) = seen_in (owns m cuts p) w a there in whole_inside s lawful t w whole p a is_part within is

    -- its owner holds an agent, and evaluates its inverse query over the agents that it holds
    inverse_found : (f : Fault) → Contains (query_of (inverse_program m) s.job.seed t w a).faults f → Contains (faults_of (inverse_program m) s t (near s t p w) (near s t p w)) f
    inverse_found f h =
        flat_map_of (λ b. (query_of (inverse_program m) s.job.seed t (near s t p w) b).faults) (near s t p w) a f
        (in_filter by w a (seen_in (owns m cuts p) w a there).0 (nearer m area a (pos 0) (range s) (range_some s lawful) stands))
        (subst (λ d. Contains d.faults f) (sym (part_held inverse_query m s.job.seed t w area by lawful.job_is_lawful.program_is_lawful holds a stands)) h)

  inverse_by_owner : s.invert ≡ true → (f : Fault) → Contains (query_faults (inverse_program m) s.job.seed t w) f → SomeGives s (λ p. faults_of (inverse_program m) s t (near s t p w) (near s t p w)) f
  inverse_by_owner inverted f has =
      let from = of_flat_map (λ a. (query_of (inverse_program m) s.job.seed t w a).faults) w f has in
      let owner = has_owner from.from from.there in
      record {
        part = owner.part;
        is_part = owner.is_part;
        given = inverse_found inverted owner.part owner.is_part from.from owner.given f from.gives;
      }

  -- what is found in the queries of all a part finds
  query_by : (b : Bool) → s.invert ≡ b → (f : Fault) → Contains (if b then found_by_both m s.job.seed t w else query_faults m s.job.seed t w) f
      → SomeGives s (λ p. if b then (faults_of (forward_program m) s t w (own s t p w) ++ faults_of (inverse_program m) s t (near s t p w) (near s t p w)) else faults_of m s t w (own s t p w)) f
  query_by false plain f has = by_owner (λ a. (query_of m s.job.seed t w a).faults) f has
  query_by true inverted f has =
      ⊎_elim
      (λ (y : Contains (query_faults (forward_program m) s.job.seed t w) f).
      let g = by_owner (λ a. (query_of (forward_program m) s.job.seed t w a).faults) f y in
      record { part = g.part; is_part = g.is_part; given = Contains-append_left (forward g.part) (inverse g.part) f g.given })
      (λ (y : Contains (query_faults (inverse_program m) s.job.seed t w) f).
      let g = inverse_by_owner inverted f y in
      record { part = g.part; is_part = g.is_part; given = Contains-append_right (forward g.part) (inverse g.part) f g.given })
      (Contains-append_cases (query_faults (forward_program m) s.job.seed t w) (query_faults (inverse_program m) s.job.seed t w) f has)
    where
      forward : ℕ → List Fault
      forward p = faults_of (forward_program m) s t w (own s t p w)

      inverse : ℕ → List Fault
      inverse p = faults_of (inverse_program m) s t (near s t p w) (near s t p w)

  queries_by : (f : Fault) → Contains (all_queries_found s t w) f → SomeGives s (λ p. queries_found s t p w) f
  queries_by f has = query_by s.invert refl f has

  -- and what is found in the updates of all
  updates_by : (f : Fault) → Contains (update_faults s t w) f → SomeGives s (λ p. updates_found s t p w) f
  updates_by f has =
      let next : Agent → Result Next Fault = becomes s t (said s t w) in
      let g = by_owner (λ a. errors (next a)) f (subst (λ faults. Contains faults f) (errors_are next w) has) in
      record {
        part = g.part;
        is_part = g.is_part;
        given = subst (λ faults. Contains faults f) (sym (errors_are next (own s t g.part w))) g.given;
      }

module _ (s : Setting) (lawful : LawfulSetting s) (numbers : NumbersFit s) where
  some_part : 0 < parts s
  some_part = omega (arith, owner_is_part s lawful s.job.first (pos 0) (pos 0))

  -- each fault of a continued world is found by a part
  pub found_by_part : (t : ℕ) (phase : Phase) (f : Fault) → Contains (found_in s t phase) f → IsFoundBy s t phase f
  found_by_part t Query f has =
      let g = queries_by s lawful t (on s t).agents (on_whole s lawful numbers t) (on_classed s lawful numbers t) f has in
      record { part = g.part; is_part = g.is_part; finds = g.given }
  found_by_part t Update f has =
      let g = updates_by s lawful t (on s t).agents (on_whole s lawful numbers t) (on_classed s lawful numbers t) f has in
      record { part = g.part; is_part = g.is_part; finds = g.given }
  found_by_part t Birth f has = record { part = 0; is_part = some_part; finds = has }

  -- a part that finds nothing in a tick finds nothing in a phase of it
  none_in : (t p : ℕ) → finds s t p ≡ [] → (phase : Phase) (f : Fault) → Contains (found_by s t p phase) f → ⊥
  none_in t p none phase f has = none_within ⊥ f (subst (λ faults. Contains faults f) none (among phase has))
    where
      asked : List Fault
      asked = queries_found s t p (on s t).agents

      told : List Fault
      told = updates_found s t p (on s t).agents

      born : List Fault
      born = birth_faults s t (on s t)

      among : (phase : Phase) → Contains (found_by s t p phase) f → Contains (finds s t p) f
      among Query h = Contains-append_left (asked ++ told) born f (Contains-append_left asked told f h)
      among Update h = Contains-append_left (asked ++ told) born f (Contains-append_right asked told f h)
      among Birth h = Contains-append_right (asked ++ told) born f h

  none_found : (k : ℕ) → ((p : ℕ) → p < parts s → IsFaultless s k p) → (t : ℕ) → s.job.first ≤ t → t < k → (phase : Phase) (f : Fault) → Contains (found_in s t phase) f → ⊥
  none_found k none t low high phase f has =
      let by = found_by_part t phase f has in
      none_in t by.part (none by.part by.is_part t low high) phase f by.finds

-- what a run ended in is found in the tick that it ended in
ended_found : (s : Setting) → LawfulSetting s → (n : ℕ) (g : Fault) (h : Ended s n g) → Contains (found_in s (s.job.first + h.ticks) g.phase) g
ended_found s lawful n g h =
    let t : ℕ = s.job.first + h.ticks in
    let back : t - s.job.first ≡ h.ticks = omega arith in
    let world : on s t ≡ h.world = ap (continued_after s) back ∙ continued_is s h.ticks h.world h.there in
    subst (λ faults. Contains faults g) (sym (found_same s t g.phase))
    (subst (λ v. Contains (found_over s t v g.phase) g) (sym world) (step_found s t h.world lawful.job_is_lawful.program_is_lawful g h.ends))

-- where no part finds a fault before a tick the run has a world there
pub run_reaches : (s : Setting) → LawfulSetting s → NumbersFit s → (k : ℕ) → s.job.first ≤ k → ((p : ℕ) → p < parts s → IsFaultless s k p) → world_after s.job (k - s.job.first) ≡ Ok (on s k)
run_reaches s lawful numbers k low none =
    let n : ℕ = k - s.job.first in
    (elim (world_after s.job n) as (λ r. world_after s.job n ≡ r → world_after s.job n ≡ Ok (on s k)) [
      | Ok world ↦ λ is. is ∙ ap Ok (sym (continued_is s n world is))
      | Err g ↦ λ is.
          let h = ended s n g is in
          absurd (none_found s lawful numbers k none (s.job.first + h.ticks) (omega arith) (omega (arith, low, h.before)) g.phase g (ended_found s lawful n g h))
    ]) refl

module _ (s : Setting) (lawful : LawfulSetting s) (g : Fault) (first : first_fault s.job ≡ Some g) where
  abbrev n : ℕ
  n = s.job.last - s.job.first

  ends_in : Ended s n g
  ends_in = ended s n g (is_error (world_after s.job n) g first)

  in_tick : s.job.first + ends_in.ticks ≡ g.tick
  in_tick = let (phase, of) = step_is_of s (s.job.first + ends_in.ticks) ends_in.world lawful.job_is_lawful.program_is_lawful g ends_in.ends in sym of.tick

  pub first_not_before : s.job.first ≤ g.tick
  first_not_before = omega (arith, in_tick)

  pub first_within : g.tick < s.job.last
  first_within = omega (arith, in_tick, ends_in.before)

  -- a run finds its first fault in the fault's tick
  pub first_found : Contains (found_in s g.tick g.phase) g
  first_found = subst (λ t. Contains (found_in s t g.phase) g) in_tick (ended_found s lawful n g ends_in)

  -- and has a world in each tick up to it
  pub before_first : (t : ℕ) → s.job.first ≤ t → t ≤ g.tick → world_after s.job (t - s.job.first) ≡ Ok (on s t)
  before_first t low high =
      let k : ℕ = t - s.job.first in
      (elim (world_after s.job k) as (λ r. world_after s.job k ≡ r → world_after s.job k ≡ Ok (on s t)) [
        | Ok world ↦ λ is. is ∙ ap Ok (sym (continued_is s k world is))
        | Err f ↦ λ is.
            let d : ℕ = ends_in.ticks - k in
            let to : k + d ≡ ends_in.ticks = omega (arith, low, high, in_tick) in
            let ended_there : world_after s.job ends_in.ticks ≡ Err f = ap (world_after s.job) (sym to) ∙ world_after-ended s.job k d f is in
            let goes_on = ends_in.there in
            absurd (cc)
      ]) refl
