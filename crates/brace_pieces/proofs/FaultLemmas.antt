-- The first fault of a tick, and the faults that are found in it.
use Rattle.std.proofs.Common.{◌≡◌, ◌∙◌, refl, sym, ap, ap₂, subst, ℕ, ◌<◌, ◌≤◌, ℤ, List, [], map, filter_map, Bool, true, false, Option, Some, None, Result, Ok, Err, arith, inl, inr}
use Rattle.std.specs.Prelude.{option_map, if◌then◌else◌}
use Rattle.std.specs.List.{Contains}
use Rattle.std.specs.Result.{result_ok, result_err}
use Rattle.std.specs.declared.cmp.Ordering.TheVariants.{Greater}
use Rattle.std.specs.Ordering.{nat_cmp}
use Rattle.std.specs.Cmp.{nat_cmp_is}
use Rattle.std.proofs.lemmas.Cmp.{nat_cmp_total, tied_itself}
use Rattle.std.proofs.lemmas.List.Elements.{All-contains}
use Rattle.brace_model.specs.declared.program.Class.{Class}
use Rattle.brace_model.specs.declared.program.Program.{Program}
use Rattle.brace_model.specs.declared.fault.Stop.{Stop}
use Rattle.brace_model.specs.declared.fault.Fault.{Fault}
use Rattle.brace_model.specs.declared.fault.Phase.{Phase}
use Rattle.brace_model.specs.declared.fault.Phase.TheVariants.{Query, Update, Birth}
use Rattle.brace_model.specs.declared.world.Agent.{Agent}
use Rattle.brace_model.specs.World.{World, class_of}
use Rattle.brace_model.specs.FaultOrder.{phase_rank, comes_before, least}
use Rattle.brace_model.specs.Query.{opening_scope, query_in, query_of, query_faults}
use Rattle.brace_model.specs.Next.{Next, next, next_in, unless_stopped, first_stop, update_in, left_by, has_births}
use Rattle.brace_model.specs.Typing.{in_turn, scope_after}
use Rattle.brace_model.specs.Lawful.{query_scope, LawfulProgram}
use Rattle.brace_model.specs.Step.{all_next, living, children, first_too_far, birth_fault, grown, unless_faulty, step}
use Rattle.brace_model.proofs.FaultLemmas.{before_itself, least_is, least_none}
use Rattle.brace_invert.specs.Inversion.{found_by_both}
use Rattle.brace_invert.proofs.Inverting.{least_same}
use Rattle.brace_invert.proofs.Typed.{is_there}
use Rattle.brace_invert.proofs.Sites.{none_within, only_one}
use Rattle.brace_invert.proofs.Traces.{sited_run}
use Rattle.brace_pieces.specs.declared.setting.Setting.{Setting}
use Rattle.brace_pieces.specs.Continued.{listed, birth_faults, update_faults}
use Rattle.brace_pieces.specs.Finds.{all_queries_found}
use Rattle.brace_pieces.proofs.WorldLemmas.{all_become_next, left_then}
use Rattle.brace_pieces.proofs.Childless.{no_birth_faults}
use Rattle.brace_pieces.proofs.Origins.{of_flat_map, of_filter_map, of_map}
use Rattle.std.proofs.lemmas.Bool.{cases_Bool}
use Rattle.std.proofs.lemmas.Option.{same_Some}

-- ---- the order of faults

greater : (x y : ℕ) → y < x → nat_cmp x y ≡ Greater
greater x y above = sym (nat_cmp_is x y Greater above)

-- a fault of a later tick does not come before one
pub later_tick : (f g : Fault) → g.tick < f.tick → comes_before f g ≡ false
later_tick f g above = rw (greater f.tick g.tick above) refl

-- nor does one of a later phase of the same tick
pub later_phase : (f g : Fault) → g.tick ≡ f.tick → phase_rank g.phase < phase_rank f.phase → comes_before f g ≡ false
later_phase f g same above =
    rw (ap (nat_cmp f.tick) same ∙ tied_itself nat_cmp_total f.tick, greater (phase_rank f.phase) (phase_rank g.phase) above) refl

-- ---- of which tick and phase faults are

pub record IsOf (t : ℕ) (in_phase : Phase) (g : Fault) : Type 0 where
  pub tick : g.tick ≡ t
  pub phase : g.phase ≡ in_phase

query_is_of : (m : Program) → LawfulProgram m → (seed t : ℕ) (w : List Agent) (a : Agent) (class : Option Class) → class_of m a ≡ class → (g : Fault) → Contains (query_in m seed t w a class).faults g → IsOf t Query g
query_is_of m lawful seed t w a None e g h = none_within (IsOf t Query g) g h
query_is_of m lawful seed t w a (Some class) e g h =
    let here = lawful.classes_are_lawful a.class class e in
    let (last, formed) = is_there (in_turn (map scope_after class.query) (query_scope m a.class)) here.query_is_typed in
    let at = sited_run m w class.query (query_scope m a.class) last formed (opening_scope seed t class.query [] a) g h in
    record { tick = at.tick; phase = at.phase }

pub queries_are_of : (m : Program) → LawfulProgram m → (seed t : ℕ) (w : List Agent) (g : Fault) → Contains (query_faults m seed t w) g → IsOf t Query g
queries_are_of m lawful seed t w g h =
    let of = of_flat_map (λ a. (query_of m seed t w a).faults) w g h in query_is_of m lawful seed t w of.from (class_of m of.from) refl g of.gives

stopped_is_of : (t : ℕ) (a : Agent) (o : Option Stop) (left : Next) (g : Fault) → unless_stopped t a o left ≡ Err g → IsOf t Update g
stopped_is_of t a None left g e = absurd (cc)
stopped_is_of t a (Some stop) left g e = record { tick = cc; phase = cc }

pub next_is_of : (seed t : ℕ) (class : Option Class) (totals : List ℤ) (a : Agent) (g : Fault) → next_in seed t class totals a ≡ Err g → IsOf t Update g
next_is_of seed t None totals a g e = absurd (cc)
next_is_of seed t (Some class) totals a g e =
    let scope = opening_scope seed t [] totals a in
    stopped_is_of t a (first_stop (update_in scope class a)) (left_by scope class a) g e

pub is_error : {A : Type 0} (r : Result A Fault) (g : Fault) → result_err r ≡ Some g → r ≡ Err g
is_error (Ok a) g e = absurd (cc)
is_error (Err f) g e = let same : f ≡ g = cc in ap Err same

pub updates_are_of : (t : ℕ) (f : Agent → Result Next Fault) → ((a : Agent) (g : Fault) → f a ≡ Err g → IsOf t Update g) → (agents : List Agent) (g : Fault) → Contains (filter_map result_err (map f agents)) g → IsOf t Update g
updates_are_of t f each agents g h =
    let one = of_filter_map result_err (map f agents) g h in
    let two = of_map f agents one.from one.there in
    each two.from g (let same : f two.from ≡ one.from = same_Some _ _ two.made in same ∙ is_error one.from g one.made)

pub births_of : (m : Program) (t : ℕ) (o : Option Agent) (g : Fault) → option_map (birth_fault m t) o ≡ Some g → IsOf t Birth g
births_of m t None g e = absurd (cc)
births_of m t (Some child) g e = record { tick = cc; phase = cc }

pub in_births : (o : Option Fault) (f : Fault) → Contains (listed o) f → o ≡ Some f
in_births None f h = none_within (None ≡ Some f) f h
in_births (Some g) f h = only_one (λ x. Some g ≡ Some x) g f refl h

-- ---- the first fault of a tick

-- the faults that are found in a phase of a tick over a world
abbrev pub found_over : Setting → ℕ → World → Phase → List Fault
found_over s t w Query = all_queries_found s t w.agents
found_over s t w Update = update_faults s t w.agents
found_over s t w Birth = birth_faults s t w

-- a tick ends in a fault, of this tick, and in no later phase than one that is found, which is not less
pub record EndsBefore (s : Setting) (t : ℕ) (w : World) (f g : Fault) : Type 0 where
  pub ends : step s.job.program s.job.seed t w ≡ Err g
  pub not_less : comes_before f g ≡ false
  pub no_later : phase_rank g.phase ≤ phase_rank f.phase

-- where a step ends in a fault, one of its three least faults is that
data EndsIn (query update birth : Option Fault) (g : Fault) : Type 0 where
  in_query : query ≡ Some g → EndsIn query update birth g
  in_update : query ≡ None → update ≡ Some g → EndsIn query update birth g
  in_birth : query ≡ None → update ≡ None → birth ≡ Some g → EndsIn query update birth g

ends_in : (query update birth : Option Fault) (new : World) (g : Fault) → unless_faulty query update birth new ≡ Err g → EndsIn query update birth g
ends_in (Some f) update birth new g e = in_query (cc)
ends_in None (Some f) birth new g e = in_update refl (cc)
ends_in None None (Some f) new g e = in_birth refl refl (cc)
ends_in None None None new g e = absurd (cc)

module _ (s : Setting) (t : ℕ) (w : World) (lawful : LawfulProgram s.job.program) where
  abbrev m : Program
  m = s.job.program

  abbrev queries : List Fault
  queries = query_faults m s.job.seed t w.agents

  abbrev nexts : List (Result Next Fault)
  nexts = all_next m s.job.seed t w.agents

  abbrev updates : List Fault
  updates = filter_map result_err nexts

  abbrev left : List Next
  left = filter_map result_ok nexts

  abbrev births : Option Fault
  births = option_map (birth_fault m t) (first_too_far (living left) w.next (children left))

  abbrev new : World
  new = grown w.next (living left) (children left)

  endings : (g : Fault) → step m s.job.seed t w ≡ Err g → EndsIn (least queries) (least updates) births g
  endings g e = ends_in (least queries) (least updates) births new g e

  -- the fault in which the tick ends, where it is one of the queries, of the updates or of a birth
  step_by : {g : Fault} → least queries ≡ Some g → step m s.job.seed t w ≡ Err g
  step_by e = ap (λ o. unless_faulty o (least updates) births new) e

  step_behind : {g : Fault} → least queries ≡ None → least updates ≡ Some g → step m s.job.seed t w ≡ Err g
  step_behind none e = ap₂ (λ o u. unless_faulty o u births new) none e

  step_last : {g : Fault} → least queries ≡ None → least updates ≡ None → births ≡ Some g → step m s.job.seed t w ≡ Err g
  step_last none fine e = ap₂ (λ o u. unless_faulty o u births new) none fine ∙ ap (λ o. unless_faulty None None o new) e

  -- the least of the queries' faults is the least of all that are found, with inversion and without
  least_found : (b : Bool) → least (if b then found_by_both m s.job.seed t w.agents else queries) ≡ least queries
  least_found true = least_same m s.job.seed t w.agents lawful
  least_found false = refl

  none_before : (faults : List Fault) (f g : Fault) → least faults ≡ Some g → Contains faults f → comes_before f g ≡ false
  none_before faults f g e h = All-contains (λ x. comes_before x g ≡ false) faults f (((least_is faults g).0 e).1) h

  among : (faults : List Fault) (g : Fault) → least faults ≡ Some g → Contains faults g
  among faults g e = ((least_is faults g).0 e).0

  births_found : least queries ≡ None → least updates ≡ None → birth_faults s t w ≡ listed births
  births_found no_query no_update =
      ap (λ ns. listed (option_map (birth_fault m t) (first_too_far (living ns) w.next (children ns))))
      (left_then s t w.agents ((least_none queries).0 no_query) ((least_none updates).0 no_update))

  updates_found : least queries ≡ None → update_faults s t w.agents ≡ updates
  updates_found no_query = ap (filter_map result_err) (all_become_next s t w.agents ((least_none queries).0 no_query))

  queries_of : (g : Fault) → least queries ≡ Some g → IsOf t Query g
  queries_of g e = queries_are_of m lawful s.job.seed t w.agents g (among queries g e)

  updates_of : (g : Fault) → least updates ≡ Some g → IsOf t Update g
  updates_of g e = updates_are_of t (next m s.job.seed t w.agents) (λ a f is. next_is_of s.job.seed t (class_of m a) _ a f is) w.agents g (among updates g e)

  -- what ends a tick is of this tick
  pub step_is_of : (g : Fault) → step m s.job.seed t w ≡ Err g → (phase : Phase) × IsOf t phase g
  step_is_of g e = elim (endings g e) [
    | in_query is ↦ (Query, queries_of g is)
    | in_update none is ↦ (Update, updates_of g is)
    | in_birth none fine is ↦ (Birth, births_of m t (first_too_far (living left) w.next (children left)) g is)
  ]

  -- a birth fails only where a class has a `spawn`
  birth_has : (g : Fault) → least queries ≡ None → least updates ≡ None → births ≡ Some g → has_births m ≡ true
  birth_has g no_query no_update e = elim (cases_Bool (has_births m)) [
    | inl has ↦ has
    | inr none ↦ none_within _ g (subst (λ faults. Contains faults g) (sym (ap listed e) ∙ sym (births_found no_query no_update) ∙ no_birth_faults s none t w) (0, omega arith, refl))
  ]

  pub step_births : (g : Fault) → step m s.job.seed t w ≡ Err g → g.phase ≡ Birth → has_births m ≡ true
  step_births g e of = elim (endings g e) [
    | in_query is ↦ let other = (queries_of g is).phase in absurd (cc)
    | in_update none is ↦ let other = (updates_of g is).phase in absurd (cc)
    | in_birth none fine is ↦ birth_has g none fine is
  ]

  -- and what ends a tick is found in it
  found_as : (g : Fault) (phase : Phase) → IsOf t phase g → Contains (found_over s t w phase) g → Contains (found_over s t w g.phase) g
  found_as g phase of h = subst (λ x. Contains (found_over s t w x) g) (sym of.phase) h

  pub step_found : (g : Fault) → step m s.job.seed t w ≡ Err g → Contains (found_over s t w g.phase) g
  step_found g e = elim (endings g e) [
    | in_query is ↦ found_as g Query (queries_of g is) (among (all_queries_found s t w.agents) g (least_found s.invert ∙ is))
    | in_update none is ↦ found_as g Update (updates_of g is) (subst (λ faults. Contains faults g) (sym (updates_found none)) (among updates g is))
    | in_birth none fine is ↦ found_as g Birth (births_of m t (first_too_far (living left) w.next (children left)) g is) (subst (λ faults. Contains faults g) (sym (births_found none fine ∙ ap listed is)) (0, omega arith, refl))
  ]

  module _ (f : Fault) (at : f.tick ≡ t) where
    -- a fault is of a later phase than the one that ends the tick, or of the same
    behind : (g : Fault) (phase : Phase) → IsOf t phase g → step m s.job.seed t w ≡ Err g → phase_rank phase < phase_rank f.phase → EndsBefore s t w f g
    behind g phase of ends up = let rank = ap phase_rank of.phase in
        record { ends = ends; not_less = later_phase f g (of.tick ∙ sym at) (omega (arith, rank, up)); no_later = omega (arith, rank, up) }

    beside : (g : Fault) (faults : List Fault) → IsOf t f.phase g → step m s.job.seed t w ≡ Err g → least faults ≡ Some g → Contains faults f → EndsBefore s t w f g
    beside g faults of ends e h = record { ends = ends; not_less = none_before faults f g e h; no_later = omega (arith, ap phase_rank of.phase) }

    as_of : (g : Fault) (phase : Phase) → f.phase ≡ phase → IsOf t phase g → IsOf t f.phase g
    as_of g phase is of = record { tick = of.tick; phase = of.phase ∙ sym is }

    -- where no query faults, none is found
    no_queries : least queries ≡ None → Contains (all_queries_found s t w.agents) f → ⊥
    no_queries none h = none_within ⊥ f (subst (λ faults. Contains faults f) ((least_none (all_queries_found s t w.agents)).0 (least_found s.invert ∙ none)) h)

    query_first : (g : Fault) → least queries ≡ Some g → (phase : Phase) → f.phase ≡ phase → Contains (found_over s t w phase) f → EndsBefore s t w f g
    query_first g e Query is h = beside g (all_queries_found s t w.agents) (as_of g Query is (queries_of g e)) (step_by e) (least_found s.invert ∙ e) h
    query_first g e _ is h = behind g Query (queries_of g e) (step_by e) (omega (arith, ap phase_rank is))

    update_first : (g : Fault) → least queries ≡ None → least updates ≡ Some g → (phase : Phase) → f.phase ≡ phase → Contains (found_over s t w phase) f → EndsBefore s t w f g
    update_first g none e Query is h = absurd (no_queries none h)
    update_first g none e Update is h = beside g updates (as_of g Update is (updates_of g e)) (step_behind none e) e (subst (λ faults. Contains faults f) (updates_found none) h)
    update_first g none e Birth is h = behind g Update (updates_of g e) (step_behind none e) (omega (arith, ap phase_rank is))

    birth_first : least queries ≡ None → least updates ≡ None → (phase : Phase) → f.phase ≡ phase → Contains (found_over s t w phase) f → EndsBefore s t w f f
    birth_first none fine Query is h = absurd (no_queries none h)
    birth_first none fine Update is h = none_within (EndsBefore s t w f f) f (subst (λ faults. Contains faults f) (updates_found none ∙ (least_none updates).0 fine) h)
    birth_first none fine Birth is h = record { ends = step_last none fine (in_births births f (subst (λ faults. Contains faults f) (births_found none fine) h)); not_less = before_itself f; no_later = omega arith }

    -- a tick in which a fault is found ends in one that is not after it
    pub ends_before : Contains (found_over s t w f.phase) f → (g : Fault) × EndsBefore s t w f g
    ends_before h = (elim (least queries) as (λ o. least queries ≡ o → (g : Fault) × EndsBefore s t w f g) [
      | Some g ↦ λ is. (g, query_first g is f.phase refl h)
      | None ↦ λ no_query. (elim (least updates) as (λ o. least updates ≡ o → (g : Fault) × EndsBefore s t w f g) [
        | Some g ↦ λ is. (g, update_first g no_query is f.phase refl h)
        | None ↦ λ no_update. (f, birth_first no_query no_update f.phase refl h)
      ]) refl
    ]) refl
