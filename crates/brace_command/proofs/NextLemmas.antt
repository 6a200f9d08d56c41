-- Where no class bears children, what a run comes to depends on the agents of its first world alone; so a
-- run from what a checkpoint tells of a world comes to the same as one from that world.
use Rattle.std.proofs.Common.{◌≡◌, ◌∙◌, refl, sym, ap, true≢false, ℕ, ℤ, zero, suc, ◌+◌, ◌-◌, List, [], ◌∷◌, ◌++◌, map, filter_map, is_some, Bool, true, false, if◌then◌else◌, Option, Some, None, option_map, slice_get, Result, Ok, Err, add-one}
use Rattle.std.specs.List.{cons_option, list_any}
use Rattle.std.specs.Result.{result_ok, result_err}
use Rattle.std.proofs.lemmas.Map.Keys.{any_passes_from_place}
use Rattle.brace_model.specs.declared.fault.Fault.{Fault}
use Rattle.brace_model.specs.declared.fault.Stop.{Stop}
use Rattle.brace_model.specs.declared.job.Job.{Job}
use Rattle.brace_model.specs.declared.program.Class.{Class}
use Rattle.brace_model.specs.declared.program.Program.{Program}
use Rattle.brace_model.specs.declared.program.Spawn.{Spawn}
use Rattle.brace_model.specs.declared.world.Agent.{Agent}
use Rattle.brace_model.specs.FaultOrder.{least}
use Rattle.brace_model.specs.Next.{Next, has_births, child_in, first_stop, left_by, next, next_in, totals_in, unless_stopped, update_in}
use Rattle.brace_model.specs.Published.{is_published, published, rows, text_of_ticks, tick_text}
use Rattle.brace_model.specs.Query.{opening_scope, query_faults}
use Rattle.brace_model.specs.Run.{first_fault, stepped, world_after}
use Rattle.brace_model.specs.Step.{all_next, birth_fault, children, first_too_far, grown, living, step, unless_faulty}
use Rattle.brace_model.specs.World.{World, class_of, world_of, world_with}
use Rattle.brace_model.proofs.RunLemmas.{text-next}
use Rattle.brace_command.specs.Restarts.{told_world}

-- the agents of a world, or the fault in its place
abbrev pub bare : Result World Fault → Result (List Agent) Fault
bare (Ok world) = Ok world.agents
bare (Err f) = Err f

-- ---- no child

no_spawn : (classes : List Class) (n : ℕ) (class : Class) → list_any (λ c. is_some c.spawn) classes ≡ false → slice_get classes n ≡ Some class → class.spawn ≡ None
no_spawn classes n class none at_ = by_spawn class.spawn refl
  where
    by_spawn : (o : Option Spawn) → class.spawn ≡ o → o ≡ None
    by_spawn None is = refl
    by_spawn (Some spawn) is = absurd (true≢false (sym (any_passes_from_place (λ (c : Class). is_some c.spawn) classes n class at_ (ap is_some is)) ∙ none))

-- the child that an agent leaves
abbrev kid : Result Next Fault → Option Agent
kid (Ok left) = left.child
kid (Err f) = None

kid_unless : (tick : ℕ) (a : Agent) (stop : Option Stop) (left : Next) → left.child ≡ None → kid (unless_stopped tick a stop left) ≡ None
kid_unless tick a None left none = none
kid_unless tick a (Some stop) left none = refl

no_kid : (program : Program) (seed tick : ℕ) (class : Option Class) (totals : List ℤ) (a : Agent) → has_births program ≡ false → class_of program a ≡ class
    → kid (next_in seed tick class totals a) ≡ None
no_kid program seed tick None totals a none is = refl
no_kid program seed tick (Some class) totals a none is =
    let scope = opening_scope seed tick [] totals a in
    kid_unless tick a (first_stop (update_in scope class a)) (left_by scope class a) (ap (child_in scope class a) (no_spawn program.classes a.class class none is))

none_born : (f : Agent → Result Next Fault) → ((a : Agent) → kid (f a) ≡ None) → (xs : List Agent) → children (filter_map result_ok (map f xs)) ≡ []
none_born f none [] = refl
none_born f none (x ∷ xs) = by_first (f x) (none x) (none_born f none xs)
  where
    by_first : (r : Result Next Fault) → kid r ≡ None → children (filter_map result_ok (map f xs)) ≡ [] → children (filter_map result_ok (r ∷ map f xs)) ≡ []
    by_first (Ok left) e rest = ap (λ (o : Option Agent). cons_option o (children (filter_map result_ok (map f xs)))) e ∙ rest
    by_first (Err g) e rest = rest

-- ---- a tick

any_next : (query update : Option Fault) (agents : List Agent) (n : ℕ) → bare (unless_faulty query update None (world_with agents n)) ≡ bare (unless_faulty query update None (world_with agents 0))
any_next (Some f) update agents n = refl
any_next None (Some f) agents n = refl
any_next None None agents n = refl

module _ (program : Program) (none : has_births program ≡ false) (seed tick : ℕ) where
  -- what a tick leaves of some agents
  abbrev bare_step : List Agent → Result (List Agent) Fault
  bare_step w =
      let nexts = all_next program seed tick w in
      bare (unless_faulty (least (query_faults program seed tick w)) (least (filter_map result_err nexts)) None (world_with (living (filter_map result_ok nexts) ++ []) 0))

  steps_bare : (world : World) → bare (step program seed tick world) ≡ bare_step world.agents
  steps_bare world =
      let w = world.agents in
      let nexts = all_next program seed tick w in
      let live = living (filter_map result_ok nexts) in
      let query = least (query_faults program seed tick w) in
      let update = least (filter_map result_err nexts) in
      ap (λ (kids : List Agent). bare (unless_faulty query update (option_map (birth_fault program tick) (first_too_far live world.next kids)) (grown world.next live kids)))
      (none_born (next program seed tick w) (λ a. no_kid program seed tick (class_of program a) (totals_in program seed tick w a (class_of program a)) a none refl) w)
      ∙ any_next query update (live ++ []) (world.next + 0)

-- ---- a run

agents_same : (w v : World) → bare (Ok w) ≡ bare (Ok v) → w.agents ≡ v.agents
agents_same w v e = cc

stepped_bare : (job other : Job) (tick : ℕ) (r q : Result World Fault) → has_births job.program ≡ false → job.program ≡ other.program → job.seed ≡ other.seed → bare r ≡ bare q
    → bare (stepped job tick r) ≡ bare (stepped other tick q)
stepped_bare job other tick (Ok w) (Ok v) none p s e =
    steps_bare job.program none job.seed tick w ∙ ap (bare_step job.program none job.seed tick) (agents_same w v e) ∙ sym (steps_bare job.program none job.seed tick v)
    ∙ ap (λ (m : Program). bare (step m job.seed tick v)) p ∙ ap (λ (n : ℕ). bare (step other.program n tick v)) s
stepped_bare job other tick (Err f) (Err g) none p s e = e
stepped_bare job other tick (Ok w) (Err g) none p s e = absurd cc
stepped_bare job other tick (Err f) (Ok v) none p s e = absurd cc

-- the same run from another world
abbrev pub started : Job → World → Job
started job world = record job { start = world }

module _ (job : Job) (w v : World) (none : has_births job.program ≡ false) (same : w.agents ≡ v.agents) where
  after_bare : (n : ℕ) → bare (world_after (started job w) n) ≡ bare (world_after (started job v) n)
  unfolding world_after
  after_bare zero = ap (λ (agents : List Agent). Ok agents) same
  after_bare (suc n) = stepped_bare (started job w) (started job v) (job.first + n) (world_after (started job w) n) (world_after (started job v) n) none refl refl (after_bare n)

  text_bare : (fresh : Bool) (tick : ℕ) (r q : Result World Fault) → bare r ≡ bare q → tick_text (started job w) fresh tick r ≡ tick_text (started job v) fresh tick q
  text_bare fresh tick (Ok x) (Ok y) e = ap (λ (agents : List Agent). if is_published job fresh tick then rows job.program tick agents else []) (agents_same x y e)
  text_bare fresh tick (Err f) (Err g) e = refl
  text_bare fresh tick (Ok x) (Err g) e = absurd cc
  text_bare fresh tick (Err f) (Ok y) e = absurd cc

  texts_bare : (fresh : Bool) (n : ℕ) → text_of_ticks (started job w) fresh n ≡ text_of_ticks (started job v) fresh n
  texts_bare fresh zero = refl
  texts_bare fresh (suc n) =
      let a = started job w in
      let b = started job v in
      ap (text_of_ticks a fresh) (sym (add-one n)) ∙ text-next a fresh n
      ∙ ap (λ (l : List ℕ). l ++ tick_text a fresh (job.first + n) (world_after a n)) (texts_bare fresh n)
      ∙ ap (λ (l : List ℕ). text_of_ticks b fresh n ++ l) (text_bare fresh (job.first + n) (world_after a n) (world_after b n) (after_bare n))
      ∙ sym (text-next b fresh n) ∙ ap (text_of_ticks b fresh) (add-one n)

  fault_bare : (r q : Result World Fault) → bare r ≡ bare q → result_err r ≡ result_err q
  fault_bare (Ok x) (Ok y) e = refl
  fault_bare (Err f) (Err g) e = cc
  fault_bare (Ok x) (Err g) e = absurd cc
  fault_bare (Err f) (Ok y) e = absurd cc

  -- both publish the same rows
  published_bare : (fresh : Bool) → published (started job w) fresh ≡ published (started job v) fresh
  published_bare fresh = texts_bare fresh (1 + (job.last - job.first))

  -- and end in the same fault or in none
  first_fault_bare : first_fault (started job w) ≡ first_fault (started job v)
  first_fault_bare = fault_bare (world_after (started job w) (job.last - job.first)) (world_after (started job v) (job.last - job.first)) (after_bare (job.last - job.first))

-- ---- a run from what a checkpoint tells

-- its rows are those of a run from the world
pub published_told : (job : Job) (world : World) (fresh : Bool) → published (started job (told_world job.program world)) fresh ≡ published (started job world) fresh
published_told job world fresh = by_births (has_births job.program) refl
  where
    by_births : (b : Bool) → has_births job.program ≡ b → published (started job (if b then world else world_of world.agents)) fresh ≡ published (started job world) fresh
    by_births true is = refl
    by_births false is = published_bare job (world_of world.agents) world is refl fresh

-- and so is its fault, if it has one
pub first_fault_told : (job : Job) (world : World) → first_fault (started job (told_world job.program world)) ≡ first_fault (started job world)
first_fault_told job world = by_births (has_births job.program) refl
  where
    by_births : (b : Bool) → has_births job.program ≡ b → first_fault (started job (if b then world else world_of world.agents)) ≡ first_fault (started job world)
    by_births true is = refl
    by_births false is = first_fault_bare job (world_of world.agents) world is refl
