-- The published text: a row for each agent of each published tick that the run reaches.
use Rattle.std.specs.Prelude.{ℕ, ◌+◌, ◌-◌, ◌%◌, ◌==◌, nat_lt, List, [], ◌∷◌, ◌++◌, map, flat_map, codes, Bool, true, false, ◌&&◌, ◌||◌, if◌then◌else◌, Result, Ok, Err, unwrap_or, option_map}
use Rattle.std.specs.List.{join_with_byte, range_with_len}
use Rattle.brace_num.specs.Spelling.{canonical_int, canonical_fixed, canonical_count}
use Rattle.brace_model.specs.declared.program.Value.{Value}
use Rattle.brace_model.specs.declared.program.Value.TheVariants.{Int, Fixed, Flag}
use Rattle.brace_model.specs.declared.program.Program.{Program}
use Rattle.brace_model.specs.declared.fault.Fault.{Fault}
use Rattle.brace_model.specs.declared.job.Job.{Job}
use Rattle.brace_model.specs.declared.world.Agent.{Agent}
use Rattle.brace_model.specs.World.{World, class_of}
use Rattle.brace_model.specs.Run.{world_after}

-- the canonical spelling of a value
abbrev pub spelled : Value → List ℕ
spelled (Int n) = canonical_int n
spelled (Fixed n) = canonical_fixed n
spelled (Flag true) = codes "true"
spelled (Flag false) = codes "false"

-- the name of an agent's class
abbrev pub class_name : Program → Agent → List ℕ
class_name program a = unwrap_or (option_map (λ c. c.name) (class_of program a)) []

-- `class,id,values`, the fields of an agent parted by commas
abbrev pub agent_text : Program → Agent → List ℕ
agent_text program a =
    join_with_byte 44 (class_name program a ∷ canonical_count a.id ∷ map spelled a.states)

-- `tick,class,id,values` and a line feed
abbrev pub row : Program → ℕ → Agent → List ℕ
row program tick a = canonical_count tick ++ 44 ∷ [] ++ agent_text program a ++ 10 ∷ []

-- the rows of the agents of a world
abbrev pub rows : Program → ℕ → List Agent → List ℕ
rows program tick world = flat_map (row program tick) world

-- a tick is published where `every` divides it or it is the last one; a run that is not fresh
-- publishes only what comes after its first tick
abbrev pub is_published : Job → Bool → ℕ → Bool
is_published job fresh tick =
    ((tick % job.every == 0) || (tick == job.last)) && (fresh || nat_lt job.first tick)

-- the rows of a tick, where the run reaches it and it is published
abbrev pub tick_text : Job → Bool → ℕ → Result World Fault → List ℕ
tick_text job fresh tick (Err fault) = []
tick_text job fresh tick (Ok world) =
    if is_published job fresh tick then rows job.program tick world.agents else []

-- the published text of the ticks of a job from the first one on, n of them
abbrev pub text_of_ticks : Job → Bool → ℕ → List ℕ
text_of_ticks job fresh n =
    flat_map (λ k. tick_text job fresh (job.first + k) (world_after job k)) (range_with_len 0 n)

-- the whole published text of a job
abbrev pub published : Job → Bool → List ℕ
published job fresh = text_of_ticks job fresh (1 + (job.last - job.first))
