-- What queries are asked over, what is heard of them, and what rules are those of a script. Only
-- the crate's own functions cite this.
use Rattle.std.specs.Prelude.{◌≡◌, ◌≤◌, ◌≤ℤ◌, ◌^◌, ℕ, ℤ, List, ◌++◌, map, length, slice_get, Some, IsTrue}
use Rattle.std.specs.List.{list_all}
use Rattle.brace_model.specs.declared.program.Program.{Program}
use Rattle.brace_model.specs.declared.fault.Fault.{Fault}
use Rattle.brace_model.specs.World.{RisesById, class_of}
use Rattle.brace_model.specs.Next.{next_in}
use Rattle.brace_model.specs.Lawful.{is_lawful_agent}
use Rattle.brace_model.specs.declared.world.Agent.{Agent}
use Rattle.brace_model.specs.Query.{Saying, query_of}
use Rattle.brace_grid.specs.Grids.{grid_of}
use Rattle.brace_plan.specs.Answers.{greatest_visible}
use Rattle.brace_eval.specs.declared.heard.Heard.{Heard}
use Rattle.brace_eval.specs.Heard.{IsHeard, effects_in, said_by, faults_by}
use Rattle.brace_herd.specs.declared.asking.Asked.{Asked}
use Rattle.brace_herd.specs.declared.asking.Scene.{Scene}

-- the queries of a program can be asked over a scene
pub record CanAsk (program : Program) (scene : Scene) : Type 0 where
  pub lawful : IsTrue (list_all (is_lawful_agent program) scene.held.now)
  pub few : length scene.held.now ≤ 2 ^ 20
  pub rises : RisesById scene.held.now
  pub ticks : scene.tick ≤ 2 ^ 32
  pub grid : scene.grid ≡ grid_of program scene.held.now scene.grid.side
  pub wide : greatest_visible program ≤ℤ scene.grid.side

-- the same, of agents that are to be asked
abbrev pub AreAsked : List Agent → List Agent → List Asked → Type 0
AreAsked held asking asked = map (λ one. slice_get held one.place) asked ≡ map Some asking

-- over a scene these values were said, and these faults were met, behind what was heard before
abbrev pub Hears : Scene → List Saying → List Fault → Heard → Heard → Type 0
Hears scene more further before after =
    (said : List Saying) (faults : List Fault)
    → IsHeard scene.program.now scene.held.now said faults before
    → IsHeard scene.program.now scene.held.now (said ++ more) (faults ++ further) after

-- over a scene the query of an agent was heard
abbrev pub HearsOf : Scene → Program → ℕ → Agent → Heard → Heard → Type 0
HearsOf scene program seed a before after =
    let asked = query_of program seed scene.tick scene.held.now a in
    Hears scene asked.said asked.faults before after

-- over a scene the queries of some agents were heard
abbrev pub HearsAllOf : Scene → Program → ℕ → List Agent → Heard → Heard → Type 0
HearsAllOf scene program seed asking before after =
    Hears scene (said_by program seed scene.tick scene.held.now asking)
    (faults_by program seed scene.tick scene.held.now asking) before after

-- agents have the same effects in both programs
abbrev pub HaveEffectsOf : Program → Program → Type 0
HaveEffectsOf script program =
    (a : Agent) → effects_in (class_of program a) ≡ effects_in (class_of script a)

-- a program has the agents, the effects and the rules of a script: the same agents are lawful, and
-- each leaves the same
pub record HasRulesOf (script program : Program) : Type 0 where
  pub lawful : (a : Agent) → is_lawful_agent program a ≡ is_lawful_agent script a
  pub effects : HaveEffectsOf script program
  pub next : (seed tick : ℕ) (totals : List ℤ) (a : Agent)
      → next_in seed tick (class_of program a) totals a
      ≡ next_in seed tick (class_of script a) totals a
