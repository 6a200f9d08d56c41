-- What agents that ask say, all together. Only the crate's own functions cite this.
use Rattle.std.specs.Prelude.{◌≡◌, ℕ, ℤ, pos, List, [], map, flat_map, slice_index_or}
use Rattle.std.specs.List.{All}
use Rattle.brace_draw.specs.Draw.{draw_value}
use Rattle.brace_model.specs.declared.program.Program.{Program}
use Rattle.brace_model.specs.declared.world.Agent.{Agent}
use Rattle.brace_model.specs.Query.{Deed, query_of}
use Rattle.brace_model.specs.Value.{Scope}
use Rattle.brace_code.specs.declared.lane.Draws.{Draws}
use Rattle.brace_plan.specs.Planning.{opening_of}
use Rattle.brace_fold.specs.Rows.{by_id}
use Rattle.brace_fold.specs.declared.drawn.Drawn.{Drawn}
use Rattle.brace_fold.specs.declared.scene.Scene.{Scene}
use Rattle.brace_fold.specs.declared.table.Table.{Table}
use Rattle.brace_fold.specs.inner.Crowds.{rows}
use Rattle.brace_fold.specs.Hears.{Hears}

-- what the query of the agent of a row does
abbrev pub asked_in : Program → ℕ → ℕ → List Agent → Agent → ℕ → Deed
asked_in program seed tick rows d row =
    query_of program seed tick (by_id rows) (slice_index_or rows row d)

-- the queries of the agents of some rows fault nowhere, and what they say is heard
pub record AsksIn (program : Program) (seed tick : ℕ) (rows : List Agent) (d : Agent)
    (asking : List ℕ) (old new : Table) : Type 0 where
  pub quiet : All (λ row. (asked_in program seed tick rows d row).faults ≡ []) asking
  pub hears : Hears program rows
      (flat_map (λ row. (asked_in program seed tick rows d row).said) asking) old new

-- what the query of the agent of a row of a scene does
abbrev pub asked : Scene → Agent → ℕ → Deed
asked scene = asked_in scene.program.now scene.seed scene.tick (rows scene)

-- the queries of some rows of a scene fault nowhere, and what they say is heard
abbrev pub Asks : Scene → Agent → List ℕ → Table → Table → Type 0
Asks scene = AsksIn scene.program.now scene.seed scene.tick (rows scene)

-- the scopes in which the queries of the agents of some rows begin
abbrev pub openings : Scene → ℕ → Agent → List ℕ → List Scope
openings scene constants d asking = map (λ row. opening_of constants scene.seed scene.tick
    (slice_index_or (rows scene) row d)) asking

-- the draws of a site are those of agents
abbrev pub AreDrawn : ℕ → ℕ → List Agent → Drawn → Type 0
AreDrawn seed tick agents drawn =
    drawn.words ≡ map (λ a. pos (draw_value seed tick a.id drawn.site)) agents

-- draws and their site, as they were made, and as lanes read them
abbrev pub made : Drawn → ℕ × List ℤ
made drawn = (drawn.site, drawn.words)

abbrev pub lent : Draws → ℕ × List ℤ
lent draws = (draws.site, draws.words.now)
