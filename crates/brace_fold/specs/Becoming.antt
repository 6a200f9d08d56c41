-- What becomes of agents by totals that are told to them, and what is left of them.
use Rattle.std.specs.Prelude.{◌≡◌, ℕ, ℤ, List, [], Result, map, filter_map}
use Rattle.std.specs.List.Sorted.{IsPermutation}
use Rattle.std.specs.Result.{result_ok, result_err}
use Rattle.brace_model.specs.declared.program.Program.{Program}
use Rattle.brace_model.specs.declared.fault.Fault.{Fault}
use Rattle.brace_model.specs.declared.world.Agent.{Agent}
use Rattle.brace_model.specs.World.{class_of}
use Rattle.brace_model.specs.Next.{Next, next_in}
use Rattle.brace_model.specs.Query.{Saying}
use Rattle.brace_model.specs.Step.{living, children}
use Rattle.brace_eval.specs.Heard.{row_of}
use Rattle.brace_fold.specs.declared.renewal.Renewed.{Renewed}
use Rattle.brace_fold.specs.Rows.{AreMoved}

-- what becomes of an agent to which its totals are told
abbrev pub becomes_by : Program → ℕ → ℕ → (Agent → List ℤ) → Agent → Result Next Fault
becomes_by program seed tick totals a = next_in seed tick (class_of program a) (totals a) a

-- what becomes of an agent by what was said
abbrev pub becomes_said : Program → ℕ → ℕ → List Saying → Agent → Result Next Fault
becomes_said program seed tick said = becomes_by program seed tick (row_of program said)

-- what is left of agents by what was said, in some order of theirs: no update faults, those that
-- live on stand in columns, and the children are listed
pub record AreLeft (program : Program) (seed tick : ℕ) (said : List Saying) (agents : List Agent)
    (renewed : Renewed) : Type 0 where
  pub those : List Agent
  pub same : IsPermutation agents those
  pub left : AreMoved
      (living (filter_map result_ok (map (becomes_said program seed tick said) those)))
      renewed.left
  pub born : renewed.born.items
      ≡ children (filter_map result_ok (map (becomes_said program seed tick said) those))
  pub quiet : filter_map result_err (map (becomes_said program seed tick said) those) ≡ []
