-- The list of agents that a query is evaluated over, and ledgers that stand for what was said. Only
-- the crate's own functions cite this.
use Rattle.std.specs.Prelude.{◌≡◌, List, ◌++◌}
use Rattle.brace_model.specs.declared.fault.Fault.{Fault}
use Rattle.brace_model.specs.World.{RisesById, ids}
use Rattle.brace_model.specs.Query.{Saying, Deed}
use Rattle.brace_eval.specs.declared.scene.Scene.{Scene}
use Rattle.brace_eval.specs.declared.ledger.Ledger.{Ledger}
use Rattle.brace_eval.specs.Heard.{IsHeard}

-- ids rise, and each agent's id stands at the agent's place
pub record IsScene (scene : Scene) : Type 0 where
  pub rises : RisesById scene.agents.now
  pub ids : scene.ids.items ≡ ids scene.agents.now

-- a ledger stands for these sayings and faults
abbrev pub Keeps : Scene → List Saying → List Fault → Ledger → Type 0
Keeps scene said faults ledger =
    IsHeard scene.program.now scene.agents.now said faults ledger.heard

-- a ledger came to stand for these sayings and faults too
abbrev pub Notes : Scene → List Saying → List Fault → Ledger → Ledger → Type 0
Notes scene said faults before after =
    (xs : List Saying) (fs : List Fault) → Keeps scene xs fs before
    → Keeps scene (xs ++ said) (fs ++ faults) after

-- a ledger came to stand for what a deed says, and for its faults
abbrev pub NotesDeed : Scene → Deed → Ledger → Ledger → Type 0
NotesDeed scene deed before after = Notes scene deed.said deed.faults before after
