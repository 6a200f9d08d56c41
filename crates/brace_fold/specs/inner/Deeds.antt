-- What is done in many scopes at once. Only the crate's own functions cite this.
use Rattle.std.specs.Prelude.{◌≡◌, ℕ, ◌<◌, ℤ, pos, List, [], map, flat_map, take, drop, ◌-◌, length, false, Ok, slice_index_or}
use Rattle.std.specs.List.{All}
use Rattle.brace_model.specs.Value.{Scope, typed}
use Rattle.brace_model.specs.Query.{Deed, inside}
use Rattle.brace_code.specs.declared.code.Code.{Code}
use Rattle.brace_code.specs.Codes.{gives, type_given}
use Rattle.brace_plan.specs.declared.action.Action.{Action}
use Rattle.brace_plan.specs.declared.action.Bound.{Bound}
use Rattle.brace_plan.specs.Acts.{act, acts, near_by}
use Rattle.brace_fold.specs.declared.crowd.Crowd.{Crowd}
use Rattle.brace_fold.specs.declared.scene.Scene.{Scene}
use Rattle.brace_fold.specs.declared.table.Table.{Table}
use Rattle.brace_fold.specs.inner.Crowds.{Stands, rows, world}
use Rattle.brace_fold.specs.Hears.{Hears}

-- nothing faulted
pub record IsQuiet (deed : Deed) : Type 0 where
  pub faults : deed.faults ≡ []
  pub goes_on : deed.stopped ≡ false

-- in each scope a deed is done with no fault, and what all say is heard
pub record Does (scene : Scene) (deed : Scope → Deed) (scopes : List Scope)
    (before after : Table) : Type 0 where
  pub quiet : All (λ s. IsQuiet (deed s)) scopes
  pub hears : Hears scene.program.now (rows scene)
      (flat_map (λ s. (deed s).said) scopes) before after

-- code gives a value in each scope, and the words are theirs
pub record Worths (code : Code) (scopes : List Scope) (words : List ℤ) : Type 0 where
  pub long : length words ≡ length scopes
  pub each : (k : ℕ) (s : Scope) → k < length scopes → gives code (slice_index_or scopes k s)
      ≡ Ok (typed (type_given code) (slice_index_or words k (pos 0)))

-- what an action does in the scene, and what a block does
abbrev pub done_once : Scene → Action → Scope → Deed
done_once scene = act scene.program.now (world scene)

abbrev pub done_by : Scene → List Action → Scope → Deed
done_by scene = acts scene.program.now (world scene)

-- a deed is done in the scopes of a crowd, and leaves a crowd of the scopes that it leaves
pub record Leads (scene : Scene) (deed : Scope → Deed) (scopes : List Scope) (after : Crowd)
    (old new : Table) : Type 0 where
  pub does : Does scene deed scopes old new
  pub stands : Stands scene after (map (λ s. (deed s).scope) scopes)

-- the scopes that a loop goes into from a scope, in the order of the rows
abbrev pub into : Scene → ℕ → List Bound → Scope → List Scope
into scene class bounds s = map (inside s) (near_by scene.program.now (rows scene) s class bounds)

-- the part of a list from a place to another
abbrev pub between : {A : Type 0} → ℕ → ℕ → List A → List A
between from next xs = take (next - from) (drop from xs)
