-- To whom lanes say values. Only the crate's own functions cite this.
use Rattle.std.specs.Prelude.{◌≡◌, ◌<◌, ◌≤◌, ◌-◌, ℕ, ℤ, Bool, true, List, [], ◌∷◌, drop, length, map, take, Some, slice_get, slice_index_or}
use Rattle.brace_model.specs.declared.program.Class.{Class}
use Rattle.brace_model.specs.declared.program.Comb.{Comb}
use Rattle.brace_model.specs.declared.program.Effect.{Effect}
use Rattle.brace_model.specs.declared.program.Ty.{Ty}
use Rattle.brace_model.specs.declared.program.Who.{Who}
use Rattle.brace_model.specs.declared.program.Who.TheVariants.{This, Outer, Inner}
use Rattle.brace_model.specs.declared.world.Agent.{Agent}
use Rattle.brace_model.specs.Value.{Scope, agent_of, typed}
use Rattle.brace_model.specs.Query.{Saying}
use Rattle.brace_model.specs.Total.{total_of}
use Rattle.brace_code.specs.declared.lane.Lane.{Lane}
use Rattle.brace_code.specs.declared.view.View.{View}
use Rattle.brace_code.specs.Lanes.{words_of}
use Rattle.brace_fold.specs.declared.crowd.Depth.{Depth}
use Rattle.brace_fold.specs.declared.saying.Ear.{Ear}
use Rattle.brace_fold.specs.declared.saying.Hearers.{Hearers}
use Rattle.brace_fold.specs.declared.saying.Hearers.TheVariants.{Each, Stretches}
use Rattle.brace_fold.specs.declared.scene.Scene.{Scene}
use Rattle.brace_fold.specs.declared.table.Table.{Table}
use Rattle.brace_fold.specs.Hears.{Hears}
use Rattle.brace_fold.specs.inner.Crowds.{IsScene, has_outer, has_inner, rows, spread}

-- the row of the agent that a name stands for in a lane
abbrev pub row_of : Who → Lane → ℕ
row_of This lane = lane.this
row_of Outer lane = lane.outer
row_of Inner lane = lane.inner

-- a name stands for an agent in the lanes of a depth
abbrev pub is_there : Depth → Who → Bool
is_there depth This = true
is_there depth Outer = has_outer depth
is_there depth Inner = has_inner depth

-- the row of the agent who hears what each lane says
abbrev pub hearing : Hearers → List ℕ
hearing (Each rows) = rows.now
hearing (Stretches stretches) = spread stretches.now

-- an ear has the combinator of an effect of its class
pub record IsEar (scene : Scene) (ear : Ear) : Type 0 where
  pub class : Class
  pub has : slice_get scene.program.now.classes ear.class ≡ Some class
  pub effect : Effect
  pub there : slice_get class.effects ear.effect ≡ Some effect
  pub comb : ear.comb ≡ effect.comb

-- an ear of a scene listens
pub record Listens (s : Scene) (e : Ear) : Type 0 where
  pub scene : IsScene s
  pub ear : IsEar s e

-- the agents that a name stands for in scopes stand in these rows, one each
pub record AreTold (scene : Scene) (who : Who) (hearers : List ℕ) (scopes : List Scope)
    : Type 0 where
  pub long : length hearers ≡ length scopes
  pub each : (k : ℕ) (s : Scope) → k < length scopes
      → slice_get (rows scene) (slice_index_or hearers k 0)
      ≡ Some (agent_of (slice_index_or scopes k s) who)

-- a number is the total of the words from a place up to another
abbrev pub IsTotal : Comb → Ty → View → ℕ → ℕ → ℤ → Type 0
IsTotal comb type view from next number = (n : ℕ) → next ≤ n → length (words_of n view) ≡ n
    → number ≡ total_of comb (map (typed type) (take (next - from) (drop from (words_of n view))))

-- what a scope says with a word
abbrev pub told : Who → ℕ → Ty → Scope → ℤ → Saying
told who effect type s word =
    record { target = (agent_of s who).id; field = effect; value = typed type word }

-- what scopes say with words, one each
abbrev pub told_by : Who → ℕ → Ty → List Scope → List ℤ → List Saying
told_by who effect type [] words = []
told_by who effect type (s ∷ scopes) [] = []
told_by who effect type (s ∷ scopes) (w ∷ words) =
    told who effect type s w ∷ told_by who effect type scopes words

-- what is said with words to an effect of an agent
abbrev pub told_at : Agent → ℕ → Ty → List ℤ → List Saying
told_at a effect type words =
    map (λ word. record { target = a.id; field = effect; value = typed type word }) words

-- what scopes say with the words of a view to an effect of the agents of rows, a table hears
pub record AreHeard (scene : Scene) (effect : ℕ) (type : Ty) (hearers : List ℕ) (words : View)
    (before after : Table) : Type 0 where
  pub each : (who : Who) (scopes : List Scope) → AreTold scene who hearers scopes
      → length (words_of (length scopes) words) ≡ length scopes
      → Hears scene.program.now (rows scene)
      (told_by who effect type scopes (words_of (length scopes) words)) before after
