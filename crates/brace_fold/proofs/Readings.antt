-- What is read in a scene.
use Rattle.std.proofs.Common.{◌≡◌, ◌∙◌, ℕ, ℤ, pos, List, Some, Result, Ok, Err, sym, ap, slice_get}
use Rattle.std.specs.Prelude.{option_copied, option_map, IfOk}
use Rattle.std.proofs.lemmas.Option.{get_or_from_slice_get, same_Some, slice_get-map, slice_get_within}
use Rattle.brace_model.specs.declared.world.Agent.{Agent}
use Rattle.brace_model.specs.World.{number, value_at}
use Rattle.brace_model.specs.Value.{Scope}
use Rattle.brace_code.specs.declared.lane.Lane.{Lane}
use Rattle.brace_fold.specs.declared.crowd.Crowd.{Crowd}
use Rattle.brace_fold.specs.declared.scene.Scene.{Scene}
use Rattle.brace_fold.specs.inner.Crowds.{IsIn, IsScene, rows}

-- what follows of a value that there is
pub if_ok : {T E : Type 0} (r : Result T E) (P Q : T → Type 0) → ((x : T) → P x → Q x) → IfOk r P
    → IfOk r Q
if_ok (Ok x) P Q f h = f x h
if_ok (Err e) P Q f h = h

module _ (scene : Scene) (is : IsScene scene) where
  -- a word of a state's column is the state of the agent at the place
  pub state_there : (state : ℕ) (column : List ℤ)
      → option_copied (slice_get scene.states.now state) ≡ Some column → (place : ℕ) (word : ℤ)
      → slice_get column place ≡ Some word → (a : Agent)
      → slice_get (rows scene) place ≡ Some a → word ≡ number (value_at a.states state)
  state_there state column there place word read a this =
      same_Some _ _ (sym read ∙ ap (λ l. slice_get l place) (is.states state column there)
      ∙ slice_get-map (λ (b : Agent). number (value_at b.states state)) (rows scene) place
      ∙ ap (option_map (λ (b : Agent). number (value_at b.states state))) this)

  -- a number of the classes' column is the class of the agent at the place
  pub class_there : (place n : ℕ) → slice_get scene.classes.now place ≡ Some n → (a : Agent)
      → slice_get (rows scene) place ≡ Some a → n ≡ a.class
  class_there place n read a this =
      same_Some _ _ (sym read ∙ ap (λ l. slice_get l place) is.classes
      ∙ slice_get-map (λ (b : Agent). b.class) (rows scene) place
      ∙ ap (option_map (λ (b : Agent). b.class)) this)

-- a word of a constant's column is the constant in the scope of the lane
pub local_there : (scene : Scene) (crowd : Crowd) (lane : Lane) (scope : Scope)
    → IsIn scene crowd lane scope → (n : ℕ) (column : List ℤ)
    → slice_get crowd.locals.items n ≡ Some column → (word : ℤ)
    → slice_get column lane.place ≡ Some word → word ≡ number (value_at scope.locals n)
local_there scene crowd lane scope stands n column has word read =
    sym (get_or_from_slice_get column lane.place word (pos 0) read)
    ∙ stands.locals n column has (slice_get_within column lane.place word read)
