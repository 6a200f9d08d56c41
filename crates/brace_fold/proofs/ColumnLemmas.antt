-- Columns, one for each state, and columns of draws.
use Rattle.std.proofs.Common.{◌≡◌, ◌∙◌, refl, sym, ap, subst, ℕ, zero, suc, ℤ, List, [], ◌∷◌, ◌++◌, map, length, Some, slice_get}
use Rattle.std.specs.Prelude.{option_copied}
use Rattle.std.proofs.lemmas.Option.{none-some, same_Some, slice_get-map}
use Rattle.brace_model.specs.declared.program.Value.{Value}
use Rattle.brace_model.specs.declared.world.Agent.{Agent}
use Rattle.brace_model.specs.World.{number, value_at}
use Rattle.brace_fold.specs.inner.Crowds.{IsOfClass}
use Rattle.brace_fold.proofs.Drawings.{mapped}
use denote.Ref.{Bor}

-- each of some columns is the one of its place, also with one more behind
pub columns-more : (f : ℕ → List ℤ) (columns : List (List ℤ)) (column : List ℤ)
    → ((i : ℕ) (c : List ℤ) → slice_get columns i ≡ Some c → c ≡ f i) → column ≡ f (length columns)
    → (i : ℕ) (c : List ℤ) → slice_get (columns ++ column ∷ []) i ≡ Some c → c ≡ f i
columns-more f [] column each is zero c e = sym (same_Some column c e) ∙ is
columns-more f [] column each is (suc i) c e = absurd (none-some c e)
columns-more f (x ∷ columns) column each is zero c e = each zero c e
columns-more f (x ∷ columns) column each is (suc i) c e =
    columns-more (λ n. f (suc n)) columns column (λ n d g. each (suc n) d g) is i c e

-- a column of a list of slices
pub copied-view : (views : List (Bor (List ℤ))) (columns : List (List ℤ)) (n : ℕ) (column : List ℤ) → map (λ v. v.now) views ≡ columns
    → option_copied (slice_get views n) ≡ Some column → slice_get columns n ≡ Some column
copied-view views columns n column same e =
    subst (λ (l : List (List ℤ)). slice_get l n ≡ Some column) same (slice_get-map (λ (v : Bor (List ℤ)). v.now) views n ∙ e)

-- an agent whose class is told by a column
pub class-of : (agents : List Agent) (place class number : ℕ) → slice_get (map (λ (a : Agent). a.class) agents) place ≡ Some number → number ≡ class
    → IsOfClass agents class place
class-of [] place class number e same = absurd (none-some number e)
class-of (a ∷ agents) zero class number e same = (a, refl, same_Some a.class number e ∙ same)
class-of (a ∷ agents) (suc place) class number e same = class-of agents place class number e same

-- what the agents behind references have
pub by-rows : {B : Type 0} (f : Agent → B) (refs : List (Bor Agent)) (agents : List Agent) → map (λ r. r.now) refs ≡ agents
    → map (λ r. f r.now) refs ≡ map f agents
by-rows f refs agents are = sym (mapped (λ (r : Bor Agent). r.now) f refs) ∙ ap (map f) are

-- a state of agents, read from what they have
pub by-values : (i : ℕ) (values : List (Bor (List Value))) (agents : List Agent) → map (λ v. v.now) values ≡ map (λ a. a.states) agents
    → map (λ v. number (value_at v.now i)) values ≡ map (λ a. number (value_at a.states i)) agents
by-values i values agents are =
    sym (mapped (λ (v : Bor (List Value)). v.now) (λ l. number (value_at l i)) values)
    ∙ ap (map (λ l. number (value_at l i))) are
    ∙ mapped (λ (a : Agent). a.states) (λ l. number (value_at l i)) agents
