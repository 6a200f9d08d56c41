-- Blocks and loops over crowds.
use Rattle.std.proofs.Common.{◌≡◌, ◌∙◌, refl, sym, ap, ap₂, ℕ, ◌+◌, ◌-◌, ◌<◌, ◌≤◌, List, [], ◌∷◌, ◌++◌, flat_map, take, drop, take-append-drop, length, get_or, Result, Ok, Err, arith}
use Rattle.std.specs.Prelude.{OnOk}
use Rattle.std.proofs.lemmas.Grind.{flat_map-append}
use Rattle.std.proofs.lemmas.List.{drop-take, get_or-drop, get_or-take, length-drop, length-take, take-take}
use Rattle.brace_model.specs.Value.{Scope}
use Rattle.brace_plan.specs.declared.action.Action.{Action}
use Rattle.brace_fold.specs.declared.crowd.Crowd.{Crowd}
use Rattle.brace_fold.specs.declared.scene.Scene.{Scene}
use Rattle.brace_fold.specs.inner.Crowds.{Stands}
use Rattle.brace_fold.specs.inner.Deeds.{between}

pub on_ok : {T E : Type 0} (r : Result T E) (P Q : Type 0) → (P → Q) → OnOk r P → OnOk r Q
on_ok (Ok x) P Q f h = f h
on_ok (Err e) P Q f h = h

-- a crowd of no lanes stands for no scopes
pub no-scopes : (scene : Scene) (crowd : Crowd) (scopes : List Scope) → Stands scene crowd scopes → length crowd.lanes ≡ 0 → scopes ≡ []
no-scopes scene crowd scopes h none = by scopes (sym h.long ∙ none)
  where
    by : (xs : List Scope) → length xs ≡ 0 → xs ≡ []
    by [] e = refl
    by (x ∷ xs) e = absurd (omega (arith, e))

-- a block of no actions
pub no-actions : (actions : List Action) → length actions ≡ 0 → actions ≡ []
no-actions [] e = refl
no-actions (x ∷ actions) e = absurd (omega (arith, e))

-- the first elements of a list, up to a place and then to another
pub front : {A : Type 0} (from next : ℕ) (xs : List A) → from ≤ next → take from xs ++ between from next xs ≡ take next xs
front {A = A} from next xs le =
    let e : from + (next - from) ≡ next = omega (arith, le) in
    ap₂ (λ a b. a ++ b) (sym (take-take from next xs le)) (sym (drop-take from (next - from) xs) ∙ ap (λ (n : ℕ). drop from (take n xs)) e)
    ∙ take-append-drop from (take next xs)

pub take-between : {A B : Type 0} (f : A → List B) (from next : ℕ) (xs : List A) → from ≤ next
    → flat_map f (take from xs) ++ flat_map f (between from next xs) ≡ flat_map f (take next xs)
take-between f from next xs le = sym (flat_map-append f (take from xs) (between from next xs)) ∙ ap (flat_map f) (front from next xs le)

-- the part of a list from a place to another
pub between-long : {A : Type 0} (from next : ℕ) (xs : List A) → next ≤ length xs → length (between from next xs) ≡ next - from
between-long from next xs le =
    let behind = length-drop from xs in
    let so = length-take (next - from) (drop from xs) in
    so ∙ omega (arith, behind, le)

pub between-at : {A : Type 0} (from next : ℕ) (xs : List A) (k : ℕ) (d : A) → from + k < next → get_or (between from next xs) k d ≡ get_or xs (from + k) d
between-at from next xs k d low = get_or-take (next - from) (drop from xs) k d (omega (arith, low)) ∙ get_or-drop from xs k d
