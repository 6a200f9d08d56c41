-- What is done at the agents that a loop takes, in any order of the agents.
use Rattle.std.proofs.Common.{◌≡◌, ◌∙◌, refl, sym, ap, subst, ℕ, Bool, true, false, cond, ◌&&◌, List, [], ◌∷◌, ◌++◌, filter, flat_map}
use Rattle.std.specs.Prelude.{◌==◌}
use Rattle.std.specs.List.{All, list_all}
use Rattle.std.specs.List.Sorted.{IsPermutation}
use Rattle.std.proofs.lemmas.List.Elements.{All-nil, All-cons}
use Rattle.std.proofs.lemmas.List.Sorted.{All-permutation}
use Rattle.brace_num.proofs.Lists.{filter_twice, none_front}
use Rattle.brace_model.specs.declared.program.Program.{Program}
use Rattle.brace_model.specs.declared.world.Agent.{Agent}
use Rattle.brace_model.specs.World.{sees}
use Rattle.brace_model.specs.Value.{Scope}
use Rattle.brace_model.specs.Query.{Saying}
use Rattle.brace_grid.specs.Grids.{place_of}
use Rattle.brace_plan.specs.declared.action.Bound.{Bound}
use Rattle.brace_plan.specs.Acts.{meets, near_by}
use Rattle.brace_fold.specs.Hears.{Alike}
use Rattle.brace_fold.proofs.Alikes.{alike-append, alike-permuted, alike-refl}
use Rattle.brace_fold.proofs.Doings.{no-faults}

module _ {A B : Type 0} (t : A → Bool) (g : A → List B) where
  -- what an element gives where it is kept
  abbrev if_kept : A → List B
  if_kept x = cond (t x) (g x) []

  kept : (xs : List A) → flat_map g (filter t xs) ≡ flat_map if_kept xs
  kept [] = refl
  kept (x ∷ xs) = by (t x) (kept xs)
    where
      by : (here : Bool) → flat_map g (filter t xs) ≡ flat_map if_kept xs
          → flat_map g (cond here (x ∷ filter t xs) (filter t xs)) ≡ cond here (g x) [] ++ flat_map if_kept xs
      by true rest = ap (λ l. g x ++ l) rest
      by false rest = rest

module _ {A B : Type 0} (g : A → List B) where
  each-none : (xs : List A) → flat_map g xs ≡ [] → All (λ x. g x ≡ []) xs
  each-none [] e = All-nil (λ x. g x ≡ [])
  each-none (x ∷ xs) e =
      let first : g x ≡ [] = none_front (g x) (flat_map g xs) e in
      All-cons (λ y. g y ≡ []) x xs first (each-none xs (ap (λ l. l ++ flat_map g xs) (sym first) ∙ e))

  none-moved : (xs ys : List A) → IsPermutation xs ys → flat_map g xs ≡ [] → flat_map g ys ≡ []
  none-moved xs ys moved none = no-faults g ys (All-permutation (λ x. g x ≡ []) xs ys moved (each-none xs none))

-- what is said at the elements of a list, where what each says comes to the same
pub alike-each : {A : Type 0} (f g : A → List Saying) → ((x : A) → Alike (f x) (g x)) → (xs : List A) → Alike (flat_map f xs) (flat_map g xs)
alike-each f g same [] = alike-refl []
alike-each f g same (x ∷ xs) = alike-append (f x) (g x) (flat_map f xs) (flat_map g xs) (same x) (alike-each f g same xs)

module _ (program : Program) (xs ys : List Agent) (moved : IsPermutation xs ys) (scope : Scope) (class : ℕ) (bounds : List Bound) where
  -- the loop takes an agent
  abbrev takes : Agent → Bool
  takes b = ((b.class == class) && sees program scope.this b) && list_all (meets scope (place_of program b)) bounds

  taken : (agents : List Agent) → near_by program agents scope class bounds ≡ filter takes agents
  taken agents = filter_twice (λ b. list_all (meets scope (place_of program b)) bounds) (λ b. (b.class == class) && sees program scope.this b) agents

  pub near-none : {B : Type 0} (g : Agent → List B) → flat_map g (near_by program xs scope class bounds) ≡ []
      → flat_map g (near_by program ys scope class bounds) ≡ []
  near-none g none =
      ap (flat_map g) (taken ys) ∙ kept takes g ys
      ∙ none-moved (if_kept takes g) xs ys moved (sym (kept takes g xs) ∙ sym (ap (flat_map g) (taken xs)) ∙ none)

  pub near-alike : (g : Agent → List Saying) → Alike (flat_map g (near_by program xs scope class bounds)) (flat_map g (near_by program ys scope class bounds))
  near-alike g =
      subst (λ l. Alike l (flat_map g (near_by program ys scope class bounds))) (sym (ap (flat_map g) (taken xs) ∙ kept takes g xs))
      (subst (Alike (flat_map (if_kept takes g) xs)) (sym (ap (flat_map g) (taken ys) ∙ kept takes g ys))
      (alike-permuted (if_kept takes g) xs ys moved))
