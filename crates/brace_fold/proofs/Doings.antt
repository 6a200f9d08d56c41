-- What is done in many scopes: one deed after another, in some scopes and then in others.
use Rattle.std.proofs.Common.{◌≡◌, ◌∙◌, refl, sym, ap, ap₂, subst, ℕ, ◌+◌, ◌<◌, List, [], ◌∷◌, ◌++◌, map, flat_map, length, drop, get_or}
use Rattle.std.specs.List.{All}
use Rattle.std.proofs.lemmas.List.{drop_more}
use Rattle.std.proofs.lemmas.List.Elements.{All-nil, All-cons, All-head, All-tail, All-append}
use Rattle.std.proofs.lemmas.Grind.{flat_map-append}
use Rattle.brace_model.specs.Value.{Scope}
use Rattle.brace_model.specs.Query.{Deed, followed_by, iterated}
use Rattle.brace_model.proofs.Deeds.{goes_to}
use Rattle.brace_plan.specs.declared.action.Action.{Action}
use Rattle.brace_plan.specs.Acts.{act}
use Rattle.brace_fold.specs.declared.scene.Scene.{Scene}
use Rattle.brace_fold.specs.declared.table.Table.{Table}
use Rattle.brace_fold.specs.inner.Crowds.{rows, world}
use Rattle.brace_fold.specs.Hears.{Hears}
use Rattle.brace_fold.specs.inner.Deeds.{IsQuiet, Does, done_by}
use Rattle.brace_fold.proofs.Alikes.{alike-woven, hears-none, hears-more, hears-alike}

module _ {A B : Type 0} (f g : A → List B) where
  -- two functions that agree on the elements of a list
  pub same-said : (xs : List A) → All (λ x. f x ≡ g x) xs → flat_map f xs ≡ flat_map g xs
  same-said [] all = refl
  same-said (x ∷ xs) all =
      ap₂ (λ a b. a ++ b) (All-head (λ y. f y ≡ g y) x xs all) (same-said xs (All-tail (λ y. f y ≡ g y) x xs all))

module _ {A B : Type 0} (f g : A → B) where
  pub same-each : (xs : List A) → All (λ x. f x ≡ g x) xs → map f xs ≡ map g xs
  same-each [] all = refl
  same-each (x ∷ xs) all =
      ap₂ (λ a b. a ∷ b) (All-head (λ y. f y ≡ g y) x xs all) (same-each xs (All-tail (λ y. f y ≡ g y) x xs all))

module _ {A : Type 0} (P Q R : A → Type 0) (both : (x : A) → P x → Q x → R x) where
  pub All-both : (xs : List A) → All P xs → All Q xs → All R xs
  All-both xs p q = λ k d low. both (get_or xs k d) (p k d low) (q k d low)

module _ {A B : Type 0} (f : A → B) (P : B → Type 0) where
  pub All-back : (xs : List A) → All P (map f xs) → All (λ x. P (f x)) xs
  All-back [] all = All-nil (λ x. P (f x))
  All-back (x ∷ xs) all =
      All-cons (λ y. P (f y)) x xs (All-head P (f x) (map f xs) all) (All-back xs (All-tail P (f x) (map f xs) all))

module _ {A B C : Type 0} (f : A → List B) (g : B → List C) where
  -- what is said at all elements that elements have
  pub nested-said : (xs : List A) → flat_map g (flat_map f xs) ≡ flat_map (λ x. flat_map g (f x)) xs
  nested-said [] = refl
  nested-said (x ∷ xs) = flat_map-append g (f x) (flat_map f xs) ∙ ap (λ l. flat_map g (f x) ++ l) (nested-said xs)

module _ {A B C : Type 0} (f : A → B) (g : B → List C) where
  pub mapped-said : (xs : List A) → flat_map g (map f xs) ≡ flat_map (λ x. g (f x)) xs
  mapped-said [] = refl
  mapped-said (x ∷ xs) = ap (λ l. g (f x) ++ l) (mapped-said xs)

module _ {A B : Type 0} where
  pub no-faults : (f : A → List B) (xs : List A) → All (λ x. f x ≡ []) xs → flat_map f xs ≡ []
  no-faults f [] all = refl
  no-faults f (x ∷ xs) all =
      ap₂ (λ a b. a ++ b) (All-head (λ y. f y ≡ []) x xs all) (no-faults f xs (All-tail (λ y. f y ≡ []) x xs all))

-- a deed behind a quiet one
quiet-then : (first : Deed) (next : Scope → Deed) → IsQuiet first → IsQuiet (next first.scope) → IsQuiet (followed_by first next)
quiet-then first next h k =
    subst IsQuiet (sym (goes_to first next h.goes_on))
    (record { faults = ap₂ (λ a b. a ++ b) h.faults k.faults; goes_on = k.goes_on })

said-then : (first : Deed) (next : Scope → Deed) → IsQuiet first → first.said ++ (next first.scope).said ≡ (followed_by first next).said
said-then first next h = ap (λ (d : Deed). d.said) (sym (goes_to first next h.goes_on))

module _ (scene : Scene) where
  pub does-none : (f : Scope → Deed) (heard : Table) → Does scene f [] heard heard
  does-none f heard = record {
    quiet = All-nil (λ s. IsQuiet (f s));
    hears = hears-none scene.program.now (rows scene) heard;
  }

  -- in some scopes, and then in others
  pub does-more : (f : Scope → Deed) (xs ys : List Scope) (a b c : Table) → Does scene f xs a b → Does scene f ys b c → Does scene f (xs ++ ys) a c
  does-more f xs ys a b c h k = record {
    quiet = All-append (λ s. IsQuiet (f s)) xs ys h.quiet k.quiet;
    hears = subst (λ l. Hears scene.program.now (rows scene) l a c) (sym (flat_map-append (λ s. (f s).said) xs ys))
        (hears-more scene.program.now (rows scene) (flat_map (λ s. (f s).said) xs) (flat_map (λ s. (f s).said) ys) a b c h.hears k.hears);
  }

  -- one deed, and then another in the scopes that it leaves
  pub does-then : (f g : Scope → Deed) (xs : List Scope) (a b c : Table) → Does scene f xs a b → Does scene g (map (λ s. (f s).scope) xs) b c
      → Does scene (λ s. followed_by (f s) g) xs a c
  does-then f g xs a b c h k =
      let next : Scope → Deed = λ s. g (f s).scope in
      let later : All (λ s. IsQuiet (next s)) xs = All-back (λ s. (f s).scope) (λ s. IsQuiet (g s)) xs k.quiet in
      let second : Hears scene.program.now (rows scene) (flat_map (λ s. (next s).said) xs) b c =
      subst (λ l. Hears scene.program.now (rows scene) l b c) (mapped-said (λ s. (f s).scope) (λ s. (g s).said) xs) k.hears in
      record {
        quiet = All-both (λ s. IsQuiet (f s)) (λ s. IsQuiet (next s)) (λ s. IsQuiet (followed_by (f s) g)) (λ s p q. quiet-then (f s) g p q) xs h.quiet later;
        hears = subst (λ l. Hears scene.program.now (rows scene) l a c)
            (same-said (λ s. (f s).said ++ (next s).said) (λ s. (followed_by (f s) g).said) xs (λ i d low. said-then (f (get_or xs i d)) g (h.quiet i d low)))
            (hears-alike scene.program.now (rows scene) _ _ a c (alike-woven (λ s. (f s).said) (λ s. (next s).said) xs)
            (hears-more scene.program.now (rows scene) _ _ a b c h.hears second));
      }

  -- ---- blocks

  pub does-nothing : (xs : List Scope) (heard : Table) → Does scene (done_by scene []) xs heard heard
  does-nothing xs heard = record {
    quiet = λ k d low. record { faults = refl; goes_on = refl };
    hears = subst (λ l. Hears scene.program.now (rows scene) l heard heard)
        (sym (no-faults (λ s. (done_by scene [] s).said) xs (λ k d low. refl))) (hears-none scene.program.now (rows scene) heard);
  }

  -- what is left of a block: an action, and the rest behind it
  pub does-left : (items body : List Action) (i : ℕ) (x : Action) → items ≡ body → i < length items → x ≡ get_or items i x
      → (xs : List Scope) (a b c : Table)
      → Does scene (act scene.program.now (world scene) x) xs a b
      → Does scene (done_by scene (drop (i + 1) body))
      (map (λ s. (act scene.program.now (world scene) x s).scope) xs) b c
      → Does scene (done_by scene (drop i body)) xs a c
  does-left items body i x same low is xs a b c h k =
      let within : i < length body = subst (λ (l : List Action). i < length l) same low in
      let got : x ≡ get_or body i x = subst (λ (l : List Action). x ≡ get_or l i x) same is in
      let cut : x ∷ drop (i + 1) body ≡ drop i body = ap (λ (y : Action). y ∷ drop (i + 1) body) got ∙ sym (drop_more body i x within) in
      subst (λ (l : List Action). Does scene (done_by scene l) xs a c) cut
      (does-then (act scene.program.now (world scene) x)
      (done_by scene (drop (i + 1) body)) xs a b c h k)

  -- ---- loops

  module _ (f : Scope → Deed) (into : Scope → List Scope) where
    -- what is done in all scopes that a loop goes into, as one deed of each scope
    pub does-loop : (xs : List Scope) (a b : Table) → Does scene f (flat_map into xs) a b → Does scene (λ s. iterated s (map f (into s))) xs a b
    does-loop xs a b h = record {
      quiet = quiet-each xs h.quiet;
      hears = subst (λ l. Hears scene.program.now (rows scene) l a b) (said-all xs) h.hears;
    }
      where
        faults-none : (ys : List Scope) → All (λ s. IsQuiet (f s)) ys → flat_map (λ (d : Deed). d.faults) (map f ys) ≡ []
        faults-none [] all = refl
        faults-none (y ∷ ys) all =
            ap₂ (λ p q. p ++ q) (All-head (λ s. IsQuiet (f s)) y ys all).faults (faults-none ys (All-tail (λ s. IsQuiet (f s)) y ys all))

        quiet-each : (ys : List Scope) → All (λ s. IsQuiet (f s)) (flat_map into ys) → All (λ s. IsQuiet (iterated s (map f (into s)))) ys
        quiet-each [] all = All-nil (λ s. IsQuiet (iterated s (map f (into s))))
        quiet-each (y ∷ ys) all =
            let parts = All-parts (λ s. IsQuiet (f s)) (into y) (flat_map into ys) all in
            All-cons (λ s. IsQuiet (iterated s (map f (into s)))) y ys
            (record { faults = faults-none (into y) parts.0; goes_on = refl }) (quiet-each ys parts.1)
          where
            All-parts : {A : Type 0} (P : A → Type 0) (us vs : List A) → All P (us ++ vs) → All P us × All P vs
            All-parts P [] vs all = (All-nil P, all)
            All-parts P (u ∷ us) vs all =
                let rest = All-parts P us vs (All-tail P u (us ++ vs) all) in
                (All-cons P u us (All-head P u (us ++ vs) all) rest.0, rest.1)

        said-all : (ys : List Scope) → flat_map (λ s. (f s).said) (flat_map into ys) ≡ flat_map (λ s. (iterated s (map f (into s))).said) ys
        said-all ys =
            nested-said into (λ s. (f s).said) ys
            ∙ same-said (λ s. flat_map (λ t. (f t).said) (into s)) (λ s. flat_map (λ (d : Deed). d.said) (map f (into s))) ys
            (λ k d low. sym (mapped-said f (λ (d : Deed). d.said) (into (get_or ys k d))))
