-- Lists of which some elements are chosen, and others are left out.
use Rattle.std.proofs.Common.{◌≡◌, ◌∙◌, refl, sym, ap, ap₂, subst, ℕ, zero, suc, ◌+◌, ◌<◌, List, [], ◌∷◌, ◌++◌, filter, filter_map, length, map, take, get_or, slice_get, Bool, true, false, cond, Option, Some, None, arith}
use Rattle.std.specs.List.{All, cons_option}
use Rattle.std.specs.Prelude.{if◌then◌else◌}
use Rattle.std.proofs.lemmas.List.{map-append, take_more}
use Rattle.std.proofs.lemmas.List.Elements.{All-nil, All-cons, All-head, All-tail, All-append, filter-append}
use Rattle.std.proofs.lemmas.Option.{get_or_from_slice_get, slice_get_within}

-- one element more of which something holds
pub all-more : {A : Type 0} (P : A → Type 0) (xs : List A) (i : ℕ) (x : A) → i < length xs → x ≡ get_or xs i x → All P (take i xs) → P x → All P (take (i + 1) xs)
all-more P xs i x low is before here =
    subst (All P) (sym (take_more xs i x low))
    (All-append P (take i xs) (get_or xs i x ∷ []) before (All-cons P (get_or xs i x) [] (subst P is here) (All-nil P)))

module _ {A B : Type 0} where
  -- two functions that agree on the elements of a list
  pub same-kept : (f g : A → Option B) (xs : List A) → All (λ x. f x ≡ g x) xs → filter_map f xs ≡ filter_map g xs
  same-kept f g [] all = refl
  same-kept f g (x ∷ xs) all =
      ap₂ (λ o ys. cons_option o ys) (All-head (λ y. f y ≡ g y) x xs all) (same-kept f g xs (All-tail (λ y. f y ≡ g y) x xs all))

  -- where each is kept
  pub all-kept : (f : A → Option B) (xs : List A) (ys : List B) → length ys ≡ length xs
      → ((k : ℕ) (x : A) (y : B) → k < length xs → f (get_or xs k x) ≡ Some (get_or ys k y)) → filter_map f xs ≡ ys
  all-kept f [] [] long each = refl
  all-kept f [] (y ∷ ys) long each = absurd (omega (arith, long))
  all-kept f (x ∷ xs) [] long each = absurd (omega (arith, long))
  all-kept f (x ∷ xs) (y ∷ ys) long each =
      ap₂ (λ o zs. cons_option o zs) (each zero x y (omega arith)) (all-kept f xs ys (omega (arith, long)) (λ k a b low. each (suc k) a b (omega (arith, low))))

  module _ (f : A → Option B) (P : A → Bool) where
    kept-case : (x : A) (xs : List A) (b : Bool) → P x ≡ b → (P x ≡ false → f x ≡ None) → filter_map f xs ≡ filter_map f (filter P xs)
        → filter_map f (x ∷ xs) ≡ filter_map f (cond b (x ∷ filter P xs) (filter P xs))
    kept-case x xs true is none rest = ap (cons_option (f x)) rest
    kept-case x xs false is none rest = ap (λ o. cons_option o (filter_map f xs)) (none is) ∙ rest

    -- what is kept of a list is kept of its chosen elements, where none of the others is
    pub kept-chosen : (xs : List A) → All (λ x. P x ≡ false → f x ≡ None) xs → filter_map f xs ≡ filter_map f (filter P xs)
    kept-chosen [] all = refl
    kept-chosen (x ∷ xs) all =
        kept-case x xs (P x) refl (All-head (λ y. P y ≡ false → f y ≡ None) x xs all)
        (kept-chosen xs (All-tail (λ y. P y ≡ false → f y ≡ None) x xs all))

module _ {A : Type 0} (P : A → Bool) (Q : A → Type 0) where
  chosen-case : (x : A) (xs : List A) (b : Bool) → P x ≡ b → (P x ≡ true → Q x) → All Q (filter P xs) → All Q (cond b (x ∷ filter P xs) (filter P xs))
  chosen-case x xs true is here rest = All-cons Q x (filter P xs) (here is) rest
  chosen-case x xs false is here rest = rest

  -- what holds of each element that is chosen holds of the chosen ones
  pub all-chosen : (xs : List A) → All (λ x. P x ≡ true → Q x) xs → All Q (filter P xs)
  all-chosen [] all = All-nil Q
  all-chosen (x ∷ xs) all =
      chosen-case x xs (P x) refl (All-head (λ y. P y ≡ true → Q y) x xs all) (all-chosen xs (All-tail (λ y. P y ≡ true → Q y) x xs all))

  back-case : (x : A) (xs : List A) (b : Bool) → P x ≡ b → All Q (cond b (x ∷ filter P xs) (filter P xs))
      → (All Q (filter P xs) → All (λ y. P y ≡ true → Q y) xs) → All (λ y. P y ≡ true → Q y) (x ∷ xs)
  back-case x xs true is all rest =
      All-cons (λ y. P y ≡ true → Q y) x xs (λ on. All-head Q x (filter P xs) all) (rest (All-tail Q x (filter P xs) all))
  back-case x xs false is all rest =
      All-cons (λ y. P y ≡ true → Q y) x xs (λ on. absurd (let no_way : false ≡ true = sym is ∙ on in cc)) (rest all)

  -- and back
  pub chosen-all : (xs : List A) → All Q (filter P xs) → All (λ x. P x ≡ true → Q x) xs
  chosen-all [] all = All-nil (λ y. P y ≡ true → Q y)
  chosen-all (x ∷ xs) all = back-case x xs (P x) refl all (chosen-all xs)

-- one element more, of whose chosen ones there are the numbers
pub numbers-more : {A : Type 0} (P : A → Bool) (xs : List A) (numbers new : List ℕ) (k : ℕ)
    (x d : A) (here : Bool) → slice_get xs k ≡ Some x → P x ≡ here
    → new ≡ numbers ++ (if here then k ∷ [] else [])
    → map (λ n. get_or xs n d) numbers ≡ filter P (take k xs)
    → map (λ n. get_or xs n d) new ≡ filter P (take (k + 1) xs)
numbers-more {A = A} P xs numbers new k x d here got on is before =
    ap (map at) is
    ∙ map-append at numbers (if here then k ∷ [] else [])
    ∙ ap₂ (λ l m. l ++ m) before (one here (ap P (get_or_from_slice_get xs k x d got) ∙ on))
    ∙ sym (filter-append P (take k xs) (at k ∷ []))
    ∙ ap (filter P) (sym (take_more xs k d (slice_get_within xs k x got)))
  where
    at : ℕ → A
    at n = get_or xs n d

    one : (c : Bool) → P (at k) ≡ c → map at (if c then k ∷ [] else []) ≡ filter P (at k ∷ [])
    one true e = ap (λ b. cond b (at k ∷ []) []) (sym e)
    one false e = ap (λ b. cond b (at k ∷ []) []) (sym e)
