-- Lists that are put together of the lists of several parts, and put in order by id.
use Rattle.std.proofs.Common.{◌≡◌, ◌∙◌, ◌⊎◌, refl, sym, ap, subst, ℕ, zero, suc, ◌+◌, ◌<◌, ◌≤◌, List, [], ◌∷◌, ◌++◌, filter, flat_map, Bool, true, false, cond, ◌||◌, ◌&&◌, ◌==◌, arith, inl, inr, Contains, append_assoc}
use Rattle.std.specs.List.{list_any, range_with_len}
use Rattle.std.specs.List.Sorted.{IsPermutation}
use Rattle.std.proofs.lemmas.Bool.{cases_Bool, cases_eq, ne_eqb, eq-eqb, true≢false}
use Rattle.std.proofs.lemmas.List.Sorted.{IsPermutation-refl, IsPermutation-trans, IsPermutation-append_right}
use Rattle.std.proofs.lemmas.List.Folds.{Any-from_list_any, list_any_at, list_any_none}
use Rattle.std.proofs.lemmas.List.Elements.{All-weaker, filter_passes}
use Rattle.brace_model.specs.declared.world.Agent.{Agent}
use Rattle.brace_num.proofs.Lists.{filter_alike, filter_none, in_filter, All-from_contains}
use Rattle.brace_num.proofs.Booleans.{and_false}
use Rattle.brace_num.proofs.Rows.{in_row, row_has}
use Rattle.brace_invert.proofs.Heard.{seen_in}
use Rattle.brace_invert.proofs.Runs.{turned}
use Rattle.brace_num.proofs.Orders as orders

-- ---- by rising id

-- each id is below those behind it
abbrev pub Rises : List Agent → Type 0
Rises = orders.Rises (λ (a : Agent). a.id)

-- ---- of several parts

-- a number is one of these
abbrev pub has : ℕ → List ℕ → Bool
has n ns = list_any (λ m. m == n) ns

-- no number is there twice
abbrev pub Apart : List ℕ → Type 0
Apart [] = Unit {0}
Apart (q ∷ ms) = (has q ms ≡ false) × Apart ms

module _ (t : ℕ → Bool) where
  -- numbers that are none of a row, or that do not pass, are not there
  has_not : (n a q : ℕ) → q < a → has q (filter t (range_with_len a n)) ≡ false
  has_not n a q low = list_any_none (λ m. m == q) (filter t (range_with_len a n)) (All-from_contains (λ m. (m == q) ≡ false) _ (λ m there.
      ne_eqb m q (λ e. omega (arith, e, low, (in_row a n m (seen_in t (range_with_len a n) m there).0).0))))

  pub has_failed : (n a q : ℕ) → t q ≡ false → has q (filter t (range_with_len a n)) ≡ false
  has_failed n a q fails = list_any_none (λ m. m == q) (filter t (range_with_len a n)) (All-weaker (λ m. t m ≡ true) (λ m. (m == q) ≡ false)
      (λ m passes. ne_eqb m q (λ e. true≢false (sym passes ∙ ap t e ∙ fails))) _ (filter_passes t (range_with_len a n)))

  -- numbers in a row that pass a test are apart
  pub apart_in_row : (n a : ℕ) → Apart (filter t (range_with_len a n))
  apart_in_row zero a = tt
  apart_in_row (suc n) a = elim (t a) as (λ v. Apart (cond v (a ∷ filter t (range_with_len (a + 1) n)) (filter t (range_with_len (a + 1) n)))) [
    | true ↦ (has_not n (a + 1) a (omega arith), apart_in_row n (a + 1))
    | false ↦ apart_in_row n (a + 1)
  ]

  -- some number in a row that passes is one that another test wants
  pub any_in_row : (u : ℕ → Bool) (n a q : ℕ) → a ≤ q → q < a + n → t q ≡ true → u q ≡ true → list_any u (filter t (range_with_len a n)) ≡ true
  any_in_row u n a q low high passes wanted =
      let (k, below, is) = in_filter t (range_with_len a n) q (row_has a n q low high) passes in
      list_any_at u (filter t (range_with_len a n)) k q below (ap u is ∙ wanted)

-- a list of lists of one
each_itself : {A : Type 0} (xs : List A) → flat_map (λ a. a ∷ []) xs ≡ xs
each_itself [] = refl
each_itself (x ∷ xs) = ap (λ ys. x ∷ ys) (each_itself xs)

module _ {A B : Type 0} (to : A → List B) where
  -- what is given by what passes one of two tests that nothing passes both of
  of_two : (p q : A → Bool) → ((a : A) → p a ≡ true → q a ≡ false) → (xs : List A) → IsPermutation (flat_map to (filter p xs) ++ flat_map to (filter q xs)) (flat_map to (filter (λ a. p a || q a) xs))
  of_two p q only [] = IsPermutation-refl []
  of_two p q only (x ∷ xs) = by_tests (p x) (q x) (only x) (of_two p q only xs)
    where
      one : List B
      one = flat_map to (filter p xs)

      other : List B
      other = flat_map to (filter q xs)

      by_tests : (b c : Bool) → (b ≡ true → c ≡ false) → IsPermutation (one ++ other) (flat_map to (filter (λ a. p a || q a) xs))
          → IsPermutation (flat_map to (cond b (x ∷ filter p xs) (filter p xs)) ++ flat_map to (cond c (x ∷ filter q xs) (filter q xs))) (flat_map to (cond (b || c) (x ∷ filter (λ a. p a || q a) xs) (filter (λ a. p a || q a) xs)))
      by_tests true true none rest = absurd (true≢false (none refl))
      by_tests true false none rest = subst (λ l. IsPermutation l (to x ++ flat_map to (filter (λ a. p a || q a) xs))) (sym (append_assoc (to x) one other)) (IsPermutation-append_right (to x) _ _ rest)
      by_tests false true none rest = IsPermutation-trans _ _ _ (turned one (to x) other) (IsPermutation-append_right (to x) _ _ rest)
      by_tests false false none rest = rest

  -- a test that only one number passes, for each of other numbers
  none_other : (u : ℕ → A → Bool) → ((p q : ℕ) (a : A) → u p a ≡ true → u q a ≡ true → p ≡ q) → (q : ℕ) (ms : List ℕ) → has q ms ≡ false → (a : A) → u q a ≡ true → list_any (λ m. u m a) ms ≡ false
  none_other u only q ms apart a here = elim (cases_Bool (list_any (λ m. u m a) ms)) [
    | inl some ↦
        let (k, m, low, is, there) = Any-from_list_any (λ m. u m a) ms some in
        absurd (true≢false (sym (list_any_at (λ m. m == q) ms k m low (eq-eqb _ _ (is ∙ only m q a there here))) ∙ apart))
    | inr none ↦ none
  ]

  -- what the items of several parts give, of which each has another one's
  pub given : (u : ℕ → A → Bool) → ((p q : ℕ) (a : A) → u p a ≡ true → u q a ≡ true → p ≡ q) → (ms : List ℕ) → Apart ms → (xs : List A)
      → IsPermutation (flat_map (λ q. flat_map to (filter (u q) xs)) ms) (flat_map to (filter (λ a. list_any (λ q. u q a) ms) xs))
  given u only [] apart xs = subst (λ ys. IsPermutation [] (flat_map to ys)) (sym (filter_none xs)) (IsPermutation-refl [])
  given u only (q ∷ ms) apart xs =
      IsPermutation-trans _ _ _ (IsPermutation-append_right (flat_map to (filter (u q) xs)) _ _ (given u only ms apart.1 xs))
      (of_two (u q) (λ a. list_any (λ m. u m a) ms) (none_other u only q ms apart.0) xs)

-- the items of several parts
pub gathered : {A : Type 0} (u : ℕ → A → Bool) → ((p q : ℕ) (a : A) → u p a ≡ true → u q a ≡ true → p ≡ q) → (ms : List ℕ) → Apart ms → (xs : List A)
    → IsPermutation (flat_map (λ q. filter (u q) xs) ms) (filter (λ a. list_any (λ q. u q a) ms) xs)
gathered u only ms apart xs = simp each_itself at (given (λ a. a ∷ []) u only ms apart xs)

-- of some parts none has what no part has
pub covered_none : (ms : List ℕ) → list_any (λ q. false) ms ≡ false
covered_none ms = list_any_none (λ q. false) ms (λ k d low. refl)

-- where one of some parts owns what is wanted, some part that owns it has it
pub covered : (t : ℕ → Bool) (len owner p : ℕ) (n : Bool) → (n ≡ true → (owner ≡ p → ⊥) → (owner < len) × (t owner ≡ true))
    → list_any (λ q. (owner == q) && n) (p ∷ filter t (range_with_len 0 len)) ≡ n
covered t len owner p false met = list_any_none (λ q. (owner == q) && false) (p ∷ filter t (range_with_len 0 len)) (λ k d low. and_false _)
covered t len owner p true met = by_place (cases_eq owner p)
  where
    others : List ℕ
    others = filter t (range_with_len 0 len)

    by_place : (owner ≡ p) ⊎ (owner ≡ p → ⊥) → list_any (λ q. (owner == q) && true) (p ∷ others) ≡ true
    by_place (inl same) = ap (λ v. (v && true) || list_any (λ q. (owner == q) && true) others) (eq-eqb owner p same)
    by_place (inr other) =
        let (low, passes) = met refl other in
        ap (λ v. (v && true) || list_any (λ q. (owner == q) && true) others) (ne_eqb owner p other)
        ∙ any_in_row t (λ q. (owner == q) && true) len 0 owner (omega arith) (omega (arith, low)) passes (ap (λ v. v && true) (eq-eqb owner owner refl))

-- the items of a part and of those that pass a test are all that are wanted
pub together : {A : Type 0} (u : ℕ → A → Bool) → ((p q : ℕ) (a : A) → u p a ≡ true → u q a ≡ true → p ≡ q)
    → (t : ℕ → Bool) (len p : ℕ) → t p ≡ false → (n : A → Bool) (xs : List A)
    → ((a : A) → Contains xs a → list_any (λ q. u q a) (p ∷ filter t (range_with_len 0 len)) ≡ n a)
    → IsPermutation (filter (u p) xs ++ flat_map (λ q. filter (u q) xs) (filter t (range_with_len 0 len))) (filter n xs)
together u only t len p never n xs all =
    let others : List ℕ = filter t (range_with_len 0 len) in
    subst (IsPermutation (filter (u p) xs ++ flat_map (λ q. filter (u q) xs) others)) (filter_alike (λ a. list_any (λ q. u q a) (p ∷ others)) n xs all)
    (gathered u only (p ∷ others) (has_failed t len 0 p never, apart_in_row t len 0) xs)
