-- Formats: what is read is spelled so, and what is spelled so is read.
use Rattle.std.proofs.Common.{◌≡◌, ℕ, zero, suc, ◌+◌, ◌<◌, ◌≤◌, ◌^◌, Bool, true, false, cond, ltb, List, [], ◌∷◌, ◌++◌, length, get_or, take, drop, Option, Some, None, refl, sym, ap, subst, ◌∙◌, append_assoc, arith, inl, inr}
use Rattle.std.specs.List.{flat_map, AllByRecursion}
use Rattle.std.specs.Int.{Width, w32, w64, byte_len, from_be_bytes, to_be_bytes}
use Rattle.std.proofs.lemmas.Bool.{cases_lt, ltb-false, le-ltb}
use Rattle.std.proofs.lemmas.List.{take_at, drop_at, take-append-drop, length-append, length-take, get_or-drop, get_or-take, get_or_past}
use Rattle.std.proofs.lemmas.List.Concat.{flat_map-cons}
use Rattle.std.proofs.lemmas.Nat.{be_bytes_4, be_bytes_8, from_be_bytes-to_be_bytes_4, from_be_bytes-to_be_bytes_8}
use Rattle.brace_wire.specs.Frames.{four, eight, listed}
use Rattle.brace_wire.specs.Fitting.{ListFits}
use Rattle.brace_wire.specs.inner.Reading.{◌>>=◌, Reading, then_at, made_at, many_at, list_at, four_at, eight_at}

-- each number is a byte
abbrev pub IsBytes : List ℕ → Type 0
IsBytes bytes = (i : ℕ) → get_or bytes i 0 < 256

pub IsBytes-drop : (n : ℕ) (bytes : List ℕ) → IsBytes bytes → IsBytes (drop n bytes)
IsBytes-drop n bytes h i = rw get_or-drop (h (n + i))

pub IsBytes-take : (n : ℕ) (bytes : List ℕ) → IsBytes bytes → IsBytes (take n bytes)
IsBytes-take n bytes h i =
    elim (cases_lt i n) [
      | inl lt ↦ rw (get_or-take n bytes i 0 lt) (h i)
      | inr le ↦ rw (get_or_past (take n bytes) i 0 (omega (arith, length-take n bytes))) (omega arith)
    ]

pub IsBytes-rest : (b : ℕ) (bytes : List ℕ) → IsBytes (b ∷ bytes) → IsBytes bytes
IsBytes-rest b bytes h i = h (suc i)

-- the value of a step that gave one
pub bind_some : {A B : Type 0} (r : Option A) (f : A → Option B) (y : B) → (r >>= f) ≡ Some y → (x : A) × (r ≡ Some x) × (f x ≡ Some y)
bind_some (Some x) f y e = (x, refl, e)
bind_some None f y e = absurd cc

abbrev pub some : {A : Type 0} → A → Option A
some x = Some x

pub some_is : {A : Type 0} (x y : A) → some x ≡ some y → x ≡ y
some_is x y e = cc

-- what a reading took from the front
pub record Takes (bytes text rest : List ℕ) : Type 0 where
  pub parts : bytes ≡ text ++ rest
  pub rest_fits : IsBytes rest

pub Takes-then : (a x b y c : List ℕ) → Takes a x b → Takes b y c → Takes a (x ++ y) c
Takes-then a x b y c p q = record { parts = p.parts ∙ ap (λ (t : List ℕ). x ++ t) q.parts ∙ sym (append_assoc x y c); rest_fits = q.rest_fits }

-- a format that is known
pub record Known {A : Type 0} (spelled : A → List ℕ) (fits : A → Type 0) (reading : Reading A) : Type 0 where
  pub takes : (bytes : List ℕ) (x : A) (rest : List ℕ) → IsBytes bytes → reading bytes ≡ Some (x, rest) → Takes bytes (spelled x) rest × fits x
  pub again : (x : A) (rest : List ℕ) → fits x → reading (spelled x ++ rest) ≡ Some (x, rest)

-- ---- numbers

module _ (w : Width) (limit : ℕ) (len : (n : ℕ) → length (to_be_bytes w n) ≡ byte_len w)
    (back : (bytes : List ℕ) → length bytes ≡ byte_len w → IsBytes bytes → to_be_bytes w (from_be_bytes w bytes) ≡ bytes)
    (again : (n : ℕ) → n < limit → from_be_bytes w (to_be_bytes w n) ≡ n)
    (below : (bytes : List ℕ) → IsBytes bytes → from_be_bytes w bytes < limit) where
  abbrev number_at : Reading ℕ
  number_at bytes = cond (ltb (length bytes) (byte_len w)) None (Some (from_be_bytes w (take (byte_len w) bytes), drop (byte_len w) bytes))

  guarded : (b : Bool) (x y : ℕ × List ℕ) → cond b None (some x) ≡ Some y → (b ≡ false) × (x ≡ y)
  guarded true x y e = absurd cc
  guarded false x y e = (refl, cc)

  number_takes : (bytes : List ℕ) (n : ℕ) (rest : List ℕ) → IsBytes bytes → number_at bytes ≡ Some (n, rest) → Takes bytes (to_be_bytes w n) rest × (n < limit)
  number_takes bytes n rest fits e =
      let g = guarded (ltb (length bytes) (byte_len w)) (from_be_bytes w (take (byte_len w) bytes), drop (byte_len w) bytes) (n, rest) e in
      let long : byte_len w ≤ length bytes = ltb-false _ _ g.0 in
      let n-is : from_be_bytes w (take (byte_len w) bytes) ≡ n = ap (λ (p : ℕ × List ℕ). p.0) g.1 in
      let rest-is : drop (byte_len w) bytes ≡ rest = ap (λ (p : ℕ × List ℕ). p.1) g.1 in
      let front : to_be_bytes w n ≡ take (byte_len w) bytes = rw (← n-is) (back (take (byte_len w) bytes) (omega (arith, length-take (byte_len w) bytes)) (IsBytes-take (byte_len w) bytes fits)) in
      (record { parts = rw (front, ← rest-is) (sym (take-append-drop (byte_len w) bytes)); rest_fits = rw (← rest-is) (IsBytes-drop (byte_len w) bytes fits) }, rw (← n-is) (below (take (byte_len w) bytes) (IsBytes-take (byte_len w) bytes fits)))

  number_again : (n : ℕ) (rest : List ℕ) → n < limit → number_at (to_be_bytes w n ++ rest) ≡ Some (n, rest)
  number_again n rest lt =
      let long : ltb (length (to_be_bytes w n ++ rest)) (byte_len w) ≡ false = le-ltb _ _ (omega (arith, length-append (to_be_bytes w n) rest, len n)) in
      rw (long, take_at (to_be_bytes w n) rest (byte_len w) (len n), drop_at (to_be_bytes w n) rest (byte_len w) (len n), again n lt) refl

  number_known : Known (to_be_bytes w) (λ n. n < limit) number_at
  number_known = record { takes = number_takes; again = number_again }

pub four_known : Known four (λ n. n < 2 ^ 32) four_at
unfolding four four_at
four_known = number_known w32 (2 ^ 32) (λ n. refl) (λ bytes len fits. be_bytes_4 bytes _ len fits refl) (λ n lt. from_be_bytes-to_be_bytes_4 n lt) (λ bytes fits. omega (arith, fits 0, fits 1, fits 2, fits 3))

pub eight_known : Known eight (λ n. n < 2 ^ 64) eight_at
unfolding eight eight_at
eight_known = number_known w64 (2 ^ 64) (λ n. refl) (λ bytes len fits. be_bytes_8 bytes _ len fits refl) (λ n lt. from_be_bytes-to_be_bytes_8 n lt) (λ bytes fits. omega (arith, fits 0, fits 1, fits 2, fits 3, fits 4, fits 5, fits 6, fits 7))

-- ---- one thing behind another

module _ {A B : Type 0} (s : A → List ℕ) (f : A → Type 0) (a : Reading A) (t : B → List ℕ) (g : B → Type 0) (b : Reading B) (k : Known s f a) (l : Known t g b) where
  abbrev pub both_spelled : A × B → List ℕ
  both_spelled p = s p.0 ++ t p.1

  abbrev pub both_fit : A × B → Type 0
  both_fit p = f p.0 × g p.1

  both_takes : (bytes : List ℕ) (x : A × B) (rest : List ℕ) → IsBytes bytes → then_at a b bytes ≡ Some (x, rest) → Takes bytes (both_spelled x) rest × both_fit x
  both_takes bytes x rest fits e =
      let p = bind_some (a bytes) (λ x. b x.1 >>= λ y. Some ((x.0, y.0), y.1)) (x, rest) e in
      let q = bind_some (b p.0.1) (λ y. Some ((p.0.0, y.0), y.1)) (x, rest) p.2 in
      let m = k.takes bytes p.0.0 p.0.1 fits p.1 in
      let n = l.takes p.0.1 q.0.0 q.0.1 m.0.rest_fits q.1 in
      let made : (A × B) × List ℕ = ((p.0.0, q.0.0), q.0.1) in
      subst (λ (z : (A × B) × List ℕ). Takes bytes (both_spelled z.0) z.1 × both_fit z.0) (some_is made (x, rest) q.2) (Takes-then bytes (s p.0.0) p.0.1 (t q.0.0) q.0.1 m.0 n.0, (m.1, n.1))

  both_again : (x : A × B) (rest : List ℕ) → both_fit x → then_at a b (both_spelled x ++ rest) ≡ Some (x, rest)
  both_again x rest fits =
      ap (then_at a b) (append_assoc (s x.0) (t x.1) rest) ∙ rw (k.again x.0 (t x.1 ++ rest) fits.0, l.again x.1 rest fits.1) refl

  pub both_known : Known both_spelled both_fit (then_at a b)
  both_known = record { takes = both_takes; again = both_again }

-- ---- what is made of what was read

module _ {A B : Type 0} (m : A → B) (s : A → List ℕ) (f : A → Type 0) (a : Reading A) (t : B → List ℕ) (g : B → Type 0) (k : Known s f a) where
  -- behind the number of its form
  pub made_takes : (front : List ℕ) → ((x : A) → f x → t (m x) ≡ front ++ s x) → ((x : A) → f x → g (m x))
      → (bytes : List ℕ) (y : B) (rest : List ℕ) → IsBytes bytes → made_at m a bytes ≡ Some (y, rest) → Takes (front ++ bytes) (t y) rest × g y
  made_takes front same fit bytes y rest fits e =
      let p = bind_some (a bytes) (λ x. Some (m x.0, x.1)) (y, rest) e in
      let n = k.takes bytes p.0.0 p.0.1 fits p.1 in
      let made : B × List ℕ = (m p.0.0, p.0.1) in
      let parts : front ++ bytes ≡ t (m p.0.0) ++ p.0.1 =
      ap (λ (x : List ℕ). front ++ x) n.0.parts ∙ sym (append_assoc front (s p.0.0) p.0.1) ∙ ap (λ (x : List ℕ). x ++ p.0.1) (sym (same p.0.0 n.1)) in
      subst (λ (z : B × List ℕ). Takes (front ++ bytes) (t z.0) z.1 × g z.0) (some_is made (y, rest) p.2) (record { parts = parts; rest_fits = n.0.rest_fits }, fit p.0.0 n.1)

  made_again : (u : B → A) → ((y : B) → g y → t y ≡ s (u y)) → ((y : B) → g y → f (u y)) → ((y : B) → g y → m (u y) ≡ y)
      → (y : B) (rest : List ℕ) → g y → made_at m a (t y ++ rest) ≡ Some (y, rest)
  made_again u same fit back y rest fits =
      ap (λ (x : List ℕ). made_at m a (x ++ rest)) (same y fits)
      ∙ (ap (λ (r : Option (A × List ℕ)). r >>= λ x. Some (m x.0, x.1)) (k.again (u y) rest (fit y fits))
      ∙ ap (λ (z : B). Some (z, rest)) (back y fits))

  pub made_known : (u : B → A) → ((x : A) → f x → t (m x) ≡ s x) → ((x : A) → f x → g (m x)) → ((y : B) → g y → t y ≡ s (u y)) → ((y : B) → g y → f (u y))
      → ((y : B) → g y → m (u y) ≡ y) → Known t g (made_at m a)
  made_known u same fit same_back fit_back back = record {
    takes = λ bytes y rest fits e. made_takes [] same fit bytes y rest fits e;
    again = λ y rest fits. made_again u same_back fit_back back y rest fits;
  }

-- ---- lists

module _ {A : Type 0} (s : A → List ℕ) (f : A → Type 0) (a : Reading A) (k : Known s f a) where
  many_takes : (n : ℕ) (bytes : List ℕ) (x : List A × List ℕ) → IsBytes bytes → many_at a n bytes ≡ Some x → Takes bytes (flat_map s x.0) x.1 × (length x.0 ≡ n) × AllByRecursion f x.0
  unfolding many_at
  many_takes zero bytes x fits e =
      subst (λ (y : List A × List ℕ). Takes bytes (flat_map s y.0) y.1 × (length y.0 ≡ 0) × AllByRecursion f y.0) (some_is ([], bytes) x e) (record { parts = refl; rest_fits = fits }, refl, tt)
  many_takes (suc n) bytes x fits e =
      let p = bind_some (a bytes) (λ first. many_at a n first.1 >>= λ others. Some (first.0 ∷ others.0, others.1)) x e in
      let q = bind_some (many_at a n p.0.1) (λ others. Some (p.0.0 ∷ others.0, others.1)) x p.2 in
      let first = k.takes bytes p.0.0 p.0.1 fits p.1 in
      let second = many_takes n p.0.1 q.0 first.0.rest_fits q.1 in
      let both = Takes-then bytes (s p.0.0) p.0.1 (flat_map s q.0.0) q.0.1 first.0 second.0 in
      let made : List A × List ℕ = (p.0.0 ∷ q.0.0, q.0.1) in
      subst (λ (y : List A × List ℕ). Takes bytes (flat_map s y.0) y.1 × (length y.0 ≡ suc n) × AllByRecursion f y.0) (some_is made x q.2) (rw flat_map-cons both, ap suc second.1, (first.1, second.2))

  many_again : (xs : List A) (rest : List ℕ) → AllByRecursion f xs → many_at a (length xs) (flat_map s xs ++ rest) ≡ Some (xs, rest)
  unfolding many_at
  many_again [] rest fits = refl
  many_again (x ∷ xs) rest fits =
      let regrouped : flat_map s (x ∷ xs) ++ rest ≡ s x ++ (flat_map s xs ++ rest) = ap (λ (y : List ℕ). y ++ rest) (flat_map-cons s x xs) ∙ append_assoc (s x) (flat_map s xs) rest in
      ap (many_at a (suc (length xs))) regrouped ∙ rw (k.again x (flat_map s xs ++ rest) fits.0, many_again xs rest fits.1) refl

  list_takes : (bytes : List ℕ) (xs : List A) (rest : List ℕ) → IsBytes bytes → list_at a bytes ≡ Some (xs, rest) → Takes bytes (listed s xs) rest × ListFits f xs
  unfolding list_at
  list_takes bytes xs rest fits e =
      let p = bind_some (four_at bytes) (λ count. many_at a count.0 count.1) (xs, rest) e in
      let first = four_known.takes bytes p.0.0 p.0.1 fits p.1 in
      let second = many_takes p.0.0 p.0.1 (xs, rest) first.0.rest_fits p.2 in
      let both = Takes-then bytes (four p.0.0) p.0.1 (flat_map s xs) rest first.0 second.0 in
      (subst (λ (n : ℕ). Takes bytes (four n ++ flat_map s xs) rest) (sym second.1) both, (omega (arith, second.1, first.1), second.2))

  list_again : (xs : List A) (rest : List ℕ) → ListFits f xs → list_at a (listed s xs ++ rest) ≡ Some (xs, rest)
  unfolding list_at
  list_again xs rest fits =
      ap (list_at a) (append_assoc (four (length xs)) (flat_map s xs) rest)
      ∙ (ap (λ (r : Option (ℕ × List ℕ)). r >>= λ count. many_at a count.0 count.1) (four_known.again (length xs) (flat_map s xs ++ rest) fits.0)
      ∙ many_again xs rest fits.1)

  pub list_known : Known (listed s) (ListFits f) (list_at a)
  list_known = record { takes = list_takes; again = list_again }
