-- Counts: over a part of a list, through a map and a filter, and of two tests.
use Rattle.std.proofs.Common.{◌≡◌, ◌∙◌, ℕ, zero, suc, ◌+◌, ◌-◌, ◌<◌, ◌≤◌, Bool, true, false, cond, ◌&&◌, List, [], ◌∷◌, length, map, get_or, take, drop, refl, sym, ap, ap₂, arith}
use Rattle.std.specs.List.{count_by, filter}
use Rattle.std.proofs.lemmas.List.Sums.{sum_by-cons}
use Rattle.std.proofs.lemmas.Bool.{and_right}

pub count-cons : {X : Type 0} (p : X → Bool) (x : X) (xs : List X) → count_by p (x ∷ xs) ≡ cond (p x) 1 0 + count_by p xs
count-cons p x xs = sum_by-cons (λ x. cond (p x) 1 0) x xs

-- tests that agree at each element count alike
pub count_same : {X : Type 0} (p q : X → Bool) → ((x : X) → p x ≡ q x) → (xs : List X) → count_by p xs ≡ count_by q xs
count_same p q e [] = refl
count_same p q e (x ∷ xs) = count-cons p x xs ∙ ap₂ (λ b n. cond b 1 0 + n) (e x) (count_same p q e xs) ∙ sym (count-cons q x xs)

pub count_none : {X : Type 0} (p : X → Bool) (xs : List X) → ((j : ℕ) (d : X) → j < length xs → p (get_or xs j d) ≡ false) → count_by p xs ≡ 0
count_none p [] none = refl
count_none p (x ∷ xs) none =
    count-cons p x xs ∙ ap₂ (λ b n. cond b 1 0 + n) (none 0 x (omega arith)) (count_none p xs (λ j d h. none (suc j) d (omega (arith, h))))

pub count_all : {X : Type 0} (xs : List X) → count_by (λ x. true) xs ≡ length xs
count_all [] = refl
count_all (x ∷ xs) = count-cons (λ x. true) x xs ∙ omega (arith, count_all xs)

pub count_map : {X Y : Type 0} (p : Y → Bool) (f : X → Y) (xs : List X) → count_by p (map f xs) ≡ count_by (λ x. p (f x)) xs
count_map p f [] = refl
count_map p f (x ∷ xs) = count-cons p (f x) (map f xs) ∙ ap (λ n. cond (p (f x)) 1 0 + n) (count_map p f xs) ∙ sym (count-cons (λ x. p (f x)) x xs)

pub count_filter : {X : Type 0} (p q : X → Bool) (xs : List X) → count_by q (filter p xs) ≡ count_by (λ x. p x && q x) xs
count_filter p q [] = refl
count_filter p q (x ∷ xs) = at (p x) ∙ ap (λ n. cond (p x && q x) 1 0 + n) (count_filter p q xs) ∙ sym (count-cons (λ x. p x && q x) x xs)
  where
    at : (b : Bool) → count_by q (cond b (x ∷ filter p xs) (filter p xs)) ≡ cond (b && q x) 1 0 + count_by q (filter p xs)
    at true = count-cons q x (filter p xs)
    at false = omega arith

take_none : {X : Type 0} (q : X → Bool) (n : ℕ) → count_by q (take n []) ≡ 0
take_none q zero = refl
take_none q (suc n) = refl

-- a test holds of a list at the places from a on and before b alone
pub record HoldsBetween {X : Type 0} (t : X → Bool) (xs : List X) (a b : ℕ) : Type 0 where
  pub below : (j : ℕ) (d : X) → j < length xs → j < a → t (get_or xs j d) ≡ false
  pub within : (j : ℕ) (d : X) → j < length xs → a ≤ j → j < b → t (get_or xs j d) ≡ true
  pub behind : (j : ℕ) (d : X) → j < length xs → b ≤ j → t (get_or xs j d) ≡ false

holds_behind : {X : Type 0} (t : X → Bool) (x : X) (xs : List X) (a b : ℕ) → HoldsBetween t (x ∷ xs) a b → HoldsBetween t xs (a - 1) (b - 1)
holds_behind t x xs a b h = record {
  below = λ j d small less. h.below (suc j) d (omega (arith, small)) (omega (arith, less));
  within = λ j d small more less. h.within (suc j) d (omega (arith, small)) (omega (arith, more)) (omega (arith, less));
  behind = λ j d small more. h.behind (suc j) d (omega (arith, small)) (omega (arith, more));
}

-- such a part of a list is what the test takes
pub count_part : {X : Type 0} (q t : X → Bool) (xs : List X) (a b : ℕ) → HoldsBetween t xs a b → count_by q (take (b - a) (drop a xs)) ≡ count_by (λ x. q x && t x) xs
count_part q t [] zero b h = take_none q (b - 0)
count_part q t [] (suc a) b h = take_none q (b - suc a)
count_part q t (x ∷ xs) a zero h =
    let n : 0 - a ≡ 0 = omega arith in
    ap (λ k. count_by q (take k (drop a (x ∷ xs)))) n
    ∙ sym (count_none (λ x. q x && t x) (x ∷ xs) (λ j d small. and_right (q (get_or (x ∷ xs) j d)) _ (h.behind j d small (omega arith))))
count_part q t (x ∷ xs) zero (suc b) h =
    let n : suc b - 0 ≡ suc b = omega arith in
    let m : (suc b - 1) - (0 - 1) ≡ b = omega arith in
    let z : 0 - 1 ≡ 0 = omega arith in
    let here : t x ≡ true = h.within 0 x (omega arith) (omega arith) (omega arith) in
    let rest : count_by q (take b xs) ≡ count_by (λ x. q x && t x) xs =
    sym (ap₂ (λ k a. count_by q (take k (drop a xs))) m z) ∙ count_part q t xs (0 - 1) (suc b - 1) (holds_behind t x xs 0 (suc b) h) in
    ap (λ k. count_by q (take k (x ∷ xs))) n ∙ count-cons q x (take b xs)
    ∙ ap₂ (λ c k. cond c 1 0 + k) (sym (and_here (q x)) ∙ ap (λ c. q x && c) (sym here)) rest ∙ sym (count-cons (λ x. q x && t x) x xs)
  where
    and_here : (p : Bool) → (p && true) ≡ p
    and_here true = refl
    and_here false = refl
count_part q t (x ∷ xs) (suc a) (suc b) h =
    let n : suc b - suc a ≡ (suc b - 1) - (suc a - 1) = omega arith in
    let z : suc a - 1 ≡ a = omega arith in
    let off : (q x && t x) ≡ false = and_right (q x) (t x) (h.below 0 x (omega arith) (omega arith)) in
    ap₂ (λ k a. count_by q (take k (drop a xs))) n (sym z) ∙ count_part q t xs (suc a - 1) (suc b - 1) (holds_behind t x xs (suc a) (suc b) h)
    ∙ (sym (count-cons (λ x. q x && t x) x xs ∙ ap (λ c. cond c 1 0 + count_by (λ x. q x && t x) xs) off ∙ omega arith))

-- what one of two tests that exclude each other takes
pub count_two : {X : Type 0} (t a b : X → Bool) → ((x : X) → cond (t x) 1 0 ≡ cond (a x) 1 0 + cond (b x) 1 0) → (m : X → Bool) (xs : List X)
    → count_by (λ x. m x && t x) xs ≡ count_by (λ x. m x && a x) xs + count_by (λ x. m x && b x) xs
count_two t a b each m [] = refl
count_two t a b each m (x ∷ xs) =
    omega (arith, count-cons (λ x. m x && t x) x xs, count-cons (λ x. m x && a x) x xs, count-cons (λ x. m x && b x) x xs, here (m x), count_two t a b each m xs)
  where
    here : (p : Bool) → cond (p && t x) 1 0 ≡ cond (p && a x) 1 0 + cond (p && b x) 1 0
    here true = each x
    here false = refl
