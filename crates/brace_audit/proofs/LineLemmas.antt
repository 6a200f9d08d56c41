-- In which line two texts differ that have a front in common.
use Rattle.std.proofs.Common.{◌≡◌, ◌∙◌, refl, sym, ap, ℕ, ◌+◌, ◌==◌, List, [], ◌∷◌, ◌++◌, Bool, true, false, cond, Option, Some, None, add-zero, arith}
use Rattle.std.specs.Str.{bytes_eq}
use Rattle.std.proofs.lemmas.Bool.{eq-eqb}
use Rattle.std.proofs.lemmas.List.Sums.{sum_by-append}
use Rattle.brace_audit.specs.Differs.{with_byte, lines, first_other, differs}
use Rattle.brace_audit.specs.inner.Reading.{line_feeds}

-- a byte before two texts tells nothing of whether they are equal
same_head : (b : ℕ) (x y : List ℕ) → bytes_eq (b ∷ x) (b ∷ y) ≡ bytes_eq x y
same_head b x y = rw (eq-eqb b b refl) refl

other_head : (b c : ℕ) (x y : List ℕ) → (b == c) ≡ false → bytes_eq (b ∷ x) (c ∷ y) ≡ false
other_head b c x y h = rw h refl

-- a text equals itself
same : (x : List ℕ) → bytes_eq x x ≡ true
same [] = refl
same (b ∷ x) = same_head b x x ∙ same x

-- no line is empty
abbrev is_filled : List (List ℕ) → Bool
is_filled ([] ∷ ls) = false
is_filled _ = true

filled_with : (c : Bool) (b : ℕ) (ls : List (List ℕ)) → is_filled (with_byte c b ls) ≡ true
filled_with true b ls = refl
filled_with false b [] = refl
filled_with false b (l ∷ ls) = refl

lines_filled : (x : List ℕ) → is_filled (lines x) ≡ true
lines_filled [] = refl
lines_filled (b ∷ x) = filled_with (b == 10) b (lines x)

abbrev pub told : ℕ → List (List ℕ) → List (List ℕ) → Bool → Option ℕ
told n ks ls c = cond c (first_other (n + 1) ks ls) (Some n)

-- a byte that begins the first line of both
begun : (b n : ℕ) (ks ls : List (List ℕ)) → is_filled ks ≡ true → is_filled ls ≡ true → first_other n (with_byte false b ks) (with_byte false b ls) ≡ first_other n ks ls
begun b n [] [] p q = ap (told n [] []) (same (b ∷ []))
begun b n [] ([] ∷ ls) p q = cc
begun b n [] ((m ∷ l) ∷ ls) p q = ap (told n [] ls) (same_head b [] (m ∷ l))
begun b n ([] ∷ ks) ls p q = cc
begun b n ((m ∷ k) ∷ ks) [] p q = ap (told n ks []) (same_head b (m ∷ k) [])
begun b n ((m ∷ k) ∷ ks) (l ∷ ls) p q = ap (told n ks ls) (same_head b (m ∷ k) l)

-- a byte before both texts
one_byte : (c : Bool) (b n : ℕ) (x y : List ℕ) → first_other n (with_byte c b (lines x)) (with_byte c b (lines y)) ≡ first_other (n + cond c 1 0) (lines x) (lines y)
one_byte true b n x y = ap (told n (lines x) (lines y)) (same (b ∷ []))
one_byte false b n x y = begun b n (lines x) (lines y) (lines_filled x) (lines_filled y) ∙ ap (λ m. first_other m (lines x) (lines y)) (sym (add-zero n))

-- two texts part: one of them ends, or their first bytes are two
abbrev pub Part : List ℕ → List ℕ → Type 0
Part [] [] = ⊥
Part [] (c ∷ y) = Unit {0}
Part (b ∷ x) [] = Unit {0}
Part (b ∷ x) (c ∷ y) = (b == c) ≡ false

lacks_left : (n : ℕ) (p : Bool) (b : ℕ) (ls : List (List ℕ)) → first_other n [] (with_byte p b ls) ≡ Some n
lacks_left n true b ls = refl
lacks_left n false b [] = refl
lacks_left n false b (l ∷ ls) = refl

lacks_right : (n : ℕ) (p : Bool) (b : ℕ) (ls : List (List ℕ)) → first_other n (with_byte p b ls) [] ≡ Some n
lacks_right n true b ls = refl
lacks_right n false b [] = refl
lacks_right n false b (l ∷ ls) = refl

two_heads : (n b c : ℕ) (x y : List ℕ) (ks ls : List (List ℕ)) → (b == c) ≡ false → first_other n ((b ∷ x) ∷ ks) ((c ∷ y) ∷ ls) ≡ Some n
two_heads n b c x y ks ls h = ap (told n ks ls) (other_head b c x y h)

first_with : (p q : Bool) (n b c : ℕ) (ks ls : List (List ℕ)) → (b == c) ≡ false → first_other n (with_byte p b ks) (with_byte q c ls) ≡ Some n
first_with true true n b c ks ls h = two_heads n b c [] [] ks ls h
first_with true false n b c ks [] h = two_heads n b c [] [] ks [] h
first_with true false n b c ks (l ∷ ls) h = two_heads n b c [] l ks ls h
first_with false true n b c [] ls h = two_heads n b c [] [] [] ls h
first_with false true n b c (k ∷ ks) ls h = two_heads n b c k [] ks ls h
first_with false false n b c [] [] h = two_heads n b c [] [] [] [] h
first_with false false n b c [] (l ∷ ls) h = two_heads n b c [] l [] ls h
first_with false false n b c (k ∷ ks) [] h = two_heads n b c k [] ks [] h
first_with false false n b c (k ∷ ks) (l ∷ ls) h = two_heads n b c k l ks ls h

parted : (n : ℕ) (x y : List ℕ) → Part x y → first_other n (lines x) (lines y) ≡ Some n
parted n [] [] h = absurd h
parted n [] (c ∷ y) h = lacks_left n (c == 10) c (lines y)
parted n (b ∷ x) [] h = lacks_right n (b == 10) b (lines x)
parted n (b ∷ x) (c ∷ y) h = first_with (b == 10) (c == 10) n b c (lines x) (lines y) h

behind : (n : ℕ) (p x y : List ℕ) → Part x y → first_other n (lines (p ++ x)) (lines (p ++ y)) ≡ Some (n + line_feeds p)
behind n [] x y h = parted n x y h ∙ ap Some (sym (add-zero n))
behind n (b ∷ p) x y h =
    let more : line_feeds (b ∷ p) ≡ (0 + cond (b == 10) 1 0) + line_feeds p = sum_by-append (λ (x : ℕ). cond (x == 10) 1 0) (b ∷ []) p in
    one_byte (b == 10) b n (p ++ x) (p ++ y)
    ∙ behind (n + cond (b == 10) 1 0) p x y h
    ∙ ap Some (omega (arith, more))

-- texts that part behind a front differ first in the line behind the front's last line feed
pub differs_behind : (p x y : List ℕ) → Part x y → differs (p ++ x) (p ++ y) ≡ Some (1 + line_feeds p)
differs_behind p x y h = behind 1 p x y h

no_other : (n : ℕ) (ls : List (List ℕ)) → first_other n ls ls ≡ None
no_other n [] = refl
no_other n (l ∷ ls) = ap (told n ls ls) (same l) ∙ no_other (n + 1) ls

-- a text does not differ from itself
pub differs_nowhere : (x y : List ℕ) → x ≡ y → differs x y ≡ None
differs_nowhere x y e = ap (λ t. differs t y) e ∙ no_other 1 (lines y)
