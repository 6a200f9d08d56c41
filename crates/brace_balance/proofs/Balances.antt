-- What is known of the cuts and the proof that are given.
use Rattle.std.proofs.Common.{◌≡◌, ℕ, zero, suc, ◌+◌, ◌-◌, ◌≤◌, ◌<◌, ℤ, true, ◌&&◌, List, [], ◌∷◌, length, get_or, refl, sym, ap₂, subst, arith, int_le, nat_eq, eq-eqb, slice_get, None}
use Rattle.std.specs.Prelude.{int_lt}
use Rattle.std.specs.List.{list_all}
use Rattle.std.proofs.lemmas.Bool.{and_parts, and_from, le-leb}
use Rattle.std.proofs.lemmas.Int.{ints}
use Rattle.brace_cuts.specs.Space.{rises, can_cut, least as least_number}
use Rattle.brace_balance.specs.Loads.{never_falls, load, times, posts_hold, accepts, IsLeast}
use Rattle.brace_balance.specs.Fillings.{filled, IsProof}
use Rattle.brace_balance.specs.declared.kinds.Proof.{Proof}
use Rattle.brace_balance.specs.declared.kinds.Proof.TheVariants.{Empty, Stack, Posts}
use Rattle.brace_balance.proofs.Filled.{filled_within, filled_rises, cuts_rise, filled_loads, filled_posts}
use Rattle.brace_balance.proofs.Refusals.{accepted_is_least}

-- the proof that is given is accepted
pub given_is_accepted : (xs : List ℤ) (strips n : ℕ) (proof : Proof) → 0 < length xs
    → never_falls xs ≡ true → 1 ≤ n → strips ≤ length (filled (n - 1) strips xs)
    → IsProof xs strips n proof → accepts xs strips n proof ≡ true
given_is_accepted [] strips n proof some up pos less is = absurd (omega (arith, some))
given_is_accepted (s ∷ xs) strips zero proof some up pos less is = absurd (omega (arith, pos))
given_is_accepted (s ∷ xs) strips (suc m) Empty some up pos less is = absurd (cc)
given_is_accepted (s ∷ xs) strips (suc m) (Stack p) some up pos less is =
    le-leb (suc m) (times p (s ∷ xs)) is.1.stands
given_is_accepted (s ∷ xs) strips (suc m) (Posts posts) some up pos less is =
    let back : suc m - 1 ≡ m = omega arith in
    let less' = subst (λ k. strips ≤ length (filled k strips (s ∷ xs))) back less in
    let same = subst (λ k. posts ≡ s ∷ filled k strips (s ∷ xs)) back is.2 in
    let (rise, hold) = filled_posts m strips s xs up is.1 in
    subst (λ l. (nat_eq (length l) (strips + 1) && rises l && posts_hold (suc m) (s ∷ xs) l) ≡ true) (sym same)
    (and_from (nat_eq (suc (length (filled m strips (s ∷ xs)))) (strips + 1) && rises (s ∷ filled m strips (s ∷ xs)))
    (posts_hold (suc m) (s ∷ xs) (s ∷ filled m strips (s ∷ xs)))
    (and_from (nat_eq (suc (length (filled m strips (s ∷ xs)))) (strips + 1)) (rises (s ∷ filled m strips (s ∷ xs)))
    (eq-eqb (suc (length (filled m strips (s ∷ xs)))) (strips + 1) (omega (arith, less', filled_within m strips (s ∷ xs))))
    rise) hold)

-- the load of the cuts that are given
pub load_is : (xs : List ℤ) (strips n : ℕ) (proof : Proof) → never_falls xs ≡ true
    → length (filled n strips xs) < strips → accepts xs strips n proof ≡ true
    → load (filled n strips xs) xs ≡ n
load_is xs strips n proof up enough is =
    omega (arith, filled_loads n strips xs up enough, accepted_is_least xs (filled n strips xs) strips n proof is enough)

pub is_least : (xs : List ℤ) (strips n : ℕ) (proof : Proof) → never_falls xs ≡ true
    → length (filled n strips xs) < strips → accepts xs strips n proof ≡ true → IsLeast xs strips n
is_least xs strips n proof up enough is = record {
  cuts = filled n strips xs;
  rising = cuts_rise n strips xs up enough;
  few = enough;
  reached = load_is xs strips n proof up enough is;
  lowest = λ others rise few. accepted_is_least xs others strips n proof is few;
}

-- numbers that rise are above what is not above the first
rise_above : (m s : ℤ) (cuts : List ℤ) → int_le m s ≡ true → rises (s ∷ cuts) ≡ true
    → list_all (λ c. int_lt m c) cuts ≡ true
rise_above m s [] le up = refl
rise_above m s (c ∷ cuts) le up =
    let (lt, rest) = and_parts (int_lt s c) (rises (c ∷ cuts)) up in
    and_from (int_lt m c) (list_all (λ z. int_lt m z) cuts) (below m s c le lt) (rise_above m c cuts (over m s c le lt) rest)
  where
    below : (m s c : ℤ) → int_le m s ≡ true → int_lt s c ≡ true → int_lt m c ≡ true
    below m s c le lt = grind (arith, ints, le, lt)

    over : (m s c : ℤ) → int_le m s ≡ true → int_lt s c ≡ true → int_le m c ≡ true
    over m s c le lt = grind (arith, ints, le, lt)

pub filled_can_cut : (d : ℤ) (xs : List ℤ) (n k : ℕ) → 0 < length xs → never_falls xs ≡ true
    → length (filled n k xs) < k → int_le least_number (get_or xs 0 d) ≡ true
    → list_all can_cut (filled n k xs) ≡ true
filled_can_cut d [] n k some up enough le = absurd (omega (arith, some))
filled_can_cut d (s ∷ xs) n k some up enough le =
    rise_above least_number s (filled n k (s ∷ xs)) le (filled_rises n k s xs up enough)

-- ---- no numbers

pub none_there : (xs : List ℤ) → slice_get xs 0 ≡ None → xs ≡ []
none_there [] is = refl
none_there (x ∷ xs) is = absurd (cc)

pub no_load : (cuts xs : List ℤ) → cuts ≡ [] → xs ≡ [] → load cuts xs ≡ 0
no_load cuts xs none empty = ap₂ load none empty

pub least_of_none : (xs : List ℤ) (strips : ℕ) → xs ≡ [] → 1 ≤ strips → IsLeast xs strips 0
least_of_none xs strips empty some = subst (λ l. IsLeast l strips 0) (sym empty) (record {
  cuts = [];
  rising = refl;
  few = some;
  reached = refl;
  lowest = λ others rise few. omega arith;
})
