-- Joined totals: regrouped, reordered, and as the totals of lists.
use Rattle.std.proofs.Common.{◌≡◌, ◌∙◌, refl, sym, ap, subst, ℕ, ◌+◌, ◌*◌, ◌^◌, ◌≤◌, ℤ, pos, ◌+ℤ◌, unsigned_abs, true, List, [], ◌∷◌, ◌++◌, length, arith}
use Rattle.std.specs.Ordering.{int_eq}
use Rattle.std.specs.Int.{w64}
use Rattle.std.specs.Int.RustNames.{FitsSigned}
use Rattle.std.specs.List.{All, fold}
use Rattle.std.specs.List.Sorted.{IsPermutation}
use Rattle.std.proofs.lemmas.Int.{ints, clamps}
use Rattle.std.proofs.lemmas.List.{length-append}
use Rattle.std.proofs.lemmas.List.Sums.{fold-append}
use Rattle.std.proofs.lemmas.List.Sorted.{length_permutation}
use Rattle.std.proofs.lemmas.List.Elements.{All-head, All-tail}
use Rattle.brace_model.specs.declared.program.Comb.{Comb}
use Rattle.brace_model.specs.declared.program.Comb.TheVariants.{Sum, Min, Max, Count, Or}
use Rattle.brace_model.specs.declared.program.Value.{Value}
use Rattle.brace_model.specs.World.{number}
use Rattle.brace_model.specs.Total.{identity, joined, total_of}
use Rattle.brace_comb.specs.declared.total.Total.{Total}
use Rattle.brace_comb.specs.declared.total.Total.TheVariants as total
use Rattle.brace_comb.specs.Totals.{Tally, tally, tally_of, brought, merged, join, IsBounded}
use Rattle.brace_comb.specs.Folds.{IsFold, none, one, both, moved}
use Rattle.brace_comb.proofs.Permutations.{fold-IsPermutation}

merged-assoc : (comb : Comb) (a b c : ℤ)
    → merged comb (merged comb a b) c ≡ merged comb a (merged comb b c)
merged-assoc Sum a b c = omega (arith, ints)
merged-assoc Count a b c = omega (arith, ints)
merged-assoc _ a b c = omega (arith, ints, clamps)

merged-comm : (comb : Comb) (a b : ℤ) → merged comb a b ≡ merged comb b a
merged-comm Sum a b = omega (arith, ints)
merged-comm Count a b = omega (arith, ints)
merged-comm _ a b = omega (arith, ints, clamps)

joined-merged : (comb : Comb) (t : ℤ) (v : Value) → joined comb t v ≡ merged comb t (brought comb v)
joined-merged Sum t v = refl
joined-merged _ t v = refl

-- a value may be joined before or after two numbers are merged
through : (comb : Comb) (a b : ℤ) (v : Value)
    → joined comb (merged comb a b) v ≡ merged comb a (joined comb b v)
through comb a b v =
    joined-merged comb (merged comb a b) v
    ∙ merged-assoc comb a b (brought comb v)
    ∙ ap (merged comb a) (sym (joined-merged comb b v))

fold-through : (comb : Comb) (a b : ℤ) (vs : List Value)
    → fold (joined comb) (merged comb a b) vs ≡ merged comb a (fold (joined comb) b vs)
fold-through comb a b [] = refl
fold-through comb a b (v ∷ vs) =
    ap (λ t. fold (joined comb) t vs) (through comb a b v) ∙ fold-through comb a (joined comb b v) vs

-- two numbers may change places
merged-turn : (comb : Comb) (a b c : ℤ) → merged comb (merged comb a b) c ≡ merged comb (merged comb a c) b
merged-turn comb a b c =
    merged-assoc comb a b c ∙ ap (merged comb a) (merged-comm comb b c) ∙ sym (merged-assoc comb a c b)

-- two values may change places
pub turn : (comb : Comb) (t : ℤ) (x y : Value) → joined comb (joined comb t x) y ≡ joined comb (joined comb t y) x
turn comb t x y =
    let a = joined-merged comb t x in
    let b = joined-merged comb t y in
    let c = joined-merged comb (joined comb t x) y in
    let d = joined-merged comb (joined comb t y) x in
    let e = merged-turn comb t (brought comb x) (brought comb y) in
    cc

merged-identities : (comb : Comb) → merged comb (identity comb) (identity comb) ≡ identity comb
merged-identities Sum = refl
merged-identities _ = refl

-- the total of values is as it was after the total of none is joined
total_of-identity : (comb : Comb) (vs : List Value)
    → merged comb (total_of comb vs) (identity comb) ≡ total_of comb vs
total_of-identity comb vs =
    merged-comm comb (total_of comb vs) (identity comb)
    ∙ sym (fold-through comb (identity comb) (identity comb) vs)
    ∙ ap (λ t. fold (joined comb) t vs) (merged-identities comb)

-- values more are merged as their total is
pub fold-merged : (comb : Comb) (us vs : List Value)
    → fold (joined comb) (total_of comb us) vs ≡ merged comb (total_of comb us) (total_of comb vs)
fold-merged comb us vs =
    sym (ap (λ t. fold (joined comb) t vs) (total_of-identity comb us)) ∙ fold-through comb (total_of comb us) (identity comb) vs

total_of-append : (comb : Comb) (xs ys : List Value)
    → merged comb (total_of comb xs) (total_of comb ys) ≡ total_of comb (xs ++ ys)
total_of-append comb xs ys = sym (fold-merged comb xs ys) ∙ sym (fold-append (joined comb) (identity comb) xs ys)

-- a count of values more
pub fold-counted : (t : ℤ) (vs : List Value) → fold (joined Count) t vs ≡ t +ℤ pos (length vs)
fold-counted t [] = omega (arith, ints)
fold-counted t (v ∷ vs) = let rest = fold-counted (t +ℤ pos 1) vs in omega (arith, ints, rest)

pub join-append : (comb : Comb) (xs ys : List Value)
    → join (tally_of comb xs) (tally_of comb ys) ≡ tally_of comb (xs ++ ys)
join-append comb xs ys =
    let number = total_of-append comb xs ys in
    let count = length-append xs ys in
    cc

pub tally_of-IsPermutation : (comb : Comb) (xs ys : List Value) → IsPermutation xs ys
    → tally_of comb xs ≡ tally_of comb ys
tally_of-IsPermutation comb xs ys p =
    let number = fold-IsPermutation (joined comb) (λ v. Unit {0}) (λ t x y p q. turn comb t x y) (identity comb) xs ys (λ k d le. tt) p in
    let count = length_permutation xs ys p in
    cc

pub join-assoc : (a b c : Tally) → a.comb ≡ b.comb → b.comb ≡ c.comb
    → join (join a b) c ≡ join a (join b c)
join-assoc a b c same same' =
    let number = merged-assoc a.comb a.number b.number c.number in
    let count : a.count + b.count + c.count ≡ a.count + (b.count + c.count) = omega arith in
    cc

pub join-comm : (a b : Tally) → a.comb ≡ b.comb → join a b ≡ join b a
join-comm a b same =
    let number = merged-comm a.comb a.number b.number in
    let count : a.count + b.count ≡ b.count + a.count = omega arith in
    cc

pub join-turn : (a b c : Tally) → join (join a b) c ≡ join (join a c) b
join-turn a b c =
    let number = merged-turn a.comb a.number b.number c.number in
    let count : a.count + b.count + c.count ≡ a.count + c.count + b.count = omega arith in
    cc

pub fold_total : (comb : Comb) (values : List Value) (t : Tally) → IsFold comb values t
    → t ≡ tally_of comb values
fold_total comb _ _ (both xs ys a b f g) =
    ap (λ t. join t b) (fold_total comb xs a f)
    ∙ ap (join (tally_of comb xs)) (fold_total comb ys b g)
    ∙ join-append comb xs ys
fold_total comb _ _ (moved xs ys t p f) =
    fold_total comb xs t f ∙ tally_of-IsPermutation comb xs ys p
fold_total comb _ _ _ = refl

abbrev AreOf64Bits : List Value → Type 0
AreOf64Bits = All (λ v. FitsSigned w64 (number v))

-- one more value of 64 bits keeps a sum bounded
sum_bounded : (t : ℤ) (k : ℕ) (vs : List Value) → AreOf64Bits vs → unsigned_abs t ≤ 2 ^ 63 * k
    → unsigned_abs (fold (joined Sum) t vs) ≤ 2 ^ 63 * (k + length vs)
sum_bounded t k [] fit h = omega (arith, h)
sum_bounded t k (v ∷ vs) fit h =
    let head = All-head (λ (w : Value). FitsSigned w64 (number w)) v vs fit in
    let more : unsigned_abs (t +ℤ number v) ≤ 2 ^ 63 * (k + 1) = omega (arith, ints, head, h) in
    let tail = All-tail (λ (w : Value). FitsSigned w64 (number w)) v vs fit in
    let rest = sum_bounded (t +ℤ number v) (k + 1) vs tail more in
    omega (arith, rest)

pub tally_of-bounded : (comb : Comb) (values : List Value) → AreOf64Bits values
    → IsBounded (tally_of comb values)
tally_of-bounded comb values fit is =
    let sum = sum_bounded (pos 0) 0 values fit (omega arith) in
    let P : Comb → Type 0 = λ c. unsigned_abs (total_of c values) ≤ 2 ^ 63 * length values in
    subst P (sym is) (omega (arith, sum))

-- the total of which this is seen
abbrev remade : Comb → ℤ → ℕ → Total
remade Sum n k = total.Sum n k
remade Min n k = total.Least n k
remade Max n k = total.Greatest n k
remade Count n k = total.Count k
remade Or n k = total.Any (int_eq n (pos 1)) k

remade-tally : (a : Total) → remade (tally a).comb (tally a).number (tally a).count ≡ a
remade-tally (total.Any true k) = refl
remade-tally _ = refl

pub as_seen : (a b : Total) → tally a ≡ tally b → a ≡ b
as_seen a b e = sym (remade-tally a) ∙ ap (λ s. remade s.comb s.number s.count) e ∙ remade-tally b
