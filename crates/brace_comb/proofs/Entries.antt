-- Entries: their order, and totals over lists of entries.
use Rattle.std.proofs.Common.{◌≡◌, ◌∙◌, refl, sym, ap, ap₂, ℕ, zero, suc, ◌<◌, List, [], ◌∷◌, ◌++◌, length, get_or, Bool, true, false, ◌&&◌, ◌==◌, ◌⊎◌, inl, inr, ⊎_elim, Option, Some, None, Ordering, Less, Equal, Greater, nat_cmp, fold, arith, eq-eqb, ne_eqb}
use Rattle.std.specs.Cmp.{IsTotalOrder}
use Rattle.std.specs.Ordering.{ordering_then, ordering_index, ordering_reverse}
use Rattle.std.specs.List.{AllByRecursion}
use Rattle.std.specs.List.Sorted.{IsStrictlySortedBy}
use Rattle.std.proofs.lemmas.Bool.{cases_eq}
use Rattle.std.proofs.lemmas.Cmp.{ranked, nat_cmp_total, on_total, then_total, tied_itself}
use Rattle.std.proofs.lemmas.List.Sums.{fold-append}
use Rattle.brace_comb.specs.declared.entry.Entry.{Entry}
use Rattle.brace_comb.specs.Totals.{Tally, tally}
use Rattle.brace_comb.specs.Entries.{by_place, IsRising, given_by, both, total_at}

-- the order of entries

pub by_place-total : IsTotalOrder by_place
by_place-total = then_total (on_total (λ (e : Entry). e.target) nat_cmp_total) (on_total (λ (e : Entry). e.field) nat_cmp_total)

-- both entries give to one effect of one agent
abbrev pub IsAlike : Entry → Entry → Type 0
IsAlike a b = (a.target ≡ b.target) × (a.field ≡ b.field)

-- the entry gives to this effect of this agent
abbrev pub Gives : ℕ → ℕ → Entry → Type 0
Gives target field e = (e.target ≡ target) × (e.field ≡ field)

pub equal-alike : (a b : Entry) → by_place a b ≡ Equal → IsAlike a b
equal-alike a b e = split (nat_cmp a.target b.target) (nat_cmp a.field b.field) refl refl e
  where
    split : (o p : Ordering) → o ≡ nat_cmp a.target b.target → p ≡ nat_cmp a.field b.field
        → ordering_then o p ≡ Equal → IsAlike a b
    split Less p oe pe e = absurd (omega (arith, ap ordering_index e))
    split Greater p oe pe e = absurd (omega (arith, ap ordering_index e))
    split Equal Less oe pe e = absurd (omega (arith, ap ordering_index e))
    split Equal Greater oe pe e = absurd (omega (arith, ap ordering_index e))
    split Equal Equal oe pe e = (ranked a.target b.target Equal oe, ranked a.field b.field Equal pe)

pub alike-equal : (a b : Entry) → IsAlike a b → by_place a b ≡ Equal
alike-equal a b same =
    ap₂ (λ t f. ordering_then (nat_cmp t b.target) (nat_cmp f b.field)) same.0 same.1
    ∙ tied_itself by_place-total b

pub less-trans : (a b c : Entry) → by_place a b ≡ Less → by_place b c ≡ Less → by_place a c ≡ Less
less-trans = by_place-total.trans

pub greater-less : (a b : Entry) → by_place a b ≡ Greater → by_place b a ≡ Less
greater-less a b e = by_place-total.antisymm b a ∙ ap ordering_reverse e

pub alike-less : (a b c : Entry) → IsAlike a b → by_place a c ≡ Less → by_place b c ≡ Less
alike-less a b c same e = sym (by_place-total.congr a b c (alike-equal a b same)) ∙ e

-- the entry stands before all of these
abbrev pub IsBelow : Entry → List Entry → Type 0
IsBelow x ys = AllByRecursion (λ y. by_place x y ≡ Less) ys

pub below-trans : (x y : Entry) (ys : List Entry) → by_place x y ≡ Less → IsBelow y ys → IsBelow x ys
below-trans x y [] less below = tt
below-trans x y (z ∷ ys) less below = (less-trans x y z less below.0, below-trans x y ys less below.1)

pub below-alike : (x y : Entry) (ys : List Entry) → IsAlike x y → IsBelow x ys → IsBelow y ys
below-alike x y [] same below = tt
below-alike x y (z ∷ ys) same below = (alike-less x y z same below.0, below-alike x y ys same below.1)

-- what one entry gives

pub given-some : (t f : ℕ) (e : Entry) → Gives t f e → given_by t f e ≡ Some (tally e.total)
given-some t f e gives =
    let hit : ((e.target == t) && (e.field == f)) ≡ true =
    ap (λ (b : Bool). b && (e.field == f)) (eq-eqb e.target t gives.0) ∙ eq-eqb e.field f gives.1 in
    rw hit refl

pub gives_or_misses : (target field t f : ℕ) → ((target ≡ t) × (field ≡ f))
    ⊎ (((target == t) && (field == f)) ≡ false)
gives_or_misses target field t f =
    ⊎_elim
    (λ same. ⊎_elim (λ same'. inl (same, same')) (λ ne. inr (no_field (target == t) ne)) (cases_eq field f))
    (λ ne. inr (ap (λ (b : Bool). b && (field == f)) (ne_eqb target t ne)))
    (cases_eq target t)
  where
    no_field : (b : Bool) → (field ≡ f → ⊥) → (b && (field == f)) ≡ false
    no_field true ne = ne_eqb field f ne
    no_field false ne = refl

pub given-none : (t f : ℕ) (e : Entry) → ((e.target == t) && (e.field == f)) ≡ false → given_by t f e ≡ None
given-none t f e miss = rw miss refl

pub gives_or_none : (t f : ℕ) (e : Entry) → Gives t f e ⊎ (given_by t f e ≡ None)
gives_or_none t f e = ⊎_elim inl (λ miss. inr (given-none t f e miss)) (gives_or_misses e.target e.field t f)

-- what an entry gives nothing to, one of its place gives nothing to
pub alike-none : (t f : ℕ) (x y : Entry) → IsAlike x y → given_by t f x ≡ None → given_by t f y ≡ None
alike-none t f x y same none =
    ⊎_elim
    (λ gives. let some = given-some t f x (same.0 ∙ gives.0, same.1 ∙ gives.1) in absurd (cc))
    (λ e. e)
    (gives_or_none t f y)

-- one of two entries in order gives nothing to an effect
pub apart : (t f : ℕ) (x y : Entry) → by_place x y ≡ Less
    → (given_by t f x ≡ None) ⊎ (given_by t f y ≡ None)
apart t f x y less =
    ⊎_elim
    (λ gx. ⊎_elim
    (λ gy.
    let equal = alike-equal x y (gx.0 ∙ sym gy.0, gx.1 ∙ sym gy.1) in
    absurd (omega (arith, ap ordering_index (sym less ∙ equal))))
    inr (gives_or_none t f y))
    inl (gives_or_none t f x)

-- two totals in one

pub both-none : (s : Option Tally) → both s None ≡ s
both-none None = refl
both-none (Some a) = refl

turn : (s g h : Option Tally) → (g ≡ None) ⊎ (h ≡ None) → both (both s g) h ≡ both (both s h) g
turn None None None c = refl
turn None None (Some b) c = refl
turn None (Some a) None c = refl
turn (Some s) None None c = refl
turn (Some s) None (Some b) c = refl
turn (Some s) (Some a) None c = refl
turn None (Some a) (Some b) c = ⊎_elim (λ e. absurd (cc)) (λ e. absurd (cc)) c
turn (Some s) (Some a) (Some b) c = ⊎_elim (λ e. absurd (cc)) (λ e. absurd (cc)) c

-- totals over lists, from what was there before

abbrev pub step : ℕ → ℕ → Option Tally → Entry → Option Tally
step t f total e = both total (given_by t f e)

abbrev pub total_from : ℕ → ℕ → Option Tally → List Entry → Option Tally
total_from t f s es = fold (step t f) s es

pub total-append : (t f : ℕ) (s : Option Tally) (xs ys : List Entry)
    → total_from t f s (xs ++ ys) ≡ total_from t f (total_from t f s xs) ys
total-append t f s xs ys = fold-append (step t f) s xs ys

-- an entry may be given before or after entries behind it
pub past : (t f : ℕ) (s : Option Tally) (x : Entry) (ys zs : List Entry) → IsBelow x ys
    → total_from t f s (x ∷ (ys ++ zs)) ≡ total_from t f s (ys ++ x ∷ zs)
past t f s x [] zs below = refl
past t f s x (y ∷ ys) zs below =
    ap (λ r. total_from t f r (ys ++ zs)) (turn s (given_by t f x) (given_by t f y) (apart t f x y below.0))
    ∙ past t f (both s (given_by t f y)) x ys zs below.1

-- behind an entry nothing more is given to its effect
pub rest-none : (t f : ℕ) (s : Option Tally) (x : Entry) (ys : List Entry) → IsBelow x ys
    → Gives t f x → total_from t f s ys ≡ s
rest-none t f s x [] below gives = refl
rest-none t f s x (y ∷ ys) below gives =
    let some = given-some t f x gives in
    let none : given_by t f y ≡ None = ⊎_elim (λ e. absurd (cc)) (λ e. e) (apart t f x y below.0) in
    ap (λ g. total_from t f (both s g) ys) none
    ∙ ap (λ r. total_from t f r ys) (both-none s)
    ∙ rest-none t f s x ys below.1 gives

-- what stands first is the whole total of its effect
pub head-total : (t f : ℕ) (x : Entry) (ys : List Entry) → IsBelow x ys → Gives t f x
    → total_at t f (x ∷ ys) ≡ Some (tally x.total)
head-total t f x ys below gives =
    ap (λ g. total_from t f g ys) (given-some t f x gives) ∙ rest-none t f (Some (tally x.total)) x ys below gives

-- what an effect gets behind the first entry is what it gets of all
pub tail-total : (t f : ℕ) (x : Entry) (ys : List Entry) (s : Tally) → IsBelow x ys
    → total_at t f ys ≡ Some s → total_at t f (x ∷ ys) ≡ Some s
tail-total t f x ys s below is =
    ⊎_elim
    (λ gives. let none = rest-none t f None x ys below gives in absurd (cc))
    (λ e. ap (λ g. total_from t f g ys) e ∙ is)
    (gives_or_none t f x)

-- rising lists of entries

pub rising-below : (x : Entry) (xs : List Entry) → IsRising (x ∷ xs) → IsBelow x xs
unfolding IsStrictlySortedBy
rising-below x xs h = h.0

pub rising-part : (m ys : List Entry) → IsRising (m ++ ys) → IsRising ys
unfolding IsStrictlySortedBy
rising-part [] ys h = h
rising-part (k ∷ m) ys h = rising-part m ys h.1

mid : (P : Entry → Type 0) (m xs ys : List Entry) (x : Entry) → AllByRecursion P (m ++ x ∷ xs)
    → AllByRecursion P (m ++ ys) → AllByRecursion P (m ++ x ∷ ys)
mid P [] xs ys x a b = (a.0, b)
mid P (k ∷ m) xs ys x a b = (a.0, mid P m xs ys x a.1 b.1)

at_mid : (P : Entry → Type 0) (m xs : List Entry) (x : Entry) → AllByRecursion P (m ++ x ∷ xs) → P x
at_mid P [] xs x a = a.0
at_mid P (k ∷ m) xs x a = at_mid P m xs x a.1

-- what stands behind a front of one list, and before what follows that front in another
pub rising-between : (m xs ys : List Entry) (x : Entry) → IsRising (m ++ x ∷ xs) → IsRising (m ++ ys)
    → IsBelow x ys → IsRising (m ++ x ∷ ys)
unfolding IsStrictlySortedBy
rising-between [] xs ys x a b below = (below, b)
rising-between (k ∷ m) xs ys x a b below =
    (mid (λ y. by_place k y ≡ Less) m xs ys x a.0 b.0, rising-between m xs ys x a.1 b.1 below)

swapped : (k x y : Entry) (m xs : List Entry) → IsAlike x y → IsBelow k (m ++ x ∷ xs) → IsBelow k (m ++ y ∷ xs)
swapped k x y [] xs same below =
    (sym (by_place-alike same) ∙ below.0, below.1)
  where
    by_place-alike : IsAlike x y → by_place k x ≡ by_place k y
    by_place-alike same = ap₂ (λ t f. ordering_then (nat_cmp k.target t) (nat_cmp k.field f)) same.0 same.1
swapped k x y (l ∷ m) xs same below = (below.0, swapped k x y m xs same below.1)

-- another entry of the same place
pub rising-swapped : (m xs : List Entry) (x y : Entry) → IsAlike x y → IsRising (m ++ x ∷ xs)
    → IsRising (m ++ y ∷ xs)
unfolding IsStrictlySortedBy
rising-swapped [] xs x y same h = (below-alike x y xs same h.0, h.1)
rising-swapped (k ∷ m) xs x y same h = (swapped k x y m xs same h.0, rising-swapped m xs x y same h.1)

-- before an entry nothing is given to its effect
pub front-none : (t f : ℕ) (m xs : List Entry) (x : Entry) → IsRising (m ++ x ∷ xs) → Gives t f x
    → total_at t f m ≡ None
unfolding IsStrictlySortedBy
front-none t f [] xs x h gives = refl
front-none t f (k ∷ m) xs x h gives =
    let some = given-some t f x gives in
    let less = at_mid (λ y. by_place k y ≡ Less) m xs x h.0 in
    let none : given_by t f k ≡ None = ⊎_elim (λ e. e) (λ e. absurd (cc)) (apart t f k x less) in
    ap (λ g. total_from t f g m) none ∙ front-none t f m xs x h.1 gives

-- what an effect gets of a back part is what it gets of all
pub part-total : (t f : ℕ) (m ys : List Entry) (s : Tally) → IsRising (m ++ ys)
    → total_at t f ys ≡ Some s → total_at t f (m ++ ys) ≡ Some s
unfolding IsStrictlySortedBy
part-total t f [] ys s h is = is
part-total t f (k ∷ m) ys s h is = tail-total t f k (m ++ ys) s h.0 (part-total t f m ys s h.1 is)

-- a front of a rising list, and an entry behind all of it
pub rising-push : (xs ys : List Entry) (e : Entry) → IsRising (xs ++ ys)
    → AllByRecursion (λ k. by_place k e ≡ Less) xs → IsRising (xs ++ e ∷ [])
unfolding IsStrictlySortedBy
rising-push [] ys e h before = (tt, tt)
rising-push (k ∷ xs) ys e h before =
    (cut (λ y. by_place k y ≡ Less) xs h.0 before.0, rising-push xs ys e h.1 before.1)
  where
    cut : (P : Entry → Type 0) (zs : List Entry) → AllByRecursion P (zs ++ ys) → P e
        → AllByRecursion P (zs ++ e ∷ [])
    cut P [] h p = (p, tt)
    cut P (z ∷ zs) h p = (h.0, cut P zs h.1 p)

-- behind a rising list, what is given to an effect is given once
pub total-behind : (t f : ℕ) (s : Option Tally) (ys : List Entry) → IsRising ys
    → total_from t f s ys ≡ both s (total_at t f ys)
unfolding IsStrictlySortedBy
total-behind t f s [] h = sym (both-none s)
total-behind t f s (y ∷ ys) h =
    ⊎_elim
    (λ gives.
    rest-none t f (both s (given_by t f y)) y ys h.0 gives
    ∙ ap (both s) (sym (rest-none t f (given_by t f y) y ys h.0 gives)))
    (λ none.
    ap (λ g. total_from t f (both s g) ys) none
    ∙ ap (λ r. total_from t f r ys) (both-none s)
    ∙ total-behind t f s ys h.1
    ∙ ap (both s) (sym (ap (λ g. total_from t f g ys) none)))
    (gives_or_none t f y)

-- each entry of a rising list is the whole total of its effect
pub at-total : (es : List Entry) (k : ℕ) (d : Entry) → IsRising es → k < length es
    → total_at (get_or es k d).target (get_or es k d).field es ≡ Some (tally (get_or es k d).total)
unfolding IsStrictlySortedBy
at-total [] k d h le = absurd (omega arith)
at-total (x ∷ xs) zero d h le = head-total x.target x.field x xs h.0 (refl, refl)
at-total (x ∷ xs) (suc k) d h le =
    let e = get_or xs k d in
    tail-total e.target e.field x xs (tally e.total) h.0 (at-total xs k d h.1 (omega arith))
