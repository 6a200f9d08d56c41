-- Totals of values said: of lists one behind the other, in any order, and what may be merged.
use Rattle.std.proofs.Common.{◌≡◌, ◌∙◌, refl, sym, ap, ap₂, subst, ℕ, ◌+◌, ◌^◌, ◌≤◌, List, [], ◌∷◌, ◌++◌, length, map, Bool, true, false, ◌==◌, ◌&&◌, ⊎_elim, Some, None, fold, All, arith, eq-eqb, append-nil, append_assoc, get_or, take, take-suc, add-one, length-take-le, ◌<◌}
use Rattle.std.specs.Int.{w64}
use Rattle.std.specs.Int.RustNames.{FitsSigned}
use Rattle.std.specs.List.{filter}
use Rattle.std.specs.List.Sorted.{IsPermutation, IsStrictlySortedBy}
use Rattle.std.proofs.lemmas.List.{map-append, length-append, length-map}
use Rattle.std.proofs.lemmas.List.Sums.{length-filter, count_by-le-length}
use Rattle.std.proofs.lemmas.List.Elements.{filter-append, All-filter, All-map, All-take, All-append, All-nil, All-cons, All-head, All-tail}
use Rattle.brace_model.specs.declared.program.Comb.{Comb}
use Rattle.brace_model.specs.declared.program.Value.{Value}
use Rattle.brace_model.specs.World.{number}
use Rattle.brace_model.specs.Query.{Saying}
use Rattle.brace_model.specs.Total.{said_to}
use Rattle.brace_comb.specs.declared.entry.Entry.{Entry}
use Rattle.brace_comb.specs.declared.total.Total.{Total}
use Rattle.brace_comb.specs.Totals.{Tally, tally, tally_of, IsBounded}
use Rattle.brace_comb.proofs.Joins.{join-append, tally_of-bounded}
use Rattle.brace_comb.specs.Entries.{IsRising, both, total_at, CanMerge, single}
use Rattle.brace_comb.specs.Partials.{IsPartialOf, total_said, sayings_to, AreTotalsOf}
use Rattle.brace_comb.proofs.Entries.{total-append, given-some, given-none, gives_or_misses, at-total, total-behind}
use Rattle.brace_comb.proofs.Groups.{rising_same, Has, both-order}

abbrev hits : ℕ → ℕ → Saying → Bool
hits t f s = (s.target == t) && (s.field == f)

pub said_to-append : (t f : ℕ) (xs ys : List Saying) → said_to t f (xs ++ ys) ≡ said_to t f xs ++ said_to t f ys
said_to-append t f xs ys =
    ap (map (λ (s : Saying). s.value)) (filter-append (hits t f) xs ys)
    ∙ map-append (λ (s : Saying). s.value) (filter (hits t f) xs) (filter (hits t f) ys)

said-both : (c : Comb) (vs ws : List Value) → both (total_said c vs) (total_said c ws) ≡ total_said c (vs ++ ws)
said-both c [] ws = refl
said-both c (v ∷ vs) [] = ap (total_said c) (sym (append-nil (v ∷ vs)))
said-both c (v ∷ vs) (w ∷ ws) = ap Some (join-append c (v ∷ vs) (w ∷ ws))

-- what two lists of entries total together
pub said_more : (combs : ℕ → ℕ → Comb) (xs ys : List Saying) (a b entries : List Entry)
    → AreTotalsOf combs xs a → AreTotalsOf combs ys b → IsPartialOf (a ++ b) entries
    → AreTotalsOf combs (xs ++ ys) entries
said_more combs xs ys a b entries p q is = record {
  rising = is.rising;
  totals = λ t f.
      is.totals t f
      ∙ total-append t f None a b
      ∙ total-behind t f (total_at t f a) b q.rising
      ∙ ap₂ both (p.totals t f) (q.totals t f)
      ∙ said-both (combs t f) (said_to t f xs) (said_to t f ys)
      ∙ ap (total_said (combs t f)) (sym (said_to-append t f xs ys));
}

pub one_totals : (combs : ℕ → ℕ → Comb) (said : List Saying) (a b : List Entry)
    → AreTotalsOf combs said a → AreTotalsOf combs said b → a ≡ b
one_totals combs said a b p q = rising_same a b p.rising q.rising (λ t f. p.totals t f ∙ sym (q.totals t f))

-- what a total is where it is one of values said
said_tally : (c : Comb) (vs : List Value) (s : Tally) → Some s ≡ total_said c vs → s ≡ tally_of c vs
said_tally c [] s e = absurd (cc)
said_tally c (v ∷ vs) s e = cc

pub each_total : (combs : ℕ → ℕ → Comb) (said : List Saying) (entries : List Entry)
    → AreTotalsOf combs said entries
    → All (λ e. tally e.total ≡ tally_of (combs e.target e.field) (said_to e.target e.field said)) entries
each_total combs said entries p k d le =
    let e = get_or entries k d in
    said_tally (combs e.target e.field) (said_to e.target e.field said) (tally e.total)
    (sym (at-total entries k d p.rising le) ∙ p.totals e.target e.field)

-- values that one entry totals

rising-one : (e : Entry) → IsRising (e ∷ [])
unfolding IsStrictlySortedBy
rising-one e = (tt, tt)

said_to-all : (t f : ℕ) (vs : List Value) → said_to t f (sayings_to t f vs) ≡ vs
said_to-all t f [] = refl
said_to-all t f (v ∷ vs) =
    let hit : ((t == t) && (f == f)) ≡ true = ap (λ (b : Bool). b && (f == f)) (eq-eqb t t refl) ∙ eq-eqb f f refl in
    rw hit (ap (λ (l : List Value). v ∷ l) (said_to-all t f vs))

said_to-none : (t f target field : ℕ) (vs : List Value) → ((target == t) && (field == f)) ≡ false
    → said_to t f (sayings_to target field vs) ≡ []
said_to-none t f target field [] miss = refl
said_to-none t f target field (v ∷ vs) miss = rw miss (said_to-none t f target field vs miss)

pub alone : (combs : ℕ → ℕ → Comb) (e : Entry) (v : Value) (values : List Value)
    → tally e.total ≡ tally_of (combs e.target e.field) (v ∷ values)
    → AreTotalsOf combs (sayings_to e.target e.field (v ∷ values)) (e ∷ [])
alone combs e v values total = record { rising = rising-one e; totals = totals }
  where
    totals : (t f : ℕ) → total_at t f (e ∷ []) ≡ total_said (combs t f) (said_to t f (sayings_to e.target e.field (v ∷ values)))
    totals t f =
        ⊎_elim
        (λ gives.
        given-some t f e gives
        ∙ ap Some total
        ∙ ap (total_said (combs e.target e.field)) (sym (said_to-all e.target e.field (v ∷ values)))
        ∙ ap₂ (λ t' f'. total_said (combs t' f') (said_to t' f' (sayings_to e.target e.field (v ∷ values)))) gives.0 gives.1)
        (λ miss. given-none t f e miss ∙ ap (total_said (combs t f)) (sym (said_to-none t f e.target e.field (v ∷ values) miss)))
        (gives_or_misses e.target e.field t f)

-- values in another order

said-has : (c : Comb) (vs : List Value) → Has c (total_said c vs)
said-has c [] = tt
said-has c (v ∷ vs) = refl

-- the total of what each saying says
each-said : (c : Comb) (t f : ℕ) (vs : List Value) (xs : List Saying)
    → fold (λ s x. both s (total_said c (said_to t f (x ∷ [])))) (total_said c vs) xs ≡ total_said c (vs ++ said_to t f xs)
each-said c t f vs [] = ap (total_said c) (sym (append-nil vs))
each-said c t f vs (x ∷ xs) =
    let ws = said_to t f (x ∷ []) in
    ap (λ o. fold (λ s y. both s (total_said c (said_to t f (y ∷ [])))) o xs) (said-both c vs ws)
    ∙ each-said c t f (vs ++ ws) xs
    ∙ ap (total_said c) (append_assoc vs ws (said_to t f xs) ∙ ap (λ (l : List Value). vs ++ l) (sym (said_to-append t f (x ∷ []) xs)))

pub any_order_said : (combs : ℕ → ℕ → Comb) (xs ys : List Saying) (a b : List Entry) → IsPermutation xs ys
    → AreTotalsOf combs xs a → AreTotalsOf combs ys b → a ≡ b
any_order_said combs xs ys a b perm p q =
    rising_same a b p.rising q.rising (λ t f.
    let c = combs t f in
    p.totals t f
    ∙ sym (each-said c t f [] xs)
    ∙ both-order c (λ x. total_said c (said_to t f (x ∷ []))) xs ys (λ k d le. said-has c (said_to t f (get_or xs k d ∷ []))) perm
    ∙ each-said c t f [] ys
    ∙ sym (q.totals t f))

-- may two totals be merged

fits_said : (t f : ℕ) (xs : List Saying) → All (λ s. FitsSigned w64 (number s.value)) xs
    → All (λ v. FitsSigned w64 (number v)) (said_to t f xs)
fits_said t f xs fit =
    All-map (λ v. FitsSigned w64 (number v)) (λ (s : Saying). s.value) (filter (hits t f) xs)
    (All-filter (hits t f) (λ s. FitsSigned w64 (number s.value)) xs fit)

bounded : (c : Comb) (vs : List Value) (s : Tally) → s ≡ tally_of c vs
    → All (λ v. FitsSigned w64 (number v)) vs → IsBounded s
bounded c vs s is fit = subst IsBounded (sym is) (tally_of-bounded c vs fit)

pub may_merge : (combs : ℕ → ℕ → Comb) (xs ys : List Saying) (a b : List Entry)
    → AreTotalsOf combs xs a → AreTotalsOf combs ys b
    → All (λ s. FitsSigned w64 (number s.value)) (xs ++ ys)
    → ((t f : ℕ) → length (said_to t f (xs ++ ys)) ≤ 2 ^ 52) → CanMerge a b
may_merge combs xs ys a b p q fit few t f s r sa rb =
    let c = combs t f in
    let vs = said_to t f xs in
    let ws = said_to t f ys in
    let s-is = said_tally c vs s (sym sa ∙ p.totals t f) in
    let r-is = said_tally c ws r (sym rb ∙ q.totals t f) in
    let s-count : s.count ≡ length vs = ap (λ o. o.count) s-is in
    let r-count : r.count ≡ length ws = ap (λ o. o.count) r-is in
    let all = few t f in
    let parts : length (said_to t f (xs ++ ys)) ≡ length vs + length ws =
    ap length (said_to-append t f xs ys) ∙ length-append vs ws in
    record {
      alike = ap (λ o. o.comb) s-is ∙ sym (ap (λ o. o.comb) r-is);
      first = bounded c vs s s-is (fits_said t f xs (All-front xs ys fit));
      second = bounded c ws r r-is (fits_said t f ys (All-back xs ys fit));
      few = omega (arith, s-count, r-count, all, parts);
    }
  where
    All-back : (xs ys : List Saying) → All (λ s. FitsSigned w64 (number s.value)) (xs ++ ys) → All (λ s. FitsSigned w64 (number s.value)) ys
    All-back [] ys h = h
    All-back (x ∷ xs) ys h = All-back xs ys (All-tail (λ s. FitsSigned w64 (number s.value)) x (xs ++ ys) h)

    All-front : (xs ys : List Saying) → All (λ s. FitsSigned w64 (number s.value)) (xs ++ ys) → All (λ s. FitsSigned w64 (number s.value)) xs
    All-front [] ys h = All-nil (λ s. FitsSigned w64 (number s.value))
    All-front (x ∷ xs) ys h =
        All-cons (λ s. FitsSigned w64 (number s.value)) x xs
        (All-head (λ s. FitsSigned w64 (number s.value)) x (xs ++ ys) h)
        (All-front xs ys (All-tail (λ s. FitsSigned w64 (number s.value)) x (xs ++ ys) h))

-- the same where few values are said in all
pub may_merge_few : (combs : ℕ → ℕ → Comb) (xs ys : List Saying) (a b : List Entry)
    → AreTotalsOf combs xs a → AreTotalsOf combs ys b
    → All (λ s. FitsSigned w64 (number s.value)) (xs ++ ys) → length (xs ++ ys) ≤ 2 ^ 52 → CanMerge a b
may_merge_few combs xs ys a b p q fit few = may_merge combs xs ys a b p q fit each
  where
    each : (t f : ℕ) → length (said_to t f (xs ++ ys)) ≤ 2 ^ 52
    each t f =
        let l = xs ++ ys in
        let same : length (said_to t f l) ≡ length (filter (hits t f) l) = length-map (filter (hits t f) l) (λ (s : Saying). s.value) in
        let counted = length-filter (hits t f) l in
        let most = count_by-le-length (hits t f) l in
        omega (arith, same, counted, most, few)

-- the entry of one value
pub one_said : (combs : ℕ → ℕ → Comb) (s : Saying) (total : Total)
    → tally total ≡ tally_of (combs s.target s.field) (s.value ∷ [])
    → AreTotalsOf combs (s ∷ []) (single s.target s.field total)
one_said combs s total is = alone combs (record { target = s.target; field = s.field; total = total }) s.value [] is

-- what a loop over values says: those so far, and the next one
module _ {X : Type 0} (h : X → Saying) (combs : ℕ → ℕ → Comb) (said : List X) (i : ℕ) (d : X) where
  so_far : i < length said → map h (take (i + 1) said) ≡ map h (take i said) ++ h (get_or said i d) ∷ []
  so_far within =
      ap (λ (n : ℕ). map h (take n said)) (add-one i)
      ∙ ap (map h) (take-suc said i d within) ∙ map-append h (take i said) (get_or said i d ∷ [])

  pub may_say : (a : List Entry) (total : Total) → AreTotalsOf combs (map h (take i said)) a
      → i < length said → (let s = h (get_or said i d) in tally total ≡ tally_of (combs s.target s.field) (s.value ∷ []))
      → All (λ x. FitsSigned w64 (number (h x).value)) said → length said ≤ 2 ^ 51
      → (let s = h (get_or said i d) in CanMerge a (single s.target s.field total))
  may_say a total p within is fit few =
      let s = h (get_or said i d) in
      let xs = map h (take i said) in
      let all : All (λ s. FitsSigned w64 (number s.value)) (xs ++ s ∷ []) =
      subst (All (λ s. FitsSigned w64 (number s.value))) (so_far within)
      (All-map (λ s. FitsSigned w64 (number s.value)) h (take (i + 1) said) (All-take (λ x. FitsSigned w64 (number (h x).value)) (i + 1) said fit)) in
      let len : length (xs ++ s ∷ []) ≡ length (take (i + 1) said) = ap length (sym (so_far within)) ∙ length-map (take (i + 1) said) h in
      let short = length-take-le (i + 1) said in
      may_merge_few combs xs (s ∷ []) a (single s.target s.field total) p (one_said combs s total is) all (omega (arith, len, short, few))

  pub said_next : (a : List Entry) → i < length said
      → AreTotalsOf combs (map h (take i said) ++ h (get_or said i d) ∷ []) a → AreTotalsOf combs (map h (take (i + 1) said)) a
  said_next a within p = subst (λ (l : List Saying). AreTotalsOf combs l a) (sym (so_far within)) p

pub may_merge_said : {X : Type 0} (h : X → Saying) (combs : ℕ → ℕ → Comb) (xs ys : List X) (a b : List Entry)
    → AreTotalsOf combs (map h xs) a → AreTotalsOf combs (map h ys) b
    → All (λ x. FitsSigned w64 (number (h x).value)) xs → All (λ x. FitsSigned w64 (number (h x).value)) ys
    → length xs ≤ 2 ^ 51 → length ys ≤ 2 ^ 51 → CanMerge a b
may_merge_said h combs xs ys a b p q fit fit' few few' =
    let len = length-append (map h xs) (map h ys) in
    let len' = length-map xs h in
    let len'' = length-map ys h in
    may_merge_few combs (map h xs) (map h ys) a b p q
    (All-append (λ s. FitsSigned w64 (number s.value)) (map h xs) (map h ys) (All-map (λ s. FitsSigned w64 (number s.value)) h xs fit) (All-map (λ s. FitsSigned w64 (number s.value)) h ys fit'))
    (omega (arith, len, len', len'', few, few'))
