-- The order and the grouping in which entries are given: they come to one list.
use Rattle.std.proofs.Common.{◌≡◌, ◌∙◌, refl, sym, ap, ap₂, subst, ℕ, List, [], ◌∷◌, ◌++◌, ⊎_elim, Option, Some, None, Ordering, Less, Equal, Greater, fold, get_or}
use Rattle.std.specs.List.{All, AllByRecursion}
use Rattle.std.specs.List.Sorted.{IsPermutation, IsStrictlySortedBy}
use Rattle.std.proofs.lemmas.List.Elements.{recursion_from_All, All-append}
use Rattle.std.proofs.lemmas.List.Sorted.{IsPermutation-append_comm}
use Rattle.brace_model.specs.declared.program.Comb.{Comb}
use Rattle.brace_comb.specs.declared.entry.Entry.{Entry}
use Rattle.brace_comb.specs.declared.total.Total.{Total}
use Rattle.brace_comb.specs.Totals.{Tally, tally}
use Rattle.brace_comb.proofs.Joins.{join-assoc, join-comm, join-turn, as_seen}
use Rattle.brace_comb.proofs.Permutations.{fold-IsPermutation}
use Rattle.brace_comb.specs.Entries.{by_place, IsRising, given_by, both, total_at, AreOf}
use Rattle.brace_comb.specs.Partials.{IsPartialOf}
use Rattle.brace_comb.proofs.Entries.{IsAlike, alike-none, total_from, total-append, equal-alike, greater-less, below-trans, given-some, gives_or_none, both-none, rest-none, head-total, total-behind}

-- rising lists of the same totals are the same

entry_with : ℕ → ℕ → Total → Entry
entry_with t f total = record { target = t; field = f; total = total }

same_entry : (x y : Entry) → IsAlike x y → tally x.total ≡ tally y.total → x ≡ y
unfolding entry_with
same_entry x y same totals =
    ap (λ (t : ℕ). entry_with t x.field x.total) same.0
    ∙ ap (λ (f : ℕ). entry_with y.target f x.total) same.1
    ∙ ap (λ (total : Total). entry_with y.target y.field total) (as_seen x.total y.total totals)

pub rising_same : (a b : List Entry) → IsRising a → IsRising b
    → ((t f : ℕ) → total_at t f a ≡ total_at t f b) → a ≡ b
unfolding IsStrictlySortedBy
rising_same [] [] p q same = refl
rising_same [] (y ∷ ys) p q same =
    let some = same y.target y.field ∙ head-total y.target y.field y ys q.0 (refl, refl) in
    absurd (cc)
rising_same (x ∷ xs) [] p q same =
    let some = sym (same x.target x.field) ∙ head-total x.target x.field x xs p.0 (refl, refl) in
    absurd (cc)
rising_same (x ∷ xs) (y ∷ ys) p q same = split (by_place x y) refl (rising_same xs ys p.1 q.1)
  where
    split : (o : Ordering) → o ≡ by_place x y
        → (((t f : ℕ) → total_at t f xs ≡ total_at t f ys) → xs ≡ ys) → x ∷ xs ≡ y ∷ ys
    split Less o next =
        let some = head-total x.target x.field x xs p.0 (refl, refl) in
        let none = rest-none x.target x.field None x (y ∷ ys) (sym o, below-trans x y ys (sym o) q.0) (refl, refl) in
        let is = same x.target x.field in
        absurd (cc)
    split Greater o next =
        let less = greater-less x y (sym o) in
        let some = head-total y.target y.field y ys q.0 (refl, refl) in
        let none = rest-none y.target y.field None y (x ∷ xs) (less, below-trans y x xs less p.0) (refl, refl) in
        let is = same y.target y.field in
        absurd (cc)
    split Equal o next =
        let alike = equal-alike x y (sym o) in
        let one = head-total x.target x.field x xs p.0 (refl, refl) in
        let other = head-total x.target x.field y ys q.0 (sym alike.0, sym alike.1) in
        let is = same x.target x.field in
        let totals : tally x.total ≡ tally y.total = some_same (sym one ∙ is ∙ other) in
        ap₂ (λ e l. e ∷ l) (same_entry x y alike totals) (next (rest alike))
      where
        some_same : {A : Type 0} {a b : A} → Some a ≡ Some b → a ≡ b
        some_same e = cc

        rest : IsAlike x y → (t f : ℕ) → total_at t f xs ≡ total_at t f ys
        rest alike t f =
            ⊎_elim
            (λ gives.
            rest-none t f None x xs p.0 gives
            ∙ sym (rest-none t f None y ys q.0 (sym alike.0 ∙ gives.0, sym alike.1 ∙ gives.1)))
            (λ none.
            sym (ap (λ g. total_from t f g xs) none) ∙ same t f ∙ ap (λ g. total_from t f g ys) (alike-none t f x y alike none))
            (gives_or_none t f x)

pub one_partial : (given a b : List Entry) → IsPartialOf given a → IsPartialOf given b → a ≡ b
one_partial given a b p q = rising_same a b p.rising q.rising (λ t f. p.totals t f ∙ sym (q.totals t f))

-- totals of one combinator

abbrev pub Has : Comb → Option Tally → Type 0
Has c None = Unit {0}
Has c (Some t) = t.comb ≡ c

both-has : (c : Comb) (a b : Option Tally) → Has c a → Has c b → Has c (both a b)
both-has c None b p q = q
both-has c (Some a) None p q = p
both-has c (Some a) (Some b) p q = p

both-assoc : (c : Comb) (a b d : Option Tally) → Has c a → Has c b → Has c d
    → both (both a b) d ≡ both a (both b d)
both-assoc c None b d p q r = refl
both-assoc c (Some a) None d p q r = refl
both-assoc c (Some a) (Some b) None p q r = refl
both-assoc c (Some a) (Some b) (Some d) p q r = ap Some (join-assoc a b d (p ∙ sym q) (q ∙ sym r))

-- two of them may change places behind any other
both-turn : (c : Comb) (s g h : Option Tally) → Has c g → Has c h → both (both s g) h ≡ both (both s h) g
both-turn c None None None p q = refl
both-turn c None None (Some h) p q = refl
both-turn c None (Some g) None p q = refl
both-turn c (Some s) None None p q = refl
both-turn c (Some s) None (Some h) p q = refl
both-turn c (Some s) (Some g) None p q = refl
both-turn c None (Some g) (Some h) p q = ap Some (join-comm g h (p ∙ sym q))
both-turn c (Some s) (Some g) (Some h) p q = ap Some (join-turn s g h)

-- what elements give may be joined in any order
pub both-order : {X : Type 0} (c : Comb) (g : X → Option Tally) (xs ys : List X) → All (λ x. Has c (g x)) xs
    → IsPermutation xs ys → fold (λ s x. both s (g x)) None xs ≡ fold (λ s x. both s (g x)) None ys
both-order c g xs ys all perm =
    fold-IsPermutation (λ s x. both s (g x)) (λ x. Has c (g x)) (λ s x y p q. both-turn c s (g x) (g y) p q) None xs ys all perm

module _ (combs : ℕ → ℕ → Comb) where
  abbrev IsOf : Entry → Type 0
  IsOf e = (tally e.total).comb ≡ combs e.target e.field

  given-has : (t f : ℕ) (e : Entry) → IsOf e → Has (combs t f) (given_by t f e)
  given-has t f e of =
      ⊎_elim
      (λ gives. subst (Has (combs t f)) (sym (given-some t f e gives)) (of ∙ ap₂ combs gives.0 gives.1))
      (λ none. subst (Has (combs t f)) (sym none) tt)
      (gives_or_none t f e)

  total-has : (t f : ℕ) (s : Option Tally) (es : List Entry) → Has (combs t f) s → AllByRecursion IsOf es
      → Has (combs t f) (total_from t f s es)
  total-has t f s [] has of = has
  total-has t f s (e ∷ es) has of =
      total-has t f (both s (given_by t f e)) es (both-has (combs t f) s (given_by t f e) has (given-has t f e of.0)) of.1

  -- totals from a sum of two are the first one and the totals from the second
  from-both : (t f : ℕ) (s r : Option Tally) (es : List Entry) → Has (combs t f) s → Has (combs t f) r
      → AllByRecursion IsOf es → total_from t f (both s r) es ≡ both s (total_from t f r es)
  from-both t f s r [] p q of = refl
  from-both t f s r (e ∷ es) p q of =
      let g = given-has t f e of.0 in
      ap (λ o. total_from t f o es) (both-assoc (combs t f) s r (given_by t f e) p q g)
      ∙ from-both t f s (both r (given_by t f e)) es p (both-has (combs t f) r (given_by t f e) q g) of.1

  total-both : (t f : ℕ) (xs ys : List Entry) → AllByRecursion IsOf xs → AllByRecursion IsOf ys
      → total_at t f (xs ++ ys) ≡ both (total_at t f xs) (total_at t f ys)
  total-both t f xs ys p q =
      let s = total_at t f xs in
      total-append t f None xs ys
      ∙ ap (λ o. total_from t f o ys) (sym (both-none s))
      ∙ from-both t f s None ys (total-has t f None xs tt p) tt q

  pub any_order : (xs ys a b : List Entry) → AreOf combs xs → IsPermutation xs ys
      → IsPartialOf xs a → IsPartialOf ys b → a ≡ b
  any_order xs ys a b p perm x y =
      rising_same a b x.rising y.rising (λ t f.
      x.totals t f
      ∙ both-order (combs t f) (given_by t f) xs ys (λ k d le. given-has t f (get_or xs k d) (p k d le)) perm
      ∙ sym (y.totals t f))

  pub either_way : (xs ys a b : List Entry) → AreOf combs xs → AreOf combs ys
      → IsPartialOf (xs ++ ys) a → IsPartialOf (ys ++ xs) b → a ≡ b
  either_way xs ys a b p q x y =
      any_order (xs ++ ys) (ys ++ xs) a b (All-append IsOf xs ys p q) (IsPermutation-append_comm xs ys) x y

  pub grouped : (xs ys part entries : List Entry) → AreOf combs xs → AreOf combs ys
      → IsPartialOf ys part → IsPartialOf (xs ++ part) entries → IsPartialOf (xs ++ ys) entries
  grouped xs ys part entries p q x y = record {
    rising = y.rising;
    totals = λ t f.
        y.totals t f
        ∙ total-append t f None xs part
        ∙ total-behind t f (total_at t f xs) part x.rising
        ∙ ap (both (total_at t f xs)) (x.totals t f)
        ∙ sym (total-both t f xs ys (recursion_from_All IsOf xs p) (recursion_from_All IsOf ys q));
  }
