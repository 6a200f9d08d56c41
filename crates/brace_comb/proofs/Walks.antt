-- A walk along two rising lists of entries: what is merged so far, and what is left of each.
use Rattle.std.proofs.Common.{◌≡◌, ◌∙◌, refl, sym, ap, ap₂, subst, ℕ, zero, suc, ◌+◌, ◌<◌, ◌≤◌, List, [], ◌∷◌, ◌++◌, length, take, drop, get_or, set, insert, true, false, ⊎_elim, Some, None, Ordering, Less, Equal, Greater, is_lt, is_eq, All, append_assoc, append-nil, take-append-drop, drop-cons, drop_of_length-le, arith}
use Rattle.std.proofs.lemmas.Bool.{cases_lt}
use Rattle.std.proofs.lemmas.List.{get_or_default, get_or-take, get_or-drop, length-take-le, length-drop, set_split}
use Rattle.std.proofs.lemmas.List.Elements.{recursion_from_All, All-from_recursion, All-head}
use Rattle.std.specs.List.Sorted.{IsStrictlySortedBy, IsPartitionedBy, IsPartitionPoint}
use Rattle.brace_comb.specs.declared.entry.Entry.{Entry}
use Rattle.brace_comb.specs.Totals.{tally, join, CanJoin}
use Rattle.brace_comb.specs.Entries.{by_place, IsRising, given_by, both, total_at, CanMerge}
use Rattle.brace_comb.specs.Partials.{IsPartialOf}
use Rattle.brace_comb.specs.inner.Ranks.{IsRank}
use Rattle.brace_comb.proofs.Entries.{IsAlike, alike-none, Gives, IsBelow, total_from, total-append, equal-alike, greater-less, below-trans, below-alike, given-some, gives_or_none, both-none, past, head-total, tail-total, part-total, rising-below, rising-part, rising-between, rising-swapped, rising-push, front-none, less-trans, total-behind}

pub record Walk (given m xs ys : List Entry) : Type 0 where
  pub left : IsRising (m ++ xs)
  pub right : IsRising (m ++ ys)
  pub totals : (t f : ℕ) → total_at t f (m ++ (xs ++ ys)) ≡ total_at t f given
  pub joins : CanMerge xs ys

-- one more entry at the end of what is merged
snoc : (m xs : List Entry) (x : Entry) → (m ++ x ∷ []) ++ xs ≡ m ++ x ∷ xs
snoc m xs x = append_assoc m (x ∷ []) xs

left-tail : (xs ys : List Entry) (x : Entry) → IsBelow x xs → CanMerge (x ∷ xs) ys → CanMerge xs ys
left-tail xs ys x below joins t f a b p q = joins t f a b (tail-total t f x xs a below p) q

right-tail : (xs ys : List Entry) (y : Entry) → IsBelow y ys → CanMerge xs (y ∷ ys) → CanMerge xs ys
right-tail xs ys y below joins t f a b p q = joins t f a b p (tail-total t f y ys b below q)

pub take_left : (given m xs ys : List Entry) (x y : Entry) → Walk given m (x ∷ xs) (y ∷ ys)
    → by_place x y ≡ Less → Walk given (m ++ x ∷ []) xs (y ∷ ys)
take_left given m xs ys x y w less =
    let below = rising-below x xs (rising-part m (x ∷ xs) w.left) in
    let above = rising-below y ys (rising-part m (y ∷ ys) w.right) in
    record {
      left = subst IsRising (sym (snoc m xs x)) w.left;
      right = subst IsRising (sym (snoc m (y ∷ ys) x)) (rising-between m xs (y ∷ ys) x w.left w.right (less, below-trans x y ys less above));
      totals = λ t f. ap (total_at t f) (snoc m (xs ++ y ∷ ys) x) ∙ w.totals t f;
      joins = left-tail xs (y ∷ ys) x below w.joins;
    }

pub take_right : (given m xs ys : List Entry) (y : Entry) → Walk given m xs (y ∷ ys)
    → IsBelow y xs → Walk given (m ++ y ∷ []) xs ys
take_right given m xs ys y w less =
    let below = rising-below y ys (rising-part m (y ∷ ys) w.right) in
    record {
      left = subst IsRising (sym (snoc m xs y)) (rising-between m ys xs y w.right w.left less);
      right = subst IsRising (sym (snoc m ys y)) w.right;
      totals = λ t f.
          ap (total_at t f) (snoc m (xs ++ ys) y)
          ∙ total-append t f None m (y ∷ (xs ++ ys))
          ∙ past t f (total_at t f m) y xs ys less
          ∙ sym (total-append t f None m (xs ++ y ∷ ys))
          ∙ w.totals t f;
      joins = right-tail xs ys y below w.joins;
    }

-- the first entry of the other list stands before all of this one
pub all_behind : (given m xs ys : List Entry) (x y : Entry) → Walk given m (x ∷ xs) (y ∷ ys)
    → by_place x y ≡ Greater → IsBelow y (x ∷ xs)
all_behind given m xs ys x y w greater =
    let less = greater-less x y greater in
    (less, below-trans y x xs less (rising-below x xs (rising-part m (x ∷ xs) w.left)))

-- an entry in place of two of its place, behind a front that gives nothing there
in_place : (t f : ℕ) (m xs zs : List Entry) (x y e : Entry) → IsRising (m ++ x ∷ xs) → IsAlike x y → IsAlike x e
    → tally e.total ≡ join (tally x.total) (tally y.total)
    → total_at t f (m ++ e ∷ zs) ≡ total_at t f (m ++ x ∷ y ∷ zs)
in_place t f m xs zs x y e rising same same' total =
    total-append t f None m (e ∷ zs)
    ∙ ap (λ s. total_from t f s zs) here
    ∙ sym (total-append t f None m (x ∷ y ∷ zs))
  where
    hit : Gives t f x → both (total_at t f m) (given_by t f e)
        ≡ both (both (total_at t f m) (given_by t f x)) (given_by t f y)
    hit gives =
        let none = front-none t f m xs x rising gives in
        let gx = given-some t f x gives in
        let gy = given-some t f y (sym same.0 ∙ gives.0, sym same.1 ∙ gives.1) in
        let ge = given-some t f e (sym same'.0 ∙ gives.0, sym same'.1 ∙ gives.1) in
        ap₂ both none ge
        ∙ ap Some total
        ∙ sym (ap₂ both (ap₂ both none gx) gy)

    miss : given_by t f x ≡ None → both (total_at t f m) (given_by t f e)
        ≡ both (both (total_at t f m) (given_by t f x)) (given_by t f y)
    miss none =
        let gy = alike-none t f x y same none in
        let ge = alike-none t f x e same' none in
        ap (both (total_at t f m)) ge
        ∙ both-none (total_at t f m)
        ∙ sym (ap₂ both (ap (both (total_at t f m)) none ∙ both-none (total_at t f m)) gy ∙ both-none (total_at t f m))

    here : both (total_at t f m) (given_by t f e)
        ≡ both (both (total_at t f m) (given_by t f x)) (given_by t f y)
    here = ⊎_elim hit miss (gives_or_none t f x)

pub take_both : (given m xs ys : List Entry) (x y e : Entry) → Walk given m (x ∷ xs) (y ∷ ys)
    → by_place x y ≡ Equal → IsAlike x e → tally e.total ≡ join (tally x.total) (tally y.total)
    → Walk given (m ++ e ∷ []) xs ys
take_both given m xs ys x y e w equal is total =
    let same = equal-alike x y equal in
    let below = rising-below x xs (rising-part m (x ∷ xs) w.left) in
    let above = rising-below y ys (rising-part m (y ∷ ys) w.right) in
    let alike : IsAlike y e = (sym same.0 ∙ is.0, sym same.1 ∙ is.1) in
    record {
      left = subst IsRising (sym (snoc m xs e)) (rising-swapped m xs x e is w.left);
      right = subst IsRising (sym (snoc m ys e)) (rising-swapped m ys y e alike w.right);
      totals = λ t f.
          ap (total_at t f) (snoc m (xs ++ ys) e)
          ∙ in_place t f m xs (xs ++ ys) x y e w.left same is total
          ∙ total-append t f None m (x ∷ y ∷ (xs ++ ys))
          ∙ past t f (both (total_at t f m) (given_by t f x)) y xs ys (below-alike x y xs same below)
          ∙ sym (total-append t f None m (x ∷ (xs ++ y ∷ ys)))
          ∙ w.totals t f;
      joins = left-tail xs ys x below (right-tail (x ∷ xs) ys y above w.joins);
    }

-- the totals of two entries of one place may be joined
pub may_join : (given m xs ys : List Entry) (x y : Entry) → Walk given m (x ∷ xs) (y ∷ ys)
    → by_place x y ≡ Equal → CanJoin (tally x.total) (tally y.total)
may_join given m xs ys x y w equal =
    let same = equal-alike x y equal in
    let below = rising-below x xs (rising-part m (x ∷ xs) w.left) in
    let above = rising-below y ys (rising-part m (y ∷ ys) w.right) in
    w.joins x.target x.field (tally x.total) (tally y.total)
    (head-total x.target x.field x xs below (refl, refl))
    (head-total x.target x.field y ys above (sym same.0, sym same.1))

pub end_left : (given m xs : List Entry) → Walk given m xs [] → IsPartialOf given (m ++ xs)
end_left given m xs w = record {
  rising = w.left;
  totals = λ t f. ap (λ l. total_at t f (m ++ l)) (sym (append-nil xs)) ∙ w.totals t f;
}

-- one entry on its way into a rising list, at its rank
begin : (xs : List Entry) (at : ℕ) (e : Entry) → IsRising xs → IsRank xs e at → CanMerge xs (e ∷ [])
    → Walk (xs ++ e ∷ []) (take at xs) (drop at xs) (e ∷ [])
begin xs at e rising rank joins =
    let cut = take-append-drop at xs in
    let parts = subst IsRising (sym cut) rising in
    record {
      left = parts;
      right = rising-push (take at xs) (drop at xs) e parts (recursion_from_All (λ k. by_place k e ≡ Less) (take at xs) rank.before);
      totals = λ t f.
          ap (total_at t f) (sym (append_assoc (take at xs) (drop at xs) (e ∷ [])))
          ∙ ap (λ l. total_at t f (l ++ e ∷ [])) cut;
      joins = λ t f a b p q. joins t f a b
          (subst (λ l. total_at t f l ≡ Some a) cut (part-total t f (take at xs) (drop at xs) a parts p)) q;
    }

-- an entry of its place stands there
module _ (xs : List Entry) (at : ℕ) (z e : Entry) (rising : IsRising xs) (rank : IsRank xs e at) (joins : CanMerge xs (e ∷ []))
    (within : at < length xs) (is : z ≡ get_or xs at z) (equal : by_place z e ≡ Equal) where
  stands : Walk (xs ++ e ∷ []) (take at xs) (z ∷ drop (suc at) xs) (e ∷ [])
  stands =
      subst (λ l. Walk (xs ++ e ∷ []) (take at xs) l (e ∷ []))
      (drop-cons xs at z within ∙ ap (λ k. k ∷ drop (suc at) xs) (sym is)) (begin xs at e rising rank joins)

  pub may_join_at : CanJoin (tally z.total) (tally e.total)
  may_join_at = may_join (xs ++ e ∷ []) (take at xs) (drop (suc at) xs) [] z e stands equal

  pub joined_at : (j : Entry) → IsAlike z j → tally j.total ≡ join (tally z.total) (tally e.total)
      → IsPartialOf (xs ++ e ∷ []) (set xs at j)
  joined_at j alike total =
      subst (IsPartialOf (xs ++ e ∷ [])) (snoc (take at xs) (drop (suc at) xs) j ∙ sym (set_split xs at j within))
      (end_left (xs ++ e ∷ []) (take at xs ++ j ∷ []) (drop (suc at) xs)
      (take_both (xs ++ e ∷ []) (take at xs) (drop (suc at) xs) [] z e j stands equal alike total))

-- what is not before an entry, nor of its place, is behind it
greater : (o : Ordering) → is_lt o ≡ false → is_eq o ≡ false → o ≡ Greater
greater Greater a b = refl
greater _ a b = absurd (cc)

is_less : (o : Ordering) → is_lt o ≡ true → o ≡ Less
is_less Less h = refl
is_less _ h = absurd (cc)

pub put_at : (xs : List Entry) (at : ℕ) (e : Entry) → IsRising xs → IsRank xs e at
    → CanMerge xs (e ∷ []) → ((z : Entry) → at < length xs → z ≡ get_or xs at z → is_eq (by_place z e) ≡ false)
    → IsPartialOf (xs ++ e ∷ []) (insert xs at e)
put_at xs at e rising rank joins new =
    subst (IsPartialOf (xs ++ e ∷ [])) (snoc (take at xs) (drop at xs) e)
    (end_left (xs ++ e ∷ []) (take at xs ++ e ∷ []) (drop at xs)
    (take_right (xs ++ e ∷ []) (take at xs) (drop at xs) [] e walk (⊎_elim behind none (cases_lt at (length xs)))))
  where
    walk : Walk (xs ++ e ∷ []) (take at xs) (drop at xs) (e ∷ [])
    walk = begin xs at e rising rank joins

    behind : at < length xs → IsBelow e (drop at xs)
    behind within =
        let z = get_or xs at e in
        let split = drop-cons xs at e within in
        let P : Entry → Type 0 = λ k. is_lt (by_place k e) ≡ false in
        let first = All-head P z (drop (suc at) xs) (subst (All P) split rank.behind) in
        let less = greater-less z e (greater (by_place z e) first (new z within (get_or_default xs at e z within))) in
        let rest = rising-below z (drop (suc at) xs) (subst IsRising split (rising-part (take at xs) (drop at xs) walk.left)) in
        subst (IsBelow e) (sym split) (less, below-trans e z (drop (suc at) xs) less rest)

    none : length xs ≤ at → IsBelow e (drop at xs)
    none long = subst (IsBelow e) (sym (drop_of_length-le xs long)) tt

-- what partition_point asks and answers

pub partitioned : (e : Entry) (xs : List Entry) → IsRising xs → IsPartitionedBy (λ k. is_lt (by_place k e)) xs
unfolding IsStrictlySortedBy
partitioned e [] rising i j d le within is = absurd (omega arith)
partitioned e (x ∷ xs) rising zero zero d le within is = is
partitioned e (x ∷ xs) rising zero (suc j) d le within is =
    let k = get_or xs j d in
    let less : by_place x k ≡ Less = All-from_recursion (λ y. by_place x y ≡ Less) xs rising.0 j d (omega arith) in
    ap is_lt (less-trans x k e less (is_less (by_place k e) is))
partitioned e (x ∷ xs) rising (suc i) zero d le within is = absurd (omega arith)
partitioned e (x ∷ xs) rising (suc i) (suc j) d le within is =
    partitioned e xs rising.1 i j d (omega arith) (omega arith) is

pub ranked_at : (e : Entry) (xs : List Entry) (at : ℕ) → at ≤ length xs
    → IsPartitionPoint (λ k. is_lt (by_place k e) ≡ true) (λ k. is_lt (by_place k e) ≡ false) xs at
    → IsRank xs e at
ranked_at e xs at within point = record {
  within = within;
  before = λ k d le.
      let low : k < at = omega (arith, le, length-take-le at xs within) in
      ap (λ x. by_place x e) (get_or-take at xs k d low) ∙ is_less _ (point.0 k d (omega arith) low);
  behind = λ k d le.
      ap (λ x. is_lt (by_place x e)) (get_or-drop at xs k d)
      ∙ point.1 (at + k) d (omega arith) (omega (arith, le, length-drop at xs, within));
}

-- what all calls say of a list that was given more

pub more_joined : (old more new : List Entry) → IsRising more → IsPartialOf (old ++ more) new
    → (t f : ℕ) → total_at t f new ≡ both (total_at t f old) (total_at t f more)
more_joined old more new rising p t f =
    p.totals t f ∙ total-append t f None old more ∙ total-behind t f (total_at t f old) more rising

-- a walk where both lists are seen to have a first entry
pub opened : (given m l r xs ys : List Entry) (x y : Entry) → Walk given m l r → l ≡ x ∷ xs → r ≡ y ∷ ys
    → Walk given m (x ∷ xs) (y ∷ ys)
opened given m l r xs ys x y w p q =
    subst (λ (k : List Entry). Walk given m k (y ∷ ys)) p (subst (λ (k : List Entry). Walk given m l k) q w)

pub rising-nil : IsRising []
unfolding IsStrictlySortedBy
rising-nil = tt

pub is_equal : (o : Ordering) → is_eq o ≡ true → o ≡ Equal
is_equal Equal h = refl
is_equal _ h = absurd (cc)
