-- Columns whose rows stand in another order.
use Rattle.std.proofs.Common.{◌≡◌, ◌∙◌, refl, sym, ap, ap₂, ℕ, zero, suc, ◌+◌, ◌<◌, ℤ, List, [], ◌∷◌, ◌++◌, filter, map, length, get_or, slice_get, take, Bool, true, false, cond, Option, Some, None, arith}
use Rattle.std.specs.Prelude.{if◌then◌else◌, nat_lt, option_map}
use Rattle.std.specs.List.{All, range_with_len}
use Rattle.std.proofs.lemmas.List.{ext_get_or, map-append, take_more}
use Rattle.std.proofs.lemmas.List.Elements.{All-cons, All-nil, filter-append}
use Rattle.std.proofs.lemmas.List.FromFn.{fill_by_all, get_or-map-range_with_len, length-map-range_with_len}
use Rattle.std.proofs.lemmas.Option.{get_or_from_slice_get, none-some, same_Some, slice_get-map, slice_get_within}
use Rattle.brace_num.proofs.Lists.{same_parts}
use Rattle.brace_model.specs.declared.world.Agent.{Agent}
use Rattle.brace_model.specs.World.{number, value_at}
use Rattle.brace_fold.specs.Rows.{IsPicked}
use Rattle.brace_fold.specs.Asked.{by_row, no_agent}
use denote.Ref.{Bor}

module _ {B : Type 0} (f : Agent → B) where
  -- what is read of an agent by what is read of its column
  agent-read : (agents : List Agent) (p : ℕ) (x : B) → slice_get (map f agents) p ≡ Some x
      → x ≡ f (get_or agents p no_agent)
  agent-read agents p x read = by (slice_get agents p) refl
    where
      by : (o : Option Agent) → slice_get agents p ≡ o → x ≡ f (get_or agents p no_agent)
      by None e = absurd (none-some x
          (sym (ap (option_map f) e) ∙ sym (slice_get-map f agents p) ∙ read))
      by (Some a) e =
          same_Some x (f a) (sym read ∙ slice_get-map f agents p ∙ ap (option_map f) e)
          ∙ ap f (sym (get_or_from_slice_get agents p a no_agent e))

  -- a column in another order is that of the agents in that order
  pub picked-is : (agents : List Agent) (column : List B) (order : List ℕ) (out : List B)
      → column ≡ map f agents → IsPicked order column out → out ≡ map f (by_row agents order)
  picked-is agents column [] [] same e = refl
  picked-is agents column [] (x ∷ out) same e =
      absurd (let none : [] ≡ Some x ∷ map Some out = e in cc)
  picked-is agents column (p ∷ order) [] same e =
      absurd (let none : slice_get column p ∷ map (slice_get column) order ≡ [] = e in cc)
  picked-is agents column (p ∷ order) (x ∷ out) same e =
      let both : slice_get column p ∷ map (slice_get column) order ≡ Some x ∷ map Some out = e in
      let here : slice_get column p ≡ Some x = cc in
      let rest : map (slice_get column) order ≡ map Some out = cc in
      ap₂ (λ y l. y ∷ l)
      (agent-read agents p x (ap (λ l. slice_get l p) (sym same) ∙ here))
      (picked-is agents column order out same rest)

-- columns have in some rows what these do
abbrev pub ArePicked : List ℕ → List (Bor (List ℤ)) → List (List ℤ) → Type 0
ArePicked order columns outs =
    map (λ (c : Bor (List ℤ)). map (slice_get c.now) order) columns
    ≡ map (λ (out : List ℤ). map Some out) outs

-- one column, and the others
picked-both : (order : List ℕ) (c : Bor (List ℤ)) (o : List ℤ) (columns : List (Bor (List ℤ)))
    (outs : List (List ℤ)) → ArePicked order (c ∷ columns) (o ∷ outs)
    → IsPicked order c.now o × ArePicked order columns outs
picked-both order c o columns outs same =
    let both : map (slice_get c.now) order ∷ map
    (λ (l : Bor (List ℤ)). map (slice_get l.now) order) columns
    ≡ map Some o ∷ map (λ (l : List ℤ). map Some l) outs = same in
    let first : IsPicked order c.now o = cc in
    let rest : ArePicked order columns outs = cc in
    (first, rest)

-- columns of states in another order
all-moved : (g : ℕ → Agent → ℤ) (agents : List Agent) (order : List ℕ)
    (columns : List (Bor (List ℤ)))
    (outs : List (List ℤ)) → ArePicked order columns outs
    → ((i : ℕ) (column : List ℤ)
    → slice_get (map (λ (c : Bor (List ℤ)). c.now) columns) i ≡ Some column
    → column ≡ map (g i) agents)
    → (i : ℕ) (out : List ℤ) → slice_get outs i ≡ Some out → out ≡ map (g i) (by_row agents order)
all-moved g agents order columns [] same are i out there = absurd (none-some out there)
all-moved g agents order [] (o ∷ outs) same are i out there =
    absurd (let none : [] ≡ map Some o ∷ map (λ (l : List ℤ). map Some l) outs = same in cc)
all-moved g agents order (c ∷ columns) (o ∷ outs) same are zero out there =
    let first : IsPicked order c.now o = (picked-both order c o columns outs same).0 in
    let is : o ≡ out = same_Some o out there in
    sym is ∙ picked-is (g 0) agents c.now order o (are 0 c.now refl) first
all-moved g agents order (c ∷ columns) (o ∷ outs) same are (suc i) out there =
    all-moved (λ n. g (suc n)) agents order columns outs (picked-both order c o columns outs same).1
    (λ n column has. are (suc n) column has) i out there

pub states-moved : (agents : List Agent) (order : List ℕ) (columns : List (Bor (List ℤ)))
    (outs : List (List ℤ)) → ArePicked order columns outs
    → ((i : ℕ) (column : List ℤ)
    → slice_get (map (λ (c : Bor (List ℤ)). c.now) columns) i ≡ Some column
    → column ≡ map (λ a. number (value_at a.states i)) agents)
    → (i : ℕ) (out : List ℤ) → slice_get outs i ≡ Some out
    → out ≡ map (λ a. number (value_at a.states i)) (by_row agents order)
states-moved = all-moved (λ i a. number (value_at a.states i))

-- rows in which a column has something are within it
pub picked-within : {A : Type 0} (column : List A) (rows : List ℕ) (out : List A)
    → IsPicked rows column out → All (λ row. row < length column) rows
picked-within column [] out e = All-nil (λ row. row < length column)
picked-within column (r ∷ rows) [] e =
    absurd (let none : slice_get column r ∷ map (slice_get column) rows ≡ [] = e in cc)
picked-within column (r ∷ rows) (x ∷ out) e =
    let (here, rest) =
    same_parts (slice_get column r) (Some x) (map (slice_get column) rows) (map Some out) e in
    All-cons (λ row. row < length column) r rows (slice_get_within column r x here)
    (picked-within column rows out rest)

-- ---- the places of rows

-- one more of the first rows, if it is one
pub before-more : (order places : List ℕ) (count k row : ℕ) → k < length order
    → slice_get order k ≡ Some row
    → IsPicked places order (filter (λ r. nat_lt r count) (take k order))
    → IsPicked (places ++ (if nat_lt row count then k ∷ [] else [])) order
    (filter (λ r. nat_lt r count) (take (k + 1) order))
before-more order places count k row low there so =
    let test : ℕ → Bool = λ r. nat_lt r count in
    let more : take (k + 1) order ≡ take k order ++ row ∷ [] =
    take_more order k row low
    ∙ ap (λ x. take k order ++ x ∷ []) (get_or_from_slice_get order k row row there) in
    map-append (slice_get order) places (if test row then k ∷ [] else [])
    ∙ ap₂ (λ (xs ys : List (Option ℕ)). xs ++ ys) so (here (test row))
    ∙ sym (map-append Some (filter test (take k order)) (cond (test row) (row ∷ []) []))
    ∙ ap (map Some) (sym (ap (filter test) more ∙ filter-append test (take k order) (row ∷ [])))
  where
    here : (b : Bool) → map (slice_get order) (if b then k ∷ [] else [])
        ≡ map Some (cond b (row ∷ []) [])
    here true = ap (λ (o : Option ℕ). o ∷ []) there
    here false = refl

-- places of rows are places of the agents of these rows
pub picked-by : (agents : List Agent) (order places rows : List ℕ) → IsPicked places order rows
    → IsPicked places (by_row agents order) (by_row agents rows)
picked-by agents order [] [] e = refl
picked-by agents order [] (r ∷ rows) e =
    absurd (let none : [] ≡ Some r ∷ map Some rows = e in cc)
picked-by agents order (p ∷ places) [] e =
    absurd (let none : slice_get order p ∷ map (slice_get order) places ≡ [] = e in cc)
picked-by agents order (p ∷ places) (r ∷ rows) e =
    let at : ℕ → Agent = λ row. get_or agents row no_agent in
    let (here, rest) =
    same_parts (slice_get order p) (Some r) (map (slice_get order) places) (map Some rows) e in
    ap₂ (λ (o : Option Agent) l. o ∷ l) (slice_get-map at order p ∙ ap (option_map at) here)
    (picked-by agents order places rows rest)

-- ---- all rows of two lists

at-front : (xs ys : List Agent) (k : ℕ) (d : Agent) → k < length xs
    → get_or xs k d ≡ get_or (xs ++ ys) k d
at-front [] ys k d low = absurd (omega (arith, low))
at-front (x ∷ xs) ys zero d low = refl
at-front (x ∷ xs) ys (suc k) d low = at-front xs ys k d (omega (arith, low))

at-back : (xs ys : List Agent) (k : ℕ) (d : Agent)
    → get_or (xs ++ ys) (length xs + k) d ≡ get_or ys k d
at-back [] ys k d = let at : 0 + k ≡ k = omega arith in ap (λ n. get_or ys n d) at
at-back (x ∷ xs) ys k d =
    let at : suc (length xs) + k ≡ suc (length xs + k) = omega arith in
    ap (λ n. get_or (x ∷ (xs ++ ys)) n d) at ∙ at-back xs ys k d

pub rows-front : (xs ys : List Agent)
    → by_row (xs ++ ys) (range_with_len 0 (length xs)) ≡ xs
rows-front xs ys =
    sym (fill_by_all (λ row. get_or (xs ++ ys) row no_agent) xs (length xs) no_agent refl
    (λ k low. at-front xs ys k no_agent low))

pub rows-back : (xs ys : List Agent)
    → by_row (xs ++ ys) (range_with_len (length xs) (length ys)) ≡ ys
rows-back xs ys =
    let at : ℕ → Agent = λ row. get_or (xs ++ ys) row no_agent in
    let from = length xs in
    sym (ext_get_or no_agent ys (by_row (xs ++ ys) (range_with_len from (length ys)))
    (sym (length-map-range_with_len at from (length ys)))
    (λ k low. sym (get_or-map-range_with_len at from (length ys) k (from + k) no_agent low refl
    ∙ at-back xs ys k no_agent)))

pub rows-all : (xs : List Agent) → by_row xs (range_with_len 0 (length xs)) ≡ xs
rows-all xs =
    sym (fill_by_all (λ row. get_or xs row no_agent) xs (length xs) no_agent refl (λ k low. refl))
