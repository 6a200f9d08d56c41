-- The table of totals after one saying more.
use Rattle.std.proofs.Common.{◌≡◌, ◌∙◌, sym, refl, ap, subst, ℕ, zero, suc, ◌+◌, ◌-◌, ◌<◌, ◌≤◌, ℤ, pos, List, [], ◌∷◌, ◌++◌, true, false, Bool, length, take, get_or, set, map, Some, None, Ok, Err, arith, add-one, flat_map}
use Rattle.std.specs.Prelude.{◌==◌, ◌&&◌, slice_get, eqb, leb}
use Rattle.std.specs.List.Sorted.{IsBinarySearchResult}
use Rattle.std.specs.Ordering.{nat_cmp}
use Rattle.std.proofs.lemmas.List.Sorted.{searched}
use Rattle.std.proofs.Math.Nat.{eq-or-lt_of_le}
use Rattle.std.proofs.lemmas.Option.{slice_get_read, slice_get_past, slice_get_within, get_or_from_slice_get}
use Rattle.std.proofs.lemmas.Bool.{ne_eqb, eq-eqb}
use Rattle.std.proofs.lemmas.Bool.Decides.{eqb_tells, leb_tells}
use Rattle.std.proofs.lemmas.List.Kept.{AllPairs-from_increasing}
use mathlib.Core.Logic.{⊎_elim}
use Rattle.std.proofs.Math.Seq.{take-suc, get_or-append_seam}
use Rattle.std.proofs.lemmas.Grind.{flat_map-append}
use Rattle.std.proofs.lemmas.List.{get_or_default, get_or_append_left as get_or-append_left, map-append, append-nil, length-append, set-append_left, set-append_right, length-map}
use Rattle.std.proofs.lemmas.List.Sums.{fold-append}
use Rattle.std.proofs.lemmas.List.Folds.{length-flat_map-take}
use Rattle.std.proofs.lemmas.List.Concat.{get_or-flat_map}
use Rattle.brace_model.specs.declared.program.Comb.{Comb}
use Rattle.brace_model.specs.declared.program.Effect.{Effect}
use Rattle.brace_model.specs.declared.program.Program.{Program}
use Rattle.brace_model.specs.declared.program.Value.{Value}
use Rattle.brace_model.specs.declared.world.Agent.{Agent}
use Rattle.brace_model.specs.World.{RisesById, ids, class_of}
use Rattle.brace_model.proofs.WorldLemmas.{id_at}
use Rattle.brace_model.specs.Query.{Saying}
use Rattle.brace_model.specs.Total.{identity, joined, total_of, said_to, totals_from}
use Rattle.brace_comb.proofs.Said.{said_to-append}
use Rattle.brace_eval.specs.Heard.{effects_in, row_of, table_of, AreStarts}

-- a saying is to an effect of an agent
abbrev hits : ℕ → ℕ → Saying → Bool
hits id n s = (s.target == id) && (s.field == n)

said_to-miss : (id n : ℕ) (xs : List Saying) (s : Saying) → hits id n s ≡ false
    → said_to id n (xs ++ s ∷ []) ≡ said_to id n xs
said_to-miss id n xs s e =
    let none : said_to id n (s ∷ []) ≡ [] = rw e refl in
    said_to-append id n xs (s ∷ []) ∙ ap (λ (l : List Value). said_to id n xs ++ l) none ∙ append-nil _

total-hit : (comb : Comb) (id n : ℕ) (xs : List Saying) (s : Saying) → hits id n s ≡ true
    → total_of comb (said_to id n (xs ++ s ∷ [])) ≡ joined comb (total_of comb (said_to id n xs)) s.value
total-hit comb id n xs s e =
    let one : said_to id n (s ∷ []) ≡ s.value ∷ [] = rw e refl in
    ap (total_of comb) (said_to-append id n xs (s ∷ []) ∙ ap (λ (l : List Value). said_to id n xs ++ l) one)
    ∙ fold-append (joined comb) (identity comb) (said_to id n xs) (s.value ∷ [])

row-miss : (n id : ℕ) (effects : List Effect) (xs : List Saying) (s : Saying)
    → ((m : ℕ) → n ≤ m → m < n + length effects → hits id m s ≡ false)
    → totals_from n id effects (xs ++ s ∷ []) ≡ totals_from n id effects xs
row-miss n id [] xs s miss = refl
row-miss n id (e ∷ effects) xs s miss =
    let here = said_to-miss id n xs s (miss n (omega arith) (omega arith)) in
    let rest = row-miss (suc n) id effects xs s (λ m a b. miss m (omega arith) (omega arith)) in
    ap (λ (l : List Value). total_of e.comb l ∷ totals_from (suc n) id effects (xs ++ s ∷ [])) here
    ∙ ap (λ (l : List ℤ). total_of e.comb (said_to id n xs) ∷ l) rest

-- a saying to another agent
other-miss : (id m : ℕ) (s : Saying) → (s.target ≡ id → ⊥) → hits id m s ≡ false
other-miss id m s ne = ap (λ (b : Bool). b && (s.field == m)) (ne_eqb s.target id ne)

-- a saying to another effect
field-miss : (id m : ℕ) (s : Saying) → (s.field ≡ m → ⊥) → hits id m s ≡ false
field-miss id m s ne = miss (s.target == id)
  where
    miss : (b : Bool) → (b && (s.field == m)) ≡ false
    miss true = ne_eqb s.field m ne
    miss false = refl

hit : (id m : ℕ) (s : Saying) → s.target ≡ id → s.field ≡ m → hits id m s ≡ true
hit id m s same field =
    ap (λ (b : Bool). b && (s.field == m)) (eq-eqb s.target id same) ∙ eq-eqb s.field m field

row-hit : (n id : ℕ) (effects : List Effect) (k : ℕ) (e : Effect) (xs : List Saying) (s : Saying)
    → s.target ≡ id → s.field ≡ n + k → slice_get effects k ≡ Some e
    → totals_from n id effects (xs ++ s ∷ [])
    ≡ set (totals_from n id effects xs) k (joined e.comb (get_or (totals_from n id effects xs) k (pos 0)) s.value)
row-hit n id [] k e xs s same field is = absurd (cc)
row-hit n id (f ∷ effects) zero e xs s same field is =
    let this : f ≡ e = cc in
    let here = total-hit f.comb id n xs s (hit id n s same (omega (arith, field))) in
    let rest = row-miss (suc n) id effects xs s (λ m a b. field-miss id m s (λ is. omega (arith, is, field))) in
    ap (λ (t : ℤ). t ∷ totals_from (suc n) id effects (xs ++ s ∷ [])) here
    ∙ ap (λ (l : List ℤ). joined f.comb (total_of f.comb (said_to id n xs)) s.value ∷ l) rest
    ∙ ap (λ (g : Effect). joined g.comb (total_of f.comb (said_to id n xs)) s.value ∷ totals_from (suc n) id effects xs) this
row-hit n id (f ∷ effects) (suc k) e xs s same field is =
    let here = said_to-miss id n xs s (field-miss id n s (λ is. omega (arith, is, field))) in
    let rest = row-hit (suc n) id effects k e xs s same (omega (arith, field)) is in
    ap (λ (l : List Value). total_of f.comb l ∷ totals_from (suc n) id effects (xs ++ s ∷ [])) here
    ∙ ap (λ (l : List ℤ). total_of f.comb (said_to id n xs) ∷ l) rest

pub row-length : (n id : ℕ) (effects : List Effect) (xs : List Saying)
    → length (totals_from n id effects xs) ≡ length effects
row-length n id [] xs = refl
row-length n id (e ∷ effects) xs = ap suc (row-length (suc n) id effects xs)

-- the totals of no value
pub row-none : (n id : ℕ) (effects : List Effect)
    → totals_from n id effects [] ≡ map (λ (e : Effect). identity e.comb) effects
row-none n id [] = refl
row-none n id (e ∷ effects) = ap (λ (l : List ℤ). identity e.comb ∷ l) (row-none (suc n) id effects)

-- two tables that differ in one row
module _ (f g : Agent → List ℤ) where
  flat-same : (agents : List Agent)
      → ((j : ℕ) (d : Agent) → j < length agents → g (get_or agents j d) ≡ f (get_or agents j d))
      → flat_map g agents ≡ flat_map f agents
  flat-same [] same = refl
  flat-same (a ∷ agents) same =
      let here : g a ≡ f a = same 0 a (omega arith) in
      let rest = flat-same agents (λ j d le. same (suc j) d (omega arith)) in
      ap (λ (l : List ℤ). l ++ flat_map g agents) here ∙ ap (λ (l : List ℤ). f a ++ l) rest

  flat-set : (agents : List Agent) (i k at : ℕ) (d : Agent) (v : ℤ) → i < length agents
      → k < length (f (get_or agents i d)) → at ≡ length (flat_map f (take i agents)) + k
      → g (get_or agents i d) ≡ set (f (get_or agents i d)) k v
      → ((j : ℕ) (e : Agent) → j < length agents → (j ≡ i → ⊥) → g (get_or agents j e) ≡ f (get_or agents j e))
      → flat_map g agents ≡ set (flat_map f agents) at v
  flat-set [] i k at d v le room is here others = absurd (omega arith)
  flat-set (a ∷ agents) zero k at d v le room is here others =
      let at_k : at ≡ k = omega (arith, is) in
      let within : at < length (f a) = omega (arith, at_k, room) in
      let rest = flat-same agents (λ j e le. others (suc j) e (omega arith) (λ no. omega (arith, no))) in
      ap (λ (l : List ℤ). g a ++ l) rest
      ∙ ap (λ (l : List ℤ). l ++ flat_map f agents) (here ∙ ap (λ (n : ℕ). set (f a) n v) (sym at_k))
      ∙ sym (set-append_left (f a) (flat_map f agents) at v within)
  flat-set (a ∷ agents) (suc i) k at d v le room is here others =
      let before : at ≡ length (f a) + length (flat_map f (take i agents)) + k =
      is ∙ ap (λ (n : ℕ). n + k) (length-append (f a) (flat_map f (take i agents))) in
      let past : length (f a) ≤ at = omega (arith, before) in
      let first : g a ≡ f a = others 0 a (omega arith) (λ no. omega (arith, no)) in
      let rest = flat-set agents i k (at - length (f a)) d v (omega arith) room (omega (arith, before)) here
      (λ j e le ne. others (suc j) e (omega arith) (λ no. ne (omega (arith, no)))) in
      ap (λ (l : List ℤ). l ++ flat_map g agents) first
      ∙ ap (λ (l : List ℤ). f a ++ l) rest
      ∙ sym (set-append_right (f a) (flat_map f agents) (length (f a)) at v refl past)

pub table-length : (program : Program) (xs : List Saying) (agents : List Agent)
    → length (table_of program xs agents) ≡ length (table_of program [] agents)
table-length program xs [] = refl
table-length program xs (a ∷ agents) =
    let effects = effects_in (class_of program a) in
    length-append (row_of program xs a) (table_of program xs agents)
    ∙ ap (λ (n : ℕ). n + length (table_of program xs agents)) (row-length 0 a.id effects xs ∙ sym (row-length 0 a.id effects []))
    ∙ ap (λ (n : ℕ). length (row_of program [] a) + n) (table-length program xs agents)
    ∙ sym (length-append (row_of program [] a) (table_of program [] agents))

row-other : (program : Program) (xs : List Saying) (s : Saying) (a : Agent) → (s.target ≡ a.id → ⊥)
    → row_of program (xs ++ s ∷ []) a ≡ row_of program xs a
row-other program xs s a ne =
    row-miss 0 a.id (effects_in (class_of program a)) xs s (λ m low high. other-miss a.id m s ne)

past-length : (effects : List Effect) (k m : ℕ) → slice_get effects k ≡ None → m < length effects → k ≡ m → ⊥
past-length [] k m none le e = omega (arith, le)
past-length (f ∷ effects) zero m none le e = cc
past-length (f ∷ effects) (suc k) zero none le e = omega (arith, e)
past-length (f ∷ effects) (suc k) (suc m) none le e = past-length effects k m none (omega (arith, le)) (omega (arith, e))

row-past : (program : Program) (xs : List Saying) (s : Saying) (a : Agent)
    → slice_get (effects_in (class_of program a)) s.field ≡ None
    → row_of program (xs ++ s ∷ []) a ≡ row_of program xs a
row-past program xs s a none =
    let effects = effects_in (class_of program a) in
    row-miss 0 a.id effects xs s (λ m low high. field-miss a.id m s (past-length effects s.field m none (omega (arith, high))))

pub item-some : {A : Type 0} (xs : List A) (i : ℕ) (x : A) → true ≡ leb (suc i) (length xs) → x ≡ get_or xs i x
    → slice_get xs i ≡ Some x
item-some xs i x t is =
    ⊎_elim
    (λ (le : (leb (suc i) (length xs) ≡ true) × (suc i ≤ length xs)). slice_get_read xs (length xs) i x refl (omega (arith, le.1)) is)
    (λ (le : (leb (suc i) (length xs) ≡ false) × (length xs < suc i)). absurd (let no = t ∙ le.0 in cc))
    (leb_tells (suc i) (length xs))

pub item-none : (xs : List Effect) (i : ℕ) → false ≡ leb (suc i) (length xs) → slice_get xs i ≡ None
item-none xs i t =
    ⊎_elim
    (λ (le : (leb (suc i) (length xs) ≡ true) × (suc i ≤ length xs)). absurd (let no = t ∙ le.0 in cc))
    (λ (le : (leb (suc i) (length xs) ≡ false) × (length xs < suc i)). slice_get_past xs i (omega (arith, le.1)))
    (leb_tells (suc i) (length xs))

-- different places have different ids
module _ (agents : List Agent) (rises : RisesById agents) where
  differ : (i j : ℕ) → i < length (ids agents) → j < length (ids agents) → (j ≡ i → ⊥)
      → get_or (ids agents) j 0 ≡ get_or (ids agents) i 0 → ⊥
  differ i j a b ne same =
      ⊎_elim
      (λ (le : (leb (suc i) j ≡ true) × (suc i ≤ j)).
      let lt = AllPairs-from_increasing (ids agents) rises i j 0 le.1 b in omega (arith, lt, same))
      (λ (le : (leb (suc i) j ≡ false) × (j < suc i)).
      let lt = AllPairs-from_increasing (ids agents) rises j i 0 (omega (arith, le.1, ne)) a in omega (arith, lt, same))
      (leb_tells (suc i) j)

  no_falls : (i j : ℕ) → i ≤ j → j < length (ids agents) → get_or (ids agents) i 0 ≤ get_or (ids agents) j 0
  no_falls i j le within =
      ⊎_elim
      (λ (same : i ≡ j). subst (λ (k : ℕ). get_or (ids agents) i 0 ≤ get_or (ids agents) k 0) same (omega arith))
      (λ (lt : i < j). let less = AllPairs-from_increasing (ids agents) rises i j 0 lt within in omega (arith, less))
      (eq-or-lt_of_le le)

  pub search-none : (x e : ℕ) → IsBinarySearchResult (λ y. nat_cmp y x) (ids agents) (Err e)
      → (k : ℕ) → k < length (ids agents) → get_or (ids agents) k 0 ≡ x → ⊥
  search-none x e found k within is =
      let (place, below, above) = searched (ids agents) x (Err e) found no_falls in
      ⊎_elim
      (λ (le : (leb (suc k) e ≡ true) × (suc k ≤ e)). let less = below k le.1 in omega (arith, less, is))
      (λ (le : (leb (suc k) e ≡ false) × (e < suc k)). let more = above k (omega (arith, le.1)) within in omega (arith, more, is))
      (leb_tells (suc k) e)

  pub search-some : (x i : ℕ) → IsBinarySearchResult (λ y. nat_cmp y x) (ids agents) (Ok i)
      → (i < length agents) × (get_or (ids agents) i 0 ≡ x)
  search-some x i found =
      let (within, is) = searched (ids agents) x (Ok i) found no_falls in
      let len : length (ids agents) ≡ length agents = length-map agents (λ (a : Agent). a.id) in
      (omega (arith, within, len), is)

  -- an agent at another place has another id
  other-id : (i j target : ℕ) (d : Agent) → i < length agents → j < length agents → (j ≡ i → ⊥)
      → get_or (ids agents) i 0 ≡ target → target ≡ (get_or agents j d).id → ⊥
  other-id i j target d a b ne is same =
      let len : length (ids agents) ≡ length agents = length-map agents (λ (a : Agent). a.id) in
      differ i j (omega (arith, len)) (omega (arith, len)) ne (id_at agents j d b ∙ sym same ∙ sym is)

module _ (program : Program) (xs : List Saying) (s : Saying) (agents : List Agent) where
  -- no agent has the id
  pub table-nobody : ((k : ℕ) → k < length (ids agents) → get_or (ids agents) k 0 ≡ s.target → ⊥)
      → table_of program (xs ++ s ∷ []) agents ≡ table_of program xs agents
  table-nobody none =
      let len : length (ids agents) ≡ length agents = length-map agents (λ (a : Agent). a.id) in
      flat-same (row_of program xs) (row_of program (xs ++ s ∷ [])) agents (λ j d le.
      row-other program xs s (get_or agents j d) (λ same. none j (omega (arith, len)) (id_at agents j d le ∙ sym same)))

  module _ (i : ℕ) (d : Agent) (le : i < length agents) (rises : RisesById agents)
      (is : get_or (ids agents) i 0 ≡ s.target) where
    others : (j : ℕ) (e : Agent) → j < length agents → (j ≡ i → ⊥)
        → row_of program (xs ++ s ∷ []) (get_or agents j e) ≡ row_of program xs (get_or agents j e)
    others j e within ne = row-other program xs s (get_or agents j e) (other-id agents rises i j s.target e le within ne is)

    -- its class has no such effect
    pub table-past : slice_get (effects_in (class_of program (get_or agents i d))) s.field ≡ None
        → table_of program (xs ++ s ∷ []) agents ≡ table_of program xs agents
    table-past none =
        flat-same (row_of program xs) (row_of program (xs ++ s ∷ [])) agents (λ j e within.
        ⊎_elim
        (λ (same : (eqb j i ≡ true) × (j ≡ i)).
        row-past program xs s (get_or agents j e)
        (ap (λ (a : Agent). slice_get (effects_in (class_of program a)) s.field) (ap (λ (n : ℕ). get_or agents n e) same.1 ∙ get_or_default agents i e d le) ∙ none))
        (λ (ne : (eqb j i ≡ false) × (j ≡ i → ⊥)). others j e within ne.1)
        (eqb_tells j i))

    module _ (e : Effect) (at : ℕ) (has : slice_get (effects_in (class_of program (get_or agents i d))) s.field ≡ Some e)
        (stands : at ≡ length (table_of program [] (take i agents)) + s.field) where
      here : at ≡ length (table_of program xs (take i agents)) + s.field
      here = stands ∙ ap (λ (n : ℕ). n + s.field) (sym (table-length program xs (take i agents)))

      room : s.field < length (row_of program xs (get_or agents i d))
      room =
          let effects = effects_in (class_of program (get_or agents i d)) in
          let has_room = slice_get_within effects s.field e has in
          let long = row-length 0 (get_or agents i d).id effects xs in
          omega (arith, has_room, long)

      pub table-room : at < length (table_of program xs agents)
      table-room =
          let within = length-flat_map-take (row_of program xs) agents i d le in
          omega (arith, within, room, here)

      pub table-hit : table_of program (xs ++ s ∷ []) agents
          ≡ set (table_of program xs agents) at (joined e.comb (get_or (table_of program xs agents) at (pos 0)) s.value)
      table-hit =
          let a = get_or agents i d in
          let row = row_of program xs a in
          let mine : s.target ≡ a.id = sym is ∙ id_at agents i d le in
          let set_row = row-hit 0 a.id (effects_in (class_of program a)) s.field e xs s mine (omega arith) has in
          let read : get_or (table_of program xs agents) at (pos 0) ≡ get_or row s.field (pos 0) =
          ap (λ (n : ℕ). get_or (table_of program xs agents) n (pos 0)) here
          ∙ get_or-flat_map (row_of program xs) agents i s.field d (pos 0) le room in
          flat-set (row_of program xs) (row_of program (xs ++ s ∷ [])) agents i s.field at d _ le room here set_row others
          ∙ ap (λ (t : ℤ). set (table_of program xs agents) at (joined e.comb t s.value)) (sym read)

-- ---- agents by their places

-- an agent stands at its place, with its id
pub stands-at : (agents : List Agent) (place : ℕ) (a : Agent) → slice_get agents place ≡ Some a
    → (place < length agents) × (get_or (ids agents) place 0 ≡ a.id) × (get_or agents place a ≡ a)
stands-at agents place a is =
    let le : place < length agents = slice_get_within agents place a is in
    let here = get_or_from_slice_get agents place a a is in
    (le, id_at agents place a le ∙ ap (λ (b : Agent). b.id) here, here)

-- the effects of the agent at a place
pub effects-at : (program : Program) (agents : List Agent) (place : ℕ) (a x : Agent)
    (effects : List Effect) → slice_get agents place ≡ Some a → slice_get agents place ≡ Some x
    → effects ≡ effects_in (class_of program x)
    → effects_in (class_of program (get_or agents place a)) ≡ effects
effects-at program agents place a x effects is found of =
    let (le, id, here) = stands-at agents place a is in
    let same : x ≡ a = let both = sym found ∙ is in cc in
    ap (λ (b : Agent). effects_in (class_of program b)) (here ∙ sym same) ∙ sym of

-- an effect of the agent that was read at a place
pub effect-at : (program : Program) (agents : List Agent) (place field : ℕ) (a x : Agent)
    (effects : List Effect) → slice_get agents place ≡ Some a
    → true ≡ leb (suc place) (length agents) → x ≡ get_or agents place x
    → effects ≡ effects_in (class_of program x)
    → slice_get (effects_in (class_of program (get_or agents place a))) field
    ≡ slice_get effects field
effect-at program agents place field a x effects is low read of =
    ap (λ (l : List Effect). slice_get l field)
    (effects-at program agents place a x effects is (item-some agents place x low read) of)

-- where an id stands, an agent has it
pub stands-one : (agents : List Agent) (place id : ℕ) → place < length agents → get_or (ids agents) place 0 ≡ id
    → (a : Agent) × (slice_get agents place ≡ Some a) × (a.id ≡ id)
stands-one [] place id le is = absurd (omega (arith, le))
stands-one (a ∷ agents) zero id le is = (a, refl, is)
stands-one (a ∷ agents) (suc place) id le is = stands-one agents place id (omega (arith, le)) is

-- ---- the table of no saying, agent after agent

more-agents : (agents : List Agent) (i : ℕ) (a : Agent) → i < length agents → a ≡ get_or agents i a
    → take (i + 1) agents ≡ take i agents ++ a ∷ []
more-agents agents i a le is =
    ap (λ (n : ℕ). take n agents) (add-one i) ∙ take-suc agents i a le
    ∙ ap (λ (b : Agent). take i agents ++ b ∷ []) (sym is)

pub more-ids : (agents : List Agent) (i : ℕ) (a : Agent) (numbers : List ℕ) → i < length agents
    → a ≡ get_or agents i a → numbers ≡ ids (take i agents) → numbers ++ a.id ∷ [] ≡ ids (take (i + 1) agents)
more-ids agents i a numbers le is so =
    ap (λ (l : List ℕ). l ++ a.id ∷ []) so
    ∙ sym (ap ids (more-agents agents i a le is) ∙ map-append (λ (b : Agent). b.id) (take i agents) (a ∷ []))

pub more-starts : (program : Program) (agents : List Agent) (i : ℕ) (starts : List ℕ) (n : ℕ) → length starts ≡ i
    → n ≡ length (table_of program [] (take i agents)) → AreStarts program agents starts
    → AreStarts program agents (starts ++ n ∷ [])
more-starts program agents i starts n long is so j d le =
    ⊎_elim
    (λ (old : (leb (suc j) i ≡ true) × (suc j ≤ i)).
    get_or-append_left starts (n ∷ []) d j (omega (arith, old.1, long)) ∙ so j d (omega (arith, old.1, long)))
    (λ (new : (leb (suc j) i ≡ false) × (i < suc j)).
    let last : j ≡ length starts = omega (arith, new.1, le, length-append starts (n ∷ []), long) in
    ap (λ (k : ℕ). get_or (starts ++ n ∷ []) k d) last
    ∙ get_or-append_seam starts n [] d ∙ is
    ∙ ap (λ (k : ℕ). length (table_of program [] (take k agents))) (sym (last ∙ long)))
    (leb_tells (suc j) i)

pub more-rows : (program : Program) (agents : List Agent) (i : ℕ) (a : Agent) (table : List ℤ) → i < length agents
    → a ≡ get_or agents i a → table ≡ table_of program [] (take i agents)
    → table ++ map (λ (e : Effect). identity e.comb) (effects_in (class_of program a)) ≡ table_of program [] (take (i + 1) agents)
more-rows program agents i a table le is so =
    ap (λ (l : List ℤ). l ++ map (λ (e : Effect). identity e.comb) (effects_in (class_of program a))) so
    ∙ ap (λ (l : List ℤ). table_of program [] (take i agents) ++ l) (sym (row-none 0 a.id (effects_in (class_of program a))))
    ∙ ap (λ (l : List ℤ). table_of program [] (take i agents) ++ l) (sym (append-nil _))
    ∙ sym (flat_map-append (row_of program []) (take i agents) (a ∷ []))
    ∙ ap (table_of program []) (sym (more-agents agents i a le is))
