-- How censuses are joined, how the first parent that goes too far is found, and how children are
-- numbered.
use Rattle.std.proofs.Common.{◌≡◌, ◌∙◌, refl, sym, ap, subst, ℕ, zero, suc, ◌+◌, ◌<◌, ◌≤◌, List, [], ◌∷◌, ◌++◌, map, filter_map, flat_map, length, take, get_or, Bool, true, false, cond, ◌||◌, ◌==◌, Option, Some, None, arith, min, append_assoc, append-nil, ◌⊎◌, inl, inr, ⊎_elim, Ok, Err}
use Rattle.std.specs.Prelude.{leb, reverse, slice_get, sum_by}
use Rattle.std.specs.List.{position_from, cons_option}
use Rattle.std.specs.List.Sorted.{IsPermutation, IsNonDecreasingBy, IsStrictlyIncreasing, IsBinarySearchResult}
use Rattle.std.specs.Ordering.{nat_cmp, ordering_index}
use Rattle.std.specs.Cmp.{nat_cmp_is}
use Rattle.std.specs.declared.cmp.Ordering.TheVariants.{Less, Equal, Greater}
use Rattle.std.proofs.lemmas.Map.Lookups.{exact_unsigned}
use Rattle.std.proofs.Math.Nat.{eq-or-lt_of_le}
use borrow.Author.Tests.{tests}
use Rattle.std.proofs.lemmas.List.Kept.{AllPairs-from_increasing}
use Rattle.std.proofs.lemmas.List.Sorted.{IsPermutation-refl, IsPermutation-trans, IsPermutation-append, IsPermutation-append_comm}
use Rattle.std.proofs.lemmas.Grind.{flat_map-append}
use Rattle.brace_pieces.specs.declared.piece.Piece.{Piece}
use Rattle.brace_pieces.specs.Exchanged.{counts_brought}
use Rattle.std.specs.Option.{option_and_then, option_to_list}
use Rattle.std.proofs.lemmas.List.{length-take, length-map, get_or-map, get_or_default, reverse-append}
use Rattle.std.proofs.lemmas.List.Sums.{sum_by-cons, sum_by-append, sum_by_more}
use Rattle.std.proofs.lemmas.Bool.{eq-eqb, ne_eqb, cases_lt}
use Rattle.std.proofs.lemmas.Option.{slice_get-get_or}
use Rattle.brace_model.specs.declared.program.Program.{Program}
use Rattle.brace_model.specs.declared.world.Agent.{Agent}
use Rattle.brace_model.specs.declared.world.Parent.{Parent}
use Rattle.brace_model.specs.declared.world.Census.{Census}
use Rattle.brace_model.specs.Step.{most_agents, most_values, greatest_id}
use Rattle.brace_eval.proofs.BirthLemmas.{found_at, found_none, lt-cut}
use Rattle.brace_pieces.specs.Censuses.{IsSumOf, values_in, count_born, parent_too_far, rank_too_far}

module _ (program : Program) (next : ℕ) (all : Census) where
  -- an item that is there is the same whatever stands where none is
  there : (i : ℕ) (d : Parent) → i < length all.parents → get_or all.parents i d ≡ get_or all.parents i (get_or all.parents i d)
  there i d le = get_or_default all.parents i d (get_or all.parents i d) le

  -- the first at which the test is true
  pub far_at : (i : ℕ) (parent : Parent) → i < length all.parents → parent ≡ get_or all.parents i parent
      → ((r : ℕ) → r < i → parent_too_far program next all r ≡ false) → parent_too_far program next all i ≡ true
      → Some parent ≡ option_and_then (slice_get all.parents) (rank_too_far program next all)
  far_at i parent le is before here =
      let zero_i : 0 + i ≡ i = omega arith in
      let found = found_at (parent_too_far program next all) 0 (length all.parents) i le (λ r low high. before r (omega (arith, high)))
      (ap (parent_too_far program next all) zero_i ∙ here) in
      ap Some is ∙ sym (slice_get-get_or all.parents i parent le) ∙ ap (slice_get all.parents) (sym zero_i)
      ∙ ap (option_and_then (slice_get all.parents)) (sym found)

  pub far_none : ((r : ℕ) → r < length all.parents → parent_too_far program next all r ≡ false) → None ≡ option_and_then (slice_get all.parents) (rank_too_far program next all)
  far_none before =
      ap (option_and_then (slice_get all.parents)) (sym (found_none (parent_too_far program next all) 0 (length all.parents) (λ r low high. before r (omega (arith, high)))))

  -- with one parent more there are so many agents and values
  module _ (i : ℕ) (parent : Parent) (le : i < length all.parents) (is : parent ≡ get_or all.parents i parent) where
    one : suc i ≡ i + 1
    one = omega arith

    born_more : count_born program (take (suc i) all.parents) ≡ count_born program (take i all.parents) + values_in (slice_get program.classes parent.class)
    born_more =
        ap (λ n. count_born program (take n all.parents)) one
        ∙ sum_by_more (λ (p : Parent). values_in (slice_get program.classes p.class)) all.parents i parent le
        ∙ ap (λ (p : Parent). count_born program (take i all.parents) + values_in (slice_get program.classes p.class)) (sym is)

    pub far_is : (agents values id : ℕ) → agents ≡ min (min (all.living + i) 18446744073709551615 + 1) 18446744073709551615
        → values ≡ min (min (all.values + count_born program (take i all.parents)) 18446744073709551615 + values_in (slice_get program.classes parent.class)) 18446744073709551615
        → id ≡ min (next + i) 18446744073709551615
        → (leb (suc most_agents) agents || (leb (suc most_values) values || leb (suc greatest_id) id)) ≡ parent_too_far program next all i
    far_is agents values id a b c =
        let many = length-take (suc i) all.parents in
        let living : ℕ = all.living + length (take (suc i) all.parents) in
        let sum : ℕ = all.values + count_born program (take (suc i) all.parents) in
        let first : leb (suc most_agents) agents ≡ leb (suc most_agents) living =
        ap (leb (suc most_agents)) (omega (arith, a, many, le)) ∙ lt-cut most_agents living 18446744073709551615 (omega arith) in
        let second : leb (suc most_values) values ≡ leb (suc most_values) sum =
        ap (leb (suc most_values)) (omega (arith, b, born_more)) ∙ lt-cut most_values sum 18446744073709551615 (omega arith) in
        let third : leb (suc greatest_id) id ≡ leb (suc greatest_id) (next + i) =
        ap (leb (suc greatest_id)) c ∙ lt-cut greatest_id (next + i) 18446744073709551615 (omega arith) in
        ap (λ (b : Bool). b || (leb (suc most_values) values || leb (suc greatest_id) id)) first
        ∙ ap (λ (b : Bool). leb (suc most_agents) living || (b || leb (suc greatest_id) id)) second
        ∙ ap (λ (b : Bool). leb (suc most_agents) living || (leb (suc most_values) sum || b)) third

  -- the same of a list that is theirs, whatever stands where none is
  module _ (items : List Parent) (same : items ≡ all.parents) (i : ℕ) (d : Parent) where
    pub far_there : i < length items → ((r : ℕ) → r < i → parent_too_far program next all r ≡ false) → parent_too_far program next all i ≡ true
        → Some (get_or items i d) ≡ option_and_then (slice_get all.parents) (rank_too_far program next all)
    far_there le before here =
        subst (λ xs. i < length xs → Some (get_or xs i d) ≡ option_and_then (slice_get all.parents) (rank_too_far program next all)) (sym same)
        (λ low. far_at i (get_or all.parents i d) low (there i d low) before here) le

    pub far_so : (agents values more id : ℕ) → i < length items → agents ≡ min (min (all.living + i) 18446744073709551615 + 1) 18446744073709551615
        → values ≡ min (min (all.values + count_born program (take i all.parents)) 18446744073709551615 + more) 18446744073709551615
        → more ≡ values_in (slice_get program.classes (get_or items i d).class)
        → id ≡ min (next + i) 18446744073709551615
        → (leb (suc most_agents) agents || (leb (suc most_values) values || leb (suc greatest_id) id)) ≡ parent_too_far program next all i
    far_so agents values more id le a b m c =
        let low : i < length all.parents = subst (λ xs. i < length xs) same le in
        far_is i (get_or all.parents i d) low (there i d low) agents values id a
        (b ∙ ap (λ n. min (min (all.values + count_born program (take i all.parents)) 18446744073709551615 + n) 18446744073709551615) (m ∙ ap (λ xs. values_in (slice_get program.classes (get_or xs i d).class)) same)) c

-- ---- children with ids by rank

module _ (number : Agent → Option Agent) where
  -- behind one more child, which gets a number or none
  pub one_numbered : (all born rest : List Agent) (child : Agent) (whole : List Agent) → born ≡ rest ++ child ∷ [] → all ++ filter_map number (reverse born) ≡ whole
      → (o : Option Agent) → number child ≡ o → (after : List Agent) → after ≡ all ++ option_to_list o → after ++ filter_map number (reverse rest) ≡ whole
  one_numbered all born rest child whole is had o so after more =
      ap (λ xs. xs ++ filter_map number (reverse rest)) more
      ∙ append_assoc all (option_to_list o) (filter_map number (reverse rest))
      ∙ ap (λ xs. all ++ xs) (sym (ap (λ v. cons_option v (filter_map number (reverse rest))) so ∙ consed o))
      ∙ ap (λ xs. all ++ filter_map number xs) (sym (ap reverse is ∙ reverse-append rest (child ∷ [])))
      ∙ had
    where
      consed : (o : Option Agent) → cons_option o (filter_map number (reverse rest)) ≡ option_to_list o ++ filter_map number (reverse rest)
      consed None = refl
      consed (Some x) = refl

-- the rank of the one that has an id, where ids rise
pub rank_is : (next : ℕ) (ids : List ℕ) (id r : ℕ) → r < length ids → get_or ids r 0 ≡ id → ((k : ℕ) → k < r → get_or ids k 0 ≡ id → ⊥) → position_from (λ n. n == id) next ids ≡ Some (next + r)
rank_is next [] id r low here before = absurd (omega (arith, low))
rank_is next (n ∷ ids) id zero low here before =
    let same : next ≡ next + 0 = omega arith in
    ap (λ v. cond v (Some next) (position_from (λ m. m == id) (next + 1) ids)) (eq-eqb n id here) ∙ ap Some same
rank_is next (n ∷ ids) id (suc r) low here before =
    let on : next + 1 + r ≡ next + suc r = omega arith in
    ap (λ v. cond v (Some next) (position_from (λ m. m == id) (next + 1) ids)) (ne_eqb n id (before zero (omega arith)))
    ∙ rank_is (next + 1) ids id r (omega (arith, low)) here (λ k less. before (suc k) (omega (arith, less))) ∙ ap Some on

pub no_rank : (next : ℕ) (ids : List ℕ) (id : ℕ) → ((k : ℕ) → k < length ids → get_or ids k 0 ≡ id → ⊥) → position_from (λ n. n == id) next ids ≡ None
no_rank next [] id none = refl
no_rank next (n ∷ ids) id none =
    ap (λ v. cond v (Some next) (position_from (λ m. m == id) (next + 1) ids)) (ne_eqb n id (none zero (omega arith)))
    ∙ no_rank (next + 1) ids id (λ k less. none (suc k) (omega (arith, less)))

module _ (parents : List Parent) (rise : IsStrictlyIncreasing (map (λ (p : Parent). p.id) parents)) where
  abbrev named : List ℕ
  named = map (λ (p : Parent). p.id) parents

  long : length named ≡ length parents
  long = length-map parents (λ (p : Parent). p.id)

  at_place : (k : ℕ) (d : Parent) → k < length parents → get_or named k 0 ≡ (get_or parents k d).id
  at_place k d low = get_or-map (λ (p : Parent). p.id) parents k d 0 low

  below : (i j : ℕ) → i < j → j < length parents → get_or named i 0 < get_or named j 0
  below i j less low = AllPairs-from_increasing named rise i j 0 less (omega (arith, low, long))

  -- the rank that a search finds
  pub found_rank : (next place target : ℕ) (d : Parent) → place < length parents → IsBinarySearchResult (λ (p : Parent). nat_cmp p.id target) parents (Ok place)
      → position_from (λ n. n == target) next named ≡ Some (next + place)
  found_rank next place target d low found =
      let here : get_or named place 0 ≡ target = at_place place d low ∙ exact_unsigned _ _ (found d) in
      rank_is next named target place (omega (arith, low, long)) here (λ k less same. let up = below k place less low in omega (arith, up, same, here))

  no_falls : (i j : ℕ) (d : Parent) → (i ≡ j) ⊎ (i < j) → j < length parents → (get_or parents i d).id ≤ (get_or parents j d).id
  no_falls i j d (inl same) within = let one = ap (λ (k : ℕ). (get_or parents k d).id) same in omega (arith, one)
  no_falls i j d (inr less) within =
      let up = below i j less within in
      let first = at_place i d (omega (arith, less, within)) in
      let second = at_place j d within in
      omega (arith, up, first, second)

  -- where a search finds none there is none
  pub found_none_there : (next place target : ℕ) (d : Parent) → IsBinarySearchResult (λ (p : Parent). nat_cmp p.id target) parents (Err place) → position_from (λ n. n == target) next named ≡ None
  found_none_there next place target d found = no_rank next named target (λ k low same. nowhere k (omega (arith, low, long)) (sym (at_place k d (omega (arith, low, long))) ∙ same))
    where
      rises_still : (a b x : ℕ) → a ≤ b → ordering_index (nat_cmp a x) ≤ ordering_index (nat_cmp b x)
      rises_still a b x le = grind (arith, le, tests)

      nowhere : (k : ℕ) → k < length parents → (get_or parents k d).id ≡ target → ⊥
      nowhere k high is =
          let parted = found (λ i j e le lt. rises_still (get_or parents i e).id (get_or parents j e).id target (no_falls i j e (eq-or-lt_of_le le) lt)) in
          let here : nat_cmp (get_or parents k d).id target ≡ Equal = sym (nat_cmp_is (get_or parents k d).id target Equal is) in
          ⊎_elim
          (λ (less : k < place). let under : nat_cmp (get_or parents k d).id target ≡ Less = parted.0 k d (omega arith) less in absurd (let no : Less ≡ Equal = sym under ∙ here in cc))
          (λ (more : place ≤ k). let above : nat_cmp (get_or parents k d).id target ≡ Greater = parted.1 k d more high in absurd (let no : Greater ≡ Equal = sym above ∙ here in cc))
          (cases_lt k place)

-- ---- censuses that pieces bring

abbrev all_brought : List Piece → List Census
all_brought pieces = flat_map counts_brought pieces

abbrev pub parents_in : List Piece → List Parent
parents_in pieces = flat_map (λ (c : Census). c.parents) (all_brought pieces)

module _ (pieces rest : List Piece) (x : Piece) (c : Census) (is : pieces ≡ rest ++ x ∷ []) (brings : counts_brought x ≡ c ∷ []) where
  brought_is : all_brought pieces ≡ all_brought rest ++ c ∷ []
  brought_is =
      ap all_brought is ∙ flat_map-append counts_brought rest (x ∷ [])
      ∙ ap (λ cs. all_brought rest ++ (cs ++ [])) brings

  pub sum_more : (f : Census → ℕ) → sum_by f (all_brought pieces) ≡ f c + sum_by f (all_brought rest)
  sum_more f =
      let both = sum_by-append f (all_brought rest) (c ∷ []) in
      let one = sum_by-cons f c [] in
      ap (sum_by f) brought_is ∙ omega (arith, both, one)

  pub parents_more : (start got : List Parent) → IsPermutation start (got ++ parents_in pieces) → IsPermutation start ((got ++ c.parents) ++ parents_in rest)
  parents_more start got so =
      let more : List Parent = c.parents in
      let all : parents_in pieces ≡ parents_in rest ++ more =
      ap (flat_map (λ (c : Census). c.parents)) brought_is ∙ flat_map-append (λ (c : Census). c.parents) (all_brought rest) (c ∷ [])
      ∙ ap (λ (l : List Parent). parents_in rest ++ l) (append-nil more) in
      let swapped : IsPermutation (got ++ (parents_in rest ++ more)) (got ++ (more ++ parents_in rest)) =
      IsPermutation-append got got (parents_in rest ++ more) (more ++ parents_in rest) (IsPermutation-refl got) (IsPermutation-append_comm (parents_in rest) more) in
      subst (IsPermutation start) (sym (append_assoc got more (parents_in rest)))
      (IsPermutation-trans start (got ++ (parents_in rest ++ more)) (got ++ (more ++ parents_in rest))
      (subst (λ (l : List Parent). IsPermutation start (got ++ l)) all so) swapped)

-- all are joined
pub sum_is_all : (censuses : List Census) (left : List Piece) (all : Census) (got : List Parent) → left ≡ []
    → sum_by (λ (c : Census). c.living) censuses ≡ all.living + sum_by (λ (c : Census). c.living) (all_brought left)
    → sum_by (λ (c : Census). c.values) censuses ≡ all.values + sum_by (λ (c : Census). c.values) (all_brought left)
    → IsPermutation (flat_map (λ (c : Census). c.parents) censuses) (got ++ parents_in left) → IsPermutation got all.parents → IsNonDecreasingBy (λ (p : Parent). p.id) all.parents
    → IsSumOf censuses all
sum_is_all censuses left all got none living values parents sorted up =
    let first = ap (λ ps. all.living + sum_by (λ (c : Census). c.living) (all_brought ps)) none in
    let second = ap (λ ps. all.values + sum_by (λ (c : Census). c.values) (all_brought ps)) none in
    record {
      living = omega (arith, living, first);
      values = omega (arith, values, second);
      same = IsPermutation-trans _ got _ (subst (IsPermutation (flat_map (λ (c : Census). c.parents) censuses)) (ap (λ ps. got ++ parents_in ps) none ∙ append-nil got) parents) sorted;
      in_order = up;
    }
