-- The agents of boxes, agent by agent, and what those of a box come to.
use Rattle.std.proofs.Common.{◌≡◌, ◌≢◌, ◌∙◌, refl, sym, ap, ap₂, ℕ, zero, suc, ◌+◌, ◌<◌, ℤ, List, [], ◌∷◌, ◌++◌, length, map, take, filter, get_or, set, replicate, Bool, true, false, cond, Some, None, ⊎_elim, arith, append-nil}
use Rattle.std.specs.Prelude.{◌==◌}
use Rattle.std.specs.List.{range_with_len}
use Rattle.std.proofs.lemmas.Bool.{cases_eq, ne_eqb, eq-eqb}
use Rattle.std.proofs.lemmas.List.{map-append, get_or-map, get_or-take, length-append, length-map, length-set, get_or-set_same, get_or-set_other, length-replicate, get_or-replicate}
use Rattle.std.proofs.lemmas.List.Elements.{filter-append}
use Rattle.std.proofs.lemmas.List.FromFn.{fill_by_all, length-map-range_with_len, get_or-map-range_with_len}
use Rattle.std.proofs.lemmas.List.Sums.{fold-append}
use Rattle.brace_num.proofs.Lists.{filter_twice, map_alike, take_next}
use Rattle.brace_model.specs.declared.program.Class.{Class}
use Rattle.brace_model.specs.declared.program.Comb.{Comb}
use Rattle.brace_model.specs.declared.program.Comb.TheVariants.{Sum, Min, Max, Count, Or}
use Rattle.brace_model.specs.declared.program.Program.{Program}
use Rattle.brace_model.specs.declared.program.Value.{Value}
use Rattle.brace_model.specs.declared.program.Value.TheVariants.{Int}
use Rattle.brace_model.specs.declared.world.Agent.{Agent}
use Rattle.brace_model.specs.World.{class_of, number, x_of, y_of}
use Rattle.brace_model.specs.Total.{joined, total_of}
use Rattle.brace_cuts.specs.declared.space.Cuts.{Cuts}
use Rattle.brace_cuts.specs.Space.{owner_of, parts_of}
use Rattle.brace_comb.specs.Totals.{Tally, tally_of}
use Rattle.brace_pieces.specs.Owned.{owns_at, owns, owned}
use Rattle.brace_watch.specs.declared.kinds.Watch.{Watch}
use Rattle.brace_watch.specs.declared.rows.Column.{Column}
use Rattle.brace_watch.specs.Figures.{meets, value_for, figure}
use Rattle.brace_watch.specs.inner.Columns.{all_owned, of_class, number_for, values_met, tested}

module _ (program : Program) (cuts : Cuts) where
  abbrev own : ℕ → List Agent → List Agent
  own p xs = owned program cuts p xs

  abbrev parts : ℕ
  parts = parts_of cuts

  -- a box, with one more agent that it owns or not
  own_more : (p : ℕ) (xs : List Agent) (a : Agent) (b : Bool) → owns program cuts p a ≡ b
      → own p (xs ++ a ∷ []) ≡ own p xs ++ cond b (a ∷ []) []
  own_more p xs a b is = filter-append (owns program cuts p) xs (a ∷ [])
      ∙ ap (λ c. own p xs ++ cond c (a ∷ []) []) is

  other_box : (p : ℕ) (xs : List Agent) (a : Agent) → owns program cuts p a ≡ false
      → own p (xs ++ a ∷ []) ≡ own p xs
  other_box p xs a out = own_more p xs a false out ∙ append-nil (own p xs)

  -- all boxes, of no agents
  pub none_owned : (many : ℕ) → many ≡ parts → replicate many [] ≡ all_owned program cuts []
  none_owned many is =
      ap (λ n. replicate n []) is
      ∙ fill_by_all (λ p. own p []) (replicate parts []) parts [] (length-replicate parts [])
      (λ k low. get_or-replicate parts k [] [] low)

  -- there are as many as parts
  pub boxes_long : (xs : List Agent) → length (all_owned program cuts xs) ≡ parts
  boxes_long xs = length-map-range_with_len (λ p. own p xs) 0 parts

  box_is : (xs : List Agent) (k : ℕ) (d : List Agent) → k < parts
      → get_or (all_owned program cuts xs) k d ≡ own k xs
  box_is xs k d low = get_or-map-range_with_len (λ q. own q xs) 0 parts k k d low (omega arith)

  -- one more agent without a class
  pub unowned : (xs : List Agent) (a : Agent) → class_of program a ≡ None
      → all_owned program cuts xs ≡ all_owned program cuts (xs ++ a ∷ [])
  unowned xs a of =
      map_alike (λ p. own p xs) (λ p. own p (xs ++ a ∷ [])) (range_with_len 0 parts)
      (λ p has. sym (other_box p xs a (ap (λ o. owns_at cuts p o a) of)))

  -- one more agent of a class
  pub one_owned : (xs : List Agent) (a : Agent) (class : Class) (p : ℕ) (rows d : List Agent)
      → class_of program a ≡ Some class → owner_of cuts (x_of class a) (y_of class a) ≡ p
      → p < parts
      → rows ≡ get_or (all_owned program cuts xs) p d ++ a ∷ []
      → set (all_owned program cuts xs) p rows ≡ all_owned program cuts (xs ++ a ∷ [])
  one_owned xs a class p rows d of owner part is = fill_by_all now (set before p rows) parts d
      (length-set before p rows ∙ boxes_long xs) there
    where
      before : List (List Agent)
      before = all_owned program cuts xs

      now : ℕ → List Agent
      now q = own q (xs ++ a ∷ [])

      mine : owns program cuts p a ≡ true
      mine = ap (λ o. owns_at cuts p o a) of ∙ eq-eqb _ p owner

      other : (q : ℕ) → q ≢ p → owns program cuts q a ≡ false
      other q apart = ap (λ o. owns_at cuts q o a) of ∙ ne_eqb _ q (λ e. apart (sym e ∙ owner))

      there : (k : ℕ) → k < parts → get_or (set before p rows) k d ≡ now k
      there k low = ⊎_elim
          (λ same. ap (λ q. get_or (set before p rows) q d) same
          ∙ get_or-set_same before p rows d (omega (arith, part, boxes_long xs))
          ∙ is ∙ ap (λ l. l ++ a ∷ []) (box_is xs p d part) ∙ sym (own_more p xs a true mine)
          ∙ ap now (sym same))
          (λ apart. get_or-set_other before p k rows d apart ∙ box_is xs k d low
          ∙ sym (other_box k xs a (other k apart)))
          (cases_eq k p)

-- a place of a list has an element
place_of : {X : Type 0} (xs : List X) (i : ℕ) → i < length xs → (x : X) × (x ≡ get_or xs i x)
place_of [] i low = absurd (omega (arith, low))
place_of (x ∷ xs) zero low = (x, refl)
place_of (x ∷ xs) (suc i) low = place_of xs i (omega (arith, low))

-- a number joined is as good as a value
joined_number : (kind : Comb) (t : ℤ) (v w : Value) → number v ≡ number w
    → joined kind t v ≡ joined kind t w
joined_number Sum t v w same = ap (λ n. joined Sum t (Int n)) same
joined_number Min t v w same = ap (λ n. joined Min t (Int n)) same
joined_number Max t v w same = ap (λ n. joined Max t (Int n)) same
joined_number Count t v w same = refl
joined_number Or t v w same = ap (λ n. joined Or t (Int n)) same

abbrev pub tally_with : Comb → ℤ → ℕ → Tally
tally_with kind n k = record { comb = kind; number = n; count = k }

-- one more value
tally_more : (kind : Comb) (values : List Value) (v w : Value) (n : ℤ) (k : ℕ) → number v ≡ number w
    → tally_with kind n k ≡ tally_of kind values
    → tally_with kind (joined kind n v) (k + 1) ≡ tally_of kind (values ++ w ∷ [])
tally_more kind values v w n k same so_far =
    ap (λ (t : Tally). tally_with kind (joined kind t.number v) (t.count + 1)) so_far
    ∙ ap₂ (tally_with kind)
    (joined_number kind (total_of kind values) v w same
    ∙ sym (fold-append (joined kind) _ values (w ∷ [])))
    (sym (length-append values (w ∷ [])))

module _ (watch : Watch) (agents : List Agent) where
  -- one more agent, that meets the condition or not
  met_more : (i : ℕ) (a : Agent) (b : Bool) → i < length agents → a ≡ get_or agents i a
      → meets watch.test a ≡ b
      → values_met watch (take (i + 1) agents)
      ≡ values_met watch (take i agents) ++ cond b (value_for watch.field a ∷ []) []
  met_more i a b low is met =
      ap (values_met watch) (take_next agents i a low is)
      ∙ ap (map (value_for watch.field))
      (filter-append (meets watch.test) (take i agents) (a ∷ [])
      ∙ ap (λ c. filter (meets watch.test) (take i agents) ++ cond c (a ∷ []) []) met)
      ∙ map-append (value_for watch.field) (filter (meets watch.test) (take i agents))
      (cond b (a ∷ []) [])
      ∙ ap (λ l. values_met watch (take i agents) ++ l) (mapped b)
    where
      mapped : (c : Bool)
          → map (value_for watch.field) (cond c (a ∷ []) [])
          ≡ cond c (value_for watch.field a ∷ []) []
      mapped true = refl
      mapped false = refl

  -- the number at a place of a column
  number_at : (f : Agent → ℤ) (column : List ℤ) (i : ℕ) (d n : ℤ) (a : Agent)
      → n ≡ get_or column i d → column ≡ map f agents → i < length agents → a ≡ get_or agents i a
      → n ≡ f a
  number_at f column i d n a read are low is = read ∙ ap (λ l. get_or l i d) are
      ∙ get_or-map f agents i a d low ∙ ap f (sym is)

  -- one more agent, whose numbers are read
  pub counted_more : (tests numbers : List ℤ) (i : ℕ) (d t f n m : ℤ) (k j : ℕ) (b : Bool)
      → t ≡ get_or tests i d → f ≡ get_or numbers i d
      → tests ≡ map (number_for (tested watch.test)) agents
      → numbers ≡ map (number_for watch.field) agents → i < length numbers
      → ((a : Agent) → t ≡ number_for (tested watch.test) a → b ≡ meets watch.test a)
      → m ≡ cond b (joined watch.kind n (Int f)) n → j ≡ cond b (k + 1) k
      → tally_with watch.kind n k ≡ tally_of watch.kind (values_met watch (take i agents))
      → tally_with watch.kind m j ≡ tally_of watch.kind (values_met watch (take (i + 1) agents))
  counted_more tests numbers i d t f n m k j b tested_n joined_n tests_are numbers_are low judged
      number_is count_is so_far =
      let within : i < length agents =
      omega (arith, low, ap length numbers_are, length-map agents (number_for watch.field)) in
      let (a, is) = place_of agents i within in
      let value =
      number_at (number_for watch.field) numbers i d f a joined_n numbers_are within is in
      let test =
      number_at (number_for (tested watch.test)) tests i d t a tested_n tests_are within is in
      ap₂ (tally_with watch.kind) number_is count_is
      ∙ by_test b (value_for watch.field a) value
      ∙ ap (tally_of watch.kind) (sym (met_more i a b within is (sym (judged a test))))
    where
      before : List Value
      before = values_met watch (take i agents)

      by_test : (c : Bool) (v : Value) → f ≡ number v
          → tally_with watch.kind (cond c (joined watch.kind n (Int f)) n) (cond c (k + 1) k)
          ≡ tally_of watch.kind (before ++ cond c (v ∷ []) [])
      by_test true v value = tally_more watch.kind before (Int f) v n k value so_far
      by_test false v value = so_far ∙ ap (tally_of watch.kind) (sym (append-nil before))

-- what is read at a place, whatever stood where there is nothing
pub read_alike : {X : Type 0} (xs : List X) (i : ℕ) (d e : X) → i < length xs
    → get_or xs i d ≡ get_or xs i e
read_alike [] i d e low = absurd (omega (arith, low))
read_alike (x ∷ xs) zero d e low = refl
read_alike (x ∷ xs) (suc i) d e low = read_alike xs i d e (omega (arith, low))

-- a column that was kept
pub column_kept : (before after : List Column) (i : ℕ) (d : Column) → i < length before
    → take (length before) after ≡ before → get_or after i d ≡ get_or before i d
column_kept before after i d low kept = sym (get_or-take (length before) after i d low)
    ∙ ap (λ l. get_or l i d) kept

-- the figure of agents is that of those of its class
pub figure_is : (watch : Watch) (agents : List Agent)
    → tally_of watch.kind (values_met watch (of_class watch.class agents)) ≡ figure watch agents
figure_is watch agents = ap (λ l. tally_of watch.kind (map (value_for watch.field) l))
    (filter_twice (meets watch.test) (λ a. a.class == watch.class) agents)
