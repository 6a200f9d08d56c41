-- Where agents in columns stand.
use Rattle.std.proofs.Common.{◌≡◌, ◌∙◌, sym, ap, ap₂, subst, ℕ, ◌+◌, ◌-◌, ◌<◌, ◌≤◌, ℤ, true, List, [], ◌∷◌, ◌++◌, length, get_or, slice_get, Option, Some, arith, ⊎_elim}
use Rattle.std.specs.Prelude.{is_some, option_map, unwrap_or}
use Rattle.std.proofs.lemmas.Bool.{cases_lt}
use Rattle.std.proofs.lemmas.List.{get_or_append_left, get_or-append_right}
use Rattle.std.proofs.lemmas.Option.{same_Some, slice_get-map}
use Rattle.brace_model.specs.declared.program.Class.{Class}
use Rattle.brace_model.specs.declared.program.Program.{Program}
use Rattle.brace_model.specs.declared.world.Agent.{Agent}
use Rattle.brace_model.specs.World.{class_of, number, value_at, x_of, y_of}
use Rattle.brace_fold.specs.declared.cells.Spot.{Spot}
use Rattle.brace_fold.specs.declared.columns.Columns.{Columns}
use Rattle.brace_fold.specs.Rows.{AreColumns, words_of}
use Rattle.brace_fold.specs.inner.Sights.{cell_number, spot_of}
use Rattle.brace_grid.specs.Grids.{Point, origin, place_of}

-- ---- what columns say of the agent of a row

module _ (agents : List Agent) (columns : Columns) (are : AreColumns agents columns) (row : ℕ)
    (a : Agent) (there : slice_get agents row ≡ Some a) where
  -- its word
  pub word-is : (state : ℕ) (column : List ℤ) (word : ℤ)
      → slice_get (words_of columns) state ≡ Some column → slice_get column row ≡ Some word
      → word ≡ number (value_at a.states state)
  word-is state column word has read =
      same_Some _ _ (sym read ∙ ap (λ l. slice_get l row) (are.states state column has)
      ∙ slice_get-map (λ (b : Agent). number (value_at b.states state)) agents row
      ∙ ap (option_map (λ (b : Agent). number (value_at b.states state))) there)

  -- its class
  pub class-is : (n : ℕ) → slice_get columns.classes.now row ≡ Some n → n ≡ a.class
  class-is n read =
      same_Some _ _ (sym read ∙ ap (λ l. slice_get l row) are.classes
      ∙ slice_get-map (λ (b : Agent). b.class) agents row
      ∙ ap (option_map (λ (b : Agent). b.class)) there)

  module _ (program : Program) (n : ℕ) (own : Class)
      (read : slice_get columns.classes.now row ≡ Some n)
      (has : slice_get program.classes n ≡ Some own) where
    -- its class of the program
    pub of-class : class_of program a ≡ Some own
    of-class = ap (slice_get program.classes) (sym (class-is n read)) ∙ has

    pub is-known : is_some (class_of program a) ≡ true
    is-known = ap is_some of-class

    -- its spot
    pub spot-is : (side x y cell : ℤ) → x ≡ x_of own a → y ≡ y_of own a
        → cell ≡ cell_number side x y
        → ◌≡◌ {A = Spot} (record { x = x; y = y; cell = cell; class = n; place = row })
        (spot_of program side row a)
    spot-is side x y cell xs ys cells =
        let at : place_of program a ≡ record { x = x_of own a; y = y_of own a } = point of-class in
        let px : x ≡ (place_of program a).x = xs ∙ ap (λ (p : Point). p.x) (sym at) in
        let py : y ≡ (place_of program a).y = ys ∙ ap (λ (p : Point). p.y) (sym at) in
        let same : cell ≡ cell_number side (place_of program a).x (place_of program a).y =
        cells ∙ ap₂ (cell_number side) px py in
        let mine = class-is n read in
        made px py same mine
      where
        point : class_of program a ≡ Some own
            → place_of program a ≡ record { x = x_of own a; y = y_of own a }
        point e = ap (λ (o : Option Class). unwrap_or (option_map at_own o) origin) e
          where
            at_own : Class → Point
            at_own c = record { x = x_of c a; y = y_of c a }

        spot : ℤ → ℤ → ℤ → ℕ → Spot
        spot x y cell class = record { x = x; y = y; cell = cell; class = class; place = row }

        made : {x y u v c d : ℤ} {m k : ℕ} → x ≡ u → y ≡ v → c ≡ d → m ≡ k
            → spot x y c m ≡ spot u v d k
        made {x} {y} {u} {v} {c} {d} {m} {k} p q r s =
            ap₂ (λ x y. spot x y c m) p q ∙ ap₂ (spot u v) r s

-- ---- one spot more

module _ (program : Program) (side : ℤ) (agents : List Agent) (spots : List Spot) (i : ℕ) (x : Spot)
    (long : length spots ≡ i) where
  -- each of the first agents has a class
  pub more-known : ((k : ℕ) (a : Agent) → k < i
      → is_some (class_of program (get_or agents k a)) ≡ true)
      → ((a : Agent) → is_some (class_of program (get_or agents i a)) ≡ true)
      → (k : ℕ) (a : Agent) → k < i + 1 → is_some (class_of program (get_or agents k a)) ≡ true
  more-known before here k a low = ⊎_elim (λ (less : k < i). before k a less)
      (λ (past : i ≤ k).
      let same : k ≡ i = omega (arith, past, low) in
      subst (λ n. is_some (class_of program (get_or agents n a)) ≡ true) (sym same) (here a))
      (cases_lt k i)

  -- and each of the first spots is where its agent stands
  pub more-spots : ((k : ℕ) (s : Spot) (a : Agent) → k < i
      → get_or spots k s ≡ spot_of program side k (get_or agents k a))
      → ((a : Agent) → x ≡ spot_of program side i (get_or agents i a))
      → (k : ℕ) (s : Spot) (a : Agent) → k < i + 1
      → get_or (spots ++ x ∷ []) k s ≡ spot_of program side k (get_or agents k a)
  more-spots before here k s a low = ⊎_elim
      (λ (less : k < i).
      get_or_append_left spots (x ∷ []) s k (omega (arith, less, long)) ∙ before k s a less)
      (λ (past : i ≤ k).
      let same : k ≡ i = omega (arith, past, low) in
      subst (λ n. get_or (spots ++ x ∷ []) n s ≡ spot_of program side n
      (get_or agents n a)) (sym same)
      (last s ∙ here a))
      (cases_lt k i)
    where
      last : (s : Spot) → get_or (spots ++ x ∷ []) i s ≡ x
      last s =
          let none : i - i ≡ 0 = omega arith in
          get_or-append_right spots (x ∷ []) i i s long (omega arith)
          ∙ ap (λ n. get_or (x ∷ []) n s) none
