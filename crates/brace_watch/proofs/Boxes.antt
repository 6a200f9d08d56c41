-- The figures of all boxes, joined, are the figure of all agents.
use Rattle.std.proofs.Common.{◌≡◌, ◌∙◌, ◌⊎◌, inl, inr, refl, sym, ap, ap₂, subst, ℕ, zero, suc, ◌<◌, List, [], ◌∷◌, ◌++◌, length, map, flat_map, filter, fold, Bool, true, false, cond, Option, Some, arith, append-nil, append_assoc}
use Rattle.std.specs.Prelude.{◌==◌, slice_get}
use Rattle.std.specs.List.{list_any, range_with_len}
use Rattle.std.proofs.lemmas.Bool.{eqb-true, eq-eqb, and_parts}
use Rattle.brace_num.proofs.Lists.{filter_all}
use Rattle.brace_model.specs.declared.program.Class.{Class}
use Rattle.brace_model.specs.declared.program.Comb.{Comb}
use Rattle.brace_model.specs.declared.program.Program.{Program}
use Rattle.brace_model.specs.declared.program.Value.{Value}
use Rattle.brace_model.specs.declared.world.Agent.{Agent}
use Rattle.brace_model.specs.World.{class_of, x_of, y_of}
use Rattle.brace_cuts.specs.declared.space.Cuts.{Cuts}
use Rattle.brace_cuts.specs.Space.{owner_of, parts_of}
use Rattle.brace_comb.specs.Totals.{Tally, tally_of, join}
use Rattle.brace_comb.proofs.Joins.{join-append, tally_of-IsPermutation}
use Rattle.brace_pieces.specs.Owned.{owns_at, owns, owned}
use Rattle.brace_pieces.proofs.Merges.{Apart, apart_in_row, any_in_row}
use Rattle.brace_pieces.proofs.Meetings.{owner_below}
use Rattle.brace_pieces.proofs.HeldLemmas.{one_owns}
use Rattle.brace_pieces.proofs.Partings.{parted}
use Rattle.brace_watch.specs.declared.kinds.Watch.{Watch}
use Rattle.brace_watch.specs.Watches.{IsWatch}
use Rattle.brace_watch.specs.Figures.{meets, is_watched, value_for, values_of, figure, box_figures, all_joined}
use Rattle.brace_watch.specs.inner.Columns.{all_owned}
use Rattle.brace_watch.proofs.Asked.{class_is_there}

-- totals of some lists, joined one after the other, are the total of all lists in a row
join_row : (kind : Comb) (values : ℕ → List Value) (before : List Value) (ps : List ℕ)
    → fold join (tally_of kind before) (map (λ p. tally_of kind (values p)) ps) ≡ tally_of kind (before ++ flat_map values ps)
join_row kind values before [] = ap (tally_of kind) (sym (append-nil before))
join_row kind values before (p ∷ ps) =
    ap (λ t. fold join t (map (λ q. tally_of kind (values q)) ps)) (join-append kind before (values p))
    ∙ join_row kind values (before ++ values p) ps
    ∙ ap (tally_of kind) (append_assoc before (values p) (flat_map values ps))

-- there is an element at each place of a list
has_place : {X : Type 0} (xs : List X) (i : ℕ) → i < length xs → (x : X) × (slice_get xs i ≡ Some x)
has_place [] i low = absurd (omega (arith, low))
has_place (x ∷ xs) zero low = (x, refl)
has_place (x ∷ xs) (suc i) low = has_place xs i (omega (arith, low))

module _ (program : Program) (watch : Watch) where
  -- what an agent gives: its value, where it is watched
  abbrev given : Agent → List Value
  given a = cond (is_watched watch a) (value_for watch.field a ∷ []) []

  values_given : (xs : List Agent) → flat_map given xs ≡ values_of watch xs
  values_given [] = refl
  values_given (x ∷ xs) = (elim (is_watched watch x) as (λ b. cond b (value_for watch.field x ∷ []) [] ++ flat_map given xs ≡ map (value_for watch.field) (cond b (x ∷ filter (is_watched watch) xs) (filter (is_watched watch) xs))) [
    | true ↦ ap (λ vs. value_for watch.field x ∷ vs) (values_given xs)
    | false ↦ values_given xs
  ])

  module _ (cuts : Cuts) (is : IsWatch program watch) where
    abbrev parts : List ℕ
    parts = range_with_len 0 (parts_of cuts)

    -- some box owns an agent of a class
    some_box : (a : Agent) (o : Option Class) (class : Class) → o ≡ Some class → list_any (λ q. owns_at cuts q o a) parts ≡ true
    some_box a o class is_class =
        let owner : ℕ = owner_of cuts (x_of class a) (y_of class a) in
        subst (λ (c : Option Class). list_any (λ q. owns_at cuts q c a) parts ≡ true) (sym is_class)
        (ap (list_any (λ q. owns_at cuts q (Some class) a)) (sym (filter_all parts))
        ∙ any_in_row (λ q. true) (λ q. owns_at cuts q (Some class) a) (parts_of cuts) 0 owner (omega arith) (omega (arith, owner_below cuts (x_of class a) (y_of class a))) refl (eq-eqb owner owner refl))

    -- the class of an agent that is watched
    class_found : (a : Agent) → is_watched watch a ≡ true → (class : Class) × (class_of program a ≡ Some class)
    class_found a in_it =
        let same : a.class ≡ watch.class = eqb-true a.class watch.class (and_parts (a.class == watch.class) (meets watch.test a) in_it).0 in
        has_place program.classes a.class (omega (arith, same, class_is_there program watch is))

    -- an agent that gives a value is of a class, and so in a box
    has_box : (a : Agent) → (given a ≡ []) ⊎ (list_any (λ q. owns program cuts q a) parts ≡ true)
    has_box a = by_test (is_watched watch a) refl
      where
        by_test : (b : Bool) → is_watched watch a ≡ b → (given a ≡ []) ⊎ (list_any (λ q. owns program cuts q a) parts ≡ true)
        by_test false out = inl (ap (λ b. cond b (value_for watch.field a ∷ []) []) out)
        by_test true in_it = inr (let (class, there) = class_found a in_it in some_box a (class_of program a) class there)

    pub joined : (xs : List Agent) → all_joined watch.kind (box_figures program cuts watch xs) ≡ figure watch xs
    joined xs =
        join_row watch.kind (λ p. values_of watch (owned program cuts p xs)) [] parts
        ∙ ap (tally_of watch.kind) (sym (each_given parts))
        ∙ sym (tally_of-IsPermutation watch.kind _ _ (parted given (λ q a. owns program cuts q a) (one_owns program cuts) parts apart xs (λ a there. has_box a)))
        ∙ ap (tally_of watch.kind) (values_given xs)
      where
        apart : Apart parts
        apart = subst Apart (filter_all parts) (apart_in_row (λ q. true) (parts_of cuts) 0)

        each_given : (ps : List ℕ) → flat_map (λ q. flat_map given (owned program cuts q xs)) ps ≡ flat_map (λ q. values_of watch (owned program cuts q xs)) ps
        each_given [] = refl
        each_given (p ∷ ps) = ap₂ (λ us vs. us ++ vs) (values_given (owned program cuts p xs)) (each_given ps)

    -- the figures of boxes that were counted, and their join
    pub boxes_figured : (xs : List Agent) (boxes : List (List Agent)) (totals : List Tally)
        → boxes ≡ all_owned program cuts xs → totals ≡ map (figure watch) boxes
        → totals ≡ box_figures program cuts watch xs
    boxes_figured xs boxes totals owned_so counted =
        counted ∙ ap (map (figure watch)) owned_so ∙ mapped parts
      where
        mapped : (ps : List ℕ) → map (figure watch) (map (λ p. owned program cuts p xs) ps)
            ≡ map (λ p. figure watch (owned program cuts p xs)) ps
        mapped [] = refl
        mapped (p ∷ ps) = ap (λ l. figure watch (owned program cuts p xs) ∷ l) (mapped ps)

    pub whole_figured : (xs : List Agent) (boxes : List (List Agent)) (totals : List Tally)
        (whole : Tally) → boxes ≡ all_owned program cuts xs → totals ≡ map (figure watch) boxes
        → all_joined watch.kind totals ≡ whole → whole ≡ figure watch xs
    whole_figured xs boxes totals whole owned_so counted join =
        sym join ∙ ap (all_joined watch.kind) (boxes_figured xs boxes totals owned_so counted)
        ∙ joined xs
