-- A part's own agents and its guests in the order of cells, and agents that stand in some order.
use Rattle.std.proofs.Common.{◌≡◌, ◌∙◌, refl, sym, ap, subst, ℕ, ◌+◌, List, [], ◌∷◌, ◌++◌, filter, filter_map, flat_map, length, length-append, get_or, Bool, true, Option, Some, None, arith}
use Rattle.std.specs.Prelude.{nat_lt, option_to_list}
use Rattle.std.specs.List.{cons_option, list_all, range_with_len}
use Rattle.std.specs.List.Sorted.{IsPermutation}
use Rattle.std.proofs.lemmas.Bool.{lt-ltb, le-ltb}
use Rattle.std.proofs.lemmas.List.Sorted.{IsPermutation-append, IsPermutation-map, IsPermutation-refl}
use Rattle.brace_model.specs.declared.program.Program.{Program}
use Rattle.brace_model.specs.declared.world.Agent.{Agent}
use Rattle.brace_model.specs.Lawful.{is_lawful_agent}
use Rattle.brace_model.specs.World.{RisesById}
use Rattle.brace_fold.specs.Asked.{by_row, no_agent}
use Rattle.brace_fold.specs.declared.order.Moved.{Moved}
use Rattle.brace_fold.specs.Listed.{AreListed, AreStored, agents_in}
use Rattle.brace_fold.specs.Rows.{AreMoved, by_id}
use Rattle.brace_fold.proofs.MoveLemmas.{rows-front}
use Rattle.brace_fold.proofs.RowLemmas.{by_id_is, lawful_moved}
use Rattle.brace_num.proofs.Orders.{filter_rises}
use Rattle.brace_cuts.specs.declared.space.Cuts.{Cuts}
use Rattle.brace_pieces.specs.declared.setting.Setting.{Setting}
use Rattle.brace_pieces.specs.Settings.{LawfulSetting}
use Rattle.brace_pieces.specs.Owned.{owns}
use Rattle.brace_pieces.specs.Continued.{on}
use Rattle.brace_pieces.proofs.OnLemmas.{on_rises}
use Rattle.brace_herd.specs.Works.{own_under}
use Rattle.brace_pieces.proofs.SumLemmas.{row_front}
use Rattle.brace_herd.proofs.AskedLemmas.{filter_moved, flat_map_moved}

-- ---- the first rows of an order

abbrev below : ℕ → ℕ → Bool
below n row = nat_lt row n

first_rows : (a n m : ℕ) → filter (below (a + n)) (range_with_len a (n + m)) ≡ range_with_len a n
first_rows a n m = row_front (below (a + n)) a n m (λ r low high. lt-ltb r (a + n) high)
    (λ r low high. le-ltb r (a + n) low)

-- the agents of the first rows are the first ones, in some order
pub first_moved : (own guests : List Agent) (order : List ℕ)
    → IsPermutation (range_with_len 0 (length (own ++ guests))) order
    → IsPermutation own (by_row (own ++ guests) (filter (λ row. nat_lt row (length own)) order))
first_moved own guests order moved =
    let n = length own in
    let reads : ℕ → Agent = λ row. get_or (own ++ guests) row no_agent in
    let zero_more : 0 + n ≡ n = omega arith in
    let all : filter (below n) (range_with_len 0 (length (own ++ guests))) ≡ range_with_len 0 n =
    ap (λ k. filter (below n) (range_with_len 0 k)) (length-append own guests)
    ∙ ap (λ k. filter (below k) (range_with_len 0 (n + length guests))) (sym zero_more)
    ∙ first_rows 0 n (length guests) in
    let perm = subst (λ l. IsPermutation l (filter (below n) order)) all
    (filter_moved (below n) (range_with_len 0 (length (own ++ guests))) order moved) in
    subst (λ l. IsPermutation l (by_row (own ++ guests) (filter (below n) order)))
    (rows-front own guests)
    (IsPermutation-map reads (range_with_len 0 n) (filter (below n) order) perm)

-- ---- agents that are stored

pub listed_stored : (program : Program) (agents : List Agent) (rows : Moved) → RisesById agents
    → AreListed program agents rows → AreStored program agents rows
listed_stored program agents rows rises listed = record {
  rises = rises;
  those = agents;
  same = IsPermutation-refl agents;
  listed = listed;
}

-- those of a part in a world
pub own_rises : (s : Setting) → LawfulSetting s → (p : ℕ) (cuts : Cuts) (t : ℕ)
    → RisesById (own_under s p cuts t)
own_rises s lawful p cuts t =
    filter_rises (λ (a : Agent). a.id) (owns s.job.program cuts p) (on s t).agents
    (on_rises s lawful t)

-- by rising id they are the agents of the columns
pub stored_are : (program : Program) (agents : List Agent) (rows : Moved)
    → AreStored program agents rows → by_id (agents_in program rows) ≡ agents
stored_are program agents rows stored =
    ap by_id stored.listed.are ∙ by_id_is agents stored.those stored.rises stored.same

-- agents that stand in columns, which can be read where they are lawful
pub stored_so : (program : Program) (agents those : List Agent) (rows : Moved) → RisesById agents
    → IsPermutation agents those → AreMoved those rows
    → ((xs : List Agent) → AreMoved xs rows → list_all (is_lawful_agent program) xs ≡ true
    → AreListed program xs rows)
    → list_all (is_lawful_agent program) agents ≡ true → AreStored program agents rows
stored_so program agents those rows rises moved are reads lawful = record {
  rises = rises;
  those = those;
  same = moved;
  listed = reads those are (lawful_moved program agents those moved lawful);
}

-- others behind them
pub both_moved : (xs ys more : List Agent) → IsPermutation xs ys
    → IsPermutation (xs ++ more) (ys ++ more)
both_moved xs ys more moved = IsPermutation-append xs ys more more moved (IsPermutation-refl more)

-- ---- what is made of each

more_is : {B : Type 0} (o : Option B) (xs : List B) → option_to_list o ++ xs ≡ cons_option o xs
more_is None xs = refl
more_is (Some x) xs = refl

module _ {A B : Type 0} (f : A → Option B) where
  abbrev one_made : A → List B
  one_made x = option_to_list (f x)

  made_is : (xs : List A) → flat_map one_made xs ≡ filter_map f xs
  made_is [] = refl
  made_is (x ∷ xs) = ap (λ l. one_made x ++ l) (made_is xs) ∙ more_is (f x) (filter_map f xs)

  pub filter_map_moved : (xs ys : List A) → IsPermutation xs ys
      → IsPermutation (filter_map f xs) (filter_map f ys)
  filter_map_moved xs ys moved =
      subst (IsPermutation (filter_map f xs)) (made_is ys)
      (subst (λ l. IsPermutation l (flat_map one_made ys)) (made_is xs)
      (flat_map_moved one_made xs ys moved))
