-- What agents of rows leave, those of one class at once.
use Rattle.std.proofs.Common.{◌≡◌, ◌∙◌, refl, sym, ap, subst, ℕ, ◌<◌, ℤ, List, [], ◌∷◌, ◌++◌, append-nil, append_assoc, map, length, get_or, slice_get, Some, arith}
use Rattle.std.specs.List.{All}
use Rattle.std.specs.List.Sorted.{IsPermutation}
use Rattle.std.proofs.lemmas.List.{get_or-map, length-map, map-append}
use Rattle.std.proofs.lemmas.List.Elements.{All-head, All-nil, All-cons, All-tail}
use Rattle.std.proofs.lemmas.Option.{get_or_from_slice_get}
use Rattle.brace_model.specs.declared.program.Class.{Class}
use Rattle.brace_model.specs.declared.program.Program.{Program}
use Rattle.brace_model.specs.declared.world.Agent.{Agent}
use Rattle.brace_model.specs.Query.{Saying}
use Rattle.brace_model.specs.World.{class_of}
use Rattle.brace_eval.specs.Heard.{row_of}
use Rattle.brace_fold.specs.declared.columns.Columns.{Columns}
use Rattle.brace_fold.specs.declared.renewing.Ground.{Ground}
use Rattle.brace_fold.specs.declared.renewal.Renewed.{Renewed}
use Rattle.brace_fold.specs.declared.table.Table.{Table}
use Rattle.brace_fold.specs.Asked.{by_row, no_agent}
use Rattle.brace_fold.specs.Becoming.{AreLeft}
use Rattle.brace_fold.specs.Rows.{AreMoved, rows_in}
use Rattle.brace_fold.specs.inner.Crowds.{AreOfClass}
use Rattle.brace_fold.specs.inner.Renewals.{LeavesRows, LeavesSome, Renews}
use Rattle.brace_fold.proofs.ColumnLemmas.{class-of}
use Rattle.brace_fold.proofs.RenewLemmas.{born-of, left-of, quiet-of, renews-more, renews-none}

-- what holds of all agents holds of those of some rows
pub all-picked : (P : Agent → Type 0) (agents : List Agent) (rows : List ℕ) → All P agents
    → All (λ row. row < length agents) rows → All P (by_row agents rows)
all-picked P agents [] all inside = All-nil P
all-picked P agents (r ∷ rows) all inside =
    All-cons P (get_or agents r no_agent) (by_row agents rows)
    (all r no_agent (All-head (λ row. row < length agents) r rows inside))
    (all-picked P agents rows all (All-tail (λ row. row < length agents) r rows inside))

-- the agents of rows of a class
pub alike-by : (agents : List Agent) (classes rows : List ℕ) (number : ℕ)
    → classes ≡ map (λ (a : Agent). a.class) agents → AreOfClass classes number rows
    → All (λ (a : Agent). a.class ≡ number) (by_row agents rows)
alike-by agents classes rows number same all = λ k d low.
    let at : ℕ → Agent = λ row. get_or agents row no_agent in
    let row = get_or rows k 0 in
    let inside : k < length rows = omega (arith, low, length-map rows at) in
    let (a, got, of) = class-of agents row number number
    (ap (λ (l : List ℕ). slice_get l row) (sym same) ∙ all k 0 inside) refl in
    ap (λ (x : Agent). x.class) (get_or-map at rows k 0 d inside
    ∙ get_or_from_slice_get agents row a no_agent got) ∙ of

pub classes-by : (program : Program) (own : Class) (agents : List Agent) (number : ℕ)
    → slice_get program.classes number ≡ Some own → All (λ (a : Agent). a.class ≡ number) agents
    → All (λ (a : Agent). class_of program a ≡ Some own) agents
classes-by program own agents number has all = λ k d low.
    ap (slice_get program.classes) (all k d low) ∙ has

-- ---- some agents, and then others

module _ (program : Program) (seed tick : ℕ) (said : List Saying) where
  leaves-none : (renewed : Renewed) → LeavesSome program seed tick said [] renewed renewed
  leaves-none renewed = record {
    left = [];
    renews = renews-none program seed tick (row_of program said) renewed.born.items;
    kept = λ before is. subst (λ l. AreMoved l renewed.left) (sym (append-nil before)) is;
  }

  leaves-more : (xs ys : List Agent) (a b c : Renewed) → LeavesSome program seed tick said xs a b
      → LeavesSome program seed tick said ys b c → LeavesSome program seed tick said (xs ++ ys) a c
  leaves-more xs ys a b c h k = record {
    left = h.left ++ k.left;
    renews = renews-more program seed tick (row_of program said) xs ys h.left k.left a.born.items
        b.born.items c.born.items h.renews k.renews;
    kept = λ before is.
        subst (λ l. AreMoved l c.left) (append_assoc before h.left k.left)
        (k.kept (before ++ h.left) (h.kept before is));
  }

  leaves-on : (agents : List Agent) (these rest all : List ℕ) (a b c : Renewed)
      → these ++ rest ≡ all
      → LeavesSome program seed tick said (by_row agents these) a b
      → LeavesSome program seed tick said (by_row agents rest) b c
      → LeavesSome program seed tick said (by_row agents all) a c
  leaves-on agents these rest all a b c split h k =
      let reads : ℕ → Agent = λ row. get_or agents row no_agent in
      subst (λ l. LeavesSome program seed tick said l a c)
      (sym (map-append reads these rest) ∙ ap (by_row agents) split)
      (leaves-more (by_row agents these) (by_row agents rest) a b c h k)

  -- what is left of all
  pub all-left : (agents those : List Agent) (old new : Renewed) → IsPermutation agents those
      → AreMoved [] old.left → old.born.items ≡ []
      → LeavesSome program seed tick said those old new
      → AreLeft program seed tick said agents new
  all-left agents those old new perm none nobody h =
      let totals : Agent → List ℤ = row_of program said in
      let nexts : Renews program seed tick totals those h.left [] new.born.items =
      subst (λ l. Renews program seed tick totals those h.left l new.born.items) nobody h.renews in
      record {
        those = those;
        same = perm;
        left = subst (λ l. AreMoved l new.left)
            (left-of program seed tick totals those h.left new.born.items nexts)
            (h.kept [] none);
        born = born-of program seed tick totals those h.left new.born.items nexts;
        quiet = quiet-of program seed tick totals those h.left new.born.items nexts;
      }

module _ (ground : Ground) (heard : Table) (columns : Columns) where
  pub rows-none : (rows : List ℕ) (renewed : Renewed) → rows ≡ []
      → LeavesRows ground heard columns rows renewed renewed
  rows-none rows renewed none said are =
      subst (λ l. LeavesSome ground.plans.now ground.seed ground.tick said
      (by_row (rows_in ground.plans.now columns) l) renewed renewed) (sym none)
      (leaves-none ground.plans.now ground.seed ground.tick said renewed)

  pub rows-on : (these rest all : List ℕ) (a b c : Renewed) → these ++ rest ≡ all
      → LeavesRows ground heard columns these a b → LeavesRows ground heard columns rest b c
      → LeavesRows ground heard columns all a c
  rows-on these rest all a b c split h k said are =
      leaves-on ground.plans.now ground.seed ground.tick said (rows_in ground.plans.now columns)
      these rest all a b c split (h said are) (k said are)
