use Rattle.std.proofs.Common.{◌≡◌, ◌∙◌, refl, sym, ap, subst, map, ℕ, List, true}
use Rattle.std.specs.List.{list_all}
use Rattle.std.specs.List.Sorted.{IsPermutation}
use Rattle.std.proofs.lemmas.List.Sorted.{IsPermutation-sym}
use Rattle.brace_num.proofs.Orders.{by_key_keeps, by_key_rises}
use Rattle.brace_model.specs.declared.program.Program.{Program}
use Rattle.brace_model.specs.declared.world.Agent.{Agent}
use Rattle.brace_model.specs.Lawful.{is_lawful_agent}
use Rattle.brace_fold.specs.Rows.{rows_in}
use Rattle.brace_fold.specs.inner.Asks.{lent, made}
use Rattle.brace_fold.proofs.Askings.{asks-moved}
use Rattle.brace_fold.proofs.ColumnLemmas.{copied-view}
use Rattle.brace_fold.proofs.Drawings.{draws-of}
use Rattle.brace_fold.proofs.RowLemmas.{lawful_moved}
use Rattle.brace_fold.proofs.Walks.{on_ok}
use Rattle.brace_fold.proofs.asking.ask_sorted.Goals as goal

pub ask_all-requires-clause-scene : goal.ask_all-requires-clause-scene
ask_all-requires-clause-scene c =
    let columns = c.args.columns.now in
    let rows = rows_in c.args.program.now columns in
    let id : Agent → ℕ = λ a. a.id in
    record {
      rises = by_key_rises id rows c.requires.rows.apart;
      moved = IsPermutation-sym _ _ (by_key_keeps id rows);
      cells = c.requires.cells;
      states = λ i column e. c.requires.rows.are.states i column
          (copied-view columns.states.now _ i column refl e);
      classes = c.requires.rows.are.classes;
      draws = draws-of c.args.seed c.args.tick rows c.deref-2.result.now c.in_ok-drawn.drawn.items
          (ap (map lent) c.deref-2.ensures.value ∙ c.in_ok-draws.ensures
          ∙ ap (map made) c.deref.ensures.value)
          (c.in_ok-drawn.ensures rows c.requires.rows.are.ids_are);
    }

pub ask_all-requires-clause-lawful : goal.ask_all-requires-clause-lawful
ask_all-requires-clause-lawful c =
    lawful_moved c.args.plans.now _ _
    (by_key_keeps (λ (a : Agent). a.id) (rows_in c.args.program.now c.args.columns.now))
    (subst (λ (p : Program). list_all (is_lawful_agent p)
    (rows_in c.args.program.now c.args.columns.now) ≡ true)
    c.requires.program c.requires.rows.lawful)

pub returns : goal.returns
returns c = on_ok c.ask_all.result _ _ (λ h d.
    let rows = rows_in c.args.program.now c.args.columns.now in
    let sorted = c.deref-3.result.now in
    let moved : IsPermutation sorted c.args.asking.now =
    subst (λ (l : List ℕ). IsPermutation l c.args.asking.now) (sym c.deref-3.ensures.value)
    (IsPermutation-sym _ _ c.in_ok-asking.ensures) in
    asks-moved c.args.program.now c.args.seed c.args.tick rows d sorted c.args.asking.now
    c.args.said.now c.ask_all.new.heard moved (h d)) c.ask_all.ensures
