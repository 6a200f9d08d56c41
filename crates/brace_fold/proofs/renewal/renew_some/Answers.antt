use Rattle.std.proofs.Common.{◌≡◌, ◌∙◌, ◌<◌, ◌++◌, [], refl, sym, ap, subst, length, map, true, List, Some, slice_get}
use Rattle.std.specs.List.{All}
use Rattle.std.proofs.lemmas.List.{length-map}
use Rattle.std.proofs.lemmas.List.Sums.{list_all-from_AllPass}
use Rattle.std.proofs.lemmas.Option.{slice_get_read}
use Rattle.brace_model.specs.declared.program.Class.{Class}
use Rattle.brace_model.specs.declared.program.Program.{Program}
use Rattle.brace_model.specs.declared.world.Agent.{Agent}
use Rattle.brace_model.specs.Lawful.{is_lawful_agent}
use Rattle.brace_model.specs.World.{class_of}
use Rattle.brace_eval.specs.Heard.{row_of}
use Rattle.brace_fold.specs.Asked.{by_row}
use Rattle.brace_fold.specs.Rows.{AreMoved, IsWide, rows_in}
use Rattle.brace_fold.specs.inner.Asks.{lent, made}
use Rattle.brace_fold.specs.inner.Rulings.{AreLanes, Leaves, living_from}
use Rattle.brace_fold.proofs.RenewLemmas.{renews-of, rows-are}
use Rattle.brace_fold.proofs.RenewalLemmas.{alike-by, all-picked, classes-by}
use Rattle.brace_fold.proofs.RowLemmas.{all_lawful, rows_are}
use Rattle.brace_fold.proofs.RunLemmas.{row_scope, rows-show}
use Rattle.brace_fold.proofs.Survivings.{rows-long}
use Rattle.brace_fold.proofs.Walks.{on_ok}
use Rattle.brace_fold.proofs.renewal.renew_some.Goals as goal

pub outcome_in-requires : goal.outcome_in-requires
outcome_in-requires c = c.in-Some-ruled.ensures.reach

pub keep_rows-requires : goal.keep_rows-requires
keep_rows-requires c = c.in-Some-ruled.ensures.reach

pub returns-clause-leaves : goal.returns-clause-leaves
returns-clause-leaves c = on_ok c.keep_rows.result _ _ (λ keeps more are.
    let ground = c.args.ground.now in
    let program = ground.plans.now in
    let columns = c.args.columns.now in
    let rows = rows_in program columns in
    let number = c.args.number in
    let order = c.args.rows.now in
    let xs = by_row rows order in
    let these = c.as_columns-these.result in
    let given = c.requires.rows in
    let lent_so = ap (map (λ v. v.now)) c.deref-2.ensures.value ∙ c.in_ok-states.ensures
    ∙ c.deref.ensures.value in
    let part = c.as_columns-these.ensures.are lent_so xs
    (c.in_ok-picked.ensures.rows rows given.are) in
    let inside : All (λ row. row < length rows) order =
    subst (λ n. All (λ row. row < n) order) (sym (rows-long program columns))
    c.in_ok-picked.ensures.within in
    let lawful = all-picked (λ a. is_lawful_agent program a ≡ true) rows order
    (all_lawful program rows given.lawful) inside in
    let wide = subst (λ (p : Program). IsWide p these) c.program-program.ensures
    c.in_ok-expect_wide.ensures in
    let same = rows_are program xs these part wide lawful in
    let alike = alike-by rows columns.classes.now order number given.are.classes
    c.requires.of_class in
    let own = c.in-Some.own.now in
    let read : slice_get c.as_slice.result.now number ≡ Some own =
    slice_get_read c.as_slice.result.now _ number own refl c.in-Some.ensures.lookup.3.0
    c.in-Some.ensures.lookup.1 in
    let has : slice_get program.classes number ≡ Some own =
    ap (λ (p : Program). slice_get p.classes number) (sym c.program-program.ensures)
    ∙ ap (λ (l : List Class). slice_get l number) (sym c.as_slice.ensures) ∙ read in
    let of = classes-by program own xs number has alike in
    let ruled = c.in-Some-ruled.ruled in
    let totals = row_of program more in
    let nobody : Agent = record { class = 0; id = 0; states = [] } in
    let frame = c.frame_of-frame.result in
    let is = c.frame_of-frame.ensures in
    let shown = rows-are ground.seed ground.tick totals xs frame (map (λ v. v.now) these.states.now)
    c.in_ok-sums.sums.items
    these.states.now c.deref-6.result.now c.deref-7.result.now c.in_ok-drawn.drawn.items is.states
    is.outer is.inner is.locals is.totals is.draws
    refl part.states
    (ap (map (λ v. v.now)) c.deref-6.ensures.value ∙ c.in_ok-totals.ensures
    ∙ c.deref-3.ensures.value)
    (λ i column e. c.in_ok-sums.ensures program rows more are of i column e)
    (ap (map lent) c.deref-7.ensures.value ∙ c.in_ok-draws.ensures ∙ ap
    (map made) c.deref-5.ensures.value)
    (c.in_ok-drawn.ensures xs part.ids_are) in
    let (lanes, (lanes_are, leaves)) = c.in_ok-out.ensures program
    (row_scope ground.seed ground.tick totals xs nobody) has
    (rows-show ground.seed ground.tick totals xs nobody frame shown) in
    let out = c.in_ok-out.out in
    let class = ruled.class.now in
    let all = list_all-from_AllPass (is_lawful_agent program) xs lawful in
    let all_lanes = subst (λ n. AreLanes n lanes) (ap length part.ids_are
    ∙ length-map xs (λ (a : Agent). a.id)) lanes_are in
    let leave = subst (λ l. Leaves class ruled.rules.now l lanes
    (row_scope ground.seed ground.tick totals xs nobody) nobody out
    c.args.renewed.now.born.items c.outcome_in.new.born.items) same (leaves nobody) in
    record {
      left = living_from class out 0 xs;
      renews = renews-of program class ruled.rules.now number ground.seed ground.tick totals xs
          nobody lanes
          c.in-Some-ruled.ensures all alike all_lanes out c.args.renewed.now.born.items _ leave;
      kept = λ agents before.
          subst (λ l. AreMoved (agents ++ living_from class out 0 l) c.keep_rows.new.left) same
          (keeps program agents (subst (All (λ a. class_of program a ≡ Some own)) (sym same) of)
          before);
    }) c.keep_rows.ensures.kept
