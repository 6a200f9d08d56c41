use Rattle.std.proofs.Common.{◌≡◌, ◌∙◌, ap, refl, rules, sym, get_or, map, pos, List, Some, slice_get}
use Rattle.std.proofs.lemmas.Option.{slice_get_read}
use Rattle.brace_model.specs.declared.program.Effect.{Effect}
use Rattle.brace_model.specs.declared.world.Agent.{Agent}
use Rattle.brace_eval.specs.Heard.{row_of}
use Rattle.brace_fold.specs.Asked.{by_row}
use Rattle.brace_fold.proofs.ColumnLemmas.{columns-more}
use Rattle.brace_fold.proofs.Tellings.{effect-totals}
use Rattle.brace_fold.proofs.telling.told_columns.Goals as goal

pub loop-k-preserved : goal.loop-k-preserved
loop-k-preserved c =
    let k = c.loop-k.k in
    let own = c.args.own.now in
    let effects = c.as_slice-effects.result.now in
    let effect = c.in-Some.effect.now in
    let there : slice_get effects k ≡ Some effect =
    slice_get_read effects _ k effect refl c.in-Some.ensures.lookup.3.0
    c.in-Some.ensures.lookup.1 in
    let has : slice_get own.effects k ≡ Some effect = ap (λ (l : List Effect). slice_get l k)
    (sym c.as_slice-effects.ensures) ∙ there in
    record {
      long = search rules;
      each = λ program agents more are all.
          let these = by_row agents c.args.rows.now in
          let sums = c.in-Some-sums_of.ensures in
          let is = c.in_ok-column.ensures.words
          ∙ effect-totals program agents more c.args.said.now own k effect
          c.in-Some-sums_of.sums.now c.args.rows.now are has sums.rows sums.sums
          c.in_ok-column.ensures.within all
          ∙ ap (λ n. map (λ (a : Agent). get_or (row_of program more a) n (pos 0)) these)
          (sym c.loop-k.invariant.long) in
          rw c.in_ok-push.ensures.items (columns-more (λ i. map (λ (a : Agent). get_or
          (row_of program more a) i (pos 0)) these)
          c.loop-k.columns.items c.in_ok-column.column (c.loop-k.invariant.each program agents more
          are all) is);
    }
