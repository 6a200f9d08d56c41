use Rattle.std.proofs.Common.{◌∙◌, ◌++◌, ◌∷◌, [], refl, sym, ap, ap₂, ℕ, List, not, length, map, min, subst, pos, ◌<◌, ◌≤◌, get_or, to_z, of_z, rules}
use Rattle.std.specs.Int.{w128}
use Rattle.std.specs.Int.Signed.{lt_z, lt_z_yes, lt_z_no}
use Rattle.std.proofs.lemmas.Float.{T_from_true}
use Rattle.std.specs.Prelude.{FitsSigned}
use Rattle.std.proofs.lemmas.Int.{to_z-of_z}
use Rattle.std.proofs.lemmas.List.{map-append}
use Rattle.brace_model.specs.declared.program.Effect.{Effect}
use Rattle.brace_pieces.specs.Right.{share_of, shares_from}
use Rattle.brace_herd.specs.inner.Tables.{share_with}
use Rattle.brace_herd.proofs.TableShares.{reads, tells, silent, all_taken, within_effects, of_some, item_there}
use Rattle.brace_herd.proofs.tell.add_entries.Goals as goal
use Rattle.brace_herd.proofs.tell.add_entries.Goals.{then-counts-i-gt0+in_ok-told+in_ok-push, else-counts-i-gt0}

pub loop-i-preserved : goal.loop-i-preserved
loop-i-preserved c said all numbers =
    let effects : List Effect = c.args.effects.now in
    let i = c.loop-i.i in
    let ends = c.min-i-end.ensures ∙ ap (λ (n : ℕ). min n (length c.args.counts.now)) c.min.ensures in
    let within : i < length effects = within_effects (length effects) (length c.args.totals.now) (length c.args.counts.now) i (subst (λ (n : ℕ). i < n) ends c.loop-i-test.true) in
    let so = c.loop-i.invariant said all numbers in
    elim c.if-counts-i-gt0.branch [
      | then-counts-i-gt0+in_ok-told+in_ok-push w ↦
          let e = w.index-effects-i.result in
          let is = w.index-effects-i.is in
          let number = get_or c.args.totals.now i (pos 0) in
          let count = get_or c.args.counts.now i (pos 0) in
          let number_fits : FitsSigned w128 number = search rules in
          let count_fits : FitsSigned w128 count = search rules in
          let read = reads c.args.target effects said c.args.totals.now c.args.counts.now i e number count within is (pos 0) (pos 0) refl refl all numbers in
          ap (map share_of) (w.entries-is ∙ w.in_ok-push.ensures.ok)
          ∙ map-append share_of c.loop-i.entries (w.in_ok-told.told ∷ [])
          ∙ tells c.args.target effects said i e _ _ within is read (map share_of c.args.entries.now) (map share_of c.loop-i.entries) so (share_of w.in_ok-told.told)
          (of_some w.entry_of.result w.in_ok-told.told _ w.in_ok-told.ensures.ok_part w.entry_of.ensures.share
          ∙ ap (λ (x : Effect). share_with c.args.target i x.comb (to_z w128 (of_z w128 number)) (to_z w128 (of_z w128 count))) (sym is)
          ∙ ap₂ (share_with c.args.target i e.comb) (to_z-of_z w128 number number_fits) (to_z-of_z w128 count count_fits))
          (lt_z_yes (T_from_true _ (ap (lt_z (pos 0)) (sym (to_z-of_z w128 count count_fits)) ∙ w.if-counts-i-gt0.true)))
      | else-counts-i-gt0 w ↦
          let (e, is) = item_there effects i within in
          let count = get_or c.args.counts.now i (pos 0) in
          let count_fits : FitsSigned w128 count = search rules in
          let read = reads c.args.target effects said c.args.totals.now c.args.counts.now i e (get_or c.args.totals.now i (pos 0)) count within is (pos 0) (pos 0) refl refl all numbers in
          ap (map share_of) w.entries-is
          ∙ silent c.args.target effects said i e _ _ within is read (map share_of c.args.entries.now) (map share_of c.loop-i.entries) so (lt_z_no (T_from_true _ (ap not (ap (lt_z (pos 0)) (sym (to_z-of_z w128 count count_fits)) ∙ w.if-counts-i-gt0.false))))
    ]

pub returns : goal.returns
returns c =
    let effects : List Effect = c.args.effects.now in
    let ends = c.min-i-end.ensures ∙ ap (λ (n : ℕ). min n (length c.args.counts.now)) c.min.ensures in
    record {
      told = λ said all numbers.
          c.loop-i.invariant said all numbers
          ∙ ap (λ (l : List Effect). map share_of c.args.entries.now ++ shares_from 0 c.args.target l said)
          (all_taken c.args.target effects said c.args.totals.now c.args.counts.now c.loop-i.i all numbers (subst (λ (n : ℕ). n ≤ c.loop-i.i) ends c.loop-i-test.false));
    }
