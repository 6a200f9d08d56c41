use Rattle.std.proofs.Common.{◌≡◌, ◌∙◌, ◌+◌, ◌++◌, [], ◌∷◌, refl, ℤ, List, sym, ap, ap₂, map, length, take, true, false, Some}
use Rattle.std.specs.Prelude.{slice_get}
use Rattle.std.proofs.lemmas.Option.{slice_get_read}
use Rattle.std.proofs.lemmas.List.{length_push, map_push, take_all}
use Rattle.brace_model.specs.declared.world.Agent.{Agent}
use Rattle.brace_eval.specs.Heard.{row_of}
use Rattle.brace_pieces.specs.Owned.{owns, owned}
use Rattle.brace_herd.proofs.TableShares.{owns_one, owns_none}
use Rattle.brace_herd.proofs.update.own_rows.Goals as goal
use Rattle.brace_herd.proofs.update.own_rows.Goals.{then-owns+in_ok-push, else-owns}
use denote.Ref.{Bor}

pub loop-i-preserved : goal.loop-i-preserved
loop-i-preserved c =
    let program = c.args.program.now in
    let cuts = c.args.cuts.now in
    let part = c.args.part in
    let held = c.args.held.now in
    let i = c.loop-i.i in
    let a = c.index-held-i.result in
    let low = c.loop-i-test.true in
    let rows = c.loop-i.rows.items in
    elim c.if-owns.branch [
      | then-owns+in_ok-push w ↦
          let here : slice_get held i ≡ Some a = slice_get_read held (length held) i a refl low c.index-held-i.is in
          let test : owns program cuts part a ≡ true = sym c.owns.ensures ∙ w.if-owns.true in
          let grown = owns_one program cuts part held i a low c.index-held-i.is test in
          record {
            long = ap (λ v. length v.items) w.rows-is ∙ ap length w.in_ok-push.ensures.items ∙ length_push rows _ ∙ ap (λ n. n + 1) c.loop-i.invariant.long
                ∙ sym (length_push (owned program cuts part (take i held)) a) ∙ ap (λ (l : List Agent). length l) (sym grown);
            totals = λ said faults heard.
                ap (λ v. map (λ (r : Bor (List ℤ)). r.now) v.items) w.rows-is
                ∙ ap (map (λ (r : Bor (List ℤ)). r.now)) w.in_ok-push.ensures.items
                ∙ map_push (λ (r : Bor (List ℤ)). r.now) rows _
                ∙ ap₂ (λ xs x. xs ++ x ∷ []) (c.loop-i.invariant.totals said faults heard) (w.row.ensures.totals a said faults here heard)
                ∙ sym (map_push (row_of program said) (owned program cuts part (take i held)) a)
                ∙ ap (map (row_of program said)) (sym grown);
          }
      | else-owns w ↦
          let test : owns program cuts part a ≡ false = sym c.owns.ensures ∙ w.if-owns.false in
          let same = owns_none program cuts part held i a low c.index-held-i.is test in
          record {
            long = ap (λ v. length v.items) w.rows-is ∙ c.loop-i.invariant.long ∙ ap (λ (l : List Agent). length l) (sym same);
            totals = λ said faults heard.
                ap (λ v. map (λ (r : Bor (List ℤ)). r.now) v.items) w.rows-is ∙ c.loop-i.invariant.totals said faults heard
                ∙ ap (map (row_of program said)) (sym same);
          }
    ]

pub returns-clause-long : goal.returns-clause-long
returns-clause-long c =
    c.loop-i.invariant.long
    ∙ ap (λ (l : List Agent). length (owned c.args.program.now c.args.cuts.now c.args.part l)) (take_all c.loop-i.i c.args.held.now c.loop-i-test.false)

pub returns-clause-totals : goal.returns-clause-totals
returns-clause-totals c said faults heard =
    c.loop-i.invariant.totals said faults heard
    ∙ ap (λ (l : List Agent). map (row_of c.args.program.now said) (owned c.args.program.now c.args.cuts.now c.args.part l))
    (take_all c.loop-i.i c.args.held.now c.loop-i-test.false)
