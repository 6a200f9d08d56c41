use Rattle.std.proofs.Common.{◌≡◌, ◌∙◌, ◌++◌, refl, sym, ap, List, map, length, true, false, Some}
use Rattle.std.specs.Prelude.{slice_get}
use Rattle.std.proofs.lemmas.Option.{slice_get_read}
use Rattle.brace_model.specs.declared.world.Agent.{Agent}
use Rattle.brace_model.specs.World.{class_of}
use Rattle.brace_eval.specs.Heard.{effects_in}
use Rattle.brace_pieces.specs.Owned.{owns}
use Rattle.brace_pieces.specs.Right.{Share, share_of, shares_from}
use Rattle.brace_herd.proofs.TableShares.{agent_told, shares_more, shares_same}
use Rattle.brace_herd.proofs.tell.told_to.Goals as goal
use Rattle.brace_herd.proofs.tell.told_to.Goals.{then-owns+in_ok-add_entries, else-owns}

pub loop-i-preserved : goal.loop-i-preserved
loop-i-preserved c said faults heard =
    let program = c.args.program.now in
    let cuts = c.args.cuts.now in
    let held : List Agent = c.args.held.now in
    let i = c.loop-i.i in
    let b = c.index-held-i.result in
    let so = c.loop-i.invariant said faults heard in
    elim c.if-owns.branch [
      | then-owns+in_ok-add_entries w ↦
          let here : slice_get held i ≡ Some b = slice_get_read held (length held) i b refl c.loop-i-test.true c.index-held-i.is in
          let test : owns program cuts c.args.to b ≡ true = sym c.owns.ensures ∙ w.if-owns.true in
          let told = agent_told program said b w.effects_of.result.now w.row.result.0.now w.row.result.1.now (map share_of c.loop-i.entries) (map share_of w.add_entries.new.entries) w.effects_of.ensures
          (w.row.ensures.totals b said faults here heard) (w.row.ensures.counts b said faults here heard) (w.in_ok-add_entries.ensures.told said) in
          ap (map share_of) w.entries-is ∙ told
          ∙ ap (λ (l : List Share). l ++ shares_from 0 b.id (effects_in (class_of program b)) said) so
          ∙ sym (shares_more program cuts c.args.to held said i b c.loop-i-test.true c.index-held-i.is test)
      | else-owns w ↦
          let test : owns program cuts c.args.to b ≡ false = sym c.owns.ensures ∙ w.if-owns.false in
          ap (map share_of) w.entries-is ∙ so ∙ sym (shares_same program cuts c.args.to held said i b c.loop-i-test.true c.index-held-i.is test)
    ]
