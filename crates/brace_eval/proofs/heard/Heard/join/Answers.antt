use Rattle.std.proofs.Common.{◌≡◌, ◌∙◌, sym, ap, ℤ, pos, List, get_or, set, Some}
use Rattle.std.specs.Prelude.{slice_get}
use Rattle.std.specs.Int.{w128}
use Rattle.std.proofs.lemmas.Int.{to_z-of_z}
use Rattle.brace_model.specs.declared.program.Effect.{Effect}
use Rattle.brace_model.specs.declared.world.Agent.{Agent}
use Rattle.brace_model.specs.World.{class_of}
use Rattle.brace_comb.specs.Totals.{merged}
use Rattle.brace_eval.specs.Heard.{effects_in}
use Rattle.brace_eval.proofs.TableLemmas.{item-some}
use Rattle.brace_eval.proofs.ToldLemmas.{heard-told}
use Rattle.brace_eval.proofs.heard.Heard.join.Goals as goal

pub returns : goal.returns
returns c = record {
  told = λ a said told faults is heard tells.
      let program = c.args.program.now in
      let agents = c.args.agents.now in
      let found : slice_get agents c.args.place ≡ Some c.in-Some.a.now = item-some agents c.args.place c.in-Some.a.now c.in-Some.ensures.lookup.0 c.in-Some.ensures.lookup.1 in
      let same : c.in-Some.a.now ≡ a = let both = sym found ∙ is in cc in
      let has : slice_get (effects_in (class_of program a)) c.args.effect ≡ Some c.in-Some-get.target.now =
      ap (λ (l : List Effect). slice_get l c.args.effect)
      (ap (λ (x : Agent). effects_in (class_of program x)) (sym same) ∙ sym c.effects_of.ensures)
      ∙ item-some c.effects_of.result.now c.args.effect c.in-Some-get.target.now c.in-Some-get.ensures.lookup.0 c.in-Some-get.ensures.lookup.1 in
      heard-told program agents said told faults c.args.self.now c.merge.new.self c.args.place a c.in-Some-get.target.now c.args.effect c.place_of-at.result c.args.count c.args.number
      c.requires.rises is has c.place_of-at.ensures (c.in_ok-merge.ensures.totals
      ∙ ap (λ (n : ℤ). set c.args.self.now.totals.items c.place_of-at.result (merged c.in-Some-get.target.now.comb (get_or c.args.self.now.totals.items c.place_of-at.result (pos 0)) n))
      (to_z-of_z w128 c.args.number c.ranges.number))
      c.in_ok-merge.ensures.counts c.in_ok-merge.ensures.starts c.in_ok-merge.ensures.least heard tells;
}
