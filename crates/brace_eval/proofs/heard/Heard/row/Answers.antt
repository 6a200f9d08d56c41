use Rattle.std.proofs.Common.{◌≡◌, ◌∙◌, sym, ap, ℤ, length, take, drop, List, Some}
use Rattle.std.specs.Prelude.{slice_get}
use Rattle.brace_model.specs.declared.world.Agent.{Agent}
use Rattle.brace_model.specs.World.{class_of}
use Rattle.brace_eval.specs.Heard.{effects_in}
use Rattle.brace_eval.proofs.TableLemmas.{item-some}
use Rattle.brace_eval.proofs.ToldLemmas.{rows-cut}
use Rattle.brace_eval.proofs.heard.Heard.row.Goals as goal

pub returns-clause-totals : goal.returns-clause-totals
returns-clause-totals c a said faults is heard =
    let found : slice_get c.args.agents.now c.args.place ≡ Some c.in-Some.a.now = item-some c.args.agents.now c.args.place c.in-Some.a.now c.in-Some.ensures.lookup.0 c.in-Some.ensures.lookup.1 in
    let same : c.in-Some.a.now ≡ a = let both = sym found ∙ is in cc in
    let width = length c.effects_of-width.result.now in
    let rows = rows-cut c.args.program.now c.args.agents.now said faults c.args.self.now c.args.place a c.place_of-at.result width is heard c.place_of-at.ensures
    (ap length c.effects_of-width.ensures ∙ ap (λ (x : Agent). length (effects_in (class_of c.args.program.now x))) same) in
    c.cut.ensures ∙ ap (λ (l : List ℤ). take width (drop c.place_of-at.result l)) c.deref.ensures.value ∙ rows.totals

pub returns-clause-counts : goal.returns-clause-counts
returns-clause-counts c a said faults is heard =
    let found : slice_get c.args.agents.now c.args.place ≡ Some c.in-Some.a.now = item-some c.args.agents.now c.args.place c.in-Some.a.now c.in-Some.ensures.lookup.0 c.in-Some.ensures.lookup.1 in
    let same : c.in-Some.a.now ≡ a = let both = sym found ∙ is in cc in
    let width = length c.effects_of-width.result.now in
    let rows = rows-cut c.args.program.now c.args.agents.now said faults c.args.self.now c.args.place a c.place_of-at.result width is heard c.place_of-at.ensures
    (ap length c.effects_of-width.ensures ∙ ap (λ (x : Agent). length (effects_in (class_of c.args.program.now x))) same) in
    c.cut-2.ensures ∙ ap (λ (l : List ℤ). take width (drop c.place_of-at.result l)) c.deref-2.ensures.value ∙ rows.counts
