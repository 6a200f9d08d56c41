use Rattle.std.proofs.Common.{◌∙◌, ◌≤◌, ap, subst, length, Some, arith}
use Rattle.std.specs.Prelude.{slice_get}
use Rattle.std.proofs.lemmas.List.{length-map}
use Rattle.brace_herd.specs.inner.Asked.{HearsOf}
use Rattle.brace_herd.proofs.AskLemmas.{hears_next, hears_all}
use Rattle.brace_herd.proofs.AskedLemmas.{asked_here}
use Rattle.brace_herd.proofs.asking.Scene.ask_each.Goals as goal

pub ask-requires-clause-place : goal.ask-requires-clause-place
ask-requires-clause-place c = c.requires.placed c.loop-one.one-index _ c.loop-one-test.true

pub loop-one-preserved : goal.loop-one-preserved
loop-one-preserved c =
    let scene = c.args.self.now in
    let plans = c.args.plans.now in
    let before = c.loop-one.hearing.heard in
    let after = c.ask.new.hearing.heard in
    record {
      heard = λ asking are.
          let (a, next, there) = asked_here scene.held.now asking c.args.asked.now c.loop-one.one-index are c.loop-one-test.true in
          hears_next scene plans c.args.hearing.now.room asking c.loop-one.one-index a c.args.hearing.now.heard before after next (c.loop-one.invariant.heard asking are)
          (subst (λ seed. HearsOf scene plans seed a before after) c.loop-one.invariant.seed (c.in_ok-ask.ensures.hears a (there _)));
      seed = c.in_ok-ask.ensures.seed ∙ c.loop-one.invariant.seed;
    }

pub returns-clause-hears : goal.returns-clause-hears
returns-clause-hears c asking are =
    let long = ap length are in
    let over : length asking ≤ c.loop-one.one-index =
    omega (arith, long, length-map c.args.asked.now (λ one. slice_get c.args.self.now.held.now one.place), length-map asking Some, c.loop-one-test.false) in
    hears_all c.args.self.now c.args.plans.now c.args.hearing.now.room asking c.loop-one.one-index c.args.hearing.now.heard c.loop-one.hearing.heard
    over (c.loop-one.invariant.heard asking are)
