use Rattle.std.proofs.Common.{◌∙◌}
use Rattle.brace_model.specs.Query.{Saying}
use Rattle.brace_eval.proofs.TableLemmas.{effect-at, item-none, item-some, stands-at}
use Rattle.brace_eval.proofs.HeardLemmas.{heard-past, heard-hit}
use Rattle.brace_eval.proofs.heard.Heard.say.Goals as goal

pub returns-in_default-get : goal.returns-in_default-get
returns-in_default-get c = record {
  said = λ a said faults is heard.
      let s : Saying = record { target = a.id; field = c.args.effect; value = c.args.v } in
      let (le, id, here) = stands-at c.args.agents.now c.args.place a is in
      heard-past c.args.program.now c.args.agents.now said faults c.args.self.now heard s
      c.args.place a le c.requires.rises id
      (effect-at c.args.program.now c.args.agents.now c.args.place c.args.effect a c.in-Some.a.now
      c.effects_of.result.now is c.in-Some.ensures.lookup.0 c.in-Some.ensures.lookup.1
      c.effects_of.ensures
      ∙ item-none c.effects_of.result.now c.args.effect c.in_default-get.ensures.lookup.0);
}

pub returns : goal.returns
returns c = record {
  said = λ a said faults is heard.
      let s : Saying = record { target = a.id; field = c.args.effect; value = c.args.v } in
      let (le, id, here) = stands-at c.args.agents.now c.args.place a is in
      heard-hit c.args.program.now c.args.agents.now said faults c.args.self.now c.add.new.self s
      c.args.place a c.in-Some-get.target.now c.place_of-at.result c.requires.rises le id
      (effect-at c.args.program.now c.args.agents.now c.args.place c.args.effect a c.in-Some.a.now
      c.effects_of.result.now is c.in-Some.ensures.lookup.0 c.in-Some.ensures.lookup.1
      c.effects_of.ensures
      ∙ item-some c.effects_of.result.now c.args.effect c.in-Some-get.target.now
      c.in-Some-get.ensures.lookup.0 c.in-Some-get.ensures.lookup.1)
      c.place_of-at.ensures c.in_ok-add.ensures.totals c.in_ok-add.ensures.counts
      c.in_ok-add.ensures.starts c.in_ok-add.ensures.least heard;
}
