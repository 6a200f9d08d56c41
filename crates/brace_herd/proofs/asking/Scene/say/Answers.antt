use Rattle.std.proofs.Common.{subst, ℕ, [], ◌∷◌, ◌++◌}
use Rattle.brace_model.specs.Query.{Saying}
use Rattle.brace_eval.specs.Heard.{IsHeard}
use Rattle.brace_herd.proofs.AskLemmas.{held_at}
use Rattle.brace_herd.proofs.asking.Scene.say.Goals as goal

pub returns : goal.returns
returns c = record {
  said = λ before faults is.
      let held = c.args.self.now.held.now in
      let saying : ℕ → Saying = λ id. record { target = id; field = c.args.said.field; value = c.args.said.value } in
      let (a, there, same) = held_at held c.args.said.place c.requires.placed in
      subst (λ id. IsHeard c.args.self.now.program.now held (before ++ saying id ∷ []) faults c.say.new.self) same
      (c.in_ok-say.ensures.said a before faults there is);
}
