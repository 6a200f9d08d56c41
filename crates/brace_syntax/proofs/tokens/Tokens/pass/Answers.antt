use Rattle.brace_syntax.proofs.Spelled.{still_spelled}
use Rattle.brace_syntax.proofs.tokens.Tokens.pass.Goals as goal

pub invariant_of-self : goal.invariant_of-self
invariant_of-self c = still_spelled _ _ _ _ c.in-Some.ensures.cases.0 c.self.invariant
