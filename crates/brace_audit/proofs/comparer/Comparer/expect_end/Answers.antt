use Rattle.std.proofs.Common.{◌∙◌, Some, ap, arith}
use Rattle.brace_io.specs.Shelves.{held_at}
use Rattle.brace_audit.proofs.AnswerLemmas.{one_line}
use Rattle.brace_audit.proofs.ReadingLemmas.{without, goes_further}
use Rattle.brace_audit.proofs.comparer.Comparer.expect_end.Goals as goal

pub returns-then-self-clause-goes_further : goal.returns-then-self-clause-goes_further
returns-then-self-clause-goes_further g c = λ line is text file i h.
    let name = c.args.name.now in
    let j = without _ _ name text _ (c.in_ok-fill.ensures.goes_on text i) in
    goes_further _ _ name text file _ j (omega (arith, j.in_chunk, c.if-self.true)) (ap (λ k. held_at k name) c.in_ok-fill.ensures.held_alone ∙ h) ∙ ap Some (one_line _ _ is)
