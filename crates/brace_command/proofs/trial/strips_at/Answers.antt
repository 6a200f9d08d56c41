use Rattle.std.proofs.Common.{◌∙◌, FitsSigned, w64, rules, arith}
use Rattle.std.proofs.lemmas.Int.{to_z-of_z}
use Rattle.brace_command.proofs.TrialLemmas.{strip_more}
use Rattle.brace_command.proofs.trial.strips_at.Goals as goal

pub loop-strip-preserved : goal.loop-strip-preserved
loop-strip-preserved c =
    let fits : FitsSigned w64 c.from.result = search rules in
    record {
      some = omega arith;
      few = omega (arith, c.loop-strip-test.true);
      so_far =
          strip_more c.args.further c.loop-strip.strip c.loop-strip.xs c.push.new.self _ c.loop-strip.invariant.some c.loop-strip.invariant.so_far
          c.in_ok-push.ensures.ok (to_z-of_z w64 c.from.result fits ∙ c.from.ensures);
    }
