use Rattle.std.proofs.Common.{◌∙◌, ap}
use Rattle.std.proofs.lemmas.Result.{IfOk-weaker}
use Rattle.brace_pieces.specs.Settings.{cuts_of}
use Rattle.brace_pieces.specs.Owned.{owned}
use Rattle.brace_part.proofs.StartLemmas.{own_of}
use Rattle.brace_run_tests.proofs.tests.parts.own.Goals as goal

pub returns : goal.returns
returns c =
    let s = c.args.setting.now in
    record {
      own = IfOk-weaker c.owned_of.result _ _
          (λ own theirs. own_of s c.args.p own
          (theirs ∙ ap (owned s.job.program (cuts_of s s.job.first) c.args.p) c.agents-agents.ensures.same))
          c.owned_of.ensures.theirs;
    }
