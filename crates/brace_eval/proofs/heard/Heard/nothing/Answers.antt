use Rattle.std.proofs.Common.{◌∙◌, ap, ◌<◌, List, [], ◌∷◌, ◌++◌, length, map, pos, arith}
use Rattle.std.proofs.lemmas.List.{length-append}
use Rattle.brace_model.specs.declared.program.Effect.{Effect}
use Rattle.brace_model.specs.Total.{identity}
use Rattle.brace_eval.proofs.TableLemmas.{more-starts, more-rows}
use Rattle.brace_eval.proofs.CountLemmas.{more-counts}
use Rattle.brace_eval.proofs.heard.Heard.nothing.Goals as goal

pub loop-agent-preserved : goal.loop-agent-preserved
loop-agent-preserved c =
    let i = c.loop-agent.agent-index in
    let agents = c.args.agents.now in
    let program = c.args.program.now in
    let le : i < length agents = omega (arith, c.loop-agent-test.true) in
    record {
      each = ap length c.in_ok-push.ensures.items ∙ length-append c.loop-agent.starts.items (c.len.result ∷ []) ∙ omega (arith, c.loop-agent.invariant.each);
      starts = rw c.in_ok-push.ensures.items (more-starts program agents i _ _ c.loop-agent.invariant.each (c.len.ensures ∙ c.loop-agent.totals.ok.0 ∙ ap length c.loop-agent.invariant.totals) c.loop-agent.invariant.starts);
      totals = c.in_ok-open_totals.ensures ∙ ap (λ (l : List Effect). c.loop-agent.totals.items ++ map (λ (e : Effect). identity e.comb) l) c.effects_of-effects.ensures ∙ more-rows program agents i c.agent-item.result _ le c.agent-item.is c.loop-agent.invariant.totals;
      counts = c.in_ok-open_counts.ensures ∙ ap (λ (l : List Effect). c.loop-agent.counts.items ++ map (λ (e : Effect). pos 0) l) c.effects_of-effects.ensures ∙ more-counts program agents i c.agent-item.result _ le c.agent-item.is c.loop-agent.invariant.counts;
    }
