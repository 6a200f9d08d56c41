use Rattle.std.proofs.Common.{sym, subst}
use Rattle.brace_invert.specs.Split.{forward_query}
use Rattle.brace_herd.specs.inner.Asked.{HasRulesOf}
use Rattle.brace_herd.specs.Workers.{AreQueriesOf}
use Rattle.brace_herd.proofs.AskLemmas.{own_rules, rules_same}
use Rattle.brace_herd.proofs.query.Queries.rules.Goals as goal

pub returns-in-Script : goal.returns-in-Script
returns-in-Script c setting are =
    let (plain, script) = subst (AreQueriesOf setting) c.in-Script.is are in
    subst (HasRulesOf setting.job.program) (sym script) (own_rules setting.job.program)

pub returns-in-Inverted : goal.returns-in-Inverted
returns-in-Inverted c setting are =
    let (inverts, forward, inverse) = subst (AreQueriesOf setting) c.in-Inverted.is are in
    rules_same forward_query setting.job.program c.in-Inverted.forward forward
