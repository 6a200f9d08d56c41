use Rattle.std.proofs.Common.{◌∙◌, ◌++◌, ap, ap₂}
use Rattle.brace_fold.specs.inner.Renewals.{living_in}
use Rattle.brace_fold.proofs.RenewLemmas.{born-of, left-of, quiet-of, renews-all}
use Rattle.brace_fold.proofs.renewing.renew.Goals as goal

pub returns-clause-left : goal.returns-clause-left
returns-clause-left c = λ totals are.
    let agents = c.args.agents.now.items in
    let batches = c.in_ok-batches.batches.items in
    let old = c.replace-old.ensures in
    c.leave.ensures
    ∙ ap₂ (λ l m. l ++ m) (ap (λ v. v.items) old.after ∙ c.in_ok-left.ensures.items) (ap₂ living_in c.deref.ensures.value (ap (λ v. v.items) old.value))
    ∙ left-of c.args.plans.now c.args.seed c.args.tick totals agents (living_in batches agents) c.batches_of.new.born.items
    (renews-all c.args.plans.now c.args.seed c.args.tick totals c.args.rows.now batches agents c.as_slice-2.result.now c.new-born.result.items
    c.batches_of.new.born.items c.as_slice-2.ensures.value c.new-born.ensures.items are (c.in_ok-batches.ensures.renews totals))

pub returns-clause-born : goal.returns-clause-born
returns-clause-born c = λ totals are.
    let agents = c.args.agents.now.items in
    let batches = c.in_ok-batches.batches.items in
    born-of c.args.plans.now c.args.seed c.args.tick totals agents (living_in batches agents) c.batches_of.new.born.items
    (renews-all c.args.plans.now c.args.seed c.args.tick totals c.args.rows.now batches agents c.as_slice-2.result.now c.new-born.result.items
    c.batches_of.new.born.items c.as_slice-2.ensures.value c.new-born.ensures.items are (c.in_ok-batches.ensures.renews totals))

pub returns-clause-quiet : goal.returns-clause-quiet
returns-clause-quiet c = λ totals are.
    let agents = c.args.agents.now.items in
    let batches = c.in_ok-batches.batches.items in
    quiet-of c.args.plans.now c.args.seed c.args.tick totals agents (living_in batches agents) c.batches_of.new.born.items
    (renews-all c.args.plans.now c.args.seed c.args.tick totals c.args.rows.now batches agents c.as_slice-2.result.now c.new-born.result.items
    c.batches_of.new.born.items c.as_slice-2.ensures.value c.new-born.ensures.items are (c.in_ok-batches.ensures.renews totals))
