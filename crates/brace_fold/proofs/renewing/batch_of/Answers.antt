use Rattle.std.proofs.Common.{◌∙◌, refl, [], ap, subst, List, All, map}
use Rattle.brace_model.specs.declared.program.Value.{Value}
use Rattle.brace_model.specs.declared.world.Agent.{Agent}
use Rattle.brace_fold.specs.inner.Asks.{AreDrawn, lent, made}
use Rattle.brace_fold.proofs.ColumnLemmas.{by-rows, by-values}
use Rattle.brace_fold.proofs.RenewLemmas.{renews-of, rows-are, totals-of}
use Rattle.brace_fold.proofs.RunLemmas.{row_scope, rows-show}
use denote.Ref.{Bor}
use Rattle.brace_fold.proofs.renewing.batch_of.Goals as goal

pub outcome_of-requires : goal.outcome_of-requires
outcome_of-requires c = c.in-Some.ensures.reach

pub returns-clause-reach : goal.returns-clause-reach
returns-clause-reach c = c.in-Some.ensures.reach

pub returns-clause-renews : goal.returns-clause-renews
returns-clause-renews c = λ totals rows.
    let ground = c.args.ground.now in
    let agents = c.args.agents.now in
    let ruled = c.in-Some.ruled in
    let frame = c.frame_of-frame.result in
    let is = c.frame_of-frame.ensures in
    let rows_are = ap (map (λ (r : Bor Agent). r.now)) c.deref.ensures.value ∙ c.in_ok-agent_rows.ensures in
    let drawn_rows = ap (map (λ (r : Bor Agent). r.now)) c.deref-6.ensures.value ∙ c.in_ok-agent_rows.ensures in
    let d : Agent = record { class = 0; id = 0; states = [] } in
    let are = rows-are ground.seed ground.tick totals agents frame c.in_ok-columns.columns.items c.in_ok-sums.sums.items
    c.deref-8.result.now c.deref-9.result.now c.deref-10.result.now c.in_ok-drawn.drawn.items is.states is.outer is.inner is.locals is.totals is.draws
    (ap (map (λ v. v.now)) c.deref-8.ensures.value ∙ c.in_ok-states.ensures ∙ c.deref-3.ensures.value)
    (λ i column e. c.in_ok-columns.ensures.each i column e
    ∙ by-values i c.deref-2.result.now agents (ap (map (λ (s : Bor (List Value)). s.now)) c.deref-2.ensures.value ∙ c.in_ok-values.ensures
    ∙ by-rows (λ a. a.states) c.deref.result.now agents rows_are))
    (ap (map (λ v. v.now)) c.deref-9.ensures.value ∙ c.in_ok-totals.ensures ∙ c.deref-4.ensures.value)
    (λ i column e. c.in_ok-sums.ensures i column e ∙ totals-of totals agents i c.args.rows.now c.args.rows.now refl rows)
    (ap (map lent) c.deref-10.ensures.value ∙ c.in_ok-draws.ensures ∙ ap (map made) c.deref-7.ensures.value)
    (subst (λ (l : List Agent). All (AreDrawn ground.seed ground.tick l) c.in_ok-drawn.drawn.items) drawn_rows c.in_ok-drawn.ensures) in
    let (lanes, (rowed, leaves)) = c.in_ok-out.ensures (row_scope ground.seed ground.tick totals agents d)
    (rows-show ground.seed ground.tick totals agents d frame are) in
    renews-of ground.plans.now ruled.class.now ruled.rules.now c.args.class ground.seed ground.tick totals agents d lanes
    c.in-Some.ensures c.requires.lawful c.requires.alike rowed c.in_ok-out.out c.args.born.now.items _ (leaves d)
