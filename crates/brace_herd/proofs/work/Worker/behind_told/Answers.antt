use Rattle.std.proofs.Common.{sym, subst, List, ◌++◌}
use Rattle.brace_model.specs.declared.fault.Fault.{Fault}
use Rattle.brace_model.specs.declared.world.Agent.{Agent}
use Rattle.brace_model.specs.World.{RisesById}
use Rattle.brace_model.specs.Query.{Saying}
use Rattle.brace_eval.specs.Heard.{IsHeard}
use Rattle.brace_pieces.specs.declared.setting.Stage.TheVariants as stage
use Rattle.brace_pieces.specs.Steps.{step, met}
use Rattle.brace_pieces.specs.Continued.{on}
use Rattle.brace_pieces.specs.Heard.{near}
use Rattle.brace_pieces.proofs.HeardHere.{told_is}
use Rattle.brace_herd.specs.inner.Tables.{TellBy}
use Rattle.brace_herd.proofs.WorkTaken.{effects_told}
use Rattle.brace_herd.proofs.WorkHeard.{inside, own_is_near, near_rises, told_all, tick_fits}
use Rattle.brace_herd.proofs.work.Worker.behind_told.Goals as goal

pub join_told-requires : goal.join_told-requires
join_told-requires c = record {
  rises = subst RisesById (sym c.deref.ensures.value)
      (near_rises c.args.self.now c.requires.worker c.args.tick c.args.held.items
      c.requires.heard.holds);
}

pub update-requires-clause-ticks : goal.update-requires-clause-ticks
update-requires-clause-ticks c = tick_fits c.args.self.now c.requires.worker c.args.tick
    stage.Effects (λ e. absurd (cc)) c.requires.work.stands

pub update-requires-clause-heard : goal.update-requires-clause-heard
update-requires-clause-heard c =
    let s = c.args.self.now.setting.now in
    let part = c.requires.worker in
    let tells =
    effects_told s c.args.self.now.number c.args.self.now.part c.args.tick
    (near s c.args.tick c.args.self.now.part (on s c.args.tick).agents)
    (own_is_near c.args.self.now c.requires.worker c.args.tick)
    (λ q g h. told_is s part.lawful c.args.tick (on s c.args.tick).agents
    (inside c.args.self.now c.requires.worker c.args.tick) c.args.self.now.part part.is_part q g h)
    c.requires.work.stands (met s (step stage.Effects c.args.tick) c.args.self.now.part)
    c.args.taken.now c.requires.work.took in
    told_all c.args.self.now c.requires.worker c.args.tick c.requires.plain c.args.held.items
    c.args.heard c.join_told.new.heard c.args.taken.now c.requires.heard tells
    (subst (λ (agents : List Agent). (said told : List Saying) (faults : List Fault)
    → IsHeard s.job.program agents said faults c.args.heard
    → TellBy s.job.program agents c.args.taken.now told
    → IsHeard s.job.program agents (said ++ told) faults c.join_told.new.heard)
    c.deref.ensures.value (λ some more faults hears told. c.in_ok-join_told.ensures.told some more
    faults hears told))

pub update-requires-clause-next : goal.update-requires-clause-next
update-requires-clause-next c = c.requires.work.next_is
