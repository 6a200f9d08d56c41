use Rattle.std.proofs.Common.{◌∙◌, refl, ap, sym}
use Rattle.std.specs.Prelude.{if◌then◌else◌, Some}
use Rattle.brace_pieces.specs.declared.setting.Stage.TheVariants.{Effects}
use Rattle.brace_pieces.specs.Steps.{step}
use Rattle.brace_pieces.specs.inner.Walks.{behind_effects}
use Rattle.brace_pieces.proofs.WalkLemmas.{is_behind}
use Rattle.brace_pieces.proofs.setting.Setting.step_after.Goals as goal

pub returns-in-Show : goal.returns-in-Show
returns-in-Show c = record { next = is_behind c.args.self.now c.args.at _ _ c.in-Show.is c.first_of_ticks.ensures }

pub returns-in-Move : goal.returns-in-Move
returns-in-Move c = record { next = is_behind c.args.self.now c.args.at _ _ c.in-Move.is c.behind_move.ensures }

pub returns-in-Hand : goal.returns-in-Hand
returns-in-Hand c = record { next = is_behind c.args.self.now c.args.at _ _ c.in-Hand.is refl }

pub returns-in-Census : goal.returns-in-Census
returns-in-Census c = record { next = is_behind c.args.self.now c.args.at _ _ c.in-Census.is refl }

pub returns-in-Border : goal.returns-in-Border
returns-in-Border c =
    record { next = is_behind c.args.self.now c.args.at _ _ c.in-Border.is (ap (λ invert. Some (step (if invert then behind_effects c.args.self.now else Effects) c.args.at.tick)) (sym c.if-not-self.true)) }

pub returns-in-Border-2 : goal.returns-in-Border-2
returns-in-Border-2 c =
    record {
      next = is_behind c.args.self.now c.args.at _ _ c.in-Border.is (ap (λ stage. Some (step stage c.args.at.tick)) c.behind_effects-stage.ensures
          ∙ ap (λ invert. Some (step (if invert then behind_effects c.args.self.now else Effects) c.args.at.tick)) (sym c.if-not-self.false));
    }

pub returns-in-Effects : goal.returns-in-Effects
returns-in-Effects c = record { next = is_behind c.args.self.now c.args.at _ _ c.in-Effects.is (ap (λ stage. Some (step stage c.args.at.tick)) c.behind_effects-stage-in-Effects.ensures) }
