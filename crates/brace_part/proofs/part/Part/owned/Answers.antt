use Rattle.std.proofs.Common.{rules, ◌≡◌, ◌∙◌, None, ap, subst}
use Rattle.brace_pieces.specs.declared.setting.Setting.{Setting}
use Rattle.brace_pieces.specs.Courses.{step_of}
use Rattle.brace_part.specs.Parts.{OnPart, own_at, IsSettled}
use Rattle.brace_part.specs.inner.Sound.{owns_in}
use Rattle.brace_part.proofs.OwnLemmas.{owns_at}
use Rattle.brace_part.proofs.part.Part.owned.Goals.{After-setting}
use Rattle.brace_part.proofs.part.Part.owned.Goals as goal

pub returns-clause-same : goal.returns-clause-same
returns-clause-same c =
    c.from_vec.ensures ∙ c.in_ok-agents.ensures ∙ c.in_ok-own.ensures
    ∙ ap (λ (s : Setting). owns_in s.job.program c.self.inside.standing.stance)
    c.setting.ensures.setting
    ∙ ap (λ (v : OnPart). v.owns) c.self.view_is

-- where it goes on and its work is settled, it owns what a part does
owns : (c : After-setting) → c.args.self.now.cause ≡ None
    → IsSettled (step_of c.args.self.now.course)
    → c.args.self.now.owns ≡ own_at c.args.self.now.course.setting
    c.args.self.now.course.actor (step_of c.args.self.now.course)
owns c =
    let i = c.self.inside in
    subst (λ (v : OnPart). v.cause ≡ None → IsSettled (step_of v.course)
    → v.owns ≡ own_at v.course.setting v.course.actor (step_of v.course)) c.self.view_is
    (λ none settled. owns_at i.turns.course.setting i.turns.course.actor
    (step_of i.turns.course) i.standing.stance settled (c.self.invariant.goes_on none).ready)

pub returns-clause-owner : goal.returns-clause-owner
returns-clause-owner c =
    let own = owns (goal.at.returns-clause-owner c).After-setting in search (rules, own)

pub returns-in_err-own-clause-owner : goal.returns-in_err-own-clause-owner
returns-in_err-own-clause-owner c =
    let own = owns (goal.at.returns-in_err-own-clause-owner c).After-setting in
    search (rules, own)

pub returns-in_err-agents-clause-owner : goal.returns-in_err-agents-clause-owner
returns-in_err-agents-clause-owner c =
    let own = owns (goal.at.returns-in_err-agents-clause-owner c).After-setting in
    search (rules, own)
