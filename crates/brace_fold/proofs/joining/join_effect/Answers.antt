use Rattle.std.proofs.Common.{◌≡◌, ◌++◌, ◌<◌, sym, subst, append-nil, rules, List}
use Rattle.brace_model.specs.Query.{Saying}
use Rattle.brace_eval.specs.Heard.{IsHeard}
use Rattle.brace_fold.specs.inner.Joins.{to_effect}
use Rattle.brace_fold.proofs.Joinings.{sum-none, sum-told}
use Rattle.brace_fold.proofs.joining.join_effect.Goals as goal

pub returns-then-sum-eq0 : goal.returns-then-sum-eq0
returns-then-sum-eq0 c = λ rows a e more said faults found row has summed h.
    let program = c.args.program.now in
    let agents = c.args.agents.now in
    let none : c.in-Some.sum.count ≡ 0 = search rules in
    subst (λ (l : List Saying). IsHeard program agents (said ++ l) faults c.args.heard.now)
    (sym (sum-none program rows more c.args.table.now c.args.row c.args.effect a e c.in-Some.sum row
    has summed c.in-Some.ensures none))
    (subst (λ (l : List Saying). IsHeard program agents l faults c.args.heard.now) (sym (append-nil said)) h)

pub returns : goal.returns
returns c = λ rows a e more said faults found row has summed h.
    let some : 0 < c.in-Some.sum.count = search rules in
    c.in_ok-join.ensures.told a said (to_effect a.id c.args.effect more) faults found h
    (sum-told c.args.program.now rows more c.args.table.now c.args.row c.args.effect a e
    c.in-Some.sum row has summed c.in-Some.ensures _ _
    (search rules) (search rules) some)
