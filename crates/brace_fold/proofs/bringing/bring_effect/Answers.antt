use Rattle.std.proofs.Common.{◌≡◌, sym, subst, rules, List}
use Rattle.brace_model.specs.Query.{Saying}
use Rattle.brace_fold.specs.Hears.{Hears}
use Rattle.brace_fold.proofs.Alikes.{hears-none}
use Rattle.brace_fold.proofs.Bringings.{sum-hears}
use Rattle.brace_fold.proofs.Joinings.{sum-none}
use Rattle.brace_fold.proofs.bringing.bring_effect.Goals as goal

pub returns-then-sum-eq0 : goal.returns-then-sum-eq0
returns-then-sum-eq0 c = λ program sorted agents a e more apart found here has same are.
    let none : c.in-Some.sum.count ≡ 0 = search rules in
    subst (λ (l : List Saying). Hears program agents l c.args.said.now c.args.said.now)
    (sym (sum-none program sorted more c.args.told.now c.args.place c.args.effect a e c.in-Some.sum
    found has are c.in-Some.ensures none))
    (hears-none program agents c.args.said.now)

pub returns : goal.returns
returns c = λ program sorted agents a e more apart found here has same are.
    sum-hears program sorted agents more c.args.told.now c.args.said.now c.join.new.self
    c.args.place c.args.row c.args.effect a e c.args.comb
    c.in-Some.sum _ _ apart found here has same are c.in-Some.ensures (search rules)
    (search rules) (search rules) c.in_ok-join.ensures
