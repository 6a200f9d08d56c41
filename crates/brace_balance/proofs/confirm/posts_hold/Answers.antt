use Rattle.std.proofs.Common.{◌∙◌, ◌-◌, sym, arith, pos, rules, get_or, SFits, w64}
use Rattle.std.proofs.lemmas.Int.{to_z-of_z}
use Rattle.brace_balance.proofs.Neighbours.{hold_at_end, hold_fails, hold_goes_on}
use Rattle.brace_balance.proofs.confirm.posts_hold.Goals as goal

pub returns-then-between-n : goal.returns-then-between-n
returns-then-between-n c =
    let posts = c.args.posts.now in
    let i = c.loop-i.i in
    let before : SFits w64 (get_or posts (i - 1) (pos 0)) = search rules in
    let here : SFits w64 (get_or posts i (pos 0)) = search rules in
    sym (c.loop-i.invariant
    ∙ hold_fails (pos 0) c.args.n c.args.xs.now posts i c.between.result (omega arith) (omega arith) (simp to_z-of_z at c.between.ensures) (omega arith))

pub loop-i-preserved : goal.loop-i-preserved
loop-i-preserved c =
    let posts = c.args.posts.now in
    let i = c.loop-i.i in
    let before : SFits w64 (get_or posts (i - 1) (pos 0)) = search rules in
    let here : SFits w64 (get_or posts i (pos 0)) = search rules in
    c.loop-i.invariant
    ∙ hold_goes_on (pos 0) c.args.n c.args.xs.now posts i c.between.result (omega arith) (omega arith) (simp to_z-of_z at c.between.ensures) (omega arith)

pub returns : goal.returns
returns c = sym (c.loop-i.invariant ∙ hold_at_end c.args.n c.args.xs.now c.args.posts.now (c.loop-i.i - 1) (omega arith))
