use Rattle.std.proofs.Common.{◌≡◌, ◌∙◌, ◌+◌, ◌-◌, ◌++◌, true, [], ◌∷◌, sym, ap, subst, arith, rules, slice_get, Some, None, append_assoc, append-nil}
use Rattle.std.proofs.lemmas.Int.{to_z-of_z}
use mir.Val.{SFits}
use mir.Syntax.{w64}
use Rattle.brace_balance.specs.Loads.{never_falls}
use Rattle.brace_balance.specs.Fillings.{not_below, filled}
use Rattle.brace_balance.proofs.Ordered.{rest_sorted}
use Rattle.brace_balance.proofs.Filled.{filled_end, filled_step}
use Rattle.brace_balance.proofs.fill.fill.Goals as goal

pub returns-in-None : goal.returns-in-None
returns-in-None c =
    let rest = c.loop-i.rest.now in
    let is : slice_get rest c.args.n ≡ None = search rules in
    sym (append-nil c.loop-i.cuts)
    ∙ ap (λ l. c.loop-i.cuts ++ l) (sym (filled_end c.args.n (c.args.most - c.loop-i.i) rest is))
    ∙ c.loop-i.invariant.pushed

pub loop-i-preserved : goal.loop-i-preserved
loop-i-preserved c =
    let rest = c.loop-i.rest.now in
    let cut = c.in-Some.cut in
    let later = c.args.most - (c.loop-i.i + 1) in
    let is : slice_get rest c.args.n ≡ Some cut = search rules in
    let fits : SFits w64 cut = search rules in
    let next : c.not_below-rest.result.now ≡ not_below cut rest = simp to_z-of_z at c.not_below-rest.ensures in
    let pushed : c.push.new.self ≡ c.loop-i.cuts ++ cut ∷ [] = search rules in
    let step = filled_step c.args.n c.args.most c.loop-i.i rest cut (omega arith) is in
    let more = subst (λ l. filled c.args.n (c.args.most - c.loop-i.i) rest ≡ cut ∷ filled c.args.n later l) (sym next) step in
    record {
      sorted = subst (λ l. never_falls l ≡ true) (sym next) (rest_sorted cut rest c.loop-i.invariant.sorted);
      pushed = ap (λ l. l ++ filled c.args.n later c.not_below-rest.result.now) pushed
          ∙ append_assoc c.loop-i.cuts (cut ∷ []) (filled c.args.n later c.not_below-rest.result.now)
          ∙ ap (λ l. c.loop-i.cuts ++ l) (sym more) ∙ c.loop-i.invariant.pushed;
    }
