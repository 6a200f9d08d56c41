use Rattle.std.proofs.Common.{rules, ◌≡◌, sym, subst, w64, true}
use Rattle.std.specs.Prelude.{FitsSigned}
use Rattle.std.proofs.lemmas.Int.{to_z-of_z}
use Rattle.std.proofs.lemmas.Bool.{and_parts}
use Rattle.brace_num.specs.declared.kinds.Area.{Area}
use Rattle.brace_plan.specs.inner.Walks.{scope_at}
use Rattle.brace_plan.specs.Acts.{limit_in, stands, coordinate}
use Rattle.brace_plan.proofs.NearLemmas.{stays_inside}
use Rattle.brace_plan.proofs.near.cut_area.Goals as goal

pub returns-in-X-clause-holds : goal.returns-in-X-clause-holds
returns-in-X-clause-holds c seed p h =
    let limit : FitsSigned w64 c.limit_at-limit.result = search rules in
    let x0 : FitsSigned w64 c.args.area.x0 = search rules in
    let x1 : FitsSigned w64 c.args.area.x1 = search rules in
    let y0 : FitsSigned w64 c.args.area.y0 = search rules in
    let y1 : FitsSigned w64 c.args.area.y1 = search rules in
    let low : FitsSigned w64 c.cut_low.result = search rules in
    let high : FitsSigned w64 c.cut_high.result = search rules in
    let one = simp to_z-of_z at c.cut_low.ensures.holds in
    let two = simp to_z-of_z at c.cut_high.ensures.holds in
    let met : stands c.args.bound.side c.limit_at-limit.result p.x ≡ true =
    subst (λ l. stands c.args.bound.side l p.x ≡ true) (sym (c.limit_at-limit.ensures seed))
    (subst (λ axis. stands c.args.bound.side (limit_in (scope_at c.args.scene.now c.args.seat.now seed c.args.locals.now) c.args.bound.limit) (coordinate axis p) ≡ true) c.in-X.is (and_parts _ _ h).0) in
    let small : Area = record { x0 = c.cut_low.result; x1 = c.cut_high.result; y0 = c.args.area.y0; y1 = c.args.area.y1 } in
    simp to_z-of_z (stays_inside c.args.area small p (one p.x met) (two p.x met) (λ e. e) (λ e. e))

pub returns-in-Y-clause-holds : goal.returns-in-Y-clause-holds
returns-in-Y-clause-holds c seed p h =
    let limit : FitsSigned w64 c.limit_at-limit.result = search rules in
    let x0 : FitsSigned w64 c.args.area.x0 = search rules in
    let x1 : FitsSigned w64 c.args.area.x1 = search rules in
    let y0 : FitsSigned w64 c.args.area.y0 = search rules in
    let y1 : FitsSigned w64 c.args.area.y1 = search rules in
    let low : FitsSigned w64 c.cut_low-in-Y.result = search rules in
    let high : FitsSigned w64 c.cut_high-in-Y.result = search rules in
    let one = simp to_z-of_z at c.cut_low-in-Y.ensures.holds in
    let two = simp to_z-of_z at c.cut_high-in-Y.ensures.holds in
    let met : stands c.args.bound.side c.limit_at-limit.result p.y ≡ true =
    subst (λ l. stands c.args.bound.side l p.y ≡ true) (sym (c.limit_at-limit.ensures seed))
    (subst (λ axis. stands c.args.bound.side (limit_in (scope_at c.args.scene.now c.args.seat.now seed c.args.locals.now) c.args.bound.limit) (coordinate axis p) ≡ true) c.in-Y.is (and_parts _ _ h).0) in
    let small : Area = record { x0 = c.args.area.x0; x1 = c.args.area.x1; y0 = c.cut_low-in-Y.result; y1 = c.cut_high-in-Y.result } in
    simp to_z-of_z (stays_inside c.args.area small p (λ e. e) (λ e. e) (one p.y met) (two p.y met))
