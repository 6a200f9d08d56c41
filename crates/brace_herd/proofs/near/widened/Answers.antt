use Rattle.std.proofs.Common.{◌∙◌, ap₂, Bool, ◌&&◌, rules, w64}
use Rattle.std.specs.Prelude.{FitsSigned}
use Rattle.std.proofs.lemmas.Int.{to_z-of_z}
use Rattle.brace_herd.proofs.NearLemmas.{around, within}
use Rattle.brace_herd.proofs.near.widened.Goals as goal

pub returns : goal.returns
returns c x y f g =
    let area = c.args.area.now in
    let range : FitsSigned w64 c.args.range = c.ranges.range in
    let left : FitsSigned w64 area.x0 = search rules in
    let right : FitsSigned w64 area.x1 = search rules in
    let low : FitsSigned w64 area.y0 = search rules in
    let high : FitsSigned w64 area.y1 = search rules in
    let x0-fits : FitsSigned w64 c.saturating_sub-x0.result = search rules in
    let x1-fits : FitsSigned w64 c.saturating_add-x1.result = search rules in
    let y0-fits : FitsSigned w64 c.saturating_sub-y0.result = search rules in
    let y1-fits : FitsSigned w64 c.saturating_add-y1.result = search rules in
    let x0 = to_z-of_z w64 c.saturating_sub-x0.result x0-fits
    ∙ simp to_z-of_z at c.saturating_sub-x0.ensures in
    let x1 = to_z-of_z w64 c.saturating_add-x1.result x1-fits
    ∙ simp to_z-of_z at c.saturating_add-x1.ensures in
    let y0 = to_z-of_z w64 c.saturating_sub-y0.result y0-fits
    ∙ simp to_z-of_z at c.saturating_sub-y0.ensures in
    let y1 = to_z-of_z w64 c.saturating_add-y1.result y1-fits
    ∙ simp to_z-of_z at c.saturating_add-y1.ensures in
    ap₂ (λ (a b : Bool). a && b)
    (within area.x0 area.x1 c.args.range x _ _ left right f c.requires x0 x1)
    (within area.y0 area.y1 c.args.range y _ _ low high g c.requires y0 y1)
    ∙ around area c.args.range x y
