use Rattle.std.proofs.Common.{◌∙◌, pos, ap, ap₂, rules}
use Rattle.std.specs.Int.{w64}
use Rattle.std.specs.Prelude.{FitsSigned}
use Rattle.std.proofs.lemmas.Int.{to_z-of_z}
use Rattle.brace_num.specs.Areas.{gap}
use Rattle.brace_num.proofs.Numbers.{max_pos}
use Rattle.brace_cuts.proofs.space.Cuts.gap.Goals as goal

pub returns : goal.returns
returns c =
    let a = c.area-a.result in
    let b = c.area-b.result in
    let ax0 : FitsSigned w64 a.x0 = search rules in
    let ax1 : FitsSigned w64 a.x1 = search rules in
    let ay0 : FitsSigned w64 a.y0 = search rules in
    let ay1 : FitsSigned w64 a.y1 = search rules in
    let bx0 : FitsSigned w64 b.x0 = search rules in
    let bx1 : FitsSigned w64 b.x1 = search rules in
    let by0 : FitsSigned w64 b.y0 = search rules in
    let by1 : FitsSigned w64 b.y1 = search rules in
    let along_x = simp to_z-of_z at c.apart.ensures in
    let along_y = simp to_z-of_z at c.apart-2.ensures in
    ap pos c.max.ensures ∙ max_pos _ _ _ _ along_x along_y ∙ ap₂ gap c.area-a.ensures c.area-b.ensures
