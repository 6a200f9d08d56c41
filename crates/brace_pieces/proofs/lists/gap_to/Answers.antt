use Rattle.std.proofs.Common.{◌∙◌, pos, ap, rules}
use Rattle.std.specs.Int.{w64}
use Rattle.std.specs.Prelude.{FitsSigned}
use Rattle.std.proofs.lemmas.Int.{to_z-of_z}
use Rattle.brace_pieces.proofs.lists.gap_to.Goals as goal
use Rattle.brace_num.proofs.Numbers.{max_pos}

pub returns : goal.returns
returns c =
    let area = c.args.area.now in
    let x0 : FitsSigned w64 area.x0 = search rules in
    let x1 : FitsSigned w64 area.x1 = search rules in
    let y0 : FitsSigned w64 area.y0 = search rules in
    let y1 : FitsSigned w64 area.y1 = search rules in
    let x : FitsSigned w64 c.args.x = search rules in
    let y : FitsSigned w64 c.args.y = search rules in
    let along_x = simp to_z-of_z at c.outside.ensures in
    let along_y = simp to_z-of_z at c.outside-2.ensures in
    ap pos c.max.ensures ∙ max_pos _ _ _ _ along_x along_y
