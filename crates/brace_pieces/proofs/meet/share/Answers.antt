use Rattle.std.proofs.Common.{◌∙◌, pos, ap, ap₂, sym, rules, ◌&&◌}
use Rattle.std.specs.Int.{w64}
use Rattle.std.specs.Prelude.{FitsSigned, int_le}
use Rattle.std.proofs.lemmas.Int.{to_z-of_z}
use Rattle.brace_num.specs.Areas.{apart, gap}
use Rattle.brace_pieces.proofs.WalkLemmas.{both_none}
use Rattle.brace_pieces.proofs.meet.share.Goals as goal

pub returns-then-have_common : goal.returns-then-have_common
returns-then-have_common c =
    let old = c.area-a.result in
    let new = c.area-b.result in
    let old_x0 : FitsSigned w64 old.x0 = search rules in
    let old_x1 : FitsSigned w64 old.x1 = search rules in
    let old_y0 : FitsSigned w64 old.y0 = search rules in
    let old_y1 : FitsSigned w64 old.y1 = search rules in
    let new_x0 : FitsSigned w64 new.x0 = search rules in
    let new_x1 : FitsSigned w64 new.x1 = search rules in
    let new_y0 : FitsSigned w64 new.y0 = search rules in
    let new_y1 : FitsSigned w64 new.y1 = search rules in
    let along_x = simp to_z-of_z at c.have_common.ensures in
    let along_y = simp to_z-of_z at c.have_common-then-have_common.ensures in
    ap₂ (λ v w. v && w) (sym c.if-have_common.true ∙ along_x) along_y
    ∙ both_none (apart old.x0 old.x1 new.x0 new.x1) (apart old.y0 old.y1 new.y0 new.y1)
    ∙ ap₂ (λ a b. int_le (gap a b) (pos 0)) c.area-a.ensures c.area-b.ensures

pub returns-else-have_common : goal.returns-else-have_common
returns-else-have_common c =
    let old = c.area-a.result in
    let new = c.area-b.result in
    let old_x0 : FitsSigned w64 old.x0 = search rules in
    let old_x1 : FitsSigned w64 old.x1 = search rules in
    let new_x0 : FitsSigned w64 new.x0 = search rules in
    let new_x1 : FitsSigned w64 new.x1 = search rules in
    let along_x = simp to_z-of_z at c.have_common.ensures in
    c.if-have_common.false
    ∙ ap (λ v. v && int_le (apart old.y0 old.y1 new.y0 new.y1) (pos 0)) (sym c.if-have_common.false ∙ along_x)
    ∙ both_none (apart old.x0 old.x1 new.x0 new.x1) (apart old.y0 old.y1 new.y0 new.y1)
    ∙ ap₂ (λ a b. int_le (gap a b) (pos 0)) c.area-a.ensures c.area-b.ensures
