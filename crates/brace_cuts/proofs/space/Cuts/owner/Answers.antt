use Rattle.std.proofs.Common.{◌≡◌, ◌∙◌, ◌+◌, ◌*◌, ◌<◌, ℕ, pos, length, ap, ap₂, sym, subst}
use Rattle.std.specs.Int.{w64}
use Rattle.std.proofs.lemmas.Int.{to_z-of_z}
use Rattle.brace_num.specs.Areas.{gap_to}
use Rattle.brace_cuts.specs.Space.{area_of, columns_of, owner_of, parts_of, strip}
use Rattle.brace_cuts.proofs.Areas.{owner_only}
use Rattle.brace_cuts.proofs.space.Cuts.owner.Goals as goal

pub returns-clause-only : goal.returns-clause-only
returns-clause-only c =
    let cuts = c.args.self.now in
    let x = c.args.x in
    let y = c.args.y in
    let row : c.strip-row.result ≡ strip cuts.ys y = c.strip-row.ensures ∙ ap₂ strip c.as_slice.ensures (to_z-of_z w64 y c.ranges.y) in
    let column : c.strip-column.result ≡ strip cuts.xs x = c.strip-column.ensures ∙ ap₂ strip c.as_slice-2.ensures (to_z-of_z w64 x c.ranges.x) in
    let width : length c.as_slice-3.result.now + 1 ≡ columns_of cuts = ap (λ l. length l + 1) c.as_slice-3.ensures in
    let owner : c.strip-row.result * (length c.as_slice-3.result.now + 1) + c.strip-column.result ≡ owner_of cuts x y =
    ap₂ (λ a b. a + b) (ap₂ (λ a b. a * b) row width) column in
    subst (λ n. (p : ℕ) → p < parts_of cuts → (gap_to (area_of cuts p) x y ≡ pos 0 → p ≡ n) × (p ≡ n → gap_to (area_of cuts p) x y ≡ pos 0)) (sym owner)
    (owner_only cuts x y c.requires.xs_rise c.requires.ys_rise c.ranges.x c.ranges.y)
