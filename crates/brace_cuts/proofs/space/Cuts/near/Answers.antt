use Rattle.std.proofs.Common.{◌∙◌, ap₂, rules}
use Rattle.std.specs.Int.{w64, w128}
use Rattle.std.specs.Prelude.{FitsSigned, int_le}
use Rattle.std.proofs.lemmas.Int.{to_z-of_z}
use Rattle.brace_cuts.proofs.Nearness.{points_near}
use Rattle.brace_cuts.proofs.space.Cuts.near.Goals as goal

pub returns-clause-points : goal.returns-clause-points
returns-clause-points c x y u v in_p in_q along_x along_y =
    let distance : FitsSigned w128 c.from.result = search rules in
    let limit : FitsSigned w128 c.from-2.result = search rules in
    ap₂ int_le
    (to_z-of_z w128 c.from.result distance ∙ c.from.ensures ∙ c.gap.ensures)
    (to_z-of_z w128 c.from-2.result limit ∙ c.from-2.ensures ∙ to_z-of_z w64 c.args.d c.ranges.d)
    ∙ points_near c.args.self.now c.args.p c.args.q x y u v c.args.d in_p in_q along_x along_y
