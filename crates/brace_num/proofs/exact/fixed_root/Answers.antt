use Rattle.std.proofs.Common.{arith, ◌≡◌, ◌*◌, ◌+◌, ◌<◌, ◌≤◌, ◌^◌, ◌∙◌, ap, pos, w64}
use Rattle.std.proofs.lemmas.Int.{to_z_pos}
use Rattle.brace_num.proofs.Roots.{root_only, root_small}
use Rattle.brace_num.proofs.exact.fixed_root.Goals as goal

pub returns : goal.returns
returns c =
    let r = c.isqrt.result in
    let from : c.from.result ≡ c.args.a = c.from.ensures in
    let low : r * r ≤ c.args.a * 1000000 = omega (arith, c.isqrt.ensures.square_le, from) in
    let high : c.args.a * 1000000 < (r + 1) * (r + 1) = omega (arith, c.isqrt.ensures.next_square_gt, from) in
    let small : r < 2 ^ 63 = root_small c.args.a r c.requires low in
    to_z_pos w64 r small ∙ ap pos (root_only (c.args.a * 1000000) r low high)
