use Rattle.std.proofs.Common.{◌≡◌, ◌*ℤ◌, pos, rules, w64, to_z, of_z}
use Rattle.std.proofs.lemmas.Int.{to_z-of_z}
use Rattle.brace_code.proofs.WordLemmas.{whole_quotient}
use Rattle.brace_code.proofs.operations.fixed_quotient.Goals as goal

pub returns-then-is_whole : goal.returns-then-is_whole
returns-then-is_whole c =
    let n = c.trunc-whole.result in
    let kept : to_z w64 (of_z w64 n) ≡ n = search rules in
    let whole : c.args.b ≡ n *ℤ pos 1000000 =
    simp (to_z-of_z, c.ranges.b, kept) at (c.is_whole.ensures c.if-is_whole.true) in
    whole_quotient c.args.a c.args.b n c.short_quotient.result whole
    (simp (to_z-of_z, c.ranges.a, kept) at c.short_quotient.ensures)
