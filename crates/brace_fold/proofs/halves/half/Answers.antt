use Rattle.std.proofs.Common.{◌∙◌, ap, pos, to_z, w32, w64}
use Rattle.std.specs.Prelude.{nat_abs}
use Rattle.std.specs.Int.{int_rem_euclid, int_wrap}
use Rattle.std.proofs.lemmas.Int.{to_z-of_z}
use Rattle.brace_fold.proofs.halves.half.Goals as goal

pub returns : goal.returns
unfolding int_wrap
returns c =
    to_z-of_z w32 c.cast_signed.result (record { sfits = c.cast_signed.type_inv })
    ∙ c.cast_signed.ensures
    ∙ ap (λ z. to_z w32 (nat_abs z))
    (to_z-of_z w64 c.rem_euclid.result (record { sfits = c.rem_euclid.type_inv })
    ∙ c.rem_euclid.ensures.value
    ∙ ap (λ z. int_rem_euclid z (pos 4294967296)) (to_z-of_z w64 c.args.v c.ranges.v))
