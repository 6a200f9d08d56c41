-- Facts on exact arithmetic over plain numbers.
use Rattle.std.proofs.Common.{◌≡◌, arith}
use Rattle.std.specs.Prelude.{ℤ, pos, ◌+ℤ◌, ◌-ℤ◌, ◌≤ℤ◌, FitsSigned}
use Rattle.std.specs.Int.{w64, w128, int_max, int_min, cast_signed, cast_unsigned}
use Rattle.std.proofs.lemmas.Int.{ints, clamps, to_z-of_z}
use Rattle.brace_num.specs.Exact.{clamped}

-- a clamped number fits where the old and the new one do
pub clamped_fits : (old new reach : ℤ) → FitsSigned w64 old → FitsSigned w64 new → pos 0 ≤ℤ reach → FitsSigned w64 (clamped old new reach)
clamped_fits old new reach f g h = grind (arith, ints, clamps)

-- a number that code holds, as the number itself
abbrev pub held : ℤ → ℤ
held z = cast_signed w64 (cast_unsigned w64 z)

abbrev pub held_wide : ℤ → ℤ
held_wide z = cast_signed w128 (cast_unsigned w128 z)

-- what the code's clamp over wide numbers gives
pub clamped_by_wide : (old new reach low high r : ℤ) → FitsSigned w64 old → FitsSigned w64 new → FitsSigned w64 reach →
    FitsSigned w128 low → FitsSigned w128 high →
    low ≡ held old -ℤ held reach → high ≡ held old +ℤ held reach →
    r ≡ int_max (held_wide low) (int_min (held new) (held_wide high)) → r ≡ clamped old new reach
clamped_by_wide old new reach low high r fo fn fr fl fh d s e = grind (arith, to_z-of_z)
