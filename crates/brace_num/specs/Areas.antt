-- Areas of the plane, and how far grid points stand from them: distances are whole millionths.
use Rattle.std.specs.Prelude.{ℤ, pos, ◌-ℤ◌}
use Rattle.std.specs.Int.{int_max}
use Rattle.brace_num.specs.declared.kinds.Area.{Area}

-- how far a number stands outside of a span, whose two ends belong to it; 0 within it
abbrev pub outside : ℤ → ℤ → ℤ → ℤ
outside low high p = int_max (pos 0) (int_max (low -ℤ p) (p -ℤ high))

-- the gap of a point and an area: the greater of the distances along x and along y
abbrev pub gap_to : Area → ℤ → ℤ → ℤ
gap_to area x y = int_max (outside area.x0 area.x1 x) (outside area.y0 area.y1 y)

-- how far two spans stand apart; 0 where they share a number
abbrev pub apart : ℤ → ℤ → ℤ → ℤ → ℤ
apart low high other_low other_high =
    int_max (pos 0) (int_max (low -ℤ other_high) (other_low -ℤ high))

-- the gap of two areas: the greater of the distances along x and along y between their nearest
-- points, so that areas that touch have a gap of one millionth
abbrev pub gap : Area → Area → ℤ
gap a b = int_max (apart a.x0 a.x1 b.x0 b.x1) (apart a.y0 a.y1 b.y0 b.y1)
