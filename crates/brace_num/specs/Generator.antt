-- The sequence of 32-bit numbers that orders and made agents are drawn from.
use Rattle.std.specs.Prelude.{ℕ, ◌+◌, ◌*◌, ◌%◌, ◌^◌}

-- the number behind a number: Knuth's and Lewis' linear congruential sequence
abbrev pub following : ℕ → ℕ
following g = (g * 1664525 + 1013904223) % 2 ^ 32
