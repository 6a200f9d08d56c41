-- A text that begins with another, before more is appended and behind it.
use Rattle.std.proofs.Common.{◌≡◌, ℕ, List, ◌++◌, length, take, ap, ◌∙◌}
use Rattle.std.proofs.Math.Seq.{take-append_seam}
use Rattle.brace_num.proofs.Printings.{starts_more}

-- a list followed by another begins with itself
pub starts_here : (a b r : List ℕ) → r ≡ a ++ b → take (length a) r ≡ a
starts_here a b r e = ap (take (length a)) e ∙ take-append_seam a b

pub ruleset starts = (starts_more, starts_here)
