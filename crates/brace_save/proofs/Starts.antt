-- A text that begins with another, before more is appended and behind it.
use Rattle.brace_num.proofs.Printings.{starts_more}
use Rattle.brace_rows.proofs.Texts.{starts_here}

pub ruleset text_starts = (starts_more, starts_here)
