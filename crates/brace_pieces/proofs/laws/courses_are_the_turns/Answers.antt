use Rattle.std.proofs.Common.{refl}
use Rattle.brace_pieces.proofs.CourseLemmas.{course_turn, one_past, stays_course}
use Rattle.brace_pieces.proofs.laws.courses_are_the_turns.Goals as goal

pub returns : goal.returns
returns c = record { turn = course_turn; start = λ s p. refl; past = one_past; course = stays_course }
