-- A publisher at a later time.
use Rattle.std.proofs.Common.{◌∙◌, refl, ℕ, ◌≤◌, arith}
use Rattle.brace_io.specs.Counts.{Rose}
use Rattle.brace_desk.specs.declared.publisher.Publisher as publisher
use Rattle.brace_desk.specs.Calls.{Rises}

-- a count that rose from a later one rose
pub rose_from : (a b c : ℕ) → a ≤ b → Rose b c → Rose a c
rose_from a b c low rose = omega (arith, low, rose)

pub stays_risen : {P : Type 0} (of : publisher.Ghosts P) (p : P) → Rises of p p
stays_risen of p = record { writes_rise = omega arith; saves_rise = omega arith; same_loans = refl; still_fits = λ program fits. fits }

pub then_rises : {P : Type 0} (of : publisher.Ghosts P) (a b c : P) → Rises of a b → Rises of b c → Rises of a c
then_rises of a b c first second =
    let writes = first.writes_rise in
    let more_writes = second.writes_rise in
    let saves = first.saves_rise in
    let more_saves = second.saves_rise in
    record {
      writes_rise = omega (arith, writes, more_writes);
      saves_rise = omega (arith, saves, more_saves);
      same_loans = second.same_loans ∙ first.same_loans;
      still_fits = λ program fits. second.still_fits program (first.still_fits program fits);
    }
