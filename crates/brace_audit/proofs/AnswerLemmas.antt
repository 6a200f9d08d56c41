-- What follows from an answer that is an error.
use Rattle.std.proofs.Common.{◌≡◌, ◌≢◌, refl, ap, ℕ, Result, Ok, Err}
use Rattle.brace_model.specs.declared.fault.Fault.{Fault}
use Rattle.brace_audit.specs.declared.fault.AuditFault.{AuditFault}
use Rattle.brace_audit.specs.declared.fault.AuditFault.TheVariants as found
use Rattle.brace_audit.specs.Outcome.{IsRight}

abbrev pub failed : AuditFault → Result Unit AuditFault
failed e = Err e

-- an answer that is no yes and no fault of the run, and right where it tells a line
pub is_right : (e : AuditFault) (right : Result Unit AuditFault) → failed e ≢ failed found.Absent → ((f : Fault) → failed e ≢ failed (found.Fault f)) → ((line : ℕ) → failed e ≡ failed (found.Differs line) → right ≡ failed (found.Differs line)) → IsRight (failed e) right
is_right found.Absent right present faultless differs = absurd (present refl)
is_right (found.Differs line) right present faultless differs = differs line refl
is_right (found.Fault f) right present faultless differs = absurd (faultless f refl)
is_right _ right present faultless differs = tt

abbrev line_of : AuditFault → ℕ
line_of (found.Differs line) = line
line_of _ = 0

abbrev line_told : Result Unit AuditFault → ℕ
line_told (Ok u) = 0
line_told (Err e) = line_of e

-- one answer tells one line
pub one_line : (a b : ℕ) → failed (found.Differs a) ≡ failed (found.Differs b) → a ≡ b
one_line a b e = ap line_told e

-- the fault of the run that an error names
abbrev pub fault_told : Fault → AuditFault → Fault
fault_told other (found.Fault f) = f
fault_told other _ = other
