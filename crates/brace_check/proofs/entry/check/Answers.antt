use Rattle.std.proofs.Common.{◌≡◌, sym, subst, ℕ, List, []}
use Rattle.std.specs.Prelude.{Result, Ok, Err, IfOk, OnOk}
use Rattle.brace_model.specs.declared.program.Program.{Program}
use Rattle.brace_model.specs.Lawful.{LawfulProgram}
use Rattle.brace_names.specs.declared.resolved.Resolved.{Resolved}
use Rattle.brace_check.specs.declared.fault.CheckFault.{CheckFault}
use Rattle.brace_check.specs.Faults.{faults}
use Rattle.brace_check.specs.Programs.{program_of}
use Rattle.brace_check.specs.Resolved.{IsResolved}
use Rattle.brace_check.proofs.LawfulProof.{accepted_lawful}
use Rattle.brace_check.proofs.entry.check.Goals as goal

lawful : (src : List ℕ) (r : Resolved) (result : Result Program CheckFault) → IsResolved src r → IfOk result (λ p. p ≡ program_of r) → OnOk result (faults r ≡ []) → IfOk result LawfulProgram
lawful src r (Ok p) is means none = subst LawfulProgram (sym means) (accepted_lawful src r is none)
lawful src r (Err e) is means none = tt

pub returns-clause-lawful : goal.returns-clause-lawful
returns-clause-lawful c src is = lawful src c.args.r c.checked.result is c.checked.ensures.program c.checked.ensures.faultless
