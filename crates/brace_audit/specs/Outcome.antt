-- What an audit finds: the file beside the published text of a job, and how the job's run ends.
use Rattle.std.specs.Prelude.{◌≡◌, ℕ, List, Option, Some, None, Result, Ok, Err, true}
use Rattle.brace_model.specs.declared.fault.Fault.{Fault}
use Rattle.brace_model.specs.declared.job.Job.{Job}
use Rattle.brace_model.specs.World.{World}
use Rattle.brace_model.specs.Run.{end_of}
use Rattle.brace_model.specs.Published.{published}
use Rattle.brace_audit.specs.declared.fault.AuditFault.{AuditFault}
use Rattle.brace_audit.specs.declared.fault.AuditFault.TheVariants as found
use Rattle.brace_audit.specs.Differs.{differs}

-- the first line that differs, where there is one, else how the run ends
abbrev pub judged : Option ℕ → Result World Fault → Result Unit AuditFault
judged (Some line) end = Err (found.Differs line)
judged None (Err fault) = Err (found.Fault fault)
judged None (Ok world) = Ok tt

-- what there is to find of a file, where there is one
abbrev pub outcome : Option (List ℕ) → Job → Result Unit AuditFault
outcome None job = Err found.Absent
outcome (Some file) job = judged (differs file (published job true)) (end_of job)

-- an answer is right, unless a call of the shelf failed or memory was refused
abbrev pub IsRight : Result Unit AuditFault → Result Unit AuditFault → Type 0
IsRight (Err found.Failed) right = Unit {0}
IsRight (Err found.NoMemory) right = Unit {0}
IsRight answer right = right ≡ answer
