-- What an audit knows in the midst of a run.
use Rattle.std.specs.Prelude.{◌≡◌, ◌≢◌, ◌≤◌, ℕ, ◌+◌, ◌-◌, List, Option, Some, Ok, Err, true}
use Rattle.brace_io.specs.Shelves.{Files, Stage, held_at}
use Rattle.brace_model.specs.declared.fault.Fault.{Fault}
use Rattle.brace_model.specs.declared.job.Job.{Job}
use Rattle.brace_model.specs.World.{World}
use Rattle.brace_model.specs.Published.{text_of_ticks}
use Rattle.brace_model.specs.Run.{world_after, end_of}
use Rattle.brace_audit.specs.declared.comparer.Comparer.{Comparer}
use Rattle.brace_audit.specs.declared.fault.AuditFault.{AuditFault}
use Rattle.brace_audit.specs.declared.fault.AuditFault.TheVariants as found
use Rattle.brace_audit.specs.Outcome.{outcome, IsRight}
use Rattle.brace_audit.specs.inner.Reading.{Compares}

-- the run came to the tick in the world, and the file begins with the text up to that tick
pub record Follows (held : Option Files) (stage : Stage) (name : List ℕ) (job : Job) (tick : ℕ)
    (world : World) (c : Comparer) : Type 0
  where
    pub begun : job.first ≤ tick
    pub within : tick - job.first ≤ job.last - job.first
    pub there : world_after job (tick - job.first) ≡ Ok world
    pub compares : Compares held stage name (text_of_ticks job true (tick - job.first + 1)) c

-- the error is right for the file, if it is held; it is not Absent, and a fault that it names is
-- the one in which the run ends
pub record Told (held : Option Files) (name : List ℕ) (job : Job) (e : AuditFault) : Type 0 where
  pub right : (file : List ℕ) → held_at held name ≡ Some file
      → IsRight (Err e) (outcome (Some file) job)
  pub present : e ≢ found.Absent
  pub faulted : (f : Fault) → e ≡ found.Fault f → end_of job ≡ Err f
