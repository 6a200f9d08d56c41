-- A run: from the start world tick by tick, up to the last tick or to the first fault.
use Rattle.std.specs.Prelude.{ℕ, zero, suc, ◌+◌, ◌-◌, Option, Result, Ok, Err}
use Rattle.std.specs.Result.{result_err}
use Rattle.brace_model.specs.declared.fault.Fault.{Fault}
use Rattle.brace_model.specs.declared.job.Job.{Job}
use Rattle.brace_model.specs.World.{World}
use Rattle.brace_model.specs.Step.{step}

-- one more tick of a world, or the fault that the run ended in before
abbrev pub stepped : Job → ℕ → Result (World) Fault → Result (World) Fault
stepped job tick (Ok world) = step job.program job.seed tick world
stepped job tick (Err fault) = Err fault

-- the world of a job n ticks after its first one, or the run's first fault where that came before
unfoldable pub world_after : Job → ℕ → Result (World) Fault
world_after job zero = Ok job.start
world_after job (suc n) = stepped job (job.first + n) (world_after job n)

-- how the run of a job ends: in the world of its last tick, or in its first fault; where the last
-- tick is not after the first one the start world is all
abbrev pub end_of : Job → Result (World) Fault
end_of job = world_after job (job.last - job.first)

-- the run's first fault, where it ends in one
abbrev pub first_fault : Job → Option Fault
first_fault job = result_err (end_of job)
