-- A run that is begun anew from one of its own worlds.
use Rattle.std.specs.Prelude.{◌≡◌, ℕ, List, if◌then◌else◌, Some, Ok}
use Rattle.brace_io.specs.Shelves.{Files}
use Rattle.brace_cuts.specs.declared.plan.CutPlan.{CutPlan}
use Rattle.brace_model.specs.declared.job.Job.{Job}
use Rattle.brace_model.specs.declared.program.Program.{Program}
use Rattle.brace_model.specs.Next.{has_births}
use Rattle.brace_model.specs.World.{World, world_of}
use Rattle.brace_save.specs.Lines.{IsText}
use Rattle.brace_watch.specs.declared.kinds.Watch.{Watch}
use Rattle.brace_command.specs.Commands.{RunCommand, Resumed}
use Rattle.brace_command.specs.Outcome.{ProgramOf, plan_of, watches_of}

-- the same run from the world of a tick on
abbrev pub from_tick : Job → ℕ → World → Job
from_tick job tick world = record job { first = tick; start = world }

-- what a checkpoint tells of a world: all of it where a class bears children, else its agents, as
-- the next free id plays no part then
abbrev pub told_world : Program → World → World
told_world program world = if has_births program then world else world_of world.agents

-- over these files a run is resumed from the world that the run of a job has at a tick: a
-- checkpoint of it is held, the script means the job's program, and the last tick and the published
-- ticks are the job's; how the plane is cut, what is watched, and how the run is worked, is its own
pub record GoesOn (files : Files) (job : Job) (tick : ℕ) (world : World) (run : RunCommand) : Type 0
  where
    pub name : List ℕ
    pub begins : run.start ≡ Resumed name
    pub bytes : List ℕ
    pub held : files name ≡ Some bytes
    pub tells : IsText job.program (record {
      tick = tick;
      seed = job.seed;
      world = told_world job.program world;
    }) bytes
    pub means : ProgramOf files run.script (Ok job.program)
    pub plan : CutPlan
    pub cut : plan_of files run.manner.epoch run.cuts ≡ Ok plan
    pub watches : List Watch
    pub watched : watches_of files job.program run.watch ≡ Ok watches
    pub last : run.ticks ≡ job.last
    pub every : run.every ≡ job.every
