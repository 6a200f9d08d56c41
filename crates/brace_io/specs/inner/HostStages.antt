-- Where a shelf of host files stands; it tells no name and no place.
use Rattle.std.specs.Prelude.{None}
use Rattle.brace_io.specs.Shelves.{Stage, Idle, Reading, Writing, Stopped}
use Rattle.brace_io.specs.declared.dir_shelf.DirStage.{DirStage}
use Rattle.brace_io.specs.declared.dir_shelf.DirStage.TheVariants as at

-- the stage without names
abbrev pub host_stage : {F : Type 0} → DirStage F → Stage
host_stage at.Idle = Idle
host_stage (at.Reading file) = Reading None
host_stage (at.Writing file) = Writing None
host_stage at.Stopped = Stopped None
