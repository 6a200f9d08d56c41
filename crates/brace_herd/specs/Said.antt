-- What the queries of a part say, and their faults.
use Rattle.std.specs.Prelude.{ℕ, List, ◌++◌, if◌then◌else◌}
use Rattle.brace_model.specs.declared.fault.Fault.{Fault}
use Rattle.brace_model.specs.declared.world.Agent.{Agent}
use Rattle.brace_model.specs.Query.{Saying}
use Rattle.brace_eval.specs.Heard.{said_by, faults_by}
use Rattle.brace_invert.specs.Split.{forward_program, inverse_program}
use Rattle.brace_pieces.specs.declared.setting.Setting.{Setting}

-- what the queries say that a part evaluates over all that it holds: those of its own agents; with
-- inversion those of the forward program of its own, and of the inverse program of all
abbrev pub said_over : Setting → ℕ → List Agent → List Agent → List Saying
said_over s tick own held =
    let program = s.job.program in
    if s.invert
    then (said_by (forward_program program) s.job.seed tick held own
    ++ said_by (inverse_program program) s.job.seed tick held held)
    else said_by program s.job.seed tick held own

-- the faults of these queries
abbrev pub faults_over : Setting → ℕ → List Agent → List Agent → List Fault
faults_over s tick own held =
    let program = s.job.program in
    if s.invert
    then (faults_by (forward_program program) s.job.seed tick held own
    ++ faults_by (inverse_program program) s.job.seed tick held held)
    else faults_by program s.job.seed tick held own
