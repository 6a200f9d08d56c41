-- The command that the words of a command line ask for.
use Rattle.std.specs.Prelude.{ℕ, List, Bool, true, false, ◌||◌, Option, Some, None, is_some, option_map, option_and_then, unwrap_or}
use Rattle.brace_words.specs.declared.line.Line.{Line}
use Rattle.brace_words.specs.declared.mode.Mode.{Mode}
use Rattle.brace_words.specs.declared.mode.Mode.TheVariants as mode
use Rattle.brace_words.specs.Lines.{line_of}

-- how a run is worked: how many ticks an epoch has, the number that draws the order of the parts'
-- work, whether effects are inverted, and whether counts are told at its end
pub record Manner : Type 0 where
  pub epoch : ℕ
  pub order : ℕ
  pub invert : Bool
  pub stats : Bool

-- where a run begins: anew at tick 0, with the agents of a file and the seed of its draws, or at
-- the tick, with the world and with the seed that the checkpoint of a name tells
pub data Start : Type 0 where
  Anew : List ℕ → ℕ → Start
  Resumed : List ℕ → Start

-- the file with which a run begins
abbrev pub start_file : Start → List ℕ
start_file (Anew agents seed) = agents
start_file (Resumed from) = from

-- a run begins anew; only then its first tick is published as any other
abbrev pub is_anew : Start → Bool
is_anew (Anew agents seed) = true
is_anew (Resumed from) = false

-- a run of a script up to a last tick, over the plane as a cut plan cuts it, or in one part; ticks
-- that `every` divides are published, and the last one; the world of each end of an epoch k is
-- saved as `NAME.k`, where a name is given; so are, as `WATCH.k`, the figures that the watch file
-- WATCH asks for, where one is named
pub record RunCommand : Type 0 where
  pub script : List ℕ
  pub start : Start
  pub cuts : Option (List ℕ)
  pub save : Option (List ℕ)
  pub watch : Option (List ℕ)
  pub ticks : ℕ
  pub every : ℕ
  pub manner : Manner

-- a run of the program's own script from so many made agents up to a last tick, with the seed of
-- the agents and of the draws
pub record TrialCommand : Type 0 where
  pub count : ℕ
  pub ticks : ℕ
  pub seed : ℕ
  pub manner : Manner

-- cuts of the plane into at most so many strips, over the agents of a file of a script's classes
pub record BalanceCommand : Type 0 where
  pub script : List ℕ
  pub agents : List ℕ
  pub strips : ℕ

-- whether the file of a name is what a run of a script publishes that begins anew with the agents
-- of a file
pub record AuditCommand : Type 0 where
  pub script : List ℕ
  pub agents : List ℕ
  pub published : List ℕ
  pub ticks : ℕ
  pub every : ℕ
  pub seed : ℕ

-- what the words ask for: a run, the canonical text of a script, whether a script is accepted, how
-- a script is run with inversion or without, a trial, balanced strips, or an audit
pub data Command : Type 0 where
  Run : RunCommand → Command
  Format : List ℕ → Command
  Check : List ℕ → Command
  Planning : List ℕ → Bool → Command
  Trial : TrialCommand → Command
  Balancing : BalanceCommand → Command
  Auditing : AuditCommand → Command

-- the name of a command's script; a trial has its own
abbrev pub script_in : Command → Option (List ℕ)
script_in (Run run) = Some run.script
script_in (Format name) = Some name
script_in (Check name) = Some name
script_in (Planning name invert) = Some name
script_in (Trial trial) = None
script_in (Balancing balance) = Some balance.script
script_in (Auditing audit) = Some audit.script

-- the name of the agent file of a command that runs no part
abbrev pub agents_in : Command → Option (List ℕ)
agents_in (Balancing balance) = Some balance.agents
agents_in (Auditing audit) = Some audit.agents
agents_in _ = None

-- the command may save files: it is a run that is given a name for its worlds or for figures
abbrev pub may_save : Option Command → Bool
may_save (Some (Run run)) = is_some run.save || is_some run.watch
may_save _ = false

-- how many workers words ask for: one where they are no line, and where it says nothing
abbrev pub workers_of : Option Line → ℕ
workers_of None = 1
workers_of (Some line) = unwrap_or line.workers 1

abbrev pub workers_asked : List (List ℕ) → ℕ
workers_asked words = workers_of (line_of words)

-- how a line's run is worked: in epochs of 16 ticks and by the order of 0, where it says nothing
abbrev pub manner_of : Line → Manner
manner_of line = record {
  epoch = unwrap_or line.epoch 16;
  order = unwrap_or line.order 0;
  invert = line.invert;
  stats = line.stats;
}

-- a run that begins anew, where the line names the agent file
abbrev pub anew_of : Line → Option Start
anew_of line = option_map (λ agents. Anew agents (unwrap_or line.seed 0)) line.agents

-- a run that is resumed, where the line names the checkpoint
abbrev pub resumed_of : Line → Option Start
resumed_of line = option_map Resumed line.from

-- the run that a line asks for, where it names the script, the file with which it begins and the
-- last tick
abbrev pub run_of : Line → Option (List ℕ) → Option Start → Option ℕ → Option Command
run_of line (Some script) (Some start) (Some ticks) = Some (Run (record {
  script = script;
  start = start;
  cuts = line.cuts;
  save = line.save;
  watch = line.watch;
  ticks = ticks;
  every = unwrap_or line.every 1;
  manner = manner_of line;
}))
run_of line _ _ _ = None

-- the trial that a line asks for, where it says how many agents are made, and the last tick
abbrev pub trial_of : Line → Option ℕ → Option ℕ → Option Command
trial_of line (Some count) (Some ticks) = Some (Trial (record {
  count = count;
  ticks = ticks;
  seed = unwrap_or line.seed 0;
  manner = manner_of line;
}))
trial_of line _ _ = None

-- the balanced strips that a line asks for, where it names the script and the agent file and says
-- how many strips there may be
abbrev pub balance_of : Option (List ℕ) → Option (List ℕ) → Option ℕ → Option Command
balance_of (Some script) (Some agents) (Some strips) =
    Some (Balancing (record { script = script; agents = agents; strips = strips }))
balance_of _ _ _ = None

-- the audit that a line asks for, where it names the script, the agent file and the published one
-- and says the last tick
abbrev pub audit_of : Line → Option (List ℕ) → Option (List ℕ) → Option (List ℕ) → Option ℕ
    → Option Command
audit_of line (Some script) (Some agents) (Some published) (Some ticks) = Some (Auditing (record {
  script = script;
  agents = agents;
  published = published;
  ticks = ticks;
  every = unwrap_or line.every 1;
  seed = unwrap_or line.seed 0;
}))
audit_of line _ _ _ _ = None

-- what a line of a mode asks for
abbrev pub asked : Line → Mode → Option Command
asked line mode.Run = run_of line line.script (anew_of line) line.ticks
asked line mode.Resume = run_of line line.script (resumed_of line) line.ticks
asked line mode.Fmt = option_map Format line.script
asked line mode.Check = option_map Check line.script
asked line mode.Plan = option_map (λ script. Planning script line.invert) line.script
asked line mode.Trial = trial_of line line.count line.ticks
asked line mode.Balance = balance_of line.script line.agents line.strips
asked line mode.Audit = audit_of line line.script line.agents line.published line.ticks

-- what a line asks for
abbrev pub command_in : Line → Option Command
command_in line = asked line line.mode

-- what words ask for, where they are a line
abbrev pub command_of : List (List ℕ) → Option Command
command_of words = option_and_then command_in (line_of words)
