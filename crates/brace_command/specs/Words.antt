-- The command that the code read, as the definitions see it.
use Rattle.std.specs.Prelude.{◌≡◌, ◌≤◌, ◌^◌, ℕ, List, Some, None, Result, IfOk, IfErr, IfSome, option_map, true, ⊤}
use Rattle.brace_words.specs.declared.line.Line.{Line}
use Rattle.brace_words.specs.declared.fault.LineFault.{LineFault}
use Rattle.brace_words.specs.declared.fault.LineFault.TheVariants as line_fault
use Rattle.brace_words.specs.Lines as lines
use Rattle.brace_words.specs.Lines.{line_of}
use Rattle.brace_words.specs.Values.{is_link}
use Rattle.brace_command.specs.declared.answer.Stopped.{Stopped}
use Rattle.brace_command.specs.declared.answer.Stopped.TheVariants as stopped
use Rattle.brace_command.specs.declared.command.AuditCommand.{AuditCommand as CodeAudit}
use Rattle.brace_command.specs.declared.command.BalanceCommand.{BalanceCommand as CodeBalance}
use Rattle.brace_command.specs.declared.command.Command.{Command as CodeCommand}
use Rattle.brace_command.specs.declared.command.Command.TheVariants as code
use Rattle.brace_command.specs.declared.command.Manner.{Manner as CodeManner}
use Rattle.brace_command.specs.declared.command.RunCommand.{RunCommand as CodeRun}
use Rattle.brace_command.specs.declared.command.Start.{Start as CodeStart}
use Rattle.brace_command.specs.declared.command.Start.TheVariants as begun
use Rattle.brace_command.specs.declared.command.TrialCommand.{TrialCommand as CodeTrial}
use Rattle.brace_command.specs.Commands.{Command, Manner, RunCommand, TrialCommand, BalanceCommand, AuditCommand, Start, Anew, Resumed, Run, Format, Check, Planning, Trial, Balancing, Auditing, command_of}

-- a line, or why there is none, is what words were read as
pub record IsReadAs (words : List (List ℕ)) (line : Result Line LineFault) : Type 0 where
  pub line_is : IfOk line (λ l. line_of words ≡ Some l)
  pub none_is : IfErr line (λ fault. fault ≡ line_fault.Usage → line_of words ≡ None)
  pub bounds : IfOk line lines.IsInRange

-- why no command was read of words: they ask for none, or memory was refused
abbrev pub IsUnasked : List (List ℕ) → Stopped → Type 0
IsUnasked words stopped.Usage = command_of words ≡ None
IsUnasked words stopped.NoMemory = ⊤
IsUnasked words stop = ⊥

-- how a run is worked
abbrev pub said_manner : CodeManner → Manner
said_manner manner = record {
  epoch = manner.epoch;
  order = manner.order;
  invert = manner.invert;
  stats = manner.stats;
}

-- where a run begins
abbrev pub said_start : CodeStart → Start
said_start (begun.Anew agents seed) = Anew agents.now seed
said_start (begun.Resumed from) = Resumed from.now

-- what a run asks for
abbrev pub said_run : CodeRun → RunCommand
said_run run = record {
  script = run.script.now;
  start = said_start run.start;
  cuts = option_map (λ name. name.now) run.cuts;
  save = option_map (λ name. name.now) run.save;
  watch = option_map (λ name. name.now) run.watch;
  ticks = run.ticks;
  every = run.every;
  manner = said_manner run.manner;
}

-- what a trial asks for
abbrev pub said_trial : CodeTrial → TrialCommand
said_trial trial = record {
  count = trial.count;
  ticks = trial.ticks;
  seed = trial.seed;
  manner = said_manner trial.manner;
}

-- what balanced strips are asked for
abbrev pub said_balance : CodeBalance → BalanceCommand
said_balance balance = record {
  script = balance.script.now;
  agents = balance.agents.now;
  strips = balance.strips;
}

-- what an audit asks for
abbrev pub said_audit : CodeAudit → AuditCommand
said_audit audit = record {
  script = audit.script.now;
  agents = audit.agents.now;
  published = audit.published.now;
  ticks = audit.ticks;
  every = audit.every;
  seed = audit.seed;
}

-- what a command asks for
abbrev pub said : CodeCommand → Command
said (code.Run run) = Run (said_run run)
said (code.Format script) = Format script.now
said (code.Check script) = Check script.now
said (code.Plan script invert) = Planning script.now invert
said (code.Trial trial) = Trial (said_trial trial)
said (code.Balance balance) = Balancing (said_balance balance)
said (code.Audit audit) = Auditing (said_audit audit)

-- epochs have 1 to 16 ticks
pub record IsMannerInRange (manner : CodeManner) : Type 0 where
  pub some_ticks : 1 ≤ manner.epoch
  pub few_ticks : manner.epoch ≤ 16

-- the last tick of a run is within the limit, some tick is published, and its letters are a link's
pub record IsRunInRange (run : CodeRun) : Type 0 where
  pub ticks : run.ticks ≤ 2 ^ 32
  pub every : 1 ≤ run.every
  pub link : IfSome run.link (λ letters. is_link letters.now ≡ true)
  pub manner : IsMannerInRange run.manner

-- the agents and the last tick of a trial are within their limits
pub record IsTrialInRange (trial : CodeTrial) : Type 0 where
  pub count : trial.count ≤ 2 ^ 20
  pub ticks : trial.ticks ≤ 2 ^ 32
  pub manner : IsMannerInRange trial.manner

-- there may be 1 to 64 strips
pub record IsBalanceInRange (balance : CodeBalance) : Type 0 where
  pub some_strips : 1 ≤ balance.strips
  pub few_strips : balance.strips ≤ 64

-- the last tick of an audit is within the limit, and some tick is published
pub record IsAuditInRange (audit : CodeAudit) : Type 0 where
  pub ticks : audit.ticks ≤ 2 ^ 32
  pub every : 1 ≤ audit.every

-- the numbers of a command are in range
abbrev pub IsInRange : CodeCommand → Type 0
IsInRange (code.Run run) = IsRunInRange run
IsInRange (code.Format script) = ⊤
IsInRange (code.Check script) = ⊤
IsInRange (code.Plan script invert) = ⊤
IsInRange (code.Trial trial) = IsTrialInRange trial
IsInRange (code.Balance balance) = IsBalanceInRange balance
IsInRange (code.Audit audit) = IsAuditInRange audit
