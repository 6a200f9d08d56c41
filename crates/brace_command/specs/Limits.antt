-- The most bytes of the files that a command reads.
use Rattle.std.specs.Prelude.{ℕ}

-- the most bytes of a script
abbrev pub script_limit : ℕ
script_limit = 1048576

-- the most bytes of an agent file
abbrev pub agents_limit : ℕ
agents_limit = 268435456

-- the most bytes of a cut plan
abbrev pub plan_limit : ℕ
plan_limit = 1048576

-- the most bytes of a watch file
abbrev pub watch_limit : ℕ
watch_limit = 1048576

-- the most bytes of a checkpoint
abbrev pub checkpoint_limit : ℕ
checkpoint_limit = 268435456
