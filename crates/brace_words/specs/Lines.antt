-- The line that words are, by clap's definition of what a simple command finds in them.
use Rattle.std.specs.Prelude.{◌≡◌, ◌≤◌, ◌^◌, List, Bool, true, if◌then◌else◌, Option, None, Some, IfSome, codes, option_and_then}
use Rattle.std.specs.List.{list_all}
use Rattle.clap.specs.Walk.{Row, Text, first_of, is_empty}
use Rattle.clap.specs.Simple.{matches_of}
use Rattle.clap.specs.Faults.{fault_of}
use Rattle.brace_words.specs.declared.line.Line.{Line}
use Rattle.brace_words.specs.declared.mode.Mode.{Mode}
use Rattle.brace_words.specs.Command.{brace}
use Rattle.brace_words.specs.Modes.{mode_named}
use Rattle.brace_words.specs.Options.{options, takes}
use Rattle.brace_words.specs.Values.{Found, is_absent_or, is_link, is_set, number_in}

-- each text that stands for an option is a value of it
abbrev pub has_values : Found → Bool
has_values found = list_all (λ o. is_absent_or o.is_value (found o.name)) options

-- what was found, as a line of a mode
abbrev pub said_by : Found → Mode → Line
said_by found mode = record {
  mode = mode;
  script = found (codes "script");
  agents = found (codes "agents");
  from = found (codes "from");
  ticks = number_in found (codes "ticks");
  count = number_in found (codes "count");
  seed = number_in found (codes "seed");
  every = number_in found (codes "every");
  epoch = number_in found (codes "epoch");
  cuts = found (codes "cuts");
  workers = number_in found (codes "workers");
  order = number_in found (codes "order");
  invert = is_set found (codes "invert");
  save = found (codes "save");
  stats = is_set found (codes "stats");
  link = found (codes "link");
  published = found (codes "published");
  watch = found (codes "watch");
  strips = number_in found (codes "strips");
}

-- the same, where each text is a value of its option
abbrev pub line_in : Found → Mode → Option Line
line_in found mode = if has_values found then Some (said_by found mode) else None

-- the line that was found, where what stands alone names a mode
abbrev pub line_found : Found → Option Line
line_found found =
    option_and_then (line_in found) (option_and_then mode_named (found (codes "MODE")))

-- a line that has what its mode takes
abbrev pub taken : Line → Option Line
taken line = if takes line then Some line else None

-- what clap's rows have for each name
abbrev pub by_name : List Row → Found
by_name rows name = first_of name rows

-- the line that words are, where clap takes them
unfoldable pub line_of : List Text → Option Line
line_of words =
    if is_empty (fault_of brace words)
    then option_and_then taken (line_found (by_name (matches_of brace words))) else None

-- the numbers of a line are within the limits of their options, and its letters are a link's
pub record IsInRange (line : Line) : Type 0 where
  pub ticks : IfSome line.ticks (λ n. n ≤ 2 ^ 32)
  pub count : IfSome line.count (λ n. n ≤ 2 ^ 20)
  pub every : IfSome line.every (λ n. (1 ≤ n) × (n ≤ 2 ^ 32))
  pub epoch : IfSome line.epoch (λ n. (1 ≤ n) × (n ≤ 16))
  pub workers : IfSome line.workers (λ n. (1 ≤ n) × (n ≤ 16))
  pub strips : IfSome line.strips (λ n. (1 ≤ n) × (n ≤ 64))
  pub link : IfSome line.link (λ letters. is_link letters ≡ true)
