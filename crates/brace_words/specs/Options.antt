-- The options and flags of a command line, and what each mode takes of them.
use Rattle.std.specs.Prelude.{◌-◌, ◌^◌, ◌==◌, List, [], ◌∷◌, Bool, true, not, ◌&&◌, ◌||◌, Option, Some, is_some, is_none, unwrap_or, bytes_eq, codes}
use Rattle.std.specs.List.{list_all}
use Rattle.clap.specs.Walk.{Text}
use Rattle.brace_words.specs.declared.line.Line.{Line}
use Rattle.brace_words.specs.declared.mode.Mode.{Mode}
use Rattle.brace_words.specs.Modes.{Use, needed, may, never, admits, modes_are}
use Rattle.brace_words.specs.Values.{is_name, is_number, is_link}

-- an option that takes a value: its name, and which texts are its values
pub record Form : Type 0 where
  pub name : Text
  pub is_value : Text → Bool

abbrev pub option : Text → (Text → Bool) → Form
option name is_value = record { name = name; is_value = is_value }

-- the options that take a value
abbrev pub options : List Form
options =
    option (codes "script") is_name
    ∷ option (codes "agents") is_name
    ∷ option (codes "from") is_name
    ∷ option (codes "ticks") (is_number 0 (2 ^ 32))
    ∷ option (codes "count") (is_number 0 (2 ^ 20))
    ∷ option (codes "seed") (is_number 0 (2 ^ 64 - 1))
    ∷ option (codes "every") (is_number 1 (2 ^ 32))
    ∷ option (codes "epoch") (is_number 1 16)
    ∷ option (codes "cuts") is_name
    ∷ option (codes "workers") (is_number 1 16)
    ∷ option (codes "order") (is_number 0 (2 ^ 64 - 1))
    ∷ option (codes "save") is_name
    ∷ option (codes "link") is_link
    ∷ option (codes "published") is_name
    ∷ option (codes "watch") is_name
    ∷ option (codes "strips") (is_number 1 64)
    ∷ []

-- the options that take none
abbrev pub flags : List Text
flags = codes "invert" ∷ codes "stats" ∷ []

-- whether a line has an option, and how the modes stand to it
pub record Stand : Type 0 where
  pub is_given : Line → Bool
  pub use_in : Mode → Use

-- the stands of `run`, of `resume`, of `check` and `fmt`, of `plan`, of `trial`, of `audit`, and of
-- `balance`
abbrev pub stand : (Line → Bool) → Use → Use → Use → Use → Use → Use → Use → Stand
stand is_given run resume judged plan trial audit balance =
    record { is_given = is_given; use_in = modes_are run resume judged plan trial audit balance }

-- the stands to each option
abbrev pub stands : List Stand
stands =
    stand (λ l. is_some l.script) needed needed needed needed never needed needed
    ∷ stand (λ l. is_some l.agents) needed never never never never needed needed
    ∷ stand (λ l. is_some l.from) never needed never never never never never
    ∷ stand (λ l. is_some l.ticks) needed needed never never needed needed never
    ∷ stand (λ l. is_some l.count) never never never never needed never never
    ∷ stand (λ l. is_some l.seed) may never never never may may never
    ∷ stand (λ l. is_some l.every) may may never never never may never
    ∷ stand (λ l. is_some l.epoch) may may never never may never never
    ∷ stand (λ l. is_some l.cuts) may may never never never never never
    ∷ stand (λ l. is_some l.workers) may may never never may never never
    ∷ stand (λ l. is_some l.order) may may never never may never never
    ∷ stand (λ l. l.invert) may may never may may never never
    ∷ stand (λ l. is_some l.save) may may never never never never never
    ∷ stand (λ l. l.stats) may may never never may never never
    ∷ stand (λ l. is_some l.link) may may never never never never never
    ∷ stand (λ l. is_some l.published) never never never never never needed never
    ∷ stand (λ l. is_some l.watch) may may never never never never never
    ∷ stand (λ l. is_some l.strips) never never never never never never needed
    ∷ []

-- the line has what its mode needs, and nothing that its mode does not take
abbrev pub has_its_options : Line → Bool
has_its_options line = list_all (λ s. admits (s.use_in line.mode) (s.is_given line)) stands

-- links are for one worker
abbrev pub links_one_worker : Line → Bool
links_one_worker line = is_none line.link || unwrap_or line.workers 1 == 1

-- two names, where both are given, are not the same
abbrev pub are_apart : Option Text → Option Text → Bool
are_apart (Some a) (Some b) = not (bytes_eq a b)
are_apart _ _ = true

-- the line has what its mode needs and nothing that its mode does not take, links one worker at
-- most, and does not save worlds and figures under one name
abbrev pub takes : Line → Bool
takes line = has_its_options line && (links_one_worker line && are_apart line.save line.watch)
