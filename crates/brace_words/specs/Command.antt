-- The command, as clap's definitions see it: a mode, options with one value, and flags.
use Rattle.std.specs.Prelude.{List, ◌∷◌, ◌++◌, map, fold, true, Some, codes}
use Rattle.clap.specs.Walk.{Rule, Text}
use Rattle.clap.specs.Simple.{App, new_app, new_rule, on_top, with_rule}
use Rattle.clap.specs.declared.builder.action.ArgAction.TheVariants.{Set, SetTrue}
use Rattle.brace_words.specs.Options.{flags, options}

-- the word that stands by itself
abbrev pub mode_rule : Rule
mode_rule = record (new_rule (codes "MODE")) { required = true; action = Some Set }

-- `--name value` or `--name=value`
abbrev pub option_rule : Text → Rule
option_rule name = record (new_rule name) { long = Some name; action = Some Set }

-- `--name`
abbrev pub flag_rule : Text → Rule
flag_rule name = record (new_rule name) { long = Some name; action = Some SetTrue }

-- a command that takes no program's name among its words, and has no help and no version flag
abbrev pub bare : App
bare = on_top (λ s. record s {
  no_binary_name = true;
  disable_help_flag = true;
  disable_version_flag = true;
}) (new_app (codes "brace"))

-- what may stand in the words
abbrev pub rules : List Rule
rules = mode_rule ∷ map (λ o. option_rule o.name) options ++ map flag_rule flags

-- the command with a mode, all options and all flags
abbrev pub brace : App
brace = fold with_rule bare rules
