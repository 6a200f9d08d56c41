-- What clap's getters read of its matches.
use Rattle.clap.specs.Matches.{first_value, found_of}
use Rattle.clap.specs.declared.parser.matches.ArgMatches.{ArgMatches}
use Rattle.brace_words.specs.Values.{Found}

-- the first value of each name
abbrev pub found_in : ArgMatches → Found
found_in matches = first_value (found_of matches)
