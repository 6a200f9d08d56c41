-- What modes that run nothing share.
use Rattle.std.specs.Prelude.{Bool, not, ◌&&◌, is_none}
use Rattle.brace_words.specs.declared.line.Line.{Line}

-- nothing is said of how a run is worked
abbrev pub is_unworked : Line → Bool
is_unworked line =
    is_none line.epoch && (is_none line.cuts && (is_none line.workers && (is_none line.order
    && (is_none line.save && (not line.stats && (is_none line.link && is_none line.watch))))))

-- nothing is said of a run: where it begins, how far it goes, what is published of it
abbrev pub is_runless : Line → Bool
is_runless line =
    is_none line.from && (is_none line.ticks && (is_none line.count && (is_none line.seed
    && (is_none line.every && is_none line.published))))

-- nothing is said but the script and inversion
abbrev pub is_bare : Line → Bool
is_bare line =
    is_none line.agents && (is_runless line && (is_none line.strips && is_unworked line))
