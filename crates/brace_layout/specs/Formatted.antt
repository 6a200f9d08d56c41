-- What it is that the canonical text of a script is resolved.
use Rattle.brace_show.specs.Alike.{Alike}
use Rattle.brace_show.specs.Canonical.{canonical}
use Rattle.brace_names.specs.declared.resolved.Resolved.{Resolved}
use Rattle.brace_check.specs.Resolved.{IsResolved}

-- the canonical text of the script is resolved, as the same script apart from places
pub record IsFormatted (r : Resolved) : Type 0 where
  pub again : Resolved
  pub resolved : IsResolved (canonical r.tree) again
  pub alike : Alike r.tree again.tree
