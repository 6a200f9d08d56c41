-- What is known of a script with what its names stand for, where a source is read and resolved.
use Rattle.std.specs.Prelude.{◌≡◌, ℕ, List, []}
use Rattle.brace_tok.specs.declared.kinds.Token.{Token}
use Rattle.brace_tok.specs.Spells.{Spells}
use Rattle.brace_syntax.specs.Reads.{Reads}
use Rattle.brace_names.specs.declared.resolved.Resolved.{Resolved}
use Rattle.brace_names.specs.Faults.{faults, bindings}

-- the source has these tokens, which are read as the script; its names have no fault, and stand for
-- what they are bound to
pub record IsResolved (src : List ℕ) (r : Resolved) : Type 0 where
  pub toks : List Token
  pub spelled : Spells src toks
  pub read : Reads src toks r.tree
  pub bound : r.bindings ≡ bindings r.tree
  pub faultless : faults r.tree ≡ []
