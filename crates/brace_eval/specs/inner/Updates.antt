-- The stops of an update, one outcome after another. Only the crate's own functions cite this.
use Rattle.std.specs.Prelude.{◌≡◌, List, [], ◌∷◌, ◌++◌, map, zip, Option, Some, None}
use Rattle.brace_model.specs.declared.fault.Stop.{Stop}
use Rattle.brace_model.specs.declared.program.Gift.{Gift}
use Rattle.brace_model.specs.declared.program.State.{State}
use Rattle.brace_model.specs.declared.program.Value.{Value}
use Rattle.brace_model.specs.Value.{Scope, Worth, value}
use Rattle.brace_model.specs.Next.{first_stop, ruled}

-- the stop of the least site, after some outcomes more
abbrev pub Meets : List Worth → Option Stop → Option Stop → Type 0
Meets outcomes before after =
    (met : List Worth) → before ≡ first_stop met → after ≡ first_stop (met ++ outcomes)

-- what the rules of states come to over their values
abbrev pub worths : Scope → List State → List Value → List Worth
worths scope states values = map (λ p. ruled scope p.0.rule p.1) (zip states values)

-- what gifts come to
abbrev pub gift_worths : Scope → List Gift → List Worth
gift_worths scope gifts = map (λ g. value g.value scope) gifts

-- a list, and behind it one element that may be there
abbrev pub with_one : {A : Type 0} → List A → Option A → List A
with_one xs None = xs
with_one xs (Some x) = xs ++ x ∷ []
