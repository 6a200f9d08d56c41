-- What a part hears and tells by its tables. Only the crate's own functions cite this.
use Rattle.std.specs.Prelude.{◌≡◌, ℕ, ℤ, unsigned_abs, List, [], ◌∷◌, ◌++◌, flat_map}
use Rattle.std.specs.List.{Contains}
use Rattle.brace_model.specs.declared.program.Comb.{Comb}
use Rattle.brace_model.specs.declared.program.Program.{Program}
use Rattle.brace_model.specs.declared.world.Agent.{Agent}
use Rattle.brace_model.specs.World.{class_of}
use Rattle.brace_model.specs.Query.{Saying}
use Rattle.brace_comb.specs.declared.entry.Entry.{Entry}
use Rattle.brace_comb.specs.Totals.{tally}
use Rattle.brace_eval.specs.Heard.{AreTold}
use Rattle.brace_cuts.specs.declared.space.Cuts.{Cuts}
use Rattle.brace_pieces.specs.declared.piece.Piece.{Piece}
use Rattle.brace_pieces.specs.declared.piece.Piece.TheVariants.{Effects}
use Rattle.brace_pieces.specs.Owned.{owned}
use Rattle.brace_pieces.specs.Right.{Share, shares_to}

-- the shares of the agents of a list that a part owns
abbrev pub shares_in : Program → Cuts → ℕ → List Agent → List Saying → List Share
shares_in program cuts to held said =
    flat_map (λ b. shares_to said b (class_of program b)) (owned program cuts to held)

-- the share of an effect, from the number and the count of its total
abbrev pub share_with : ℕ → ℕ → Comb → ℤ → ℤ → Share
share_with target field comb number count = record {
  target = target;
  field = field;
  total = record { comb = comb; number = number; count = unsigned_abs count };
}

-- an entry tells of values said to an effect of an agent of a list
pub record TellsOf (program : Program) (held : List Agent) (entry : Entry) (told : List Saying)
    : Type 0 where
  pub agent : Agent
  pub is_held : Contains held agent
  pub is_target : agent.id ≡ entry.target
  pub values : AreTold program agent entry.field (tally entry.total).number
      (tally entry.total).count told

-- entries tell of values said, entry by entry
pub data TellsBy (program : Program) (held : List Agent) : List Entry → List Saying → Type 0 where
  no_entry : TellsBy program held [] []
  one_entry : (entry : Entry) (entries : List Entry) (told more : List Saying)
      → TellsOf program held entry told → TellsBy program held entries more
      → TellsBy program held (entry ∷ entries) (told ++ more)

-- pieces tell of values said, piece by piece
pub data TellBy (program : Program) (held : List Agent) : List Piece → List Saying → Type 0 where
  no_piece : TellBy program held [] []
  one_piece : (entries : List Entry) (pieces : List Piece) (told more : List Saying)
      → TellsBy program held entries told → TellBy program held pieces more
      → TellBy program held (Effects entries ∷ pieces) (told ++ more)

-- a piece tells of no values
abbrev pub IsSilent : Piece → Type 0
IsSilent piece = (entries : List Entry) → piece ≡ Effects entries → entries ≡ []
