-- What a refusal of the parser tells of the tokens.
use Rattle.std.specs.Prelude.{◌≡◌, ◌⊎◌, ◌+◌, ◌≤◌, List, ◌++◌, ℕ, length, take, slice_get, Some, ⊤}
use Rattle.brace_tok.specs.declared.kinds.Token.{Token}
use Rattle.brace_syntax.specs.Depth.{NowhereDeep, FirstDeepAt}
use Rattle.brace_syntax.specs.Reads.{Reads}
use Rattle.brace_syntax.specs.declared.tree.Tree.{Tree}
use Rattle.brace_syntax.specs.declared.fault.SynFault.{SynFault}
use Rattle.brace_syntax.specs.declared.fault.SynFault.TheVariants.{NoReading, TooDeep, NoMemory}

-- the tokens are no script
abbrev pub NoScript : List ℕ → List Token → Type 0
NoScript src toks = (tree : Tree) → Reads src toks tree → ⊥

-- what the fault says of the tokens
abbrev pub Refuses : List ℕ → List Token → SynFault → Type 0
Refuses src toks NoMemory = ⊤
Refuses src toks (TooDeep at) = FirstDeepAt toks at
Refuses src toks (NoReading at) = NowhereDeep toks × NoScript src toks

-- the fault is that of tokens that are no script, or memory was refused
abbrev pub IsUnread : SynFault → Type 0
IsUnread NoMemory = ⊤
IsUnread (TooDeep at) = ⊥
IsUnread (NoReading at) = ⊤

-- some script begins with these tokens
pub record Begins (src : List ℕ) (toks : List Token) : Type 0 where
  pub more : List Token
  pub tree : Tree
  pub reads : Reads src (toks ++ more) tree

-- at this place stands the first token up to and including which no script begins with the tokens
pub record FirstUnfitAt (src : List ℕ) (toks : List Token) (at : ℕ) : Type 0 where
  pub number : ℕ
  pub token : Token
  pub stands : slice_get toks number ≡ Some token
  pub place : token.from ≡ at
  pub unfit : Begins src (take (number + 1) toks) → ⊥
  pub first : (n : ℕ) → n ≤ number → Begins src (take n toks)

-- at the place stands the first token that no script has there, or the source ends and some script
-- begins with all of it
abbrev pub IsPlace : List ℕ → List Token → ℕ → Type 0
IsPlace src toks at = FirstUnfitAt src toks at ⊎ (Begins src toks × (at ≡ length src))

-- a fault of tokens that are no script stands at the first of them that no script has there, or at
-- the end of the source
abbrev pub StandsIn : List ℕ → List Token → SynFault → Type 0
StandsIn src toks NoMemory = ⊤
StandsIn src toks (TooDeep at) = ⊤
StandsIn src toks (NoReading at) = IsPlace src toks at
