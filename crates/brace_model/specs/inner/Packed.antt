-- Agents as heads and blocks of words.
use Rattle.std.specs.Prelude.{◌≡◌, ℕ, ◌<◌, ◌≤◌, ◌+◌, ℤ, List, [], map, length, take, drop, slice_index_or}
use Rattle.std.specs.List.{All}
use Rattle.brace_model.specs.declared.program.Ty.{Ty}
use Rattle.brace_model.specs.declared.world.Agent.{Agent}
use Rattle.brace_model.specs.declared.stored.Block.{Block}
use Rattle.brace_model.specs.declared.stored.Spot.{Spot}
use Rattle.brace_model.specs.declared.heads.Head.{Head}
use Rattle.brace_model.specs.Words.{agent_with}

-- what stands where there is no block
abbrev pub no_block : Block
no_block = record { class = 0; types = []; words = [] }

-- the block of a head
abbrev pub block_of : List Block → Head → Block
block_of blocks head = slice_index_or blocks head.block no_block

-- the agent of a head
abbrev pub agent_of : List Block → Head → Agent
agent_of blocks head =
    let block = block_of blocks head in
    agent_with block.class head.id block.types (drop head.start block.words)

-- the agents of heads
abbrev pub agents_of : List Block → List Head → List Agent
agents_of blocks heads = map (agent_of blocks) heads

-- a head's block is there, and a word for each type of it
pub record IsWithin (blocks : List Block) (head : Head) : Type 0 where
  pub there : head.block < length blocks
  pub long : head.start + length (block_of blocks head).types ≤ length (block_of blocks head).words

-- those of all heads are
abbrev pub AreWithin : List Block → List Head → Type 0
AreWithin blocks heads = All (IsWithin blocks) heads

-- a head whose block stands behind so many others
abbrev pub shifted : ℕ → Head → Head
shifted by head = record { id = head.id; block = by + head.block; start = head.start }

-- a block is one of a class and of types
pub record IsBlock (class : ℕ) (types : List Ty) (block : Block) : Type 0 where
  pub of_class : block.class ≡ class
  pub of_types : block.types ≡ types

-- such a block is at a place
pub record HasBlock (blocks : List Block) (class : ℕ) (types : List Ty) (place : ℕ) : Type 0 where
  pub there : place < length blocks
  pub block : IsBlock class types (slice_index_or blocks place no_block)

-- a block that may have got more words
pub record IsGrown (old new : Block) : Type 0 where
  pub same_class : new.class ≡ old.class
  pub same_types : new.types ≡ old.types
  pub same_words : take (length old.words) new.words ≡ old.words

-- blocks that may have got more words, and more blocks behind them
pub record AreGrown (old new : List Block) : Type 0 where
  pub many : length old ≤ length new
  pub each : (k : ℕ) → k < length old
      → IsGrown (slice_index_or old k no_block) (slice_index_or new k no_block)

-- words end a block of a class and of types, and begin there at a spot
pub record IsStored (blocks : List Block) (class : ℕ) (types : List Ty) (words : List ℤ)
    (spot : Spot) : Type 0 where
  pub block : HasBlock blocks class types spot.block
  pub within : spot.start ≤ length (slice_index_or blocks spot.block no_block).words
  pub end : drop spot.start (slice_index_or blocks spot.block no_block).words ≡ words
