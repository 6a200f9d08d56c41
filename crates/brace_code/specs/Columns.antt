-- Columns: what operations, splits and merges of lanes make of them.
use Rattle.std.specs.Prelude.{◌≡◌, ◌≢◌, ◌<◌, ℕ, ℤ, pos, Bool, true, false, not, if◌then◌else◌, List, [], ◌∷◌, ◌++◌, length, map, ⊤, Result, Ok, slice_index_or}
use Rattle.std.specs.Ordering.{int_eq}
use Rattle.brace_num.specs.declared.kinds.Kind.{Kind}
use Rattle.brace_model.specs.Value.{Scope}
use Rattle.brace_code.specs.declared.lane.Lane.{Lane}
use Rattle.brace_code.specs.declared.lane.Frame.{Frame}
use Rattle.brace_code.specs.declared.code.Operand.{Operand}
use Rattle.brace_code.specs.declared.view.View.{View}
use Rattle.brace_code.specs.declared.view.View.TheVariants.{Same, Each, At}
use Rattle.brace_code.specs.declared.kernels.First.{First}
use Rattle.brace_code.specs.declared.kernels.First.TheVariants as first
use Rattle.brace_code.specs.declared.splitting.SideWords.{SideWords}
use Rattle.brace_code.specs.declared.splitting.SideWords.TheVariants as sides
use Rattle.brace_code.specs.Lanes.{Shows, number_in}
use Rattle.brace_code.specs.inner.Words.{Outcome}
use Rattle.brace_code.specs.inner.Runs.{Deed}

-- the lane where there is none
abbrev pub no_lane : Lane
no_lane = record { this = 0; outer = 0; inner = 0; place = 0 }

-- each lane's scope has an outcome that is a word, the one that the column has there
pub record Words (frame : Frame) (f : Scope → Outcome) (lanes : List Lane) (column : List ℤ)
    : Type 0 where
  pub long : length column ≡ length lanes
  pub each : (scope : Lane → Scope) → Shows frame scope → (k : ℕ) (d : Lane) → k < length lanes
      → f (scope (slice_index_or lanes k d)) ≡ Ok (slice_index_or column k (pos 0))

-- a column has the number that each lane's scope has for an operand
pub record Numbers (frame : Frame) (operand : Operand) (lanes : List Lane) (column : List ℤ)
    : Type 0 where
  pub long : length column ≡ length lanes
  pub each : (scope : Lane → Scope) → Shows frame scope → (k : ℕ) (d : Lane) → k < length lanes
      → number_in (scope (slice_index_or lanes k d)) operand ≡ slice_index_or column k (pos 0)

-- an operation on each word of a column
pub record Maps (op : ℤ → Result ℤ Kind) (a c : List ℤ) : Type 0 where
  pub long : length c ≡ length a
  pub each : (k : ℕ) → k < length a
      → op (slice_index_or a k (pos 0)) ≡ Ok (slice_index_or c k (pos 0))

-- the word that a view has for the lane of a number
abbrev pub seen : View → ℕ → ℤ
seen (Same word) k = word
seen (Each words) k = slice_index_or words.now k (pos 0)
seen (At column rows) k = slice_index_or column.now (slice_index_or rows.now k 0) (pos 0)

-- a view has a word for the lane of a number
abbrev pub Sees : View → ℕ → Type 0
Sees (Same word) k = ⊤
Sees (Each words) k = k < length words.now
Sees (At column rows) k =
    (k < length rows.now) × (slice_index_or rows.now k 0 < length column.now)

-- the words that an operation has before those that it reads
abbrev pub firsts : First → List ℤ
firsts (first.Own words) = words
firsts (first.At column rows) = map (λ row. slice_index_or column.now row (pos 0)) rows.now

-- an operation has a first word for the lane of a number
abbrev pub HasFirst : First → ℕ → Type 0
HasFirst (first.Own words) k = ⊤
HasFirst (first.At column rows) k = slice_index_or rows.now k 0 < length column.now

-- an operation on the words of a column and on others, pairwise
pub record Pairs (op : ℤ → ℤ → Result ℤ Kind) (a : List ℤ) (b : ℕ → ℤ) (c : List ℤ)
    : Type 0 where
  pub long : length c ≡ length a
  pub each : (k : ℕ) → k < length a
      → op (slice_index_or a k (pos 0)) (b k) ≡ Ok (slice_index_or c k (pos 0))

-- an operation on the words of a column and on the words that outcomes are in each lane's scope
pub record Joins (frame : Frame) (f : Scope → Outcome) (op : ℤ → ℤ → Result ℤ Kind)
    (lanes : List Lane) (a c : List ℤ) : Type 0 where
  pub long : length c ≡ length a
  pub each : (scope : Lane → Scope) → Shows frame scope → (k : ℕ) (d : Lane) → k < length lanes
      → (b : ℤ) × (f (scope (slice_index_or lanes k d)) ≡ Ok b)
      × (op (slice_index_or a k (pos 0)) b ≡ Ok (slice_index_or c k (pos 0)))

-- the lanes whose word is set, or those whose word is 0
abbrev pub side : Bool → ℤ → Bool
side set t = if int_eq t (pos 0) then not set else set

abbrev pub taking : Bool → List Lane → List ℤ → List Lane
taking set [] ts = []
taking set (lane ∷ lanes) [] = []
taking set (lane ∷ lanes) (t ∷ ts) = (if side set t then lane ∷ [] else []) ++ taking set lanes ts

-- the numbers of those of the first lanes whose words are on a side of a test
pub record AreNumbers (set : Bool) (ts : List ℤ) (count : ℕ) (numbers : List ℕ) : Type 0 where
  pub are : (i : ℕ) → i < length numbers → (slice_index_or numbers i 0 < count)
      × (side set (slice_index_or ts (slice_index_or numbers i 0) (pos 0)) ≡ true)
  pub all : (k : ℕ) → k < count → side set (slice_index_or ts k (pos 0)) ≡ true
      → (i : ℕ) × (i < length numbers) × (slice_index_or numbers i 0 ≡ k)

-- lanes are those of some numbers
pub record ArePicked (lanes : List Lane) (numbers : List ℕ) (part : List Lane) : Type 0 where
  pub long : length part ≡ length numbers
  pub each : (i : ℕ) (d : Lane) → i < length numbers → (slice_index_or numbers i 0 < length lanes)
      × (slice_index_or part i d ≡ slice_index_or lanes (slice_index_or numbers i 0) d)

-- a word is the one that all lanes of a side have, if they have one
abbrev pub IsSame : SideWords → ℤ → Type 0
IsSame (sides.Same word) w = w ≡ word
IsSame (sides.Each numbers words) w = ⊤

-- a side of a test has a word for the lane of a number
abbrev pub HasWord : SideWords → ℕ → ℤ → Type 0
HasWord (sides.Same word) k w = w ≡ word
HasWord (sides.Each numbers words) k w = (i : ℕ) × (i < length numbers)
    × (slice_index_or numbers i 0 ≡ k) × (w ≡ slice_index_or words i (pos 0))

-- where the lanes of a side have a word each, they are those of the side
abbrev pub IsSide : Bool → List ℤ → SideWords → Type 0
IsSide set ts (sides.Same word) = ⊤
IsSide set ts (sides.Each numbers words) = AreNumbers set ts (length ts) numbers

-- words were put in the places of the first of some numbers, and what stands elsewhere is left
pub record ArePut (numbers : List ℕ) (words : List ℤ) (count : ℕ) (old new : List ℤ)
    : Type 0 where
  pub long : length new ≡ length old
  pub put : (i : ℕ) → i < count → HasWord (sides.Each numbers words) (slice_index_or numbers i 0)
      (slice_index_or new (slice_index_or numbers i 0) (pos 0))
  pub left : (k : ℕ) → ((i : ℕ) → i < count → slice_index_or numbers i 0 ≢ k)
      → slice_index_or new k (pos 0) ≡ slice_index_or old k (pos 0)

-- the words of a side were put in the places of its lanes
abbrev pub Puts : SideWords → List ℤ → List ℤ → Type 0
Puts (sides.Same word) old new = new ≡ old
Puts (sides.Each numbers words) old new = ArePut numbers words (length numbers) old new

-- each lane has a word of the side on which its test is
pub record AreMerged (ts : List ℤ) (ys ns : SideWords) (words : List ℤ) : Type 0 where
  pub long : length words ≡ length ts
  pub set : (k : ℕ) → k < length ts → side true (slice_index_or ts k (pos 0)) ≡ true
      → HasWord ys k (slice_index_or words k (pos 0))
  pub unset : (k : ℕ) → k < length ts → side false (slice_index_or ts k (pos 0)) ≡ true
      → HasWord ns k (slice_index_or words k (pos 0))

-- a word that a side has for a lane is the outcome in the lane's scope
pub record Serves (frame : Frame) (f : Scope → Outcome) (lanes : List Lane) (s : SideWords)
    : Type 0 where
  pub each : (scope : Lane → Scope) → Shows frame scope → (k : ℕ) (d : Lane) (w : ℤ)
      → k < length lanes → HasWord s k w → f (scope (slice_index_or lanes k d)) ≡ Ok w

-- the stack of one lane, of a stack of columns
abbrev pub stack_at : List (List ℤ) → ℕ → List ℤ
stack_at columns k = map (λ column. slice_index_or column k (pos 0)) columns

-- in each lane's scope, a deed leads from one stack of columns to another
pub record Leads (deed : Deed) (room : ℕ) (frame : Frame) (lanes : List Lane)
    (before after : List (List ℤ)) : Type 0 where
  pub each : (scope : Lane → Scope) → Shows frame scope → (k : ℕ) (d : Lane) → k < length lanes
      → deed room (scope (slice_index_or lanes k d)) (stack_at before k) ≡ Ok (stack_at after k)
