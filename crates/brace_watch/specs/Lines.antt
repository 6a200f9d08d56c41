-- The lines of a watch file as they are written: `count CLASS`, or `sum`, `min` or `max` with
-- `CLASS FIELD`, each with or without ` where FIELD OP VALUE`. One space stands between two parts,
-- and no part is empty; what names stand for does not matter here.
use Rattle.std.specs.Prelude.{ℕ, ◌==◌, if◌then◌else◌, List, [], ◌∷◌, length, codes, Option, Some, None, option_map}
use Rattle.std.specs.List.{list_any}
use Rattle.std.specs.Str.{bytes_eq}
use Rattle.brace_model.specs.declared.program.Comb.{Comb}
use Rattle.brace_model.specs.declared.program.Comb.TheVariants.{Count, Sum, Min, Max}
use Rattle.brace_model.specs.declared.program.BinOp.{BinOp}
use Rattle.brace_model.specs.declared.program.BinOp.TheVariants.{Lt, Le, Gt, Ge, Eq}
use Rattle.brace_cuts.specs.CutPlans.{lines_of, parts_in}

-- the lines of a file; each ends with its byte 10, which the last may lack, and an empty file has
-- none
abbrev pub texts_of : List ℕ → List (List ℕ)
texts_of [] = []
texts_of (b ∷ bytes) = lines_of (b ∷ bytes)

-- a condition: a state, how it stands to a value, and the value
pub record Test : Type 0 where
  pub field : List ℕ
  pub op : BinOp
  pub value : List ℕ

-- a line: the kind of figure, a class, a state where agents are not counted, and a condition, if
-- there is one
pub record Line : Type 0 where
  pub kind : Comb
  pub class : List ℕ
  pub field : Option (List ℕ)
  pub test : Option Test

-- the kind of figure that a word names
abbrev pub kind_of : List ℕ → Option Comb
kind_of word =
    if bytes_eq word (codes "count") then Some Count
    else if bytes_eq word (codes "sum") then Some Sum
    else if bytes_eq word (codes "min") then Some Min
    else if bytes_eq word (codes "max") then Some Max else None

-- the comparison that a sign stands for
abbrev pub op_of : List ℕ → Option BinOp
op_of sign =
    if bytes_eq sign (codes "<") then Some Lt
    else if bytes_eq sign (codes "<=") then Some Le
    else if bytes_eq sign (codes ">") then Some Gt
    else if bytes_eq sign (codes ">=") then Some Ge
    else if bytes_eq sign (codes "==") then Some Eq else None

-- the condition `where FIELD OP VALUE`
abbrev pub test_in : List (List ℕ) → Option Test
test_in (word ∷ field ∷ op ∷ value ∷ []) =
    if bytes_eq word (codes "where")
    then option_map (λ o. record { field = field; op = o; value = value }) (op_of op) else None
test_in _ = None

-- the line of a kind, a class and a state, with nothing or with a condition behind them
abbrev pub line_with : Comb → List ℕ → Option (List ℕ) → List (List ℕ) → Option Line
line_with kind class field [] =
    Some (record { kind = kind; class = class; field = field; test = None })
line_with kind class field (word ∷ rest) =
    option_map (λ t. record { kind = kind; class = class; field = field; test = Some t })
    (test_in (word ∷ rest))

-- the line of a kind, if it is one; only agents are counted without a state
abbrev pub line_of_kind : Option Comb → List ℕ → List (List ℕ) → Option Line
line_of_kind None class rest = None
line_of_kind (Some Count) class rest = line_with Count class None rest
line_of_kind (Some kind) class [] = None
line_of_kind (Some kind) class (field ∷ rest) = line_with kind class (Some field) rest

-- the line of some parts, if they have the form of one
abbrev pub line_of_parts : List (List ℕ) → Option Line
line_of_parts (word ∷ class ∷ rest) = line_of_kind (kind_of word) class rest
line_of_parts _ = None

-- the same, where none of them is empty
abbrev pub line_in : List (List ℕ) → Option Line
line_in parts = if list_any (λ part. length part == 0) parts then None else line_of_parts parts

-- the line that a text is, if it has the form of one
abbrev pub line_of : List ℕ → Option Line
line_of text = line_in (parts_in text)
