-- What is left to read, and the steps that every row is made of. Only the crate's own functions
-- cite this.
use Rattle.std.specs.Prelude.{◌≡◌, ◌≢◌, ◌≤◌, ◌<◌, ◌^◌, ℕ, Bool, false, if◌then◌else◌, List, length, drop, Option, Some, None, Result, Ok, Err, All, option_and_then, option_map, slice_get}
use Rattle.std.specs.Str.{IsUtf8}
use denote.Enum.Bare.{sameb}
use Rattle.brace_tok.specs.declared.kinds.Token.{Token}
use Rattle.brace_tok.specs.declared.kinds.TokKind.{TokKind}
use Rattle.brace_tok.specs.declared.kinds.TokKind.TheVariants as k
use Rattle.brace_tok.specs.Names.{text_at}
use Rattle.brace_syntax.specs.Tables.{Is, ident}
use Rattle.brace_syntax.specs.Tables as tables
use Rattle.brace_syntax.specs.declared.tree.Ident.{Ident}
use Rattle.brace_syntax.specs.declared.tree.Number.{Number}
use Rattle.brace_syntax.specs.declared.tree.TyName.{TyName}
use Rattle.brace_syntax.specs.declared.tree.CombName.{CombName}
use Rattle.brace_syntax.specs.declared.mark.Mark.{Mark}
use Rattle.brace_syntax.specs.declared.mark.Mark.TheVariants as m
use Rattle.brace_syntax.specs.contracts.mark.Mark.{the_type}
use Rattle.brace_syntax.specs.declared.fault.Stop.{Stop}
use Rattle.brace_syntax.specs.declared.fault.Stop.TheVariants as stop

-- a source, and the tokens that are still to be read
pub record Input : Type 0 where
  pub src : List ℕ
  pub rest : List Token

-- the token's bytes stand in the source, and those of a word are text
abbrev pub IsSpelled : List ℕ → Token → Type 0
IsSpelled src tok =
    (tok.from ≤ tok.to) × (tok.to ≤ length src) × (Is k.Word tok → IsUtf8 (text_at src tok))

-- offsets fit 32 bits, and each token is spelled in the source
abbrev pub AreSpelled : List ℕ → List Token → Type 0
AreSpelled src toks = (length src < 2 ^ 32) × All (IsSpelled src) toks

-- the mark that a kind of token is
abbrev pub mark_of : TokKind → Option Mark
mark_of k.KwClass = Some m.Class
mark_of k.KwRun = Some m.Run
mark_of k.KwExtent = Some m.Extent
mark_of k.KwElse = Some m.Else
mark_of k.KwWhen = Some m.When
mark_of k.OpenBrace = Some m.OpenBrace
mark_of k.CloseBrace = Some m.CloseBrace
mark_of k.OpenParen = Some m.OpenParen
mark_of k.CloseParen = Some m.CloseParen
mark_of k.OpenBracket = Some m.OpenBracket
mark_of k.CloseBracket = Some m.CloseBracket
mark_of k.Semicolon = Some m.Semicolon
mark_of k.Colon = Some m.Colon
mark_of k.Comma = Some m.Comma
mark_of k.Dot = Some m.Dot
mark_of k.Question = Some m.Question
mark_of k.Assign = Some m.Assign
mark_of k.Arrow = Some m.Arrow
mark_of k.Less = Some m.Less
mark_of k.Greater = Some m.Greater
mark_of _ = None

-- the two marks are one
unfoldable pub same_mark : Mark → Mark → Bool
same_mark = sameb the_type

-- ---- the next token

-- the next token
unfoldable pub first : Input → Option Token
first i = slice_get i.rest 0

-- the place of a token, or the end of the source where there is none
abbrev pub place_of : ℕ → Option Token → ℕ
place_of end None = end
place_of end (Some tok) = tok.from

-- the place of the next token, or the end of the source
unfoldable pub place : Input → ℕ
place i = place_of (length i.src) (first i)

-- the kind of the next token
unfoldable pub kind : Input → Option TokKind
kind i = option_map (λ tok. tok.kind) (first i)

-- what is left behind the next token
unfoldable pub next : Input → Input
next i = record i { rest = drop 1 i.rest }

-- ---- parsers

-- a value and what is left then, or why there is none
abbrev pub Outcome : Type 0 → Type 0
Outcome A = Result (A × Input) Stop

-- what is read from the front of an input
abbrev pub Parser : Type 0 → Type 0
Parser A = Input → Outcome A

-- goes on from an outcome, where it is no fault
abbrev pub and_then : {A B : Type 0} → Outcome A → (A → Parser B) → Outcome B
and_then (Ok p) f = f p.0 p.1
and_then (Err e) f = Err e

-- one parser, and then another that knows the value of the first
infixl 10 ◌>>=◌
abbrev pub ◌>>=◌ : {A B : Type 0} → Parser A → (A → Parser B) → Parser B
p >>= f = λ i. and_then (p i) f

-- one parser, and then another
infixl 10 ◌>>◌
abbrev pub ◌>>◌ : {A B : Type 0} → Parser A → Parser B → Parser B
p >> q = p >>= (λ _. q)

-- a value, for which nothing is read
abbrev pub pure : {A : Type 0} → A → Parser A
pure a = λ i. Ok (a, i)

-- the fault at the next token
unfoldable pub refusal : Input → Stop
refusal i = stop.NoReading (place i)

-- refuses the next token
abbrev pub refuse : {A : Type 0} → Parser A
refuse = λ i. Err (refusal i)

-- the kind of the next token, which is left
abbrev pub peek : Parser (Option TokKind)
peek = λ i. Ok (kind i, i)

-- passes the next token, whose place it gives
abbrev pub pass : Parser ℕ
pass = λ i. Ok (place i, next i)

-- this mark is there, and is the one that is wanted
abbrev pub marked : Mark → Option Mark → Bool
marked wanted None = false
marked wanted (Some found) = same_mark found wanted

-- this mark comes next
unfoldable pub sees : Mark → Input → Bool
sees wanted i = marked wanted (option_and_then mark_of (kind i))

-- what is left behind this mark, if it comes next
unfoldable pub after : Mark → Input → Input
after wanted i = if sees wanted i then next i else i

-- passes this mark, if it comes next
abbrev pub eat : Mark → Parser Bool
eat wanted = λ i. Ok (sees wanted i, after wanted i)

-- passes this mark, which has to come next, and gives its place
unfoldable pub expect : Mark → Parser ℕ
expect wanted = λ i. if sees wanted i then Ok (place i, next i) else Err (refusal i)

-- ---- what one token says

-- passes the next token, where it says something
abbrev pub said : {A : Type 0} → Option A → Parser A
said None i = Err (refusal i)
said (Some x) i = Ok (x, next i)

-- the name, where this is the kind of a word
abbrev pub name_at : Ident → TokKind → Option Ident
name_at name k.Word = Some name
name_at name _ = None

-- the name that a token is
abbrev pub name_of : List ℕ → Token → Option Ident
name_of src tok = name_at (ident src tok) tok.kind

-- passes a name
unfoldable pub name : Parser Ident
name i = said (option_and_then (name_of i.src) (first i)) i

-- passes a number
unfoldable pub number : Parser Number
number i = said (option_and_then tables.number (first i)) i

-- passes a type
unfoldable pub type_name : Parser TyName
type_name i = said (option_and_then (tables.type_name i.src) (first i)) i

-- passes how an effect is joined
unfoldable pub combinator : Parser CombName
combinator i = said (option_and_then tables.combines (kind i)) i

-- ---- what a function that parses ensures: the parser's outcome, unless memory fails

abbrev pub Follows : {A : Type 0} → Outcome A → Result A Stop → Input → Type 0
Follows outcome (Ok a) new = outcome ≡ Ok (a, new)
Follows outcome (Err e) new = e ≢ stop.NoMemory → outcome ≡ Err e
