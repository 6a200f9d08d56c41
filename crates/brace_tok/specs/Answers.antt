-- What an answer of the scan says of the text.
use Rattle.std.specs.Prelude.{List, ℕ, ⊤}
use Rattle.brace_tok.specs.Spells.{FirstFault}
use Rattle.brace_tok.specs.declared.fault.TokFault.{TokFault}
use Rattle.brace_tok.specs.declared.fault.TokFault.TheVariants.{BadByte, OpenComment, WideLiteral, LongWord, NoMemory}

-- the fault is the first of the text, or memory was refused
abbrev pub IsFault : List ℕ → TokFault → Type 0
IsFault src NoMemory = ⊤
IsFault src (BadByte at_) = FirstFault src (BadByte at_)
IsFault src (OpenComment at_) = FirstFault src (OpenComment at_)
IsFault src (WideLiteral at_) = FirstFault src (WideLiteral at_)
IsFault src (LongWord at_) = FirstFault src (LongWord at_)
