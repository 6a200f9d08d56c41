-- What instructions do in a scope to a stack of words with so much room.
use Rattle.std.specs.Prelude.{ℕ, ◌-◌, ℤ, nat_lt, if◌then◌else◌, List, [], ◌∷◌, length, map, take, reverse, Option, Some, None, Result, Ok, Err}
use Rattle.brace_num.specs.declared.kinds.Kind.TheVariants.{Overflow}
use Rattle.brace_model.specs.declared.fault.Stop.{Stop}
use Rattle.brace_model.specs.Value.{Scope}
use Rattle.brace_code.specs.declared.code.Instr.{Instr}
use Rattle.brace_code.specs.declared.code.Instr.TheOpen.{Instr-F, Push, Unary, Binary, With, Choice}
use Rattle.brace_code.specs.declared.code.Instr.TheFolds.{fold-Instr}
use Rattle.brace_code.specs.declared.single.Ended.{Ended}
use Rattle.brace_code.specs.inner.Words.{Outcome, made_word, with_word, unary_word, binary_word, choose_word, operand_word, source_word}

-- the stack that is left, its top first, or a fault
abbrev pub Left : Type 0
Left = Result (List ℤ) Stop

-- what is done with room for so many words, in a scope, to a stack
abbrev pub Deed : Type 0
Deed = ℕ → Scope → List ℤ → Left

-- goes on with a stack; a fault stays
abbrev pub onward : Left → (List ℤ → Left) → Left
onward (Ok stack) next = next stack
onward (Err stop) next = Err stop

-- the fault of code that finds no operand or no room, which no expression's code meets
abbrev pub stuck : Stop
stuck = record { site = 0; kind = Overflow }

-- a word on a stack, in a place that is there
abbrev pub pushed : List ℤ → Outcome → Left
pushed stack (Ok word) = Ok (word ∷ stack)
pushed stack (Err stop) = Err stop

-- a word on a stack, in a further place, if there is room
abbrev pub put : ℕ → List ℤ → Outcome → Left
put room stack outcome = if nat_lt (length stack) room then pushed stack outcome else Err stuck

-- the word on top
abbrev pub top : Left → Outcome
top (Ok (word ∷ stack)) = Ok word
top (Ok []) = Err stuck
top (Err stop) = Err stop

-- deeds one after another
abbrev pub in_turn : List Deed → Deed
in_turn [] room scope stack = Ok stack
in_turn (deed ∷ deeds) room scope stack = onward (deed room scope stack) (in_turn deeds room scope)

-- one instruction, whose branches are deeds on a stack of their own above the rest
abbrev pub deed_step : Instr-F Deed → Deed
deed_step (Push source) room scope stack = put room stack (source_word scope source)
deed_step (Unary op site) room scope [] = Err stuck
deed_step (Unary op site) room scope (a ∷ stack) =
    pushed stack (made_word site (unary_word op a))
deed_step (Binary op type site) room scope [] = Err stuck
deed_step (Binary op type site) room scope (b ∷ []) = Err stuck
deed_step (Binary op type site) room scope (b ∷ (a ∷ stack)) =
    pushed stack (made_word site (binary_word op type a b))
deed_step (With op type site operand) room scope [] = Err stuck
deed_step (With op type site operand) room scope (a ∷ stack) =
    pushed stack (with_word (operand_word scope operand)
    (λ b. made_word site (binary_word op type a b)))
deed_step (Choice set unset) room scope [] = Err stuck
deed_step (Choice set unset) room scope (t ∷ stack) =
    pushed stack (choose_word t (top (in_turn set (room - length stack) scope []))
    (top (in_turn unset (room - length stack) scope [])))

-- what an instruction does
abbrev pub deed : Instr → Deed
deed = fold-Instr Deed deed_step

-- what code does
abbrev pub run : List Instr → Deed
run code = in_turn (map deed code)

-- what code leaves on top of an empty stack
abbrev pub outcome : List Instr → ℕ → Scope → Outcome
outcome code room scope = top (run code room scope [])

-- the outcome of code that ended
abbrev pub end_of : ℤ → Option Stop → Outcome
end_of word None = Ok word
end_of word (Some stop) = Err stop

abbrev pub ended : Ended → Outcome
ended e = end_of e.word e.stop

-- the stack of the first words, its top first
abbrev pub stack_of : List ℤ → ℕ → List ℤ
stack_of words height = reverse (take height words)
