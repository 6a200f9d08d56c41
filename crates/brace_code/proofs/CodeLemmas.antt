-- What code does, instruction by instruction.
use Rattle.std.proofs.Common.{◌≡◌, ◌∙◌, refl, sym, ap, ℕ, ℤ, List, [], ◌∷◌, ◌++◌, length, map, Ok, Err, arith}
use Rattle.brace_model.specs.declared.program.Ty.{Ty}
use Rattle.brace_model.specs.declared.program.UnOp.{UnOp}
use Rattle.brace_model.specs.declared.program.BinOp.{BinOp}
use Rattle.brace_model.specs.Value.{Scope}
use Rattle.brace_code.specs.declared.code.Operand.{Operand}
use Rattle.brace_code.specs.declared.code.Source.{Source}
use Rattle.brace_code.specs.declared.code.Source.TheVariants.{One}
use Rattle.brace_code.specs.declared.code.Instr.{Instr}
use Rattle.brace_code.specs.declared.code.Instr.TheVariants.{Push, Unary, Binary, With, Choice, rolls-Push, rolls-Unary, rolls-Binary, rolls-With, rolls-Choice}
use Rattle.brace_code.specs.declared.code.Instr.TheOpen as layer
use Rattle.brace_code.specs.declared.code.Instr.TheFolds.{fold-roll-Instr}
use Rattle.brace_code.specs.inner.Runs.{Left, Deed, onward, deed_step, deed, run}

pub deed-Push : (s : Source) → deed (Push s) ≡ deed_step (layer.Push s)
deed-Push s = ap deed (sym (rolls-Push s)) ∙ fold-roll-Instr Deed deed_step (layer.Push s)

pub deed-Unary : (op : UnOp) (site : ℕ) → deed (Unary op site) ≡ deed_step (layer.Unary op site)
deed-Unary op site = ap deed (sym (rolls-Unary op site)) ∙ fold-roll-Instr Deed deed_step (layer.Unary op site)

pub deed-Binary : (op : BinOp) (t : Ty) (site : ℕ) → deed (Binary op t site) ≡ deed_step (layer.Binary op t site)
deed-Binary op t site = ap deed (sym (rolls-Binary op t site)) ∙ fold-roll-Instr Deed deed_step (layer.Binary op t site)

pub deed-With : (op : BinOp) (t : Ty) (site : ℕ) (o : Operand) → deed (With op t site o) ≡ deed_step (layer.With op t site o)
deed-With op t site o = ap deed (sym (rolls-With op t site o)) ∙ fold-roll-Instr Deed deed_step (layer.With op t site o)

pub deed-Choice : (a b : List Instr) → deed (Choice a b) ≡ deed_step (layer.Choice (map deed a) (map deed b))
deed-Choice a b = ap deed (sym (rolls-Choice a b)) ∙ fold-roll-Instr Deed deed_step (layer.Choice a b)

onward_ok : (r : Left) → onward r (λ s. Ok s) ≡ r
onward_ok (Ok s) = refl
onward_ok (Err s) = refl

-- code and code behind it
pub run-append : (code more : List Instr) (room : ℕ) (scope : Scope) (stack : List ℤ)
    → run (code ++ more) room scope stack ≡ onward (run code room scope stack) (run more room scope)
run-append [] more room scope stack = refl
run-append (i ∷ code) more room scope stack = go (λ s. run-append code more room scope s) (deed i room scope stack)
  where
    go : ((s : List ℤ) → run (code ++ more) room scope s ≡ onward (run code room scope s) (run more room scope)) → (r : Left)
        → onward r (run (code ++ more) room scope) ≡ onward (onward r (run code room scope)) (run more room scope)
    go again (Ok s) = again s
    go again (Err s) = refl

-- one instruction as code
pub run-one : (i : Instr) (room : ℕ) (scope : Scope) (stack : List ℤ) → run (i ∷ []) room scope stack ≡ deed i room scope stack
run-one i room scope stack = onward_ok (deed i room scope stack)

-- code and one instruction behind it
pub run-push : (code : List Instr) (i : Instr) (room : ℕ) (scope : Scope) (stack : List ℤ)
    → run (code ++ i ∷ []) room scope stack ≡ onward (run code room scope stack) (deed i room scope)
run-push code i room scope stack =
    run-append code (i ∷ []) room scope stack ∙ ap (λ (f : List ℤ → Left). onward (run code room scope stack) f) (λ j s. run-one i room scope s j)

-- code that is an operand alone
pub operand_alone : (code rest : List Instr) (first : Instr) (o p : Operand) → code ≡ first ∷ rest
    → first ≡ Push (One o) → length rest ≡ 0 → p ≡ o → code ≡ Push (One p) ∷ []
operand_alone code [] first o p is f none same =
    is ∙ ap (λ (i : Instr). i ∷ []) (f ∙ ap (λ (x : Operand). Push (One x)) (sym same))
operand_alone code (next ∷ rest) first o p is f none same = absurd (omega (arith, none))
