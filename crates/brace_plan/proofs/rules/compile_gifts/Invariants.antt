use Rattle.std.proofs.Common.{take}
use Rattle.std.specs.List.{AllZip}
use Rattle.brace_model.specs.declared.program.Gift.{Gift}
use Rattle.brace_code.specs.Codes.{names_of}
use Rattle.brace_plan.specs.Ruling.{IsCodeOf}
use Rattle.brace_plan.proofs.rules.compile_gifts.Given as goal

abbrev pub invariant-loop-gift : goal.invariant-loop-gift
invariant-loop-gift l =
    AllZip (λ (g : Gift) code. IsCodeOf (names_of l.known) g.value code) (take l.gift-index l.gifts) l.codes
