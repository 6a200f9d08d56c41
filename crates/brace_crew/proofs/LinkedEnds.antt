-- What a run comes to that was given up for want of memory.
use Rattle.std.proofs.Common.{◌≡◌, Option, Some, None}
use Rattle.brace_desk.specs.declared.publisher.PubFault.{PubFault}
use Rattle.brace_desk.specs.declared.desk.Stop.{Stop}
use Rattle.brace_desk.specs.declared.desk.Stop.TheVariants as stop
use Rattle.brace_pieces.specs.declared.piece.Cause.{Cause}

-- where nothing stopped, or a part halted, nothing was refused
pub none_refused : (o : Option Stop) → o ≡ None → (x : PubFault) → o ≡ Some (stop.Refusal x) → ⊥
none_refused o none x is = absurd cc

pub halted_unrefused : (o : Option Stop) (h : Cause) → o ≡ Some (stop.Halt h) → (x : PubFault) → o ≡ Some (stop.Refusal x) → ⊥
halted_unrefused o h halted x is = absurd cc
