-- Why a publisher refuses.
use Rattle.std.specs.Prelude.{ℕ, Option, Some, None}
use Rattle.brace_desk.specs.declared.publisher.PubFault.{PubFault}
use Rattle.brace_desk.specs.declared.publisher.PubFault.TheVariants as fault

-- the tick of which a file was not saved, where a publisher refuses for that
abbrev pub tick_of : PubFault → Option ℕ
tick_of (fault.Save k) = Some k
tick_of (fault.Watch k) = Some k
tick_of _ = None
