use Rattle.std.proofs.Common.{◌≡◌, ◌-◌, drop, fold, length}
use Rattle.brace_pieces.specs.Exchanged.{counted, AreOut}
use Rattle.brace_herd.proofs.prepare.prepared.Given as goal

pub record Holds-loop-i (l : goal.Live-loop-i) : Type 0 where
  pub out : AreOut l.worker.setting.now l.worker.number l.worker.part (drop (length l.others - l.i) l.others) l.pieces.items
  pub sums : l.counts ≡ fold (counted l.worker.next) l.initial.counts l.pieces.items

abbrev pub invariant-loop-i : goal.invariant-loop-i
invariant-loop-i l = Holds-loop-i l
