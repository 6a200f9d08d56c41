use Rattle.std.proofs.Common.{◌<◌, Bor, List, ℕ, length, sym, subst}
use Rattle.brace_cuts.proofs.Reading.{some_line}
use Rattle.brace_cuts.proofs.file.read_plan.Goals as goal

pub read_lines-requires-clause-some : goal.read_lines-requires-clause-some
read_lines-requires-clause-some c =
    subst (λ l. 0 < length l) (sym c.as_slice.ensures.value) (some_line (λ (t : Bor (List ℕ)). t.now) c.in_ok-texts.texts.items c.args.bytes.now c.in_ok-texts.ensures)
