use Rattle.std.proofs.Common.{◌≡◌, IfOk, subst, sym}
use Rattle.brace_herd.specs.declared.stance.Stance.{Stance}
use Rattle.brace_part.specs.inner.Sound.{owns_in}
use Rattle.brace_part.proofs.part.herd_in.Goals as goal

pub returns-in-Owns : goal.returns-in-Owns
returns-in-Owns c =
    subst (λ (st : Stance). IfOk c.packed.result (λ own. own ≡ owns_in c.args.program.now st))
    (sym c.in-Owns.is) c.packed.ensures
