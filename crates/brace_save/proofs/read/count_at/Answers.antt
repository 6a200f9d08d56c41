use Rattle.std.proofs.Common.{◌∙◌, ℕ, List, Bor, Ok, sym, ap, arith}
use Rattle.std.proofs.lemmas.List.{length-map}
use Rattle.brace_save.specs.inner.Steps.{found, other, missing, no_memory}
use Rattle.brace_save.proofs.read.count_at.Goals as goal

pub returns-then-i-lines : goal.returns-then-i-lines
returns-then-i-lines c = missing (omega (arith, length-map c.args.lines.now (λ (l : Bor (List ℕ)). l.now), c.if-i-lines.true))

pub returns-in-Ok-Some : goal.returns-in-Ok-Some
returns-in-Ok-Some c =
    let (low, is) = c.in-Ok-Some.ensures.some c.in-Ok-Some.n (ap Ok c.in-Ok-Some.field-0-is) in
    found c.in-Ok-Some.n (omega (arith, length-map c.args.lines.now (λ (l : Bor (List ℕ)). l.now), c.if-i-lines.false)) low (sym c.field_at.ensures ∙ is)

pub returns-in-Ok-None : goal.returns-in-Ok-None
returns-in-Ok-None c =
    other (omega (arith, length-map c.args.lines.now (λ (l : Bor (List ℕ)). l.now), c.if-i-lines.false)) (λ n le is. c.in-Ok-None.ensures.none (ap Ok c.in-Ok-None.field-0-is) n le (c.field_at.ensures ∙ is))

pub returns-in-Err : goal.returns-in-Err
returns-in-Err c = no_memory
