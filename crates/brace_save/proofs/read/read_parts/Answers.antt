use Rattle.std.proofs.Common.{◌≡◌, ◌==◌, ◌∙◌, ℕ, List, Bor, length, sym, ap, arith}
use Rattle.std.proofs.lemmas.List.{length-map}
use Rattle.std.proofs.lemmas.List.Splits.{length-slice_split}
use Rattle.brace_save.specs.Lines.{parts}
use Rattle.brace_save.proofs.read.read_parts.Goals as goal

pub returns-clause-refused : goal.returns-clause-refused
returns-clause-refused c = λ lawful cause err ok.
    let many = length-slice_split (λ b. b == 10) c.args.bytes.now in
    let same : length c.in_ok-parts.parts.items ≡ length (parts c.args.bytes.now) = sym (length-map c.in_ok-parts.parts.items (λ (p : Bor (List ℕ)). p.now)) ∙ ap length c.in_ok-parts.ensures in
    let none : length c.as_slice.result.now ≡ 0 = omega (arith, c.in-empty.len_below) in
    let items : length c.as_slice.result.now ≡ length c.in_ok-parts.parts.items = ap length c.as_slice.ensures.value in
    absurd (omega (arith, many, same, none, items))
