use Rattle.std.proofs.Common.{◌∙◌, Bor, List, ℕ, map, sym, ap, length, None}
use Rattle.std.specs.Prelude.{◌==◌, if◌then◌else◌}
use Rattle.brace_watch.specs.Lines.{line_of_parts}
use Rattle.brace_watch.proofs.Lines.{list_any-map}
use Rattle.brace_watch.proofs.line.line_in.Goals as goal

pub returns-then-has_empty : goal.returns-then-has_empty
returns-then-has_empty c =
    let now = λ (p : Bor (List ℕ)). p.now in
    let any = list_any-map (λ (part : List ℕ). length part == 0) now c.args.parts.now ∙ sym c.has_empty.ensures ∙ c.if-has_empty.true in
    ap (λ b. if b then None else line_of_parts (map now c.args.parts.now)) (sym any)

pub returns : goal.returns
returns c =
    let now = λ (p : Bor (List ℕ)). p.now in
    let any = list_any-map (λ (part : List ℕ). length part == 0) now c.args.parts.now ∙ sym c.has_empty.ensures ∙ c.if-has_empty.false in
    c.line_of_parts.ensures ∙ ap (λ b. if b then None else line_of_parts (map now c.args.parts.now)) (sym any)
