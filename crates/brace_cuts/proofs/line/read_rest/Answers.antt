use Rattle.std.proofs.Common.{◌∙◌, Bor, List, ℕ, map, ap, sym}
use Rattle.std.specs.Prelude.{codes}
use Rattle.std.specs.Str.{bytes_eq}
use Rattle.brace_cuts.specs.CutPlans.{line_around}
use Rattle.brace_cuts.proofs.Lines.{position-map, rest_is}
use Rattle.brace_cuts.proofs.line.read_rest.Goals as goal

pub returns-in_default : goal.returns-in_default
returns-in_default c =
    ap (line_around c.args.tick.now (map (λ (p : Bor (List ℕ)). p.now) c.args.cuts.now))
    (sym c.in_default.is ∙ c.find_y.ensures ∙ sym (position-map (λ (part : List ℕ). bytes_eq part (codes "y")) (λ (p : Bor (List ℕ)). p.now) c.args.cuts.now))

pub returns : goal.returns
returns c =
    c.line_with.ensures
    ∙ rest_is (λ (p : Bor (List ℕ)). p.now) c.args.cuts.now c.args.tick.now _ _ _ c.in-Some.y c.read_tick.ensures c.in_ok-xs.ensures c.in_ok-ys.ensures (sym c.in-Some.is ∙ c.find_y.ensures)
