use Rattle.std.proofs.Common.{◌≡◌, ◌+◌, ◌∙◌, ◌++◌, ◌∷◌, [], Bor, List, ℕ, ap, sym, subst, rules}
use Rattle.std.proofs.lemmas.Int.{to_z-of_z}
use mir.Val.{SFits}
use mir.Syntax.{w64}
use Rattle.brace_cuts.proofs.Lines.{ReadSoFar, read_all, read_bad, read_more}
use Rattle.brace_cuts.proofs.line.read_cuts.Goals as goal

pub returns-in_default : goal.returns-in_default
returns-in_default c =
    read_bad (λ (p : Bor (List ℕ)). p.now) c.args.texts.now c.loop-text.text-index _ c.loop-text-test.true (sym c.in_default.is ∙ c.read_cut.ensures)

pub loop-text-preserved : goal.loop-text-preserved
loop-text-preserved c =
    let cut = c.in-Some.cut in
    let fits : SFits w64 cut = search rules in
    let pushed : c.push.new.self ≡ c.loop-text.cuts ++ cut ∷ [] = c.in_ok-push.ensures.ok ∙ ap (λ z. c.loop-text.cuts ++ z ∷ []) (to_z-of_z w64 cut fits) in
    subst (λ l. ReadSoFar (λ (p : Bor (List ℕ)). p.now) c.args.texts.now l (c.loop-text.text-index + 1)) (sym pushed)
    (read_more (λ (p : Bor (List ℕ)). p.now) c.args.texts.now c.loop-text.cuts c.loop-text.text-index _ c.in-Some.cut c.loop-text-test.true (sym c.in-Some.is ∙ c.read_cut.ensures) c.loop-text.invariant)

pub returns : goal.returns
returns c = read_all (λ (p : Bor (List ℕ)). p.now) c.args.texts.now c.loop-text.cuts c.loop-text.text-index c.loop-text-test.false c.loop-text.invariant
