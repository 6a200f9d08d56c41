use Rattle.std.proofs.Common.{◌∙◌, sym, ap, ℕ, List, [], ◌∷◌, ◌++◌, take, flat_map}
use Rattle.std.proofs.lemmas.List.{take_more, flat_map_more}
use Rattle.brace_desk.specs.Watched.{figures_at}
use Rattle.brace_desk.proofs.watched.figures_text.Goals as goal

pub loop-world-preserved : goal.loop-world-preserved
loop-world-preserved c =
    let shown = c.args.shown.now in
    let i = c.loop-world.world-index in
    let w = c.world-item.result in
    let f = figures_at c.args.setting.now c.args.fresh c.args.watches.now in
    c.in_ok-append_figures.ensures
    ∙ ap (λ (text : List ℕ). text ++ f w) c.loop-world.invariant
    ∙ flat_map_more f [] (take i shown) w
    ∙ sym (ap (flat_map f) (take_more shown i w c.loop-world-test.true ∙ ap (λ x. take i shown ++ x ∷ []) (sym c.world-item.is)))
