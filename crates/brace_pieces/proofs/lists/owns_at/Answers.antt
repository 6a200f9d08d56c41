use Rattle.std.proofs.Common.{◌∙◌, ap, ap₂, get_or, nat_eq, rules}
use Rattle.std.specs.Int.{w64}
use Rattle.std.specs.Prelude.{FitsSigned}
use Rattle.std.proofs.lemmas.Int.{to_z-of_z}
use Rattle.brace_model.specs.declared.world.Agent.{Agent}
use Rattle.brace_cuts.specs.Space.{owner_of}
use Rattle.brace_pieces.specs.Owned.{owns_at}
use Rattle.brace_pieces.proofs.lists.owns_at.Goals as goal

pub returns-in-Some : goal.returns-in-Some
returns-in-Some c d =
    let cuts = c.args.cuts.now in
    let a : Agent = get_or c.args.agents.now c.args.place d in
    let x_fits : FitsSigned w64 c.number.result = search rules in
    let y_fits : FitsSigned w64 c.number-in-Some.result = search rules in
    let owner = simp to_z-of_z at c.owner.ensures.owner in
    ap (λ r. nat_eq r c.args.p)
    (owner ∙ ap₂ (owner_of cuts) (c.number.ensures d) (c.number-in-Some.ensures d))
    ∙ ap (λ class. owns_at cuts c.args.p class a) (c.in-Some.ensures d)

pub returns-in-None : goal.returns-in-None
returns-in-None c d =
    ap (λ class. owns_at c.args.cuts.now c.args.p class (get_or c.args.agents.now c.args.place d))
    (c.in-None.ensures d)
