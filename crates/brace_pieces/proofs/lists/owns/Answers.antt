use Rattle.std.proofs.Common.{◌∙◌, ap, ap₂, nat_eq, rules}
use Rattle.std.specs.Int.{w64}
use Rattle.std.specs.Prelude.{FitsSigned}
use Rattle.std.proofs.lemmas.Int.{to_z-of_z}
use Rattle.brace_cuts.specs.Space.{owner_of}
use Rattle.brace_pieces.specs.Owned.{owns_at}
use Rattle.brace_pieces.proofs.lists.owns.Goals as goal

pub returns-in-Some : goal.returns-in-Some
returns-in-Some c =
    let cuts = c.args.cuts.now in
    let x_fits : FitsSigned w64 c.x_of.result = search rules in
    let y_fits : FitsSigned w64 c.y_of.result = search rules in
    let owner = simp to_z-of_z at c.owner.ensures.owner in
    ap (λ r. nat_eq r c.args.p) (owner ∙ ap₂ (owner_of cuts) c.x_of.ensures c.y_of.ensures)
    ∙ ap (λ class. owns_at cuts c.args.p class c.args.a.now) c.in-Some.ensures
