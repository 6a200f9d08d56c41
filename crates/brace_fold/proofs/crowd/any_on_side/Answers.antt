use Rattle.std.proofs.Common.{◌≡◌, ◌∙◌, sym, ap, get_or, pos, rules, false, w64, to_z, of_z}
use Rattle.brace_code.specs.Columns.{side}
use Rattle.brace_fold.proofs.Crowdings.{none-more}
use Rattle.brace_fold.proofs.crowd.any_on_side.Goals as goal

pub loop-k-preserved : goal.loop-k-preserved
loop-k-preserved c = λ quiet.
    let set = c.args.set in
    let words = c.args.words.now in
    let k = c.loop-k.k in
    let was : c.loop-k.found ≡ false = search rules in
    let off : c.is_on_side-found.result ≡ false = search rules in
    let same : to_z w64 (of_z w64 (get_or words k (pos 0))) ≡ get_or words k (pos 0) =
    search rules in
    none-more set words c.args.from k (c.loop-k.invariant was)
    (sym (c.is_on_side-found.ensures ∙ ap (side set) same) ∙ off)
