use Rattle.std.proofs.Common.{◌≡◌, ◌∙◌, ◌<◌, ℤ, [], List, ap, get_or, length, refl, rules, set, subst, w64, to_z, of_z}
use Rattle.std.proofs.lemmas.List.{get_or_read}
use Rattle.brace_fold.specs.declared.table.Sum.{Sum}
use Rattle.brace_fold.specs.Sums.{no_sum, summed, sums_of}
use Rattle.brace_fold.proofs.Summings.{joined-set}
use Rattle.brace_fold.proofs.table.Table.join.Goals as goal

pub returns : goal.returns
returns c =
    let table = c.args.self.now in
    let effect = c.args.effect in
    let row = c.args.row in
    let number = c.args.number in
    let inside : effect < length table.sums.items = search rules in
    let kept : to_z w64 (of_z w64 number) ≡ number = search rules in
    let old : List Sum = c.index_mut.result.now in
    let has : old ≡ sums_of table effect =
    get_or_read table.sums.items effect old inside c.index_mut.ensures.value [] in
    let joined : ℤ → List Sum → List Sum =
    λ n l. set l row (summed c.args.comb (get_or l row no_sum) n c.args.count) in
    joined-set c.args.comb effect row number c.args.count table _ refl inside
    (subst (λ (l : List Sum). row < length l) has c.in_ok-join.ensures.row)
    (ap (set table.sums.items effect)
    (c.in_ok-join.ensures.sums ∙ ap (λ n. joined n old) kept ∙ ap (joined number) has))
