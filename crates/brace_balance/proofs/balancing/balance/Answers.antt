use Rattle.std.proofs.Common.{◌≡◌, ◌<◌, pos, true, length, get_or, int_le, sym, subst, rules, slice_get, Some, None, ◌∙◌}
use Rattle.std.specs.Option.{IfSome}
use Rattle.std.proofs.lemmas.Option.{slice_get-get_or}
use Rattle.std.specs.List.{list_all}
use Rattle.brace_cuts.specs.Space.{rises, can_cut, least as least_number}
use Rattle.brace_balance.specs.Loads.{load}
use Rattle.brace_balance.specs.Fillings.{filled}
use Rattle.brace_balance.proofs.Filled.{cuts_rise}
use Rattle.brace_balance.proofs.Balances.{given_is_accepted, load_is, is_least, filled_can_cut, none_there, no_load, least_of_none}
use Rattle.brace_balance.proofs.balancing.balance.Goals as goal

pub returns-clause-rising : goal.returns-clause-rising
returns-clause-rising c =
    let xs = c.args.xs.now in
    let n = c.least_load-load.result in
    let same : c.cuts.inside.items.items ≡ filled n c.args.strips xs = search rules in
    subst (λ l. rises l ≡ true) (sym same) (cuts_rise n c.args.strips xs c.requires.sorted c.least_load-load.ensures.suffices)

pub returns-clause-cutting : goal.returns-clause-cutting
returns-clause-cutting c =
    let xs = c.args.xs.now in
    let n = c.least_load-load.result in
    let same : c.cuts.inside.items.items ≡ filled n c.args.strips xs = search rules in
    let some : 0 < length xs = search rules in
    let is : slice_get xs 0 ≡ Some (get_or xs 0 (pos 0)) = slice_get-get_or xs 0 (pos 0) some in
    let low : int_le least_number (get_or xs 0 (pos 0)) ≡ true = subst (λ o. IfSome o (λ v. int_le least_number v ≡ true)) (c.first_of.ensures.first ∙ is) c.first_of.ensures.low in
    subst (λ l. list_all can_cut l ≡ true) (sym same)
    (filled_can_cut (pos 0) xs n c.args.strips some c.requires.sorted c.least_load-load.ensures.suffices low)

pub returns-clause-load : goal.returns-clause-load
returns-clause-load c =
    let xs = c.args.xs.now in
    let n = c.least_load-load.result in
    let proof = c.in_ok-proof_of.field-0 in
    let same : c.cuts.inside.items.items ≡ filled n c.args.strips xs = search rules in
    let some : 0 < length xs = search rules in
    let is = given_is_accepted xs c.args.strips n proof some c.requires.sorted c.least_load-load.ensures.positive c.least_load-load.ensures.least c.in_ok-proof_of.ensures in
    subst (λ l. load l xs ≡ n) (sym same) (load_is xs c.args.strips n proof c.requires.sorted c.least_load-load.ensures.suffices is)

pub returns-clause-accepted : goal.returns-clause-accepted
returns-clause-accepted c =
    let xs = c.args.xs.now in
    let some : 0 < length xs = search rules in
    given_is_accepted xs c.args.strips c.least_load-load.result c.in_ok-proof_of.field-0 some c.requires.sorted c.least_load-load.ensures.positive c.least_load-load.ensures.least c.in_ok-proof_of.ensures

pub returns-clause-least : goal.returns-clause-least
returns-clause-least c =
    let xs = c.args.xs.now in
    let n = c.least_load-load.result in
    let proof = c.in_ok-proof_of.field-0 in
    let some : 0 < length xs = search rules in
    let is = given_is_accepted xs c.args.strips n proof some c.requires.sorted c.least_load-load.ensures.positive c.least_load-load.ensures.least c.in_ok-proof_of.ensures in
    is_least xs c.args.strips n proof c.requires.sorted c.least_load-load.ensures.suffices is

pub returns-then-is_none-clause-load : goal.returns-then-is_none-clause-load
returns-then-is_none-clause-load c =
    let none : slice_get c.args.xs.now 0 ≡ None = search rules in
    no_load c.new.result c.args.xs.now c.new.ensures (none_there c.args.xs.now none)

pub returns-then-is_none-clause-least : goal.returns-then-is_none-clause-least
returns-then-is_none-clause-least c =
    let none : slice_get c.args.xs.now 0 ≡ None = search rules in
    least_of_none c.args.xs.now c.args.strips (none_there c.args.xs.now none) c.requires.some

pub returns-then-is_none-clause-proof : goal.returns-then-is_none-clause-proof
returns-then-is_none-clause-proof c =
    let none : slice_get c.args.xs.now 0 ≡ None = search rules in
    none_there c.args.xs.now none
