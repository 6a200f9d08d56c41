use Rattle.std.proofs.Common.{◌≡◌, ◌∙◌, ℤ, List, Some, refl, ap, slice_get}
use Rattle.std.specs.Prelude.{option_map}
use Rattle.std.proofs.lemmas.Option.{slice_get-map, slice_get_read}
use Rattle.brace_fold.proofs.Readings.{if_ok}
use Rattle.brace_fold.proofs.Spottings.{word-is}
use denote.Ref.{Bor}
use Rattle.brace_fold.proofs.columns.word_in.Goals as goal

pub returns-in-Some : goal.returns-in-Some
returns-in-Some c =
    let columns = c.args.columns.now in
    let column = c.in-Some.column.now in
    let there : slice_get columns.states.now c.args.state ≡ Some column =
    slice_get_read columns.states.now _ c.args.state column refl
    c.in-Some.ensures.lookup.3.0 c.in-Some.ensures.lookup.1 in
    if_ok c.read.result _ _ (λ word read agents a are at.
    word-is agents columns are c.args.row a at c.args.state column.now word
    (slice_get-map (λ (v : Bor (List ℤ)). v.now) columns.states.now c.args.state
    ∙ ap (option_map (λ (v : Bor (List ℤ)). v.now)) there) read) c.read.ensures
