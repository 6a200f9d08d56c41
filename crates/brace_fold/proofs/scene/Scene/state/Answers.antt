use Rattle.std.proofs.Common.{◌≡◌, Some, refl, ap, slice_get}
use Rattle.std.specs.Prelude.{option_copied}
use Rattle.std.proofs.lemmas.Option.{slice_get_read}
use Rattle.brace_fold.proofs.Readings.{if_ok, state_there}
use Rattle.brace_fold.proofs.scene.Scene.state.Goals as goal

pub returns-in-Some : goal.returns-in-Some
returns-in-Some c =
    let scene = c.args.self.now in
    let there : slice_get scene.states.now c.args.state ≡ Some c.in-Some.column.now =
    slice_get_read scene.states.now _ c.args.state c.in-Some.column.now refl
    c.in-Some.ensures.lookup.3.0 c.in-Some.ensures.lookup.1 in
    if_ok c.read.result _ _
    (state_there scene c.requires c.args.state c.in-Some.column.now.now (ap option_copied there)
    c.args.row)
    c.read.ensures
