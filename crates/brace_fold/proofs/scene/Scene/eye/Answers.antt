use Rattle.std.proofs.Common.{rules, ◌≡◌, ◌∙◌, List, Some, refl, sym, ap, slice_get, to_z, of_z, w64}
use Rattle.std.proofs.lemmas.Int.{to_z-of_z}
use Rattle.std.proofs.lemmas.Option.{slice_get_read}
use Rattle.brace_model.specs.declared.program.Class.{Class}
use Rattle.brace_fold.proofs.Readings.{class_there}
use Rattle.brace_fold.proofs.scene.Scene.eye.Goals as goal

pub returns : goal.returns
returns c a this =
    let scene = c.args.self.now in
    let own = c.in-Some-get.own.now in
    let number = c.in-Some.number.now in
    let is : slice_get scene.classes.now c.args.row ≡ Some number =
    slice_get_read scene.classes.now _ c.args.row number refl c.in-Some.ensures.lookup.3.0
    c.in-Some.ensures.lookup.1 in
    let class : number ≡ a.class = class_there scene c.requires c.args.row number is a this in
    let has : slice_get c.as_slice.result.now number ≡ Some own =
    slice_get_read c.as_slice.result.now _ number own refl c.in-Some-get.ensures.lookup.3.0
    c.in-Some-get.ensures.lookup.1 in
    let x : to_z w64 (of_z w64 c.in_ok-state.field-0) ≡ c.in_ok-state.field-0 =
    search (rules, to_z-of_z) in
    let y : to_z w64 (of_z w64 c.in_ok-state-2.field-0) ≡ c.in_ok-state-2.field-0 =
    search (rules, to_z-of_z) in
    record {
      own = own;
      has = ap (slice_get scene.program.now.classes) (sym class)
          ∙ ap (λ (l : List Class). slice_get l number) (sym c.as_slice.ensures) ∙ has;
      range = c.in_ok-range_of.ensures;
      x = x ∙ c.in_ok-state.ensures a this;
      y = y ∙ c.in_ok-state-2.ensures a this;
      sought = refl;
      at = refl;
    }
