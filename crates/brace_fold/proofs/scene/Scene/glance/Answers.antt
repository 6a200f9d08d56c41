use Rattle.std.proofs.Common.{◌≡◌, ◌∙◌, List, Some, ap, arith, length, pos, rules, sym, w32}
use Rattle.std.specs.Prelude.{FitsSigned}
use Rattle.std.proofs.lemmas.Int.{to_z-of_z}
use Rattle.brace_model.specs.declared.program.Class.{Class}
use Rattle.brace_fold.specs.declared.halves.Halves.{Halves}
use Rattle.brace_fold.proofs.Glances.{has-rows, only}
use Rattle.brace_fold.proofs.scene.Scene.glance.Goals as goal

pub returns : goal.returns
returns c =
    let scene = c.args.self.now in
    let own : Class = c.index-classes-0.result in
    let listed : List Class = c.as_slice-classes.result.now in
    let same : listed ≡ scene.program.now.classes = c.as_slice-classes.ensures in
    let one : length listed ≡ 1 = search rules in
    let halves : Halves = c.in-Ok-Some.halves.now in
    let theirs : scene.cells.now.halves ≡ Some halves = sym c.in-Ok-Some.ensures'.value in
    let xs : c.as_slice.result.now ≡ halves.xs.items = c.as_slice.ensures.value in
    let ys : c.as_slice-2.result.now ≡ halves.ys.items = c.as_slice-2.ensures.value in
    let (even, few) = has-rows c.requires.cells.side scene.cells.now.spots.items halves.xs.items
    halves.ys.items (c.requires.cells.halves halves theirs) in
    let fits : FitsSigned w32 c.in-Ok.range = search rules in
    let sees : c.in-Ok.range ≡ pos c.in-Ok-Some.visible = search rules in
    record {
      has = record {
        even = ap length ys ∙ even ∙ ap length (sym xs);
        few = omega (arith, ap length xs, few);
      };
      halves = halves;
      theirs = theirs;
      xs = xs;
      ys = ys;
      own = own;
      one = sym same ∙ only listed own one c.index-classes-0.is;
      first = search rules;
      range = c.in-Ok-Some.visible;
      sees = to_z-of_z w32 c.in-Ok.range fits ∙ sees;
      far = c.in-Ok-Some.ensures;
    }
