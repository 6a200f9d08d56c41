use Rattle.std.proofs.Common.{◌≡◌, ◌∙◌, rules, w64, to_z, of_z}
use Rattle.brace_fold.proofs.Sayings.{hears-words}
use Rattle.brace_fold.proofs.scene.Scene.say_to.Goals as goal

pub returns : goal.returns
returns c = λ a type words found many is.
    let kept : to_z w64 (of_z w64 c.args.number) ≡ c.args.number = search rules in
    hears-words c.args.self.now c.args.ear.now c.args.comb type c.args.row c.args.count words _
    c.args.heard.now c.join.new.self a c.requires.listens.scene c.requires.listens.ear
    c.requires.comb c.in_ok-expect_class.ensures found (kept ∙ is) many c.in_ok-join.ensures
