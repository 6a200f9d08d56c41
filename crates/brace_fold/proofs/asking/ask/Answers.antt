use Rattle.std.proofs.Common.{◌≡◌, sym, subst, true}
use Rattle.std.specs.List.{list_all}
use Rattle.brace_model.specs.declared.program.Program.{Program}
use Rattle.brace_model.specs.Lawful.{is_lawful_agent}
use Rattle.brace_plan.specs.Planning.{IsPlanned}
use Rattle.brace_fold.specs.inner.Asks.{openings}
use Rattle.brace_fold.specs.inner.Crowds.{world}
use Rattle.brace_fold.proofs.Askings.{asks-of}
use Rattle.brace_fold.proofs.Crowdings.{all-of-class}
use Rattle.brace_fold.proofs.asking.ask.Goals as goal

pub returns : goal.returns
returns c = λ d.
    let scene = c.args.scene.now in
    let told = c.in-Some.told in
    let asking = c.args.asking.now in
    let plan : IsPlanned scene.program.now c.args.class told.actions.now told.constants =
    subst (λ (p : Program). IsPlanned p c.args.class told.actions.now told.constants) (sym c.requires.program) c.in-Some.ensures in
    let lawful : list_all (is_lawful_agent scene.program.now) (world scene) ≡ true =
    subst (λ (p : Program). list_all (is_lawful_agent p) (world scene) ≡ true)
    (sym c.requires.program) c.requires.lawful in
    asks-of scene c.args.class told.constants told.actions.now d plan lawful c.requires.scene.moved
    asking c.args.heard.now c.block.new.heard
    (all-of-class scene c.args.class asking c.requires.scene c.requires.of_class)
    (c.in_ok-block.ensures (openings scene told.constants d asking) (c.in_ok-crowd.ensures d))
