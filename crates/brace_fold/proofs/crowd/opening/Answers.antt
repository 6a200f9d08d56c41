use Rattle.std.proofs.Common.{refl, None}
use Rattle.brace_fold.specs.declared.crowd.Depth.TheVariants.{Outside}
use Rattle.brace_fold.proofs.Crowdings.{all-of-class, opening-stands}
use Rattle.brace_fold.proofs.crowd.opening.Goals as goal

pub returns : goal.returns
returns c = λ d.
    let scene = c.args.scene.now in
    opening-stands scene
    (record {
      depth = Outside;
      lanes = c.in_ok-lanes.lanes;
      locals = c.in_ok-locals.locals;
      stretches = None;
    })
    c.args.class c.args.constants _ d
    refl c.in_ok-lanes.ensures c.in_ok-locals.ensures refl
    (all-of-class scene c.args.class c.args.asking.now c.requires.scene c.requires.of_class)
