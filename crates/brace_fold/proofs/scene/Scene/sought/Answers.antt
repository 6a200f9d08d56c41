use Rattle.std.proofs.Common.{◌∙◌, eqb-true, length, subst, sym}
use Rattle.std.specs.Prelude.{IfSome}
use Rattle.std.proofs.lemmas.List.{nil_from_length}
use Rattle.std.proofs.lemmas.Option.{none-some}
use Rattle.brace_fold.specs.inner.Glances.{IsGlance}
use Rattle.brace_fold.proofs.scene.Scene.sought.Goals as goal
use Rattle.brace_fold.proofs.scene.Scene.sought.Goals.{then-is_empty, else-is_empty}

pub returns-clause-is : goal.returns-clause-is
returns-clause-is c =
    elim c.if-is_empty.branch [
      | then-is_empty w ↦ record {
        uncut = λ glance is. sym c.as_slice.ensures
            ∙ nil_from_length c.as_slice.result.now
            (eqb-true (length c.as_slice.result.now) 0
            (sym c.is_empty.ensures ∙ w.if-is_empty.true));
        glance = λ glance is. subst (λ o. IfSome o (IsGlance c.args.self.now c.args.class))
            (sym w.glance-is ∙ is) w.glance-glance.ensures;
      }
      | else-is_empty w ↦ record {
        uncut = λ glance is. absurd (none-some glance (sym w.glance-is ∙ is));
        glance = λ glance is. absurd (none-some glance (sym w.glance-is ∙ is));
      }
    ]
