use Rattle.std.proofs.Common.{refl, subst}
use Rattle.std.specs.Vec.{vec_capacity}
use Rattle.brace_desk.specs.Desks.{OnDesk}
use Rattle.brace_desk.proofs.DeskWorks.{desk_fits}
use Rattle.brace_desk.proofs.desk.Desk.into_publisher.Goals as goal

pub returns-clause-fits : goal.returns-clause-fits
returns-clause-fits g c =
    subst (λ (v : OnDesk g.row.P.Denot). g.P.Publisher.fits c.self.inside.publisher v.course.setting.job.program) c.self.view_is
    (desk_fits g.P.Publisher _ (vec_capacity c.self.inside.lots) c.self.invariant _ refl)
