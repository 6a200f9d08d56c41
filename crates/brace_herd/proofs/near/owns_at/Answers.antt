use Rattle.std.proofs.Common.{◌∙◌, sym, pos}
use Rattle.brace_cuts.specs.Space.{area_of}
use Rattle.brace_model.specs.World.{class_of}
use Rattle.brace_herd.proofs.NearLemmas.{own_at}
use Rattle.brace_herd.proofs.near.owns_at.Goals as goal

pub returns : goal.returns
returns c cuts part agents a lawful is_part wide moved there same =
    let program = c.args.program.now in
    let rows = c.args.rows.now in
    let stands = c.is_near_at.ensures in
    let axes = c.in_ok-axes.ensures in
    let class = same ∙ sym axes.class in
    stands.near program rows agents a (area_of cuts part) (pos 0) axes.axes moved there class wide
    ∙ own_at cuts lawful part is_part (class_of program a) a
    (stands.fit program rows agents a axes.axes moved there class)
