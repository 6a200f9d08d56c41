use Rattle.std.proofs.Common.{◌≡◌, ◌∙◌, ℤ, get_or, pos, rules, w64}
use Rattle.std.specs.Prelude.{FitsSigned}
use Rattle.std.proofs.lemmas.Option.{slice_get-get_or}
use Rattle.brace_herd.specs.inner.Near.{has_point}
use Rattle.brace_herd.proofs.NearLemmas.{fit_there, near_there}
use Rattle.brace_herd.proofs.near.is_near_at.Goals as goal

pub returns : goal.returns
returns c =
    let axes = c.args.axes.now in
    let row = c.args.row in
    let x : ℤ = get_or axes.xs.now row (pos 0) in
    let y : ℤ = get_or axes.ys.now row (pos 0) in
    let fx : FitsSigned w64 x = search rules in
    let fy : FitsSigned w64 y = search rules in
    let is : c.is_in.result ≡ has_point c.args.wide.now x y = search (rules, c.is_in.ensures) in
    record {
      near = λ program rows agents a area range are moved there same wide.
          is ∙ wide x y fx fy
          ∙ near_there program rows axes are agents moved row a there same x y
          (slice_get-get_or axes.xs.now row (pos 0) c.requires.xs)
          (slice_get-get_or axes.ys.now row (pos 0) c.requires.ys) area range;
      fit = λ program rows agents a are moved there same.
          fit_there program rows axes are agents moved row a there same x y
          (slice_get-get_or axes.xs.now row (pos 0) c.requires.xs)
          (slice_get-get_or axes.ys.now row (pos 0) c.requires.ys) fx fy;
    }
