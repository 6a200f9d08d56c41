use Rattle.std.proofs.Common.{rules, ◌≡◌, sym, subst, w64, true, ℤ, arith}
use Rattle.std.specs.Prelude.{FitsSigned}
use Rattle.std.proofs.lemmas.Int.{ints, to_z-of_z}
use Rattle.brace_model.specs.World.{is_within, x_of, y_of}
use Rattle.brace_grid.specs.Grids.{is_between}
use Rattle.brace_plan.proofs.NearLemmas.{seen_inside, in_sight, part_inside, visible-most}
use Rattle.brace_plan.proofs.near.area_of.Goals as goal

pub returns : goal.returns
returns c =
    let program = c.args.scene.now.program.now in
    let class = c.in_ok-class.class.now in
    let this = c.args.seat.now.this.agent.now in
    let is = sym c.in_ok-class.ensures in
    let most = visible-most program this.class class is in
    let visible : FitsSigned w64 class.visible = search rules in
    let px : FitsSigned w64 c.x_of.result = search rules in
    let py : FitsSigned w64 c.y_of.result = search rules in
    let xl : FitsSigned w64 c.in_ok-x.x.low = search rules in
    let xh : FitsSigned w64 c.in_ok-x.x.high = search rules in
    let yl : FitsSigned w64 c.in_ok-y.y.low = search rules in
    let yh : FitsSigned w64 c.in_ok-y.y.high = search rules in
    record {
      holds = λ seed b seen met.
          let one = simp to_z-of_z at c.in_ok-x.ensures.holds in
          let two = simp to_z-of_z at c.in_ok-y.ensures.holds in
          let all = simp to_z-of_z at c.narrowed.ensures.holds in
          let x : (v : ℤ) → is_within class.visible (x_of class this) v ≡ true → is_between c.in_ok-x.x.low c.in_ok-x.x.high v ≡ true =
          λ v h. one v (subst (λ q. is_within class.visible q v ≡ true) (sym c.x_of.ensures) h) in
          let y : (v : ℤ) → is_within class.visible (y_of class this) v ≡ true → is_between c.in_ok-y.y.low c.in_ok-y.y.high v ≡ true =
          λ v h. two v (subst (λ q. is_within class.visible q v ≡ true) (sym c.y_of.ensures) h) in
          all seed _ met (seen_inside program this b class _ is x y seen);
      sight = λ b there.
          let one = simp to_z-of_z at c.in_ok-x.ensures.within in
          let two = simp to_z-of_z at c.in_ok-y.ensures.within in
          let part = simp to_z-of_z at c.narrowed.ensures.part in
          let x : (v : ℤ) → is_between c.in_ok-x.x.low c.in_ok-x.x.high v ≡ true → is_within class.visible (x_of class this) v ≡ true =
          λ v h. subst (λ q. is_within class.visible q v ≡ true) c.x_of.ensures (one v h) in
          let y : (v : ℤ) → is_between c.in_ok-y.y.low c.in_ok-y.y.high v ≡ true → is_within class.visible (y_of class this) v ≡ true =
          λ v h. subst (λ q. is_within class.visible q v ≡ true) c.y_of.ensures (two v h) in
          in_sight program this b class _ is x y (part_inside _ _ _ part there);
      wide = omega (arith, ints, most, c.requires.wide, c.narrowed.ensures.part.x0, c.narrowed.ensures.part.x1, c.in_ok-x.ensures.low, c.in_ok-x.ensures.high);
      high = omega (arith, ints, most, c.requires.wide, c.narrowed.ensures.part.y0, c.narrowed.ensures.part.y1, c.in_ok-y.ensures.low, c.in_ok-y.ensures.high);
    }
