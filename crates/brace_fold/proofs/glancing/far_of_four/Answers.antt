use Rattle.std.proofs.Common.{◌≡◌, ◌∙◌, ◌+◌, ◌≤◌, ◌%◌, ℕ, Bool, pos, not, [], ◌∷◌, get_or, bit_or, ap, arith, refl, rules, sym, FitsSigned, of_z, to_z, w32}
use Rattle.std.proofs.lemmas.Simd.{mask_l-mod}
use Rattle.std.specs.Prelude.{◌==◌, int_lt, nat_le}
use lib.Lanes.{mask_l, top}
use Rattle.brace_fold.specs.inner.Glances.{sees_at}
use Rattle.brace_fold.proofs.Fours.{either, lane}
use Rattle.brace_fold.proofs.Glances.{apart, lane-is, told_at}
use Rattle.brace_fold.proofs.glancing.far_of_four.Goals as goal

pub returns-clause-bits : goal.returns-clause-bits
returns-clause-bits c = λ spots eye d is clear.
    let square = c.args.square.now in
    let row = c.args.row in
    let end = c.args.end in
    let xs = c.args.xs.now in
    let ys = c.args.ys.now in
    let lane-at : (j k : ℕ) → k ≡ j → row ≤ k → FitsSigned w32 (get_or xs j (pos 0))
    → FitsSigned w32 (get_or ys j (pos 0))
    → top 31 (bit_or (bit_or
    (lane (int_lt (to_z w32 (of_z w32 square.reach))
    (to_z w32 (apart (get_or xs j (pos 0)) square.across))))
    (lane (int_lt (to_z w32 (of_z w32 square.reach))
    (to_z w32 (apart (get_or ys j (pos 0)) square.along)))))
    (bit_or (lane (nat_le end k)) (lane (k == square.place))))
    ≡ not (sees_at eye end spots d k) =
    λ j k same from x_fits y_fits.
    let x : Bool = int_lt (to_z w32 (of_z w32 square.reach))
    (to_z w32 (apart (get_or xs j (pos 0)) square.across)) in
    let y : Bool = int_lt (to_z w32 (of_z w32 square.reach))
    (to_z w32 (apart (get_or ys j (pos 0)) square.along)) in
    either x y (nat_le end k) (k == square.place)
    ∙ lane-is eye xs ys end k (get_or spots k d) x y (nat_le end k) (k == square.place) refl
    (ap (λ p. k == p) is.place)
    (λ to.
    let here = clear.each k d from to in (
      here,
      (
        told_at eye.x (get_or spots k d).x eye.range (get_or xs j (pos 0)) square.across
            square.reach x_fits (search rules) (search rules)
            (ap (λ n. get_or xs n (pos 0)) (sym same) ∙ here.x) is.across is.reach here.across
            is.range,
        told_at eye.y (get_or spots k d).y eye.range (get_or ys j (pos 0)) square.along
            square.reach y_fits (search rules) (search rules)
            (ap (λ n. get_or ys n (pos 0)) (sym same) ∙ here.y) is.along is.reach here.along
            is.range,
      ),
    )) in
    let sees : ℕ → Bool = λ k. not (sees_at eye end spots d k) in
    (λ i. mask_l (
    lane-at row (row + 0) (omega arith) (omega arith) (search rules) (search rules) i
    ∷ lane-at (row + 1) (row + 1) refl (omega arith) (search rules) (search rules) i
    ∷ lane-at (row + 2) (row + 2) refl (omega arith) (search rules) (search rules) i
    ∷ lane-at (row + 3) (row + 3) refl (omega arith) (search rules) (search rules) i ∷ [])
    % 18446744073709551616)
    ∙ mask_l-mod (sees (row + 0) ∷ sees (row + 1) ∷ sees (row + 2) ∷ sees (row + 3) ∷ []) 64
    (omega arith)
