-- Which parts meet: where a point of one is near an area of another.
use Rattle.std.proofs.Common.{◌≡◌, ◌∙◌, sym, ap, subst, ℕ, ◌+◌, ◌*◌, ◌<◌, ℤ, pos, ◌+ℤ◌, ◌≤ℤ◌, length, Bool, true, false, ◌&&◌, not, if◌then◌else◌, arith, FitsSigned}
use Rattle.std.specs.Prelude.{int_le, nat_lt}
use Rattle.std.specs.Int.{w64}
use Rattle.std.proofs.lemmas.Int.{ints, clamps}
use Rattle.std.proofs.lemmas.Nat.{mul-add-lt}
use Rattle.std.proofs.lemmas.Bool.{ne_eqb, lt-ltb}
use Rattle.std.proofs.lemmas.List.Sums.{count_by-le-length}
use Rattle.brace_num.specs.declared.kinds.Area.{Area}
use Rattle.brace_num.specs.Areas.{outside, gap_to, apart, gap}
use Rattle.brace_cuts.specs.declared.space.Cuts.{Cuts}
use Rattle.brace_cuts.specs.Space.{LawfulCuts, area_of, owner_of, parts_of, columns_of, strip}
use Rattle.brace_cuts.proofs.Areas.{owner_only}
use Rattle.brace_invert.specs.Range.{greatest_visible, says_in_inner_loops}
use Rattle.brace_invert.proofs.RangeLemmas.{greatest_in_range}
use Rattle.brace_pieces.specs.declared.setting.Setting.{Setting}
use Rattle.brace_pieces.specs.declared.setting.Step.{Step}
use Rattle.brace_pieces.specs.Settings.{cuts_of, parts, range, LawfulSetting}
use Rattle.brace_pieces.specs.Steps.{meet, parts_meet, is_show}
use Rattle.brace_pieces.proofs.CutLemmas.{cuts_lawful, parts_stay}
use Rattle.brace_num.proofs.Numbers.{max_within, within_max, le_holds}

-- ---- gaps

spans_apart : (low high other_low other_high p d : ℤ) → outside low high p ≤ℤ d → outside other_low other_high p ≤ℤ pos 0 → apart low high other_low other_high ≤ℤ d
spans_apart low high other_low other_high p d h g = omega (arith, ints, clamps)

no_more : (z d : ℤ) → z ≡ pos 0 → pos 0 ≤ℤ d → z ≤ℤ d
no_more z d e h = grind (arith, e, h)

-- an area that a point of another one is so far from is no farther from that
pub gap_by_point : (a b : Area) (x y d : ℤ) → gap_to a x y ≤ℤ d → gap_to b x y ≡ pos 0 → gap a b ≤ℤ d
gap_by_point a b x y d near here =
    let (near_x, near_y) = within_max (outside a.x0 a.x1 x) (outside a.y0 a.y1 y) d near in
    let (here_x, here_y) = within_max (outside b.x0 b.x1 x) (outside b.y0 b.y1 y) (pos 0) (no_more (gap_to b x y) (pos 0) here (grind arith)) in
    max_within (apart a.x0 a.x1 b.x0 b.x1) (apart a.y0 a.y1 b.y0 b.y1) d (spans_apart a.x0 a.x1 b.x0 b.x1 x d near_x here_x) (spans_apart a.y0 a.y1 b.y0 b.y1 y d near_y here_y)

pub no_gap : (z d : ℤ) → z ≡ pos 0 → pos 0 ≤ℤ d → int_le z d ≡ true
no_gap z d e h = le_holds z d (no_more z d e h)

-- ---- owners

-- each point has an owner
pub owner_below : (cuts : Cuts) (x y : ℤ) → owner_of cuts x y < parts_of cuts
owner_below cuts x y =
    let row = count_by-le-length (λ c. int_le c y) cuts.ys in
    let column = count_by-le-length (λ c. int_le c x) cuts.xs in
    let w : ℕ = columns_of cuts in
    let low : strip cuts.ys y < length cuts.ys + 1 = omega (arith, row) in
    let short : strip cuts.xs x < w = omega (arith, column) in
    let below = mul-add-lt (strip cuts.ys y) w (strip cuts.xs x) (length cuts.ys + 1) low short in
    let commuted : w * (length cuts.ys + 1) ≡ (length cuts.ys + 1) * w = grind arith in
    subst (λ n. owner_of cuts x y < n) commuted below

module _ (s : Setting) (lawful : LawfulSetting s) where
  pub owner_is_part : (t : ℕ) (x y : ℤ) → owner_of (cuts_of s t) x y < parts s
  owner_is_part t x y = subst (λ n. owner_of (cuts_of s t) x y < n) (parts_stay s.epoch s.cuts t s.job.first lawful.plan_is_lawful) (owner_below (cuts_of s t) x y)

  -- the owner of a point has it in its area
  pub owner_has : (t q : ℕ) (x y : ℤ) → FitsSigned w64 x → FitsSigned w64 y → owner_of (cuts_of s t) x y ≡ q → gap_to (area_of (cuts_of s t) q) x y ≡ pos 0
  owner_has t q x y fx fy is =
      let cuts : Cuts = cuts_of s t in
      let ok : LawfulCuts cuts = cuts_lawful s.epoch s.cuts t lawful.plan_is_lawful in
      (owner_only cuts x y ok.xs_rise ok.ys_rise fx fy q (subst (λ n. n < parts_of cuts) is (owner_below cuts x y))).1 (sym is)

  -- two different parts that meet do so as actors
  pub meets : (at : Step) (p q : ℕ) → p < parts s → (q ≡ p → ⊥) → q < parts s → parts_meet s at p q ≡ true → meet s at p q ≡ true
  meets at p q part differs other met =
      ap (λ v. not v && (if nat_lt p (parts s) && nat_lt q (parts s) then parts_meet s at p q else is_show at.stage)) (ne_eqb p q (λ e. differs (sym e)))
      ∙ ap (λ v. if v && nat_lt q (parts s) then parts_meet s at p q else is_show at.stage) (lt-ltb p (parts s) part)
      ∙ ap (λ v. if v then parts_meet s at p q else is_show at.stage) (lt-ltb q (parts s) other)
      ∙ met

  no_less_twice : (v : ℤ) (b : Bool) → pos 0 ≤ℤ v → pos 0 ≤ℤ (if b then v +ℤ v else v)
  no_less_twice v true h = omega (arith, ints, h)
  no_less_twice v false h = h

  pub range_some : pos 0 ≤ℤ range s
  range_some =
      let (low, high) = greatest_in_range s.job.program lawful.job_is_lawful.program_is_lawful in
      no_less_twice (greatest_visible s.job.program) (s.invert && says_in_inner_loops s.job.program) low
