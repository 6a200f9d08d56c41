-- The plane in parts: cuts along x and along y make strips, and two strips that cross make a part.
-- Points are whole millionths of 64 bits. A cut belongs to the strip on its higher side.
use Rattle.std.specs.Prelude.{ℕ, ◌+◌, ◌*◌, ◌/◌, ◌%◌, ◌≤◌, nat_le, ℤ, pos, negsuc, ◌-ℤ◌, ◌≤ℤ◌, int_lt, int_le, Bool, true, ◌&&◌, IsTrue, List, [], ◌∷◌, length, slice_index_or, None, option_map, unwrap_or}
use Rattle.std.specs.List.{count_by, filter, last_or, list_all}
use Rattle.brace_num.specs.Areas.{gap}
use Rattle.brace_num.specs.declared.kinds.Area.{Area}
use Rattle.brace_cuts.specs.declared.space.Cuts.{Cuts}
use Rattle.brace_cuts.specs.declared.plan.CutPlan.{CutPlan}

-- the least number of 64 bits
abbrev pub least : ℤ
least = negsuc 9223372036854775807

-- one more than the greatest number of 64 bits
abbrev pub behind_all : ℤ
behind_all = pos 9223372036854775808

-- each number is below the next
abbrev pub rises : List ℤ → Bool
rises [] = true
rises (c ∷ []) = true
rises (c ∷ d ∷ cuts) = int_lt c d && rises (d ∷ cuts)

-- the strip that a number is in: how many cuts it is not below
abbrev pub strip : List ℤ → ℤ → ℕ
strip cuts v = count_by (λ c. int_le c v) cuts

-- the least number of a strip: the cut before it, if there is one
abbrev pub low_end : List ℤ → ℕ → ℤ
low_end cuts i = slice_index_or (least ∷ cuts) i least

-- the greatest number of a strip: the last one before the cut behind it, if there is one
abbrev pub high_end : List ℤ → ℕ → ℤ
high_end cuts i = slice_index_or cuts i behind_all -ℤ pos 1

-- how many strips there are along x
abbrev pub columns_of : Cuts → ℕ
columns_of cuts = length cuts.xs + 1

-- how many parts there are
abbrev pub parts_of : Cuts → ℕ
parts_of cuts = (length cuts.ys + 1) * columns_of cuts

-- the area of part number p; parts are numbered row by row, by rising x and then by rising y
abbrev pub area_of : Cuts → ℕ → Area
area_of cuts p = record {
  x0 = low_end cuts.xs (p % columns_of cuts);
  x1 = high_end cuts.xs (p % columns_of cuts);
  y0 = low_end cuts.ys (p / columns_of cuts);
  y1 = high_end cuts.ys (p / columns_of cuts);
}

-- the part that owns a point
abbrev pub owner_of : Cuts → ℤ → ℤ → ℕ
owner_of cuts x y = strip cuts.ys y * columns_of cuts + strip cuts.xs x

-- two parts have at most a gap of d
abbrev pub are_near : Cuts → ℕ → ℕ → ℤ → Bool
are_near cuts p q d = int_le (gap (area_of cuts p) (area_of cuts q)) d

-- two numbers are at most d apart
abbrev pub AreWithin : ℤ → ℤ → ℤ → Type 0
AreWithin d a b = ((a -ℤ b) ≤ℤ d) × ((b -ℤ a) ≤ℤ d)

-- a number that may be a cut: some number of 64 bits is below it
abbrev pub can_cut : ℤ → Bool
can_cut c = int_lt least c

-- cuts that rise, above the least number, and make at most 64 parts
pub record LawfulCuts (cuts : Cuts) : Type 0 where
  pub xs_rise : IsTrue (rises cuts.xs)
  pub ys_rise : IsTrue (rises cuts.ys)
  pub xs_can_cut : IsTrue (list_all can_cut cuts.xs)
  pub ys_can_cut : IsTrue (list_all can_cut cuts.ys)
  pub parts_are_few : parts_of cuts ≤ 64

-- no cuts: one part owns all points
abbrev pub no_cuts : Cuts
no_cuts = record { xs = []; ys = [] }

-- the cuts in force at a tick: those of the last line whose tick is not later
abbrev pub cuts_at : CutPlan → ℕ → Cuts
cuts_at plan tick =
    unwrap_or (option_map (λ line. line.cuts)
    (last_or None (filter (λ line. nat_le line.tick tick) plan.lines))) no_cuts
