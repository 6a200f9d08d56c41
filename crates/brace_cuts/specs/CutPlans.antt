-- The text of a cut plan: lines `at TICK x C.. y D..`, each with the cuts that hold from a tick on;
-- its plan, or its first faulty line with that line's first fault. Lines are counted from 1.
-- Byte 10 ends a line, byte 32 is the space.
use Rattle.std.specs.Prelude.{◌≡◌, ℕ, ◌+◌, ◌-◌, ◌%◌, ◌^◌, ◌==◌, nat_lt, nat_le, ℤ, Bool, not, ◌&&◌, if◌then◌else◌, List, [], ◌∷◌, length, map, filter_map, take, drop, codes, slice_get, slice_index, slice_index_or, position, Option, Some, None, is_some, option_map, unwrap_or, IsTrue}
use Rattle.std.specs.List.{last_or, list_all, range_with_len, slice_split}
use Rattle.std.specs.List.Sorted.{IsStrictlyIncreasing}
use Rattle.std.specs.Str.{bytes_eq}
use Rattle.brace_num.specs.Spelling.{count_of, fixed_of}
use Rattle.brace_cuts.specs.Space.{rises, can_cut, parts_of, LawfulCuts}
use Rattle.brace_cuts.specs.declared.plan.CutLine.{CutLine}
use Rattle.brace_cuts.specs.declared.plan.CutPlan.{CutPlan}
use Rattle.brace_cuts.specs.declared.kinds.PlanKind.{PlanKind}
use Rattle.brace_cuts.specs.declared.kinds.PlanKind.TheVariants.{BadLine, NotRising, OffEpoch, OtherCount, TooMany}

-- the bytes but for a last one that ends a line
abbrev pub without_last_end : List ℕ → List ℕ
without_last_end bytes =
    if slice_index bytes (length bytes - 1) == 10 then take (length bytes - 1) bytes else bytes

-- the lines of a file; each ends with its byte 10, which the last may lack
abbrev pub lines_of : List ℕ → List (List ℕ)
lines_of bytes = slice_split (λ b. b == 10) (without_last_end bytes)

-- what stands between the spaces of a line
abbrev pub parts_in : List ℕ → List (List ℕ)
parts_in line = slice_split (λ b. b == 32) line

-- the tick that a count is, if it is one
abbrev pub tick_in_range : Option ℕ → Option ℕ
tick_in_range None = None
tick_in_range (Some n) = if nat_le n (2 ^ 32) then Some n else None

-- the tick that a text spells, if any
abbrev pub tick_of : List ℕ → Option ℕ
tick_of text = tick_in_range (count_of text)

-- the cut that a fixed number is, if it is one
abbrev pub cut_in_range : Option ℤ → Option ℤ
cut_in_range None = None
cut_in_range (Some c) = if can_cut c then Some c else None

-- the cut that a text spells, if any
abbrev pub cut_of : List ℕ → Option ℤ
cut_of text = cut_in_range (fixed_of text)

-- the cuts of some texts, where each spells one
abbrev pub cuts_of : List (List ℕ) → Option (List ℤ)
cuts_of texts =
    if list_all (λ text. is_some (cut_of text)) texts then Some (filter_map cut_of texts) else None

-- the line of a tick, of cuts along x and of cuts along y, where all three are there
abbrev pub line_with : Option ℕ → Option (List ℤ) → Option (List ℤ) → Option CutLine
line_with (Some tick) (Some xs) (Some ys) =
    Some (record { tick = tick; cuts = record { xs = xs; ys = ys } })
line_with _ _ _ = None

-- the line of a tick and of the cuts before and behind a place, if there is one
abbrev pub line_around : List ℕ → List (List ℕ) → Option ℕ → Option CutLine
line_around tick cuts None = None
line_around tick cuts (Some y) =
    line_with (tick_of tick) (cuts_of (take y cuts)) (cuts_of (drop (y + 1) cuts))

-- the line of the parts `at`, a tick, `x`, cuts, `y`, cuts
abbrev pub line_in : List (List ℕ) → Option CutLine
line_in (at ∷ tick ∷ x ∷ cuts) =
    if bytes_eq at (codes "at") && bytes_eq x (codes "x")
    then line_around tick cuts (position (λ part. bytes_eq part (codes "y")) cuts) else None
line_in _ = None

-- the line that a text is, if it has the form of one
abbrev pub line_of : List ℕ → Option CutLine
line_of text = line_in (parts_in text)

-- the lines of those texts that have the form
abbrev pub lines_in : List (List ℕ) → List CutLine
lines_in texts = filter_map line_of texts

-- the tick is above that of the line before it, or it is 0 and there is none
abbrev pub is_later : Option CutLine → ℕ → Bool
is_later None tick = tick == 0
is_later (Some before) tick = nat_lt before.tick tick

-- its cuts rise, and its tick is above that of the line before
abbrev pub is_rising : List CutLine → CutLine → Bool
is_rising earlier line =
    rises line.cuts.xs && rises line.cuts.ys && is_later (last_or None earlier) line.tick

-- two lines have as many cuts along x, and as many along y
abbrev pub are_alike : CutLine → CutLine → Bool
are_alike a b =
    length a.cuts.xs == length b.cuts.xs && length a.cuts.ys == length b.cuts.ys

-- the first fault of a line of the form behind these lines, if it has one
abbrev pub fault_of : ℕ → List CutLine → CutLine → Option PlanKind
fault_of epoch earlier line =
    if not (is_rising earlier line) then Some NotRising
    else if not (line.tick % epoch == 0) then Some OffEpoch
    else if not (are_alike (unwrap_or (slice_get earlier 0) line) line) then Some OtherCount
    else if nat_lt 64 (parts_of line.cuts) then Some TooMany else None

-- the first fault of a line behind these lines, if it has one
abbrev pub fault_behind : ℕ → List CutLine → Option CutLine → Option PlanKind
fault_behind epoch earlier None = Some BadLine
fault_behind epoch earlier (Some line) = fault_of epoch earlier line

-- the first fault of line number n, behind the lines before it
abbrev pub fault_at : ℕ → List (List ℕ) → ℕ → Option PlanKind
fault_at epoch texts n =
    fault_behind epoch (lines_in (take (n - 1) texts)) (line_of (slice_index_or texts (n - 1) []))

-- the faults that lines have, each with the number of its line
abbrev pub faults_in : ℕ → List (List ℕ) → List (ℕ × PlanKind)
faults_in epoch texts =
    filter_map (λ n. option_map (λ kind. (n, kind)) (fault_at epoch texts n))
    (range_with_len 1 (length texts))

-- the number of the first faulty line, and its first fault
abbrev pub first_fault : ℕ → List (List ℕ) → Option (ℕ × PlanKind)
first_fault epoch texts = slice_get (faults_in epoch texts) 0

-- the ticks of some lines
abbrev pub ticks_of : List CutLine → List ℕ
ticks_of lines = map (λ line. line.tick) lines

-- the first line has tick 0, and each later one a tick above that of the line before
pub record IsInOrder (lines : List CutLine) : Type 0 where
  pub begins : slice_get (ticks_of lines) 0 ≡ Some 0
  pub goes_on : IsStrictlyIncreasing (ticks_of lines)

-- what is known of a line of a plan whose first line is given
pub record IsPlanLine (epoch : ℕ) (first line : CutLine) : Type 0 where
  pub tick_ends_an_epoch : line.tick % epoch ≡ 0
  pub tick_is_low : IsTrue (nat_le line.tick (2 ^ 32))
  pub is_like_the_first : IsTrue (are_alike first line)
  pub cuts_are_lawful : LawfulCuts line.cuts

-- a cut plan for epochs of this length
pub record IsPlan (epoch : ℕ) (plan : CutPlan) : Type 0 where
  pub in_order : IsInOrder plan.lines
  pub lines_are_lawful : (n : ℕ) (first line : CutLine) → slice_get plan.lines 0 ≡ Some first
      → slice_get plan.lines n ≡ Some line → IsPlanLine epoch first line
