-- Which agents in columns stand near an area. Only the crate's own functions cite this.
use Rattle.std.specs.Prelude.{◌≡◌, ◌&&◌, ℕ, ℤ, Bool, List, filter, int_le, length, FitsSigned, Option, None, Some, slice_get, ⊤}
use Rattle.std.specs.Int.{w64}
use Rattle.std.specs.List.{All}
use Rattle.brace_num.specs.declared.kinds.Area.{Area}
use Rattle.brace_num.specs.Areas.{gap_to}
use Rattle.brace_model.specs.declared.program.Class.{Class}
use Rattle.brace_model.specs.declared.program.Program.{Program}
use Rattle.brace_model.specs.declared.world.Agent.{Agent}
use Rattle.brace_model.specs.World.{class_of, x_of, y_of}
use Rattle.brace_fold.specs.declared.order.Moved.{Moved}
use Rattle.brace_invert.specs.Held.{is_near}
use Rattle.brace_herd.specs.declared.near.Axes.{Axes}
use Rattle.brace_herd.specs.Placed.{ArePlaces}

-- whether a point is in an area
abbrev pub has_point : Area → ℤ → ℤ → Bool
has_point area x y =
    (int_le area.x0 x && int_le x area.x1) && (int_le area.y0 y && int_le y area.y1)

-- of the points at numbers of 64 bits an area has those that are within a range of another one
abbrev pub IsWidened : Area → ℤ → Area → Type 0
IsWidened area range wide = (x y : ℤ) → FitsSigned w64 x → FitsSigned w64 y
    → has_point wide x y ≡ int_le (gap_to area x y) range

-- an agent of a class stands at numbers of 64 bits
abbrev pub stands_fit : Option Class → Agent → Type 0
stands_fit None a = ⊤
stands_fit (Some c) a = FitsSigned w64 (x_of c a) × FitsSigned w64 (y_of c a)

abbrev pub StandsFit : Program → Agent → Type 0
StandsFit program a = stands_fit (class_of program a) a

-- columns of x and of y are those of a class, of as many rows as there are
pub record AreAxes (program : Program) (rows : Moved) (axes : Axes) : Type 0 where
  pub own : Class
  pub has : slice_get program.classes axes.class ≡ Some own
  pub xs : slice_get rows.states.items own.x ≡ Some axes.xs.now
  pub ys : slice_get rows.states.items own.y ≡ Some axes.ys.now
  pub xs_long : length axes.xs.now ≡ length rows.classes.items
  pub ys_long : length axes.ys.now ≡ length rows.classes.items

-- the places among agents of those of some of them that stand within a range of an area; these all
-- stand at numbers of 64 bits
pub record AreNear (program : Program) (area : Area) (range : ℤ) (agents these : List Agent)
    (places : List ℕ) : Type 0 where
  pub are : ArePlaces agents (filter (is_near program area range) these) places
  pub fit : All (StandsFit program) these
