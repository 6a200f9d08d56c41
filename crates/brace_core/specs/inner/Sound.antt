-- What always holds of plain lanes.
use Rattle.std.specs.Prelude.{◌≡◌, ℕ, ◌+◌, ◌*◌, ◌^◌, ◌≤◌, List, [], ◌∷◌, Some, length, slice_get}
use Rattle.brace_core.specs.declared.name.Name.{Name}
use Rattle.brace_core.specs.declared.lane.Flight.{Flight}
use Rattle.brace_core.specs.declared.lane.Flight.TheVariants.{Empty, One, Two}
use Rattle.brace_core.specs.Schedule.{Schedule, lane}
use Rattle.brace_core.specs.Lanes.{OnLanes, AreBelow, lane_of, takes_of, puts_of}

-- the pieces in a lane's two places, the oldest first
abbrev pub pieces_of : {F : Type 0} → Flight F → List F
pieces_of Empty = []
pieces_of (One first) = first ∷ []
pieces_of (Two first second) = first ∷ second ∷ []

module _ {F S : Type 0} (schedule : S → Schedule) (right : S → Name → F → Type 0) where
  -- lanes serve every name of their setting; what was put are the first names of each lane, at most
  -- one more than were taken of the opposite lane; and each piece is right for its name
  pub record IsSound (v : OnLanes F S) : Type 0 where
    pub few : v.actors ≤ 65
    pub size : length v.lanes ≡ v.actors * v.actors
    pub short : length (schedule v.setting).steps ≤ 2 ^ 40
    pub below : AreBelow (schedule v.setting) v.actors
    pub within : (p q : ℕ) → puts_of v p q ≤ length (lane (schedule v.setting) p q)
    pub answered : (p q : ℕ) → puts_of v p q ≤ takes_of v q p + 1
    pub is_right : (p q i : ℕ) (name : Name) (piece : F) →
        slice_get (lane (schedule v.setting) p q) (takes_of v p q + i) ≡ Some name →
        slice_get (lane_of v p q).pieces i ≡ Some piece → right v.setting name piece
