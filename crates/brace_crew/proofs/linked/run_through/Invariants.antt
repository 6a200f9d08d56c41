use Rattle.std.proofs.Common.{◌≡◌, ◌-◌, map, length}
use Rattle.brace_pieces.specs.Steps.{steps}
use Rattle.brace_pieces.specs.Courses.{past_of}
use Rattle.brace_wire.specs.Stands.{StandsOn}
use Rattle.brace_crew.specs.Members.{course_of}
use Rattle.brace_crew.proofs.FrontEnds.{IsBetween}
use Rattle.brace_crew.proofs.linked.run_through.Given as goal

abbrev pub invariant-loop-end : goal.invariant-loop-end
invariant-loop-end g l = record {
  of : l.fronts.setting ≡ l.setting;
  between : IsBetween l.setting l.fronts.number l.initial.members l.members;
  stands : StandsOn l.setting l.fronts.number (map (λ m. past_of (course_of m)) l.members) l.lanes;
  lanes_setting : l.lanes.setting ≡ l.initial.lanes.setting;
  lanes_actors : l.lanes.actors ≡ l.initial.lanes.actors;
}

-- how many steps are left
abbrev pub decreases-loop-end : goal.decreases-loop-end
decreases-loop-end g l = length (steps l.setting) - l.fronts.number
