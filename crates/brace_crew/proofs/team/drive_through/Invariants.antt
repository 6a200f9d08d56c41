use Rattle.std.proofs.Common.{◌≡◌, ℕ, ◌-◌, length}
use Rattle.std.specs.List.{All}
use Rattle.brace_pieces.specs.Steps.{steps}
use Rattle.brace_pieces.specs.Fronts.{steps_to}
use Rattle.brace_crew.specs.Members.{WasUntold}
use Rattle.brace_crew.specs.inner.Teams.{AreStill, HasCome}
use Rattle.brace_crew.proofs.team.drive_through.Given as goal

abbrev pub invariant-loop-end : goal.invariant-loop-end
invariant-loop-end g l = record {
  of : l.fronts.setting ≡ l.setting;
  still : AreStill l.initial.benches l.benches;
  come : All (HasCome l.fronts.number) l.benches;
  reached : (count : ℕ) × (l.fronts.number ≡ steps_to l.setting count);
  untold : All (λ b. All (WasUntold l.setting l.fronts.number) b.members) l.benches;
}

-- how many steps are left
abbrev pub decreases-loop-end : goal.decreases-loop-end
decreases-loop-end g l = length (steps l.setting) - l.fronts.number
