-- Strips over the agents of a world that are balanced: where agents stand along x, and the one
-- answer for that.
use Rattle.std.specs.Prelude.{◌≡◌, ℕ, ℤ, List, map, IsTrue}
use Rattle.std.specs.List.Sorted.{IsPermutation}
use Rattle.brace_balance.specs.declared.kinds.Balance.{Balance}
use Rattle.brace_balance.specs.Loads.{never_falls, load, accepts, IsLeast}
use Rattle.brace_balance.specs.Fillings.{filled, IsProof}
use Rattle.brace_desk.specs.Sums.{place_along}
use Rattle.brace_model.specs.declared.program.Program.{Program}
use Rattle.brace_model.specs.declared.world.Agent.{Agent}
use Rattle.brace_model.specs.World.{x_of}

-- where each agent stands along x, in millionths, in rising order
pub record IsAlongX (program : Program) (agents : List Agent) (xs : List ℤ) : Type 0 where
  pub sorted : IsTrue (never_falls xs)
  pub all : IsPermutation (map (place_along x_of program) agents) xs

-- cuts that make at most so many strips of numbers: strips filled from the left up to the least
-- load that there is, which is theirs, with the proof that goes with it, and which is accepted
pub record IsBalance (xs : List ℤ) (strips : ℕ) (balance : Balance) : Type 0 where
  pub cuts : balance.cuts ≡ filled balance.load strips xs
  pub reached : load balance.cuts xs ≡ balance.load
  pub least : IsLeast xs strips balance.load
  pub proof : IsProof xs strips balance.load balance.proof
  pub accepted : IsTrue (accepts xs strips balance.load balance.proof)
