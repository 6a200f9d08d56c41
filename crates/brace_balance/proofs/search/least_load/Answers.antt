use Rattle.std.proofs.Common.{◌≡◌, ℕ, ◌<◌, ◌≤◌, true, List, [], ◌∷◌, ℤ, length, refl, arith}
use Rattle.brace_balance.specs.Loads.{never_falls}
use Rattle.brace_balance.specs.Fillings.{filled}
use Rattle.brace_balance.proofs.Filled.{one_suffices, stuck}
use Rattle.brace_balance.proofs.search.least_load.Goals as goal

-- with a load of 0 no strip can be filled
none_suffices : (k : ℕ) (xs : List ℤ) → 0 < length xs → never_falls xs ≡ true
    → k ≤ length (filled 0 k xs)
none_suffices k [] some up = absurd (omega (arith, some))
none_suffices k (x ∷ xs) some up = omega (arith, stuck 0 k x xs up refl)

pub loop-high-init : goal.loop-high-init
loop-high-init c =
    let xs = c.args.xs.now in
    record {
      apart = c.requires.not_empty;
      within = omega arith;
      enough = one_suffices c.args.strips xs (omega (arith, c.requires.strips));
      less = none_suffices c.args.strips xs c.requires.not_empty c.requires.sorted;
    }
