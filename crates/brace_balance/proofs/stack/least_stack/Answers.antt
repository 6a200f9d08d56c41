use Rattle.std.proofs.Common.{◌≡◌, ◌∙◌, ◌+◌, ◌-◌, ◌≤◌, ℤ, pos, sym, subst, arith, inl, inr, rules, get_or, SFits, w64, ◌≤ℤ◌}
use Rattle.std.proofs.lemmas.Bool.{cases_lt}
use Rattle.std.proofs.lemmas.Int.{to_z-of_z}
use Rattle.brace_balance.specs.Loads.{times}
use Rattle.brace_balance.specs.Fillings.{IsLeastStack}
use Rattle.brace_num.proofs.Numbers.{le_told}
use Rattle.brace_balance.proofs.Ordered.{in_order}
use Rattle.brace_balance.proofs.Stacks.{run_counts, stack_stands}
use Rattle.brace_balance.proofs.stack.least_stack.Goals as goal

pub returns-then-xs-i : goal.returns-then-xs-i
returns-then-xs-i c =
    let xs = c.args.xs.now in
    let i = c.loop-i.i in
    let m = c.args.n - 1 in
    let p = get_or xs i (pos 0) in
    let here : SFits w64 (get_or xs i (pos 0)) = search rules in
    let there : SFits w64 (get_or xs (i + (c.args.n - 1)) (pos 0)) = search rules in
    let same : get_or xs (i + (c.args.n - 1)) (pos 0) ≡ get_or xs i (pos 0) = grind (arith, to_z-of_z, c.if-xs-i.true) in
    let many = run_counts (pos 0) xs i m c.requires.sorted (omega arith) same in
    let lowest : (q : ℤ) → c.args.n ≤ times q xs → get_or xs i (pos 0) ≤ℤ q = λ q stands.
    let run = stack_stands (pos 0) xs m q c.requires.sorted (omega (arith, stands, c.requires.positive)) in
    elim (cases_lt run.at i) [
      | inl before ↦ absurd (c.loop-i.invariant run.at before (run.last ∙ sym run.first))
      | inr from ↦ subst (λ z. get_or xs i (pos 0) ≤ℤ z) run.first
          (le_told _ _ (in_order (pos 0) xs i run.at c.requires.sorted from (omega (arith, run.within))))
    ] in
    subst (IsLeastStack xs c.args.n) (sym (to_z-of_z w64 p here))
    (record { stands = omega (arith, many, c.requires.positive); least = lowest })

pub returns : goal.returns
returns c =
    let xs = c.args.xs.now in
    λ q. elim (cases_lt (times q xs) c.args.n) [
      | inl few ↦ few
      | inr many ↦
          let run = stack_stands (pos 0) xs (c.args.n - 1) q c.requires.sorted (omega (arith, many, c.requires.positive)) in
          absurd (c.loop-i.invariant run.at (omega (arith, run.within)) (run.last ∙ sym run.first))
    ]
