use Rattle.std.proofs.Common.{◌≤◌, ◌^◌, length, arith}
use Rattle.brace_command.proofs.StripLemmas.{along_length}
use Rattle.brace_command.proofs.strips.balanced_strips.Goals as goal

pub balance-requires-clause-size : goal.balance-requires-clause-size
balance-requires-clause-size c =
    let as_many = along_length c.args.program.now c.agents.result.now c.in_ok-xs.xs.items c.in_ok-xs.ensures in
    let few : length c.agents.result.now ≤ 2 ^ 20 = rw c.agents.ensures.same c.requires.few_agents in
    rw c.deref.ensures.value (omega (arith, as_many, few))
