use Rattle.std.proofs.Common.{rules, ◌≡◌, sym, subst, true, arith}
use Rattle.std.specs.List.{All}
use Rattle.std.proofs.lemmas.List.{take_all}
use Rattle.std.proofs.lemmas.List.Elements.{All-more}
use Rattle.brace_crew.specs.inner.Teams.{HasCome, StaysWithin}
use Rattle.brace_crew.proofs.team.are_complete.Goals as goal

pub loop-bench-preserved : goal.loop-bench-preserved
loop-bench-preserved g c within =
    let benches = c.args.benches.now in
    let i = c.loop-bench.bench-index in
    let b = c.bench-item.result in
    let complete : c.is_complete.result ≡ true = search rules in
    let here : StaysWithin c.args.steps b = subst (StaysWithin c.args.steps) (sym c.bench-item.is) (within i b c.loop-bench-test.true) in
    All-more (HasCome c.args.steps) benches i b c.loop-bench-test.true (c.loop-bench.invariant within) (subst (HasCome c.args.steps) c.bench-item.is (c.is_complete.ensures complete here))

pub returns : goal.returns
returns g c is within =
    subst (All (HasCome c.args.steps)) (take_all c.loop-bench.bench-index c.args.benches.now (omega (arith, c.loop-bench-test.false))) (c.loop-bench.invariant within)
