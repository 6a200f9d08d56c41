use Rattle.brace_crew.proofs.bench.Bench.go_along.Goals as goal

pub returns-in_default-clause-within : goal.returns-in_default-clause-within
returns-in_default-clause-within g c all = c.go_on.ensures.within (c.loop.invariant.within all)
