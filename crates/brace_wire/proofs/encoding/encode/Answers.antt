use Rattle.brace_wire.specs.Fitting.{layout}
use Rattle.brace_wire.proofs.WriteLemmas.{encoded_for}
use Rattle.brace_wire.proofs.encoding.encode.Goals as goal

pub returns-clause-fits : goal.returns-clause-fits
returns-clause-fits c = encoded_for (layout c.args.program.now) c.args.f.now c.append.result c.append.ensures.fits
