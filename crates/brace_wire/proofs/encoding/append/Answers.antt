use Rattle.brace_wire.proofs.WriteLemmas.{encoded}
use Rattle.brace_wire.proofs.encoding.append.Goals as goal

pub returns-else-is_err-clause-fits : goal.returns-else-is_err-clause-fits
returns-else-is_err-clause-fits c = encoded c.args.f.now c.append_frame-written.result c.append_frame-written.ensures.fits c.append_frame-written.ensures.short
