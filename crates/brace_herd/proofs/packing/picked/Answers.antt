use Rattle.std.proofs.Common.{◌∙◌}
use Rattle.brace_herd.proofs.packing.picked.Goals as goal

pub returns : goal.returns
returns c =
    c.in_ok-herd.ensures c.args.program.now (c.deref.ensures.value ∙ c.in_ok-types.ensures)
