use Rattle.std.proofs.Common.{[]}
use Rattle.brace_herd.proofs.near.listed.Goals as goal

pub returns : goal.returns
returns c =
    let more = c.in_ok-rows.ensures in
    more.listed c.args.agents.now (more.rows [] c.in_ok-none.ensures.rows) c.requires
