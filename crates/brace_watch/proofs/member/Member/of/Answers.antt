use Rattle.brace_watch.specs.inner.Columns.{no_agent}
use Rattle.brace_watch.proofs.Counting.{read_alike}
use Rattle.brace_watch.proofs.member.Member.of.Goals as goal

pub returns : goal.returns
returns c d = read_alike c.args.herd.now c.args.place no_agent d c.requires
