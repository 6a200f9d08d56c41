use Rattle.std.proofs.Common.{map, codes}
use Rattle.brace_show.specs.Canonical.{statement}
use Rattle.brace_show.proofs.Blocks.{run_lines}
use Rattle.brace_show.proofs.class.append_run.Goals as goal

pub returns : goal.returns
returns c = record {
  printed = run_lines _ _ _ _ (codes "}") (map statement c.args.statements.now)
      c.in_ok-margin.ensures.items c.in_ok-append_braced.ensures.printed;
}
