use Rattle.std.proofs.Common.{◌∙◌, ◌++◌, ap}
use Rattle.brace_show.specs.Canonical.{canonical}
use Rattle.brace_show.proofs.ReadBack.{shown_reads_back}
use Rattle.brace_show.proofs.entry.show.Goals as goal

pub returns-clause-reads_back : goal.returns-clause-reads_back
returns-clause-reads_back c src toks spelled read =
    shown_reads_back _ c.args.tree.now (c.in_ok-append_classes.ensures.printed ∙ ap (λ o. o ++ canonical c.args.tree.now) c.new-out.ensures.items) src toks spelled read
