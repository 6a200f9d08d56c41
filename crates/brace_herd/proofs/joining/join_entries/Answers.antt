use Rattle.std.proofs.Common.{List, drop, subst}
use Rattle.brace_comb.specs.declared.entry.Entry.{Entry}
use Rattle.brace_herd.specs.inner.Tables.{TellsBy}
use Rattle.brace_herd.proofs.HoldLemmas.{entry_joined, joined_first, joined_last}
use Rattle.brace_herd.proofs.TableTells.{no_entries, none_left}
use Rattle.brace_herd.proofs.joining.join_entries.Goals as goal

pub loop-entry-init : goal.loop-entry-init
loop-entry-init c all told moved apart tells =
    joined_first c.args.program.now all told c.args.said.now
    (TellsBy c.args.program.now all c.args.entries.now) tells

pub loop-entry-preserved : goal.loop-entry-preserved
loop-entry-preserved c all told moved apart tells =
    entry_joined c.args.program.now all told c.args.said.now all
    c.loop-entry.said c.join_entry.new.said
    c.args.entries.now c.loop-entry.entry-index _ c.loop-entry-test.true
    (λ first one. c.in_ok-join_entry.ensures all first moved apart one)
    (c.loop-entry.invariant all told moved apart tells)

pub returns : goal.returns
returns c all told moved apart tells =
    let program = c.args.program.now in
    let entries : List Entry = c.args.entries.now in
    joined_last program all told c.args.said.now c.loop-entry.said
    (TellsBy program all (drop c.loop-entry.entry-index entries))
    (λ rest t. no_entries program all rest
    (subst (λ (l : List Entry). TellsBy program all l rest)
    (none_left entries c.loop-entry.entry-index c.loop-entry-test.false) t))
    (c.loop-entry.invariant all told moved apart tells)
