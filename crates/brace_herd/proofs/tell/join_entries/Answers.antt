use Rattle.std.proofs.Common.{List, drop, subst}
use Rattle.brace_comb.specs.declared.entry.Entry.{Entry}
use Rattle.brace_herd.specs.inner.Tables.{TellsBy}
use Rattle.brace_herd.proofs.TableTells.{entry_heard, told_last, no_entries, none_left}
use Rattle.brace_herd.proofs.tell.join_entries.Goals as goal

pub loop-entry-preserved : goal.loop-entry-preserved
loop-entry-preserved c said told faults heard tells =
    entry_heard c.args.program.now c.args.held.now said told faults c.loop-entry.heard c.join_entry.new.heard c.args.entries.now c.loop-entry.entry-index _ c.loop-entry-test.true
    c.in_ok-join_entry.ensures.told (c.loop-entry.invariant said told faults heard tells)

pub returns : goal.returns
returns c =
    let program = c.args.program.now in
    let held = c.args.held.now in
    let entries : List Entry = c.args.entries.now in
    let none = none_left entries c.loop-entry.entry-index c.loop-entry-test.false in
    record {
      told = λ said told faults heard tells.
          told_last program held said told faults c.loop-entry.heard (TellsBy program held (drop c.loop-entry.entry-index entries))
          (λ rest so. no_entries program held rest (subst (λ (l : List Entry). TellsBy program held l rest) none so))
          (c.loop-entry.invariant said told faults heard tells);
    }
