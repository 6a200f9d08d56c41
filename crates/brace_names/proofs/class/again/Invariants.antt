use Rattle.std.proofs.Common.{◌≡◌, ◌++◌, drop}
use Rattle.brace_names.specs.declared.fault.NameFault.TheVariants as fault
use Rattle.brace_names.specs.Findings.{faults_at}
use Rattle.brace_names.proofs.class.again.Given as goal

abbrev pub invariant-loop-at : goal.invariant-loop-at
invariant-loop-at l =
    l.out.items ++ faults_at fault.DuplicateName (drop l.at-index l.places) ≡ l.initial.out.items ++ faults_at fault.DuplicateName l.places
