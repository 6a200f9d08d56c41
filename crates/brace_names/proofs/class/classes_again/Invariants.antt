use Rattle.std.proofs.Common.{◌≡◌, ◌++◌, drop}
use Rattle.brace_names.specs.declared.fault.NameFault.TheVariants as fault
use Rattle.brace_names.specs.Findings.{faults_at}
use Rattle.brace_names.proofs.class.classes_again.Given as goal

abbrev pub invariant-loop-at : goal.invariant-loop-at
invariant-loop-at l =
    l.out.items ++ faults_at fault.DuplicateClass (drop l.at-index l.places) ≡ l.initial.out.items ++ faults_at fault.DuplicateClass l.places
