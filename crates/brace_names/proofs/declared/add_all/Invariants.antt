use Rattle.std.proofs.Common.{◌≡◌, fold, drop}
use Rattle.brace_names.specs.Tables.{with_name}
use Rattle.brace_names.proofs.declared.add_all.Given as goal

abbrev pub invariant-loop-one : goal.invariant-loop-one
invariant-loop-one l =
    fold (λ names one. with_name names one.0.text one.1) l.names (drop l.one-index l.fields)
    ≡ fold (λ names one. with_name names one.0.text one.1) l.fn.names l.fields
