use Rattle.std.proofs.Common.{◌∙◌, List, subst, sym, ap, map, flat_map}
use Rattle.brace_names.specs.declared.resolved.Binding.{Binding}
use Rattle.brace_names.specs.Found.{found}
use Rattle.brace_names.specs.Faults.{binding_of, AreRising}
use Rattle.brace_names.proofs.NameOrder.{bindings_rise, of_script}
use Rattle.brace_names.proofs.entry.resolve.Goals as goal

pub returns-clause-rising : goal.returns-clause-rising
returns-clause-rising c = λ src toks spelled reads.
    subst (λ (l : List Binding). AreRising 0 (map (λ b. b.at) l))
    (sym (c.from_vec-bindings.ensures ∙ (c.in_ok-names.ensures ∙ ap (flat_map binding_of) (c.as_slice-3.ensures.value ∙ c.in_ok-all.ensures))))
    (bindings_rise src toks (found c.args.tree) spelled (of_script src toks c.args.tree reads))
