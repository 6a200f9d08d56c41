-- A script from its tree to its program.
use Rattle.std.proofs.Common.{◌≡◌, ◌∙◌, refl, sym, ap, subst, ℕ, List, []}
use Rattle.brace_syntax.specs.declared.tree.Tree.{Tree}
use Rattle.brace_names.specs.declared.resolved.Binding.{Binding}
use Rattle.brace_names.specs.declared.resolved.Resolved.{Resolved}
use Rattle.brace_names.specs.Faults as names
use Rattle.brace_check.specs.declared.fault.CheckFault.{CheckFault}
use Rattle.brace_check.specs.Faults as checks
use Rattle.brace_check.specs.Programs.{program_of}
use Rattle.brace_check.specs.Resolved.{IsResolved}
use Rattle.brace_check.proofs.LawfulProof.{accepted_lawful}
use Rattle.brace_model.specs.declared.program.Program.{Program}
use Rattle.brace_model.specs.Lawful.{LawfulProgram}
use Rattle.brace_command.specs.Scripts.{IsTree, Means, resolved, Refuses, in_checks, check_fault}

same_resolved : (tree : Tree) (r : Resolved) → r.tree ≡ tree → r.bindings ≡ names.bindings tree → r ≡ resolved tree
same_resolved tree r e f =
    subst (λ (b : List Binding). r ≡ record { tree = tree; bindings = b }) f
    (subst (λ (t : Tree). r ≡ record { tree = t; bindings = r.bindings }) e refl)

pub means_of : (src : List ℕ) (tree : Tree) (r : Resolved) (program : Program) → IsTree src tree → names.faults tree ≡ [] → r.tree ≡ tree → r.bindings ≡ names.bindings tree
    → checks.faults r ≡ [] → program ≡ program_of r → Means src program
means_of src tree r program is named e f checked p = record {
  tree = tree;
  is = is;
  named = named;
  checked = subst (λ (x : Resolved). checks.faults x ≡ []) (same_resolved tree r e f) checked;
  stands_for = p ∙ ap program_of (same_resolved tree r e f);
}

pub checks_refuse : (src : List ℕ) (tree : Tree) (r : Resolved) (fault : CheckFault) → IsTree src tree → names.faults tree ≡ [] → r.tree ≡ tree → r.bindings ≡ names.bindings tree
    → checks.Refuses r fault → Refuses src (check_fault fault)
checks_refuse src tree r fault is named e f found =
    in_checks tree fault is named (subst (λ (x : Resolved). checks.Refuses x fault) (same_resolved tree r e f) found)

pub is_resolved : (src : List ℕ) (tree : Tree) (r : Resolved) → IsTree src tree → names.faults tree ≡ [] → r.tree ≡ tree → r.bindings ≡ names.bindings tree → IsResolved src r
is_resolved src tree r is named e f = subst (λ (x : Resolved). IsResolved src x) (sym (same_resolved tree r e f)) (record {
  toks = is.tokens;
  spelled = is.spells;
  read = is.reads;
  bound = refl;
  faultless = named;
})

-- what a script stands for is lawful
pub meant_lawful : (src : List ℕ) (program : Program) → Means src program → LawfulProgram program
meant_lawful src program m =
    subst LawfulProgram (sym m.stands_for)
    (accepted_lawful src (resolved m.tree) (is_resolved src m.tree (resolved m.tree) m.is m.named refl refl) m.checked)
