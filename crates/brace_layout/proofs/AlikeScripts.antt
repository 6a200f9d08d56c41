-- Scripts that are the same apart from places mean the same; one script in two layouts.
use Rattle.std.proofs.Common.{◌≡◌, refl, sym, ap, subst, ◌∙◌, ℕ, List, [], ◌∷◌, map, ◌+◌, pos, true, false, Some, None, codes}
use Rattle.brace_tok.specs.declared.kinds.Token.{Token}
use Rattle.brace_tok.proofs.Unique.{one_list}
use Rattle.brace_syntax.specs.declared.tree.ClassTree.{ClassTree}
use Rattle.brace_syntax.specs.declared.tree.Tree.{Tree}
use Rattle.brace_syntax.specs.Reads.{Reads}
use Rattle.brace_syntax.proofs.ClassFound.{one_tree as one_script}
use Rattle.brace_show.specs.Alike.{Alike, expr_step}
use Rattle.brace_show.specs.Back.{ReadsBack}
use Rattle.brace_show.specs.Canonical.{canonical}
use Rattle.brace_show.proofs.ReadBack.{canonical_reads_back}
use Rattle.brace_names.specs.declared.resolved.Resolved.{Resolved}
use Rattle.brace_names.specs.Classes.{known}
use Rattle.brace_names.specs.Faults.{bindings, faults as name_faults}
use Rattle.brace_model.specs.declared.program.Class.{Class}
use Rattle.brace_check.specs.Faults.{faults as check_faults}
use Rattle.brace_check.specs.Found.{member, found}
use Rattle.brace_check.specs.Meanings.{Meaning, expression, expression_step}
use Rattle.brace_check.specs.Programs.{classes_from, program_with, program_of}
use Rattle.brace_check.specs.Resolved.{IsResolved}
use Rattle.brace_layout.specs.Formatted.{IsFormatted}
use Rattle.brace_layout.specs.Unplaced.{name_fault_at_0, check_fault_at_0, targets_in, class_at_0, program_at_0}
use Rattle.brace_layout.proofs.NamesUnplaced.{nought, tree_at_0, faults_unplaced, targets_unplaced, script_zero}
use Rattle.brace_layout.proofs.ChecksZero.{MeantZero, member_found, meant_script}
use Rattle.brace_syntax.specs.declared.tree.Ident.{Ident}
use Rattle.brace_syntax.specs.declared.tree.TyName.TheVariants as type
use Rattle.brace_syntax.specs.declared.tree.BinName.TheVariants as op
use Rattle.brace_syntax.specs.declared.tree.Digits.TheVariants as digits
use Rattle.brace_syntax.specs.declared.tree.Number.{Number}
use Rattle.brace_syntax.specs.declared.tree.ExprTree.{ExprTree}
use Rattle.brace_syntax.specs.declared.tree.ExprTree.TheVariants as e
use Rattle.brace_syntax.specs.declared.tree.ExprTree.TheOpen as layer
use Rattle.brace_syntax.specs.declared.tree.MemberTree.TheVariants as m
use Rattle.brace_names.specs.declared.resolved.Target.TheVariants as target
use Rattle.brace_model.specs.declared.program.Expr.{Expr}
use Rattle.brace_names.specs.Scopes.{Scope, home_of, outermost}
use Rattle.brace_names.proofs.Folds.{of-Lit, of-Name, of-Binary}

one_tree : (tree other : Tree) → Alike tree other → tree_at_0 tree ≡ tree_at_0 other
one_tree tree other alike = ap (λ (classes : List ClassTree). record { classes = classes }) alike

pub same_name_faults : (tree other : Tree) → Alike tree other → map name_fault_at_0 (name_faults tree) ≡ map name_fault_at_0 (name_faults other)
same_name_faults tree other alike = faults_unplaced tree ∙ (ap name_faults (one_tree tree other alike) ∙ sym (faults_unplaced other))

pub same_targets : (tree other : Tree) → Alike tree other → targets_in tree ≡ targets_in other
same_targets tree other alike = targets_unplaced tree ∙ (ap targets_in (one_tree tree other alike) ∙ sym (targets_unplaced other))

-- a list whose map is empty is
none_of : {A B : Type 0} (f : A → B) (xs ys : List A) → map f xs ≡ map f ys → xs ≡ [] → ys ≡ []
none_of f xs [] same none = refl
none_of f [] (y ∷ ys) same none = absurd (cc)
none_of f (x ∷ xs) (y ∷ ys) same none = absurd (cc)

pub none_either : (tree other : Tree) → Alike tree other → name_faults tree ≡ [] → name_faults other ≡ []
none_either tree other alike none = none_of name_fault_at_0 (name_faults tree) (name_faults other) (same_name_faults tree other alike) none

-- the classes of a script
abbrev all_in : Tree → Meaning (List Class)
all_in tree = classes_from (known tree.classes) 0 tree.classes

faults_zero : (r : Resolved) → map check_fault_at_0 (check_faults r) ≡ found (tree_at_0 r.tree)
faults_zero r = script_zero check_fault_at_0 member member_found r.tree.classes

program_zero : (r : Resolved) → program_at_0 (program_of r) ≡ program_with (all_in (tree_at_0 r.tree))
program_zero r =
    let h : MeantZero (map class_at_0) (all_in r.tree) (all_in (tree_at_0 r.tree)) = meant_script r.tree.classes in
    ap (λ (l : List Class). record { classes = l; sites = map nought (program_of r).sites }) (h.means []) ∙ ap (λ (l : List ℕ). record { classes = (all_in (tree_at_0 r.tree) []).0; sites = l }) (h.sites [])

module _ (r q : Resolved) (alike : Alike r.tree q.tree) where
  pub same_check_faults : map check_fault_at_0 (check_faults r) ≡ map check_fault_at_0 (check_faults q)
  same_check_faults = faults_zero r ∙ (ap found (one_tree r.tree q.tree alike) ∙ sym (faults_zero q))

  pub clean_either : check_faults r ≡ [] → check_faults q ≡ []
  clean_either none = none_of check_fault_at_0 (check_faults r) (check_faults q) same_check_faults none

  pub same_programs : program_at_0 (program_of r) ≡ program_at_0 (program_of q)
  same_programs = program_zero r ∙ (ap (λ (t : Tree). program_with (all_in t)) (one_tree r.tree q.tree alike) ∙ sym (program_zero q))

-- what a canonical text is resolved as
module _ (src : List ℕ) (r : Resolved) (is : IsResolved src r) where
  read_back : ReadsBack (canonical r.tree) r.tree
  read_back = canonical_reads_back src is.toks r.tree is.spelled is.read

  pub formatted : IsFormatted r
  formatted = record {
    again = record { tree = read_back.1; bindings = bindings read_back.1 };
    resolved = record {
      toks = read_back.0;
      spelled = read_back.2;
      read = read_back.3;
      bound = refl;
      faultless = none_either r.tree read_back.1 read_back.4 is.faultless;
    };
    alike = read_back.4;
  }

  pub alike_again : (q : Resolved) → IsResolved (canonical r.tree) q → Alike r.tree q.tree
  alike_again q also =
      let toks : read_back.0 ≡ also.toks = one_list (canonical r.tree) read_back.0 also.toks read_back.2 also.spelled in
      let read : Reads (canonical r.tree) also.toks read_back.1 = subst (λ (l : List Token). Reads (canonical r.tree) l read_back.1) toks read_back.3 in
      subst (Alike r.tree) (one_script (canonical r.tree) also.toks read_back.1 q.tree read also.read) read_back.4

-- `x + 1.5`, each token so many bytes later
abbrev x : ℕ → Ident
x at = record { text = codes "x"; at = at }

abbrev half_more : ℕ → Number
half_more k = record { digits = digits.Fixed (pos 1500000); at = k + 50 }

abbrev rule : ℕ → ExprTree
rule k = e.Binary op.Add (e.Name (x (k + 46))) (e.Lit (half_more k)) (k + 48)

abbrev particle : ℕ → ClassTree
particle k = record {
  name = record { text = codes "P"; at = k + 6 };
  members =
      m.State true type.Fixed (x (k + 42)) (Some (rule k)) (k + 23)
      ∷ m.State true type.Fixed (record { text = codes "y"; at = k + 74 }) None (k + 55) ∷ [];
  at = k;
}

abbrev drifting : ℕ → Resolved
drifting k = record {
  tree = record { classes = particle k ∷ [] };
  bindings = record { at = k + 46; target = target.State 0 } ∷ [];
}

one_layout : Alike (drifting 0).tree (drifting 7).tree
one_layout = simp (of-Lit expr_step, of-Name expr_step, of-Binary expr_step)

-- what the rule means
meaning : (k : ℕ) → expression (rule k) ≡ expression_step (layer.Binary op.Add (expression_step (layer.Name (x (k + 46)))) (expression_step (layer.Lit (half_more k))) (k + 48))
meaning k =
    of-Binary expression_step op.Add (e.Name (x (k + 46))) (e.Lit (half_more k)) (k + 48)
    ∙ (ap (λ (a : Scope → Meaning Expr). expression_step (layer.Binary op.Add a (expression (e.Lit (half_more k))) (k + 48))) (of-Name expression_step (x (k + 46)))
    ∙ ap (λ (b : Scope → Meaning Expr). expression_step (layer.Binary op.Add (expression_step (layer.Name (x (k + 46)))) b (k + 48))) (of-Lit expression_step (half_more k)))

abbrev scope : ℕ → Scope
scope k = outermost (home_of (known (drifting k).tree.classes) 0 (particle k)) false

one_program : program_at_0 (program_of (drifting 0)) ≡ program_at_0 (program_of (drifting 7))
one_program = same_programs (drifting 0) (drifting 7) one_layout
