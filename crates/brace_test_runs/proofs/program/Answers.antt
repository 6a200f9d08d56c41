use Rattle.std.proofs.Common.{◌∙◌, sym, ap, subst, List}
use Rattle.brace_tok.specs.declared.kinds.Token.{Token}
use Rattle.brace_tok.specs.Spells.{Spells}
use Rattle.brace_syntax.specs.declared.tree.Tree.{Tree}
use Rattle.brace_syntax.specs.Reads.{Reads}
use Rattle.brace_names.specs.Faults.{faults, bindings}
use Rattle.brace_test_runs.proofs.program.Goals as goal

pub returns : goal.returns
returns c =
    let src = c.as_bytes-src.result.now in
    let toks = c.as_slice.result.now in
    let of = c.in-Ok-resolve.ensures in
    c.in-Ok-check.ensures.lawful src (record {
      toks = toks;
      spelled = subst (λ (l : List Token). Spells src l) (sym c.as_slice.ensures.value) c.in-Ok.ensures.spelled;
      read = subst (λ (t : Tree). Reads src toks t) (sym of.tree) c.in-Ok-parse.ensures.reads;
      bound = of.bindings ∙ ap bindings (sym of.tree);
      faultless = ap faults of.tree ∙ of.faultless;
    })
