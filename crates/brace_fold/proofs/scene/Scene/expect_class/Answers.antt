use Rattle.std.proofs.Common.{◌∙◌, sym, ap, ℕ, List, slice_get}
use Rattle.brace_fold.specs.inner.Crowds.{rows}
use Rattle.brace_fold.proofs.ColumnLemmas.{class-of}
use Rattle.brace_fold.proofs.scene.Scene.expect_class.Goals as goal

pub returns : goal.returns
returns c =
    class-of (rows c.args.self.now) c.args.row c.args.class c.in-Some.number
    (ap (λ (l : List ℕ). slice_get l c.args.row) (sym c.requires.classes) ∙ c.in-Some.ensures) c.if-number-class.false
