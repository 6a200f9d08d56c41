use Rattle.std.proofs.Common.{sym, subst}
use Rattle.brace_model.specs.declared.program.Ty.{Ty}
use Rattle.brace_fold.specs.inner.Crowds.{Stands, bound_to}
use Rattle.brace_fold.proofs.Actions.{const-does, const-scopes}
use Rattle.brace_fold.proofs.walk.set.Goals as goal

pub returns : goal.returns
returns c = λ scopes heard stands.
    let scene = c.args.scene.now in
    let words = c.in_ok-words.words in
    let worths = c.in_ok-words.ensures scopes stands in
    let bound = subst (λ (t : Ty). Stands scene c.bind.new.self (bound_to c.args.n t scopes words)) c.ty.ensures (c.in_ok-bind.ensures scene scopes worths.long stands) in
    record {
      does = const-does scene c.args.n c.args.code.now scopes words heard worths;
      stands = subst (Stands scene c.bind.new.self) (sym (const-scopes scene c.args.n c.args.code.now scopes words worths)) bound;
    }
