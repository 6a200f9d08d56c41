use Rattle.std.proofs.Common.{◌≡◌, ◌∙◌, ◌++◌, ◌∷◌, [], ℤ, List, pos, get_or, sym, ap, ap₂, rules, to_z, of_z, w64}
use Rattle.std.proofs.lemmas.Int.{to_z-of_z}
use Rattle.brace_model.specs.declared.program.Ty.{Ty}
use Rattle.brace_model.specs.declared.program.Ty.TheVariants as ty
use Rattle.brace_model.specs.declared.program.Value.{Value}
use Rattle.brace_model.specs.Value.{typed}
use Rattle.brace_model.proofs.WordLemmas.{values-more}
use Rattle.brace_model.proofs.values.read.Goals as goal

pub loop-k-preserved : goal.loop-k-preserved
loop-k-preserved c =
    let types : List Ty = c.args.types.now in
    let words : List ℤ = c.args.words.now in
    let k = c.loop-k.k in
    let word : ℤ = get_or words k (pos 0) in
    let plain : to_z w64 (of_z w64 word) ≡ word = search (rules, to_z-of_z) in
    let value : c.typed.result ≡ typed (get_or types k ty.Int) word =
    c.typed.ensures ∙ ap (typed (get_or types k ty.Int)) plain in
    c.in_ok-push.ensures.items
    ∙ ap₂ (λ (l : List Value) (v : Value). l ++ v ∷ []) c.loop-k.invariant value
    ∙ sym (values-more types words k ty.Int (pos 0) c.loop-k-test.true c.requires)
