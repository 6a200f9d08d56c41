use Rattle.std.proofs.Common.{◌≡◌, ◌∙◌, ◌++◌, ◌∷◌, [], refl, sym, ap, ℕ, ℤ, List, Some, get_or, length, slice_get}
use Rattle.std.proofs.lemmas.Option.{slice_get_read}
use Rattle.brace_model.specs.declared.program.Ty.{Ty}
use Rattle.brace_model.specs.declared.world.Agent.{Agent}
use Rattle.brace_fold.proofs.Walks.{on_ok}
use Rattle.brace_herd.specs.inner.Packing.{types_in, words_at}
use Rattle.brace_herd.proofs.PackLemmas.{agent_is}
use Rattle.brace_herd.proofs.packing.push_row.Goals as goal

pub returns : goal.returns
returns c =
    let own = c.args.own.now in
    let row = c.args.row in
    let class = c.item_or-class.result in
    let types : List Ty = c.as_slice-types.result.now in
    let there : slice_get c.args.types.now class ≡ Some types =
    slice_get_read c.args.types.now _ class c.in-Some.types.now refl
    c.in-Some.ensures.lookup.3.0 c.in-Some.ensures.lookup.1
    ∙ ap Some (sym c.as_slice-types.ensures) in
    let words : c.deref.result.now ≡ words_at own.states.items row (length types) =
    c.deref.ensures.value ∙ c.in_ok-read_words.ensures
    ∙ ap (λ (l : List (List ℤ)). words_at l row (length types)) c.as_slice-3.ensures.value in
    on_ok c.push.result _ _ (λ is program are. is
    ∙ ap (λ (a : Agent). c.args.herd.now ++ a ∷ [])
    (agent_is program own row class c.item_or-id.result types c.deref.result.now
    (c.item_or-class.ensures ∙ ap (λ (l : List ℕ). get_or l row 0) c.as_slice.ensures.value)
    (c.item_or-id.ensures ∙ ap (λ (l : List ℕ). get_or l row 0) c.as_slice-2.ensures.value)
    (ap (λ (l : List (List Ty)). slice_get l class) (sym are) ∙ there) words)) c.push.ensures.ok
