use Rattle.std.proofs.Common.{◌≡◌, ◌∙◌, ◌<◌, ◌++◌, ◌∷◌, [], ap, length, get_or, ℤ, List, subst, sym}
use Rattle.std.proofs.lemmas.List.{with_items_is}
use Rattle.brace_model.specs.World.{number, value_at}
use Rattle.brace_fold.proofs.Survivings.{agents-more}
use Rattle.brace_fold.proofs.surviving.push_agent.Goals as goal

pub returns-clause-rows : goal.returns-clause-rows
returns-clause-rows c = λ agents is.
    let old = c.args.left.now in
    let written : List (List ℤ) = c.push_words.new.columns in
    let kept : length written ≡ length c.deref_mut.result.now = c.in_ok-push_words.ensures.long in
    let new_is = with_items_is old.states written (kept ∙ c.deref_mut.ensures.len) in
    let values = c.as_slice.ensures in
    agents-more agents old _ (c.args.a.now ∷ []) is c.in_ok-push.ensures.items
    c.in_ok-push-2.ensures.items
    (ap length new_is ∙ kept ∙ ap length c.deref_mut.ensures.value)
    (λ k x low. ap (λ (l : List (List ℤ)). get_or l k x) new_is
    ∙ c.in_ok-push_words.ensures.each k x (subst (λ (l : List (List ℤ)). k < length l)
    (sym c.deref_mut.ensures.value) low)
    ∙ ap (λ (l : List (List ℤ)). get_or l k x ++ number (value_at c.as_slice.result.now k) ∷ [])
    c.deref_mut.ensures.value
    ∙ ap (λ vs. get_or old.states.items k x ++ number (value_at vs k) ∷ []) values)

pub returns-clause-wide : goal.returns-clause-wide
returns-clause-wide c =
    let kept = c.in_ok-push_words.ensures.long in
    ap length (with_items_is c.args.left.now.states c.push_words.new.columns
    (kept ∙ c.deref_mut.ensures.len)) ∙ kept ∙ ap length c.deref_mut.ensures.value
