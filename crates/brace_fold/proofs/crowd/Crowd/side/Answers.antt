use Rattle.std.proofs.Common.{◌≡◌, ◌∙◌, sym, ap, map, subst, rules, ℕ, List, length, slice_index_or}
use Rattle.brace_code.specs.declared.lane.Lane.{Lane}
use Rattle.brace_code.specs.Columns.{no_lane}
use Rattle.brace_fold.specs.inner.Crowds.{AreOf, chosen}
use Rattle.brace_plan.proofs.WalkLemmas.{if_ok}
use Rattle.brace_fold.proofs.Crowdings.{picked-are, side-of}
use Rattle.brace_fold.proofs.crowd.Crowd.side.Goals as goal

pub returns : goal.returns
returns c = if_ok c.part.result _ _ (λ part h scene scopes stands.
    let self = c.args.self.now in
    let words = c.args.words.now in
    let kids = chosen c.args.set scopes words in
    let many : length words ≡ length self.lanes = search rules in
    let is = picked-are self.lanes c.in_ok-lanes.lanes c.deref.result.now no_lane
    c.in_ok-lanes.ensures
    ∙ ap (map (λ (n : ℕ). slice_index_or self.lanes n no_lane)) c.deref.ensures.value
    ∙ c.in_ok-numbers.ensures self.lanes no_lane many in
    h scene scopes kids stands
    (subst (λ (l : List Lane). AreOf scene self.depth scopes l kids) (sym is)
    (side-of scene self scopes c.args.set words stands)) tt) c.part.ensures
