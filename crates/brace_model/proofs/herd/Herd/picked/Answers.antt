use Rattle.std.proofs.Common.{◌≡◌, ◌∙◌, ◌<◌, List, All, get_or, length, map, ap, ap₂, sym, subst, subst₂}
use Rattle.brace_model.specs.declared.world.Agent.{Agent}
use Rattle.brace_model.specs.declared.heads.Head.{Head}
use Rattle.brace_model.specs.inner.Packed.{agents_of, AreWithin}
use Rattle.brace_model.proofs.HeadLemmas.{agents-picked, within-picked}
use Rattle.brace_model.proofs.herd.Herd.picked.Goals as goal
use Rattle.brace_model.proofs.herd.Herd.picked.Goals.{In_ok-heads}

no_head : Head
no_head = record { id = 0; block = 0; start = 0 }

-- its heads are those at the places, which are within
picked : (c : In_ok-heads)
    → (c.in_ok-heads.heads.items
    ≡ map (λ p. get_or c.self.inside.heads.items p no_head) c.args.places.now)
    × All (λ p. p < length c.self.inside.heads.items) c.args.places.now
picked c = (
  c.in_ok-heads.ensures.are no_head
      ∙ ap (λ (l : List Head). map (λ p. get_or l p no_head) c.args.places.now)
      c.deref-2.ensures.value,
  subst (λ (l : List Head). All (λ p. p < length l) c.args.places.now) c.deref-2.ensures.value
      c.in_ok-heads.ensures.within,
)

pub returns : goal.returns
returns c d =
    let (are, within) = picked (goal.at.returns c).In_ok-heads in
    ap₂ agents_of (c.in_ok-blocks.ensures ∙ c.deref.ensures.value) are
    ∙ agents-picked c.self.inside.blocks.items c.self.inside.heads.items no_head
    c.args.places.now d within
    ∙ ap (λ (l : List Agent). map (λ p. get_or l p d) c.args.places.now) c.self.view_is

pub invariant_of-result : goal.invariant_of-result
invariant_of-result c =
    let (are, within) = picked (goal.at.invariant_of-result c).In_ok-heads in
    subst₂ AreWithin (sym (c.in_ok-blocks.ensures ∙ c.deref.ensures.value)) (sym are)
    (within-picked c.self.inside.blocks.items c.self.inside.heads.items no_head
    c.self.invariant c.args.places.now within)
