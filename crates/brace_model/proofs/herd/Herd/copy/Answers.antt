use Rattle.std.proofs.Common.{◌≡◌, ◌∙◌, List, map, ap, ap₂, sym, subst₂}
use Rattle.brace_model.specs.declared.heads.Head.{Head}
use Rattle.brace_model.specs.inner.Packed.{agents_of, AreWithin, shifted}
use Rattle.brace_model.proofs.HeadLemmas.{shifted-none}
use Rattle.brace_model.proofs.herd.Herd.copy.Goals.{In_ok-heads}
use Rattle.brace_model.proofs.herd.Herd.copy.Goals as goal

-- the same blocks and heads
same : (c : In_ok-heads) → (c.in_ok-blocks.blocks.items ≡ c.self.inside.blocks.items)
    × (c.in_ok-heads.heads.items ≡ c.self.inside.heads.items)
same c =
    let heads : List Head = c.self.inside.heads.items in (
      c.in_ok-blocks.ensures ∙ c.deref.ensures.value,
      c.in_ok-heads.ensures ∙ ap (λ (l : List Head). map (shifted 0) l) c.deref-2.ensures.value
          ∙ shifted-none heads,
    )

pub invariant_of-result : goal.invariant_of-result
invariant_of-result c =
    let (blocks, heads) = same (goal.at.invariant_of-result c).In_ok-heads in
    subst₂ AreWithin (sym blocks) (sym heads) c.self.invariant

pub returns : goal.returns
returns c =
    let (blocks, heads) = same (goal.at.returns c).In_ok-heads in
    ap₂ agents_of blocks heads ∙ c.self.view_is
