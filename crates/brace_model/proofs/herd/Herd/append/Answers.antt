use Rattle.std.proofs.Common.{◌≡◌, ◌∙◌, ◌++◌, List, length, map, ap, ap₂, sym, subst₂, rules}
use Rattle.brace_model.specs.declared.heads.Head.{Head}
use Rattle.brace_model.specs.inner.Packed.{agents_of, AreWithin, shifted}
use Rattle.brace_model.proofs.HeadLemmas.{agents-joined, all-joined, moved-by}
use Rattle.brace_model.proofs.herd.Herd.append.Goals as goal

pub invariant_of-self-2 : goal.invariant_of-self-2
invariant_of-self-2 c =
    let heads : List Head = c.self.inside.heads.items in
    let moved = moved-by c.self.inside.blocks.items _ c.other.inside.heads.items _ c.in-Ok.first
    (search rules) c.as_slice.ensures.value c.in_ok-heads.ensures in
    subst₂ AreWithin (sym c.in_ok-append.ensures.items)
    (sym (c.in_ok-append-2.ensures.items ∙ ap (λ (l : List Head). heads ++ l) moved))
    (all-joined c.self.inside.blocks.items c.other.inside.blocks.items heads
    c.other.inside.heads.items c.self.invariant c.other.invariant)

pub returns : goal.returns
returns c =
    let heads : List Head = c.self.inside.heads.items in
    let moved = moved-by c.self.inside.blocks.items _ c.other.inside.heads.items _ c.in-Ok.first
    (search rules) c.as_slice.ensures.value c.in_ok-heads.ensures in
    ap₂ agents_of c.in_ok-append.ensures.items
    (c.in_ok-append-2.ensures.items ∙ ap (λ (l : List Head). heads ++ l) moved)
    ∙ agents-joined c.self.inside.blocks.items c.other.inside.blocks.items heads
    c.other.inside.heads.items c.self.invariant
    ∙ ap₂ (λ l k. l ++ k) c.self.view_is c.other.view_is
