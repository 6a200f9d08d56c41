use Rattle.std.proofs.Common.{◌≡◌, ◌<◌, ◌≤◌, ◌∙◌, ◌+◌, ℤ, pos, List, get_or, length, ap, ap₂, subst, rules, to_z, of_z, w64}
use Rattle.std.proofs.lemmas.Int.{to_z-of_z}
use Rattle.brace_model.specs.declared.program.Ty.{Ty}
use Rattle.brace_model.specs.declared.program.Ty.TheVariants as ty
use Rattle.brace_model.specs.World.{number}
use Rattle.brace_model.specs.Value.{typed}
use Rattle.brace_model.specs.declared.heads.Head.{Head}
use Rattle.brace_model.specs.declared.stored.Block.{Block}
use Rattle.brace_model.proofs.HeadLemmas.{state-past, state-there}
use Rattle.brace_model.proofs.herd.Herd.number_at.Goals as goal

pub returns-then-state-types : goal.returns-then-state-types
returns-then-state-types c d =
    let state = c.args.state in
    let h : Head = c.index-head.result.now in
    let b : Block = c.block-block.result.now in
    let there : state < length b.types =
    subst (λ (l : List Ty). state < length l) c.as_slice-types.ensures c.if-state-types.true in
    let at = h.start + state in
    let word : ℤ = get_or c.as_slice.result.now at (pos 0) in
    let told : to_z w64 (of_z w64 c.number.result) ≡ c.number.result = search (rules, to_z-of_z) in
    let plain : to_z w64 (of_z w64 word) ≡ word = search (rules, to_z-of_z) in
    let read : word ≡ get_or b.words at (pos 0) =
    ap (λ (l : List ℤ). get_or l at (pos 0)) c.as_slice.ensures in
    told ∙ c.number.ensures ∙ ap number (c.typed.ensures
    ∙ ap₂ (λ (l : List Ty) (w : ℤ). typed (get_or l state ty.Int) w) c.as_slice-types.ensures
    (plain ∙ read)
    ∙ state-there c.self.inside.blocks.items c.self.inside.heads.items c.args.self.now c.args.place
    h b _ c.self.view_is c.self.invariant c.requires c.index-head.ensures c.block-block.ensures
    c.index-shared.ensures d state ty.Int (pos 0) there)

pub returns-else-state-types : goal.returns-else-state-types
returns-else-state-types c d =
    let b : Block = c.block-block.result.now in
    let past : length b.types ≤ c.args.state =
    subst (λ (l : List Ty). length l ≤ c.args.state) c.as_slice-types.ensures
    c.if-state-types.false in
    state-past c.self.inside.blocks.items c.self.inside.heads.items c.args.self.now c.args.place
    c.index-head.result.now b _ c.self.view_is c.self.invariant c.requires c.index-head.ensures
    c.block-block.ensures c.index-shared.ensures d c.args.state past
