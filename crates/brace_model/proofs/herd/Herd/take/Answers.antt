use Rattle.std.proofs.Common.{◌≡◌, ◌<◌, ◌∙◌, ◌++◌, ◌∷◌, ◌-◌, [], ℤ, List, get_or, drop, length, take, ap, ap₂, subst, sym}
use Rattle.std.proofs.lemmas.List.{take_rest}
use Rattle.std.proofs.lemmas.Result.{on_ok_weaker}
use Rattle.brace_model.specs.declared.program.Ty.{Ty}
use Rattle.brace_model.specs.declared.world.Agent.{Agent}
use Rattle.brace_model.specs.declared.heads.Head.{Head}
use Rattle.brace_model.specs.declared.stored.Block.{Block}
use Rattle.brace_model.specs.Words.{agent_with}
use Rattle.brace_model.proofs.HeadLemmas.{agent-cut, as_many}
use Rattle.brace_model.proofs.herd.Herd.take.Goals as goal

pub returns : goal.returns
returns c =
    let herd = c.other.inside in
    let blocks : List Block = herd.blocks.items in
    let heads : List Head = herd.heads.items in
    let place = c.args.place in
    let h : Head = c.index-head.result.now in
    let b : Block = c.block-block.result.now in
    let is = subst (λ (x : Block). x ≡ get_or blocks h.block x) (sym c.block-block.ensures)
    c.index-shared.ensures in
    let low : place < length heads =
    as_many blocks heads c.args.other.now place c.other.view_is c.requires in
    let all : List ℤ = c.as_slice.result.now in
    let rest : take (length all - h.start) (drop h.start all) ≡ drop h.start b.words =
    take_rest all h.start ∙ ap (drop h.start) c.as_slice.ensures in
    on_ok_weaker c.push.result
    (λ added d. added ∙ ap (λ (a : Agent). c.args.self.now ++ a ∷ [])
    (ap₂ (λ (t : List Ty) (w : List ℤ). agent_with b.class h.id t (take (length t) w))
    c.as_slice-types.ensures rest
    ∙ agent-cut blocks heads place h low c.index-head.ensures c.other.invariant b
    is d
    ∙ ap (λ (l : List Agent). get_or l place d) c.other.view_is)) c.push.ensures.ok
