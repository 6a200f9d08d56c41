use Rattle.std.proofs.Common.{◌≡◌, ◌<◌, ◌∙◌, List, get_or, length, ap, subst, sym}
use Rattle.brace_model.specs.declared.world.Agent.{Agent}
use Rattle.brace_model.specs.declared.stored.Block.{Block}
use Rattle.brace_model.specs.declared.heads.Head.{Head}
use Rattle.brace_model.proofs.HeadLemmas.{as_many, states-there}
use Rattle.brace_model.proofs.herd.Herd.states.Goals as goal

pub returns : goal.returns
returns c d =
    let blocks : List Block = c.self.inside.blocks.items in
    let heads : List Head = c.self.inside.heads.items in
    let place = c.args.place in
    let low : place < length heads =
    as_many blocks heads c.args.self.now place c.self.view_is c.requires in
    let b : Block = c.block.result.now in
    let is = subst (λ (x : Block). x ≡ get_or blocks c.index-head.result.now.block x)
    (sym c.block.ensures) c.index-shared.ensures in
    ap length c.as_slice.ensures
    ∙ states-there blocks heads place c.index-head.result.now low c.index-head.ensures
    c.self.invariant b is d
    ∙ ap (λ (l : List Agent). length (get_or l place d).states) c.self.view_is
