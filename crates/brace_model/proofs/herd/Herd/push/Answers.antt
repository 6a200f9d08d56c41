use Rattle.std.proofs.Common.{◌≡◌, ◌∙◌, ◌++◌, ◌∷◌, [], ℤ, List, length, ap, refl}
use Rattle.brace_model.specs.declared.stored.Block.{Block}
use Rattle.brace_model.specs.declared.heads.Head.{Head}
use Rattle.brace_model.specs.inner.Packed.{agents_of}
use Rattle.brace_model.proofs.HeadLemmas.{agents-kept, agents-more}
use Rattle.brace_model.proofs.herd.Herd.push.Goals as goal

pub returns : goal.returns
returns c =
    let old : List Block = c.self.inside.blocks.items in
    let new : List Block = c.stored.new.blocks.items in
    let heads : List Head = c.self.inside.heads.items in
    let spot = c.in_ok-spot.spot in
    let head : Head = record { id = c.args.id; block = spot.block; start = spot.start } in
    let kept : agents_of new heads ≡ c.args.self.now =
    agents-kept old new c.in_ok-spot.ensures.grown heads c.self.invariant ∙ c.self.view_is in
    record {
      ok = ap (agents_of new) c.in_ok-push.ensures.items
          ∙ agents-more new c.args.class c.args.types.now c.args.words.now spot head refl refl
          c.in_ok-spot.ensures.there heads c.args.self.now kept;
    }
