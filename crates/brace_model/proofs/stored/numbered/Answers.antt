use Rattle.std.proofs.Common.{◌≡◌, ◌++◌, ◌∷◌, [], List, length, sym, subst, subst₂, rules}
use Rattle.brace_model.specs.declared.stored.Block.{Block}
use Rattle.brace_model.specs.inner.Packed.{AreGrown, HasBlock, IsBlock}
use Rattle.brace_model.proofs.BlockLemmas.{grown_append, last_block}
use Rattle.brace_model.proofs.stored.numbered.Goals as goal

pub returns : goal.returns
returns c =
    let old : List Block = c.args.blocks.now.items in
    let block : Block = c.in_ok-block.block in
    let is : IsBlock c.args.class c.args.types.now block =
    subst (IsBlock c.args.class c.args.types.now) (sym c.in_ok-block.ensures) c.in_ok-empty.ensures
    in
    let all : c.push.new.self.items ≡ old ++ block ∷ [] = c.in_ok-push.ensures.items in
    let at : c.len-number.result ≡ length old = search rules in
    record {
      there = subst₂ (λ (l : List Block) n. HasBlock l c.args.class c.args.types.now n) (sym all)
          (sym at) (last_block old c.args.class c.args.types.now block is);
      grown = subst (AreGrown old) (sym all) (grown_append old (block ∷ []));
    }
