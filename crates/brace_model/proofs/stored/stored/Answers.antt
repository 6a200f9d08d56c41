use Rattle.std.proofs.Common.{◌≡◌, ◌<◌, ◌∙◌, List, get_or, set, length, sym, subst, rules}
use Rattle.std.proofs.lemmas.List.{get_or_default}
use Rattle.brace_model.specs.declared.stored.Block.{Block}
use Rattle.brace_model.specs.inner.Packed.{no_block, IsGrown, IsStored}
use Rattle.brace_model.proofs.BlockLemmas.{all_next, grown_set, stored_set}
use Rattle.brace_model.proofs.stored.stored.Goals as goal

pub returns : goal.returns
returns c =
    let mid : List Block = c.numbered.new.blocks.items in
    let n = c.in_ok-number.number in
    let has = c.in_ok-number.ensures.there in
    let old : Block = c.index_mut.result.now in
    let new : Block = c.extended.new.self in
    let start = c.in_ok-start.start in
    let is : old ≡ get_or mid n no_block =
    c.index_mut.ensures.value ∙ get_or_default mid n old no_block has.there in
    let more : IsGrown (get_or mid n no_block) new =
    subst (λ (b : Block). IsGrown b new) is c.in_ok-start.ensures.grown in
    let at : c.in-Ok.block ≡ n = search rules in
    record {
      there = subst (λ k. IsStored (set mid n new) c.args.class c.args.types.now c.args.words.now
          (record { block = k; start = start })) (sym at)
          (stored_set mid c.args.class c.args.types.now c.args.words.now n start new has more
          c.in_ok-start.ensures.within c.in_ok-start.ensures.there);
      grown = all_next c.args.blocks.now.items mid (set mid n new)
          c.in_ok-number.ensures.grown (grown_set mid n new has.there more);
    }
