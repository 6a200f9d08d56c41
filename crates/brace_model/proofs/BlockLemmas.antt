-- Blocks of words that grow.
use Rattle.std.proofs.Common.{◌≡◌, ◌∙◌, ◌<◌, ◌≤◌, ◌+◌, ◌⊎◌, ℕ, ℤ, List, [], ◌∷◌, ◌++◌, length, get_or, set, take, drop, sym, refl, ap, subst, subst₂, inl, inr, arith, length-append, length-set, take-append-drop, take_all, take_at, take-take, get_or-set_same, get_or-set_other}
use Rattle.std.proofs.lemmas.List.{get_or_append_left}
use Rattle.std.proofs.lemmas.Bool.{cases_eq}
use Rattle.brace_model.specs.declared.program.Ty.{Ty}
use Rattle.brace_model.specs.declared.stored.Block.{Block}
use Rattle.brace_model.specs.declared.stored.Spot.{Spot}
use Rattle.brace_model.specs.inner.Packed.{no_block, IsBlock, HasBlock, IsGrown, AreGrown, IsStored}

-- a list that begins with another one is as long
pub as_long : {A : Type 0} (xs all : List A) → take (length xs) all ≡ xs → length xs ≤ length all
as_long xs all kept =
    let both = ap length (take-append-drop (length xs) all) in
    let sum = length-append (take (length xs) all) (drop (length xs) all) in
    let front = ap length kept in
    omega (arith, both, sum, front)

-- a list that begins with one that begins with another begins with that
begins_first : {A : Type 0} (xs ys zs : List A) → take (length xs) ys ≡ xs
    → take (length ys) zs ≡ ys → take (length xs) zs ≡ xs
begins_first xs ys zs first next =
    sym (take-take (length xs) (length ys) zs (as_long xs ys first))
    ∙ ap (take (length xs)) next
    ∙ first

-- a block that stays
stays : (b : Block) → IsGrown b b
stays b = record {
  same_class = refl;
  same_types = refl;
  same_words = take_all (length b.words) b.words (omega arith);
}

-- a block with more words
pub grown_words : (b : Block) (words all : List ℤ) → all ≡ b.words ++ words
    → IsGrown b (record { class = b.class; types = b.types; words = all })
grown_words b words all are = record {
  same_class = refl;
  same_types = refl;
  same_words = ap (take (length b.words)) are ∙ take_at b.words words (length b.words) refl;
}

-- a block that grew twice
grown_next : (a b c : Block) → IsGrown a b → IsGrown b c → IsGrown a c
grown_next a b c first next = record {
  same_class = next.same_class ∙ first.same_class;
  same_types = next.same_types ∙ first.same_types;
  same_words = begins_first a.words b.words c.words first.same_words next.same_words;
}

-- blocks that stay
pub all_stay : (blocks : List Block) → AreGrown blocks blocks
all_stay blocks = record {
  many = omega arith;
  each = λ k low. stays (get_or blocks k no_block);
}

-- blocks that grew twice
pub all_next : (old mid new : List Block) → AreGrown old mid → AreGrown mid new → AreGrown old new
all_next old mid new first next =
    let few = first.many in
    let more = next.many in
    record {
      many = omega (arith, few, more);
      each = λ k low. grown_next (get_or old k no_block) (get_or mid k no_block)
          (get_or new k no_block) (first.each k low)
          (next.each k (omega (arith, few, low)));
    }

-- blocks with more behind them
pub grown_append : (blocks more : List Block) → AreGrown blocks (blocks ++ more)
grown_append blocks more =
    let all = length-append blocks more in
    record {
      many = omega (arith, all);
      each = λ k low. subst (IsGrown (get_or blocks k no_block))
          (sym (get_or_append_left blocks more no_block k low)) (stays (get_or blocks k no_block));
    }

-- blocks of which one grew
pub grown_set : (blocks : List Block) (n : ℕ) (b : Block) → n < length blocks
    → IsGrown (get_or blocks n no_block) b → AreGrown blocks (set blocks n b)
grown_set blocks n b low more =
    let all = length-set blocks n b in
    record { many = omega (arith, all); each = λ k there. at k there (cases_eq k n) }
  where
    at : (k : ℕ) → k < length blocks → (k ≡ n) ⊎ (k ≡ n → ⊥)
        → IsGrown (get_or blocks k no_block) (get_or (set blocks n b) k no_block)
    at k there (inl same) =
        subst (λ i. IsGrown (get_or blocks i no_block) (get_or (set blocks n b) i no_block))
        (sym same)
        (subst (IsGrown (get_or blocks n no_block)) (sym (get_or-set_same blocks n b no_block low))
        more)
    at k there (inr other) =
        subst (IsGrown (get_or blocks k no_block))
        (sym (get_or-set_other blocks n k b no_block other)) (stays (get_or blocks k no_block))

-- words that were put behind those of the block at a place
pub stored_set : (blocks : List Block) (class : ℕ) (types : List Ty) (words : List ℤ) (n start : ℕ)
    (b : Block) → HasBlock blocks class types n → IsGrown (get_or blocks n no_block) b
    → start ≤ length b.words → drop start b.words ≡ words
    → IsStored (set blocks n b) class types words (record { block = n; start = start })
stored_set blocks class types words n start b has more low end =
    let all = length-set blocks n b in
    let there = has.there in
    let is = get_or-set_same blocks n b no_block there in
    record {
      block = record {
        there = omega (arith, all, there);
        block = subst (IsBlock class types) (sym is) (record {
          of_class = more.same_class ∙ has.block.of_class;
          of_types = more.same_types ∙ has.block.of_types;
        });
      };
      within = subst (λ (x : Block). start ≤ length x.words) (sym is) low;
      end = ap (λ (x : Block). drop start x.words) is ∙ end;
    }

-- a new block behind the others
pub last_block : (blocks : List Block) (class : ℕ) (types : List Ty) (b : Block)
    → IsBlock class types b → HasBlock (blocks ++ b ∷ []) class types (length blocks)
last_block blocks class types b is =
    let all = length-append blocks (b ∷ []) in
    record {
      there = omega (arith, all);
      block = subst (IsBlock class types) (sym (last_there blocks)) is;
    }
  where
    last_there : (l : List Block) → get_or (l ++ b ∷ []) (length l) no_block ≡ b
    last_there [] = refl
    last_there (x ∷ l) = last_there l
