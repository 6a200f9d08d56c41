-- Words of sites and of blocks.
use Rattle.std.proofs.Common.{◌≡◌, ◌∙◌, sym, ap, ap₂, ℕ, List, slice_index, ◌<◌, ◌^◌, mod-lt, lit<}
use Rattle.rand_chacha.specs.Block.{add32, block_word, column_round, diagonal_round, double_rounds, initial_state}
use Rattle.rand_chacha.specs.Lanes.{lane}
use Rattle.brace_draw.specs.Draw.{draw_word}

-- the word of a site is one of 32 bits
pub word_low : (seed tick agent site : ℕ) → draw_word seed tick agent site < 2 ^ 32
unfolding draw_word block_word
word_low seed tick agent site = mod-lt _ (lit< tt)

-- a word of the states of a lane after a diagonal round, of a part that has it
pub word_after : (x : List (List ℕ)) (j k n word : ℕ) (all part : List ℕ) → all ≡ part
    → slice_index part j ≡ word → k ≡ n → word ≡ slice_index (diagonal_round (lane j x)) n
    → slice_index all j ≡ slice_index (diagonal_round (lane j x)) k
word_after x j k n word all part same is at here =
    ap (λ l. slice_index l j) same ∙ is ∙ here
    ∙ ap (slice_index (diagonal_round (lane j x))) (sym at)

-- a word of a block, of the states before its rounds and before the last one
pub word_of : (key : List ℕ) (block stream k word : ℕ) (first before : List ℕ)
    → first ≡ initial_state key block stream → before ≡ column_round (double_rounds 3 first)
    → word ≡ add32 (slice_index (diagonal_round before) k) (slice_index first k)
    → word ≡ block_word 4 key block stream k
unfolding block_word double_rounds
word_of key block stream k word first before begins ends is =
    is ∙ ap₂ add32 (ap (λ x. slice_index (diagonal_round x) k)
    (ends ∙ ap (λ x. column_round (double_rounds 3 x)) begins)) (ap (λ x. slice_index x k) begins)
