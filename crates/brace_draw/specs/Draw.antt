-- The draw of a site: a fixed number from 0 to below 1.0, in millionths, from the word that ChaCha8
-- has at a key, a stream and a place.
use Rattle.std.specs.Prelude.{ℕ, ◌+◌, ◌*◌, ◌/◌, ◌^◌, List, ◌++◌, replicate}
use Rattle.std.specs.Int.{w64, to_le_bytes}
use Rattle.rand_chacha.specs.ChaCha.{word_at, key_of}

-- the key: the seed as 8 little-endian bytes, then 24 zero bytes
abbrev pub seed_bytes : ℕ → List ℕ
seed_bytes seed = to_le_bytes w64 seed ++ replicate 24 0

-- the place of a site's word in its agent's stream
abbrev pub place_of : ℕ → ℕ → ℕ
place_of tick site = tick * 65536 + site

-- the word of a site; ChaCha8 has four double rounds, and the agent is the stream
unfoldable pub draw_word : ℕ → ℕ → ℕ → ℕ → ℕ
draw_word seed tick agent site = word_at 4 (key_of (seed_bytes seed)) agent (place_of tick site)

-- the draw of a seed, a tick, an agent and a site, in millionths, cut down
abbrev pub draw_value : ℕ → ℕ → ℕ → ℕ → ℕ
draw_value seed tick agent site = draw_word seed tick agent site * 1000000 / 2 ^ 32
