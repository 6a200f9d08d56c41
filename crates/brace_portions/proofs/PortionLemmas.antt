-- What a call over a front of a buffer, or of a piece, gives of the whole.
use Rattle.std.proofs.Common.{◌≡◌, ◌<◌, ◌≤◌, ◌∙◌, ◌++◌, ℕ, List, Option, Some, Ok, Err, IfOk, take, length, arith, length-take}
use Rattle.std.specs.declared.result.Result.{Result}
use Rattle.std.proofs.lemmas.List.{take-append-le, take-take}
use Rattle.brace_io.specs.Shelves.{Files, Stage, held_at, ReadsFrom, Next, WritesTo, Adds, StoppedAt}

-- the next bytes in a front of a buffer are the next bytes in the buffer
pub next_whole : {E : Type 0} (r : Result ℕ E) (held : Option Files) (stage : Stage) (front rest : List ℕ) → (0 < length (front ++ rest) → 0 < length front) → IfOk r (λ n. n ≤ length front) → IfOk r (λ n. (name file : List ℕ) (place : ℕ) → ReadsFrom held stage name place → held_at held name ≡ Some file → Next file place front n) → IfOk r (λ n. (name file : List ℕ) (place : ℕ) → ReadsFrom held stage name place → held_at held name ≡ Some file → Next file place (front ++ rest) n)
next_whole (Ok n) held stage front rest some within next =
    λ name file place reads holds.
    let (bytes, fits, end) = next name file place reads holds in
    (take-append-le n front rest within ∙ bytes, fits, λ none room. end none (some room))
next_whole (Err fault) held stage front rest some within next = tt

-- what is added of a front of a piece is added of the piece
pub adds_whole : {E : Type 0} (r : Result ℕ E) (before after : Option Files) (stage : Stage) (piece : List ℕ) (k : ℕ) → IfOk r (λ n. n ≤ length (take k piece)) → IfOk r (λ n. (name : List ℕ) → WritesTo before stage name → Adds before after name (take n (take k piece))) → IfOk r (λ n. (name : List ℕ) → WritesTo before stage name → Adds before after name (take n piece))
adds_whole (Ok n) before after stage piece k within adds =
    λ name writes. rw (take-take n k piece (omega (arith, within, length-take k piece))) at (adds name writes)
adds_whole (Err fault) before after stage piece k within adds = tt

-- where a front of a piece that has bytes has some, a call that adds none stops for both alike
pub stops_whole : {E : Type 0} (r : Result ℕ E) (before after : Option Files) (stage new : Stage) (piece front : List ℕ) → (0 < length piece → 0 < length front) → IfOk r (λ n. n ≡ 0 → 0 < length front → (name : List ℕ) → WritesTo before stage name → StoppedAt after new name) → IfOk r (λ n. n ≡ 0 → 0 < length piece → (name : List ℕ) → WritesTo before stage name → StoppedAt after new name)
stops_whole (Ok n) before after stage new piece front some stops = λ none room. stops none (some room)
stops_whole (Err fault) before after stage new piece front some stops = tt
