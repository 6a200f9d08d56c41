-- What a comparer knows after a read, behind a byte that was expected, and where it stops.
use Rattle.std.proofs.Common.{◌≡◌, ◌≢◌, ◌∙◌, sym, ap, ap₂, subst, ℕ, suc, ◌+◌, ◌-◌, ◌<◌, ◌≤◌, ◌==◌, List, [], ◌∷◌, ◌++◌, false, cond, Option, Some, length, take, drop, append_assoc, length-append, slice_index, get_or, arith}
use Rattle.std.proofs.lemmas.List.{append-nil, take-append-drop, drop-drop, drop_more, take_more, get_or_default}
use Rattle.std.proofs.lemmas.Bool.Decides.{nat_tests}
use Rattle.std.proofs.lemmas.List.Sums.{sum_by-append}
use Rattle.brace_io.specs.Shelves.{Files, Stage, held_at, ReadsFrom, Next}
use Rattle.brace_audit.specs.declared.comparer.Comparer.{Comparer}
use Rattle.brace_audit.specs.Differs.{differs}
use Rattle.brace_audit.specs.inner.Reading.{line_feeds, ahead, unread, Compares}
use Rattle.brace_audit.proofs.LineLemmas.{differs_behind}

-- nothing behind a text
pub with_nothing : (held : Option Files) (stage : Stage) (name text : List ℕ) (c : Comparer) → Compares held stage name text c → Compares held stage name (text ++ []) c
with_nothing held stage name text c i = subst (λ (t : List ℕ). Compares held stage name t c) (sym (append-nil text)) i

pub without : (held : Option Files) (stage : Stage) (name text : List ℕ) (c : Comparer) → Compares held stage name (text ++ []) c → Compares held stage name text c
without held stage name text c i = subst (λ (t : List ℕ). Compares held stage name t c) (append-nil text) i

-- where nothing is left of what was read, the rest of the file was not read
pub all_compared : (k p : ℕ) (text file chunk : List ℕ) → k ≡ 0 → file ≡ text ++ (take k (drop p chunk) ++ drop (length text + k) file) → file ≡ text ++ drop (length text + k) file
all_compared k p text file chunk none is = is ∙ ap (λ (n : ℕ). text ++ (take n (drop p chunk) ++ drop (length text + k) file)) none

-- a read of the next bytes
pub more_read : (held later : Option Files) (stage after : Stage) (name text : List ℕ) (c d : Comparer) → Compares held stage name text c → c.filled ≤ c.place → later ≡ held → d.place ≡ 0 → 0 < length d.chunk.items → d.filled ≤ length d.chunk.items → d.line ≡ c.line
    → ((file : List ℕ) → held_at held name ≡ Some file → Next file (length text + ahead c) d.chunk.items d.filled)
    → ReadsFrom held after name (length text + ahead c + d.filled)
    → Compares later after name text d
more_read held later stage after name text c d i done same first room within line next reads =
    let none : ahead c ≡ 0 = omega (arith, done) in
    let all : ahead d ≡ d.filled = omega (arith, first) in
    let place : length text + ahead c + d.filled ≡ length text + ahead d = omega (arith, none, all) in
    let left : unread d ≡ take d.filled d.chunk.items = ap₂ (λ (k p : ℕ). take k (drop p d.chunk.items)) all first in
    record {
      in_chunk = omega (arith, first);
      in_room = within;
      room = room;
      line = line ∙ i.line;
      reads = subst (λ (h : Option Files). ReadsFrom h after name (length text + ahead d)) (sym same) (rw place at reads);
      begins = λ file h.
          let h' : held_at held name ≡ Some file = ap (λ (k : Option Files). held_at k name) (sym same) ∙ h in
          let n = next file h' in
          let from : ℕ = length text + ahead c in
          all_compared (ahead c) c.place text file c.chunk.items none (i.begins file h')
          ∙ ap (λ (l : List ℕ). text ++ l) (sym (take-append-drop d.filled (drop from file)) ∙ ap₂ (λ (a b : List ℕ). a ++ b) (sym n.0 ∙ sym left) (drop-drop d.filled from file ∙ ap (λ (m : ℕ). drop m file) place));
    }

-- a read that gives nothing
pub end_read : (held : Option Files) (stage : Stage) (name text file : List ℕ) (c : Comparer) → Compares held stage name text c → c.filled ≤ c.place → held_at held name ≡ Some file → drop (length text + ahead c) file ≡ [] → file ≡ text
end_read held stage name text file c i done h none =
    all_compared (ahead c) c.place text file c.chunk.items (omega (arith, done)) (i.begins file h) ∙ ap (λ (l : List ℕ). text ++ l) none ∙ append-nil text

-- the first byte of what was read and not compared
one_off : (p f : ℕ) (xs : List ℕ) → p < f → f ≤ length xs → take (f - p) (drop p xs) ≡ slice_index xs p ∷ take (f - (p + 1)) (drop (p + 1) xs)
one_off p f xs low within =
    let one : f - p ≡ suc (f - (p + 1)) = omega (arith, low) in
    ap₂ (λ (k : ℕ) (l : List ℕ). take k l) one (drop_more xs p 0 (omega (arith, low, within)))

abbrev pub behind : Comparer → ℕ → Comparer
behind c byte = record c { place = c.place + 1; line = c.line + cond (byte == 10) 1 0 }

-- what the file has from there on
rest_from : (held : Option Files) (stage : Stage) (name text file : List ℕ) (c : Comparer) → Compares held stage name text c → c.place < c.filled → held_at held name ≡ Some file → file ≡ text ++ (slice_index c.chunk.items c.place ∷ (take (c.filled - (c.place + 1)) (drop (c.place + 1) c.chunk.items) ++ drop (length text + ahead c) file))
rest_from held stage name text file c i low h =
    i.begins file h ∙ ap (λ (u : List ℕ). text ++ (u ++ drop (length text + ahead c) file)) (one_off c.place c.filled c.chunk.items low i.in_room)

-- behind a byte that was expected
pub passed : (held : Option Files) (stage : Stage) (name text : List ℕ) (c : Comparer) (byte : ℕ) → Compares held stage name text c → c.place < c.filled → slice_index c.chunk.items c.place ≡ byte → Compares held stage name (text ++ byte ∷ []) (behind c byte)
passed held stage name text c byte i low is =
    let long = length-append text (byte ∷ []) in
    let place : length text + ahead c ≡ length (text ++ byte ∷ []) + ahead (behind c byte) = omega (arith, long, low) in
    let feeds : line_feeds (text ++ byte ∷ []) ≡ line_feeds text + line_feeds (byte ∷ []) = sum_by-append (λ (b : ℕ). cond (b == 10) 1 0) text (byte ∷ []) in
    record {
      in_chunk = omega (arith, low);
      in_room = i.in_room;
      room = i.room;
      line = omega (arith, i.line, feeds);
      reads = rw place at i.reads;
      begins = λ file h.
          let tail : List ℕ = take (c.filled - (c.place + 1)) (drop (c.place + 1) c.chunk.items) in
          rest_from held stage name text file c i low h
          ∙ ap₂ (λ (b m : ℕ). text ++ (b ∷ (tail ++ drop m file))) is place
          ∙ sym (append_assoc text (byte ∷ []) (tail ++ drop (length (text ++ byte ∷ []) + ahead (behind c byte)) file));
    }

-- the file ends before a byte that is expected
pub ends_early : (text file more : List ℕ) (byte line : ℕ) → file ≡ text → line ≡ 1 + line_feeds text → differs file (text ++ (byte ∷ more)) ≡ Some line
ends_early text file more byte line all is =
    ap (λ (f : List ℕ). differs f (text ++ (byte ∷ more))) (all ∙ sym (append-nil text)) ∙ differs_behind text [] (byte ∷ more) tt ∙ ap Some (sym is)

-- the file has another byte there
pub other_byte : (held : Option Files) (stage : Stage) (name text file more : List ℕ) (c : Comparer) (byte : ℕ) → Compares held stage name text c → c.place < c.filled → held_at held name ≡ Some file → (slice_index c.chunk.items c.place == byte) ≡ false → differs file (text ++ (byte ∷ more)) ≡ Some c.line
other_byte held stage name text file more c byte i low h other =
    ap (λ (f : List ℕ). differs f (text ++ (byte ∷ more))) (rest_from held stage name text file c i low h)
    ∙ differs_behind text (slice_index c.chunk.items c.place ∷ (take (c.filled - (c.place + 1)) (drop (c.place + 1) c.chunk.items) ++ drop (length text + ahead c) file)) (byte ∷ more) other
    ∙ ap Some (sym i.line)

-- the file has a byte where nothing is expected
pub goes_further : (held : Option Files) (stage : Stage) (name text file : List ℕ) (c : Comparer) → Compares held stage name text c → c.place < c.filled → held_at held name ≡ Some file → differs file text ≡ Some c.line
goes_further held stage name text file c i low h =
    ap₂ (λ (f t : List ℕ). differs f t) (rest_from held stage name text file c i low h) (sym (append-nil text))
    ∙ differs_behind text (slice_index c.chunk.items c.place ∷ (take (c.filled - (c.place + 1)) (drop (c.place + 1) c.chunk.items) ++ drop (length text + ahead c) file)) [] tt
    ∙ ap Some (sym i.line)

-- a piece in three: up to a byte, the byte, and behind it
pub one_more : (text piece : List ℕ) (i : ℕ) → i < length piece → (text ++ take i piece) ++ (slice_index piece i ∷ []) ≡ text ++ take (i + 1) piece
one_more text piece i low = append_assoc text (take i piece) (slice_index piece i ∷ []) ∙ ap (λ (l : List ℕ). text ++ l) (sym (take_more piece i 0 low))

pub in_three : (text piece more : List ℕ) (i : ℕ) → i < length piece → (text ++ take i piece) ++ (slice_index piece i ∷ (drop (i + 1) piece ++ more)) ≡ text ++ (piece ++ more)
in_three text piece more i low =
    append_assoc text (take i piece) (slice_index piece i ∷ (drop (i + 1) piece ++ more))
    ∙ ap (λ (l : List ℕ). text ++ l)
    (sym (append_assoc (take i piece) (slice_index piece i ∷ drop (i + 1) piece) more)
    ∙ ap (λ (l : List ℕ). l ++ more) (ap (λ (l : List ℕ). take i piece ++ l) (sym (drop_more piece i 0 low)) ∙ take-append-drop i piece))

-- the byte at a place, whatever stands for one past the end
pub byte_at : (xs : List ℕ) (i byte : ℕ) → i < length xs → byte ≡ get_or xs i byte → slice_index xs i ≡ byte
byte_at xs i byte within is = get_or_default xs i 0 byte within ∙ sym is

pub not_same : (a b : ℕ) → a ≢ b → (a == b) ≡ false
not_same a b h = grind (arith, nat_tests, h)
