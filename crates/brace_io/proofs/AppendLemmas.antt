-- What an append to a shelf in memory adds, as each shelf's append has to say it.
use Rattle.std.proofs.Common.{◌≡◌, ◌<◌, ◌∙◌, ◌++◌, ◌||◌, ◌&&◌, ℕ, List, Option, Some, None, Bool, true, false, Result, Ok, Err, is_err, IfOk, OnErr, nat_lt, min, length, refl, ap, sym, arith}
use Rattle.std.proofs.lemmas.Bool.Decides.{nat_tests}
use Rattle.std.proofs.lemmas.List.{append-nil}
use Rattle.brace_io.specs.Shelves.{OnlyAt, Adds, AddsFront}
use Rattle.brace_io.specs.MemShelves.{Entry, Shelved, entry_of, file_in, files_of, bytes_in, call_fails, append_fails, entry_written, spent_at, room_left, with_more, OthersAlone}

pub only_alone : (before after : List Entry) (name : List ℕ) → OthersAlone before after name → OnlyAt (Some (files_of before)) (Some (files_of after)) name
only_alone before after name h = (refl, λ other ne. ap file_in (h other ne))

file_more : (o : Option Entry) (piece bytes : List ℕ) → file_in o ≡ Some bytes → file_in (with_more piece o) ≡ Some (bytes ++ piece)
file_more None piece bytes e = cc
file_more (Some entry) piece bytes e = ap (λ (f : Option (List ℕ)). Some (bytes_in f ++ piece)) e

pub adds_more : (before after : List Entry) (name piece : List ℕ) → entry_of after name ≡ with_more piece (entry_of before name) → Adds (Some (files_of before)) (Some (files_of after)) name piece
adds_more before after name piece e bytes h = ap file_in e ∙ file_more (entry_of before name) piece bytes h

room_then : (o : Option Entry) → spent_at o ≡ false → 0 < room_left o
room_then None e = cc
room_then (Some entry) e = grind (arith, nat_tests, e)

passes_parts : (a b c : Bool) → a || (b && c) ≡ false → b ≡ true → c ≡ false
passes_parts true b c e t = cc
passes_parts false true c e t = e
passes_parts false false c e t = cc

-- an append that passes adds some of a piece that is not empty
pub adds_some : (shelf : Shelved) (piece : List ℕ) (n : ℕ) → append_fails shelf piece ≡ false → n ≡ min (length piece) (room_left (entry_written shelf.entries shelf.stage)) → 0 < length piece → n ≡ 0 → ⊥
adds_some shelf piece n passes count some none =
    let there : nat_lt 0 (length piece) ≡ true = grind (arith, nat_tests, some) in
    let room = room_then (entry_written shelf.entries shelf.stage) (passes_parts (call_fails shelf) (nat_lt 0 (length piece)) (spent_at (entry_written shelf.entries shelf.stage)) passes there) in
    omega (arith, count, some, none, room)

pub adds_none : (before after : List Entry) (name piece : List ℕ) → after ≡ before → AddsFront (Some (files_of before)) (Some (files_of after)) name piece
adds_none before after name piece e = (0, (omega arith, λ bytes h. ap (λ (x : List Entry). files_of x name) e ∙ (h ∙ ap Some (sym (append-nil bytes)))))

pub some_at : {E : Type 0} (r : Result ℕ E) (shelf : Shelved) (piece : List ℕ) → is_err r ≡ append_fails shelf piece → IfOk r (λ n. n ≡ min (length piece) (room_left (entry_written shelf.entries shelf.stage))) → IfOk r (λ n. n ≡ 0 → 0 < length piece → ⊥)
some_at (Ok n) shelf piece e count = λ none some. adds_some shelf piece n (sym e) count some none
some_at (Err x) shelf piece e count = count

pub on_err : {T E P Q : Type 0} (r : Result T E) → (P → Q) → OnErr r P → OnErr r Q
on_err (Ok x) f h = h
on_err (Err x) f h = f h
