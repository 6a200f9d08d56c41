-- The tokens that a source spells stand in it, and its words are text.
use Rattle.std.proofs.Common.{◌≡◌, ℕ, zero, suc, ◌<◌, ◌≤◌, true, List, [], ◌∷◌, length, get_or, arith}
use Rattle.std.specs.Prelude.{All, IsTrue}
use Rattle.std.specs.List.{list_all}
use Rattle.std.specs.Str.{IsUtf8}
use Rattle.std.proofs.lemmas.Bool.Decides.{nat_tests}
use Rattle.std.proofs.lemmas.Str.{IsUtf8-from_ascii}
use Rattle.std.proofs.lemmas.List.Elements.{All-rest}
use Rattle.std.proofs.lemmas.Bool.{and_parts}
use Rattle.brace_num.specs.Names.{is_word_byte, is_letter, begins, is_name}
use Rattle.brace_tok.specs.Spells.{Spells, Rises}
use Rattle.brace_tok.specs.declared.kinds.Token.{Token}
use Rattle.brace_tok.proofs.Named.{name_word, spells_names}
use Rattle.brace_tok.proofs.Unique.{spells_rises}
use Rattle.brace_syntax.specs.inner.Cursor.{AreSpelled, IsSpelled}

pub still_spelled : (src : List ℕ) (tok : Token) (toks rest : List Token) → toks ≡ tok ∷ rest → AreSpelled src toks → AreSpelled src rest
still_spelled src tok toks rest e spelled = (spelled.0, All-rest (IsSpelled src) tok rest toks e spelled.1)

word_byte_ascii : (b : ℕ) → is_word_byte b ≡ true → b < 128
word_byte_ascii b e = grind (arith, nat_tests)

word_bytes_ascii : (bs : List ℕ) → list_all is_word_byte bs ≡ true → (i : ℕ) → get_or bs i 0 < 128
word_bytes_ascii [] e i = omega arith
word_bytes_ascii (b ∷ bs) e zero = word_byte_ascii b ((and_parts (is_word_byte b) (list_all is_word_byte bs) e).0)
word_bytes_ascii (b ∷ bs) e (suc i) = word_bytes_ascii bs ((and_parts (is_word_byte b) (list_all is_word_byte bs) e).1) i

name_is_text : (text : List ℕ) → IsTrue (is_name text) → IsUtf8 text
name_is_text text name = IsUtf8-from_ascii text (word_bytes_ascii text ((and_parts (begins is_letter text) (list_all is_word_byte text) (name_word text name)).1))

rises_end : (low high : ℕ) (toks : List Token) → Rises low high toks → low ≤ high
rises_end low high [] r = r
rises_end low high (tok ∷ toks) (a, b, c) = omega (arith, a, b, rises_end tok.to high toks c)

stands : (low high : ℕ) (toks : List Token) → Rises low high toks → All (λ tok. (tok.from ≤ tok.to) × (tok.to ≤ high)) toks
stands low high [] r i d l = absurd (omega arith)
stands low high (tok ∷ toks) (a, b, c) zero d l = (omega (arith, b), rises_end tok.to high toks c)
stands low high (tok ∷ toks) (a, b, c) (suc i) d l = stands tok.to high toks c i d (omega arith)

-- what the source spells is spelled token by token
pub spelled_of : (src : List ℕ) (toks : List Token) → length src ≤ 1048576 → Spells src toks → AreSpelled src toks
spelled_of src toks l s =
    let there = stands 0 (length src) toks (spells_rises src toks s) in
    let named = spells_names src toks s in
    (omega arith, λ i d below. ((there i d below).0, (there i d below).1, λ word. name_is_text _ (named i d below word)))
