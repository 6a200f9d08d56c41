-- The count of a line of a word and a count.
use Rattle.std.proofs.Common.{◌≡◌, ◌∙◌, ℕ, ◌^◌, ◌<◌, List, ◌++◌, length, take, drop, true, false, Option, Some, None, sym, ap}
use Rattle.std.specs.Str.{bytes_eq}
use Rattle.std.proofs.Math.Seq.{drop-append_seam}
use Rattle.std.proofs.lemmas.Bool.{true≢false}
use Rattle.std.proofs.lemmas.List.{take-append-drop}
use Rattle.std.proofs.lemmas.Slice.Eq.{bytes_eq-Decides}
use Rattle.std.proofs.lemmas.Option.{none-some, same_Some}
use Rattle.brace_num.specs.Spelling.{canonical_count, count_of}
use Rattle.brace_num.proofs.Canonical.{count_printed}
use Rattle.brace_num.proofs.Spellings.{count_found}
use Rattle.brace_rows.proofs.Texts.{starts_here}
use Rattle.brace_save.specs.Texts.{count_line}

-- the line does not begin with the word
pub no_word : (word line : List ℕ) → bytes_eq (take (length word) line) word ≡ false → (n : ℕ) → line ≡ count_line word n → ⊥
no_word word line differs n e = true≢false (sym ((bytes_eq-Decides (take (length word) line) word).1 (starts_here word (canonical_count n) line e)) ∙ differs)

-- what stands behind the word is read as the count
pub count_behind : (word line digits : List ℕ) → digits ≡ drop (length word) line → (n : ℕ) → n < 2 ^ 64 → line ≡ count_line word n → (digits ≡ canonical_count n) × (count_of digits ≡ Some n)
count_behind word line digits d n small e =
    let same : digits ≡ canonical_count n = d ∙ ap (drop (length word)) e ∙ drop-append_seam word (canonical_count n) in
    (same, ap count_of same ∙ count_found (canonical_count n) n (count_printed n small))

pub no_count : (word line digits : List ℕ) (o : Option ℕ) → digits ≡ drop (length word) line → o ≡ count_of digits → None ≡ o → (n : ℕ) → n < 2 ^ 64 → line ≡ count_line word n → ⊥
no_count word line digits o d e none n small is = none-some n (none ∙ e ∙ (count_behind word line digits d n small is).1)

-- where there is a count, it is the one that was read
pub same_count : (word line digits : List ℕ) (o : Option ℕ) (m : ℕ) → digits ≡ drop (length word) line → o ≡ count_of digits → Some m ≡ o → (n : ℕ) → n < 2 ^ 64 → line ≡ count_line word n → (m ≡ n) × (digits ≡ canonical_count m)
same_count word line digits o m d e some n small is =
    let both = count_behind word line digits d n small is in
    let one : m ≡ n = same_Some m n (some ∙ e ∙ both.1) in
    (one, both.0 ∙ ap canonical_count (sym one))

pub is_count_line : (word line digits : List ℕ) (m : ℕ) → bytes_eq (take (length word) line) word ≡ true → digits ≡ drop (length word) line → bytes_eq (canonical_count m) digits ≡ true → line ≡ count_line word m
is_count_line word line digits m begins d same =
    let front : take (length word) line ≡ word = (bytes_eq-Decides (take (length word) line) word).0 begins in
    let back : canonical_count m ≡ digits = (bytes_eq-Decides (canonical_count m) digits).0 same in
    sym (take-append-drop (length word) line) ∙ ap (λ l. l ++ drop (length word) line) front ∙ ap (λ l. word ++ l) (sym d ∙ sym back)

pub not_canonical : (digits : List ℕ) (m : ℕ) → bytes_eq (canonical_count m) digits ≡ false → digits ≡ canonical_count m → ⊥
not_canonical digits m differs same = true≢false (sym ((bytes_eq-Decides (canonical_count m) digits).1 (sym same)) ∙ differs)
