-- Reserved words, by their lengths.
use Rattle.std.proofs.Common.{◌≡◌, ℕ, suc, true, false, ◌&&◌, List, [], ◌∷◌, length, refl, sym, ap, ◌∙◌, ◌==◌, cond, Some, None}
use Rattle.std.specs.List.{filter}
use Rattle.std.specs.Str.{bytes_eq}
use Rattle.std.specs.Bool.{nat_eq}
use Rattle.std.proofs.lemmas.Bool.{ne_eqb, eqb-false}
use Rattle.brace_num.proofs.Booleans.{and_false}
use Rattle.brace_tok.specs.Tables.{found, words, reserved}
use Rattle.brace_tok.specs.inner.Lengths.{reserved_of}
use Rattle.brace_tok.specs.declared.kinds.TokKind.{TokKind}

lengths_differ : (a b : List ℕ) → (length a ≡ length b → ⊥) → bytes_eq a b ≡ false
lengths_differ [] [] h = absurd (h refl)
lengths_differ [] (y ∷ b) h = refl
lengths_differ (x ∷ a) [] h = refl
lengths_differ (x ∷ a) (y ∷ b) h = ap (λ v. nat_eq x y && v) (lengths_differ a b (λ e. h (ap suc e))) ∙ and_false _

found_short : (table : List (List ℕ × TokKind)) (text : List ℕ) → found table text ≡ found (filter (λ entry. length entry.0 == length text) table) text
found_short [] text = refl
found_short (entry ∷ table) text =
    elim (length entry.0 == length text) as (λ v. (length entry.0 == length text) ≡ v → found (entry ∷ table) text ≡ found (cond v (entry ∷ filter (λ e. length e.0 == length text) table) (filter (λ e. length e.0 == length text) table)) text) [
      | true ↦ λ e. ap (λ r. cond (bytes_eq entry.0 text) (Some entry.1) r) (found_short table text)
      | false ↦ λ e. ap (λ v. cond v (Some entry.1) (found table text)) (lengths_differ entry.0 text (eqb-false _ _ e)) ∙ found_short table text
    ] refl

pub by_length : (text : List ℕ) (n : ℕ) → length text ≡ n → reserved text ≡ reserved_of n text
unfolding reserved reserved_of
by_length text n e = found_short words text ∙ ap (λ k. reserved_of k text) e

pub other_length : (text : List ℕ) → (length text ≡ 2 → ⊥) → (length text ≡ 3 → ⊥) → (length text ≡ 4 → ⊥) → (length text ≡ 5 → ⊥) → (length text ≡ 6 → ⊥) → (length text ≡ 7 → ⊥) → reserved text ≡ None
unfolding reserved_of
other_length text two three four five six seven =
    let a : (2 == length text) ≡ false = ne_eqb _ _ (λ e. two (sym e)) in
    let b : (3 == length text) ≡ false = ne_eqb _ _ (λ e. three (sym e)) in
    let c : (4 == length text) ≡ false = ne_eqb _ _ (λ e. four (sym e)) in
    let d : (5 == length text) ≡ false = ne_eqb _ _ (λ e. five (sym e)) in
    let f : (6 == length text) ≡ false = ne_eqb _ _ (λ e. six (sym e)) in
    let g : (7 == length text) ≡ false = ne_eqb _ _ (λ e. seven (sym e)) in
    by_length text (length text) refl ∙ simp (a, b, c, d, f, g)
