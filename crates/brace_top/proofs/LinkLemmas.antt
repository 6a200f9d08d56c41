-- Of the fates that the letters of a link stand for one is other than a loss.
use Rattle.std.proofs.Common.{◌≡◌, ◌∙◌, refl, sym, ap, ℕ, List, [], ◌∷◌, map, Bool, true, false, ◌&&◌, ◌||◌, ◌==◌}
use Rattle.std.specs.Prelude.{not, nat_le, length, if◌then◌else◌}
use Rattle.std.specs.List.{list_all, list_any}
use Rattle.std.proofs.lemmas.Bool.{and_parts, not-true}
use Rattle.brace_words.specs.Values.{is_fate, is_loss, is_link}
use Rattle.brace_wire.specs.declared.fate.Fate.{Fate}
use Rattle.brace_wire.specs.declared.fate.Fate.TheVariants.{Lose, Deliver, Twice, After}
use Rattle.brace_wire.specs.Shown.{is_lost}
use Rattle.brace_top.specs.inner.Fates.{fate_of}
use Rattle.brace_num.proofs.Booleans.{or_true}

abbrev is_kept : Fate → Bool
is_kept fate = not (is_lost fate)

-- another letter is no loss
other_kept : (letter : ℕ) → is_loss letter ≡ false → is_kept (fate_of letter) ≡ true
other_kept letter other =
    ap (λ (b : Bool). is_kept (if b then Lose else later)) other ∙ by_letter (letter == 100) (letter == 116)
  where
    later : Fate
    later = if letter == 100 then Deliver else if letter == 116 then Twice else After

    by_letter : (d t : Bool) → is_kept (if d then Deliver else if t then Twice else After) ≡ true
    by_letter true t = refl
    by_letter false true = refl
    by_letter false false = refl

not_all : (letters : List ℕ) → list_all is_loss letters ≡ false → list_any is_kept (map fate_of letters) ≡ true
not_all [] some = absurd cc
not_all (letter ∷ letters) some = by_first (is_loss letter) refl (not_all letters)
  where
    by_first : (b : Bool) → is_loss letter ≡ b → (list_all is_loss letters ≡ false → list_any is_kept (map fate_of letters) ≡ true) → list_any is_kept (map fate_of (letter ∷ letters)) ≡ true
    by_first true lost rest =
        let others = rest (ap (λ (b : Bool). b && list_all is_loss letters) (sym lost) ∙ some) in
        ap (λ (b : Bool). is_kept (fate_of letter) || b) others ∙ or_true (is_kept (fate_of letter))
    by_first false other rest = ap (λ (b : Bool). b || list_any is_kept (map fate_of letters)) (other_kept letter other)

pub link_delivers : (letters : List ℕ) → is_link letters ≡ true → list_any is_kept (map fate_of letters) ≡ true
link_delivers letters link =
    let fates = (and_parts (nat_le (length letters) 16) (list_all is_fate letters && not (list_all is_loss letters)) link).1 in
    not_all letters (not-true (list_all is_loss letters) (and_parts (list_all is_fate letters) (not (list_all is_loss letters)) fates).1)
