-- How many bytes stand behind the last line feed, byte by byte.
use Rattle.std.proofs.Common.{◌≡◌, ◌∙◌, refl, ap, ℕ, ◌+◌, Bool, true, false, not, List, [], ◌∷◌, ◌++◌, length, take, suc, reverse, if◌then◌else◌, arith}
use Rattle.std.specs.List.{take_while, prefix_len}
use Rattle.std.proofs.lemmas.List.{reverse-append}
use Rattle.std.proofs.lemmas.Grind.{common_steps}
use Rattle.brace_command.specs.Places.{is_feed, since_feed}

by_feed : (f : Bool) (b : ℕ) (more : List ℕ) → is_feed b ≡ f → length (take_while (λ (c : ℕ). not (is_feed c)) (b ∷ more)) ≡ (if f then 0 else length (take_while (λ (c : ℕ). not (is_feed c)) more) + 1)
by_feed true b more e = rw e refl
by_feed false b more e =
    let one : 1 + prefix_len (λ (c : ℕ). not (is_feed c)) more ≡ suc (prefix_len (λ (c : ℕ). not (is_feed c)) more) = omega arith in
    let last : suc (length (take (prefix_len (λ (c : ℕ). not (is_feed c)) more) more)) ≡ length (take (prefix_len (λ (c : ℕ). not (is_feed c)) more) more) + 1 = omega arith in
    rw (e, one) last

one_reversed : (b : ℕ) (rest : List ℕ) → reverse (b ∷ []) ++ rest ≡ b ∷ rest
one_reversed b rest = grind (arith, common_steps)

-- one byte more
pub since_more : (text : List ℕ) (b : ℕ) → since_feed (text ++ b ∷ []) ≡ (if is_feed b then 0 else since_feed text + 1)
since_more text b =
    ap (λ (l : List ℕ). length (take_while (λ (c : ℕ). not (is_feed c)) l)) (reverse-append text (b ∷ []) ∙ one_reversed b (reverse text))
    ∙ by_feed (is_feed b) b (reverse text) refl
