-- A name that is none of the modes' names.
use Rattle.std.proofs.Common.{◌≡◌, false, List, ℕ, None, refl, sym, codes}
use Rattle.std.specs.Prelude.{bytes_eq}
use Rattle.std.proofs.lemmas.Bool.{false_from_ne_true}
use Rattle.std.proofs.lemmas.Slice.Eq.{bytes_eq-Decides}
use Rattle.brace_words.specs.Modes.{mode_named}

-- texts that are not the same do not compare as equal
pub unlike : (a b : List ℕ) → (b ≡ a → ⊥) → bytes_eq a b ≡ false
unlike a b differ =
    false_from_ne_true (bytes_eq a b) (λ e. differ (sym ((bytes_eq-Decides a b).0 e)))

-- a name that no mode has names none
pub unnamed : (n : List ℕ) → bytes_eq (codes "run") n ≡ false → bytes_eq (codes "resume") n ≡ false
    → bytes_eq (codes "check") n ≡ false → bytes_eq (codes "fmt") n ≡ false
    → bytes_eq (codes "plan") n ≡ false → bytes_eq (codes "trial") n ≡ false
    → bytes_eq (codes "audit") n ≡ false → bytes_eq (codes "balance") n ≡ false
    → None ≡ mode_named n
unnamed n run resume check fmt plan trial audit balance =
    rw run (rw resume (rw check (rw fmt (rw plan (rw trial (rw audit (rw balance refl)))))))
