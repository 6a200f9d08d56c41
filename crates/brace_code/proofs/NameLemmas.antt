-- The type of a constant, from the latest on.
use Rattle.std.proofs.Common.{◌≡◌, ℕ, ◌+◌, ◌<◌, List, length, drop, get_or, drop-cons, add-one, refl, Some}
use Rattle.std.specs.Prelude.{◌==◌, if◌then◌else◌}
use Rattle.brace_model.specs.declared.program.Ty.{Ty}
use Rattle.brace_model.specs.Typing.{constant_type}

pub constant_more : (known : List (ℕ × Ty)) (k n : ℕ) (d : ℕ × Ty) → k < length known →
    constant_type (drop k known) n ≡ (if (get_or known k d).0 == n then Some (get_or known k d).1 else constant_type (drop (k + 1) known) n)
constant_more known k n d h = rw (add-one, drop-cons known k d) refl
