-- What std's lemmas on tests leave out.
use Rattle.std.proofs.Common.{◌≡◌, Bool, true, false, ◌&&◌, ◌||◌, refl}

-- either order of two tests
pub and_swap : (a b : Bool) → (a && b) ≡ (b && a)
and_swap true true = refl
and_swap true false = refl
and_swap false true = refl
and_swap false false = refl

-- a test that always holds changes nothing
pub and_true : (b : Bool) → (b && true) ≡ b
and_true true = refl
and_true false = refl

-- nothing passes a test that never holds
pub and_false : (b : Bool) → (b && false) ≡ false
and_false true = refl
and_false false = refl

-- all passes a test that always holds
pub or_true : (b : Bool) → (b || true) ≡ true
or_true true = refl
or_true false = refl

-- a test that never holds changes nothing
pub or_false : (b : Bool) → (b || false) ≡ b
or_false true = refl
or_false false = refl
