-- Words as values of types.
use Rattle.std.proofs.Common.{◌≡◌, ◌∙◌, ◌<◌, ◌≤◌, ◌+◌, ℕ, zero, suc, ℤ, pos, List, [], ◌∷◌, ◌++◌, map, length, get_or, take, drop, true, false, sym, refl, ap, ap₂, arith, take-append-drop}
use Rattle.brace_model.specs.declared.program.Ty.{Ty}
use Rattle.brace_model.specs.declared.program.Value.{Value}
use Rattle.brace_model.specs.declared.program.Value.TheVariants as val
use Rattle.brace_model.specs.World.{number, no_value, value_at}
use Rattle.brace_model.specs.Value.{typed}
use Rattle.brace_model.specs.Typing.{type_of_value}
use Rattle.brace_model.specs.Words.{values_of}

-- a value by its type and its word
typed_number : (v : Value) → typed (type_of_value v) (number v) ≡ v
typed_number (val.Int n) = refl
typed_number (val.Fixed n) = refl
typed_number (val.Flag true) = refl
typed_number (val.Flag false) = refl

-- values by theirs
pub values-again : (values : List Value)
    → values_of (map type_of_value values) (map number values) ≡ values
values-again [] = refl
values-again (v ∷ values) = ap₂ (λ x l. x ∷ l) (typed_number v) (values-again values)

-- one more value
next-value : (types : List Ty) (words : List ℤ) (k : ℕ) (d : Ty) (e : ℤ) → k < length types
    → length types ≤ length words → values_of (take (suc k) types) words
    ≡ values_of (take k types) words ++ typed (get_or types k d) (get_or words k e) ∷ []
next-value [] words k d e low long = absurd (omega (arith, low))
next-value (t ∷ types) [] k d e low long = absurd (omega (arith, long))
next-value (t ∷ types) (w ∷ words) zero d e low long = refl
next-value (t ∷ types) (w ∷ words) (suc k) d e low long =
    ap (λ l. typed t w ∷ l)
    (next-value types words k d e (omega (arith, low)) (omega (arith, long)))

pub values-more : (types : List Ty) (words : List ℤ) (k : ℕ) (d : Ty) (e : ℤ) → k < length types
    → length types ≤ length words → values_of (take (k + 1) types) words
    ≡ values_of (take k types) words ++ typed (get_or types k d) (get_or words k e) ∷ []
values-more types words k d e low long =
    let step : k + 1 ≡ suc k = omega arith in
    ap (λ n. values_of (take n types) words) step ∙ next-value types words k d e low long

-- the value of a state
pub value-there : (types : List Ty) (words : List ℤ) (i : ℕ) (d : Ty) (e : ℤ) → i < length types
    → length types ≤ length words
    → value_at (values_of types words) i ≡ typed (get_or types i d) (get_or words i e)
value-there [] words i d e low long = absurd (omega (arith, low))
value-there (t ∷ types) [] i d e low long = absurd (omega (arith, long))
value-there (t ∷ types) (w ∷ words) zero d e low long = refl
value-there (t ∷ types) (w ∷ words) (suc i) d e low long =
    value-there types words i d e (omega (arith, low)) (omega (arith, long))

-- none behind the last type
pub value-past : (types : List Ty) (words : List ℤ) (i : ℕ) → length types ≤ i
    → value_at (values_of types words) i ≡ no_value
value-past [] words i past = refl
value-past (t ∷ types) [] i past = refl
value-past (t ∷ types) (w ∷ words) zero past = absurd (omega (arith, past))
value-past (t ∷ types) (w ∷ words) (suc i) past = value-past types words i (omega (arith, past))

-- words of no type do not matter
longer : (types : List Ty) (words more : List ℤ) → length types ≤ length words
    → values_of types (words ++ more) ≡ values_of types words
longer [] words more long = refl
longer (t ∷ types) [] more long = absurd (omega (arith, long))
longer (t ∷ types) (w ∷ words) more long =
    ap (λ l. typed t w ∷ l) (longer types words more (omega (arith, long)))

longer-from : (types : List Ty) (n : ℕ) (words more : List ℤ) → n + length types ≤ length words
    → values_of types (drop n (words ++ more)) ≡ values_of types (drop n words)
longer-from types zero words more long = longer types words more (omega (arith, long))
longer-from types (suc n) [] more long = absurd (omega (arith, long))
longer-from types (suc n) (w ∷ words) more long =
    longer-from types n words more (omega (arith, long))

-- the values from a place on, where words grew
pub values-kept : (types : List Ty) (n : ℕ) (words all : List ℤ)
    → take (length words) all ≡ words → n + length types ≤ length words
    → values_of types (drop n all) ≡ values_of types (drop n words)
values-kept types n words all kept long =
    ap (λ l. values_of types (drop n l)) (sym (take-append-drop (length words) all)
    ∙ ap (λ l. l ++ drop (length words) all) kept)
    ∙ longer-from types n words (drop (length words) all) long

-- words that are cut behind the last type
pub values-cut : (types : List Ty) (words : List ℤ)
    → values_of types (take (length types) words) ≡ values_of types words
values-cut [] words = refl
values-cut (t ∷ types) [] = refl
values-cut (t ∷ types) (w ∷ words) = ap (λ l. typed t w ∷ l) (values-cut types words)

-- how many values there are
pub values-many : (types : List Ty) (words : List ℤ) → length types ≤ length words
    → length (values_of types words) ≡ length types
values-many [] words long = refl
values-many (t ∷ types) [] long = absurd (omega (arith, long))
values-many (t ∷ types) (w ∷ words) long = ap suc (values-many types words (omega (arith, long)))
