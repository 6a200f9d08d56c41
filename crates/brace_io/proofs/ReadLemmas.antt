-- What one read more gives.
use Rattle.std.proofs.Common.{◌≡◌, ◌≤◌, ◌+◌, ◌∙◌, ◌++◌, ℕ, List, [], Option, Some, None, true, is_some, take, drop, length, sym, refl, ap, subst, length-append}
use Rattle.std.proofs.lemmas.List.{append-nil, take-append-drop, length-take-le}
use Rattle.std.proofs.Math.Seq.{take-add}
use Rattle.brace_io.specs.Shelves.{Files, Stage, held_at, tells, Holds, Has, ReadsFrom}

-- what there is, is some bytes
pub some_file : (o : Option (List ℕ)) → is_some o ≡ true → (file : List ℕ) × (o ≡ Some file)
some_file None is = cc
some_file (Some file) is = (file, refl)

pub file_of : (held : Option Files) (name : List ℕ) → Has held name → tells held ≡ true → (file : List ℕ) × (held_at held name ≡ Some file)
file_of held name has told = some_file (held_at held name) (has told)

pub reads_as : (h k : Option Files) (s : Stage) (name : List ℕ) (place : ℕ) → h ≡ k → ReadsFrom h s name place → ReadsFrom k s name place
reads_as h k s name place e w = subst (λ (x : Option Files). ReadsFrom x s name place) e w

-- nothing is left behind what was read
pub whole_file : (held : Option Files) (name bytes : List ℕ) → Has held name → ((file : List ℕ) → held_at held name ≡ Some file → bytes ≡ take (length bytes) file) → ((file : List ℕ) → held_at held name ≡ Some file → drop (length bytes) file ≡ []) → Holds held name bytes
whole_file held name bytes has front none told =
    let (file, e) = file_of held name has told in
    let seam : take (length bytes) file ++ drop (length bytes) file ≡ file = take-append-drop (length bytes) file in
    let empty : drop (length bytes) file ≡ [] = none file e in
    let same : take (length bytes) file ++ [] ≡ file = rw empty at seam in
    e ∙ ap Some (sym same ∙ (append-nil (take (length bytes) file) ∙ sym (front file e)))

pub length_more : (bytes all given : List ℕ) (got : ℕ) → all ≡ bytes ++ take got given → got ≤ length given → length all ≡ length bytes + got
length_more bytes all given got e le = ap length e ∙ (length-append bytes (take got given) ∙ ap (λ (n : ℕ). length bytes + n) (length-take-le got given le))

pub front_more : (bytes all given file : List ℕ) (got : ℕ) → all ≡ bytes ++ take got given → length all ≡ length bytes + got → bytes ≡ take (length bytes) file → take got given ≡ take got (drop (length bytes) file) → all ≡ take (length all) file
front_more bytes all given file got e len front next =
    e ∙ (ap (λ (x : List ℕ). bytes ++ x) next ∙ (ap (λ (x : List ℕ). x ++ take got (drop (length bytes) file)) front ∙ (sym (take-add (length bytes) got file) ∙ ap (λ (n : ℕ). take n file) (sym len))))
