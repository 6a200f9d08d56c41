-- Tables of names: what each stands for. The first that has a name keeps it.
use Rattle.std.specs.Prelude.{ℕ, Bool, List, [], ◌∷◌, ◌++◌, Option, is_some, if◌then◌else◌, fold}
use Rattle.std.specs.List.{list_any}
use Rattle.std.specs.Map.{lookup}
use Rattle.std.specs.Str.{bytes_eq}
use Rattle.brace_syntax.specs.declared.tree.Ident.{Ident}

module _ {A : Type 0} where
  -- what the name stands for
  abbrev pub look : List (List ℕ × A) → List ℕ → Option A
  look table name = lookup (bytes_eq name) table

  -- the name stands for something
  abbrev pub has : List (List ℕ × A) → List ℕ → Bool
  has table name = is_some (look table name)

  -- one name more, unless it stands for something already
  abbrev pub with_name : List (List ℕ × A) → List ℕ → A → List (List ℕ × A)
  with_name table name x = if has table name then table else table ++ (name, x) ∷ []

  -- the table of names with what each is to stand for
  abbrev pub table : List (Ident × A) → List (List ℕ × A)
  table = fold (λ names one. with_name names one.0.text one.1) []

-- the places of the names that one of these or an earlier one of the list equals
abbrev pub repeated_after : List (List ℕ) → List Ident → List ℕ
repeated_after earlier [] = []
repeated_after earlier (name ∷ names) =
    (if list_any (bytes_eq name.text) earlier then name.at ∷ [] else [])
    ++ repeated_after (earlier ++ name.text ∷ []) names

-- the places of the names that an earlier one of the list equals
abbrev pub repeated : List Ident → List ℕ
repeated names = repeated_after [] names
