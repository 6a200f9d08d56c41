-- What the classes of a script declare.
use Rattle.std.specs.Prelude.{ℕ, ◌+◌, Bool, true, false, ◌&&◌, List, [], ◌∷◌, map, codes}
use Rattle.std.specs.List.{list_any}
use Rattle.std.specs.Str.{bytes_eq}
use Rattle.brace_syntax.specs.declared.tree.Ident.{Ident}
use Rattle.brace_syntax.specs.declared.tree.TyName.TheVariants as ty
use Rattle.brace_syntax.specs.declared.tree.MemberTree.{MemberTree}
use Rattle.brace_syntax.specs.declared.tree.MemberTree.TheVariants as m
use Rattle.brace_syntax.specs.declared.tree.ClassTree.{ClassTree}
use Rattle.brace_names.specs.declared.declared.Field.{Field}
use Rattle.brace_names.specs.declared.declared.Field.TheVariants as field
use Rattle.brace_names.specs.Kinds.{type_named, comb_named}
use Rattle.brace_names.specs.Tables.{table}

-- what a class can have once: a field of the name, or the member that begins with the word
abbrev pub title : MemberTree → Ident
title (m.Visible range at) = record { text = codes "#visible"; at = at }
title (m.Reach range at) = record { text = codes "#reach"; at = at }
title (m.State shared type name rule at) = name
title (m.Effect shared type name comb at) = name
title (m.Run block at) = record { text = codes "run"; at = at }
title (m.Die condition at) = record { text = codes "die"; at = at }
title (m.Spawn condition gifts at) = record { text = codes "spawn"; at = at }

-- the fields among these members, behind so many states and effects of the class
abbrev pub fields_behind : ℕ → ℕ → List MemberTree → List (Ident × Field)
fields_behind states effects [] = []
fields_behind states effects (m.State shared type name rule at ∷ members) =
    (name, field.State states (type_named type) shared)
    ∷ fields_behind (states + 1) effects members
fields_behind states effects (m.Effect shared type name c at ∷ members) =
    (name, field.Effect effects (type_named type) shared (comb_named c))
    ∷ fields_behind states (effects + 1) members
fields_behind states effects (_ ∷ members) = fields_behind states effects members

-- the fields of a class, numbered among its states and among its effects
abbrev pub fields : ClassTree → List (Ident × Field)
fields class = fields_behind 0 0 class.members

-- the names of classes with their numbers, from a number on
abbrev pub numbered_from : ℕ → List ClassTree → List (Ident × ℕ)
numbered_from number [] = []
numbered_from number (class ∷ classes) =
    (class.name, number) ∷ numbered_from (number + 1) classes

-- what a script declares: the number of each class by its name, and the fields of each class by
-- its number
pub record Known : Type 0 where
  pub classes : List (List ℕ × ℕ)
  pub fields : List (List (List ℕ × Field))

-- what these classes declare
abbrev pub known : List ClassTree → Known
known classes = record {
  classes = table (numbered_from 0 classes);
  fields = map (λ class. table (fields class)) classes;
}

-- the member is `public state fixed` of this name
abbrev pub is_coordinate : List ℕ → MemberTree → Bool
is_coordinate axis (m.State true ty.Fixed name rule at) = bytes_eq axis name.text
is_coordinate axis _ = false

-- the class has `public state fixed x` and `public state fixed y`
abbrev pub has_position : ClassTree → Bool
has_position class =
    list_any (is_coordinate (codes "x")) class.members
    && list_any (is_coordinate (codes "y")) class.members
