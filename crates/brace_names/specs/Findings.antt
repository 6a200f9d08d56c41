-- What is found at a place of a script, by what is in scope there: faults, what names stand for,
-- sites and assignments.
use Rattle.std.specs.Prelude.{ℕ, Bool, false, not, ◌&&◌, List, [], ◌∷◌, ◌++◌, map, Option, Some, None, if◌then◌else◌}
use Rattle.std.specs.Str.{bytes_eq}
use Rattle.brace_syntax.specs.declared.tree.Ident.{Ident}
use Rattle.brace_syntax.specs.declared.tree.TyName.{TyName}
use Rattle.brace_syntax.specs.declared.tree.TyName.TheVariants as ty
use Rattle.brace_model.specs.Typing.{is_sum}
use Rattle.brace_names.specs.declared.fault.NameFault.{NameFault}
use Rattle.brace_names.specs.declared.fault.NameFault.TheVariants.{DuplicateName, UnknownClass, UnknownName, UnknownType}
use Rattle.brace_names.specs.declared.resolved.Target.{Target}
use Rattle.brace_names.specs.declared.resolved.Target.TheVariants as target
use Rattle.brace_names.specs.declared.declared.Field.{Field}
use Rattle.brace_names.specs.declared.declared.Field.TheVariants as field
use Rattle.brace_names.specs.declared.scope.Named.{Named}
use Rattle.brace_names.specs.declared.scope.Named.TheVariants as named
use Rattle.brace_names.specs.declared.scope.LoopField.{LoopField}
use Rattle.brace_names.specs.declared.finding.Finding.{Finding}
use Rattle.brace_names.specs.declared.finding.Finding.TheVariants as finding
use Rattle.brace_names.specs.Tables.{look}
use Rattle.brace_names.specs.Scopes.{Scope, is_taken, class_number, of_loop}

-- a fault
abbrev pub fault : NameFault → List Finding
fault f = finding.Fault f ∷ []

-- a fault of one kind at each of these places
abbrev pub faults_at : (ℕ → NameFault) → List ℕ → List Finding
faults_at kind places = map (λ at. finding.Fault (kind at)) places

-- what the name at a place stands for
abbrev pub names_as : ℕ → Target → List Finding
names_as at target = finding.Names (record { at = at; target = target }) ∷ []

-- a site
abbrev pub site : ℕ → List Finding
site at = finding.Site at ∷ []

-- an assignment
abbrev pub assignment : ℕ → List Finding
assignment at = finding.Assignment at ∷ []

-- what a field is as a target
abbrev pub target_of : Field → Target
target_of (field.State n t shared) = target.State n
target_of (field.Effect n t shared c) = target.Effect n

-- outside a query the total of an effect that is added up is read at a site
abbrev pub is_summed : Scope → Field → Bool
is_summed scope (field.State n t shared) = false
is_summed scope (field.Effect n t shared c) = not scope.in_query && is_sum c

-- a site at a place, where an operation or a total is one
abbrev pub site_if : Bool → ℕ → List Finding
site_if is_site at = if is_site then site at else []

-- a name in an expression stands for this; what is read stands at a place
abbrev pub reads : Scope → ℕ → Ident → Option Named → List Finding
reads scope at name None = fault (UnknownName at)
reads scope at name (Some (named.Constant n t)) = names_as name.at (target.Local n)
reads scope at name (Some (named.Field f)) =
    names_as name.at (target_of f) ++ site_if (is_summed scope f) at

-- `q.n` stands for this
abbrev pub names_of_loop : Ident → Ident → Option LoopField → List Finding
names_of_loop variable name None = fault (UnknownName variable.at)
names_of_loop variable name (Some x) =
    names_as variable.at (target.Loop x.loops) ++ names_as name.at (target_of x.field)

-- `q.n` in an expression; outside a query it is not looked up
abbrev pub reads_of_loop : Scope → Ident → Ident → List Finding
reads_of_loop scope variable name =
    if scope.in_query then names_of_loop variable name (of_loop scope variable.text name.text)
    else []

-- the target of an assignment that stands at a place is this field of the class
abbrev pub names_field : ℕ → Ident → Option Field → List Finding
names_field at name None = fault (UnknownName at)
names_field at name (Some f) = names_as name.at (target_of f)

-- `n` or `this.n` as the target of an assignment that stands at the place
abbrev pub assigns : Scope → ℕ → Ident → List Finding
assigns scope at name = names_field at name (look scope.home.own name.text) ++ assignment at

-- `q.n` as the target of an assignment
abbrev pub assigns_of_loop : Scope → Ident → Ident → List Finding
assigns_of_loop scope variable name =
    names_of_loop variable name (of_loop scope variable.text name.text) ++ assignment variable.at

-- a constant or loop variable is declared
abbrev pub declares : Scope → Ident → List Finding
declares scope name = if is_taken scope name.text then fault (DuplicateName name.at) else []

-- a type
abbrev pub typed : TyName → List Finding
typed ty.Int = []
typed ty.Fixed = []
typed ty.Bool = []
typed (ty.Other name) = fault (UnknownType name.at)

-- a class is named
abbrev pub names_class : ℕ → Option ℕ → List Finding
names_class at None = fault (UnknownClass at)
names_class at (Some n) = names_as at (target.Class n)

-- the second class of a loop, of a number, is the first
abbrev pub names_again : Ident → Ident → Option ℕ → List Finding
names_again class other number =
    if bytes_eq class.text other.text then names_class other.at number
    else fault (UnknownClass other.at)

-- the two classes of a loop
abbrev pub loops_over : Scope → Ident → Ident → List Finding
loops_over scope class other =
    names_class class.at (class_number scope class.text)
    ++ names_again class other (class_number scope other.text)
