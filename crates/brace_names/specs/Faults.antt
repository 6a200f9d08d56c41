-- The faults of a script's names, which of them is answered, and what its names stand for.
use Rattle.std.specs.Prelude.{◌≡◌, ℕ, ◌+◌, ◌≤◌, Bool, List, [], ◌∷◌, ◌++◌, flat_map, Option, Some, None, slice_get, ⊤}
use Rattle.brace_syntax.specs.declared.tree.Tree.{Tree}
use Rattle.brace_names.specs.declared.fault.NameFault.{NameFault}
use Rattle.brace_names.specs.declared.fault.NameFault.TheVariants as fault
use Rattle.brace_names.specs.declared.fault.Which.{Which}
use Rattle.brace_names.specs.declared.fault.Which.TheVariants as which
use Rattle.brace_names.specs.declared.resolved.Binding.{Binding}
use Rattle.brace_names.specs.declared.finding.Finding.{Finding}
use Rattle.brace_names.specs.declared.finding.Finding.TheVariants as finding
use Rattle.brace_names.specs.Found.{found}
use Rattle.brace_names.specs.Answered as answered

-- a finding that is a fault
abbrev pub fault_of : Finding → List NameFault
fault_of (finding.Fault f) = f ∷ []
fault_of _ = []

-- a finding that a name stands for something
abbrev pub binding_of : Finding → List Binding
binding_of (finding.Names b) = b ∷ []
binding_of _ = []

-- the place of a finding that is a site
abbrev pub site_of : Finding → List ℕ
site_of (finding.Site at) = at ∷ []
site_of _ = []

-- the place of a finding that is an assignment
abbrev pub assignment_of : Finding → List ℕ
assignment_of (finding.Assignment at) = at ∷ []
assignment_of _ = []

-- the fault of the first place past a limit
abbrev pub too_many : Which → Option ℕ → List NameFault
too_many which None = []
too_many which (Some at) = fault.TooMany which at ∷ []

-- the faults among what is found; at most 4096 sites and 4096 assignments are allowed
abbrev pub faults_among : List Finding → List NameFault
faults_among all =
    flat_map fault_of all
    ++ too_many which.Sites (slice_get (flat_map site_of all) 4096)
    ++ too_many which.Assignments (slice_get (flat_map assignment_of all) 4096)

-- the faults of a script, of all passes
abbrev pub faults : Tree → List NameFault
faults tree = faults_among (found tree)

-- what the names of a script stand for
abbrev pub bindings : Tree → List Binding
bindings tree = flat_map binding_of (found tree)

-- the pass that has a fault
abbrev pub pass : NameFault → ℕ
pass (fault.DuplicateClass at) = 1
pass (fault.DuplicateName at) = 2
pass (fault.UnknownClass at) = 3
pass (fault.UnknownName at) = 4
pass (fault.UnknownType at) = 5
pass (fault.NoPosition at) = 6
pass (fault.TooMany which at) = 7
pass fault.NoMemory = 8

-- the place of a fault
abbrev pub place : NameFault → ℕ
place (fault.DuplicateClass at) = at
place (fault.DuplicateName at) = at
place (fault.UnknownClass at) = at
place (fault.UnknownName at) = at
place (fault.UnknownType at) = at
place (fault.NoPosition at) = at
place (fault.TooMany which at) = at
place fault.NoMemory = 0

-- an earlier pass decides, then the place
abbrev pub is_before : NameFault → NameFault → Bool
is_before = answered.is_before pass place

-- the one of two faults that is answered, of which the first was found first
abbrev pub earlier : NameFault → NameFault → NameFault
earlier = answered.earlier pass place

-- the one of these faults, in the order in which they are found, that is answered
abbrev pub first : List NameFault → Option NameFault
first = answered.first pass place

-- the fault is the first of these
abbrev pub IsFirst : NameFault → List NameFault → Type 0
IsFirst = answered.IsFirst pass place

-- what a fault says of a script
abbrev pub Refuses : Tree → NameFault → Type 0
Refuses tree fault.NoMemory = ⊤
Refuses tree f = first (faults tree) ≡ Some f

-- the places rise, from one that the first is not below
abbrev pub AreRising : ℕ → List ℕ → Type 0
AreRising low [] = ⊤
AreRising low (place ∷ places) = (low ≤ place) × AreRising (place + 1) places
