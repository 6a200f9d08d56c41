-- Which fault of the check passes is answered.
use Rattle.std.specs.Prelude.{◌≡◌, ℕ, Bool, List, Option, Some, ⊤}
use Rattle.brace_names.specs.Answered as answered
use Rattle.brace_names.specs.declared.resolved.Resolved.{Resolved}
use Rattle.brace_check.specs.declared.fault.CheckFault.{CheckFault}
use Rattle.brace_check.specs.declared.fault.CheckFault.TheVariants as fault
use Rattle.brace_check.specs.Found.{found}

-- the pass that has a fault
abbrev pub pass : CheckFault → ℕ
pass (fault.OtherAgentInUpdate at) = 1
pass (fault.ReadsEffectInQuery at) = 2
pass (fault.AssignsState at) = 3
pass (fault.AssignsEffect at) = 4
pass (fault.PrivateOfOtherClass at) = 5
pass (fault.NestedTooDeep at) = 6
pass (fault.BadRange at) = 7
pass (fault.WrongCombinator at) = 8
pass (fault.WrongType at) = 9
pass fault.NoMemory = 10

-- by what two faults of one pass are ordered: their places; those of types stand as they are found,
-- in finishing order
abbrev pub rank : CheckFault → ℕ
rank (fault.OtherAgentInUpdate at) = at
rank (fault.ReadsEffectInQuery at) = at
rank (fault.AssignsState at) = at
rank (fault.AssignsEffect at) = at
rank (fault.PrivateOfOtherClass at) = at
rank (fault.NestedTooDeep at) = at
rank (fault.BadRange at) = at
rank (fault.WrongCombinator at) = at
rank (fault.WrongType at) = 0
rank fault.NoMemory = 0

-- an earlier pass decides, then the rank
abbrev pub is_before : CheckFault → CheckFault → Bool
is_before = answered.is_before pass rank

-- the one of two faults that is answered, of which the first was found first
abbrev pub earlier : CheckFault → CheckFault → CheckFault
earlier = answered.earlier pass rank

-- the one of these faults, in the order in which they are found, that is answered
abbrev pub first : List CheckFault → Option CheckFault
first = answered.first pass rank

-- the fault is the first of these
abbrev pub IsFirst : CheckFault → List CheckFault → Type 0
IsFirst = answered.IsFirst pass rank

-- the faults of a script whose names are resolved
abbrev pub faults : Resolved → List CheckFault
faults r = found r.tree

-- what a fault says of a script
abbrev pub Refuses : Resolved → CheckFault → Type 0
Refuses r fault.NoMemory = ⊤
Refuses r f = first (faults r) ≡ Some f
