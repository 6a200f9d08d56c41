-- The order of faults: by tick, phase (query, update, birth), agent, site, outer agent, inner
-- agent; no loop agent comes before every agent.
-- Faults of one tick that agree in all of these are one fault; so that any two faults are ordered,
-- the kind decides last.
use Rattle.std.specs.Prelude.{ℕ, List, Bool, Option, if◌then◌else◌, Some, None}
use Rattle.std.specs.declared.cmp.Ordering.{Ordering}
use Rattle.std.specs.Ordering.{nat_cmp, ordering_then, is_lt}
use Rattle.std.specs.Option.{option_cmp}
use Rattle.std.specs.List.{reduce}
use Rattle.brace_num.specs.declared.kinds.Kind.{Kind}
use Rattle.brace_num.specs.declared.kinds.Kind.TheVariants.{Overflow, DivZero, NegRoot, TooMany}
use Rattle.brace_model.specs.declared.fault.Phase.{Phase}
use Rattle.brace_model.specs.declared.fault.Phase.TheVariants.{Query, Update, Birth}
use Rattle.brace_model.specs.declared.fault.Fault.{Fault}

-- the query comes before the update, and the update before the births
abbrev pub phase_rank : Phase → ℕ
phase_rank Query = 0
phase_rank Update = 1
phase_rank Birth = 2

abbrev pub kind_rank : Kind → ℕ
kind_rank Overflow = 0
kind_rank DivZero = 1
kind_rank NegRoot = 2
kind_rank TooMany = 3

-- how two faults compare
abbrev pub compared : Fault → Fault → Ordering
compared a b =
    ordering_then (nat_cmp a.tick b.tick) (
    ordering_then (nat_cmp (phase_rank a.phase) (phase_rank b.phase)) (
    ordering_then (nat_cmp a.agent b.agent) (
    ordering_then (nat_cmp a.site b.site) (
    ordering_then (option_cmp nat_cmp a.outer b.outer) (
    ordering_then (option_cmp nat_cmp a.inner b.inner)
    (nat_cmp (kind_rank a.kind) (kind_rank b.kind)))))))

-- fault a comes before fault b
abbrev pub comes_before : Fault → Fault → Bool
comes_before a b = is_lt (compared a b)

-- the earlier of two faults
abbrev pub earlier : Fault → Fault → Fault
earlier a b = if comes_before b a then b else a

-- the least of some faults, if there are any
abbrev pub least : List Fault → Option Fault
least = reduce earlier

-- the earlier of a fault and one that may be there before it
abbrev pub with_earlier : Option Fault → Fault → Fault
with_earlier None g = g
with_earlier (Some f) g = earlier f g
