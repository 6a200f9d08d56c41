-- What the query of an agent does over a list hangs on the agents of it that the agent sees.
use Rattle.std.proofs.Common.{◌≡◌, ◌∙◌, sym, ℕ, ℤ, pos, ◌≤ℤ◌, ◌+ℤ◌, List, filter, Bool, true, arith}
use Rattle.std.specs.Prelude.{◌==◌, ◌&&◌}
use Rattle.std.specs.List.{Contains}
use Rattle.std.proofs.lemmas.Int.{ints}
use Rattle.brace_num.specs.declared.kinds.Area.{Area}
use Rattle.brace_model.specs.declared.program.Stmt.{Stmt}
use Rattle.brace_model.specs.declared.program.Program.{Program}
use Rattle.brace_model.specs.declared.world.Agent.{Agent}
use Rattle.brace_model.specs.World.{class_of, sees}
use Rattle.brace_model.specs.Query.{seen_by, query_of}
use Rattle.brace_model.specs.Lawful.{LawfulProgram}
use Rattle.brace_invert.specs.Split.{with_queries}
use Rattle.brace_invert.specs.Range.{greatest_visible}
use Rattle.brace_invert.specs.Held.{is_in, HoldsNear}
use Rattle.brace_invert.proofs.Inverting.{seen_same}
use Rattle.brace_invert.proofs.Nearness.{seen_near, nearer}
use Rattle.brace_model.proofs.Simulation.{same_sight}
use Rattle.std.proofs.lemmas.Bool.{and_parts}
use Rattle.brace_num.proofs.Lists.{filter_weaker}

-- who is seen from an area is held
plus_none : (v : ℤ) → (pos 0 +ℤ v) ≤ℤ v
plus_none v = omega (arith, ints)

pub seen_held : (m : Program) → LawfulProgram m → (area : Area) (w : List Agent) (held : Agent → Bool) → HoldsNear m area (greatest_visible m) w held → (a : Agent) → is_in m area a ≡ true
    → (x : Agent) → Contains w x → sees m a x ≡ true → held x ≡ true
seen_held m lawful area w held holds a stands x within seen =
    holds x within (nearer m area x _ _ (plus_none (greatest_visible m)) (seen_near m lawful area a x (pos 0) (grind arith) seen stands))

sight_held : (m : Program) (w : List Agent) (area : Area) (held : Agent → Bool) → LawfulProgram m → HoldsNear m area (greatest_visible m) w held → (a : Agent) → is_in m area a ≡ true
    → (class : ℕ) → seen_by m (filter held w) a class ≡ seen_by m w a class
sight_held m w area held lawful holds a stands class =
    filter_weaker (λ x. (x.class == class) && sees m a x) held w (λ x within passes.
    seen_held m lawful area w held holds a stands x within (and_parts (x.class == class) (sees m a x) passes).1)

-- the query of an agent of an area does over the agents that are held what it does over all
pub query_held : (m : Program) (seed tick : ℕ) (w : List Agent) (area : Area) (held : Agent → Bool) → LawfulProgram m → HoldsNear m area (greatest_visible m) w held → (a : Agent) → is_in m area a ≡ true
    → query_of m seed tick (filter held w) a ≡ query_of m seed tick w a
query_held m seed tick w area held lawful holds a stands =
    same_sight m seed tick (filter held w) w a (sight_held m w area held lawful holds a stands) (class_of m a)

-- and so does a query that is made of it
pub part_held : (part : List Stmt → List Stmt) (m : Program) (seed tick : ℕ) (w : List Agent) (area : Area) (held : Agent → Bool) → LawfulProgram m → HoldsNear m area (greatest_visible m) w held
    → (a : Agent) → is_in m area a ≡ true → query_of (with_queries part m) seed tick (filter held w) a ≡ query_of (with_queries part m) seed tick w a
part_held part m seed tick w area held lawful holds a stands =
    same_sight (with_queries part m) seed tick (filter held w) w a
    (λ class. seen_same part m (filter held w) a class ∙ sight_held m w area held lawful holds a stands class ∙ sym (seen_same part m w a class))
    (class_of (with_queries part m) a)
