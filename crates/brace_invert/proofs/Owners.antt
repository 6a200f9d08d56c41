-- What the owner of an area needs to hold of a world.
use Rattle.std.proofs.Common.{◌≡◌, ◌∙◌, sym, ℕ, ℤ, pos, ◌≤ℤ◌, ◌+ℤ◌, List, [], filter, Bool, true, false, Option, Some, None, arith, ⊎_elim}
use Rattle.std.specs.Prelude.{◌&&◌, ◌==◌, if◌then◌else◌}
use Rattle.std.specs.List.{Contains}
use Rattle.std.proofs.lemmas.List.Elements.{Contains-append_left, Contains-append_right, Contains-append_cases}
use Rattle.brace_num.specs.declared.kinds.Area.{Area}
use Rattle.brace_model.specs.declared.program.Class.{Class}
use Rattle.brace_model.specs.declared.program.Program.{Program}
use Rattle.brace_model.specs.declared.fault.Fault.{Fault}
use Rattle.brace_model.specs.declared.world.Agent.{Agent}
use Rattle.brace_model.specs.World.{class_of, sees}
use Rattle.brace_model.specs.Query.{seen_by, opening_scope, query_in, query_of, query_faults}
use Rattle.brace_model.specs.Lawful.{LawfulProgram}
use Rattle.brace_invert.specs.Split.{forward_query, forward_program}
use Rattle.brace_invert.specs.Range.{greatest_visible, says_in_inner_loops, range_of}
use Rattle.brace_invert.specs.Held.{is_in, HoldsNear}
use Rattle.brace_invert.proofs.RangeLemmas.{greatest_in_range}
use Rattle.brace_invert.proofs.Inverting.{seen_same}
use Rattle.brace_invert.proofs.Nearness.{seen_near, nearer}
use Rattle.brace_model.proofs.Blocks.{free}
use Rattle.brace_model.proofs.Simulation.{Tie, IsTie, simulation, over_held, over_all, same_sight}
use Rattle.brace_invert.proofs.Sites.{none_within}
use Rattle.std.proofs.lemmas.Bool.{and_parts}
use Rattle.brace_num.proofs.Lists.{filter_weaker}

-- the range is at least the greatest visible range
doubled : (twice : Bool) (v : ℤ) → pos 0 ≤ℤ v → (pos 0 +ℤ v) ≤ℤ (if twice then v +ℤ v else v)
doubled true v some = grind (arith, some)
doubled false v some = grind arith

pub range_reaches : (m : Program) → LawfulProgram m → (pos 0 +ℤ greatest_visible m) ≤ℤ range_of m true
range_reaches m lawful = doubled (says_in_inner_loops m) (greatest_visible m) (greatest_in_range m lawful).0

held_seen : (m : Program) → LawfulProgram m → (area : Area) (w : List Agent) (held : Agent → Bool) → HoldsNear m area (range_of m true) w held → (a : Agent) → is_in m area a ≡ true → (class : ℕ) → seen_by m (filter held w) a class ≡ seen_by m w a class
held_seen m lawful area w held holds a stands class =
    filter_weaker (λ x. (x.class == class) && sees m a x) held w (λ x within passes.
    holds x within (nearer m area x _ _ (range_reaches m lawful) (seen_near m lawful area a x (pos 0) (grind arith) (and_parts (x.class == class) (sees m a x) passes).1 stands)))

-- the forward program does the same over the owner's list
pub forward_held : (m : Program) (seed tick : ℕ) (w : List Agent) (area : Area) (held : Agent → Bool) → LawfulProgram m → HoldsNear m area (range_of m true) w held → (a : Agent) → is_in m area a ≡ true
    → query_of (forward_program m) seed tick (filter held w) a ≡ query_of (forward_program m) seed tick w a
forward_held m seed tick w area held lawful holds a stands =
    same_sight (forward_program m) seed tick (filter held w) w a
    (λ class. seen_same forward_query m (filter held w) a class ∙ held_seen m lawful area w held holds a stands class ∙ sym (seen_same forward_query m w a class))
    (class_of (forward_program m) a)

-- over a part of a world a query faults nowhere else than over the world
abbrev Within : Tie
Within p f q g = (x : Fault) → Contains f x → Contains g x

within_tie : IsTie Within
within_tie = record {
  none = λ x h. h;
  join = λ p f q g pp ff qq gg h k x w. ⊎_elim (λ (y : Contains f x). Contains-append_left g gg x (h x y)) (λ (y : Contains ff x). Contains-append_right g gg x (k x y)) (Contains-append_cases f ff x w);
}

module _ (m : Program) (seed tick : ℕ) (w : List Agent) (held : Agent → Bool) where
  fewer_in : (a : Agent) (class : Option Class) → Within [] (query_in m seed tick (filter held w) a class).faults [] (query_in m seed tick w a class).faults
  fewer_in a None = λ x h. h
  fewer_in a (Some class) =
      (simulation Within within_tie m m (filter held w) w (λ scope. Unit {0}) (λ scope n v at. at) (λ x. Unit {0}) (λ e scope at stop is x h. h) (λ x may effect scope at v y h. h)
      (λ scope class f g at each. over_held Within within_tie f g (λ x. (x.class == class) && sees m scope.this x) held w (λ x there passes is. (each x tt).tie) (λ x there passes is y h. none_within _ y h))
      class.query (free class.query) (opening_scope seed tick class.query [] a) tt).tie

  -- each fault of a program over the owner's list is one over the world
  pub faults_held : (g : Fault) → Contains (query_faults m seed tick (filter held w)) g → Contains (query_faults m seed tick w) g
  faults_held =
      over_all Within within_tie (query_of m seed tick (filter held w)) (query_of m seed tick w) held w (λ a there is. fewer_in a (class_of m a)) (λ a there is x h. none_within _ x h)

-- an agent of the area is near it
pub no_farther : (m : Program) → LawfulProgram m → pos 0 ≤ℤ range_of m true
no_farther m lawful = not_less (greatest_visible m) (range_of m true) (greatest_in_range m lawful).0 (range_reaches m lawful)
  where
    not_less : (v r : ℤ) → pos 0 ≤ℤ v → (pos 0 +ℤ v) ≤ℤ r → pos 0 ≤ℤ r
    not_less v r h g = grind (arith, h, g)
