-- Over the owner's list the inverse program says to the agents of the area what it says over the world.
use Rattle.std.proofs.Common.{◌≡◌, ◌∙◌, refl, sym, ap, ap₂, subst, ℕ, zero, suc, ℤ, pos, ◌≤ℤ◌, ◌+ℤ◌, List, [], ◌∷◌, ◌++◌, map, filter, Bool, true, false, cond, Option, Some, None, arith, ◌<◌}
use Rattle.std.specs.Prelude.{◌&&◌, ◌==◌, if◌then◌else◌, is_none, unwrap_or}
use Rattle.std.specs.List.{Contains, list_any}
use Rattle.std.proofs.lemmas.List.Elements.{All-contains, All-filter, All-contains_itself, filter_passes, filter-append}
use Rattle.std.proofs.lemmas.Map.Keys.{any_passes_from_place}
use Rattle.std.proofs.lemmas.Int.{ints}
use Rattle.brace_num.specs.declared.kinds.Area.{Area}
use Rattle.brace_model.specs.declared.program.Who.{Who}
use Rattle.brace_model.specs.declared.program.Who.TheVariants as who
use Rattle.brace_model.specs.declared.program.Value.{Value}
use Rattle.brace_model.specs.declared.program.Expr.{Expr}
use Rattle.brace_model.specs.declared.program.Stmt.{Stmt}
use Rattle.brace_model.specs.declared.program.Stmt.TheVariants.{Foreach, Assign}
use Rattle.brace_model.specs.declared.program.Class.{Class}
use Rattle.brace_model.specs.declared.program.Program.{Program}
use Rattle.brace_model.specs.declared.fault.Fault.{Fault}
use Rattle.brace_model.specs.declared.world.Agent.{Agent}
use Rattle.brace_model.specs.World.{RisesById, ids, class_of, sees}
use Rattle.brace_model.specs.Value.{Scope, agent_of}
use Rattle.brace_model.specs.Query.{Saying, bound, inside, seen_by, query_fault, opening_scope, query_of, said_in}
use Rattle.brace_model.specs.Total.{said_to}
use Rattle.brace_model.specs.Typing.{in_turn, scope_after}
use Rattle.brace_model.specs.Lawful.{query_scope, LawfulProgram}
use Rattle.brace_model.proofs.Blocks.{plain}
use Rattle.brace_model.proofs.Deeds.{run}
use Rattle.brace_model.proofs.Simulation.{Tie, IsTie, Tied, Over, Sim, over_held, over_all, sim_none, sim_const, sim_if, sim_loop, sim_say}
use Rattle.brace_invert.specs.Split.{inverse_query, inverse_program}
use Rattle.brace_invert.specs.Range.{greatest_visible, says_within, says_in_inner_loops, range_of}
use Rattle.brace_invert.specs.Held.{is_in, HoldsNear}
use Rattle.brace_invert.proofs.RangeLemmas.{greatest_in_range}
use Rattle.brace_invert.proofs.Sublists.{Rising, rising_from}
use Rattle.brace_invert.proofs.Typed.{is_there}
use Rattle.brace_invert.proofs.LawfulParts.{inverse_is_part}
use Rattle.brace_invert.proofs.Inverting.{part_deed, part_of}
use Rattle.brace_invert.proofs.Nearness.{seen_near, seer_near, nearer}
use Rattle.brace_invert.proofs.Owners.{range_reaches, no_farther}
use Rattle.brace_invert.proofs.Outward as o
use Rattle.brace_invert.proofs.Outward.{Depth, Outward, outward}
use Rattle.std.proofs.lemmas.Bool.{and_parts, and_from, and_right}
use Rattle.brace_num.proofs.Booleans.{and_true}
use Rattle.std.proofs.Math.Bool.{and_assoc}
use Rattle.brace_num.proofs.Lists.{in_map}

-- all agents of a scope are held
abbrev pub holds_one : (Agent → Bool) → Option Agent → Bool
holds_one held None = true
holds_one held (Some a) = held a

abbrev pub holds_all : (Agent → Bool) → Scope → Bool
holds_all held scope = held scope.this && (holds_one held scope.outer && holds_one held scope.inner)

-- a scope at a depth: the loops around have agents of the world that the asking agent sees
pub data Stands (m : Program) (w : List Agent) (a : Agent) : Depth → Scope → Type 0 where
  alone : (scope : Scope) → scope.this ≡ a → scope.outer ≡ None → scope.inner ≡ None → Stands m w a o.top scope
  with_one : (scope : Scope) (p : Agent) → scope.this ≡ a → scope.outer ≡ Some p → scope.inner ≡ None → Contains w p → sees m a p ≡ true → Stands m w a o.middle scope
  with_two : (scope : Scope) (p q : Agent) → scope.this ≡ a → scope.outer ≡ Some p → scope.inner ≡ Some q → Contains w p → sees m a p ≡ true → Contains w q → sees m a q ≡ true → Stands m w a o.deepest scope

-- a constant changes no agent
pub stands_bound : (m : Program) (w : List Agent) (a : Agent) (k : Depth) (scope : Scope) (n : ℕ) (v : Value) → Stands m w a k scope → Stands m w a k (bound scope n v)
stands_bound m w a _ _ n v (alone scope this outer inner) = alone (bound scope n v) this outer inner
stands_bound m w a _ _ n v (with_one scope p this outer inner wp sp) = with_one (bound scope n v) p this outer inner wp sp
stands_bound m w a _ _ n v (with_two scope p q this outer inner wp sp wq sq) = with_two (bound scope n v) p q this outer inner wp sp wq sq

-- what must be known of an id: an agent of it that is seen is held, and so is the one that sees it; in an inner loop both that are seen are
pub record Reaches (m : Program) (w : List Agent) (held : Agent → Bool) (deep : Bool) (a : Agent) (id : ℕ) : Type 0 where
  pub one : (p : Agent) → Contains w p → sees m a p ≡ true → p.id ≡ id → (held a ≡ true) × (held p ≡ true)
  pub three : deep ≡ true → (p q : Agent) → Contains w p → sees m a p ≡ true → Contains w q → sees m a q ≡ true → p.id ≡ id → held q ≡ true

-- what a filter keeps is there and passes
pub seen_in : {A : Type 0} (t : A → Bool) (xs : List A) (x : A) → Contains (filter t xs) x → Contains xs x × (t x ≡ true)
seen_in t xs x w = (All-contains (Contains xs) (filter t xs) x (All-filter t (Contains xs) xs (All-contains_itself xs)) w, All-contains (λ y. t y ≡ true) (filter t xs) x (filter_passes t xs) w)

inside_first : (scope : Scope) (x : Agent) → scope.outer ≡ None → inside scope x ≡ record scope { outer = Some x }
inside_first scope x e = ap (λ p. if is_none p then record scope { outer = Some x } else record scope { inner = Some x }) e

inside_second : (scope : Scope) (x p : Agent) → scope.outer ≡ Some p → inside scope x ≡ record scope { inner = Some x }
inside_second scope x p e = ap (λ p. if is_none p then record scope { outer = Some x } else record scope { inner = Some x }) e

pub stands_first : (m : Program) (w : List Agent) (a : Agent) (scope : Scope) (x : Agent) → Stands m w a o.top scope → Contains w x → sees m scope.this x ≡ true → Stands m w a o.middle (inside scope x)
stands_first m w a _ x (alone scope this outer inner) wx sx =
    subst (Stands m w a o.middle) (sym (inside_first scope x outer)) (with_one (record scope { outer = Some x }) x this refl inner wx (ap (λ y. sees m y x) (sym this) ∙ sx))

pub stands_second : (m : Program) (w : List Agent) (a : Agent) (scope : Scope) (x : Agent) → Stands m w a o.middle scope → Contains w x → sees m scope.this x ≡ true → Stands m w a o.deepest (inside scope x)
stands_second m w a _ x (with_one scope p this outer inner wp sp) wx sx =
    subst (Stands m w a o.deepest) (sym (inside_second scope x p outer)) (with_two (record scope { inner = Some x }) p x this outer refl wp sp wx (ap (λ y. sees m y x) (sym this) ∙ sx))

-- whether all agents of a scope one loop further in are held
pub holds_first : (held : Agent → Bool) (scope : Scope) (x : Agent) → scope.outer ≡ None → scope.inner ≡ None → holds_all held (inside scope x) ≡ (holds_all held scope && held x)
holds_first held scope x outer inner = rw (inside_first scope x outer, outer, inner, and_true, and_true) refl

pub holds_second : (held : Agent → Bool) (scope : Scope) (x p : Agent) → scope.outer ≡ Some p → scope.inner ≡ None → holds_all held (inside scope x) ≡ (holds_all held scope && held x)
holds_second held scope x p outer inner =
    rw (inside_second scope x p outer, inner) (ap (λ t. held scope.this && (t && held x)) (sym (and_true (holds_one held scope.outer))) ∙ sym (and_assoc (held scope.this) (holds_one held scope.outer && true) (held x)))

-- all are held where each is
pub holds_so : (held : Agent → Bool) (scope : Scope) → held scope.this ≡ true → holds_one held scope.outer ≡ true → holds_one held scope.inner ≡ true → holds_all held scope ≡ true
holds_so held scope this outer inner = and_from _ _ this (and_from _ _ outer inner)

-- the agents of the scope in a loop
first_all : (m : Program) (w : List Agent) (a : Agent) (held : Agent → Bool) (scope : Scope) (x : Agent) → Stands m w a o.top scope → holds_all held (inside scope x) ≡ (holds_all held scope && held x)
first_all m w a held _ x (alone scope this outer inner) = holds_first held scope x outer inner

second_all : (m : Program) (w : List Agent) (a : Agent) (held : Agent → Bool) (scope : Scope) (x : Agent) → Stands m w a o.middle scope → holds_all held (inside scope x) ≡ (holds_all held scope && held x)
second_all m w a held _ x (with_one scope p this outer inner wp sp) = holds_second held scope x p outer inner

same_number : (p q : ℕ) → (p == q) ≡ true → p ≡ q
same_number p q e = grind (arith, e)

-- the range where values are said in inner loops
doubled_so : (twice : Bool) (v : ℤ) → twice ≡ true → ((pos 0 +ℤ v) +ℤ v) ≤ℤ (if twice then v +ℤ v else v)
doubled_so true v e = omega (arith, ints)
doubled_so false v e = absurd (cc)

zero_and : (v : ℤ) → pos 0 ≤ℤ v → pos 0 ≤ℤ (pos 0 +ℤ v)
zero_and v h = omega (arith, ints, h)

less_not : (p q : ℕ) → p < q → p ≡ q → ⊥
less_not p q less same = omega (arith, less, same)

pub one_agent : (w : List Agent) → Rising (ids w) → (p q : Agent) → Contains w p → Contains w q → p.id ≡ q.id → p ≡ q
one_agent [] r p q (k, below, is) wq e = absurd (omega (arith, below))
one_agent (x ∷ w) r p q (zero, pb, pis) (zero, qb, qis) e = sym pis ∙ qis
one_agent (x ∷ w) r p q (zero, pb, pis) (suc l, qb, qis) e =
    absurd (less_not x.id q.id (All-contains (λ y. x.id < y) (ids w) q.id r.0 (in_map (λ y. y.id) w q (l, omega (arith, qb), qis))) (ap (λ y. y.id) pis ∙ e))
one_agent (x ∷ w) r p q (suc k, pb, pis) (zero, qb, qis) e =
    absurd (less_not x.id p.id (All-contains (λ y. x.id < y) (ids w) p.id r.0 (in_map (λ y. y.id) w p (k, omega (arith, pb), pis))) (ap (λ y. y.id) qis ∙ sym e))
one_agent (x ∷ w) r p q (suc k, pb, pis) (suc l, qb, qis) e = one_agent w r.1 p q (k, omega (arith, pb), pis) (l, omega (arith, qb), qis) e

-- the agent that a loop's name stands for
abbrev pub loop_agent : Scope → Who → Option Agent
loop_agent scope who.This = None
loop_agent scope who.Outer = scope.outer
loop_agent scope who.Inner = scope.inner

module _ (m : Program) (w : List Agent) (held : Agent → Bool) (deep : Bool) (a : Agent) (id : ℕ) (r : Reaches m w held deep a id) where
  -- where the named agent has the id, all agents of the scope are held
  abbrev pub Hits : Scope → Who → Type 0
  Hits scope x = ((p : Agent) → loop_agent scope x ≡ Some p → p.id ≡ id) → holds_all held scope ≡ true

  pub near_hit : (scope : Scope) → Stands m w a o.middle scope → Hits scope who.Outer
  near_hit _ (with_one scope p this outer inner wp sp) is =
      let (ha, hp) = r.one p wp sp (is p outer) in
      holds_so held scope (ap held this ∙ ha) (ap (holds_one held) outer ∙ hp) (ap (holds_one held) inner)

  pub far_hit : deep ≡ true → (scope : Scope) → Stands m w a o.deepest scope → Hits scope who.Outer
  far_hit d _ (with_two scope p q this outer inner wp sp wq sq) is =
      let (ha, hp) = r.one p wp sp (is p outer) in
      holds_so held scope (ap held this ∙ ha) (ap (holds_one held) outer ∙ hp) (ap (holds_one held) inner ∙ r.three d p q wp sp wq sq (is p outer))

  pub farthest_hit : deep ≡ true → (scope : Scope) → Stands m w a o.deepest scope → Hits scope who.Inner
  farthest_hit d _ (with_two scope p q this outer inner wp sp wq sq) is =
      let (ha, hq) = r.one q wq sq (is q inner) in
      holds_so held scope (ap held this ∙ ha) (ap (holds_one held) outer ∙ r.three d q p wq sq wp sp (is q inner)) (ap (holds_one held) inner ∙ hq)

-- a scope at a depth, all of whose agents are held, or not
abbrev pub At : Program → List Agent → (Agent → Bool) → Agent → Depth → Bool → Scope → Type 0
At m w held a k all scope = Stands m w a k scope × (holds_all held scope ≡ all)

pub at_bound : (m : Program) (w : List Agent) (held : Agent → Bool) (a : Agent) (k : Depth) (all : Bool) (scope : Scope) (n : ℕ) (v : Value) → At m w held a k all scope → At m w held a k all (bound scope n v)
at_bound m w held a k all scope n v at = (stands_bound m w a k scope n v at.0, at.1)

-- the scopes of a loop's iterations
pub record Enters (m : Program) (w : List Agent) (held : Agent → Bool) (a : Agent) (k inner : Depth) : Type 0 where
  pub at : (all : Bool) (scope : Scope) → At m w held a k all scope → (x : Agent) → Contains w x → sees m scope.this x ≡ true → At m w held a inner (all && held x) (inside scope x)

pub enters_first : (m : Program) (w : List Agent) (held : Agent → Bool) (a : Agent) → Enters m w held a o.top o.middle
enters_first m w held a = record { at = λ all scope at x wx sx. (stands_first m w a scope x at.0 wx sx, first_all m w a held scope x at.0 ∙ ap (λ c. c && held x) at.1) }

pub enters_second : (m : Program) (w : List Agent) (held : Agent → Bool) (a : Agent) → Enters m w held a o.middle o.deepest
enters_second m w held a = record { at = λ all scope at x wx sx. (stands_second m w a scope x at.0 wx sx, second_all m w a held scope x at.0 ∙ ap (λ c. c && held x) at.1) }

-- a loop over the owner's list and over the world, where the ties of its iterations are known
pub loop_over : (T : Bool → Tie) (tie : (all : Bool) → IsTie (T all)) → ((all : Bool) (q : List Saying) (g : List Fault) → T false [] [] q g → T all [] [] q g) → ((all : Bool) (p : List Saying) (f : List Fault) (q : List Saying) (g : List Fault) → T false p f q g → T false [] [] q g)
    → (m : Program) (w : List Agent) (held : Agent → Bool) (a : Agent) (k inner : Depth) → Enters m w held a k inner → (all : Bool) (scope : Scope) → At m w held a k all scope → (class : ℕ) (body : List Stmt)
    → ((each : Bool) (s : Scope) → At m w held a inner each s → Tied (T each) (run m (filter held w) body s) (run m w body s))
    → Over (T all) (λ x. run m (filter held w) body (inside scope x)) (seen_by m (filter held w) scope.this class) (λ x. run m w body (inside scope x)) (seen_by m w scope.this class)
loop_over T tie weaker alone_ m w held a k inner enters all scope at class body each =
    over_held (T all) (tie all) (λ x. run m (filter held w) body (inside scope x)) (λ x. run m w body (inside scope x)) (λ x. (x.class == class) && sees m scope.this x) held w
    (λ x wx passes hx. (each all (inside scope x) (subst (λ c. At m w held a inner c (inside scope x)) (ap (λ c. all && c) hx ∙ and_true all) (entered x wx passes))).tie)
    (λ x wx passes hx. weaker all _ _ (alone_ all _ _ _ _ (each false (inside scope x) (subst (λ c. At m w held a inner c (inside scope x)) (and_right all (held x) hx) (entered x wx passes))).tie))
  where
    entered : (x : Agent) → Contains w x → ((x.class == class) && sees m scope.this x) ≡ true → At m w held a inner (all && held x) (inside scope x)
    entered x wx passes = enters.at all scope at x wx (and_parts (x.class == class) (sees m scope.this x) passes).1

-- what is said to an effect of an agent
abbrev pub heard_by : ℕ → ℕ → Saying → Bool
heard_by id effect s = (s.target == id) && (s.field == effect)

-- where all agents of a scope are held, what passes is said over the owner's list as over the world; else nothing that passes is said
abbrev Heard : (Saying → Bool) → Bool → Tie
Heard to true p f q g = filter to q ≡ filter to p
Heard to false p f q g = filter to q ≡ []

heard_tie : (to : Saying → Bool) (all : Bool) → IsTie (Heard to all)
heard_tie to true = record { none = refl; join = λ p f q g pp ff qq gg h k. filter-append to q qq ∙ ap₂ (λ x y. x ++ y) h k ∙ sym (filter-append to p pp) }
heard_tie to false = record { none = refl; join = λ p f q g pp ff qq gg h k. filter-append to q qq ∙ ap₂ (λ x y. x ++ y) h k }

heard_nothing : (to : Saying → Bool) (all : Bool) (f : List Fault) → Heard to all [] f [] f
heard_nothing to true f = refl
heard_nothing to false f = refl

heard_weaker : (to : Saying → Bool) (all : Bool) (q : List Saying) (g : List Fault) → Heard to false [] [] q g → Heard to all [] [] q g
heard_weaker to true q g h = h
heard_weaker to false q g h = h

heard_one : (to : Saying → Bool) (all : Bool) (s : Saying) → (to s ≡ true → all ≡ true) → Heard to all (s ∷ []) [] (s ∷ []) []
heard_one to true s h = refl
heard_one to false s h = by_test (to s) refl h
  where
    by_test : (c : Bool) → to s ≡ c → (c ≡ true → false ≡ true) → filter to (s ∷ []) ≡ []
    by_test true e h = absurd (let no = h refl in cc)
    by_test false e h = ap (λ c. cond c (s ∷ []) []) e

module _ (m : Program) (w : List Agent) (held : Agent → Bool) (deep : Bool) (a : Agent) (id effect : ℕ) (r : Reaches m w held deep a id) where
  abbrev to : Saying → Bool
  to = heard_by id effect

  abbrev Hears : Depth → Bool → List Stmt → Type 0
  Hears k all s = Sim (Heard to all) (heard_tie to all) m m (filter held w) w (At m w held a k all) (at_bound m w held a k all) s s

  hears_loop : (k inner : Depth) → Enters m w held a k inner → (class here : ℕ) (body s : List Stmt) (all : Bool) → ((each : Bool) → Hears inner each body) → Hears k all s → Hears k all (Foreach class body here ∷ s)
  hears_loop k inner enters class here body s all each rest =
      sim_loop (Heard to all) (heard_tie to all) m m (filter held w) w (At m w held a k all) (at_bound m w held a k all) class here body s body s
      (λ scope at. loop_over (Heard to) (heard_tie to) (heard_weaker to) (λ all p f q g h. h) m w held a k inner enters all scope at class body each) rest

  hears_say : (k : Depth) (x : Who) (field : ℕ) (e : Expr) (here : ℕ) (s : List Stmt) (all : Bool) → ((scope : Scope) → Stands m w a k scope → Hits m w held deep a id r scope x)
      → ((scope : Scope) (p : Agent) → loop_agent scope x ≡ Some p → agent_of scope x ≡ p) → Hears k all s → Hears k all (Assign x field e here ∷ s)
  hears_say k x field e here s all hits named rest =
      sim_say (Heard to all) (heard_tie to all) m m (filter held w) w (At m w held a k all) (at_bound m w held a k all) x field e here s s (λ scope at stop is. heard_nothing to all (query_fault scope stop ∷ []))
      (λ scope at v. heard_one to all _ (λ passes. sym at.1 ∙ hits scope at.0 (λ p is.
      ap (λ y. y.id) (sym (named scope p is)) ∙ same_number (agent_of scope x).id id (and_parts ((agent_of scope x).id == id) (field == effect) passes).0))) rest

  hears : (k : Depth) (s : List Stmt) → Outward deep k s → (all : Bool) → Hears k all s
  hears _ _ (o.none k) all = sim_none (Heard to all) (heard_tie to all) m m (filter held w) w (At m w held a k all) (at_bound m w held a k all)
  hears _ _ (o.const k n e s h) all =
      sim_const (Heard to all) (heard_tie to all) m m (filter held w) w (At m w held a k all) (at_bound m w held a k all) n e s s (λ scope at stop is. heard_nothing to all (query_fault scope stop ∷ [])) (hears k s h all)
  hears _ _ (o.cond k c x y s hx hy h) all =
      sim_if (Heard to all) (heard_tie to all) m m (filter held w) w (At m w held a k all) (at_bound m w held a k all) c x y s x y s (λ scope at stop is. heard_nothing to all (query_fault scope stop ∷ []))
      (hears k x hx all) (hears k y hy all) (hears k s h all)
  hears _ _ (o.loop class here body s hb h) all = hears_loop o.top o.middle (enters_first m w held a) class here body s all (hears o.middle body hb) (hears o.top s h all)
  hears _ _ (o.inner class here body s hb h) all = hears_loop o.middle o.deepest (enters_second m w held a) class here body s all (hears o.deepest body hb) (hears o.middle s h all)
  hears _ _ (o.near field e here s h) all = hears_say o.middle who.Outer field e here s all (near_hit m w held deep a id r) (λ scope p is. ap (λ q. unwrap_or q scope.this) is) (hears o.middle s h all)
  hears _ _ (o.far field e here s d h) all = hears_say o.deepest who.Outer field e here s all (far_hit m w held deep a id r d) (λ scope p is. ap (λ q. unwrap_or q scope.this) is) (hears o.deepest s h all)
  hears _ _ (o.farthest field e here s d h) all = hears_say o.deepest who.Inner field e here s all (farthest_hit m w held deep a id r d) (λ scope p is. ap (λ q. unwrap_or q scope.this) is) (hears o.deepest s h all)

pub query_outward : (m : Program) → LawfulProgram m → (a : Agent) (class : Class) → class_of m a ≡ Some class → Outward (says_in_inner_loops m) o.top (inverse_query class.query)
query_outward m lawful a class e =
    let here = lawful.classes_are_lawful a.class class e in
    let (last, formed) = is_there (in_turn (map scope_after class.query) (query_scope m a.class)) here.query_is_typed in
    outward (says_in_inner_loops m) class.query (plain class.query) o.top (query_scope m a.class) last (record { outer = refl; inner_one = refl }) formed
    (λ y. any_passes_from_place (λ (c : Class). list_any (λ s. says_within s false false) c.query) m.classes a.class class e y)

module _ (m : Program) (seed tick : ℕ) (w : List Agent) (area : Area) (held : Agent → Bool) (lawful : LawfulProgram m) (rises : RisesById w) (holds : HoldsNear m area (range_of m true) w held)
    (b : Agent) (wb : Contains w b) (stands : is_in m area b ≡ true) where
  pub reaches_it : (a : Agent) → Contains w a → Reaches m w held (says_in_inner_loops m) a b.id
  reaches_it a wa = record {
    one = λ p wp sp is.
        let same = one_agent w (rising_from (ids w) rises) p b wp wb is in
        let near = seer_near m lawful area a b (pos 0) (grind arith) (ap (sees m a) (sym same) ∙ sp) stands in (
          holds a wa (nearer m area a _ _ (range_reaches m lawful) near),
          ap held same ∙ holds b wb (nearer m area b _ _ (no_farther m lawful) stands),
        );
    three = λ deep p q wp sp wq sq is.
        let same = one_agent w (rising_from (ids w) rises) p b wp wb is in
        let near = seer_near m lawful area a b (pos 0) (grind arith) (ap (sees m a) (sym same) ∙ sp) stands in
        holds q wq (nearer m area q _ _ (doubled_so (says_in_inner_loops m) (greatest_visible m) deep)
        (seen_near m lawful area a q (pos 0 +ℤ greatest_visible m) (zero_and (greatest_visible m) (greatest_in_range m lawful).0) sq near));
  }

  pub opening_at : (query : List Stmt) (a : Agent) → At m w held a o.top (held a) (opening_scope seed tick query [] a)
  opening_at query a = (alone (opening_scope seed tick query [] a) refl refl refl, and_true (held a))

  -- the inverse program says the same to each effect of an agent of the area
  module _ (effect : ℕ) where
    one_heard : (a : Agent) → Contains w a → (class : Option Class) → class_of m a ≡ class
        → let d = part_deed inverse_query m seed tick (filter held w) a class in let e = part_deed inverse_query m seed tick w a class in Heard (heard_by b.id effect) (held a) d.said d.faults e.said e.faults
    one_heard a wa None e = heard_nothing (heard_by b.id effect) (held a) []
    one_heard a wa (Some class) e =
        (hears m w held (says_in_inner_loops m) a b.id effect (reaches_it a wa) o.top (inverse_query class.query) (query_outward m lawful a class e) (held a)
        (opening_scope seed tick class.query [] a) (opening_at class.query a)).tie

    heard_of : (a : Agent) → Contains w a → (c : Bool) → held a ≡ c
        → let d = query_of (inverse_program m) seed tick (filter held w) a in let e = query_of (inverse_program m) seed tick w a in Heard (heard_by b.id effect) c d.said d.faults e.said e.faults
    heard_of a wa c is =
        subst (λ c. let d = query_of (inverse_program m) seed tick (filter held w) a in let e = query_of (inverse_program m) seed tick w a in Heard (heard_by b.id effect) c d.said d.faults e.said e.faults) is
        (rw (part_of inverse_query inverse_is_part m seed tick (filter held w) a, part_of inverse_query inverse_is_part m seed tick w a) (one_heard a wa (class_of m a) refl))

    pub inverse_said_held : said_to b.id effect (said_in (inverse_program m) seed tick (filter held w)) ≡ said_to b.id effect (said_in (inverse_program m) seed tick w)
    inverse_said_held =
        ap (map (λ s. s.value)) (sym (over_all (Heard (heard_by b.id effect) true) (heard_tie (heard_by b.id effect) true)
        (query_of (inverse_program m) seed tick (filter held w)) (query_of (inverse_program m) seed tick w) held w (λ a wa ha. heard_of a wa true ha) (λ a wa ha. heard_of a wa false ha)))
