-- To whom an agent's query says values: to the agent itself, and to those that it sees.
use Rattle.std.proofs.Common.{◌≡◌, ◌∙◌, refl, sym, ap, subst, ℕ, List, [], ◌++◌, true, false, Option, Some, None}
use Rattle.std.specs.Prelude.{◌==◌, ◌&&◌, is_none, if◌then◌else◌}
use Rattle.std.specs.List.{All, Contains}
use Rattle.std.proofs.lemmas.List.Elements.{All-nil, All-cons, All-append}
use Rattle.brace_model.specs.declared.program.Who.{Who}
use Rattle.brace_model.specs.declared.program.Who.TheVariants.{This, Outer, Inner}
use Rattle.brace_model.specs.declared.program.Stmt.{Stmt}
use Rattle.brace_model.specs.declared.program.Class.{Class}
use Rattle.brace_model.specs.declared.program.Program.{Program}
use Rattle.brace_model.specs.declared.world.Agent.{Agent}
use Rattle.brace_model.specs.World.{class_of, sees}
use Rattle.brace_model.specs.Value.{Scope, agent_of}
use Rattle.brace_model.specs.Query.{inside, opening_scope, query_in, query_of}
use Rattle.brace_model.proofs.Blocks as b
use Rattle.brace_model.proofs.Blocks.{Plain, plain, Allowed, free}
use Rattle.brace_model.proofs.Deeds.{run}
use Rattle.brace_model.proofs.Simulation.{Tie, IsTie, simulation, over_seen}
use Rattle.brace_invert.specs.Split.{forward_query, forward_program}
use Rattle.brace_invert.proofs.PartEquations.{forward_of-Const, forward_of-If, forward_of-Foreach, forward_of-Assign}
use Rattle.brace_invert.proofs.LawfulParts.{forward_is_part}
use Rattle.brace_invert.proofs.Inverting.{part_deed, part_of}
use Rattle.std.proofs.lemmas.Bool.{and_parts}

-- an agent of a world whom another sees has this id
pub record Sight (m : Program) (w : List Agent) (a : Agent) (id : ℕ) : Type 0 where
  pub other : Agent
  pub within : Contains w other
  pub seen : sees m a other ≡ true
  pub same : other.id ≡ id

-- the forward part of a block assigns to `this` alone
abbrev Forward : List Stmt → Type 0
Forward = Allowed (λ x. x ≡ This)

forward_allowed : (s : List Stmt) → Plain s → Forward (forward_query s)
forward_allowed _ b.none = b.none
forward_allowed _ (b.const n e s h) = subst (λ x. Forward (x ++ forward_query s)) (sym (forward_of-Const n e)) (b.const n e (forward_query s) (forward_allowed s h))
forward_allowed _ (b.cond c x y s hx hy h) = subst (λ z. Forward (z ++ forward_query s)) (sym (forward_of-If c x y)) (b.cond c (forward_query x) (forward_query y) (forward_query s) (forward_allowed x hx) (forward_allowed y hy) (forward_allowed s h))
forward_allowed _ (b.loop class at body s hb h) = subst (λ z. Forward (z ++ forward_query s)) (sym (forward_of-Foreach class body at)) (b.loop class at (forward_query body) (forward_query s) (forward_allowed body hb) (forward_allowed s h))
forward_allowed _ (b.say This effect e at s h) = subst (λ z. Forward (z ++ forward_query s)) (sym (forward_of-Assign This effect e at)) (b.say This effect e at (forward_query s) refl (forward_allowed s h))
forward_allowed _ (b.say Outer effect e at s h) = subst (λ z. Forward (z ++ forward_query s)) (sym (forward_of-Assign Outer effect e at)) (forward_allowed s h)
forward_allowed _ (b.say Inner effect e at s h) = subst (λ z. Forward (z ++ forward_query s)) (sym (forward_of-Assign Inner effect e at)) (forward_allowed s h)

module _ (m : Program) (w : List Agent) (a : Agent) (K : ℕ → Type 0) (own : K a.id) (near : (x : Agent) → Contains w x → sees m a x ≡ true → K x.id) where
  -- the agents of a scope are the one that asks, and known ones
  pub record Good (scope : Scope) : Type 0 where
    pub this : scope.this ≡ a
    pub outer : (x : Agent) → scope.outer ≡ Some x → K x.id
    pub inner : (x : Agent) → scope.inner ≡ Some x → K x.id

  named : (scope : Scope) (x : Who) → Good scope → K (agent_of scope x).id
  named scope This g = subst (λ x. K x.id) (sym g.this) own
  named scope Outer g = (elim scope.outer as (λ o. ((x : Agent) → o ≡ Some x → K x.id) → K (agent_of (record scope { outer = o }) Outer).id) [
    | None ↦ λ h. subst (λ x. K x.id) (sym g.this) own
    | Some x ↦ λ h. h x refl
  ]) g.outer
  named scope Inner g = (elim scope.inner as (λ o. ((x : Agent) → o ≡ Some x → K x.id) → K (agent_of (record scope { inner = o }) Inner).id) [
    | None ↦ λ h. subst (λ x. K x.id) (sym g.this) own
    | Some x ↦ λ h. h x refl
  ]) g.inner

  only : (x p : Agent) → K x.id → Some x ≡ Some p → K p.id
  only x p k e = let same : x ≡ p = cc in subst (λ y. K y.id) same k

  good_inside : (scope : Scope) (x : Agent) → Good scope → K x.id → Good (inside scope x)
  good_inside scope x g k = elim (is_none scope.outer) as (λ c. Good (if c then record scope { outer = Some x } else record scope { inner = Some x })) [
    | true ↦ record { this = g.this; outer = λ p e. only x p k e; inner = g.inner }
    | false ↦ record { this = g.this; outer = g.outer; inner = λ p e. only x p k e }
  ]

  -- what a block says, where each that it may name in an assignment is one of these
  module _ (P : Who → Type 0) (T : ℕ → Type 0) (to : (scope : Scope) (x : Who) → P x → Good scope → T (agent_of scope x).id) where
    abbrev Says : Tie
    Says p f q g = All (λ s. T s.target) p

    says_tie : IsTie Says
    says_tie = record { none = All-nil (λ s. T s.target); join = λ p f q g pp ff qq gg h k. All-append (λ s. T s.target) p pp h k }

    says_run : (s : List Stmt) → Allowed P s → (scope : Scope) → Good scope → All (λ s. T s.target) (run m w s scope).said
    says_run s h scope good =
        (simulation Says says_tie m m w w Good (λ scope n v g. record { this = g.this; outer = g.outer; inner = g.inner }) P (λ e scope g stop is. All-nil (λ s. T s.target))
        (λ x may effect scope g v. All-cons (λ s. T s.target) (record { target = (agent_of scope x).id; field = effect; value = v }) [] (to scope x may g) (All-nil (λ s. T s.target)))
        (λ scope class f e g each. over_seen Says says_tie f e (λ y. (y.class == class) && sees m scope.this y) w (λ x within passes.
        (each x (good_inside scope x g (near x within (ap (λ y. sees m y x) (sym g.this) ∙ (and_parts (x.class == class) (sees m scope.this x) passes).1)))).tie))
        s h scope good).tie

  opening_good : (seed tick : ℕ) (query : List Stmt) → Good (opening_scope seed tick query [] a)
  opening_good seed tick query = record { this = refl; outer = λ x e. absurd (cc); inner = λ x e. absurd (cc) }

  says_in : (seed tick : ℕ) (class : Option Class) → All (λ s. K s.target) (query_in m seed tick w a class).said
  says_in seed tick None = All-nil (λ s. K s.target)
  says_in seed tick (Some class) =
      says_run (λ x. Unit {0}) K (λ scope x may g. named scope x g) class.query (free class.query) (opening_scope seed tick class.query [] a) (opening_good seed tick class.query)

  -- what an agent's query says it says to the agent itself and to those that it sees
  pub says_of : (seed tick : ℕ) → All (λ s. K s.target) (query_of m seed tick w a).said
  says_of seed tick = says_in seed tick (class_of m a)

-- what the forward query of an agent says it says to the agent itself
abbrev Own : Agent → ℕ → Type 0
Own a id = a.id ≡ id

forward_in : (m : Program) (w : List Agent) (a : Agent) (seed tick : ℕ) (class : Option Class) → All (λ s. Own a s.target) (part_deed forward_query m seed tick w a class).said
forward_in m w a seed tick None = All-nil (λ s. Own a s.target)
forward_in m w a seed tick (Some class) =
    says_run m w a (λ id. Unit {0}) tt (λ x h g. tt) (λ x. x ≡ This) (Own a)
    (λ scope x is g. ap (λ y. y.id) (sym g.this) ∙ ap (λ y. (agent_of scope y).id) (sym is))
    (forward_query class.query) (forward_allowed class.query (plain class.query)) (opening_scope seed tick class.query [] a) (opening_good m w a (λ id. Unit {0}) tt (λ x h g. tt) seed tick class.query)

pub forward_says : (m : Program) (w : List Agent) (a : Agent) (seed tick : ℕ) → All (λ s. Own a s.target) (query_of (forward_program m) seed tick w a).said
forward_says m w a seed tick =
    subst (λ d. All (λ s. Own a s.target) d.said) (sym (part_of forward_query forward_is_part m seed tick w a)) (forward_in m w a seed tick (class_of m a))
