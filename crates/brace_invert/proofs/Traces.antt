-- Where a block faults; and that a part of it faults as the block does, or behind a fault of the block.
use Rattle.std.proofs.Common.{◌≡◌, ◌∙◌, refl, sym, ap, subst, ℕ, List, [], ◌∷◌, ◌++◌, flat_map, true, false, Some, ⊎_elim, inl, inr}
use Rattle.std.specs.List.{Contains}
use Rattle.std.proofs.lemmas.List.{append-nil}
use Rattle.std.proofs.lemmas.List.Folds.{flat_map-map}
use Rattle.std.proofs.lemmas.List.Elements.{Contains-append_left, Contains-append_right, Contains-append_cases}
use Rattle.brace_model.specs.declared.program.Expr.{Expr}
use Rattle.brace_model.specs.declared.program.Stmt.{Stmt}
use Rattle.brace_model.specs.declared.program.Stmt.TheVariants.{Const, If, Foreach, Assign}
use Rattle.brace_model.specs.declared.program.Program.{Program}
use Rattle.brace_model.specs.declared.fault.Fault.{Fault}
use Rattle.brace_model.specs.declared.fault.Phase.TheVariants.{Query}
use Rattle.brace_model.specs.declared.world.Agent.{Agent}
use Rattle.brace_model.specs.Value.{Scope, value}
use Rattle.brace_model.specs.Query.{Deed, silent, halted, query_fault, followed_by, inside, seen_by, statement}
use Rattle.brace_model.specs.Sites.{sites_of, sites_in, constant_numbers}
use Rattle.brace_model.specs.Typing.{Names, type_of}
use Rattle.brace_model.proofs.ValueEquations.{statement-If, statement-Foreach}
use Rattle.brace_model.proofs.LawEquations.{sites_in-Const, sites_in-Assign}
use Rattle.brace_invert.specs.Inversion.{ComesAfter, IsForeseen}
use Rattle.brace_invert.proofs.Sublists.{Rising, rising-left, rising-right, rising-between, sub-Contains}
use Rattle.brace_model.proofs.Blocks as b
use Rattle.brace_model.proofs.Blocks.{Plain, plain}
use Rattle.brace_invert.proofs.Pruned as pruned
use Rattle.brace_invert.proofs.Pruned.{Pruned}
use Rattle.brace_invert.proofs.Numbers.{sites-If, sites-Foreach, sites_kept}
use Rattle.brace_invert.proofs.Typed.{After, renamed, after_split, after_cons, formed_const, formed_if, formed_loop, formed_assign, part_formed}
use Rattle.brace_invert.proofs.Sites.{none_within, only_one, value_sited}
use Rattle.brace_invert.proofs.Runs.{by_condition, Goes, goes_itself, goes_run, head_if, head_loop, head_away, head_say, places_run}
use Rattle.brace_model.proofs.Deeds.{run, goes_to, stops_at, by_stop, never_both, grown, halts_one, inside_either}
use Rattle.brace_model.proofs.Simulation.{Tie, IsTie, Sim, Stops, sim_none, sim_const, sim_if, sim_loop, sim_say, over_same}
use Rattle.brace_model.specs.declared.program.Ty.{Ty}

-- a fault of a query in a scope, at one of these sites
pub record IsAt (scope : Scope) (sites : List ℕ) (g : Fault) : Type 0 where
  pub tick : g.tick ≡ scope.tick
  pub phase : g.phase ≡ Query
  pub agent : g.agent ≡ scope.this.id
  pub site : Contains sites g.site

-- faults of one agent at these sites
module _ (m : Program) (w : List Agent) (base : Scope) (all : List ℕ) where
  abbrev Found : Tie
  Found p f q g = (x : Fault) → Contains f x → IsAt base all x

  found_tie : IsTie Found
  found_tie = record {
    none = λ x h. none_within _ x h;
    join = λ p f q g pp ff qq gg h k x w. ⊎_elim (λ (y : Contains f x). h x y) (λ (y : Contains ff x). k x y) (Contains-append_cases f ff x w);
  }

  abbrev IsBased : Scope → Type 0
  IsBased scope = (scope.this ≡ base.this) × (scope.tick ≡ base.tick)

  abbrev AreSited : List ℕ → Type 0
  AreSited sites = (k : ℕ) → Contains sites k → Contains all k

  abbrev Finds : List Stmt → Type 0
  Finds s = Sim Found found_tie m m w w IsBased (λ scope n v at. at) s s

  finds_at : (e : Expr) (names : Names) (t : Ty) → type_of e names ≡ Some t → AreSited (sites_of e) → (scope : Scope) → IsBased scope → Stops Found found_tie scope (value e scope)
  finds_at e names t typed sited scope at stop is x h =
      only_one (IsAt base all) (query_fault scope stop) x (record { tick = at.1; phase = refl; agent = ap (λ a. a.id) at.0; site = sited stop.site (value_sited e names t typed scope stop is) }) h

  left_sited : (xs ys : List ℕ) → AreSited (xs ++ ys) → AreSited xs
  left_sited xs ys h k there = h k (Contains-append_left xs ys k there)

  right_sited : (xs ys : List ℕ) → AreSited (xs ++ ys) → AreSited ys
  right_sited xs ys h k there = h k (Contains-append_right xs ys k there)

  -- the faults of a well-formed block
  sited : (s : List Stmt) → Plain s → (names last : Names) → After s names last → AreSited (flat_map sites_in s) → Finds s
  sited _ b.none names last e at = sim_none Found found_tie m m w w IsBased (λ scope n v at. at)
  sited _ (b.const n x s h) names last e at =
      let f = formed_const n x s names last e in
      sim_const Found found_tie m m w w IsBased (λ scope n v at. at) n x s s (finds_at x names f.type f.typed (subst AreSited (sites_in-Const n x) (left_sited (sites_in (Const n x)) _ at)))
      (sited s h _ last f.rest (right_sited (sites_in (Const n x)) _ at))
  sited _ (b.cond c a d s ha hd h) names last e at =
      let f = formed_if c a d s names last e in
      let here = subst AreSited (sites-If c a d) (left_sited (sites_in (If c a d)) _ at) in
      let blocks = right_sited (sites_of c) _ here in
      sim_if Found found_tie m m w w IsBased (λ scope n v at. at) c a d s a d s (finds_at c names _ f.condition (left_sited (sites_of c) _ here))
      (sited a ha names f.first.0 f.first.1 (left_sited (flat_map sites_in a) _ blocks)) (sited d hd names f.second.0 f.second.1 (right_sited (flat_map sites_in a) _ blocks))
      (sited s h names last f.rest (right_sited (sites_in (If c a d)) _ at))
  sited _ (b.loop class here body s hb h) names last e at =
      let f = formed_loop class body here s names last e in
      let inner = sited body hb f.inside f.body_is_formed.0 f.body_is_formed.1 (subst AreSited (sites-Foreach class body here) (left_sited (sites_in (Foreach class body here)) _ at)) in
      sim_loop Found found_tie m m w w IsBased (λ scope n v at. at) class here body s body s
      (λ scope is. over_same Found found_tie (λ x. run m w body (inside scope x)) (λ x. run m w body (inside scope x)) (seen_by m w scope.this class) (λ x there. (inner (inside scope x) (inside_either IsBased scope x is is)).tie))
      (sited s h names last f.rest (right_sited (sites_in (Foreach class body here)) _ at))
  sited _ (b.say who effect x here s h) names last e at =
      let f = formed_assign who effect x here s names last e in
      sim_say Found found_tie m m w w IsBased (λ scope n v at. at) who effect x here s s
      (finds_at x names f.type f.typed (subst AreSited (sites_in-Assign who effect x here) (left_sited (sites_in (Assign who effect x here)) _ at)))
      (λ scope is v y h. none_within _ y h) (sited s h names last f.rest (right_sited (sites_in (Assign who effect x here)) _ at))

pub sited_run : (m : Program) (w : List Agent) (s : List Stmt) (names last : Names) → After s names last → (scope : Scope) (g : Fault) → Contains (run m w s scope).faults g → IsAt scope (flat_map sites_in s) g
sited_run m w s names last e scope = (sited m w scope (flat_map sites_in s) s (plain s) names last e (λ k h. h) scope (refl, refl)).tie

sited_one : (m : Program) (w : List Agent) (x : Stmt) (s : List Stmt) (names last : Names) → After (x ∷ s) names last → (scope : Scope) (g : Fault) → Contains (statement m w x scope).faults g → IsAt scope (sites_in x) g
sited_one m w x s names last e scope g h =
    let (mid, first, rest) = after_split x s names last e in
    subst (λ xs. IsAt scope xs g) (append-nil (sites_in x))
    (sited_run m w (x ∷ []) names mid (after_cons x [] names mid mid first refl) scope g (grown (statement m w x scope) (run m w []) g h))

-- a part finds what its block finds, or what comes after it
abbrev pub Foretold : List Fault → List Fault → Type 0
Foretold faults parts = (g : Fault) → Contains parts g → IsForeseen faults g

foreseen_more : (p q : List Fault) (g : Fault) → ((x : Fault) → Contains p x → Contains q x) → IsForeseen p g → IsForeseen q g
foreseen_more p q g more h = ⊎_elim (λ (x : Contains p g). inl (more g x)) (λ (x : (f : Fault) × Contains p f × ComesAfter f g). inr (x.0, more x.0 x.1, x.2)) h

foretold_append : (p q fp fq : List Fault) → Foretold p fp → Foretold q fq → Foretold (p ++ q) (fp ++ fq)
foretold_append p q fp fq h k g w = ⊎_elim (λ (x : Contains fp g). foreseen_more p (p ++ q) g (Contains-append_left p q) (h g x))
    (λ (x : Contains fq g). foreseen_more q (p ++ q) g (Contains-append_right p q) (k g x)) (Contains-append_cases fp fq g w)

foretold_itself : (p : List Fault) → Foretold p p
foretold_itself p g w = inl w

foretold_nothing : (p : List Fault) → Foretold p []
foretold_nothing p g w = none_within _ g w

-- what a part goes on to find behind the fault that cut its block short
abbrev Behind : Deed → Deed → (Scope → Deed) → Type 0
Behind d p np = d.stopped ≡ true → p.stopped ≡ false → Foretold d.faults (np p.scope).faults

foretold_then : (d p : Deed) (nd np : Scope → Deed) → Foretold d.faults p.faults → Goes d p → Behind d p np → ((scope : Scope) → Foretold (nd scope).faults (np scope).faults)
    → Foretold (followed_by d nd).faults (followed_by p np).faults
foretold_then d p nd np h goes behind next = by_stop (Foretold (followed_by d nd).faults (followed_by p np).faults) d
    (λ stopped. rw (stops_at d nd stopped) (by_stop (Foretold d.faults (followed_by p np).faults) p
    (λ ended. rw (stops_at p np ended) h)
    (λ on. rw (goes_to p np on) (λ g w. ⊎_elim (λ (x : Contains p.faults g). h g x) (λ (x : Contains (np p.scope).faults g). behind stopped on g x) (Contains-append_cases p.faults (np p.scope).faults g w)))))
    (λ on. let too = goes.on on in let same = goes.scope on in
    rw (goes_to d nd on, goes_to p np too, same) (foretold_append d.faults (nd d.scope).faults p.faults (np d.scope).faults h (next d.scope)))

pub foretold_over : {A : Type 0} (f g : A → Deed) → ((a : A) → Foretold (f a).faults (g a).faults) → (agents : List A) → Foretold (flat_map (λ a. (f a).faults) agents) (flat_map (λ a. (g a).faults) agents)
foretold_over f g h [] = foretold_itself []
foretold_over f g h (a ∷ agents) = foretold_append (f a).faults _ (g a).faults _ (h a) (foretold_over f g h agents)

module _ (m : Program) (w : List Agent) where
  -- a statement that both have: a deed that stopped is never one that goes on
  foretold_same : (x : Stmt) (s p : List Stmt) (scope : Scope) → ((scope : Scope) → Foretold (run m w s scope).faults (run m w p scope).faults) → Foretold (run m w (x ∷ s) scope).faults (run m w (x ∷ p) scope).faults
  foretold_same x s p scope next =
      let d = statement m w x scope in foretold_then d d (run m w s) (run m w p) (foretold_itself d.faults) (goes_itself d) (λ stopped on. never_both _ d stopped on) next

  -- the faults of a part are sited, since it is well formed
  part_sited : (s p : List Stmt) → Pruned s p → (names last : Names) → After s names last → (scope : Scope) (g : Fault) → Contains (run m w p scope).faults g → IsAt scope (flat_map sites_in p) g
  part_sited s p h names last e scope = sited_run m w p (renamed (λ q. q) names) (renamed (λ q. q) last) (part_formed (λ q. q) s p h names last e) scope

  -- where sites rise, what comes behind a statement is at a greater site
  behind_one : (x : Stmt) (s p : List Stmt) → Pruned s p → (names last : Names) → After (x ∷ s) names last → Rising (flat_map sites_in (x ∷ s)) → (scope : Scope) (d : Deed) → d.scope ≡ scope → Behind (statement m w x scope) d (run m w p)
  behind_one x s p h names last e rising scope d same stopped on g found =
      let (mid, first, rest) = after_split x s names last e in
      let (f, there) = halts_one m w x scope stopped in
      let here = sited_one m w x s names last e scope f there in
      let later = part_sited s p h mid last rest scope g (subst (λ s. Contains (run m w p s).faults g) same found) in
      inr (
        f,
        there,
        record {
          tick = later.tick ∙ sym here.tick;
          phase = later.phase ∙ sym here.phase;
          agent = later.agent ∙ sym here.agent;
          site = rising-between (sites_in x) (flat_map sites_in s) f.site g.site rising here.site (sub-Contains _ _ g.site (sites_kept s p h) later.site);
        },
      )

  foretold_if : (c : Expr) (a d pa pd : List Stmt) (scope : Scope) → Foretold (run m w a scope).faults (run m w pa scope).faults → Foretold (run m w d scope).faults (run m w pd scope).faults
      → Foretold (statement m w (If c a d) scope).faults (statement m w (If c pa pd) scope).faults
  foretold_if c a d pa pd scope ha hd = rw (statement-If m w c a d scope, statement-If m w c pa pd scope)
      (by_condition (λ f. Foretold (f (run m w a scope) (run m w d scope)).faults (f (run m w pa scope) (run m w pd scope)).faults) scope (value c scope) ha hd (λ stop. foretold_itself (halted scope stop).faults))

  foretold_loop : (class at : ℕ) (body pb : List Stmt) (scope : Scope) → ((s : Scope) → Foretold (run m w body s).faults (run m w pb s).faults)
      → Foretold (statement m w (Foreach class body at) scope).faults (statement m w (Foreach class pb at) scope).faults
  foretold_loop class at body pb scope h = rw (statement-Foreach m w class body at scope, statement-Foreach m w class pb at scope)
      (simp flat_map-map (foretold_over (λ a. run m w body (inside scope a)) (λ a. run m w pb (inside scope a)) (λ a. h (inside scope a)) (seen_by m w scope.this class)))

  -- the scope that a statement other than a constant leaves
  if_scope : (c : Expr) (a d : List Stmt) (scope : Scope) → (statement m w (If c a d) scope).scope ≡ scope
  if_scope c a d scope = rw (statement-If m w c a d scope) (by_condition (λ f. (f (run m w a scope) (run m w d scope)).scope ≡ scope) scope (value c scope) refl refl (λ stop. refl))

  loop_scope : (class at : ℕ) (body : List Stmt) (scope : Scope) → (statement m w (Foreach class body at) scope).scope ≡ scope
  loop_scope class at body scope = ap (λ x. x.scope) (statement-Foreach m w class body at scope)

  pub foretold_run : (s p : List Stmt) → Pruned s p → (names last : Names) → After s names last → Rising (flat_map sites_in s) → (scope : Scope) → Foretold (run m w s scope).faults (run m w p scope).faults
  foretold_run _ _ pruned.none names last e r scope = foretold_itself []
  foretold_run _ _ (pruned.const n x s p h) names last e r scope =
      foretold_same (Const n x) s p scope (foretold_run s p h _ last (formed_const n x s names last e).rest (rising-right (sites_in (Const n x)) _ r))
  foretold_run _ _ (pruned.cond c a pa d pd s p ha hd h) names last e r scope =
      let f = formed_if c a d s names last e in
      let blocks = rising-right (sites_of c) (flat_map sites_in a ++ flat_map sites_in d) (subst Rising (sites-If c a d) (rising-left (sites_in (If c a d)) (flat_map sites_in s) r)) in
      foretold_then (statement m w (If c a d) scope) (statement m w (If c pa pd) scope) (run m w s) (run m w p)
      (foretold_if c a d pa pd scope (foretold_run a pa ha names f.first.0 f.first.1 (rising-left (flat_map sites_in a) _ blocks) scope)
      (foretold_run d pd hd names f.second.0 f.second.1 (rising-right (flat_map sites_in a) _ blocks) scope))
      (head_if m w scope c a d pa pd (goes_run m w a pa ha scope) (goes_run m w d pd hd scope))
      (behind_one (If c a d) s p h names last e r scope (statement m w (If c pa pd) scope) (if_scope c pa pd scope)) (foretold_run s p h names last f.rest (rising-right (sites_in (If c a d)) _ r))
  foretold_run _ _ (pruned.loop class at body pb s p hb h) names last e r scope =
      let f = formed_loop class body at s names last e in
      foretold_then (statement m w (Foreach class body at) scope) (statement m w (Foreach class pb at) scope) (run m w s) (run m w p)
      (foretold_loop class at body pb scope (foretold_run body pb hb f.inside f.body_is_formed.0 f.body_is_formed.1 (subst Rising (sites-Foreach class body at) (rising-left (sites_in (Foreach class body at)) _ r))))
      (head_loop m w scope class at body pb)
      (behind_one (Foreach class body at) s p h names last e r scope (statement m w (Foreach class pb at) scope) (loop_scope class at pb scope)) (foretold_run s p h names last f.rest (rising-right (sites_in (Foreach class body at)) _ r))
  foretold_run _ _ (pruned.away class at body s p h) names last e r scope =
      rw (places_run m w (flat_map constant_numbers body) p scope)
      (foretold_then (statement m w (Foreach class body at) scope) (silent scope) (run m w s) (run m w p) (foretold_nothing _) (head_away m w scope class at body)
      (behind_one (Foreach class body at) s p h names last e r scope (silent scope) refl)
      (foretold_run s p h names last (formed_loop class body at s names last e).rest (rising-right (sites_in (Foreach class body at)) _ r)))
  foretold_run _ _ (pruned.kept who effect x at s p h) names last e r scope =
      foretold_same (Assign who effect x at) s p scope (foretold_run s p h names last (formed_assign who effect x at s names last e).rest (rising-right (sites_in (Assign who effect x at)) _ r))
  foretold_run _ _ (pruned.left_out who effect x at s p h) names last e r scope =
      foretold_then (statement m w (Assign who effect x at) scope) (silent scope) (run m w s) (run m w p) (foretold_nothing _) (head_say m w scope who effect x at)
      (behind_one (Assign who effect x at) s p h names last e r scope (silent scope) refl)
      (foretold_run s p h names last (formed_assign who effect x at s names last e).rest (rising-right (sites_in (Assign who effect x at)) _ r))
