-- A fault of the inverse program at an assignment to an agent of the area is one over the owner's list.
use Rattle.std.proofs.Common.{◌≡◌, ◌∙◌, refl, sym, ap, ap₂, subst, ℕ, List, [], ◌∷◌, ◌++◌, map, filter, flat_map, Bool, true, false, Option, Some, None, arith, ⊎_elim}
use Rattle.std.specs.Prelude.{◌==◌, if◌then◌else◌, option_map}
use Rattle.std.specs.List.{Contains}
use Rattle.std.proofs.lemmas.List.{append-nil}
use Rattle.std.proofs.lemmas.List.Elements.{Contains-append_left, Contains-append_right, Contains-append_cases}
use Rattle.brace_num.specs.declared.kinds.Area.{Area}
use Rattle.brace_model.specs.declared.program.Who.{Who}
use Rattle.brace_model.specs.declared.program.Who.TheVariants as who
use Rattle.brace_model.specs.declared.program.Ty.{Ty}
use Rattle.brace_model.specs.declared.program.Expr.{Expr}
use Rattle.brace_model.specs.declared.program.Stmt.{Stmt}
use Rattle.brace_model.specs.declared.program.Stmt.TheVariants.{Const, If, Foreach, Assign}
use Rattle.brace_model.specs.declared.program.Class.{Class}
use Rattle.brace_model.specs.declared.program.Program.{Program}
use Rattle.brace_model.specs.declared.fault.Fault.{Fault}
use Rattle.brace_model.specs.declared.fault.Stop.{Stop}
use Rattle.brace_model.specs.declared.world.Agent.{Agent}
use Rattle.brace_model.specs.World.{RisesById, ids, class_of}
use Rattle.brace_model.specs.Value.{Scope, value}
use Rattle.brace_model.specs.Query.{query_fault, opening_scope, query_of, query_faults}
use Rattle.brace_model.specs.Sites.{sites_of, sites_in}
use Rattle.brace_model.specs.Typing.{Names, type_of, in_turn, scope_after}
use Rattle.brace_model.specs.Lawful.{query_scope, LawfulProgram}
use Rattle.brace_model.proofs.Blocks as b
use Rattle.brace_model.proofs.Blocks.{Plain, plain}
use Rattle.brace_model.proofs.Folds.{fold-Const, fold-If, fold-Foreach, fold-Assign}
use Rattle.brace_model.proofs.LawEquations.{sites_in-Const, sites_in-Assign}
use Rattle.brace_model.proofs.Simulation.{Tie, IsTie, Sim, Stops, over_all, sim_none, sim_const, sim_if, sim_loop, sim_say}
use Rattle.brace_invert.specs.Split.{with_query, inverse_query, inverse_program}
use Rattle.brace_invert.specs.Range.{says_in_inner_loops, range_of}
use Rattle.brace_invert.specs.Held.{is_in, HoldsNear}
use Rattle.brace_invert.specs.Assigned.{is_one_of, targets_at_step, targets_at, id_in, IsAtAssignmentTo}
use Rattle.std.proofs.lemmas.List.Folds.{flat_map-map, Any-from_list_any}
use Rattle.std.proofs.lemmas.Bool.{eqb-true}
use Rattle.brace_invert.proofs.Numbers.{sites-If, sites-Foreach, sites_kept}
use Rattle.brace_invert.proofs.Typed.{After, formed_const, formed_if, formed_loop, formed_assign, renamed, part_formed, is_there}
use Rattle.brace_invert.proofs.Sites.{none_within, only_one, value_sited}
use Rattle.brace_invert.proofs.Sublists.{Rising, rising_from, rising-left, rising-right, rising-between, sub-Rising}
use Rattle.brace_invert.proofs.LawfulParts.{inverse_is_part}
use Rattle.brace_invert.proofs.Traces.{sited_run}
use Rattle.brace_invert.proofs.Inverting.{class_same, part_deed, part_of}
use Rattle.brace_invert.proofs.Outward as o
use Rattle.brace_invert.proofs.Outward.{Depth, Outward}
use Rattle.brace_invert.proofs.Heard.{Reaches, Hits, Stands, At, at_bound, Enters, enters_first, enters_second, loop_over, loop_agent, near_hit, far_hit, farthest_hit, one_agent, reaches_it, query_outward, opening_at}
use Rattle.std.proofs.lemmas.Option.{same_Some}

-- to whom statements of each kind say values at a site
targets-Const : (site n : ℕ) (e : Expr) → targets_at site (Const n e) ≡ []
targets-Const site n e = fold-Const (targets_at_step site) n e

targets-If : (site : ℕ) (c : Expr) (x y : List Stmt) → targets_at site (If c x y) ≡ flat_map (targets_at site) x ++ flat_map (targets_at site) y
targets-If site c x y =
    fold-If (targets_at_step site) c x y ∙ ap₂ (λ p q. p ++ q) (flat_map-map (λ z. z) (targets_at site) x) (flat_map-map (λ z. z) (targets_at site) y)

targets-Foreach : (site class : ℕ) (body : List Stmt) (at : ℕ) → targets_at site (Foreach class body at) ≡ flat_map (targets_at site) body
targets-Foreach site class body at = fold-Foreach (targets_at_step site) class body at ∙ flat_map-map (λ z. z) (targets_at site) body

targets-Assign : (site : ℕ) (x : Who) (effect : ℕ) (e : Expr) (at : ℕ) → targets_at site (Assign x effect e at) ≡ (if is_one_of (sites_of e) site then x ∷ [] else [])
targets-Assign site x effect e at = fold-Assign (targets_at_step site) x effect e at

at_site : (sites : List ℕ) (site : ℕ) → is_one_of sites site ≡ true → Contains sites site
at_site sites site e = let (k, x, low, is, same) = Any-from_list_any (λ s. s == site) sites e in subst (Contains sites) (eqb-true x site same) (k, low, is)

named_there : (site : ℕ) (sites : List ℕ) (x y : Who) (test : Bool) → is_one_of sites site ≡ test → Contains (if test then x ∷ [] else []) y → Contains sites site
named_there site sites x y true e w = at_site sites site e
named_there site sites x y false e w = none_within _ y w

-- who is named at a site is named where the site stands
named_sites : (site : ℕ) (s : List Stmt) → Plain s → (x : Who) → Contains (flat_map (targets_at site) s) x → Contains (flat_map sites_in s) site
named_sites site _ b.none x w = none_within _ x w
named_sites site _ (b.const n e s h) x w =
    Contains-append_right (sites_in (Const n e)) (flat_map sites_in s) site (named_sites site s h x (subst (λ t. Contains (t ++ flat_map (targets_at site) s) x) (targets-Const site n e) w))
named_sites site _ (b.cond c y z s hy hz h) x w =
    ⊎_elim (λ (v : Contains (targets_at site (If c y z)) x). Contains-append_left (sites_in (If c y z)) (flat_map sites_in s) site
    (subst (λ t. Contains t site) (sym (sites-If c y z)) (Contains-append_right (sites_of c) _ site
    (⊎_elim (λ (u : Contains (flat_map (targets_at site) y) x). Contains-append_left (flat_map sites_in y) (flat_map sites_in z) site (named_sites site y hy x u))
    (λ (u : Contains (flat_map (targets_at site) z) x). Contains-append_right (flat_map sites_in y) (flat_map sites_in z) site (named_sites site z hz x u))
    (Contains-append_cases (flat_map (targets_at site) y) (flat_map (targets_at site) z) x (subst (λ t. Contains t x) (targets-If site c y z) v))))))
    (λ (v : Contains (flat_map (targets_at site) s) x). Contains-append_right (sites_in (If c y z)) (flat_map sites_in s) site (named_sites site s h x v))
    (Contains-append_cases (targets_at site (If c y z)) (flat_map (targets_at site) s) x w)
named_sites site _ (b.loop class at body s hb h) x w =
    ⊎_elim (λ (v : Contains (targets_at site (Foreach class body at)) x). Contains-append_left (sites_in (Foreach class body at)) (flat_map sites_in s) site
    (subst (λ t. Contains t site) (sym (sites-Foreach class body at)) (named_sites site body hb x (subst (λ t. Contains t x) (targets-Foreach site class body at) v))))
    (λ (v : Contains (flat_map (targets_at site) s) x). Contains-append_right (sites_in (Foreach class body at)) (flat_map sites_in s) site (named_sites site s h x v))
    (Contains-append_cases (targets_at site (Foreach class body at)) (flat_map (targets_at site) s) x w)
named_sites site _ (b.say y effect e at s h) x w =
    ⊎_elim (λ (v : Contains (targets_at site (Assign y effect e at)) x). Contains-append_left (sites_in (Assign y effect e at)) (flat_map sites_in s) site
    (subst (λ t. Contains t site) (sym (sites_in-Assign y effect e at)) (named_there site (sites_of e) y x _ refl (subst (λ t. Contains t x) (targets-Assign site y effect e at) v))))
    (λ (v : Contains (flat_map (targets_at site) s) x). Contains-append_right (sites_in (Assign y effect e at)) (flat_map sites_in s) site (named_sites site s h x v))
    (Contains-append_cases (targets_at site (Assign y effect e at)) (flat_map (targets_at site) s) x w)

-- sites that rise, at one of which, if it is among them, a name is said a value
pub record Fits (site : ℕ) (x : Who) (sites : List ℕ) (targets : List Who) : Type 0 where
  pub rises : Rising sites
  pub named : Contains sites site → Contains targets x

apart : (P : Type 0) (xs ys : List ℕ) (site : ℕ) → Rising (xs ++ ys) → Contains xs site → Contains ys site → P
apart P xs ys site r left right = let less = rising-between xs ys site site r left right in absurd (omega (arith, less))

fits_left : (site : ℕ) (x : Who) (xs ys : List ℕ) (ts us : List Who) → (Contains us x → Contains ys site) → Fits site x (xs ++ ys) (ts ++ us) → Fits site x xs ts
fits_left site x xs ys ts us there h = record {
  rises = rising-left xs ys h.rises;
  named = λ here. ⊎_elim (λ (v : Contains ts x). v) (λ (v : Contains us x). apart _ xs ys site h.rises here (there v)) (Contains-append_cases ts us x (h.named (Contains-append_left xs ys site here)));
}

fits_right : (site : ℕ) (x : Who) (xs ys : List ℕ) (ts us : List Who) → (Contains ts x → Contains xs site) → Fits site x (xs ++ ys) (ts ++ us) → Fits site x ys us
fits_right site x xs ys ts us there h = record {
  rises = rising-right xs ys h.rises;
  named = λ here. ⊎_elim (λ (v : Contains ts x). apart _ xs ys site h.rises (there v) here) (λ (v : Contains us x). v) (Contains-append_cases ts us x (h.named (Contains-append_right xs ys site here)));
}

one_site : (y : Stmt) (site : ℕ) (x : Who) → Contains (targets_at site y) x → Contains (sites_in y) site
one_site y site x w =
    subst (λ t. Contains t site) (append-nil (sites_in y)) (named_sites site (y ∷ []) (plain (y ∷ [])) x (subst (λ t. Contains t x) (sym (append-nil (targets_at site y))) w))

-- a fault that is met over the world is met over the owner's list, and then all agents of the scope are held
abbrev Kept : Fault → Bool → Tie
Kept g all p f q e = Contains e g → (all ≡ true) × Contains f g

kept_tie : (g : Fault) (all : Bool) → IsTie (Kept g all)
kept_tie g all = record {
  none = λ h. none_within _ g h;
  join = λ p f q e pp ff qq ee h k w.
      ⊎_elim (λ (v : Contains e g). ((h v).0, Contains-append_left f ff g (h v).1)) (λ (v : Contains ee g). ((k v).0, Contains-append_right f ff g (k v).1)) (Contains-append_cases e ee g w);
}

only_name : (x y : Who) (test : Bool) → Contains (if test then x ∷ [] else []) y → x ≡ y
only_name x y true w = only_one (λ z. x ≡ z) x y refl w
only_name x y false w = none_within _ y w

-- whom a fault names
named_agent : (scope : Scope) (stop : Stop) (x : Who) (id : ℕ) → id_in (query_fault scope stop) x ≡ Some id → (p : Agent) → loop_agent scope x ≡ Some p → p.id ≡ id
named_agent scope stop who.This id is p e = absurd (cc)
named_agent scope stop _ id is p e = same_Some p.id id (sym (ap (option_map (λ y. y.id)) e) ∙ is)

module _ (m : Program) (w : List Agent) (held : Agent → Bool) (deep : Bool) (a : Agent) (id : ℕ) (r : Reaches m w held deep a id) (g : Fault) (y : Who) (had : id_in g y ≡ Some id) where
  abbrev Keeps : Depth → Bool → List Stmt → Type 0
  Keeps k all s = Sim (Kept g all) (kept_tie g all) m m (filter held w) w (At m w held a k all) (at_bound m w held a k all) s s

  abbrev FitsBlock : List Stmt → Type 0
  FitsBlock s = Fits g.site y (flat_map sites_in s) (flat_map (targets_at g.site) s)

  -- a fault at an expression's site
  kept_at : (all : Bool) (scope : Scope) (e : Expr) (names : Names) (t : Ty) → type_of e names ≡ Some t → ((stop : Stop) → query_fault scope stop ≡ g → Contains (sites_of e) g.site → all ≡ true) → Stops (Kept g all) (kept_tie g all) scope (value e scope)
  kept_at all scope e names t typed holds stop is v =
      let same = only_one (λ f. query_fault scope stop ≡ f) (query_fault scope stop) g refl v in
      (holds stop same (subst (λ f. Contains (sites_of e) f.site) same (value_sited e names t typed scope stop is)), v)

  first_fits : (x : Stmt) (s : List Stmt) → FitsBlock (x ∷ s) → Fits g.site y (sites_in x) (targets_at g.site x)
  first_fits x s h = fits_left g.site y (sites_in x) (flat_map sites_in s) (targets_at g.site x) (flat_map (targets_at g.site) s) (named_sites g.site s (plain s) y) h

  rest_fits : (x : Stmt) (s : List Stmt) → FitsBlock (x ∷ s) → FitsBlock s
  rest_fits x s h = fits_right g.site y (sites_in x) (flat_map sites_in s) (targets_at g.site x) (flat_map (targets_at g.site) s) (one_site x g.site y) h

  fits_as : (sites others : List ℕ) (targets names : List Who) → sites ≡ others → targets ≡ names → Fits g.site y sites targets → Fits g.site y others names
  fits_as sites others targets names same alike h = subst (λ xs. Fits g.site y xs names) same (subst (λ ts. Fits g.site y sites ts) alike h)

  never_here : (sites : List ℕ) (all : Bool) → Fits g.site y sites [] → Contains sites g.site → all ≡ true
  never_here sites all h here = none_within _ y (h.named here)

  keeps_loop : (k inner : Depth) → Enters m w held a k inner → (class here : ℕ) (body s : List Stmt) (all : Bool) → ((each : Bool) → Keeps inner each body) → Keeps k all s → Keeps k all (Foreach class body here ∷ s)
  keeps_loop k inner enters class here body s all each rest =
      sim_loop (Kept g all) (kept_tie g all) m m (filter held w) w (At m w held a k all) (at_bound m w held a k all) class here body s body s
      (λ scope at. loop_over (Kept g) (kept_tie g) (λ all q e h v. never (h v).0) (λ all p f q e h v. never (h v).0) m w held a k inner enters all scope at class body each) rest
    where
      never : {P : Type 0} → false ≡ true → P
      never e = absurd (cc)

  keeps_say : (k : Depth) (x : Who) (field : ℕ) (e : Expr) (here : ℕ) (s : List Stmt) (names last : Names) → After (Assign x field e here ∷ s) names last → FitsBlock (Assign x field e here ∷ s) → (all : Bool)
      → ((scope : Scope) → Stands m w a k scope → Hits m w held deep a id r scope x) → (After s names last → Keeps k all s) → Keeps k all (Assign x field e here ∷ s)
  keeps_say k x field e here s names last formed fits all hits rest =
      let f = formed_assign x field e here s names last formed in
      let own = fits_as _ _ _ _ (sites_in-Assign x field e here) (targets-Assign g.site x field e here) (first_fits (Assign x field e here) s fits) in
      sim_say (Kept g all) (kept_tie g all) m m (filter held w) w (At m w held a k all) (at_bound m w held a k all) x field e here s s
      (λ scope at. kept_at all scope e names f.type f.typed (λ stop same there.
      let is = only_name x y (is_one_of (sites_of e) g.site) (own.named there) in
      sym at.1 ∙ hits scope at.0 (named_agent scope stop x id (ap (λ h. id_in h x) same ∙ ap (id_in g) is ∙ had))))
      (λ scope at v h. none_within _ g h) (rest f.rest)

  keeps : (k : Depth) (s : List Stmt) → Outward deep k s → (names last : Names) → After s names last → FitsBlock s → (all : Bool) → Keeps k all s
  keeps _ _ (o.none k) names last formed fits all = sim_none (Kept g all) (kept_tie g all) m m (filter held w) w (At m w held a k all) (at_bound m w held a k all)
  keeps _ _ (o.const k n e s h) names last formed fits all =
      let f = formed_const n e s names last formed in
      let own = fits_as _ _ _ _ (sites_in-Const n e) (targets-Const g.site n e) (first_fits (Const n e) s fits) in
      sim_const (Kept g all) (kept_tie g all) m m (filter held w) w (At m w held a k all) (at_bound m w held a k all) n e s s
      (λ scope at. kept_at all scope e names f.type f.typed (λ stop same. never_here (sites_of e) all own)) (keeps k s h _ last f.rest (rest_fits (Const n e) s fits) all)
  keeps _ _ (o.cond k c x z s hx hz h) names last formed fits all =
      let f = formed_if c x z s names last formed in
      let tx = flat_map (targets_at g.site) x in
      let tz = flat_map (targets_at g.site) z in
      let own = fits_as _ (sites_of c ++ (flat_map sites_in x ++ flat_map sites_in z)) _ ([] ++ (tx ++ tz)) (sites-If c x z) (targets-If g.site c x z) (first_fits (If c x z) s fits) in
      let blocks = fits_right g.site y (sites_of c) (flat_map sites_in x ++ flat_map sites_in z) [] (tx ++ tz) (λ v. none_within _ y v) own in
      sim_if (Kept g all) (kept_tie g all) m m (filter held w) w (At m w held a k all) (at_bound m w held a k all) c x z s x z s
      (λ scope at. kept_at all scope c names _ f.condition (λ stop same. never_here (sites_of c) all (fits_left g.site y (sites_of c) (flat_map sites_in x ++ flat_map sites_in z) [] (tx ++ tz)
      (λ v. two_sites x z v) own)))
      (keeps k x hx names f.first.0 f.first.1 (fits_left g.site y (flat_map sites_in x) (flat_map sites_in z) tx tz (named_sites g.site z (plain z) y) blocks) all)
      (keeps k z hz names f.second.0 f.second.1 (fits_right g.site y (flat_map sites_in x) (flat_map sites_in z) tx tz (named_sites g.site x (plain x) y) blocks) all)
      (keeps k s h names last f.rest (rest_fits (If c x z) s fits) all)
    where
      two_sites : (x z : List Stmt) → Contains (flat_map (targets_at g.site) x ++ flat_map (targets_at g.site) z) y → Contains (flat_map sites_in x ++ flat_map sites_in z) g.site
      two_sites x z v =
          ⊎_elim (λ (u : Contains (flat_map (targets_at g.site) x) y). Contains-append_left (flat_map sites_in x) (flat_map sites_in z) g.site (named_sites g.site x (plain x) y u))
          (λ (u : Contains (flat_map (targets_at g.site) z) y). Contains-append_right (flat_map sites_in x) (flat_map sites_in z) g.site (named_sites g.site z (plain z) y u))
          (Contains-append_cases (flat_map (targets_at g.site) x) (flat_map (targets_at g.site) z) y v)
  keeps _ _ (o.loop class here body s hb h) names last formed fits all =
      let f = formed_loop class body here s names last formed in
      let own = fits_as _ _ _ _ (sites-Foreach class body here) (targets-Foreach g.site class body here) (first_fits (Foreach class body here) s fits) in
      keeps_loop o.top o.middle (enters_first m w held a) class here body s all (keeps o.middle body hb f.inside f.body_is_formed.0 f.body_is_formed.1 own) (keeps o.top s h names last f.rest (rest_fits (Foreach class body here) s fits) all)
  keeps _ _ (o.inner class here body s hb h) names last formed fits all =
      let f = formed_loop class body here s names last formed in
      let own = fits_as _ _ _ _ (sites-Foreach class body here) (targets-Foreach g.site class body here) (first_fits (Foreach class body here) s fits) in
      keeps_loop o.middle o.deepest (enters_second m w held a) class here body s all (keeps o.deepest body hb f.inside f.body_is_formed.0 f.body_is_formed.1 own)
      (keeps o.middle s h names last f.rest (rest_fits (Foreach class body here) s fits) all)
  keeps _ _ (o.near field e here s h) names last formed fits all =
      keeps_say o.middle who.Outer field e here s names last formed fits all (near_hit m w held deep a id r) (λ after. keeps o.middle s h names last after (rest_fits (Assign who.Outer field e here) s fits) all)
  keeps _ _ (o.far field e here s d h) names last formed fits all =
      keeps_say o.deepest who.Outer field e here s names last formed fits all (far_hit m w held deep a id r d) (λ after. keeps o.deepest s h names last after (rest_fits (Assign who.Outer field e here) s fits) all)
  keeps _ _ (o.farthest field e here s d h) names last formed fits all =
      keeps_say o.deepest who.Inner field e here s names last formed fits all (farthest_hit m w held deep a id r d) (λ after. keeps o.deepest s h names last after (rest_fits (Assign who.Inner field e here) s fits) all)

module _ (m : Program) (seed tick : ℕ) (w : List Agent) (area : Area) (held : Agent → Bool) (lawful : LawfulProgram m) (rises : RisesById w) (holds : HoldsNear m area (range_of m true) w held)
    (b : Agent) (wb : Contains w b) (stands : is_in m area b ≡ true) (g : Fault) (hit : IsAtAssignmentTo (inverse_program m) w g b.id) where
  -- the inverse query of one agent
  one_kept : (a : Agent) → Contains w a → (class : Option Class) → class_of m a ≡ class
      → let d = part_deed inverse_query m seed tick (filter held w) a class in let e = part_deed inverse_query m seed tick w a class in Kept g (held a) d.said d.faults e.said e.faults
  one_kept a wa None e v = none_within _ g v
  one_kept a wa (Some class) e v =
      let here = lawful.classes_are_lawful a.class class e in
      let (last, formed) = is_there (in_turn (map scope_after class.query) (query_scope m a.class)) here.query_is_typed in
      let block = inverse_query class.query in
      let pruned = inverse_is_part class.query in
      let names = renamed (λ q. q) (query_scope m a.class) in
      let end = renamed (λ q. q) last in
      let typed : After block names end = part_formed (λ q. q) class.query block pruned (query_scope m a.class) last formed in
      let scope = opening_scope seed tick class.query [] a in
      let up : Rising (flat_map sites_in block) = sub-Rising _ _ (sites_kept class.query block pruned) (rising_from (flat_map sites_in class.query) here.query_sites_rise) in
      let at = sited_run m w block names end typed scope g v in
      let same : hit.agent ≡ a = one_agent w (rising_from (ids w) rises) hit.agent a hit.is_in_world wa (hit.met_it ∙ at.agent) in
      let its : with_query inverse_query class ≡ hit.class = same_Some (with_query inverse_query class) hit.class
      (sym (class_same inverse_query m a ∙ ap (option_map (with_query inverse_query)) e) ∙ ap (class_of (inverse_program m)) (sym same) ∙ hit.has_class) in
      let named : Contains (flat_map (targets_at g.site) block) hit.target = subst (λ c. Contains (flat_map (targets_at g.site) c.query) hit.target) (sym its) hit.stands_there in
      (keeps m w held (says_in_inner_loops m) a b.id (reaches_it m seed tick w area held lawful rises holds b wb stands a wa) g hit.target hit.had_id o.top block (query_outward m lawful a class e) names end typed
      (record { rises = up; named = λ there. named }) (held a) scope (opening_at m seed tick w area held lawful rises holds b wb stands class.query a)).tie v

  kept_of : (a : Agent) → Contains w a → (c : Bool) → held a ≡ c → Contains (query_of (inverse_program m) seed tick w a).faults g → (c ≡ true) × Contains (query_of (inverse_program m) seed tick (filter held w) a).faults g
  kept_of a wa c is v =
      let (ha, there) = one_kept a wa (class_of m a) refl (subst (λ d. Contains d.faults g) (part_of inverse_query inverse_is_part m seed tick w a) v) in
      (sym is ∙ ha, subst (λ d. Contains d.faults g) (sym (part_of inverse_query inverse_is_part m seed tick (filter held w) a)) there)

  pub inverse_fault_held : Contains (query_faults (inverse_program m) seed tick w) g → Contains (query_faults (inverse_program m) seed tick (filter held w)) g
  inverse_fault_held v =
      (over_all (Kept g true) (kept_tie g true) (query_of (inverse_program m) seed tick (filter held w)) (query_of (inverse_program m) seed tick w) held w
      (λ a wa ha. kept_of a wa true ha) (λ a wa ha v. never (kept_of a wa false ha v).0) v).1
    where
      never : {P : Type 0} → false ≡ true → P
      never e = absurd (cc)
