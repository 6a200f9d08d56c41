-- Two programs over two lists of agents: where their statements do what is related, so do their blocks.
use Rattle.std.proofs.Common.{◌≡◌, ◌∙◌, refl, sym, ap, subst, ℕ, List, [], ◌∷◌, ◌++◌, map, filter, flat_map, Bool, true, false, cond, Option, Some, None, Ok, Err, ap₂, arith}
use Rattle.std.specs.Prelude.{◌&&◌}
use Rattle.std.specs.List.{Contains}
use Rattle.std.proofs.lemmas.List.Elements.{Contains-append_right}
use Rattle.std.proofs.lemmas.List.Folds.{flat_map-map}
use Rattle.brace_model.specs.declared.program.Who.{Who}
use Rattle.brace_model.specs.declared.program.Value.{Value}
use Rattle.brace_model.specs.declared.program.Value.TheVariants.{Flag}
use Rattle.brace_model.specs.declared.program.Expr.{Expr}
use Rattle.brace_model.specs.declared.program.Stmt.{Stmt}
use Rattle.brace_model.specs.declared.program.Stmt.TheVariants.{Const, If, Foreach, Assign}
use Rattle.brace_model.specs.declared.program.Class.{Class}
use Rattle.brace_model.specs.declared.program.Program.{Program}
use Rattle.brace_model.specs.declared.fault.Stop.{Stop}
use Rattle.brace_model.specs.declared.fault.Fault.{Fault}
use Rattle.brace_model.specs.declared.world.Agent.{Agent}
use Rattle.brace_model.specs.Value.{Scope, Worth, value, agent_of}
use Rattle.brace_model.specs.Query.{Saying, Deed, silent, deed_of, followed_by, chosen, closed, bound, inside, iterated, seen_by, saying, statement, query_fault, opening_scope, query_in}
use Rattle.brace_model.proofs.ValueEquations.{statement-Const, statement-If, statement-Foreach, statement-Assign}
use Rattle.brace_model.proofs.Blocks as b
use Rattle.brace_model.proofs.Blocks.{Allowed, free}
use Rattle.brace_model.proofs.Deeds.{run, after, goes_to, stops_at, by_stop, inside_either}
use Rattle.brace_num.proofs.Lists.{filter_twice}

-- how what one deed says and finds is tied to what another one says and finds
abbrev pub Tie : Type 1
Tie = List Saying → List Fault → List Saying → List Fault → Type 0

-- nothing is tied to nothing, and what is tied stays so with what is tied behind it
pub record IsTie (T : Tie) : Type 0 where
  pub none : T [] [] [] []
  pub join : (p : List Saying) (f : List Fault) (q : List Saying) (g : List Fault) (pp : List Saying) (ff : List Fault) (qq : List Saying) (gg : List Fault)
      → T p f q g → T pp ff qq gg → T (p ++ pp) (f ++ ff) (q ++ qq) (g ++ gg)

-- two deeds that are tied go on or are cut short together, and in one scope
pub record Tied (T : Tie) (d e : Deed) : Type 0 where
  pub stopped : d.stopped ≡ e.stopped
  pub scope : d.scope ≡ e.scope
  pub tie : T d.said d.faults e.said e.faults

-- deeds of agents that are tied, each list as a whole
abbrev pub Over : Tie → (Agent → Deed) → List Agent → (Agent → Deed) → List Agent → Type 0
Over T f xs g ys = T (flat_map (λ x. (f x).said) xs) (flat_map (λ x. (f x).faults) xs) (flat_map (λ x. (g x).said) ys) (flat_map (λ x. (g x).faults) ys)

-- what is owed of an agent that one list or the other leaves out
abbrev pub Either : Tie → (Agent → Deed) → (Agent → Deed) → Agent → Bool → Bool → Type 0
Either T f g x true true = T (f x).said (f x).faults (g x).said (g x).faults
Either T f g x true false = T (f x).said (f x).faults [] []
Either T f g x false true = T [] [] (g x).said (g x).faults
Either T f g x false false = Unit {0}

module _ (T : Tie) (tie : IsTie T) where
  -- ---- over agents

  over_step : (f g : Agent → Deed) (x : Agent) (xs ys : List Agent) (p q : Bool) → Either T f g x p q → Over T f xs g ys → Over T f (cond p (x ∷ xs) xs) g (cond q (x ∷ ys) ys)
  over_step f g x xs ys true true h rest = tie.join _ _ _ _ _ _ _ _ h rest
  over_step f g x xs ys true false h rest = tie.join (f x).said (f x).faults [] [] _ _ _ _ h rest
  over_step f g x xs ys false true h rest = tie.join [] [] (g x).said (g x).faults _ _ _ _ h rest
  over_step f g x xs ys false false h rest = rest

  -- of one list the agents that pass a test, and those that pass another
  pub over_tests : (f g : Agent → Deed) (p q : Agent → Bool) (xs : List Agent) → ((x : Agent) → Contains xs x → Either T f g x (p x) (q x)) → Over T f (filter p xs) g (filter q xs)
  over_tests f g p q [] each = tie.none
  over_tests f g p q (x ∷ xs) each =
      over_step f g x (filter p xs) (filter q xs) (p x) (q x) (each x (0, omega arith, refl))
      (over_tests f g p q xs (λ y h. each y (Contains-append_right (x ∷ []) xs y h)))

  -- the same agents
  pub over_same : (f g : Agent → Deed) (xs : List Agent) → ((x : Agent) → Contains xs x → T (f x).said (f x).faults (g x).said (g x).faults) → Over T f xs g xs
  over_same f g [] each = tie.none
  over_same f g (x ∷ xs) each =
      tie.join _ _ _ _ _ _ _ _ (each x (0, omega arith, refl)) (over_same f g xs (λ y h. each y (Contains-append_right (x ∷ []) xs y h)))

  pub over_seen : (f g : Agent → Deed) (p : Agent → Bool) (xs : List Agent) → ((x : Agent) → Contains xs x → p x ≡ true → T (f x).said (f x).faults (g x).said (g x).faults)
      → Over T f (filter p xs) g (filter p xs)
  over_seen f g p xs each = over_tests f g p p xs (λ x h. by_test x (p x) (each x h))
    where
      by_test : (x : Agent) (c : Bool) → (c ≡ true → T (f x).said (f x).faults (g x).said (g x).faults) → Either T f g x c c
      by_test x true h = h refl
      by_test x false h = tt

  -- of the agents that pass a test those that are held, and all
  pub over_held : (f g : Agent → Deed) (p held : Agent → Bool) (xs : List Agent) → ((x : Agent) → Contains xs x → p x ≡ true → held x ≡ true → T (f x).said (f x).faults (g x).said (g x).faults)
      → ((x : Agent) → Contains xs x → p x ≡ true → held x ≡ false → T [] [] (g x).said (g x).faults) → Over T f (filter p (filter held xs)) g (filter p xs)
  over_held f g p held xs near far =
      subst (λ ys. Over T f ys g (filter p xs)) (sym (filter_twice p held xs))
      (over_tests f g (λ x. held x && p x) p xs (λ x h. by_tests x (p x) (held x) (near x h) (far x h)))
    where
      by_tests : (x : Agent) (c d : Bool) → (c ≡ true → d ≡ true → T (f x).said (f x).faults (g x).said (g x).faults) → (c ≡ true → d ≡ false → T [] [] (g x).said (g x).faults)
          → Either T f g x (d && c) c
      by_tests x true true near far = near refl refl
      by_tests x true false near far = far refl refl
      by_tests x false true near far = tt
      by_tests x false false near far = tt

  -- all that are held, and all
  pub over_all : (f g : Agent → Deed) (held : Agent → Bool) (xs : List Agent) → ((x : Agent) → Contains xs x → held x ≡ true → T (f x).said (f x).faults (g x).said (g x).faults)
      → ((x : Agent) → Contains xs x → held x ≡ false → T [] [] (g x).said (g x).faults) → Over T f (filter held xs) g xs
  over_all f g held [] near far = tie.none
  over_all f g held (x ∷ xs) near far =
      over_step f g x (filter held xs) xs (held x) true (by_test (held x) (near x (0, omega arith, refl)) (far x (0, omega arith, refl)))
      (over_all f g held xs (λ y h. near y (Contains-append_right (x ∷ []) xs y h)) (λ y h. far y (Contains-append_right (x ∷ []) xs y h)))
    where
      by_test : (d : Bool) → (d ≡ true → T (f x).said (f x).faults (g x).said (g x).faults) → (d ≡ false → T [] [] (g x).said (g x).faults) → Either T f g x d true
      by_test true near far = near refl
      by_test false near far = far refl

  -- ---- deeds

  tied_silent : (scope : Scope) → Tied T (silent scope) (silent scope)
  tied_silent scope = record { stopped = refl; scope = refl; tie = tie.none }

  pub tied_then : (d e : Deed) (nd ne : Scope → Deed) → Tied T d e → (d.stopped ≡ false → Tied T (nd d.scope) (ne d.scope)) → Tied T (followed_by d nd) (followed_by e ne)
  tied_then d e nd ne h next = by_stop (Tied T (followed_by d nd) (followed_by e ne)) d
      (λ stopped. subst (λ x. Tied T x (followed_by e ne)) (sym (stops_at d nd stopped)) (subst (Tied T d) (sym (stops_at e ne (sym h.stopped ∙ stopped))) h))
      (λ on. subst (λ x. Tied T x (followed_by e ne)) (sym (goes_to d nd on)) (subst (Tied T (after d (nd d.scope))) (sym (goes_to e ne (sym h.stopped ∙ on)))
      (subst (λ s. Tied T (after d (nd d.scope)) (after e (ne s))) h.scope
      (let rest = next on in record { stopped = rest.stopped; scope = rest.scope; tie = tie.join _ _ _ _ _ _ _ _ h.tie rest.tie }))))

  -- a fault that both find
  abbrev pub Stops : Scope → Worth → Type 0
  Stops scope v = (stop : Stop) → v ≡ Err stop → T [] (query_fault scope stop ∷ []) [] (query_fault scope stop ∷ [])

  pub tied_deed : (scope : Scope) (v : Worth) (f g : Value → Deed) → Stops scope v → ((x : Value) → v ≡ Ok x → Tied T (f x) (g x)) → Tied T (deed_of scope v f) (deed_of scope v g)
  tied_deed scope (Ok x) f g stops h = h x refl
  tied_deed scope (Err stop) f g stops h = record { stopped = refl; scope = refl; tie = stops stop refl }

  tied_chosen : (scope : Scope) (v : Value) (a d pa pd : Deed) → Tied T a pa → Tied T d pd → Tied T (closed scope (chosen v a d)) (closed scope (chosen v pa pd))
  tied_chosen scope (Flag true) a d pa pd ha hd = record { stopped = ha.stopped; scope = refl; tie = ha.tie }
  tied_chosen scope _ a d pa pd ha hd = record { stopped = hd.stopped; scope = refl; tie = hd.tie }

  pub tied_loop : (scope : Scope) (f g : Agent → Deed) (xs ys : List Agent) → Over T f xs g ys → Tied T (iterated scope (map f xs)) (iterated scope (map g ys))
  tied_loop scope f g xs ys h = record {
    stopped = refl;
    scope = refl;
    tie = rw (flat_map-map (λ d. d.said) f xs, flat_map-map (λ d. d.faults) f xs, flat_map-map (λ d. d.said) g ys, flat_map-map (λ d. d.faults) g ys) h;
  }

  -- ---- blocks of two programs over two lists, in scopes that keep a fact

  module _ (m n : Program) (w l : List Agent) (A : Scope → Type 0) (keeps : (scope : Scope) (k : ℕ) (v : Value) → A scope → A (bound scope k v)) where
    abbrev pub Sim : List Stmt → List Stmt → Type 0
    Sim s t = (scope : Scope) → A scope → Tied T (run m w s scope) (run n l t scope)

    -- an expression faults alike
    abbrev pub FaultsAlike : Expr → Type 0
    FaultsAlike e = (scope : Scope) → A scope → Stops scope (value e scope)

    pub sim_none : Sim [] []
    sim_none scope at = tied_silent scope

    stays : (scope : Scope) (v : Worth) (next : Value → Deed) → ((x : Value) → A (next x).scope) → A scope → A (deed_of scope v next).scope
    stays scope (Ok x) next h at = h x
    stays scope (Err stop) next h at = at

    -- two statements, whose deeds are these, and what follows them
    sim_one : (x y : Stmt) (s t : List Stmt) (scope : Scope) (d e : Deed) → statement m w x scope ≡ d → statement n l y scope ≡ e → Tied T d e → A d.scope → Sim s t → Tied T (run m w (x ∷ s) scope) (run n l (y ∷ t) scope)
    sim_one x y s t scope d e is_d is_e h at rest =
        subst (λ z. Tied T (followed_by z (run m w s)) (run n l (y ∷ t) scope)) (sym is_d) (subst (λ z. Tied T (followed_by d (run m w s)) (followed_by z (run n l t))) (sym is_e)
        (tied_then d e (run m w s) (run n l t) h (λ on. rest d.scope at)))

    pub sim_const : (k : ℕ) (e : Expr) (s t : List Stmt) → FaultsAlike e → Sim s t → Sim (Const k e ∷ s) (Const k e ∷ t)
    sim_const k e s t stops rest scope at =
        sim_one _ _ s t scope _ _ (statement-Const m w k e scope) (statement-Const n l k e scope)
        (tied_deed scope (value e scope) _ _ (stops scope at) (λ v is. tied_silent (bound scope k v)))
        (stays scope (value e scope) (λ v. silent (bound scope k v)) (λ v. keeps scope k v at) at) rest

    pub sim_if : (c : Expr) (x y s px py t : List Stmt) → FaultsAlike c → Sim x px → Sim y py → Sim s t → Sim (If c x y ∷ s) (If c px py ∷ t)
    sim_if c x y s px py t stops hx hy rest scope at =
        sim_one _ _ s t scope _ _ (statement-If m w c x y scope) (statement-If n l c px py scope)
        (tied_deed scope (value c scope) _ _ (stops scope at) (λ v is. tied_chosen scope v (run m w x scope) (run m w y scope) (run n l px scope) (run n l py scope) (hx scope at) (hy scope at)))
        (stays scope (value c scope) (λ v. closed scope (chosen v (run m w x scope) (run m w y scope))) (λ v. at) at) rest

    pub sim_loop : (class at : ℕ) (body s pb t : List Stmt)
        → ((scope : Scope) → A scope → Over T (λ x. run m w body (inside scope x)) (seen_by m w scope.this class) (λ x. run n l pb (inside scope x)) (seen_by n l scope.this class))
        → Sim s t → Sim (Foreach class body at ∷ s) (Foreach class pb at ∷ t)
    sim_loop class at body s pb t over rest scope here =
        sim_one _ _ s t scope _ _ (statement-Foreach m w class body at scope) (statement-Foreach n l class pb at scope)
        (tied_loop scope _ _ (seen_by m w scope.this class) (seen_by n l scope.this class) (over scope here)) here rest

    pub sim_say : (who : Who) (effect : ℕ) (e : Expr) (at : ℕ) (s t : List Stmt) → FaultsAlike e
        → ((scope : Scope) → A scope → (v : Value) → let one : List Saying = record { target = (agent_of scope who).id; field = effect; value = v } ∷ [] in T one [] one [])
        → Sim s t → Sim (Assign who effect e at ∷ s) (Assign who effect e at ∷ t)
    sim_say who effect e at s t stops says rest scope here =
        sim_one _ _ s t scope _ _ (statement-Assign m w who effect e at scope) (statement-Assign n l who effect e at scope)
        (tied_deed scope (value e scope) _ _ (stops scope here) (λ v is. record { stopped = refl; scope = refl; tie = says scope here v }))
        (stays scope (value e scope) (saying scope (agent_of scope who) effect) (λ v. here) here) rest

    -- blocks of which each expression faults alike, each assignment says alike, and each loop goes over agents whose deeds are tied
    pub simulation : (P : Who → Type 0) → ((e : Expr) → FaultsAlike e)
        → ((who : Who) → P who → (effect : ℕ) (scope : Scope) → A scope → (v : Value) → let one : List Saying = record { target = (agent_of scope who).id; field = effect; value = v } ∷ [] in T one [] one [])
        → ((scope : Scope) (class : ℕ) (f g : Agent → Deed) → A scope → ((x : Agent) → A (inside scope x) → Tied T (f x) (g x)) → Over T f (seen_by m w scope.this class) g (seen_by n l scope.this class))
        → (s : List Stmt) → Allowed P s → Sim s s
    simulation P stops says loops _ b.none = sim_none
    simulation P stops says loops _ (b.const k e s h) = sim_const k e s s (stops e) (simulation P stops says loops s h)
    simulation P stops says loops _ (b.cond c x y s hx hy h) =
        sim_if c x y s x y s (stops c) (simulation P stops says loops x hx) (simulation P stops says loops y hy) (simulation P stops says loops s h)
    simulation P stops says loops _ (b.loop class at body s hb h) =
        sim_loop class at body s body s (λ scope here. loops scope class _ _ here (λ x inner. simulation P stops says loops body hb (inside scope x) inner)) (simulation P stops says loops s h)
    simulation P stops says loops _ (b.say who effect e at s may h) = sim_say who effect e at s s (stops e) (says who may effect) (simulation P stops says loops s h)

-- deeds that say and find the same
abbrev Same : Tie
Same p f q g = (p ≡ q) × (f ≡ g)

same_tie : IsTie Same
same_tie = record {
  none = (refl, refl);
  join = λ p f q g pp ff qq gg h k. (ap₂ (λ x y. x ++ y) h.0 k.0, ap₂ (λ x y. x ++ y) h.1 k.1);
}

-- over two lists in which an agent sees the same agents its query does the same
pub same_sight : (m : Program) (seed tick : ℕ) (w l : List Agent) (a : Agent) → ((class : ℕ) → seen_by m w a class ≡ seen_by m l a class) → (class : Option Class) → query_in m seed tick w a class ≡ query_in m seed tick l a class
same_sight m seed tick w l a sight None = refl
same_sight m seed tick w l a sight (Some class) =
    let same = simulation Same same_tie m m w l (λ scope. scope.this ≡ a) (λ scope k v e. e) (λ x. Unit {0}) (λ e scope at stop is. (refl, refl)) (λ who may effect scope at v. (refl, refl))
    (λ scope class f g at each.
    subst (λ xs. Over Same f xs g (seen_by m l scope.this class)) (sym (ap (λ x. seen_by m w x class) at ∙ sight class ∙ ap (λ x. seen_by m l x class) (sym at)))
    (over_same Same same_tie f g (seen_by m l scope.this class) (λ x h. (each x (inside_either (λ s. s.this ≡ a) scope x at at)).tie)))
    class.query (free class.query) (opening_scope seed tick class.query [] a) refl in
    λ i. record { said = same.tie.0 i; faults = same.tie.1 i; stopped = same.stopped i; scope = same.scope i }
