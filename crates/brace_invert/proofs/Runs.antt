-- What a block does and what its parts do: where the block goes on its parts do, in the same scope; together the parts say what the block says, and find each fault that it finds.
use Rattle.std.proofs.Common.{◌≡◌, refl, sym, subst, ℕ, List, [], ◌∷◌, ◌++◌, map, flat_map, Bool, true, false, Ok, Err, ⊎_elim, append_assoc, filter}
use Rattle.std.specs.List.{Contains}
use Rattle.std.specs.List.Sorted.{IsPermutation}
use Rattle.std.proofs.lemmas.List.{append-nil}
use Rattle.std.proofs.lemmas.List.Folds.{flat_map-map}
use Rattle.std.proofs.lemmas.List.Elements.{filter-append, Contains-append_left, Contains-append_right, Contains-append_cases}
use Rattle.std.proofs.lemmas.List.Sorted.{Contains-permutation, IsPermutation-refl, IsPermutation-append, IsPermutation-append_comm, IsPermutation-append_left, IsPermutation-append_right, IsPermutation-trans}
use Rattle.brace_model.specs.declared.program.Who.{Who}
use Rattle.brace_model.specs.declared.program.Value.TheVariants.{Int, Fixed, Flag}
use Rattle.brace_model.specs.declared.program.Expr.{Expr}
use Rattle.brace_model.specs.declared.program.Expr.TheVariants.{Lit}
use Rattle.brace_model.specs.declared.program.Stmt.{Stmt}
use Rattle.brace_model.specs.declared.program.Stmt.TheVariants.{Const, If, Foreach, Assign}
use Rattle.brace_model.specs.declared.program.Program.{Program}
use Rattle.brace_model.specs.declared.fault.Fault.{Fault}
use Rattle.brace_model.specs.declared.world.Agent.{Agent}
use Rattle.brace_model.specs.declared.fault.Stop.{Stop}
use Rattle.brace_model.specs.Value.{Scope, Worth, value, agent_of}
use Rattle.brace_model.specs.Query.{Saying, Deed, silent, halted, deed_of, followed_by, closed, bound, inside, chosen, seen_by, saying, statement}
use Rattle.brace_model.specs.Sites.{constant_numbers}
use Rattle.brace_model.proofs.ValueEquations.{value-Lit, statement-Const, statement-If, statement-Foreach, statement-Assign}
use Rattle.brace_invert.specs.Split.{unread, places}
use Rattle.brace_model.proofs.Deeds.{run, goes_to, stops_at, by_stop, never_both, grown, Halts, halts_one}
use Rattle.brace_invert.proofs.Sites.{none_within}
use Rattle.brace_invert.proofs.Pruned as pruned
use Rattle.brace_invert.proofs.Pruned.{Pruned}
use Rattle.brace_invert.proofs.Halves as halves
use Rattle.brace_invert.proofs.Halves.{Halves, forward_pruned, inverse_pruned}

-- what a condition makes of two deeds: the one or the other in its scope, or a fault
pub by_condition : (P : (Deed → Deed → Deed) → Type 0) (scope : Scope) (v : Worth) → P (λ a d. closed scope a) → P (λ a d. closed scope d) → ((stop : Stop) → P (λ a d. halted scope stop))
    → P (λ a d. deed_of scope v (λ x. closed scope (chosen x a d)))
by_condition P scope (Err stop) ha hd ends = ends stop
by_condition P scope (Ok (Flag true)) ha hd ends = ha
by_condition P scope (Ok (Flag false)) ha hd ends = hd
by_condition P scope (Ok (Int n)) ha hd ends = hd
by_condition P scope (Ok (Fixed n)) ha hd ends = hd

-- where a block goes on so does a part of it, in the same scope
pub record Goes (d p : Deed) : Type 0 where
  pub on : d.stopped ≡ false → p.stopped ≡ false
  pub scope : d.stopped ≡ false → p.scope ≡ d.scope

pub goes_itself : (d : Deed) → Goes d d
goes_itself d = record { on = λ e. e; scope = λ e. refl }

goes_then : (d p : Deed) (nd np : Scope → Deed) → Goes d p → ((scope : Scope) → Goes (nd scope) (np scope)) → Goes (followed_by d nd) (followed_by p np)
goes_then d p nd np h next = by_stop (Goes (followed_by d nd) (followed_by p np)) d
    (λ stopped. rw (stops_at d nd stopped) (record { on = λ e. never_both _ d stopped e; scope = λ e. never_both _ d stopped e }))
    (λ on. let too = h.on on in let same = h.scope on in let rest = next d.scope in rw (goes_to d nd on, goes_to p np too, same) (record { on = rest.on; scope = rest.scope }))

-- what is never evaluated does nothing
pub places_run : (m : Program) (w : List Agent) (ns : List ℕ) (p : List Stmt) (scope : Scope) → run m w (places ns ++ p) scope ≡ run m w p scope
places_run m w [] p scope = refl
places_run m w (n ∷ ns) p scope = rw (statement-If m w (Lit (Flag false)) (map unread (n ∷ ns)) [] scope, value-Lit (Flag false) scope) refl

module _ (m : Program) (w : List Agent) (scope : Scope) where
  pub head_if : (c : Expr) (a d pa pd : List Stmt) → Goes (run m w a scope) (run m w pa scope) → Goes (run m w d scope) (run m w pd scope) → Goes (statement m w (If c a d) scope) (statement m w (If c pa pd) scope)
  head_if c a d pa pd ha hd = rw (statement-If m w c a d scope, statement-If m w c pa pd scope)
      (by_condition (λ f. Goes (f (run m w a scope) (run m w d scope)) (f (run m w pa scope) (run m w pd scope))) scope (value c scope)
      (record { on = ha.on; scope = λ e. refl }) (record { on = hd.on; scope = λ e. refl }) (λ stop. goes_itself (halted scope stop)))

  pub head_loop : (class at : ℕ) (body pb : List Stmt) → Goes (statement m w (Foreach class body at) scope) (statement m w (Foreach class pb at) scope)
  head_loop class at body pb = rw (statement-Foreach m w class body at scope, statement-Foreach m w class pb at scope) (record { on = λ e. refl; scope = λ e. refl })

  pub head_away : (class at : ℕ) (body : List Stmt) → Goes (statement m w (Foreach class body at) scope) (silent scope)
  head_away class at body = rw (statement-Foreach m w class body at scope) (record { on = λ e. refl; scope = λ e. refl })

  pub head_say : (who : Who) (effect : ℕ) (e : Expr) (at : ℕ) → Goes (statement m w (Assign who effect e at) scope) (silent scope)
  head_say who effect e at = rw (statement-Assign m w who effect e at scope) (said (value e scope))
    where
      said : (v : Worth) → Goes (deed_of scope v (saying scope (agent_of scope who) effect)) (silent scope)
      said (Ok x) = record { on = λ e. refl; scope = λ e. refl }
      said (Err stop) = record { on = λ e. refl; scope = λ e. refl }

pub goes_run : (m : Program) (w : List Agent) (s p : List Stmt) → Pruned s p → (scope : Scope) → Goes (run m w s scope) (run m w p scope)
goes_run m w _ _ pruned.none scope = goes_itself (silent scope)
goes_run m w _ _ (pruned.const n e s p h) scope = goes_then _ _ _ _ (goes_itself (statement m w (Const n e) scope)) (goes_run m w s p h)
goes_run m w _ _ (pruned.cond c a pa d pd s p ha hd h) scope =
    goes_then _ _ _ _ (head_if m w scope c a d pa pd (goes_run m w a pa ha scope) (goes_run m w d pd hd scope)) (goes_run m w s p h)
goes_run m w _ _ (pruned.loop class at body pb s p hb h) scope = goes_then _ _ _ _ (head_loop m w scope class at body pb) (goes_run m w s p h)
goes_run m w _ _ (pruned.away class at body s p h) scope =
    rw (places_run m w (flat_map constant_numbers body) p scope) (goes_then _ (silent scope) _ (run m w p) (head_away m w scope class at body) (goes_run m w s p h))
goes_run m w _ _ (pruned.kept who effect e at s p h) scope = goes_then _ _ _ _ (goes_itself (statement m w (Assign who effect e at) scope)) (goes_run m w s p h)
goes_run m w _ _ (pruned.left_out who effect e at s p h) scope = goes_then _ (silent scope) _ (run m w p) (head_say m w scope who effect e at) (goes_run m w s p h)

-- two lists before a third change places
pub turned : {A : Type 0} (xs ys zs : List A) → IsPermutation (xs ++ (ys ++ zs)) (ys ++ (xs ++ zs))
turned xs ys zs = rw (sym (append_assoc xs ys zs), sym (append_assoc ys xs zs)) (IsPermutation-append_left zs (xs ++ ys) (ys ++ xs) (IsPermutation-append_comm xs ys))

-- lists that are joined in turn
mix : {A : Type 0} (fs gs is js : List A) → IsPermutation ((fs ++ is) ++ (gs ++ js)) ((fs ++ gs) ++ (is ++ js))
mix fs gs is js = rw (append_assoc fs is (gs ++ js), append_assoc fs gs (is ++ js)) (IsPermutation-append_right fs _ _ (turned is gs js))

-- two deeds together say, of sayings that pass any test, what a deed says, where it has no fault, and find each fault that it finds
pub record Together (said fsaid isaid : List Saying) (faults ffaults ifaults : List Fault) : Type 0 where
  pub same : (test : Saying → Bool) → faults ≡ [] → IsPermutation (filter test said) (filter test fsaid ++ filter test isaid)
  pub kept : (g : Fault) → Contains faults g → Contains (ffaults ++ ifaults) g

abbrev pub Joined : Deed → Deed → Deed → Type 0
Joined d f i = Together d.said f.said i.said d.faults f.faults i.faults

together_forward : (said : List Saying) (faults : List Fault) → Together said said [] faults faults []
together_forward said faults = record {
  same = λ test e. rw (append-nil (filter test said)) (IsPermutation-refl (filter test said));
  kept = λ g h. Contains-append_left faults [] g h;
}

together_inverse : (said : List Saying) (faults : List Fault) → Together said [] said faults [] faults
together_inverse said faults = record { same = λ test e. IsPermutation-refl (filter test said); kept = λ g h. h }

pub together_both : (faults : List Fault) → Together [] [] [] faults faults faults
together_both faults = record { same = λ test e. IsPermutation-refl []; kept = λ g h. Contains-append_left faults faults g h }

no_faults : (xs ys : List Fault) → xs ++ ys ≡ [] → (xs ≡ []) × (ys ≡ [])
no_faults [] ys e = (refl, e)
no_faults (x ∷ xs) ys e = absurd (cc)

pub together_append : (a b fa fb ia ib : List Saying) (p q fp fq ip iq : List Fault) → Together a fa ia p fp ip → Together b fb ib q fq iq
    → Together (a ++ b) (fa ++ fb) (ia ++ ib) (p ++ q) (fp ++ fq) (ip ++ iq)
together_append a b fa fb ia ib p q fp fq ip iq h k = record {
  same = λ test e. let (first, second) = no_faults p q e in
      rw (filter-append test a b, filter-append test fa fb, filter-append test ia ib)
      (IsPermutation-trans _ _ _ (IsPermutation-append _ _ _ _ (h.same test first) (k.same test second)) (mix (filter test fa) (filter test fb) (filter test ia) (filter test ib)));
  kept = λ g within. Contains-permutation _ _ g (mix fp fq ip iq)
      (⊎_elim (λ (x : Contains p g). Contains-append_left (fp ++ ip) (fq ++ iq) g (h.kept g x)) (λ (x : Contains q g). Contains-append_right (fp ++ ip) (fq ++ iq) g (k.kept g x)) (Contains-append_cases p q g within));
}

joined_then : (d f i : Deed) (nd nf ni : Scope → Deed) → Joined d f i → Halts d → Goes d f → Goes d i → ((scope : Scope) → Joined (nd scope) (nf scope) (ni scope))
    → Joined (followed_by d nd) (followed_by f nf) (followed_by i ni)
joined_then d f i nd nf ni h halts gf gi next = by_stop (Joined (followed_by d nd) (followed_by f nf) (followed_by i ni)) d
    (λ stopped. rw (stops_at d nd stopped) (record {
      same = λ test e. let (g, w) = halts stopped in none_within _ g (subst (λ xs. Contains xs g) e w);
      kept = λ g within. ⊎_elim (λ (x : Contains f.faults g). Contains-append_left (followed_by f nf).faults (followed_by i ni).faults g (grown f nf g x))
          (λ (x : Contains i.faults g). Contains-append_right (followed_by f nf).faults (followed_by i ni).faults g (grown i ni g x)) (Contains-append_cases f.faults i.faults g (h.kept g within));
    }))
    (λ on. let forward = gf.on on in let inverse = gi.on on in let first = gf.scope on in let second = gi.scope on in
    rw (goes_to d nd on, goes_to f nf forward, goes_to i ni inverse, first, second) (together_append _ _ _ _ _ _ _ _ _ _ _ _ h (next d.scope)))

pub together_over : {A : Type 0} (d f i : A → Deed) → ((a : A) → Joined (d a) (f a) (i a)) → (agents : List A)
    → Together (flat_map (λ a. (d a).said) agents) (flat_map (λ a. (f a).said) agents) (flat_map (λ a. (i a).said) agents)
    (flat_map (λ a. (d a).faults) agents) (flat_map (λ a. (f a).faults) agents) (flat_map (λ a. (i a).faults) agents)
together_over d f i h [] = together_both []
together_over d f i h (a ∷ agents) = together_append _ _ _ _ _ _ _ _ _ _ _ _ (h a) (together_over d f i h agents)

module _ (m : Program) (w : List Agent) (scope : Scope) where
  joined_constant : (n : ℕ) (e : Expr) → let d = statement m w (Const n e) scope in Joined d d d
  joined_constant n e = rw (statement-Const m w n e scope) (of (value e scope))
    where
      of : (v : Worth) → let d = deed_of scope v (λ x. silent (bound scope n x)) in Joined d d d
      of (Ok x) = together_both []
      of (Err stop) = together_both (halted scope stop).faults

  joined_if : (c : Expr) (a fa ia b fb ib : List Stmt) → Joined (run m w a scope) (run m w fa scope) (run m w ia scope) → Joined (run m w b scope) (run m w fb scope) (run m w ib scope)
      → Joined (statement m w (If c a b) scope) (statement m w (If c fa fb) scope) (statement m w (If c ia ib) scope)
  joined_if c a fa ia b fb ib h k = rw (statement-If m w c a b scope, statement-If m w c fa fb scope, statement-If m w c ia ib scope)
      (by_condition (λ f. Joined (f (run m w a scope) (run m w b scope)) (f (run m w fa scope) (run m w fb scope)) (f (run m w ia scope) (run m w ib scope))) scope (value c scope) h k
      (λ stop. together_both (halted scope stop).faults))

  joined_loop : (class at : ℕ) (body fb ib : List Stmt) → ((s : Scope) → Joined (run m w body s) (run m w fb s) (run m w ib s))
      → Joined (statement m w (Foreach class body at) scope) (statement m w (Foreach class fb at) scope) (statement m w (Foreach class ib at) scope)
  joined_loop class at body fb ib h = rw (statement-Foreach m w class body at scope, statement-Foreach m w class fb at scope, statement-Foreach m w class ib at scope)
      (simp flat_map-map (together_over (λ a. run m w body (inside scope a)) (λ a. run m w fb (inside scope a)) (λ a. run m w ib (inside scope a)) (λ a. h (inside scope a)) (seen_by m w scope.this class)))

-- what both parts do together
pub joined_run : (m : Program) (w : List Agent) (s f i : List Stmt) → Halves s f i → (scope : Scope) → Joined (run m w s scope) (run m w f scope) (run m w i scope)
joined_run m w _ _ _ halves.none scope = together_both []
joined_run m w _ _ _ (halves.const n e s f i h) scope =
    joined_then (statement m w (Const n e) scope) (statement m w (Const n e) scope) (statement m w (Const n e) scope) (run m w s) (run m w f) (run m w i)
    (joined_constant m w scope n e) (halts_one m w (Const n e) scope) (goes_itself _) (goes_itself _) (joined_run m w s f i h)
joined_run m w _ _ _ (halves.cond c a fa ia d fd id s f i ha hd h) scope =
    joined_then (statement m w (If c a d) scope) (statement m w (If c fa fd) scope) (statement m w (If c ia id) scope) (run m w s) (run m w f) (run m w i) (joined_if m w scope c a fa ia d fd id (joined_run m w a fa ia ha scope) (joined_run m w d fd id hd scope))
    (halts_one m w (If c a d) scope)
    (head_if m w scope c a d fa fd (goes_run m w a fa (forward_pruned a fa ia ha) scope) (goes_run m w d fd (forward_pruned d fd id hd) scope))
    (head_if m w scope c a d ia id (goes_run m w a ia (inverse_pruned a fa ia ha) scope) (goes_run m w d id (inverse_pruned d fd id hd) scope))
    (joined_run m w s f i h)
joined_run m w _ _ _ (halves.loop class at body fb ib s f i hb h) scope =
    joined_then (statement m w (Foreach class body at) scope) (statement m w (Foreach class fb at) scope) (statement m w (Foreach class ib at) scope) (run m w s) (run m w f) (run m w i) (joined_loop m w scope class at body fb ib (joined_run m w body fb ib hb))
    (halts_one m w (Foreach class body at) scope) (head_loop m w scope class at body fb) (head_loop m w scope class at body ib) (joined_run m w s f i h)
joined_run m w _ _ _ (halves.away class at body s f i h) scope =
    rw (places_run m w (flat_map constant_numbers body) i scope) (joined_then (statement m w (Foreach class body at) scope) (statement m w (Foreach class body at) scope) (silent scope) (run m w s) (run m w f) (run m w i)
    (together_forward (statement m w (Foreach class body at) scope).said (statement m w (Foreach class body at) scope).faults)
    (halts_one m w (Foreach class body at) scope) (goes_itself _) (head_away m w scope class at body) (joined_run m w s f i h))
joined_run m w _ _ _ (halves.own who effect e at s f i h) scope =
    joined_then (statement m w (Assign who effect e at) scope) (statement m w (Assign who effect e at) scope) (silent scope) (run m w s) (run m w f) (run m w i)
    (together_forward (statement m w (Assign who effect e at) scope).said (statement m w (Assign who effect e at) scope).faults)
    (halts_one m w (Assign who effect e at) scope) (goes_itself _) (head_say m w scope who effect e at) (joined_run m w s f i h)
joined_run m w _ _ _ (halves.other who effect e at s f i h) scope =
    joined_then (statement m w (Assign who effect e at) scope) (silent scope) (statement m w (Assign who effect e at) scope) (run m w s) (run m w f) (run m w i)
    (together_inverse (statement m w (Assign who effect e at) scope).said (statement m w (Assign who effect e at) scope).faults)
    (halts_one m w (Assign who effect e at) scope) (head_say m w scope who effect e at) (goes_itself _) (joined_run m w s f i h)
