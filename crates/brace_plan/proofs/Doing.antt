-- Actions that do what statements do.
use Rattle.std.proofs.Common.{◌≡◌, ◌∙◌, refl, sym, ap, ap₂, subst, ℕ, Bool, true, false, List, [], ◌∷◌, ◌++◌, map, filter, flat_map, length, Some, Ok, Err, append_assoc, append-nil, arith}
use Rattle.std.specs.Prelude.{◌&&◌, ◌==◌, nat_lt, slice_get}
use Rattle.std.specs.List.{list_all, concat}
use Rattle.std.proofs.lemmas.Bool.{and_parts}
use Rattle.std.proofs.lemmas.Bool.Decides.{nat_tests}
use Rattle.std.proofs.lemmas.List.{map-append, length-set}
use Rattle.std.proofs.lemmas.List.Folds.{list_all-append}
use Rattle.std.proofs.lemmas.List.Concat.{flat_map-append}
use Rattle.brace_num.proofs.Lists.{filter_twice}
use Rattle.brace_model.specs.declared.program.Ty.{Ty}
use Rattle.brace_model.specs.declared.program.Value.{Value}
use Rattle.brace_model.specs.declared.program.Who.{Who}
use Rattle.brace_model.specs.declared.program.Program.{Program}
use Rattle.brace_model.specs.declared.program.Expr.{Expr}
use Rattle.brace_model.specs.declared.program.Stmt.{Stmt}
use Rattle.brace_model.specs.declared.program.Stmt.TheVariants as stmt
use Rattle.brace_model.specs.declared.world.Agent.{Agent}
use Rattle.brace_model.specs.World.{sees}
use Rattle.brace_model.specs.Sites.{constant_numbers}
use Rattle.brace_model.specs.Value.{Scope, Worth, value, agent_of}
use Rattle.brace_model.specs.Query.{Deed, silent, deed_of, followed_by, block, bound, closed, chosen, inside, iterated, seen_by, saying, statement}
use Rattle.brace_model.specs.Typing.{Names, within_loop, type_of}
use Rattle.brace_model.proofs.Deeds.{after, goes_to, stops_at, by_stop, never_both, inside_either}
use Rattle.brace_model.proofs.Simulation.{Tie, IsTie, Over, Either, over_tests, tied_loop}
use Rattle.brace_model.proofs.TypeLemmas.{sound}
use Rattle.brace_model.proofs.ValueEquations.{statement-Const, statement-If, statement-Foreach, statement-Assign}
use Rattle.brace_model.proofs.LawEquations.{constant_numbers-Const, constant_numbers-If, constant_numbers-Foreach}
use Rattle.brace_code.specs.declared.code.Code.{Code}
use Rattle.brace_code.specs.Codes.{Computes, gives}
use Rattle.brace_grid.specs.Grids.{place_of}
use Rattle.brace_plan.specs.declared.action.Bound.{Bound}
use Rattle.brace_plan.specs.declared.action.Action.{Action}
use Rattle.brace_plan.specs.declared.action.Action.TheVariants as action
use Rattle.brace_plan.specs.Narrowing.{nested, bounds_over}
use Rattle.brace_plan.specs.Acts.{meets, near_by, act, acts}
use Rattle.brace_plan.specs.inner.Doing.{Suits, has_room, variable_of, Same, DoesOne, Does, DoesAll}
use Rattle.brace_plan.proofs.Formed.{IsFormed}
use Rattle.brace_plan.proofs.Narrowed.{Quiet, quiet}
use Rattle.brace_plan.proofs.Steps.{act-Const, act-If, act-Foreach, act-Assign}
use Rattle.brace_plan.proofs.Suiting.{bound_suits, inside_suits, one_lawful}

-- ---- deeds in turn

followed_silent : (d : Deed) → followed_by d (block []) ≡ d
followed_silent d = by_stop (followed_by d (block []) ≡ d) d (stops_at d (block []))
    (λ on. goes_to d (block []) on ∙ (λ i. record { said = append-nil d.said i; faults = append-nil d.faults i; stopped = sym on i; scope = d.scope }))

followed_twice : (d : Deed) (f g h : Scope → Deed) → ((s : Scope) → f s ≡ followed_by (g s) h) → followed_by d f ≡ followed_by (followed_by d g) h
followed_twice d f g h same = by_stop (followed_by d f ≡ followed_by (followed_by d g) h) d
    (λ stopped. stops_at d f stopped ∙ sym (ap (λ z. followed_by z h) (stops_at d g stopped) ∙ stops_at d h stopped))
    (λ on. goes_to d f on ∙ ap (after d) (same d.scope) ∙ joined (g d.scope) ∙ sym (ap (λ z. followed_by z h) (goes_to d g on)))
  where
    joined : (e : Deed) → after d (followed_by e h) ≡ followed_by (after d e) h
    joined e = by_stop (after d (followed_by e h) ≡ followed_by (after d e) h) e
        (λ stopped. ap (after d) (stops_at e h stopped) ∙ sym (stops_at (after d e) h stopped))
        (λ on. ap (after d) (goes_to e h on)
        ∙ (λ i. record { said = sym (append_assoc d.said e.said (h e.scope).said) i; faults = sym (append_assoc d.faults e.faults (h e.scope).faults) i; stopped = (h e.scope).stopped; scope = (h e.scope).scope })
        ∙ sym (goes_to (after d e) h on))

block_more : (fs : List (Scope → Deed)) (f : Scope → Deed) (scope : Scope) → block (fs ++ f ∷ []) scope ≡ followed_by (block fs scope) f
block_more [] f scope = followed_silent (f scope)
block_more (g ∷ fs) f scope = followed_twice (g scope) (block (fs ++ f ∷ [])) (block fs) f (block_more fs f)

-- ---- room for constants

room_split : (scope : Scope) (s r : List Stmt) → has_room scope (s ++ r) ≡ true → (has_room scope s ≡ true) × (has_room scope r ≡ true)
room_split scope s r e =
    let fits : ℕ → Bool = λ n. nat_lt n (length scope.locals) in
    and_parts _ _ (sym (list_all-append fits (flat_map constant_numbers s) (flat_map constant_numbers r)) ∙ sym (ap (list_all fits) (flat_map-append constant_numbers s r)) ∙ e)

room_same : (scope next : Scope) (s : List Stmt) → length next.locals ≡ length scope.locals → has_room scope s ≡ true → has_room next s ≡ true
room_same scope next s same e = ap (λ k. list_all (λ n. nat_lt n k) (flat_map constant_numbers s)) same ∙ e

concat_numbers : (s : List Stmt) → concat (map constant_numbers s) ≡ flat_map constant_numbers s
concat_numbers [] = refl
concat_numbers (x ∷ s) = ap (λ ns. constant_numbers x ++ ns) (concat_numbers s)

-- room for a statement with such numbers
room_of : (scope : Scope) (x : Stmt) (ns : List ℕ) → constant_numbers x ≡ ns → has_room scope (x ∷ []) ≡ true → list_all (λ n. nat_lt n (length scope.locals)) ns ≡ true
room_of scope x ns is e = sym (ap (list_all (λ n. nat_lt n (length scope.locals))) (append-nil (constant_numbers x) ∙ is)) ∙ e

-- ---- one statement

module _ (program : Program) (world : List Agent) (last : Names) (scope : Scope) where
  -- the same deed in place of others
  same_as : (d e f g : Deed) → d ≡ e → g ≡ f → Same program world last scope e f → Same program world last scope d g
  same_as d e f g is was h = subst (λ x. Same program world last scope x g) (sym is) (subst (Same program world last scope e) (sym was) h)

  same_deed : (w u : Worth) (f g : Value → Deed) → w ≡ u → ((v : Value) → u ≡ Ok v → Same program world last scope (f v) (g v)) → Same program world last scope (deed_of scope w f) (deed_of scope u g)
  same_deed w u f g is each = subst (λ x. Same program world last scope (deed_of scope x f) (deed_of scope u g)) (sym is) (by_worth u each)
    where
      by_worth : (x : Worth) → ((v : Value) → x ≡ Ok v → Same program world last scope (f v) (g v)) → Same program world last scope (deed_of scope x f) (deed_of scope x g)
      by_worth (Ok v) h = h v refl
      by_worth (Err stop) h = record { deed = refl; suits = λ e. absurd (cc); room = refl }

same_chosen : (v : Value) (a b c d : Deed) → a ≡ c → b ≡ d → chosen v a b ≡ chosen v c d
same_chosen v a b c d first second = ap₂ (chosen v) first second

module _ (names : Names) (e : Expr) (t : Ty) (code : Code) (typed : type_of e names ≡ Some t) (computes : Computes names e t code) where
  pub does_const : (n : ℕ) (last : Names) → last ≡ record names { known = (n, t) ∷ names.known } → DoesOne names last (stmt.Const n e) (action.Const n code)
  does_const n last is = subst (λ k. DoesOne names k (stmt.Const n e) (action.Const n code)) (sym is) (record {
    each = λ program world scope suits room.
        same_as program world (record names { known = (n, t) ∷ names.known }) scope _ _ _ _ (act-Const program world n code scope) (statement-Const program world n e scope)
        (same_deed program world (record names { known = (n, t) ∷ names.known }) scope (gives code scope) (value e scope) (λ v. silent (bound scope n v)) (λ v. silent (bound scope n v)) (computes.value scope suits.fits) (λ v was.
        record {
          deed = refl;
          suits = λ on. bound_suits program world names scope n v t suits (and_parts _ _ (room_of scope (stmt.Const n e) (n ∷ []) (constant_numbers-Const n e) room)).0
              (sound e names scope suits.fits t typed v was);
          room = length-set scope.locals n v;
        }));
  })

  pub does_assign : (who : Who) (effect at : ℕ) → DoesOne names names (stmt.Assign who effect e at) (action.Assign who effect code)
  does_assign who effect at = record {
    each = λ program world scope suits room.
        same_as program world names scope _ _ _ _ (act-Assign program world who effect code scope) (statement-Assign program world who effect e at scope)
        (same_deed program world names scope (gives code scope) (value e scope) (saying scope (agent_of scope who) effect) (saying scope (agent_of scope who) effect) (computes.value scope suits.fits) (λ v was.
        record { deed = refl; suits = λ on. suits; room = refl }));
  }

  pub does_if : (a b : List Stmt) (x y : List Action) → DoesAll names a x → DoesAll names b y → DoesOne names names (stmt.If e a b) (action.If code x y)
  does_if a b x y (after_a, first) (after_b, second) = record {
    each = λ program world scope suits room.
        let parts = room_of scope (stmt.If e a b) _ (constant_numbers-If e a b) room in
        let fits : ℕ → Bool = λ n. nat_lt n (length scope.locals) in
        let (room_a, room_b) = and_parts _ _ (sym (list_all-append fits (concat (map constant_numbers a)) (concat (map constant_numbers b))) ∙ parts) in
        let in_a = first.each program world scope suits (sym (ap (list_all fits) (concat_numbers a)) ∙ room_a) in
        let in_b = second.each program world scope suits (sym (ap (list_all fits) (concat_numbers b)) ∙ room_b) in
        same_as program world names scope _ _ _ _ (act-If program world code x y scope) (statement-If program world e a b scope)
        (same_deed program world names scope (gives code scope) (value e scope) (λ v. closed scope (chosen v (acts program world x scope) (acts program world y scope)))
        (λ v. closed scope (chosen v (block (map (statement program world) a) scope) (block (map (statement program world) b) scope))) (computes.value scope suits.fits) (λ v was.
        record { deed = ap (closed scope) (same_chosen v _ _ _ _ in_a.deed in_b.deed); suits = λ on. suits; room = refl }));
  }

-- ---- loops

-- deeds that say and find the same
abbrev Alike : Tie
Alike p f q g = (p ≡ q) × (f ≡ g)

alike_tie : IsTie Alike
alike_tie = record {
  none = (refl, refl);
  join = λ p f q g pp ff qq gg h k. (ap₂ (λ x y. x ++ y) h.0 k.0, ap₂ (λ x y. x ++ y) h.1 k.1);
}

alike : (d e : Deed) → d ≡ e → Alike d.said d.faults e.said e.faults
alike d e is = (ap (λ x. x.said) is, ap (λ x. x.faults) is)

-- what is owed of an agent that a loop may leave out
either_way : (f g : Agent → Deed) (x : Agent) (seen held : Bool) → (seen ≡ true → f x ≡ g x) → (seen ≡ true → held ≡ false → Quiet (g x)) → Either Alike f g x (seen && held) seen
either_way f g x true true same far = alike (f x) (g x) (same refl)
either_way f g x true false same far = let q = far refl refl in (sym q.said, sym q.faults)
either_way f g x false held same far = tt

same_class : (b : Agent) (class : ℕ) → (b.class == class) ≡ true → b.class ≡ class
same_class b class e = grind (arith, nat_tests, e)

pub does_loop : (names within : Names) (class at : ℕ) (body : List Stmt) (bounds : List Bound) (actions : List Action) → within_loop names class ≡ Some within → IsFormed body within
    → bounds ≡ bounds_over (map nested body) (variable_of names.outer_class) (slice_get names.classes class) → DoesAll within body actions
    → DoesOne names names (stmt.Foreach class body at) (action.Foreach class bounds actions at)
does_loop names within class at body bounds actions entered formed is (after_body, does) = record {
  each = λ program world scope suits room. record {
    deed = act-Foreach program world class bounds actions at scope ∙ looped program world scope suits room ∙ sym (statement-Foreach program world class body at scope);
    suits = λ on. subst (λ d. Suits program world names d.scope) (sym (statement-Foreach program world class body at scope)) suits;
    room = ap (λ d. length d.scope.locals) (statement-Foreach program world class body at scope);
  };
}
  where
    looped : (program : Program) (world : List Agent) (scope : Scope) → Suits program world names scope → has_room scope (stmt.Foreach class body at ∷ []) ≡ true
        → iterated scope (map (λ b. acts program world actions (inside scope b)) (near_by program world scope class bounds))
        ≡ iterated scope (map (λ b. block (map (statement program world) body) (inside scope b)) (seen_by program world scope.this class))
    looped program world scope suits room =
        let acting : Agent → Deed = λ b. acts program world actions (inside scope b) in
        let stating : Agent → Deed = λ b. block (map (statement program world) body) (inside scope b) in
        let seen : Agent → Bool = λ b. (b.class == class) && sees program scope.this b in
        let held : Agent → Bool = λ b. list_all (meets scope (place_of program b)) bounds in
        let fits : ℕ → Bool = λ n. nat_lt n (length scope.locals) in
        let parts = room_of scope (stmt.Foreach class body at) _ (constant_numbers-Foreach class body at) room in
        let room_in : has_room scope body ≡ true = sym (ap (list_all fits) (concat_numbers body)) ∙ parts in
        let over : Over Alike acting (filter (λ b. seen b && held b) world) stating (filter seen world) =
        over_tests Alike alike_tie acting stating (λ b. seen b && held b) seen world (λ b found.
        either_way acting stating b (seen b) (held b)
        (λ sees_it. (does.each program world (inside scope b)
        (inside_suits program world names within scope b class suits entered (one_lawful program world b suits.agents found) (same_class b class (and_parts _ _ sees_it).0))
        (inside_either (λ s. has_room s body ≡ true) scope b room_in room_in)).deed)
        (λ sees_it far. quiet program world names within scope b class body bounds suits formed (same_class b class (and_parts _ _ sees_it).0) is far)) in
        let tied = tied_loop Alike alike_tie scope acting stating _ _ (subst (λ xs. Over Alike acting xs stating (filter seen world)) (sym (filter_twice held seen world)) over) in
        (λ i. record { said = tied.tie.0 i; faults = tied.tie.1 i; stopped = false; scope = scope })

-- ---- blocks

pub does_more : (names mid last : Names) (s : List Stmt) (x : Stmt) (actions : List Action) (y : Action) → Does names mid s actions → DoesOne mid last x y → Does names last (s ++ x ∷ []) (actions ++ y ∷ [])
does_more names mid last s x actions y first second = record {
  each = λ program world scope suits room.
      let (room_s, room_x) = room_split scope s (x ∷ []) room in
      let done = first.each program world scope suits room_s in
      same_as program world last scope _ _ _ _
      (ap (λ fs. block fs scope) (map-append (act program world) actions (y ∷ [])) ∙ block_more (map (act program world) actions) (act program world y) scope
      ∙ ap (λ d. followed_by d (act program world y)) done.deed)
      (ap (λ fs. block fs scope) (map-append (statement program world) s (x ∷ [])) ∙ block_more (map (statement program world) s) (statement program world x) scope)
      (onto program world scope (block (map (statement program world) s) scope) done.suits done.room room_x);
}
  where
    onto : (program : Program) (world : List Agent) (scope : Scope) (d : Deed) → (d.stopped ≡ false → Suits program world mid d.scope) → length d.scope.locals ≡ length scope.locals → has_room scope (x ∷ []) ≡ true
        → Same program world last scope (followed_by d (act program world y)) (followed_by d (statement program world x))
    onto program world scope d suits same room = by_stop (Same program world last scope (followed_by d (act program world y)) (followed_by d (statement program world x))) d
        (λ stopped. same_as program world last scope _ d d _ (stops_at d (act program world y) stopped) (stops_at d (statement program world x) stopped)
        (record { deed = refl; suits = λ on. never_both _ d stopped on; room = same }))
        (λ on. let next = second.each program world d.scope (suits on) (room_same scope d.scope (x ∷ []) same room) in
        same_as program world last scope _ (after d (act program world y d.scope)) (after d (statement program world x d.scope)) _
        (goes_to d (act program world y) on) (goes_to d (statement program world x) on)
        (record { deed = ap (after d) next.deed; suits = next.suits; room = next.room ∙ same }))
