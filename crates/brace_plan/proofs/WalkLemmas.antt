-- What is left of a block and of a loop, and what it adds.
use Rattle.std.proofs.Common.{◌≡◌, ◌∙◌, sym, refl, ap, subst, ℕ, ◌+◌, ◌<◌, List, [], ◌∷◌, ◌++◌, map, filter, length, drop, get_or, Bool, true, false, ◌&&◌, cond, append-nil, Some, Result, Ok, Err, zero, suc, arith}
use Rattle.std.specs.Prelude.{◌==◌, IfOk}
use Rattle.std.specs.Result.{result_ok}
use Rattle.std.specs.List.{list_all}
use Rattle.std.proofs.lemmas.List.{drop_more}
use Rattle.brace_num.proofs.Lists.{filter_twice}
use Rattle.brace_model.specs.declared.fault.Fault.{Fault}
use Rattle.brace_model.specs.declared.program.Value.{Value}
use Rattle.brace_model.specs.declared.world.Agent.{Agent}
use Rattle.brace_model.specs.World.{sees}
use Rattle.brace_model.specs.Value.{Scope}
use Rattle.brace_model.specs.Query.{Saying, Deed, followed_by, closed, chosen, inside, iterated}
use Rattle.brace_model.proofs.Deeds.{after, goes_to, stops_at}
use Rattle.brace_grid.specs.Grids.{place_of}
use Rattle.brace_code.specs.declared.code.Code.{Code}
use Rattle.brace_code.specs.Codes.{gives}
use Rattle.brace_plan.specs.declared.action.Action.{Action}
use Rattle.brace_plan.specs.declared.action.Action.TheVariants.{If}
use Rattle.brace_plan.specs.declared.action.Bound.{Bound}
use Rattle.brace_plan.specs.declared.answer.Answer.{Answer}
use Rattle.brace_plan.specs.declared.seat.Scene.{Scene}
use Rattle.brace_plan.specs.declared.seat.Seat.{Seat}
use Rattle.brace_plan.specs.Acts.{meets, near_by}
use Rattle.brace_plan.specs.inner.Walks.{Adds, act_in, block_in, is_taken, is_true, loop_in, agents_at, scope_at, worth_in}
use Rattle.brace_plan.proofs.AnswerLemmas.{adds-alike, adds-first, adds-second, adds-then, adds-value}
use Rattle.brace_plan.proofs.Steps.{act-If}

-- ---- blocks

module _ (scene : Scene) (items body : List Action) (i : ℕ) (s : Action) (same : items ≡ body) (low : i < length items) (is : s ≡ get_or items i s) where
  turn : (here : Scope) → block_in scene (drop i body) here ≡ followed_by (act_in scene s here) (block_in scene (drop (i + 1) body))
  turn here =
      let within : i < length body = subst (λ (l : List Action). i < length l) same low in
      let got : s ≡ get_or body i s = subst (λ (l : List Action). s ≡ get_or l i s) same is in
      ap (λ (l : List Action). block_in scene l here) (drop_more body i s within ∙ ap (λ (x : Action). x ∷ drop (i + 1) body) (sym got))

  -- an action is cut short, and with it the block
  pub halts : (here : Scope) → (act_in scene s here).stopped ≡ true → block_in scene (drop i body) here ≡ act_in scene s here
  halts here cut = turn here ∙ stops_at (act_in scene s here) (block_in scene (drop (i + 1) body)) cut

  -- an action is done, and the block goes on in the scope that it leaves
  pub goes_on : (here next : Scope) → (act_in scene s here).stopped ≡ false → (act_in scene s here).scope ≡ next
      → block_in scene (drop i body) here ≡ after (act_in scene s here) (block_in scene (drop (i + 1) body) next)
  goes_on here next on at =
      turn here ∙ goes_to (act_in scene s here) (block_in scene (drop (i + 1) body)) on
      ∙ ap (λ (p : Scope). after (act_in scene s here) (block_in scene (drop (i + 1) body) p)) at

-- what `if` adds: what its condition comes to, and what the block does that this chooses
pub adds-if : (scene : Scene) (seat : Seat) (seed : ℕ) (locals : List Value) (e : Action)
    (code : Code) (a b : List Action) (v : Value) (t : Bool) (before first last : Answer) (now : ℕ)
    → e ≡ If code a b → result_ok (gives code (scope_at scene seat seed locals)) ≡ Some v
    → Adds scene (worth_in (scope_at scene seat seed locals) code) before first
    → is_true v ≡ t → now ≡ seed
    → Adds scene (block_in scene (cond t a b) (scope_at scene seat now locals)) first last
    → Adds scene (act_in scene e (scope_at scene seat seed locals)) before last
adds-if scene seat seed locals e code a b v t before first last now is value added side same does =
    subst (λ (d : Deed). Adds scene d before last)
    (sym (ap (λ (z : Action). act_in scene z here) is
    ∙ act-If scene.program.now scene.agents.now code a b here))
    (adds-value scene here (gives code here) (λ u. closed here (chosen u x y)) v before first last
    value added (by_side t side (subst
    (λ (n : ℕ). Adds scene (block_in scene (cond t a b) (scope_at scene seat n locals)) first last)
    same does)))
  where
    here : Scope
    here = scope_at scene seat seed locals

    x : Deed
    x = block_in scene a here

    y : Deed
    y = block_in scene b here

    by_side : (u : Bool) → is_true v ≡ u → Adds scene (block_in scene (cond u a b) here) first last
        → Adds scene (closed here (chosen v x y)) first last
    by_side true is h = adds-first scene here v x y first last is h
    by_side false is h = adds-second scene here v x y first last is h

-- ---- loops

module _ (scene : Scene) (scope : Scope) (class : ℕ) (bounds : List Bound) (body : List Action) where
  abbrev does : List Agent → Deed
  does = loop_in scene scope class bounds body

  -- one agent, and then others
  pub visits-more : (x : Agent) (xs : List Agent) (a b c : Answer) → Adds scene (does (x ∷ [])) a b → Adds scene (does xs) b c
      → Adds scene (does (x ∷ xs)) a c
  visits-more x xs a b c first second = by_test (is_taken scene scope class bounds x) refl
    where
      deed : Agent → Deed
      deed y = block_in scene body (inside scope y)

      at : Bool → List Agent → Deed
      at t ys = iterated scope (map deed (cond t (x ∷ ys) ys))

      ends : (t : Bool) → at t [] ≡ does (x ∷ []) → at t (filter (is_taken scene scope class bounds) xs) ≡ does (x ∷ xs)
          → Adds scene (does (x ∷ xs)) a c
      ends true one all =
          let h : Adds scene (at true []) a b = subst (λ (d : Deed). Adds scene d a b) (sym one) first in
          subst (λ (d : Deed). Adds scene d a c) all
          (adds-alike scene (after (at true []) (does xs)) (at true (filter (is_taken scene scope class bounds) xs)) a c
          (ap (λ (l : List Saying). l ++ (does xs).said) (append-nil (deed x).said))
          (ap (λ (l : List Fault). l ++ (does xs).faults) (append-nil (deed x).faults))
          (adds-then scene (at true []) (does xs) a b c h second))
      ends false one all =
          let h : Adds scene (at false []) a b = subst (λ (d : Deed). Adds scene d a b) (sym one) first in
          subst (λ (d : Deed). Adds scene d a c) all
          (adds-alike scene (after (at false []) (does xs)) (at false (filter (is_taken scene scope class bounds) xs)) a c refl refl
          (adds-then scene (at false []) (does xs) a b c h second))

      by_test : (t : Bool) → is_taken scene scope class bounds x ≡ t → Adds scene (does (x ∷ xs)) a c
      by_test t is =
          ends t (ap (λ (u : Bool). at u []) (sym is)) (ap (λ (u : Bool). at u (filter (is_taken scene scope class bounds) xs)) (sym is))

  -- what is left of some places
  pub visit : (near : List ℕ) (k : ℕ) (d x : Agent) (a b c : Answer) → k < length near → x ≡ get_or scene.agents.now (get_or near k 0) d
      → Adds scene (does (x ∷ [])) a b → Adds scene (does (agents_at scene d (drop (k + 1) near))) b c
      → Adds scene (does (agents_at scene d (drop k near))) a c
  visit near k d x a b c low is first second =
      let next : agents_at scene d (drop k near) ≡ x ∷ agents_at scene d (drop (k + 1) near) =
      ap (agents_at scene d) (drop_more near k 0 low) ∙ ap (λ (y : Agent). y ∷ agents_at scene d (drop (k + 1) near)) (sym is) in
      subst (λ (l : List Agent). Adds scene (does l) a c) (sym next)
      (visits-more x (agents_at scene d (drop (k + 1) near)) a b c first second)

  -- a loop takes those of a class that `this` sees and that meet all bounds
  pub loop-near : iterated scope (map (λ b. block_in scene body (inside scope b)) (near_by scene.program.now scene.agents.now scope class bounds))
      ≡ does scene.agents.now
  loop-near =
      ap (λ (l : List Agent). iterated scope (map (λ b. block_in scene body (inside scope b)) l))
      (filter_twice (λ b. list_all (meets scope (place_of scene.program.now b)) bounds) (λ b. (b.class == class) && sees scene.program.now scope.this b) scene.agents.now)

  pub same-visits : (xs ys : List Agent) (a b : Answer) → filter (is_taken scene scope class bounds) xs ≡ filter (is_taken scene scope class bounds) ys
      → Adds scene (does xs) a b → Adds scene (does ys) a b
  same-visits xs ys a b same h =
      subst (λ (l : List Agent). Adds scene (iterated scope (map (λ y. block_in scene body (inside scope y)) l)) a b) same h

-- another default gives the same element
pub any-default : (xs : List Agent) (i : ℕ) (d e : Agent) → i < length xs → get_or xs i d ≡ get_or xs i e
any-default [] i d e low = absurd (omega (arith, low))
any-default (x ∷ xs) zero d e low = refl
any-default (x ∷ xs) (suc i) d e low = any-default xs i d e (omega (arith, low))

pub if_ok : {T E : Type 0} (r : Result T E) (P Q : T → Type 0) → ((x : T) → P x → Q x) → IfOk r P → IfOk r Q
if_ok (Ok x) P Q f h = f x h
if_ok (Err e) P Q f h = h
