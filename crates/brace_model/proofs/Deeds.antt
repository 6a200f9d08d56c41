-- What statements do in turn: where they are cut short, and the scope in which they go on.
use Rattle.std.proofs.Common.{◌≡◌, ◌∙◌, refl, sym, subst, List, [], ◌∷◌, ◌++◌, map, ap, Bool, true, false, Some, Ok, Err, arith}
use Rattle.std.specs.Prelude.{is_none, if◌then◌else◌}
use Rattle.std.specs.List.{Contains}
use Rattle.std.proofs.lemmas.List.Elements.{Contains-append_left, Contains-append_right}
use Rattle.brace_model.specs.declared.program.Value.{Value}
use Rattle.brace_model.specs.declared.program.Value.TheVariants.{Int, Fixed, Flag}
use Rattle.brace_model.specs.declared.program.Stmt.{Stmt}
use Rattle.brace_model.specs.declared.program.Program.{Program}
use Rattle.brace_model.specs.declared.fault.Fault.{Fault}
use Rattle.brace_model.specs.declared.world.Agent.{Agent}
use Rattle.brace_model.specs.Value.{Scope, Worth, value, agent_of}
use Rattle.brace_model.specs.Query.{Deed, silent, deed_of, followed_by, block, chosen, inside, statement, query_fault, bound, saying}
use Rattle.brace_model.proofs.Blocks as b
use Rattle.brace_model.proofs.Blocks.{Plain, plain}
use Rattle.brace_model.proofs.ValueEquations.{statement-Const, statement-If, statement-Foreach, statement-Assign}

-- what the statements of a block do in turn
abbrev pub run : Program → List Agent → List Stmt → Scope → Deed
run m w s = block (map (statement m w) s)

-- what was done before stands before what is done then
abbrev pub after : Deed → Deed → Deed
after d next = record next { said = d.said ++ next.said; faults = d.faults ++ next.faults }

pub goes_to : (d : Deed) (next : Scope → Deed) → d.stopped ≡ false → followed_by d next ≡ after d (next d.scope)
goes_to d next e = rw e refl

pub stops_at : (d : Deed) (next : Scope → Deed) → d.stopped ≡ true → followed_by d next ≡ d
stops_at d next e = rw e refl

either_way : (P : Type 0) (x : Bool) → (x ≡ true → P) → (x ≡ false → P) → P
either_way P true f g = f refl
either_way P false f g = g refl

pub by_stop : (P : Type 0) (d : Deed) → (d.stopped ≡ true → P) → (d.stopped ≡ false → P) → P
by_stop P d = either_way P d.stopped

not_both : (P : Type 0) (x : Bool) → x ≡ true → x ≡ false → P
not_both P true e g = absurd (cc)
not_both P false e g = absurd (cc)

pub never_both : (P : Type 0) (d : Deed) → d.stopped ≡ true → d.stopped ≡ false → P
never_both P d = not_both P d.stopped

-- what was found is found with what follows
pub grown : (d : Deed) (next : Scope → Deed) (g : Fault) → Contains d.faults g → Contains (followed_by d next).faults g
grown d next g h = by_stop (Contains (followed_by d next).faults g) d
    (λ stopped. subst (λ x. Contains x.faults g) (sym (stops_at d next stopped)) h)
    (λ on. subst (λ x. Contains x.faults g) (sym (goes_to d next on)) (Contains-append_left d.faults (next d.scope).faults g h))

pub by_choice : (P : Deed → Type 0) (v : Value) (a d : Deed) → P a → P d → P (chosen v a d)
by_choice P (Flag true) a d ha hd = ha
by_choice P (Flag false) a d ha hd = hd
by_choice P (Int n) a d ha hd = hd
by_choice P (Fixed n) a d ha hd = hd

-- a loop's agent stands in the one place or in the other
pub inside_either : (P : Scope → Type 0) (scope : Scope) (a : Agent) → P (record scope { outer = Some a }) → P (record scope { inner = Some a }) → P (inside scope a)
inside_either P scope a first second = either (is_none scope.outer)
  where
    either : (x : Bool) → P (if x then record scope { outer = Some a } else record scope { inner = Some a })
    either true = first
    either false = second

-- a deed that was cut short met a fault
abbrev pub Halts : Deed → Type 0
Halts d = d.stopped ≡ true → (g : Fault) × Contains d.faults g

never_halts : (d : Deed) → d.stopped ≡ false → Halts d
never_halts d on stopped = never_both _ d stopped on

halts_deed : (scope : Scope) (v : Worth) (next : Value → Deed) → ((x : Value) → Halts (next x)) → Halts (deed_of scope v next)
halts_deed scope (Ok x) next h = h x
halts_deed scope (Err stop) next h = λ e. (query_fault scope stop, (0, omega arith, refl))

halts_then : (d : Deed) (next : Scope → Deed) → Halts d → ((scope : Scope) → Halts (next scope)) → Halts (followed_by d next)
halts_then d next h n = by_stop (Halts (followed_by d next)) d
    (λ stopped. subst Halts (sym (stops_at d next stopped)) h)
    (λ on. subst Halts (sym (goes_to d next on)) (λ e. let (g, w) = n d.scope e in (g, Contains-append_right d.faults (next d.scope).faults g w)))

module _ (m : Program) (w : List Agent) where
  halts_as : (x : Stmt) (d : Deed) (scope : Scope) → statement m w x scope ≡ d → Halts d → Halts (statement m w x scope)
  halts_as x d scope is h = subst Halts (sym is) h

  pub halts : (s : List Stmt) → Plain s → (scope : Scope) → Halts (run m w s scope)
  halts _ b.none scope = never_halts (silent scope) refl
  halts _ (b.const n e s h) scope =
      halts_then _ (run m w s) (halts_as _ _ scope (statement-Const m w n e scope) (halts_deed scope (value e scope) _ (λ v. never_halts (silent (bound scope n v)) refl))) (halts s h)
  halts _ (b.cond c x y s hx hy h) scope =
      halts_then _ (run m w s) (halts_as _ _ scope (statement-If m w c x y scope) (halts_deed scope (value c scope) _ (λ v. by_choice Halts v (run m w x scope) (run m w y scope) (halts x hx scope) (halts y hy scope)))) (halts s h)
  halts _ (b.loop class at body s hb h) scope =
      halts_then _ (run m w s) (halts_as _ _ scope (statement-Foreach m w class body at scope) (λ stopped. absurd (cc))) (halts s h)
  halts _ (b.say who effect e at s h) scope =
      halts_then _ (run m w s) (halts_as _ _ scope (statement-Assign m w who effect e at scope) (halts_deed scope (value e scope) _ (λ v. never_halts (saying scope (agent_of scope who) effect v) refl))) (halts s h)

  pub halts_one : (x : Stmt) (scope : Scope) → Halts (statement m w x scope)
  halts_one x scope stopped =
      let same = stops_at (statement m w x scope) (run m w []) stopped in
      let (g, h) = halts (x ∷ []) (plain (x ∷ [])) scope (ap (λ d. d.stopped) same ∙ stopped) in
      (g, subst (λ d. Contains d.faults g) same h)
