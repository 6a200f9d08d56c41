-- What code gives in the lanes of a crowd, it gives in the scopes that these stand for.
use Rattle.std.proofs.Common.{◌≡◌, ◌∙◌, refl, sym, ap, subst, ℕ, zero, suc, ◌<◌, ℤ, pos, List, [], ◌∷◌, map, length, get_or, Bool, true, false, Option, Some, None, Ok, arith, slice_get}
use Rattle.std.specs.Prelude.{option_copied, unwrap_or, if◌then◌else◌}
use Rattle.std.proofs.lemmas.Option.{get_or_from_slice_get, none-some}
use Rattle.brace_draw.specs.Draw.{draw_value}
use Rattle.brace_model.specs.declared.program.Value.{Value}
use Rattle.brace_model.specs.declared.program.Who.TheVariants.{This, Outer, Inner}
use Rattle.brace_model.specs.declared.world.Agent.{Agent}
use Rattle.brace_model.specs.World.{number, value_at}
use Rattle.brace_model.specs.Value.{Scope, typed}
use Rattle.brace_code.specs.declared.code.Code.{Code}
use Rattle.brace_code.specs.declared.code.Operand.{Operand}
use Rattle.brace_code.specs.declared.code.Operand.TheVariants.{Word, Field, Total, Local, Rand}
use Rattle.brace_code.specs.declared.lane.Frame.{Frame}
use Rattle.brace_code.specs.declared.lane.Lane.{Lane}
use Rattle.brace_code.specs.Codes.{gives, type_given}
use Rattle.brace_code.specs.Lanes.{Gives, column_of, row_of, number_in, draws_at}
use Rattle.brace_fold.specs.declared.crowd.Crowd.{Crowd}
use Rattle.brace_fold.specs.declared.scene.Scene.{Scene}
use Rattle.brace_fold.specs.inner.Crowds.{IsScene, IsLane, IsFound, Stands, has_outer, has_inner, rows}
use Rattle.brace_fold.specs.inner.Deeds.{Worths}
use Rattle.brace_fold.proofs.ColumnLemmas.{copied-view}

-- a place of a column that a function makes
pub at-mapped : {A : Type 0} (f : A → ℤ) (xs : List A) (p : ℕ) (d : A) → p < length (map f xs) → get_or (map f xs) p (pos 0) ≡ f (get_or xs p d)
at-mapped f [] p d low = absurd (omega (arith, low))
at-mapped f (x ∷ xs) zero d low = refl
at-mapped f (x ∷ xs) (suc p) d low = at-mapped f xs p d (omega (arith, low))

-- a scope is what it has
same-scope : (s : Scope) (tick seed : ℕ) (this : Agent) (outer inner : Option Agent) (locals : List Value) (totals : List ℤ)
    → tick ≡ s.tick → seed ≡ s.seed → this ≡ s.this → outer ≡ s.outer → inner ≡ s.inner → locals ≡ s.locals → totals ≡ s.totals
    → record { tick = tick; seed = seed; this = this; outer = outer; inner = inner; locals = locals; totals = totals } ≡ s
same-scope s tick seed this outer inner locals totals a b c d e f g =
    ap (λ x. let t : Scope = record { tick = x; seed = seed; this = this; outer = outer; inner = inner; locals = locals; totals = totals } in t) a
    ∙ ap (λ x. let t : Scope = record { tick = s.tick; seed = x; this = this; outer = outer; inner = inner; locals = locals; totals = totals } in t) b
    ∙ ap (λ x. let t : Scope = record { tick = s.tick; seed = s.seed; this = x; outer = outer; inner = inner; locals = locals; totals = totals } in t) c
    ∙ ap (λ x. let t : Scope = record { tick = s.tick; seed = s.seed; this = s.this; outer = x; inner = inner; locals = locals; totals = totals } in t) d
    ∙ ap (λ x. let t : Scope = record { tick = s.tick; seed = s.seed; this = s.this; outer = s.outer; inner = x; locals = locals; totals = totals } in t) e
    ∙ ap (λ x. let t : Scope = record { tick = s.tick; seed = s.seed; this = s.this; outer = s.outer; inner = s.inner; locals = x; totals = totals } in t) f
    ∙ ap (λ x. let t : Scope = record { tick = s.tick; seed = s.seed; this = s.this; outer = s.outer; inner = s.inner; locals = s.locals; totals = x } in t) g

module _ (scene : Scene) (crowd : Crowd) (scopes : List Scope) (is : IsScene scene) (stands : Stands scene crowd scopes) (d : Agent) (s0 : Scope) where
  abbrev found_at : Bool → ℕ → Option Agent
  found_at false p = None
  found_at true p = Some (get_or (rows scene) p d)

  -- the scope of any lane
  abbrev at : Lane → Scope
  at lane = record {
    tick = scene.tick;
    seed = scene.seed;
    this = get_or (rows scene) lane.this d;
    outer = found_at (has_outer crowd.depth) lane.outer;
    inner = found_at (has_inner crowd.depth) lane.inner;
    locals = (get_or scopes lane.place s0).locals;
    totals = [];
  }

  found-is : (there : Bool) (place : ℕ) (found : Option Agent) → IsFound there (rows scene) place found → found_at there place ≡ found
  found-is false place found h = sym h
  found-is true place found (b, same, got) =
      ap (λ (x : Agent). Some x) (get_or_from_slice_get (rows scene) place b d got) ∙ sym same

  at-lane : (k : ℕ) (l : Lane) → k < length scopes → at (get_or crowd.lanes k l) ≡ get_or scopes k s0
  at-lane k l low =
      let lane = get_or crowd.lanes k l in
      let s = get_or scopes k s0 in
      let h : IsLane scene crowd.depth lane s = stands.lanes k l s0 low in
      let this : get_or (rows scene) lane.this d ≡ s.this = get_or_from_slice_get (rows scene) lane.this s.this d h.this in
      let outer = found-is (has_outer crowd.depth) lane.outer s.outer h.outer in
      let inner = found-is (has_inner crowd.depth) lane.inner s.inner h.inner in
      let locals : (get_or scopes lane.place s0).locals ≡ s.locals = ap (λ n. (get_or scopes n s0).locals) (stands.numbered k l low) in
      same-scope s scene.tick scene.seed (get_or (rows scene) lane.this d) (found_at (has_outer crowd.depth) lane.outer)
      (found_at (has_inner crowd.depth) lane.inner) (get_or scopes lane.place s0).locals []
      (sym h.tick) (sym h.seed) this outer inner locals (sym h.totals)

  module _ (frame : Frame) (this : frame.this.now ≡ scene.states.now)
      (outer : frame.outer.now ≡ (if has_outer crowd.depth then scene.states.now else []))
      (inner : frame.inner.now ≡ (if has_inner crowd.depth then scene.states.now else []))
      (locals : (n : ℕ) (column : List ℤ) → option_copied (slice_get frame.locals.now n) ≡ Some column → slice_get crowd.locals.items n ≡ Some column)
      (totals : frame.totals.now ≡ []) (draws : frame.draws.now ≡ scene.draws.now) where
    state-there : (i p : ℕ) (column : List ℤ) → option_copied (slice_get scene.states.now i) ≡ Some column → p < length column
        → get_or column p (pos 0) ≡ number (value_at (get_or (rows scene) p d).states i)
    state-there i p column e low =
        let f : Agent → ℤ = λ a. number (value_at a.states i) in
        let so = is.states i column e in
        ap (λ c. get_or c p (pos 0)) so ∙ at-mapped f (rows scene) p d (subst (λ c. p < length c) so low)

    by-outer : (there : Bool) → frame.outer.now ≡ (if there then scene.states.now else []) → (i p : ℕ) (column : List ℤ) (t : Agent)
        → option_copied (slice_get frame.outer.now i) ≡ Some column → p < length column
        → get_or column p (pos 0) ≡ number (value_at (unwrap_or (found_at there p) t).states i)
    by-outer false same i p column t e low = absurd (none-some column (ap (λ l. option_copied (slice_get l i)) (sym same) ∙ e))
    by-outer true same i p column t e low = state-there i p column (ap (λ l. option_copied (slice_get l i)) (sym same) ∙ e) low

    by-inner : (there : Bool) → frame.inner.now ≡ (if there then scene.states.now else []) → (i p : ℕ) (column : List ℤ) (t : Agent)
        → option_copied (slice_get frame.inner.now i) ≡ Some column → p < length column
        → get_or column p (pos 0) ≡ number (value_at (unwrap_or (found_at there p) t).states i)
    by-inner false same i p column t e low = absurd (none-some column (ap (λ l. option_copied (slice_get l i)) (sym same) ∙ e))
    by-inner true same i p column t e low = state-there i p column (ap (λ l. option_copied (slice_get l i)) (sym same) ∙ e) low

    shows-each : (operand : Operand) (column : List ℤ) (lane : Lane) → column_of frame operand ≡ Some column → row_of operand lane < length column
        → get_or column (row_of operand lane) (pos 0) ≡ number_in (at lane) operand
    shows-each (Word n) column lane e low = absurd (none-some column e)
    shows-each (Field This i) column lane e low = state-there i lane.this column (ap (λ l. option_copied (slice_get l i)) (sym this) ∙ e) low
    shows-each (Field Outer i) column lane e low =
        by-outer (has_outer crowd.depth) outer i lane.outer column (get_or (rows scene) lane.this d) e low
    shows-each (Field Inner i) column lane e low =
        by-inner (has_inner crowd.depth) inner i lane.inner column (get_or (rows scene) lane.this d) e low
    shows-each (Total effect type site) column lane e low =
        absurd (none-some column (ap (λ l. option_copied (slice_get l effect)) (sym totals) ∙ e))
    shows-each (Local n) column lane e low = (stands.locals n column (locals n column e)).each lane.place s0 low
    shows-each (Rand site) column lane e low =
        let f : Agent → ℤ = λ a. pos (draw_value scene.seed scene.tick a.id site) in
        let so = is.draws site column (ap (λ l. draws_at l site) (sym draws) ∙ e) in
        ap (λ c. get_or c lane.this (pos 0)) so ∙ at-mapped f (rows scene) lane.this d (subst (λ c. lane.this < length c) so low)

    -- code gives its value in each scope
    gives-here : (code : Code) (words : List ℤ) → Gives code frame crowd.lanes words → (k : ℕ) → k < length scopes
        → gives code (get_or scopes k s0) ≡ Ok (typed (type_given code) (get_or words k (pos 0)))
    gives-here code words h k low =
        let none : Lane = record { this = 0; outer = 0; inner = 0; place = 0 } in
        ap (gives code) (sym (at-lane k none low))
        ∙ h.each at (record { each = shows-each }) k none (subst (λ n. k < n) (sym stands.long) low)

-- what lanes have, scopes have
pub worths-of : (scene : Scene) (crowd : Crowd) (frame : Frame) (code : Code) (words : List ℤ) → IsScene scene
    → frame.this.now ≡ scene.states.now
    → frame.outer.now ≡ (if has_outer crowd.depth then scene.states.now else [])
    → frame.inner.now ≡ (if has_inner crowd.depth then scene.states.now else [])
    → map (λ v. v.now) frame.locals.now ≡ crowd.locals.items → frame.totals.now ≡ [] → frame.draws.now ≡ scene.draws.now
    → Gives code frame crowd.lanes words → (scopes : List Scope) → Stands scene crowd scopes → Worths code scopes words
worths-of scene crowd frame code words is this outer inner locals totals draws h scopes stands = record {
  long = h.long ∙ stands.long;
  each = λ k s low. gives-here scene crowd scopes is stands s.this s frame this outer inner
      (λ n column e. copied-view frame.locals.now crowd.locals.items n column locals e) totals draws code words h k low;
}
