use Rattle.std.proofs.Common.{◌≡◌, ◌∙◌, ◌++◌, ◌≤◌, ap, inl, inr, length, map, refl, slice_get, sym, subst, ℕ, ℤ, List, Option, Some}
use Rattle.std.specs.Prelude.{◌⊎◌}
use Rattle.std.proofs.lemmas.Bool.{eqb-false, eqb-true}
use Rattle.std.proofs.lemmas.Option.{slice_get_read}
use Rattle.brace_model.specs.declared.program.State.{State}
use Rattle.brace_fold.specs.declared.outcome.Column.{Column}
use Rattle.brace_fold.specs.inner.Rulings.{rows_of}
use Rattle.brace_fold.proofs.Survivings.{held-number, no-state, outside, plain-number}
use Rattle.brace_fold.proofs.Walks.{on_ok}
use Rattle.brace_fold.proofs.surviving.push_state.Goals.{After-ruled-new, then-state-class, else-state-class}
use Rattle.brace_fold.proofs.surviving.push_state.Goals as goal

pub returns-in_default : goal.returns-in_default
returns-in_default c =
    let state = c.args.state in
    let past = subst (λ (l : List State). length l ≤ state) c.as_slice.ensures
    (outside c.as_slice.result.now state c.in_default.ensures.lookup.0) in
    on_ok c.push_numbers.result _ _ (λ is. is
    ∙ ap (λ (f : ℕ → ℤ). c.args.left.now ++ map f (rows_of c.args.living.now)) (λ i row. no-state
    c.args.own.now c.args.class.now c.args.out.now c.args.columns.now state row (inr past) i))
    c.push_numbers.ensures

pub returns-in_default-get : goal.returns-in_default-get
returns-in_default-get c =
    let state = c.args.state in
    let past = subst (λ (l : List (Option Column)). length l ≤ state) c.deref.ensures.value
    (outside c.deref.result.now state c.in_default-get.ensures.lookup.0) in
    on_ok c.push_numbers-in_default-get.result _ _ (λ is. is
    ∙ ap (λ (f : ℕ → ℤ). c.args.left.now ++ map f (rows_of c.args.living.now)) (λ i row. no-state
    c.args.own.now c.args.class.now c.args.out.now c.args.columns.now state row (inl past) i))
    c.push_numbers-in_default-get.ensures

-- the state, its rule and its column stand at its place
stand : (c : After-ruled-new)
    → (slice_get c.args.own.now.states c.args.state ≡ Some c.in-Some.of.now)
    × (slice_get c.args.out.now.states.items c.args.state ≡ Some c.in-Some-get.rule.now)
    × (slice_get c.args.columns.now.states.now c.args.state ≡ Some c.in-Some-get-2.column.now)
stand c =
    let state = c.args.state in
    let of = c.in-Some.of.now in
    let rule = c.in-Some-get.rule.now in (
      subst (λ (l : List State). slice_get l state ≡ Some of) c.as_slice.ensures
          (slice_get_read c.as_slice.result.now _ state of refl c.in-Some.ensures.lookup.3.0
          c.in-Some.ensures.lookup.1),
      subst (λ (l : List (Option Column)). slice_get l state ≡ Some rule) c.deref.ensures.value
          (slice_get_read c.deref.result.now _ state rule refl
          c.in-Some-get.ensures.lookup.3.0 c.in-Some-get.ensures.lookup.1),
      slice_get_read c.args.columns.now.states.now _ state c.in-Some-get-2.column.now refl
          c.in-Some-get-2.ensures.lookup.3.0 c.in-Some-get-2.ensures.lookup.1,
    )

pub returns-then-state-class-2 : goal.returns-then-state-class-2
returns-then-state-class-2 c =
    let state = c.args.state in
    let class = c.args.class.now in
    let (has, there, shown) = stand (goal.at.returns-then-state-class-2 c).After-ruled-new in
    let which : (state ≡ class.x) ⊎ (state ≡ class.y) = elim c.if-state-class.branch [
      | then-state-class w ↦ inl w.if-state-class.true
      | else-state-class w ↦
          inr (eqb-true state class.y (sym w.value-is ∙ c.if-state-class-2.true))
    ] in
    on_ok c.push_moved.result _ _ (λ is. is
    ∙ ap (λ (f : ℕ → ℤ). c.args.left.now ++ map f (rows_of c.args.living.now)) (λ i row. held-number
    c.args.own.now class c.args.out.now c.args.columns.now state row c.in-Some.of.now
    c.in-Some-get-2.column.now c.in-Some-get.rule.now has there shown _
    (c.ruled-new.ensures row) c.requires which i)) c.push_moved.ensures

pub returns-else-state-class-2 : goal.returns-else-state-class-2
returns-else-state-class-2 c =
    let state = c.args.state in
    let class = c.args.class.now in
    let (has, there, shown) = stand (goal.at.returns-else-state-class-2 c).After-ruled-new in
    let off-x : state ≡ class.x → ⊥ = elim c.if-state-class.branch [
      | then-state-class w ↦
          eqb-false state class.x (sym w.value-is ∙ c.if-state-class-2.false)
      | else-state-class w ↦ w.if-state-class.false
    ] in
    let off-y : state ≡ class.y → ⊥ = elim c.if-state-class.branch [
      | then-state-class w ↦ absurd (off-x w.if-state-class.true)
      | else-state-class w ↦
          eqb-false state class.y (sym w.value-is ∙ c.if-state-class-2.false)
    ] in
    on_ok c.push_numbers-else-state-class-2.result _ _ (λ is. is
    ∙ ap (λ (f : ℕ → ℤ). c.args.left.now ++ map f (rows_of c.args.living.now)) (λ i row. plain-number
    c.args.own.now class c.args.out.now c.args.columns.now state row c.in-Some.of.now
    c.in-Some-get-2.column.now c.in-Some-get.rule.now has there shown _
    (c.ruled-new.ensures row) off-x off-y i)) c.push_numbers-else-state-class-2.ensures
