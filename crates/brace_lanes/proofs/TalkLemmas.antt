-- The names of two actors that meet in each step, and what their seats know.
use Rattle.std.proofs.Common.{◌≡◌, ◌<◌, ◌+◌, ◌%◌, ◌∙◌, ℕ, zero, suc, Bool, true, false, ◌∷◌, length, replicate, refl, sym, ap, subst, inl, inr, arith, true≢false}
use Rattle.std.specs.Prelude.{◌==◌, ◌&&◌, ◌||◌, Some, cond, slice_get}
use Rattle.std.proofs.lemmas.Bool.{cases_Bool, and_from, and_parts, eq-eqb, eqb-true, cond-true, cond-false}
use Rattle.brace_core.specs.declared.name.Name.{Name}
use Rattle.brace_core.specs.Schedule.{name, names_from, lane, meets}
use Rattle.brace_core.specs.Exchanges.{one_on}
use Rattle.brace_core.specs.Lanes.{AreBelow}
use Rattle.brace_core.specs.Exchanges.{Follows, IsAnswered}
use Rattle.brace_lanes.specs.declared.table.View.{View}
use Rattle.brace_lanes.specs.Seats.{IsSameSeat, puts_of, takes_of}
use Rattle.brace_lanes.specs.Views.{Serves}
use Rattle.brace_lanes.specs.inner.Talk.{HasTalked, both, talk}

both_below : (p q : ℕ) → meets both p q ≡ true → (p < 2) × (q < 2)
both_below p q e = elim (cases_Bool (0 == p && 1 == q)) [
  | inl x ↦
      let (a, b) = and_parts (0 == p) (1 == q) x in
      let ep = eqb-true 0 p a in
      let eq = eqb-true 1 q b in
      (omega (arith, ep), omega (arith, eq))
  | inr x ↦ elim (cases_Bool (1 == p && 0 == q)) [
    | inl y ↦
        let (a, b) = and_parts (1 == p) (0 == q) y in
        let ep = eqb-true 1 p a in
        let eq = eqb-true 0 q b in
        (omega (arith, ep), omega (arith, eq))
    | inr y ↦ absurd (true≢false (sym e ∙ λ i. x i || (y i || false)))
  ]
]

no_names : (i t p q : ℕ) → meets both p q ≡ false → length (names_from i (replicate t both) p q) ≡ 0
no_names i zero p q e = refl
no_names i (suc t) p q e = ap length (cond-false (meets both p q) (name i p q ∷ names_from (suc i) (replicate t both) p q) (names_from (suc i) (replicate t both) p q) e) ∙ no_names (suc i) t p q e

pub talk_below : (t : ℕ) → AreBelow (talk t) 2
talk_below t p q some = elim (cases_Bool (meets both p q)) [
  | inl e ↦ both_below p q e
  | inr e ↦ let none = no_names 0 t p q e in absurd (omega (arith, some, none))
]

at_turn : (i t p q k : ℕ) → meets both p q ≡ true → k < t → slice_get (names_from i (replicate t both) p q) k ≡ Some (name (i + k) p q)
at_turn i zero p q k e l = absurd (omega (arith, l))
at_turn i (suc t) p q zero e l = ap (λ ns. slice_get ns zero) (cond-true (meets both p q) (name i p q ∷ names_from (suc i) (replicate t both) p q) (names_from (suc i) (replicate t both) p q) e) ∙ ap (λ j. Some (name j p q)) (omega arith)
at_turn i (suc t) p q (suc k) e l =
    let z : suc i + k ≡ i + suc k = omega arith in
    ap (λ ns. slice_get ns (suc k)) (cond-true (meets both p q) (name i p q ∷ names_from (suc i) (replicate t both) p q) (names_from (suc i) (replicate t both) p q) e) ∙ at_turn (suc i) t p q k e (omega (arith, l)) ∙ ap (λ j. Some (name j p q)) z

meet : (p q : ℕ) → p + q ≡ 1 → meets both p q ≡ true
meet zero zero e = absurd (omega (arith, e))
meet zero (suc zero) e = refl
meet zero (suc (suc q)) e = absurd (omega (arith, e))
meet (suc zero) zero e = refl
meet (suc zero) (suc q) e = absurd (omega (arith, e))
meet (suc (suc p)) q e = absurd (omega (arith, e))

-- the next name of two that talk
pub next_turn : (t p q k : ℕ) → p + q ≡ 1 → k < t → slice_get (lane (talk t) p q) k ≡ Some (name k p q)
next_turn t p q k e l = let z : 0 + k ≡ k = omega arith in at_turn 0 t p q k (meet p q e) l ∙ ap (λ j. Some (name j p q)) z

one_here : (n : Name) → one_on n n.from n.to ≡ 1
one_here n = cond-true {A = ℕ} (n.from == n.from && n.to == n.to) 1 0 (and_from (n.from == n.from) (n.to == n.to) (eq-eqb n.from n.from refl) (eq-eqb n.to n.to refl))

module _ {S : Type 0} (steps_of : S → ℕ) (v : View S) (setting : S) (own other k m : ℕ) (h : HasTalked v setting own other k m) (apart : own + other ≡ 1) where
  pub says_next : k < steps_of setting → Follows (talk (steps_of v.setting)) (puts_of v) (name k own other)
  says_next few = ap (slice_get (lane (talk (steps_of v.setting)) own other)) h.put ∙ next_turn (steps_of v.setting) own other k apart (subst (λ s. k < steps_of s) (sym h.setting_is) few)

  pub says_answered : k ≡ m → IsAnswered (puts_of v) (takes_of v) (name k own other)
  says_answered level = h.put ∙ level ∙ sym h.taken

  pub hears_next : m < steps_of setting → Follows (talk (steps_of v.setting)) (takes_of v) (name m other own)
  hears_next few = ap (slice_get (lane (talk (steps_of v.setting)) other own)) h.taken ∙ next_turn (steps_of v.setting) other own m (omega (arith, apart)) (subst (λ s. m < steps_of s) (sym h.setting_is) few)

  module _ (w : View S) (same : IsSameSeat v w) where
    still : Serves w own
    still = (λ i. own % same.seats i) ∙ h.serves ∙ sym same.number

    pub has_said : ((p q : ℕ) → puts_of w p q ≡ puts_of v p q + one_on (name k own other) p q) → ((p q : ℕ) → takes_of w p q ≡ takes_of v p q) → HasTalked w setting own other (k + 1) m
    has_said put taken = record {
      setting_is = same.setting ∙ h.setting_is;
      serves = still;
      put = put own other ∙ (λ i. h.put i + one_here (name k own other) i);
      taken = taken other own ∙ h.taken;
    }

    pub has_heard : (found : Bool) → found ≡ true → ((p q : ℕ) → puts_of w p q ≡ puts_of v p q) → ((p q : ℕ) → takes_of w p q ≡ takes_of v p q + cond found (one_on (name m other own) p q) 0) → HasTalked w setting own other k (m + 1)
    has_heard found is put taken = record {
      setting_is = same.setting ∙ h.setting_is;
      serves = still;
      put = put own other ∙ h.put;
      taken = taken other own ∙ (λ i. h.taken i + cond (is i) (one_here (name m other own) i) 0);
    }
