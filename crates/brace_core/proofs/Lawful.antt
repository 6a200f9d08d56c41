-- Lawful schedules: their names are between their actors, and steps made pair by pair are lawful.
use Rattle.std.proofs.Common.{◌≡◌, ℕ, ◌+◌, ◌<◌, ◌≤◌, Bool, true, false, cond, ◌==◌, ◌&&◌, ◌||◌, List, [], ◌∷◌, length, count_by, refl, sym, ap, ◌∙◌, arith, inl, inr}
use Rattle.std.proofs.lemmas.Bool.{eqb-true, ne_eqb, and_parts, or_cases, cases_lt, cases_Bool, true≢false, cond-true, cond-false}
use Rattle.std.proofs.lemmas.List.Sums.{sum_by-cons}
use Rattle.brace_core.specs.Schedule.{Pair, Schedule, IsLawful, IsLawfulStep, is_pair, meets, lane}
use Rattle.brace_core.specs.Lanes.{AreBelow}
use Rattle.brace_core.proofs.CoreLaw.{lawful_steps, lane_outside, lane_outside_to}
use Rattle.brace_num.proofs.Booleans.{and_swap}

-- the names of a lawful schedule are between its actors
pub names_below : (s : Schedule) → IsLawful s → AreBelow s s.actors
names_below s lawful p q some = (below p q some, below_to p q some)
  where
    below : (p q : ℕ) → 0 < length (lane s p q) → p < s.actors
    below p q some = elim (cases_lt p s.actors) [
      | inl low ↦ low
      | inr high ↦ absurd (omega (arith, ap length (lane_outside 0 s.actors s.steps (lawful_steps s lawful) p q high)))
    ]

    below_to : (p q : ℕ) → 0 < length (lane s p q) → q < s.actors
    below_to p q some = elim (cases_lt q s.actors) [
      | inl low ↦ low
      | inr high ↦ absurd (omega (arith, ap length (lane_outside_to 0 s.actors s.steps (lawful_steps s lawful) p q high)))
    ]

pub lawful_empty : (actors : ℕ) → IsLawfulStep actors []
lawful_empty actors = record { below = λ p q no. absurd (true≢false (sym no)); different = λ p. refl; both_ways = λ p q. refl; once = λ p q. omega arith }

abbrev pub ordered : ℕ → ℕ → Pair
ordered p q = record { from = p; to = q }

abbrev pub both : ℕ → ℕ → List Pair → List Pair
both p q step = ordered p q ∷ ordered q p ∷ step

or_swap : (a b c : Bool) → (a || (b || c)) ≡ (b || (a || c))
or_swap true true c = refl
or_swap true false c = refl
or_swap false true c = refl
or_swap false false c = refl

pub none_counted : (p q : ℕ) (step : List Pair) → meets step p q ≡ false → count_by (is_pair p q) step ≡ 0
none_counted p q [] e = refl
none_counted p q (pair ∷ step) e = elim (cases_Bool (is_pair p q pair)) [
  | inl is ↦ absurd (true≢false (sym (ap (λ v. v || meets step p q) is) ∙ e))
  | inr other ↦
      let here : cond {A = ℕ} (is_pair p q pair) 1 0 ≡ 0 = cond-false (is_pair p q pair) 1 0 other in
      let rest : count_by (is_pair p q) step ≡ 0 = none_counted p q step (sym (ap (λ v. v || meets step p q) other) ∙ e) in
      omega (arith, sum_by-cons (λ (x : Pair). cond (is_pair p q x) 1 0) pair step)
]

-- two more actors that meet, which did not meet before
module _ (actors p q : ℕ) (step : List Pair) (p_low : p < actors) (q_low : q < actors) (differ : p ≡ q → ⊥) (new : meets step p q ≡ false) (lawful : IsLawfulStep actors step) where
  pub lawful_both : IsLawfulStep actors (both p q step)
  lawful_both = record { below = below; different = different; both_ways = both_ways; once = once }
    where
      is_at : (a b c d : ℕ) → is_pair a b (ordered c d) ≡ true → (c ≡ a) × (d ≡ b)
      is_at a b c d e = let (x, y) = and_parts (c == a) (d == b) e in (eqb-true _ _ x, eqb-true _ _ y)

      below : (a b : ℕ) → meets (both p q step) a b ≡ true → a < actors
      below a b e = elim (or_cases (is_pair a b (ordered p q)) (is_pair a b (ordered q p) || meets step a b) e) [
        | inl one ↦ let (x, y) = is_at a b p q one in omega arith
        | inr more ↦ elim (or_cases (is_pair a b (ordered q p)) (meets step a b) more) [
          | inl other ↦ let (x, y) = is_at a b q p other in omega arith
          | inr rest ↦ lawful.below a b rest
        ]
      ]

      different : (a : ℕ) → meets (both p q step) a a ≡ false
      different a = elim (cases_Bool (meets (both p q step) a a)) [
        | inl e ↦ absurd (elim (or_cases (is_pair a a (ordered p q)) (is_pair a a (ordered q p) || meets step a a) e) [
          | inl one ↦ let (x, y) = is_at a a p q one in differ (x ∙ sym y)
          | inr more ↦ elim (or_cases (is_pair a a (ordered q p)) (meets step a a) more) [
            | inl other ↦ let (x, y) = is_at a a q p other in differ (y ∙ sym x)
            | inr rest ↦ true≢false (sym rest ∙ lawful.different a)
          ]
        ])
        | inr no_meeting ↦ no_meeting
      ]

      both_ways : (a b : ℕ) → meets (both p q step) a b ≡ meets (both p q step) b a
      both_ways a b =
          ap (λ v. v || (is_pair a b (ordered q p) || meets step a b)) (and_swap (p == a) (q == b))
          ∙ ap (λ v. is_pair b a (ordered q p) || (v || meets step a b)) (and_swap (q == a) (p == b))
          ∙ ap (λ v. is_pair b a (ordered q p) || (is_pair b a (ordered p q) || v)) (lawful.both_ways a b)
          ∙ or_swap (is_pair b a (ordered q p)) (is_pair b a (ordered p q)) (meets step b a)

      once : (a b : ℕ) → count_by (is_pair a b) (both p q step) ≤ 1
      once a b =
          let f : Pair → ℕ = λ x. cond (is_pair a b x) 1 0 in
          let first : count_by (is_pair a b) (both p q step) ≡ f (ordered p q) + count_by (is_pair a b) (ordered q p ∷ step) = sum_by-cons f (ordered p q) (ordered q p ∷ step) in
          let second : count_by (is_pair a b) (ordered q p ∷ step) ≡ f (ordered q p) + count_by (is_pair a b) step = sum_by-cons f (ordered q p) step in
          elim (cases_Bool (is_pair a b (ordered p q))) [
            | inl one ↦ let (x, y) = is_at a b p q one in
                let here : f (ordered p q) ≡ 1 = cond-true (is_pair a b (ordered p q)) 1 0 one in
                let not_other : is_pair a b (ordered q p) ≡ false = ap (λ v. v && (p == b)) (ne_eqb q a (λ e. differ (x ∙ sym e))) in
                let there : f (ordered q p) ≡ 0 = cond-false (is_pair a b (ordered q p)) 1 0 not_other in
                let rest : count_by (is_pair a b) step ≡ 0 = none_counted a b step (ap (λ c. meets step c b) (sym x) ∙ ap (meets step p) (sym y) ∙ new) in
                omega arith
            | inr not_one ↦
                let here : f (ordered p q) ≡ 0 = cond-false (is_pair a b (ordered p q)) 1 0 not_one in
                elim (cases_Bool (is_pair a b (ordered q p))) [
                  | inl other ↦ let (x, y) = is_at a b q p other in
                      let there : f (ordered q p) ≡ 1 = cond-true (is_pair a b (ordered q p)) 1 0 other in
                      let rest : count_by (is_pair a b) step ≡ 0 = none_counted a b step (ap (λ c. meets step c b) (sym x) ∙ ap (meets step q) (sym y) ∙ lawful.both_ways q p ∙ new) in
                      omega arith
                  | inr not_other ↦
                      let there : f (ordered q p) ≡ 0 = cond-false (is_pair a b (ordered q p)) 1 0 not_other in
                      let rest : count_by (is_pair a b) step ≤ 1 = lawful.once a b in
                      omega arith
                ]
          ]
