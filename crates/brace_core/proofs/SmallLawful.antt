-- The small schedule is lawful, and so many turns its actors have in its first steps.
use Rattle.std.proofs.Common.{◌≡◌, refl, sym, ap, subst, ℕ, zero, suc, ◌*◌, ◌<◌, ◌≤◌, [], take, lit<, arith}
use Rattle.std.proofs.lemmas.List.{take_all}
use Rattle.brace_core.specs.Schedule.{IsLawful, IsLawfulStep, front, turns}
use Rattle.brace_core.specs.inner.Small.{parts, shows, small}
use Rattle.brace_core.proofs.Lawful.{lawful_empty, lawful_both}

parts_lawful : IsLawfulStep 3 parts
parts_lawful = lawful_both 3 0 1 [] (lit< tt) (lit< tt) (λ e. omega arith) refl (lawful_empty 3)

shows_lawful : IsLawfulStep 3 shows
shows_lawful = lawful_both 3 0 2 _ (lit< tt) (lit< tt) (λ e. omega arith) refl (lawful_both 3 1 2 [] (lit< tt) (lit< tt) (λ e. omega arith) refl (lawful_empty 3))

pub small_lawful : IsLawful small
small_lawful (suc (suc (suc zero))) d l = shows_lawful
small_lawful (suc (suc (suc (suc k)))) d l = absurd (omega arith)
small_lawful _ d l = parts_lawful

-- the turns in the first steps, of each part and of the publisher
pub part_turns : (n p : ℕ) → n < 4 → p < 3 → (p ≡ 2 → ⊥) → take (3 * n) (turns small p) ≡ turns (front small n) p
part_turns zero zero l m other = refl
part_turns zero (suc zero) l m other = refl
part_turns (suc zero) zero l m other = refl
part_turns (suc zero) (suc zero) l m other = refl
part_turns (suc (suc zero)) zero l m other = refl
part_turns (suc (suc zero)) (suc zero) l m other = refl
part_turns (suc (suc (suc zero))) zero l m other = refl
part_turns (suc (suc (suc zero))) (suc zero) l m other = refl
part_turns (suc (suc (suc (suc n)))) p l m other = absurd (omega (arith, l))
part_turns n (suc (suc zero)) l m other = absurd (other refl)
part_turns n (suc (suc (suc p))) l m other = absurd (omega (arith, m))

show_turns : (n : ℕ) → n < 4 → take (1 * n) (turns small 2) ≡ turns (front small n) 2
show_turns (suc (suc (suc (suc n)))) l = absurd (omega (arith, l))
show_turns _ l = refl

pub publisher_turns : (n p : ℕ) → n < 4 → p ≡ 2 → take (1 * n) (turns small p) ≡ turns (front small n) p
publisher_turns n p l is = subst (λ q. take (1 * n) (turns small q) ≡ turns (front small n) q) (sym is) (show_turns n l)

-- behind the last step they are all
pub all_turns : (n p : ℕ) → 4 ≤ n → turns (front small n) p ≡ turns small p
all_turns n p high = ap (λ steps. turns (record small { steps = steps }) p) (take_all n small.steps high)
