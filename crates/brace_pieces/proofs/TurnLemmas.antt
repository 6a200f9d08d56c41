-- What the next turn of an actor is, by where its course stands.
use Rattle.std.proofs.Common.{◌≡◌, ◌∙◌, refl, sym, subst, ℕ, ◌+◌, ◌-◌, length, Option, Some, None, arith, inl, inr}
use Rattle.std.proofs.lemmas.Bool.{cases_lt}
use Rattle.brace_core.specs.declared.name.Name.{Name}
use Rattle.brace_core.specs.declared.name.Turn.{Turn}
use Rattle.brace_core.specs.declared.name.Turn.TheVariants.{Put, Take, Work, Done}
use Rattle.brace_core.specs.Exchanges.{IsPut, IsTake}
use Rattle.brace_pieces.specs.declared.setting.Step.{Step}
use Rattle.brace_pieces.specs.Courses.{OnCourse, IsCourse, step_of, others_of, turn_in, turn_of, due_on, gone_on}
use Rattle.brace_pieces.specs.Turns.{PutsNext, TakesNext, WorksNext}
use Rattle.brace_pieces.proofs.CourseLemmas.{goes_behind, put_there, take_there, work_there, course_turn}

-- a turn is next
abbrev pub IsNext : OnCourse → Turn → Type 0
IsNext c (Put n) = PutsNext c n
IsNext c (Take n) = TakesNext c n
IsNext c Work = (at : Step) × WorksNext c at
IsNext c Done = Unit {0}

next_is : (c : OnCourse) → IsNext c (turn_of c)
next_is c = by_step (step_of c) refl
  where
    by_step : (o : Option Step) → step_of c ≡ o → IsNext c (turn_in c.number c.actor (others_of c) c.made o)
    by_step None stands = tt
    by_step (Some at) stands =
        let count : ℕ = length (others_of c) in
        elim (cases_lt c.made count) [
          | inl low ↦ subst (IsNext c) (sym (put_there c.number c.actor (others_of c) c.made 0 low)) (record { at = at; stands = stands; low = low; same = refl })
          | inr high ↦ elim (cases_lt (c.made - count) count) [
            | inl low ↦
                subst (IsNext c) (sym (take_there c.number c.actor (others_of c) c.made (c.made - count) 0 (omega (arith, high)) low))
                (record { at = at; stands = stands; high = high; low = low; same = refl })
            | inr up ↦ subst (IsNext c) (sym (work_there c.number c.actor (others_of c) c.made (omega (arith, high, up)))) (at, record { stands = stands; high = omega (arith, high, up) })
          ]
        ]

-- a put is the one of its name, and so is a take
pub put_of : (t : Turn) → IsPut t → (n : Name) × (t ≡ Put n)
put_of (Put n) is = (n, refl)
put_of _ is = absurd is

pub take_of : (t : Turn) → IsTake t → (n : Name) × (t ≡ Take n)
take_of (Take n) is = (n, refl)
take_of _ is = absurd is

-- the same where the schedule says it
module _ (c : OnCourse) (h : IsCourse c) (t : Turn) (due : due_on c ≡ t) where
  pub due_next : IsNext c t
  due_next = subst (IsNext c) (course_turn c h ∙ due) (next_is c)

  pub due_left : (t ≡ Done → ⊥) → turn_of c ≡ Done → ⊥
  due_left other done = other (sym due ∙ sym (course_turn c h) ∙ done)

-- where it stands behind its work
pub place_is : (c d : OnCourse) → d ≡ gone_on c → (at : Step) → WorksNext c at → d ≡ record c { number = c.number + 1; made = 0 }
place_is c d place at turn = place ∙ goes_behind c at turn.stands turn.high
