-- A class of four fixed states.
use Rattle.std.proofs.Common.{◌≡◌, ◌∙◌, refl, sym, ap, List, [], ◌∷◌, length, map, Some, arith}
use Rattle.std.specs.Prelude.{slice_get}
use Rattle.std.specs.List.{list_all}
use Rattle.std.specs.Cmp.Lexicographic.{pointwise}
use Rattle.brace_model.specs.declared.program.Ty.TheVariants as ty
use Rattle.brace_model.specs.declared.program.Class.{Class}
use Rattle.brace_model.specs.declared.program.State.{State}
use Rattle.brace_model.specs.Typing.{same_type}
use Rattle.brace_rows.specs.MadeAgents.{is_four_fixed}

-- the types of four states
four_are : (states : List State) → length states ≡ 4
    → list_all (λ (s : State). same_type s.ty ty.Fixed) states ≡ pointwise same_type (map (λ (s : State). s.ty) states) (ty.Fixed ∷ ty.Fixed ∷ ty.Fixed ∷ ty.Fixed ∷ [])
four_are (a ∷ b ∷ c ∷ d ∷ []) four = refl
four_are _ four = absurd (omega (arith, four))

-- the first class of a program, where it has four states
pub first_is_fixed : (classes : List Class) (class : Class) (states : List State) → slice_get classes 0 ≡ Some class → states ≡ class.states → length states ≡ 4
    → list_all (λ (s : State). same_type s.ty ty.Fixed) states ≡ is_four_fixed (slice_get classes 0)
first_is_fixed classes class states first are four =
    four_are states four
    ∙ ap (λ (l : List State). pointwise same_type (map (λ (s : State). s.ty) l) (ty.Fixed ∷ ty.Fixed ∷ ty.Fixed ∷ ty.Fixed ∷ [])) are
    ∙ ap is_four_fixed (sym first)
