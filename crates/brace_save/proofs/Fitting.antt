-- Values that fit, read from texts.
use Rattle.std.proofs.Common.{◌≡◌, ◌∙◌, ℕ, ℤ, Bool, Option, Some, None, List, [], ◌∷◌, ◌++◌, true, refl, ap₂, subst}
use Rattle.std.specs.Prelude.{◌&&◌, option_map}
use Rattle.std.specs.List.{list_all}
use Rattle.std.proofs.lemmas.List.Folds.{list_all-append}
use Rattle.std.proofs.lemmas.Option.{same_Some}
use Rattle.brace_num.specs.Spelling.{int_of, fixed_of}
use Rattle.brace_num.proofs.Spellings.{int_reads, fixed_reads}
use Rattle.brace_model.specs.declared.program.Ty.{Ty}
use Rattle.brace_model.specs.declared.program.Ty.TheVariants as ty
use Rattle.brace_model.specs.declared.program.Value.{Value}
use Rattle.brace_model.specs.declared.program.Value.TheVariants.{Int, Fixed, Flag}
use Rattle.brace_rows.specs.AgentFile.{flag_of, value_of}
use Rattle.brace_save.specs.Texts.{value_fits}

-- one more value that fits
pub fit_more : (values : List Value) (v : Value) → list_all value_fits values ≡ true → value_fits v ≡ true → list_all value_fits (values ++ v ∷ []) ≡ true
fit_more values v all one = list_all-append value_fits values (v ∷ []) ∙ ap₂ (λ a b. a && (b && true)) all one
