-- How many values agents in columns have.
use Rattle.std.proofs.Common.{◌≡◌, ◌∙◌, refl, sym, ap, ap₂, ℕ, suc, ◌+◌, List, [], ◌∷◌, map, length, true, false, Option, Some, None}
use Rattle.std.specs.Prelude.{nat_le, slice_get, sum_by}
use Rattle.std.specs.Cmp.Lexicographic.{pointwise}
use Rattle.std.specs.List.{list_all}
use Rattle.std.proofs.lemmas.Bool.{and_parts, true≢false}
use Rattle.std.proofs.lemmas.List.{length-map}
use Rattle.std.proofs.lemmas.List.Sums.{sum_by-cons}
use Rattle.brace_model.specs.declared.program.Class.{Class}
use Rattle.brace_model.specs.declared.program.Program.{Program}
use Rattle.brace_model.specs.declared.program.State.{State}
use Rattle.brace_model.specs.declared.program.Ty.{Ty}
use Rattle.brace_model.specs.declared.world.Agent.{Agent}
use Rattle.brace_model.specs.Lawful.{has_states, is_lawful_agent}
use Rattle.brace_model.specs.Step.{count_values, greatest_id}
use Rattle.brace_model.specs.Typing.{same_type, type_of_value}
use Rattle.brace_model.specs.World.{class_of}
use Rattle.brace_pieces.specs.Censuses.{values_in}

-- how many values agents of some classes have
abbrev pub count_in : Program → List ℕ → ℕ
count_in program classes = sum_by (λ class. values_in (slice_get program.classes class)) classes

same_long : (ts us : List Ty) → pointwise same_type ts us ≡ true → length us ≡ length ts
same_long [] [] h = refl
same_long [] (u ∷ us) h = absurd (true≢false (sym h))
same_long (t ∷ ts) [] h = absurd (true≢false (sym h))
same_long (t ∷ ts) (u ∷ us) h =
    ap suc (same_long ts us (and_parts (same_type t u) (pointwise same_type ts us) h).1)

-- a lawful agent has the values of its class
values_are : (program : Program) (a : Agent) → is_lawful_agent program a ≡ true
    → length a.states ≡ values_in (class_of program a)
values_are program a lawful = by (class_of program a)
    (and_parts (nat_le a.id greatest_id) (has_states (class_of program a) a) lawful).1
  where
    by : (o : Option Class) → has_states o a ≡ true → length a.states ≡ values_in o
    by None h = absurd (true≢false (sym h))
    by (Some class) h =
        sym (length-map a.states type_of_value)
        ∙ same_long (map (λ (s : State). s.ty) class.states) (map type_of_value a.states) h
        ∙ length-map class.states (λ (s : State). s.ty)

pub counted_rows : (program : Program) (agents : List Agent)
    → list_all (is_lawful_agent program) agents ≡ true
    → count_in program (map (λ a. a.class) agents) ≡ count_values agents
counted_rows program [] lawful = refl
counted_rows program (a ∷ agents) lawful =
    let (here, rest) =
    and_parts (is_lawful_agent program a) (list_all (is_lawful_agent program) agents) lawful in
    sum_by-cons (λ class. values_in (slice_get program.classes class)) a.class
    (map (λ (b : Agent). b.class) agents)
    ∙ ap₂ (λ m n. m + n) (sym (values_are program a here)) (counted_rows program agents rest)
    ∙ sym (sum_by-cons (λ (b : Agent). length b.states) a agents)
