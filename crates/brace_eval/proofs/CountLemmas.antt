-- The table of counts: that of the program whose effects all count.
use Rattle.std.proofs.Common.{◌≡◌, ◌∙◌, sym, refl, ap, ℕ, ◌+◌, ◌<◌, pos, ℤ, List, [], ◌∷◌, ◌++◌, length, take, get_or, map, Option, Some, None}
use Rattle.std.specs.Prelude.{slice_get, option_map}
use Rattle.std.proofs.lemmas.Option.{slice_get-map}
use Rattle.std.proofs.lemmas.List.{length-append, length-map}
use Rattle.brace_model.specs.declared.program.Class.{Class}
use Rattle.brace_model.specs.declared.program.Effect.{Effect}
use Rattle.brace_model.specs.declared.program.Program.{Program}
use Rattle.brace_model.specs.declared.world.Agent.{Agent}
use Rattle.brace_model.specs.World.{class_of}
use Rattle.brace_model.specs.Query.{Saying}
use Rattle.brace_model.specs.Total.{identity}
use Rattle.brace_eval.specs.Heard.{counted, counting, counting_class, effects_in, row_of, table_of}
use Rattle.brace_eval.proofs.TableLemmas.{row-length, more-rows}

counted-in : (o : Option Class) → effects_in (option_map counting_class o) ≡ map counted (effects_in o)
counted-in None = refl
counted-in (Some class) = refl

pub counted-effects : (program : Program) (a : Agent)
    → effects_in (class_of (counting program) a) ≡ map counted (effects_in (class_of program a))
counted-effects program a =
    ap effects_in (slice_get-map counting_class program.classes a.class) ∙ counted-in (class_of program a)

-- an effect, or none, stands where it counts
pub counted-at : (program : Program) (a : Agent) (k : ℕ) (o : Option Effect)
    → slice_get (effects_in (class_of program a)) k ≡ o
    → slice_get (effects_in (class_of (counting program) a)) k ≡ option_map counted o
counted-at program a k o is =
    ap (λ (l : List Effect). slice_get l k) (counted-effects program a)
    ∙ slice_get-map counted (effects_in (class_of program a)) k ∙ ap (option_map counted) is

counts-length : (program : Program) (xs : List Saying) (a : Agent)
    → length (row_of (counting program) xs a) ≡ length (row_of program xs a)
counts-length program xs a =
    row-length 0 a.id (effects_in (class_of (counting program) a)) xs
    ∙ ap length (counted-effects program a) ∙ length-map (effects_in (class_of program a)) counted
    ∙ sym (row-length 0 a.id (effects_in (class_of program a)) xs)

-- the two tables are of one length
pub counts-long : (program : Program) (xs : List Saying) (agents : List Agent)
    → length (table_of (counting program) xs agents) ≡ length (table_of program xs agents)
counts-long program xs [] = refl
counts-long program xs (a ∷ agents) =
    length-append (row_of (counting program) xs a) (table_of (counting program) xs agents)
    ∙ ap (λ (n : ℕ). n + length (table_of (counting program) xs agents)) (counts-length program xs a)
    ∙ ap (λ (n : ℕ). length (row_of program xs a) + n) (counts-long program xs agents)
    ∙ sym (length-append (row_of program xs a) (table_of program xs agents))

zeros : (effects : List Effect)
    → map (λ (e : Effect). identity e.comb) (map counted effects) ≡ map (λ (e : Effect). pos 0) effects
zeros [] = refl
zeros (e ∷ effects) = ap (λ (l : List ℤ). pos 0 ∷ l) (zeros effects)

-- the counts of no value, of one agent more
pub more-counts : (program : Program) (agents : List Agent) (i : ℕ) (a : Agent) (table : List ℤ) → i < length agents
    → a ≡ get_or agents i a → table ≡ table_of (counting program) [] (take i agents)
    → table ++ map (λ (e : Effect). pos 0) (effects_in (class_of program a)) ≡ table_of (counting program) [] (take (i + 1) agents)
more-counts program agents i a table le is so =
    ap (λ (l : List ℤ). table ++ l)
    (sym (ap (map (λ (e : Effect). identity e.comb)) (counted-effects program a) ∙ zeros (effects_in (class_of program a))))
    ∙ more-rows (counting program) agents i a table le is so
