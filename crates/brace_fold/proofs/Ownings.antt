-- Agents in columns that are owned: as lists, and in the order of their ids.
use Rattle.std.proofs.Common.{◌≡◌, ◌∙◌, refl, sym, ap, ap₂, ℕ, ◌<◌, List, [], ◌∷◌, ◌++◌, ◌+◌, map, length, get_or, slice_get, take, Some, arith, append_assoc}
use Rattle.std.proofs.lemmas.List.{take_more}
use Rattle.std.proofs.lemmas.Option.{get_or_from_slice_get, slice_get-get_or}
use Rattle.brace_num.proofs.Lists.{same_parts}
use Rattle.brace_model.specs.declared.program.Program.{Program}
use Rattle.brace_model.specs.declared.world.Agent.{Agent}
use Rattle.brace_fold.specs.declared.columns.Columns.{Columns}
use Rattle.brace_fold.specs.declared.order.Moved.{Moved}
use Rattle.brace_fold.specs.Listed.{agents_by, agents_in}
use Rattle.brace_fold.specs.Rows.{row_in, rows_in, words_of, IsPicked}
use Rattle.brace_fold.specs.Asked.{by_row, no_agent}
use Rattle.brace_fold.proofs.Survivings.{row-at, rows-long}

-- columns that are owned, as they are lent
pub lent-are : (program : Program) (moved : Moved) (columns : Columns)
    → columns.classes.now ≡ moved.classes.items → columns.ids.now ≡ moved.ids.items
    → words_of columns ≡ moved.states.items → rows_in program columns ≡ agents_in program moved
lent-are program moved columns classes ids_is words =
    ap (λ l. agents_by program l columns.ids.now (words_of columns)) classes
    ∙ ap (λ l. agents_by program moved.classes.items l (words_of columns)) ids_is
    ∙ ap (agents_by program moved.classes.items moved.ids.items) words

-- the agent of a row is there
pub agent-there : (program : Program) (columns : Columns) (row : ℕ) (a : Agent)
    → row < length columns.ids.now → a ≡ row_in program columns row
    → slice_get (rows_in program columns) row ≡ Some a
agent-there program columns row a low is =
    let long : row < length (rows_in program columns) =
    omega (arith, low, rows-long program columns) in
    slice_get-get_or (rows_in program columns) row a long
    ∙ ap Some (row-at program columns row a low ∙ sym is)

-- the agents of some rows
pub picked-row : (agents these : List Agent) (rows : List ℕ) → IsPicked rows agents these
    → by_row agents rows ≡ these
picked-row agents [] [] e = refl
picked-row agents (a ∷ these) [] e =
    absurd (let none : [] ≡ Some a ∷ map Some these = e in cc)
picked-row agents [] (row ∷ rows) e =
    absurd (let none : slice_get agents row ∷ map (slice_get agents) rows ≡ [] = e in cc)
picked-row agents (a ∷ these) (row ∷ rows) e =
    let (here, rest) = same_parts (slice_get agents row) (Some a) (map (slice_get agents) rows)
    (map Some these) e in
    ap₂ (λ x l. x ∷ l) (get_or_from_slice_get agents row a no_agent here)
    (picked-row agents these rows rest)

-- one agent more
pub added : (agents more : List Agent) (k : ℕ) (a : Agent) → k < length more → a ≡ get_or more k a
    → (agents ++ take k more) ++ a ∷ [] ≡ agents ++ take (k + 1) more
added agents more k a low is =
    append_assoc agents (take k more) (a ∷ [])
    ∙ ap (λ x. agents ++ (take k more ++ x ∷ [])) is
    ∙ ap (λ l. agents ++ l) (sym (take_more more k a low))
