-- The text that tells how a script is run: its range, its classes, what narrows its loops, what its
-- agents say to other agents, and where each site stands.
use Rattle.std.specs.Prelude.{ℕ, List, [], ◌∷◌, ◌++◌, flat_map, length, slice_get, slice_index_or, codes, Bool, true, false, if◌then◌else◌, Option, Some, None, is_none}
use Rattle.std.specs.List.{range_with_len}
use Rattle.brace_num.specs.Spelling.{canonical_count, canonical_fixed}
use Rattle.brace_model.specs.declared.program.Who.{Who}
use Rattle.brace_model.specs.declared.program.Who.TheVariants.{This, Outer, Inner}
use Rattle.brace_model.specs.declared.program.Effect.{Effect}
use Rattle.brace_model.specs.declared.program.Class.{Class}
use Rattle.brace_model.specs.declared.program.Stmt.{Stmt}
use Rattle.brace_model.specs.declared.program.Stmt.TheOpen.{Stmt-F, Const, If, Foreach, Assign}
use Rattle.brace_model.specs.declared.program.Stmt.TheFolds.{fold-Stmt}
use Rattle.brace_model.specs.declared.program.Program.{Program}
use Rattle.brace_invert.specs.Range.{range_of}
use Rattle.brace_plan.specs.declared.loops.Loop.{Loop}
use Rattle.brace_plan.specs.Narrowing.{loops_in}
use Rattle.brace_command.specs.declared.listing.Around.{Around}
use Rattle.brace_command.specs.declared.listing.Remote.{Remote}
use Rattle.brace_command.specs.Places.{line_number, column_number}

-- what stands around a statement in a loop over a class: an inner one, if there was an outer one
abbrev pub within : Around → ℕ → Around
within around class =
    if is_none around.outer then record around { outer = Some class }
    else record around { inner = Some class }

-- no loop stands around a statement
abbrev pub nowhere : Around
nowhere = record { outer = None; inner = None }

-- the class of a loop's agent, where there is such a loop
abbrev pub class_of : Around → Who → Option ℕ
class_of around This = None
class_of around Outer = around.outer
class_of around Inner = around.inner

-- an assignment to a loop's agent of a class
abbrev pub remote_to : Option ℕ → ℕ → ℕ → List Remote
remote_to None effect offset = []
remote_to (Some class) effect offset =
    record { at = offset; class = class; effect = effect } ∷ []

-- the assignments to loops' agents in one statement, by what stands around it
abbrev pub remotes_step : Stmt-F (Around → List Remote) → Around → List Remote
remotes_step (Const n e) around = []
remotes_step (If c a b) around = flat_map (λ s. s around) a ++ flat_map (λ s. s around) b
remotes_step (Foreach class body at) around = flat_map (λ s. s (within around class)) body
remotes_step (Assign who effect e at) around = remote_to (class_of around who) effect at

abbrev pub remotes_in : Stmt → Around → List Remote
remotes_in = fold-Stmt (Around → List Remote) remotes_step

-- the assignments to loops' agents in a block
abbrev pub remotes_of : Around → List Stmt → List Remote
remotes_of around block = flat_map (λ s. remotes_in s around) block

-- the assignments to loops' agents in a program, in text order
abbrev pub remotes : Program → List Remote
remotes program = flat_map (λ c. remotes_of nowhere c.query) program.classes

-- a place of a script: `LINE:COLUMN`
abbrev pub place_text : List ℕ → ℕ → List ℕ
place_text src offset =
    canonical_count (line_number src offset)
    ++ (codes ":" ++ canonical_count (column_number src offset))

-- a class's name, where there is a class
abbrev pub name_of_class : Option Class → List ℕ
name_of_class None = []
name_of_class (Some class) = class.name

-- an effect's name, where there is an effect
abbrev pub name_of_effect : Option Effect → List ℕ
name_of_effect None = []
name_of_effect (Some effect) = effect.name

-- a class and an effect of it, by their places: `CLASS.FIELD`
abbrev pub target_text : Option Class → ℕ → List ℕ
target_text None effect = []
target_text (Some class) effect =
    class.name ++ (codes "." ++ name_of_effect (slice_get class.effects effect))

-- how far from an agent stand those that decide on it: `range W`
abbrev pub range_line : Program → Bool → List ℕ
range_line program invert =
    codes "range " ++ (canonical_fixed (range_of program invert) ++ 10 ∷ [])

-- `class NAME visible V reach R`
abbrev pub class_line : Class → List ℕ
class_line class =
    codes "class " ++ (class.name
    ++ (codes " visible " ++ (canonical_fixed class.visible
    ++ (codes " reach " ++ (canonical_fixed class.reach ++ 10 ∷ [])))))

-- a loop, the class that it goes over, and how many conditions narrow it:
-- `loop LINE:COLUMN CLASS bounds K`
abbrev pub loop_line : List ℕ → Program → Loop → List ℕ
loop_line src program l =
    codes "loop " ++ (place_text src l.at
    ++ (codes " " ++ (name_of_class (slice_get program.classes l.class)
    ++ (codes " bounds " ++ (canonical_count l.bounds ++ 10 ∷ [])))))

-- the word for what is said to a loop's agent: with inversion its owner says it to itself
abbrev pub remote_word : Bool → List ℕ
remote_word true = codes "inverted "
remote_word false = codes "remote "

-- an assignment to a loop's agent: `remote LINE:COLUMN CLASS.FIELD`
abbrev pub remote_line : List ℕ → Program → Bool → Remote → List ℕ
remote_line src program invert r =
    remote_word invert ++ (place_text src r.at
    ++ (codes " " ++ (target_text (slice_get program.classes r.class) r.effect ++ 10 ∷ [])))

-- a site of a number: `site N LINE:COLUMN`
abbrev pub site_line : List ℕ → List ℕ → ℕ → List ℕ
site_line src sites number =
    codes "site " ++ (canonical_count number
    ++ (codes " " ++ (place_text src (slice_index_or sites number 0) ++ 10 ∷ [])))

-- the sites, by number
abbrev pub site_lines : List ℕ → List ℕ → List ℕ
site_lines src sites = flat_map (site_line src sites) (range_with_len 0 (length sites))

-- how a program of a script is run, with inversion or without: its range, its classes, its loops,
-- its assignments to other agents, and its sites
abbrev pub plan_text : List ℕ → Program → Bool → List ℕ
plan_text src program invert =
    range_line program invert
    ++ (flat_map class_line program.classes
    ++ (flat_map (loop_line src program) (loops_in program)
    ++ (flat_map (remote_line src program invert) (remotes program)
    ++ site_lines src program.sites)))
