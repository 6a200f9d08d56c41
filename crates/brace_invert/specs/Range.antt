-- How far from an agent stand those that decide what is said to it.
use Rattle.std.specs.Prelude.{ℤ, pos, ◌+ℤ◌, fold, Bool, true, false, ◌&&◌, ◌||◌, if◌then◌else◌}
use Rattle.std.specs.List.{list_any}
use Rattle.std.specs.Int.{int_max}
use Rattle.brace_model.specs.declared.program.Who.{Who}
use Rattle.brace_model.specs.declared.program.Who.TheVariants.{This}
use Rattle.brace_model.specs.declared.program.Stmt.{Stmt}
use Rattle.brace_model.specs.declared.program.Stmt.TheOpen.{Stmt-F, Const, If, Foreach, Assign}
use Rattle.brace_model.specs.declared.program.Stmt.TheFolds.{fold-Stmt}
use Rattle.brace_model.specs.declared.program.Program.{Program}

-- the greatest visible range of a script, in millionths
abbrev pub greatest_visible : Program → ℤ
greatest_visible program = fold (λ v c. int_max v c.visible) (pos 0) program.classes

-- a loop's agent
abbrev pub is_other : Who → Bool
is_other This = false
is_other _ = true

-- whether in one statement, inside or outside of a loop and of an inner loop, a value is said to a
-- loop's agent in an inner loop
abbrev pub says_within_step : Stmt-F (Bool → Bool → Bool) → Bool → Bool → Bool
says_within_step (Const n e) in_loop in_inner = false
says_within_step (If c a b) in_loop in_inner =
    list_any (λ s. s in_loop in_inner) a || list_any (λ s. s in_loop in_inner) b
says_within_step (Foreach class body at) in_loop in_inner = list_any (λ s. s true in_loop) body
says_within_step (Assign who effect e at) in_loop in_inner = is_other who && in_inner

-- whether in a statement, so placed, a value is said to a loop's agent in an inner loop
abbrev pub says_within : Stmt → Bool → Bool → Bool
says_within = fold-Stmt (Bool → Bool → Bool) says_within_step

-- somewhere in a script a value is said to a loop's agent in an inner loop
abbrev pub says_in_inner_loops : Program → Bool
says_in_inner_loops program =
    list_any (λ c. list_any (λ s. says_within s false false) c.query) program.classes

-- the range of a script, with inversion or without: the greatest visible range; twice that where
-- inversion is asked and an agent of an inner loop decides what is said to the other one's
abbrev pub range_of : Program → Bool → ℤ
range_of program invert =
    let v = greatest_visible program in
    if invert && says_in_inner_loops program then v +ℤ v else v
