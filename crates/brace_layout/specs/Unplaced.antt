-- Faults, targets and programs without their byte offsets: 0 stands in place of each.
use Rattle.std.specs.Prelude.{List, map}
use Rattle.brace_syntax.specs.declared.tree.Tree.{Tree}
use Rattle.brace_names.specs.declared.fault.NameFault.{NameFault}
use Rattle.brace_names.specs.declared.fault.NameFault.TheVariants as name
use Rattle.brace_names.specs.declared.resolved.Target.{Target}
use Rattle.brace_names.specs.Faults.{bindings}
use Rattle.brace_check.specs.declared.fault.CheckFault.{CheckFault}
use Rattle.brace_check.specs.declared.fault.CheckFault.TheVariants as check
use Rattle.brace_model.specs.declared.program.Stmt.{Stmt}
use Rattle.brace_model.specs.declared.program.Stmt.TheVariants as s
use Rattle.brace_model.specs.declared.program.Stmt.TheOpen as stmt
use Rattle.brace_model.specs.declared.program.Stmt.TheFolds.{fold-Stmt}
use Rattle.brace_model.specs.declared.program.Class.{Class}
use Rattle.brace_model.specs.declared.program.Program.{Program}

-- a fault of names at offset 0
abbrev pub name_fault_at_0 : NameFault → NameFault
name_fault_at_0 (name.DuplicateClass at) = name.DuplicateClass 0
name_fault_at_0 (name.DuplicateName at) = name.DuplicateName 0
name_fault_at_0 (name.UnknownClass at) = name.UnknownClass 0
name_fault_at_0 (name.UnknownName at) = name.UnknownName 0
name_fault_at_0 (name.UnknownType at) = name.UnknownType 0
name_fault_at_0 (name.NoPosition at) = name.NoPosition 0
name_fault_at_0 (name.TooMany which at) = name.TooMany which 0
name_fault_at_0 name.NoMemory = name.NoMemory

-- a fault of the check passes at offset 0
abbrev pub check_fault_at_0 : CheckFault → CheckFault
check_fault_at_0 (check.OtherAgentInUpdate at) = check.OtherAgentInUpdate 0
check_fault_at_0 (check.ReadsEffectInQuery at) = check.ReadsEffectInQuery 0
check_fault_at_0 (check.AssignsState at) = check.AssignsState 0
check_fault_at_0 (check.AssignsEffect at) = check.AssignsEffect 0
check_fault_at_0 (check.PrivateOfOtherClass at) = check.PrivateOfOtherClass 0
check_fault_at_0 (check.NestedTooDeep at) = check.NestedTooDeep 0
check_fault_at_0 (check.BadRange at) = check.BadRange 0
check_fault_at_0 (check.WrongCombinator at) = check.WrongCombinator 0
check_fault_at_0 (check.WrongType at) = check.WrongType 0
check_fault_at_0 check.NoMemory = check.NoMemory

-- what the names of a script stand for, in the order in which they are found
abbrev pub targets_in : Tree → List Target
targets_in tree = map (λ b. b.target) (bindings tree)

-- a statement of each kind at offset 0, whose blocks are so already
abbrev pub stmt_step : stmt.Stmt-F Stmt → Stmt
stmt_step (stmt.Const n x) = s.Const n x
stmt_step (stmt.If c a b) = s.If c a b
stmt_step (stmt.Foreach class body at) = s.Foreach class body 0
stmt_step (stmt.Assign who effect x at) = s.Assign who effect x 0

-- a statement with 0 in place of each offset
abbrev pub stmt_at_0 : Stmt → Stmt
stmt_at_0 = fold-Stmt Stmt stmt_step

-- a class with 0 in place of each offset
abbrev pub class_at_0 : Class → Class
class_at_0 class = record class { query = map stmt_at_0 class.query }

-- a program with 0 in place of each offset: as many sites, the same number for each operation
abbrev pub program_at_0 : Program → Program
program_at_0 program =
    record { classes = map class_at_0 program.classes; sites = map (λ at. 0) program.sites }
