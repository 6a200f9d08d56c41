-- What a script stands for: its tree and its program, or why it has none.
use Rattle.std.specs.Prelude.{◌≡◌, ℕ, List, []}
use Rattle.brace_tok.specs.declared.kinds.Token.{Token}
use Rattle.brace_tok.specs.declared.fault.TokFault.{TokFault}
use Rattle.brace_tok.specs.declared.fault.TokFault.TheVariants as tok
use Rattle.brace_tok.specs.Answers.{IsFault}
use Rattle.brace_tok.specs.Spells.{Spells}
use Rattle.brace_syntax.specs.declared.fault.SynFault.{SynFault}
use Rattle.brace_syntax.specs.declared.fault.SynFault.TheVariants as syn
use Rattle.brace_syntax.specs.declared.tree.Tree.{Tree}
use Rattle.brace_syntax.specs.Depth.{NowhereDeep}
use Rattle.brace_syntax.specs.Reads.{Reads}
use Rattle.brace_syntax.specs.Refusals as grammar
use Rattle.brace_names.specs.declared.fault.NameFault.{NameFault}
use Rattle.brace_names.specs.declared.fault.NameFault.TheVariants as name
use Rattle.brace_names.specs.declared.resolved.Resolved.{Resolved}
use Rattle.brace_names.specs.Faults as names
use Rattle.brace_check.specs.declared.fault.CheckFault.{CheckFault}
use Rattle.brace_check.specs.declared.fault.CheckFault.TheVariants as check
use Rattle.brace_check.specs.Faults as checks
use Rattle.brace_check.specs.Programs.{program_of}
use Rattle.brace_model.specs.declared.program.Program.{Program}
use Rattle.brace_command.specs.declared.script_fault.ScriptKind.TheVariants as kind
use Rattle.brace_command.specs.declared.script_fault.ScriptFault.{ScriptFault}
use Rattle.brace_command.specs.declared.script_fault.ScriptFault.TheVariants.{Refused, NoMemory}

-- the tree of the script: its tokens are nowhere nested too deep, and the grammar reads them
pub record IsTree (src : List ℕ) (tree : Tree) : Type 0 where
  pub tokens : List Token
  pub spells : Spells src tokens
  pub shallow : NowhereDeep tokens
  pub reads : Reads src tokens tree

-- a tree with what its names stand for
abbrev pub resolved : Tree → Resolved
resolved tree = record { tree = tree; bindings = names.bindings tree }

-- the program of the script: its tree's names have no fault, and the checks find none
pub record Means (src : List ℕ) (program : Program) : Type 0 where
  pub tree : Tree
  pub is : IsTree src tree
  pub named : names.faults tree ≡ []
  pub checked : checks.faults (resolved tree) ≡ []
  pub stands_for : program ≡ program_of (resolved tree)

-- what a fault of the tokens is told as
abbrev pub token_fault : TokFault → ScriptFault
token_fault (tok.BadByte at) = Refused kind.BadByte at
token_fault (tok.OpenComment at) = Refused kind.OpenComment at
token_fault (tok.WideLiteral at) = Refused kind.WideLiteral at
token_fault (tok.LongWord at) = Refused kind.LongWord at
token_fault tok.NoMemory = NoMemory

-- what a fault of the depth or the grammar is told as
abbrev pub grammar_fault : SynFault → ScriptFault
grammar_fault (syn.TooDeep at) = Refused kind.TooDeep at
grammar_fault (syn.NoReading at) = Refused kind.NoReading at
grammar_fault syn.NoMemory = NoMemory

-- what a fault of the names is told as
abbrev pub name_fault : NameFault → ScriptFault
name_fault (name.DuplicateClass at) = Refused kind.DuplicateClass at
name_fault (name.DuplicateName at) = Refused kind.DuplicateName at
name_fault (name.UnknownClass at) = Refused kind.UnknownClass at
name_fault (name.UnknownName at) = Refused kind.UnknownName at
name_fault (name.UnknownType at) = Refused kind.UnknownType at
name_fault (name.NoPosition at) = Refused kind.NoPosition at
name_fault (name.TooMany which at) = Refused (kind.TooMany which) at
name_fault name.NoMemory = NoMemory

-- what a fault of the checks is told as
abbrev pub check_fault : CheckFault → ScriptFault
check_fault (check.OtherAgentInUpdate at) = Refused kind.OtherAgentInUpdate at
check_fault (check.ReadsEffectInQuery at) = Refused kind.ReadsEffectInQuery at
check_fault (check.AssignsState at) = Refused kind.AssignsState at
check_fault (check.AssignsEffect at) = Refused kind.AssignsEffect at
check_fault (check.PrivateOfOtherClass at) = Refused kind.PrivateOfOtherClass at
check_fault (check.NestedTooDeep at) = Refused kind.NestedTooDeep at
check_fault (check.BadRange at) = Refused kind.BadRange at
check_fault (check.WrongCombinator at) = Refused kind.WrongCombinator at
check_fault (check.WrongType at) = Refused kind.WrongType at
check_fault check.NoMemory = NoMemory

-- why the script has no tree: its tokens, then their depth and the grammar refuse it, or memory
-- was refused
pub data NoTree (src : List ℕ) : ScriptFault → Type 0 where
  in_tokens : (f : TokFault) → IsFault src f → NoTree src (token_fault f)
  in_grammar : (toks : List Token) (f : SynFault) → Spells src toks → grammar.Refuses src toks f
      → grammar.StandsIn src toks f → NoTree src (grammar_fault f)

-- why the script has no program: it has no tree, or its tree's names, then its checks refuse it
pub data Refuses (src : List ℕ) : ScriptFault → Type 0 where
  without_tree : (f : ScriptFault) → NoTree src f → Refuses src f
  in_names : (tree : Tree) (f : NameFault) → IsTree src tree → names.Refuses tree f
      → Refuses src (name_fault f)
  in_checks : (tree : Tree) (f : CheckFault) → IsTree src tree → names.faults tree ≡ []
      → checks.Refuses (resolved tree) f → Refuses src (check_fault f)
