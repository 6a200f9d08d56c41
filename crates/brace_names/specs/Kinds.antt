-- The types, combinators and operations of programs by their names in a script.
use Rattle.brace_model.specs.declared.program.Ty.{Ty}
use Rattle.brace_model.specs.declared.program.Ty.TheVariants as ty
use Rattle.brace_model.specs.declared.program.Comb.{Comb}
use Rattle.brace_model.specs.declared.program.Comb.TheVariants as comb
use Rattle.brace_model.specs.declared.program.UnOp.{UnOp}
use Rattle.brace_model.specs.declared.program.UnOp.TheVariants as un
use Rattle.brace_model.specs.declared.program.BinOp.{BinOp}
use Rattle.brace_model.specs.declared.program.BinOp.TheVariants as bin
use Rattle.brace_syntax.specs.declared.tree.TyName.{TyName}
use Rattle.brace_syntax.specs.declared.tree.TyName.TheVariants as tyname
use Rattle.brace_syntax.specs.declared.tree.CombName.{CombName}
use Rattle.brace_syntax.specs.declared.tree.CombName.TheVariants as combname
use Rattle.brace_syntax.specs.declared.tree.UnName.{UnName}
use Rattle.brace_syntax.specs.declared.tree.UnName.TheVariants as unname
use Rattle.brace_syntax.specs.declared.tree.BinName.{BinName}
use Rattle.brace_syntax.specs.declared.tree.BinName.TheVariants as binname

-- the type of a name; a name that is no type does not pass the checks of names
abbrev pub type_named : TyName → Ty
type_named tyname.Int = ty.Int
type_named tyname.Fixed = ty.Fixed
type_named tyname.Bool = ty.Bool
type_named (tyname.Other name) = ty.Int

-- the combinator of a name
abbrev pub comb_named : CombName → Comb
comb_named combname.Sum = comb.Sum
comb_named combname.Min = comb.Min
comb_named combname.Max = comb.Max
comb_named combname.Count = comb.Count
comb_named combname.Or = comb.Or

-- the operation of a name with one operand
abbrev pub unary_named : UnName → UnOp
unary_named unname.Neg = un.Neg
unary_named unname.Not = un.Not
unary_named unname.Abs = un.Abs
unary_named unname.Sqrt = un.Sqrt
unary_named unname.ToFixed = un.ToFixed
unary_named unname.Trunc = un.Trunc

-- the operation of a name with two operands
abbrev pub binary_named : BinName → BinOp
binary_named binname.Add = bin.Add
binary_named binname.Sub = bin.Sub
binary_named binname.Mul = bin.Mul
binary_named binname.Div = bin.Div
binary_named binname.Rem = bin.Rem
binary_named binname.Lt = bin.Lt
binary_named binname.Le = bin.Le
binary_named binname.Gt = bin.Gt
binary_named binname.Ge = bin.Ge
binary_named binname.Eq = bin.Eq
binary_named binname.Ne = bin.Ne
binary_named binname.And = bin.And
binary_named binname.Or = bin.Or
binary_named binname.Min = bin.Min
binary_named binname.Max = bin.Max
