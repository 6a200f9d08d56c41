-- What the names and the numbers of a tree that was read are: names that a word spells, and numbers that a literal spells.
use Rattle.std.proofs.Common.{nat_le, ◌&&◌, Bool, true, false, List, length, map, Option, Some, None, ℤ, pos, negsuc}
use Rattle.std.specs.List.{list_all}
use Rattle.brace_num.specs.Names.{is_name}
use Rattle.brace_syntax.specs.declared.tree.Digits.{Digits}
use Rattle.brace_syntax.specs.declared.tree.Digits.TheVariants.{Int, Fixed}
use Rattle.brace_syntax.specs.declared.tree.TyName.{TyName}
use Rattle.brace_syntax.specs.declared.tree.TyName.TheVariants as ty
use Rattle.brace_syntax.specs.declared.tree.ExprTree.{ExprTree}
use Rattle.brace_syntax.specs.declared.tree.ExprTree.TheOpen.{ExprTree-F, Lit, Name, OfThis, OfLoop, Unary, Binary, Choice}
use Rattle.brace_syntax.specs.declared.tree.ExprTree.TheFolds.{fold-ExprTree}
use Rattle.brace_syntax.specs.declared.tree.StmtTree.{StmtTree}
use Rattle.brace_syntax.specs.declared.tree.StmtTree.TheOpen.{StmtTree-F, Const, If, Foreach, Assign, AssignThis, AssignLoop}
use Rattle.brace_syntax.specs.declared.tree.StmtTree.TheFolds.{fold-StmtTree}
use Rattle.brace_syntax.specs.declared.tree.GiftTree.{GiftTree}
use Rattle.brace_syntax.specs.declared.tree.MemberTree.{MemberTree}
use Rattle.brace_syntax.specs.declared.tree.MemberTree.TheVariants as member
use Rattle.brace_syntax.specs.declared.tree.ClassTree.{ClassTree}
use Rattle.brace_syntax.specs.declared.tree.Tree.{Tree}

abbrev pub fits_word : ℤ → Bool
fits_word (pos n) = nat_le n 9223372036854775807
fits_word (negsuc n) = false

abbrev pub digits_are : Digits → Bool
digits_are (Int z) = fits_word z
digits_are (Fixed z) = fits_word z

abbrev pub type_is : TyName → Bool
type_is (ty.Other name) = is_name name.text
type_is _ = true

abbrev pub expr_sound_step : ExprTree-F Bool → Bool
expr_sound_step (Lit number) = digits_are number.digits
expr_sound_step (Name name) = is_name name.text
expr_sound_step (OfThis name at) = is_name name.text
expr_sound_step (OfLoop loop name) = is_name loop.text && is_name name.text
expr_sound_step (Unary op x at) = x
expr_sound_step (Binary op x y at) = x && y
expr_sound_step (Choice c x y at) = c && x && y
expr_sound_step _ = true

abbrev pub expr_sound : ExprTree → Bool
expr_sound = fold-ExprTree Bool expr_sound_step

abbrev pub all_sound : List Bool → Bool
all_sound = list_all (λ b. b)

abbrev pub other_sound : Option (List Bool) → Bool
other_sound None = true
other_sound (Some xs) = all_sound xs

abbrev pub stmt_sound_step : StmtTree-F Bool → Bool
stmt_sound_step (Const type name x at) = type_is type && is_name name.text && expr_sound x
stmt_sound_step (If c xs other at) = expr_sound c && all_sound xs && other_sound other
stmt_sound_step (Foreach class variable other xs at) = is_name class.text && is_name variable.text && is_name other.text && all_sound xs
stmt_sound_step (Assign name x) = is_name name.text && expr_sound x
stmt_sound_step (AssignThis name x at) = is_name name.text && expr_sound x
stmt_sound_step (AssignLoop loop name x) = is_name loop.text && is_name name.text && expr_sound x

abbrev pub stmt_sound : StmtTree → Bool
stmt_sound = fold-StmtTree Bool stmt_sound_step

abbrev pub rule_sound : Option ExprTree → Bool
rule_sound None = true
rule_sound (Some x) = expr_sound x

abbrev pub gift_sound : GiftTree → Bool
gift_sound gift = is_name gift.state.text && expr_sound gift.value

abbrev pub member_sound : MemberTree → Bool
member_sound (member.Visible range at) = digits_are range.digits
member_sound (member.Reach range at) = digits_are range.digits
member_sound (member.State shared type name x at) = type_is type && is_name name.text && rule_sound x
member_sound (member.Effect shared type name comb at) = type_is type && is_name name.text
member_sound (member.Run xs at) = all_sound (map stmt_sound xs)
member_sound (member.Die x at) = expr_sound x
member_sound (member.Spawn x gifts at) = expr_sound x && list_all gift_sound gifts

abbrev pub class_sound : ClassTree → Bool
class_sound class = is_name class.name.text && list_all member_sound class.members

-- a script has one class or more
abbrev pub script_sound : Tree → Bool
script_sound tree = nat_le 1 (length tree.classes) && list_all class_sound tree.classes
