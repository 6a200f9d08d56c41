-- Of each kind of expression and statement: whether it is well formed, and which numbers it carries.
use Rattle.std.proofs.Common.{◌≡◌, ap, ℕ, List, map, Option}
use Rattle.brace_model.specs.declared.program.Ty.{Ty}
use Rattle.brace_model.specs.declared.program.Value.{Value}
use Rattle.brace_model.specs.declared.program.UnOp.{UnOp}
use Rattle.brace_model.specs.declared.program.BinOp.{BinOp}
use Rattle.brace_model.specs.declared.program.Who.{Who}
use Rattle.brace_model.specs.declared.program.Expr.{Expr}
use Rattle.brace_model.specs.declared.program.Expr.TheVariants.{Lit, Field, Total, Local, Unary, Binary, Choice, Rand}
use Rattle.brace_model.specs.declared.program.Expr.TheOpen as layer
use Rattle.brace_model.specs.declared.program.Stmt.{Stmt}
use Rattle.brace_model.specs.declared.program.Stmt.TheVariants.{Const, If, Foreach, Assign}
use Rattle.brace_model.specs.declared.program.Stmt.TheOpen as block_layer
use Rattle.brace_model.specs.Typing.{Names, type_step, type_of, scope_step, scope_after}
use Rattle.brace_model.specs.Sites.{sites_step, sites_of, query_sites_step, sites_in, constant_numbers_step, constant_numbers, loop_offsets_step, loop_offsets, assignments_step, assignments}
use Rattle.brace_model.proofs.Folds.{fold-Lit, fold-Field, fold-Total, fold-Local, fold-Unary, fold-Binary, fold-Choice, fold-Rand, fold-Const, fold-If, fold-Foreach, fold-Assign}

pub type_of-Lit : (v : Value) (names : Names) → type_of (Lit v) names ≡ type_step (layer.Lit v) names
type_of-Lit v names = ap (λ g. g names) (fold-Lit type_step v)

pub type_of-Field : (who : Who) (i : ℕ) (names : Names) → type_of (Field who i) names ≡ type_step (layer.Field who i) names
type_of-Field who i names = ap (λ g. g names) (fold-Field type_step who i)

pub type_of-Total : (effect : ℕ) (type : Ty) (site : Option ℕ) (names : Names) → type_of (Total effect type site) names ≡ type_step (layer.Total effect type site) names
type_of-Total effect type site names = ap (λ g. g names) (fold-Total type_step effect type site)

pub type_of-Local : (n : ℕ) (names : Names) → type_of (Local n) names ≡ type_step (layer.Local n) names
type_of-Local n names = ap (λ g. g names) (fold-Local type_step n)

pub type_of-Unary : (op : UnOp) (site : Option ℕ) (a : Expr) (names : Names) → type_of (Unary op site a) names ≡ type_step (layer.Unary op site (type_of a)) names
type_of-Unary op site a names = ap (λ g. g names) (fold-Unary type_step op site a)

pub type_of-Binary : (op : BinOp) (site : Option ℕ) (a : Expr) (b : Expr) (names : Names) → type_of (Binary op site a b) names ≡ type_step (layer.Binary op site (type_of a) (type_of b)) names
type_of-Binary op site a b names = ap (λ g. g names) (fold-Binary type_step op site a b)

pub type_of-Choice : (c : Expr) (a : Expr) (b : Expr) (names : Names) → type_of (Choice c a b) names ≡ type_step (layer.Choice (type_of c) (type_of a) (type_of b)) names
type_of-Choice c a b names = ap (λ g. g names) (fold-Choice type_step c a b)

pub type_of-Rand : (site : ℕ) (names : Names) → type_of (Rand site) names ≡ type_step (layer.Rand site) names
type_of-Rand site names = ap (λ g. g names) (fold-Rand type_step site)

pub sites_of-Lit : (v : Value) → sites_of (Lit v) ≡ sites_step (layer.Lit v)
sites_of-Lit v = fold-Lit sites_step v

pub sites_of-Field : (who : Who) (i : ℕ) → sites_of (Field who i) ≡ sites_step (layer.Field who i)
sites_of-Field who i = fold-Field sites_step who i

pub sites_of-Total : (effect : ℕ) (type : Ty) (site : Option ℕ) → sites_of (Total effect type site) ≡ sites_step (layer.Total effect type site)
sites_of-Total effect type site = fold-Total sites_step effect type site

pub sites_of-Local : (n : ℕ) → sites_of (Local n) ≡ sites_step (layer.Local n)
sites_of-Local n = fold-Local sites_step n

pub sites_of-Unary : (op : UnOp) (site : Option ℕ) (a : Expr) → sites_of (Unary op site a) ≡ sites_step (layer.Unary op site (sites_of a))
sites_of-Unary op site a = fold-Unary sites_step op site a

pub sites_of-Binary : (op : BinOp) (site : Option ℕ) (a : Expr) (b : Expr) → sites_of (Binary op site a b) ≡ sites_step (layer.Binary op site (sites_of a) (sites_of b))
sites_of-Binary op site a b = fold-Binary sites_step op site a b

pub sites_of-Choice : (c : Expr) (a : Expr) (b : Expr) → sites_of (Choice c a b) ≡ sites_step (layer.Choice (sites_of c) (sites_of a) (sites_of b))
sites_of-Choice c a b = fold-Choice sites_step c a b

pub sites_of-Rand : (site : ℕ) → sites_of (Rand site) ≡ sites_step (layer.Rand site)
sites_of-Rand site = fold-Rand sites_step site

pub scope_after-Const : (n : ℕ) (e : Expr) (names : Names) → scope_after (Const n e) names ≡ scope_step (block_layer.Const n e) names
scope_after-Const n e names = ap (λ g. g names) (fold-Const scope_step n e)

pub scope_after-If : (c : Expr) (a : List Stmt) (b : List Stmt) (names : Names) → scope_after (If c a b) names ≡ scope_step (block_layer.If c (map scope_after a) (map scope_after b)) names
scope_after-If c a b names = ap (λ g. g names) (fold-If scope_step c a b)

pub scope_after-Foreach : (class : ℕ) (body : List Stmt) (at : ℕ) (names : Names) → scope_after (Foreach class body at) names ≡ scope_step (block_layer.Foreach class (map scope_after body) at) names
scope_after-Foreach class body at names = ap (λ g. g names) (fold-Foreach scope_step class body at)

pub scope_after-Assign : (who : Who) (effect : ℕ) (e : Expr) (at : ℕ) (names : Names) → scope_after (Assign who effect e at) names ≡ scope_step (block_layer.Assign who effect e at) names
scope_after-Assign who effect e at names = ap (λ g. g names) (fold-Assign scope_step who effect e at)

pub sites_in-Const : (n : ℕ) (e : Expr) → sites_in (Const n e) ≡ query_sites_step (block_layer.Const n e)
sites_in-Const n e = fold-Const query_sites_step n e

pub sites_in-If : (c : Expr) (a : List Stmt) (b : List Stmt) → sites_in (If c a b) ≡ query_sites_step (block_layer.If c (map sites_in a) (map sites_in b))
sites_in-If c a b = fold-If query_sites_step c a b

pub sites_in-Foreach : (class : ℕ) (body : List Stmt) (at : ℕ) → sites_in (Foreach class body at) ≡ query_sites_step (block_layer.Foreach class (map sites_in body) at)
sites_in-Foreach class body at = fold-Foreach query_sites_step class body at

pub sites_in-Assign : (who : Who) (effect : ℕ) (e : Expr) (at : ℕ) → sites_in (Assign who effect e at) ≡ query_sites_step (block_layer.Assign who effect e at)
sites_in-Assign who effect e at = fold-Assign query_sites_step who effect e at

pub constant_numbers-Const : (n : ℕ) (e : Expr) → constant_numbers (Const n e) ≡ constant_numbers_step (block_layer.Const n e)
constant_numbers-Const n e = fold-Const constant_numbers_step n e

pub constant_numbers-If : (c : Expr) (a : List Stmt) (b : List Stmt) → constant_numbers (If c a b) ≡ constant_numbers_step (block_layer.If c (map constant_numbers a) (map constant_numbers b))
constant_numbers-If c a b = fold-If constant_numbers_step c a b

pub constant_numbers-Foreach : (class : ℕ) (body : List Stmt) (at : ℕ) → constant_numbers (Foreach class body at) ≡ constant_numbers_step (block_layer.Foreach class (map constant_numbers body) at)
constant_numbers-Foreach class body at = fold-Foreach constant_numbers_step class body at

pub constant_numbers-Assign : (who : Who) (effect : ℕ) (e : Expr) (at : ℕ) → constant_numbers (Assign who effect e at) ≡ constant_numbers_step (block_layer.Assign who effect e at)
constant_numbers-Assign who effect e at = fold-Assign constant_numbers_step who effect e at

pub loop_offsets-Const : (n : ℕ) (e : Expr) → loop_offsets (Const n e) ≡ loop_offsets_step (block_layer.Const n e)
loop_offsets-Const n e = fold-Const loop_offsets_step n e

pub loop_offsets-If : (c : Expr) (a : List Stmt) (b : List Stmt) → loop_offsets (If c a b) ≡ loop_offsets_step (block_layer.If c (map loop_offsets a) (map loop_offsets b))
loop_offsets-If c a b = fold-If loop_offsets_step c a b

pub loop_offsets-Foreach : (class : ℕ) (body : List Stmt) (at : ℕ) → loop_offsets (Foreach class body at) ≡ loop_offsets_step (block_layer.Foreach class (map loop_offsets body) at)
loop_offsets-Foreach class body at = fold-Foreach loop_offsets_step class body at

pub loop_offsets-Assign : (who : Who) (effect : ℕ) (e : Expr) (at : ℕ) → loop_offsets (Assign who effect e at) ≡ loop_offsets_step (block_layer.Assign who effect e at)
loop_offsets-Assign who effect e at = fold-Assign loop_offsets_step who effect e at

pub assignments-Const : (n : ℕ) (e : Expr) → assignments (Const n e) ≡ assignments_step (block_layer.Const n e)
assignments-Const n e = fold-Const assignments_step n e

pub assignments-If : (c : Expr) (a : List Stmt) (b : List Stmt) → assignments (If c a b) ≡ assignments_step (block_layer.If c (map assignments a) (map assignments b))
assignments-If c a b = fold-If assignments_step c a b

pub assignments-Foreach : (class : ℕ) (body : List Stmt) (at : ℕ) → assignments (Foreach class body at) ≡ assignments_step (block_layer.Foreach class (map assignments body) at)
assignments-Foreach class body at = fold-Foreach assignments_step class body at

pub assignments-Assign : (who : Who) (effect : ℕ) (e : Expr) (at : ℕ) → assignments (Assign who effect e at) ≡ assignments_step (block_layer.Assign who effect e at)
assignments-Assign who effect e at = fold-Assign assignments_step who effect e at
