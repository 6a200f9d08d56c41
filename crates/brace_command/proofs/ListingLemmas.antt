-- The assignments of a statement of each kind, and lines by number.
use Rattle.std.proofs.Common.{◌≡◌, ◌∙◌, sym, ap, ℕ, ◌+◌, List, [], ◌∷◌, ◌++◌, map, arith}
use Rattle.std.specs.Prelude.{flat_map}
use Rattle.std.specs.List.{range_with_len}
use Rattle.std.proofs.lemmas.List.Folds.{flat_map-map}
use Rattle.std.proofs.lemmas.List.Concat.{flat_map-append}
use Rattle.std.proofs.lemmas.List.{append-nil, append_assoc}
use Rattle.brace_num.proofs.Rows.{row_joined}
use Rattle.brace_model.specs.declared.program.Who.{Who}
use Rattle.brace_model.specs.declared.program.Expr.{Expr}
use Rattle.brace_model.specs.declared.program.Stmt.{Stmt}
use Rattle.brace_model.specs.declared.program.Stmt.TheVariants.{Const, If, Foreach, Assign}
use Rattle.brace_model.proofs.Folds.{fold-Const, fold-If, fold-Foreach, fold-Assign}
use Rattle.brace_command.specs.declared.listing.Around.{Around}
use Rattle.brace_command.specs.declared.listing.Remote.{Remote}
use Rattle.brace_command.specs.PlanText.{class_of, remote_to, remotes_in, remotes_of, remotes_step, within}

-- ---- assignments to loops' agents

pub remotes_in-Const : (n : ℕ) (e : Expr) (around : Around) → remotes_in (Const n e) around ≡ []
remotes_in-Const n e around = ap (λ f. f around) (fold-Const remotes_step n e)

pub remotes_in-If : (c : Expr) (a b : List Stmt) (around : Around)
    → remotes_in (If c a b) around ≡ remotes_of around a ++ remotes_of around b
remotes_in-If c a b around = ap (λ f. f around) (fold-If remotes_step c a b)
    ∙ ap (λ t. t ++ flat_map (λ (s : Around → List Remote). s around) (map remotes_in b))
    (flat_map-map (λ (s : Around → List Remote). s around) remotes_in a)
    ∙ ap (λ t. remotes_of around a ++ t) (flat_map-map (λ (s : Around → List Remote). s around) remotes_in b)

pub remotes_in-Foreach : (class : ℕ) (body : List Stmt) (at_ : ℕ) (around : Around)
    → remotes_in (Foreach class body at_) around ≡ remotes_of (within around class) body
remotes_in-Foreach class body at_ around = ap (λ f. f around) (fold-Foreach remotes_step class body at_)
    ∙ flat_map-map (λ (s : Around → List Remote). s (within around class)) remotes_in body

pub remotes_in-Assign : (who : Who) (effect : ℕ) (e : Expr) (at_ : ℕ) (around : Around)
    → remotes_in (Assign who effect e at_) around ≡ remote_to (class_of around who) effect at_
remotes_in-Assign who effect e at_ around = ap (λ f. f around) (fold-Assign remotes_step who effect e at_)

-- the assignments of an `if` are those of its blocks
pub remotes_of_if : (s : Stmt) (c : Expr) (a b : List Stmt) (around : Around) (old mid new : List Remote)
    → s ≡ If c a b → mid ≡ old ++ remotes_of around a → new ≡ mid ++ remotes_of around b
    → new ≡ old ++ remotes_in s around
remotes_of_if s c a b around old mid new is first second =
    second ∙ ap (λ m. m ++ remotes_of around b) first
    ∙ append_assoc old (remotes_of around a) (remotes_of around b)
    ∙ ap (λ t. old ++ t) (sym (remotes_in-If c a b around))
    ∙ ap (λ (x : Stmt). old ++ remotes_in x around) (sym is)

pub ruleset remotes_rules = (remotes_in-Const, remotes_in-If, remotes_in-Foreach, remotes_in-Assign)

-- ---- lines by number

from_more : {A : Type 0} (f : ℕ → List A) (a n j : ℕ) → a + n ≡ j
    → flat_map f (range_with_len a (n + 1)) ≡ flat_map f (range_with_len a n) ++ f j
from_more f a n j e =
    ap (flat_map f) (sym (row_joined a n 1)) ∙ flat_map-append f (range_with_len a n) ((a + n) ∷ [])
    ∙ ap (λ t. flat_map f (range_with_len a n) ++ t) (append-nil (f (a + n)) ∙ ap f e)

-- one number more behind a list
pub numbered_next : {A : Type 0} (f : ℕ → List A) (n : ℕ) (before all next : List A)
    → all ≡ before ++ flat_map f (range_with_len 0 n) → next ≡ all ++ f n
    → next ≡ before ++ flat_map f (range_with_len 0 (n + 1))
numbered_next f n before all next is more =
    more ∙ ap (λ t. t ++ f n) is ∙ append_assoc before (flat_map f (range_with_len 0 n)) (f n)
    ∙ ap (λ t. before ++ t) (sym (from_more f 0 n n (omega arith)))
