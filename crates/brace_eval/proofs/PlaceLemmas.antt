-- Places for the constants of a block.
use Rattle.std.proofs.Common.{◌≡◌, ◌∙◌, ap, ℕ, zero, suc, ◌+◌, ◌<◌, List, [], ◌∷◌, ◌++◌, length, take, get_or, map, replicate, arith}
use Rattle.std.specs.Prelude.{sum}
use Rattle.std.proofs.lemmas.List.Sums.{fold-append}
use Rattle.brace_model.specs.declared.program.Stmt.{Stmt}
use Rattle.brace_model.specs.declared.program.Value.{Value}
use Rattle.brace_model.specs.Query.{constants}
use Rattle.brace_eval.proofs.DeedLemmas.{map-more}

pub replicate-add : (v : Value) (a b : ℕ) → replicate (a + b) v ≡ replicate a v ++ replicate b v
replicate-add v zero b = ap (λ (n : ℕ). replicate n v) (omega arith)
replicate-add v (suc a) b =
    let sum : suc a + b ≡ suc (a + b) = omega arith in
    ap (λ (n : ℕ). replicate n v) sum ∙ ap (λ (l : List Value). v ∷ l) (replicate-add v a b)

sum-snoc : (ns : List ℕ) (n : ℕ) → sum (ns ++ n ∷ []) ≡ sum ns + n
sum-snoc ns n = fold-append ◌+◌ 0 ns (n ∷ [])

pub more-places : (v : Value) (body : List Stmt) (i : ℕ) (s : Stmt) → i < length body → s ≡ get_or body i s
    → replicate (sum (map constants (take (i + 1) body))) v
    ≡ replicate (sum (map constants (take i body))) v ++ replicate (constants s) v
more-places v body i s le is =
    ap (λ (n : ℕ). replicate n v) (ap sum (map-more constants body i s le is) ∙ sum-snoc (map constants (take i body)) (constants s))
    ∙ replicate-add v (sum (map constants (take i body))) (constants s)
