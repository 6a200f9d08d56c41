-- What pieces bring, from the last on.
use Rattle.std.proofs.Common.{◌≡◌, ◌∙◌, sym, ap, subst, List, [], ◌∷◌, ◌++◌, flat_map, append_assoc, append-nil}
use Rattle.std.specs.List.Sorted.{IsPermutation}
use Rattle.std.proofs.lemmas.List.Sorted.{IsPermutation-refl, IsPermutation-trans, IsPermutation-append, IsPermutation-append_comm}
use Rattle.std.proofs.lemmas.Grind.{flat_map-append}
use Rattle.brace_model.specs.declared.world.Agent.{Agent}
use Rattle.brace_pieces.specs.declared.piece.Piece.{Piece}
use Rattle.brace_pieces.specs.Exchanged.{brought}

-- the last piece's agents are gathered
pub gathers_more : (start got more : List Agent) (pieces rest : List Piece) (x : Piece) → pieces ≡ rest ++ x ∷ [] → brought x ≡ more
    → IsPermutation start (got ++ flat_map brought pieces) → IsPermutation start ((got ++ more) ++ flat_map brought rest)
gathers_more start got more pieces rest x last is so =
    let all : flat_map brought pieces ≡ flat_map brought rest ++ more =
    ap (flat_map brought) last ∙ flat_map-append brought rest (x ∷ [])
    ∙ ap (λ (l : List Agent). flat_map brought rest ++ l) (append-nil (brought x) ∙ is) in
    let swapped : IsPermutation (got ++ (flat_map brought rest ++ more)) (got ++ (more ++ flat_map brought rest)) =
    IsPermutation-append got got (flat_map brought rest ++ more) (more ++ flat_map brought rest) (IsPermutation-refl got) (IsPermutation-append_comm (flat_map brought rest) more) in
    subst (IsPermutation start) (sym (append_assoc got more (flat_map brought rest)))
    (IsPermutation-trans start (got ++ (flat_map brought rest ++ more)) (got ++ (more ++ flat_map brought rest))
    (subst (λ (l : List Agent). IsPermutation start (got ++ l)) all so) swapped)

-- all are gathered
pub gathers_all : (start got : List Agent) (pieces : List Piece) → pieces ≡ []
    → IsPermutation start (got ++ flat_map brought pieces) → IsPermutation start got
gathers_all start got pieces none so =
    subst (IsPermutation start) (ap (λ (l : List Piece). got ++ flat_map brought l) none ∙ append-nil got) so

-- the same, where the agents are handed on
pub taken : (start got more handed all : List Agent) (pieces rest : List Piece) (x : Piece) → pieces ≡ rest ++ x ∷ [] → brought x ≡ more
    → handed ≡ more → all ≡ got ++ handed → IsPermutation start (got ++ flat_map brought pieces) → IsPermutation start (all ++ flat_map brought rest)
taken start got more handed all pieces rest x last is same joined so =
    subst (λ (l : List Agent). IsPermutation start (l ++ flat_map brought rest)) (sym (joined ∙ ap (λ (l : List Agent). got ++ l) same))
    (gathers_more start got more pieces rest x last is so)
