use Rattle.std.proofs.Common.{◌∙◌, ◌++◌, ◌∷◌, [], All, List, ap, subst, sym, take}
use Rattle.std.specs.Bool.{OnTrue}
use Rattle.std.proofs.lemmas.List.{take_all, take_more}
use Rattle.std.proofs.lemmas.List.Elements.{All-append, All-cons, All-nil}
use Rattle.brace_pieces.specs.declared.piece.Piece.{Piece}
use Rattle.brace_herd.specs.inner.Tables.{IsSilent}
use Rattle.brace_herd.proofs.joining.are_silent.Goals as goal

pub loop-piece-preserved : goal.loop-piece-preserved
loop-piece-preserved c =
    let i = c.loop-piece.piece-index in
    let pieces : List Piece = c.args.pieces.now in
    let x = c.piece-item.result in
    subst (λ (l : List Piece). All IsSilent l)
    (sym (take_more pieces i x c.loop-piece-test.true
    ∙ ap (λ (y : Piece). take i pieces ++ y ∷ []) (sym c.piece-item.is)))
    (All-append IsSilent (take i pieces) (x ∷ []) c.loop-piece.invariant
    (All-cons IsSilent x [] (subst (λ b. OnTrue b (IsSilent x)) c.if-not-is_silent.false
    c.is_silent.ensures) (All-nil IsSilent)))

pub returns : goal.returns
returns c =
    subst (λ (l : List Piece). All IsSilent l)
    (take_all c.loop-piece.piece-index c.args.pieces.now c.loop-piece-test.false)
    c.loop-piece.invariant
