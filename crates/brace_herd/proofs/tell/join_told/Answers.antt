use Rattle.std.proofs.Common.{List, drop, subst, sym, ◌∙◌, ◌+◌, ◌∷◌, ap}
use Rattle.brace_comb.specs.declared.entry.Entry.{Entry}
use Rattle.brace_eval.specs.declared.heard.Heard.{Heard}
use Rattle.brace_pieces.specs.declared.piece.Piece.{Piece}
use Rattle.brace_herd.specs.inner.Tables.{TellsBy, TellBy}
use Rattle.brace_herd.proofs.TableTells.{SoFarTold, told_next, told_last, piece_more, no_pieces, is_telling, next_of, none_left}
use Rattle.brace_herd.proofs.tell.join_told.Goals as goal
use Rattle.brace_herd.proofs.tell.join_told.Goals.{in-Effects+in_ok-join_entries, in_default}

pub loop-piece-preserved : goal.loop-piece-preserved
loop-piece-preserved c said told faults heard tells =
    let program = c.args.program.now in
    let held = c.args.held.now in
    let pieces : List Piece = c.args.pieces.now in
    let i = c.loop-piece.piece-index in
    let x = c.piece-item.result in
    let next = next_of pieces i x c.loop-piece-test.true c.piece-item.is in
    let so = c.loop-piece.invariant said told faults heard tells in
    let Rest = TellBy program held (drop (i + 1) pieces) in
    elim c.match-piece.branch [
      | in-Effects+in_ok-join_entries w ↦
          subst (λ (h : Heard). SoFarTold program held said told faults h Rest) (sym w.heard-is)
          (told_next program held said told faults c.loop-piece.heard w.join_entries.new.heard
          (TellBy program held (drop i pieces)) (TellsBy program held w.in-Effects.entries) Rest
          (λ rest t. piece_more program held w.in-Effects.entries (drop (i + 1) pieces) rest
          (subst (λ (l : List Piece). TellBy program held l rest) (next ∙ ap (λ (y : Piece). y ∷ drop (i + 1) pieces) w.in-Effects.is) t))
          (λ first xs h one. w.in_ok-join_entries.ensures.told xs first faults h (subst (λ (l : List Entry). TellsBy program held l first) (sym w.as_slice.ensures) one))
          so)
      | in_default w ↦
          absurd (is_telling program held x (drop (i + 1) pieces) so.rest (subst (λ (l : List Piece). TellBy program held l so.rest) next so.tells) w.in_default.not-Effects)
    ]

pub returns : goal.returns
returns c =
    let program = c.args.program.now in
    let held = c.args.held.now in
    let pieces : List Piece = c.args.pieces.now in
    let none = none_left pieces c.loop-piece.piece-index c.loop-piece-test.false in
    record {
      told = λ said told faults heard tells.
          told_last program held said told faults c.loop-piece.heard (TellBy program held (drop c.loop-piece.piece-index pieces))
          (λ rest so. no_pieces program held rest (subst (λ (l : List Piece). TellBy program held l rest) none so))
          (c.loop-piece.invariant said told faults heard tells);
    }
