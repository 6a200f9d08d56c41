use Rattle.std.proofs.Common.{◌∙◌, ◌∷◌, ◌+◌, List, drop, subst, sym, ap}
use Rattle.brace_pieces.specs.declared.piece.Piece.{Piece}
use Rattle.brace_comb.specs.declared.entry.Entry.{Entry}
use Rattle.brace_fold.specs.declared.table.Table.{Table}
use Rattle.brace_herd.specs.inner.Tables.{TellsBy, TellBy}
use Rattle.brace_herd.proofs.HoldLemmas.{SoFarJoined, joined_first, joined_next, joined_last}
use Rattle.brace_herd.proofs.TableTells.{piece_more, no_pieces, is_telling, next_of, none_left}
use Rattle.brace_herd.proofs.joining.join_pieces.Goals as goal
use Rattle.brace_herd.proofs.joining.join_pieces.Goals.{in-Effects+in_ok-join_entries, in_default}

pub loop-piece-init : goal.loop-piece-init
loop-piece-init c all told moved apart tells =
    joined_first c.args.program.now all told c.args.said.now
    (TellBy c.args.program.now all c.args.pieces.now) tells

pub loop-piece-preserved : goal.loop-piece-preserved
loop-piece-preserved c all told moved apart tells =
    let program = c.args.program.now in
    let pieces : List Piece = c.args.pieces.now in
    let i = c.loop-piece.piece-index in
    let x = c.piece-item.result in
    let next = next_of pieces i x c.loop-piece-test.true c.piece-item.is in
    let so = c.loop-piece.invariant all told moved apart tells in
    let Rest = TellBy program all (drop (i + 1) pieces) in
    elim c.match-piece.branch [
      | in-Effects+in_ok-join_entries w ↦
          subst (λ (h : Table). SoFarJoined program all told c.args.said.now h Rest)
          (sym w.said-is)
          (joined_next program all told c.args.said.now c.loop-piece.said
          w.join_entries.new.said
          (TellBy program all (drop i pieces)) (TellsBy program all w.in-Effects.entries) Rest
          (λ rest t. piece_more program all w.in-Effects.entries (drop (i + 1) pieces) rest
          (subst (λ (l : List Piece). TellBy program all l rest) (next
          ∙ ap (λ (y : Piece). y ∷ drop (i + 1) pieces) w.in-Effects.is) t))
          (λ first one. w.in_ok-join_entries.ensures all first moved apart
          (subst (λ (l : List Entry). TellsBy program all l first) (sym w.as_slice.ensures) one))
          so)
      | in_default w ↦
          absurd (is_telling program all x (drop (i + 1) pieces) so.rest
          (subst (λ (l : List Piece). TellBy program all l so.rest) next so.tells)
          w.in_default.not-Effects)
    ]

pub returns : goal.returns
returns c all told moved apart tells =
    let program = c.args.program.now in
    let pieces : List Piece = c.args.pieces.now in
    joined_last program all told c.args.said.now c.loop-piece.said
    (TellBy program all (drop c.loop-piece.piece-index pieces))
    (λ rest t. no_pieces program all rest
    (subst (λ (l : List Piece). TellBy program all l rest)
    (none_left pieces c.loop-piece.piece-index c.loop-piece-test.false) t))
    (c.loop-piece.invariant all told moved apart tells)
