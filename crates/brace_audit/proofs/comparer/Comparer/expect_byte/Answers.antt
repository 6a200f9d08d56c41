use Rattle.std.proofs.Common.{◌∙◌, ◌∷◌, ◌++◌, [], Some, ap, sym, subst, arith}
use Rattle.brace_io.specs.Shelves.{held_at}
use Rattle.brace_audit.specs.declared.comparer.Comparer.{Comparer}
use Rattle.brace_audit.specs.inner.Reading.{Compares}
use Rattle.brace_audit.proofs.AnswerLemmas.{one_line}
use Rattle.brace_audit.proofs.ReadingLemmas.{without, passed, ends_early, other_byte, byte_at, not_same}
use Rattle.brace_audit.proofs.comparer.Comparer.expect_byte.Goals as goal

pub pass-requires : goal.pass-requires
pass-requires g c =
    let (text, i) = c.requires in
    let j = c.in_ok-fill.ensures.goes_on text i in
    omega (arith, j.in_chunk, c.if-self.false)

pub index-requires : goal.index-requires
index-requires g c =
    let (text, i) = c.requires in
    let j = c.in_ok-fill.ensures.goes_on text i in
    omega (arith, j.in_chunk, j.in_room, c.if-self.false)

pub returns-clause-goes_on : goal.returns-clause-goes_on
returns-clause-goes_on g c = λ text i.
    let name = c.args.name.now in
    let j = without _ _ name text _ (c.in_ok-fill.ensures.goes_on text i) in
    subst (λ (d : Comparer). Compares (g.S.Shelf.held c.fill.new.shelf) (g.S.Shelf.stage c.fill.new.shelf) name (text ++ c.args.byte ∷ []) d) (sym c.in_ok-pass.ensures) (passed _ _ name text _ c.args.byte j (omega (arith, j.in_chunk, c.if-self.false)) (byte_at c.fill.new.self.chunk.items c.fill.new.self.place c.index.result.now (omega (arith, j.in_chunk, j.in_room, c.if-self.false)) c.index.ensures ∙ c.if-index-byte.false))

pub returns-then-self-clause-departs : goal.returns-then-self-clause-departs
returns-then-self-clause-departs g c = λ line is text file more i h.
    let name = c.args.name.now in
    let j = without _ _ name text _ (c.in_ok-fill.ensures.goes_on text i) in
    ends_early text file more c.args.byte line (c.in_ok-fill.ensures.stops c.if-self.true text file i h) (sym (one_line _ _ is) ∙ j.line)

pub returns-then-index-byte-clause-departs : goal.returns-then-index-byte-clause-departs
returns-then-index-byte-clause-departs g c = λ line is text file more i h.
    let name = c.args.name.now in
    let j = without _ _ name text _ (c.in_ok-fill.ensures.goes_on text i) in
    other_byte _ _ name text file more _ c.args.byte j (omega (arith, j.in_chunk, c.if-self.false)) (ap (λ k. held_at k name) c.in_ok-fill.ensures.held_alone ∙ h) (not_same _ _ (λ is. c.if-index-byte.true (sym (byte_at c.fill.new.self.chunk.items c.fill.new.self.place c.index.result.now (omega (arith, j.in_chunk, j.in_room, c.if-self.false)) c.index.ensures) ∙ is))) ∙ ap Some (one_line _ _ is)
