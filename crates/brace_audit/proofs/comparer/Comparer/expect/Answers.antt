use Rattle.std.proofs.Common.{◌≡◌, ◌∙◌, ◌+◌, ◌∷◌, ◌++◌, ℕ, List, [], Some, take, drop, slice_index, ap, refl, subst, arith, rules}
use Rattle.std.proofs.lemmas.List.{take_all}
use Rattle.brace_io.specs.Shelves.{held_at}
use Rattle.brace_audit.specs.Differs.{differs}
use Rattle.brace_audit.specs.inner.Reading.{Compares}
use Rattle.brace_audit.proofs.ReadingLemmas.{with_nothing, one_more, in_three}
use Rattle.brace_audit.proofs.comparer.Comparer.expect.Goals as goal

pub loop-done-init : goal.loop-done-init
loop-done-init g c = record {
  within = omega arith;
  comparing = c.requires;
  goes_on = λ text i. with_nothing _ _ _ text _ i;
  same = refl;
  faults = refl;
}

pub loop-done-preserved : goal.loop-done-preserved
loop-done-preserved g c =
    let i = c.loop-done.invariant in
    let e = c.in_ok-expect_byte.ensures in
    let piece = c.args.piece.now in
    let done = c.loop-done.done in
    let byte = slice_index piece done in
    let (text, j) = i.comparing in
    record {
      within = omega (arith, c.loop-done-test.true);
      comparing = (text ++ byte ∷ [], e.goes_on text j);
      goes_on = λ text j. subst (λ (t : List ℕ). Compares (g.S.Shelf.held c.expect_byte.new.shelf) (g.S.Shelf.stage c.expect_byte.new.shelf) c.args.name.now t c.expect_byte.new.self) (one_more text piece done c.loop-done-test.true) (e.goes_on (text ++ take done piece) (i.goes_on text j));
      same = e.leaves.held_alone ∙ i.same;
      faults = search rules;
    }

pub returns-clause-goes_on : goal.returns-clause-goes_on
returns-clause-goes_on g c = λ text j. subst (λ (t : List ℕ). Compares (g.S.Shelf.held c.loop-done.shelf) (g.S.Shelf.stage c.loop-done.shelf) c.args.name.now (text ++ t) c.loop-done.self) (take_all c.loop-done.done c.args.piece.now (omega (arith, c.loop-done-test.false))) (c.loop-done.invariant.goes_on text j)

pub returns-in_err-expect_byte-clause-departs : goal.returns-in_err-expect_byte-clause-departs
returns-in_err-expect_byte-clause-departs g c = λ line is text file more j h.
    let i = c.loop-done.invariant in
    let piece = c.args.piece.now in
    let done = c.loop-done.done in
    subst (λ (t : List ℕ). differs file t ≡ Some line) (in_three text piece more done c.loop-done-test.true)
    (c.in_err-expect_byte.ensures.departs line (search (is, c.from_residual.ensures, rules)) (text ++ take done piece) file (drop (done + 1) piece ++ more) (i.goes_on text j) (ap (λ k. held_at k c.args.name.now) i.same ∙ h))
