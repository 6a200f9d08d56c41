use Rattle.std.proofs.Common.{◌≡◌, ◌<◌, ◌≤◌, ◌+◌, ◌++◌, ℕ, List, length, take, drop, ap, refl, sym, subst, arith}
use Rattle.std.proofs.lemmas.List.{take_at}
use Rattle.brace_io.specs.Shelves.{Next}
use Rattle.brace_audit.specs.inner.Reading.{ahead}
use Rattle.brace_audit.proofs.ReadingLemmas.{with_nothing, more_read, end_read}
use Rattle.brace_audit.proofs.comparer.Comparer.fill.Goals as goal

pub returns-clause-goes_on : goal.returns-clause-goes_on
returns-clause-goes_on g c = λ text i.
    let e = c.in_ok-got.ensures in
    let name = c.args.name.now in
    let place = length text + ahead c.args.self.now in
    let bytes : List ℕ = c.read.new.buffer in
    let a = c.read.auto.buffer in
    let n = c.deref_mut.ensures.len in
    let v = ap (λ (l : List ℕ). length l) c.deref_mut.ensures.value in
    let all : take c.args.self.now.chunk.len (bytes ++ drop (length bytes) c.args.self.now.chunk.items) ≡ bytes = take_at bytes _ _ (omega (arith, a, n)) in
    let full : 0 < length bytes = omega (arith, a, v, i.room) in
    with_nothing _ _ name text _ (more_read _ _ _ _ name text c.args.self.now _ i (omega (arith, c.if-self.false)) e.held_alone refl
    (subst (λ (xs : List ℕ). 0 < length xs) (sym all) full)
    (subst (λ (xs : List ℕ). c.in_ok-got.got ≤ length xs) (sym all) e.within)
    refl
    (λ file h. subst (λ (xs : List ℕ). Next file place xs c.in_ok-got.got) (sym all) (e.next name file place i.reads h)) (e.reads name place i.reads))

pub returns-clause-stops : goal.returns-clause-stops
returns-clause-stops g c = λ none text file i h.
    let e = c.in_ok-got.ensures in
    let name = c.args.name.now in
    let place = length text + ahead c.args.self.now in
    let a = c.read.auto.buffer in
    let v = ap (λ (l : List ℕ). length l) c.deref_mut.ensures.value in
    let full : 0 < length c.read.new.buffer = omega (arith, a, v, i.room) in
    end_read _ _ name text file c.args.self.now i (omega (arith, c.if-self.false)) h ((e.next name file place i.reads h).2 (sym none) full)
