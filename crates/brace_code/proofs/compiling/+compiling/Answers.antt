use Rattle.std.proofs.Common.{arith, refl, sym}
use Rattle.brace_code.proofs.CompileLemmas.{two_appends, unary_appends, with_appends, binary_appends, choice_appends, and_appends, or_appends, strictly}
use Rattle.brace_code.proofs.compiling.+compiling.Goals as goal

pub append-returns-in_ok-push-in-Unary : goal.append-returns-in_ok-push-in-Unary
append-returns-in_ok-push-in-Unary t c = unary_appends _ _ _ _ _ _ _ _ _ _ _ c.in-Unary.is (rw c.get.ensures at c.in_ok-a-in-Unary.ensures) c.site_number.ensures
    c.in_ok-push-in-Unary.ensures.ok c.unary_type.ensures

pub append-returns-in_ok-push-in-And : goal.append-returns-in_ok-push-in-And
append-returns-in_ok-push-in-And t c = and_appends _ _ _ _ _ _ _ _ _ _ _ _ _ (rw c.in-And.is at c.in-Binary.is) (rw c.get-in-Binary-3.ensures at c.in_ok-a-in-Binary.ensures)
    (rw c.get-in-And.ensures at c.in_ok-b-in-And.ensures) c.in_ok-word-in-And.ensures c.in_ok-push-in-And.ensures.ok (omega arith) (omega arith) (omega arith)

pub append-returns-in_ok-push-in-Or : goal.append-returns-in_ok-push-in-Or
append-returns-in_ok-push-in-Or t c = or_appends _ _ _ _ _ _ _ _ _ _ _ _ _ (rw c.in-Or.is at c.in-Binary.is) (rw c.get-in-Binary-3.ensures at c.in_ok-a-in-Binary.ensures)
    (rw c.get-in-Or.ensures at c.in_ok-b-in-Or.ensures) c.in_ok-word-in-Or.ensures c.in_ok-push-in-Or.ensures.ok (omega arith) (omega arith) (omega arith)

pub append-returns-in-Some : goal.append-returns-in-Some
append-returns-in-Some t c = two_appends _ _ _ _ _ _ _ (sym c.in-Binary.is)
    (rw (c.get-in-Binary.ensures, c.get-in-Binary-2.ensures) at c.in-Some.ensures) refl
    c.in_ok-push-in-Binary.ensures.ok

pub append-returns-in-Some-leaf_of : goal.append-returns-in-Some-leaf_of
append-returns-in-Some-leaf_of t c = with_appends _ _ _ _ _ _ _ _ _ _ _ _ _ c.in-Binary.is (strictly _ c.in_default-op.not-And c.in_default-op.not-Or)
    (rw c.get-in-Binary-3.ensures at c.in_ok-a-in-Binary.ensures) (rw c.get-in_default-op.ensures at c.in-Some-leaf_of.ensures) c.site_number-in-Some-leaf_of.ensures
    c.in_ok-push-in_default-op.ensures.ok c.operation_type.ensures

pub append-returns-in_ok-push-in_default-op-2 : goal.append-returns-in_ok-push-in_default-op-2
append-returns-in_ok-push-in_default-op-2 t c = binary_appends _ _ _ _ _ _ _ _ _ _ _ _ _ _ _ c.in-Binary.is (strictly _ c.in_default-op.not-And c.in_default-op.not-Or)
    (rw c.get-in-Binary-3.ensures at c.in_ok-a-in-Binary.ensures) (rw c.get-in_default-op-2.ensures at c.in_ok-b-in_default-op.ensures) c.site_number-in_default-op.ensures
    c.in_ok-push-in_default-op-2.ensures.ok c.operation_type-in_default-op.ensures (omega arith) (omega (arith, c.in_ok-above-in_default-op.ensures))

pub append-returns-in_ok-push-in-Choice : goal.append-returns-in_ok-push-in-Choice
append-returns-in_ok-push-in-Choice t c = choice_appends _ _ _ _ _ _ _ _ _ _ _ _ _ _ c.in-Choice.is (rw c.get-in-Choice.ensures at c.in_ok-c-in-Choice.ensures)
    (rw c.get-in-Choice-2.ensures at c.in_ok-a-in-Choice.ensures) (rw c.get-in-Choice-3.ensures at c.in_ok-b-in-Choice.ensures) c.in_ok-push-in-Choice.ensures.ok (omega arith) (omega arith) (omega arith)
