use Rattle.std.proofs.Common.{◌≡◌}
use Rattle.std.specs.Slice.Iter.{iter_rest}
use Rattle.brace_model.specs.Next.{with_gifts}
use Rattle.brace_model.proofs.next.give.Given as goal

abbrev pub invariant-loop-gift : goal.invariant-loop-gift
invariant-loop-gift l =
    with_gifts l.states (iter_rest l.gift-iterator.a) (iter_rest l.gift-iterator.b)
    ≡ with_gifts l.fn.states l.gifts l.given
