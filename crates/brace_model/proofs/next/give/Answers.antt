use Rattle.std.proofs.Common.{refl}
use Rattle.std.specs.Slice.Iter.{iter_rest}
use Rattle.std.proofs.lemmas.Slice.Zip.{either_empty_from_Zip}
use Rattle.brace_model.proofs.Gifts.{all_given}
use Rattle.brace_model.proofs.next.give.Goals as goal

pub returns : goal.returns
returns c =
    let at = c.loop-gift in
    all_given at.states c.args.states.now (iter_rest at.gift-iterator.a) c.args.gifts.now (iter_rest at.gift-iterator.b) c.args.given.now
    (either_empty_from_Zip _ at.gift-iterator _ refl c.in-None.ensures.steps) at.invariant
