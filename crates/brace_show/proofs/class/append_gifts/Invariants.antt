use Rattle.std.proofs.Common.{◌≡◌, [], ◌++◌, flat_map, drop}
use Rattle.brace_show.specs.Canonical.{deeper, gift_text}
use Rattle.brace_show.proofs.class.append_gifts.Given as goal

abbrev pub invariant-loop-gift : goal.invariant-loop-gift
invariant-loop-gift l =
    l.out.items ++ flat_map (gift_text (deeper (deeper []))) (drop l.gift-index l.gifts)
    ≡ l.initial.out.items ++ flat_map (gift_text (deeper (deeper []))) l.gifts
