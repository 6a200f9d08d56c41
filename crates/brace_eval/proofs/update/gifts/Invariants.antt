use Rattle.std.proofs.Common.{◌≡◌, map, take}
use Rattle.brace_model.specs.declared.program.Gift.{Gift}
use Rattle.brace_model.specs.Value.{value}
use Rattle.brace_model.specs.Next.{values_of}
use Rattle.brace_model.specs.Scopes.{scope_of}
use Rattle.brace_eval.specs.inner.Updates.{Meets}
use Rattle.brace_eval.proofs.update.gifts.Given as goal

abbrev pub invariant-loop-gift : goal.invariant-loop-gift
invariant-loop-gift l = record {
  seed : l.drawer.seed ≡ l.fn.drawer.seed;
  values : values_of (map (λ (g : Gift). value g.value (scope_of l.env l.fn.drawer)) (take l.gift-index l.gifts)) ≡ l.given.items;
  met : Meets (map (λ (g : Gift). value g.value (scope_of l.env l.fn.drawer)) (take l.gift-index l.gifts)) l.fn.first l.first;
}
