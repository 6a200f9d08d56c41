use Rattle.std.proofs.Common.{◌≡◌, ◌==◌, ℕ, List, Bor, map, rules, subst, tests}
use Rattle.std.specs.Prelude.{IfOk}
use Rattle.std.proofs.lemmas.Iterator.Consumers.{map_from_collect}
use Rattle.std.proofs.lemmas.Iterator.Splits.{YieldsList-from_slice_split}
use Rattle.brace_save.specs.Lines.{parts}
use Rattle.brace_save.proofs.read.split_lines.Goals as goal

pub returns : goal.returns
returns c =
    subst (λ r. IfOk r (λ v. map (λ (p : Bor (List ℕ)). p.now) v.items ≡ parts c.args.bytes.now)) c.in_ok-collect.was
    (map_from_collect _ c.collect.ensures.ran (YieldsList-from_slice_split _ (λ b. b == 10) c.args.bytes.now c.split.ensures.rest c.split.ensures.done c.split.ensures.closure (λ x r q k. search (rules, tests))))
