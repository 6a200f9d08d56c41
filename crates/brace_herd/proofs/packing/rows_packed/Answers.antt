use Rattle.std.proofs.Common.{rules, ◌≡◌, ◌∙◌, ◌++◌, [], sym, ap, append_assoc, map}
use Rattle.std.proofs.lemmas.List.{map-append}
use Rattle.brace_herd.specs.inner.Packing.{agent_at}
use Rattle.brace_herd.proofs.packing.rows_packed.Goals as goal

pub loop-left-preserved : goal.loop-left-preserved
loop-left-preserved c program are =
    let agents = map (agent_at program c.args.own.now) in
    let herd = c.loop-left.herd in
    let some = c.split_at.result.0.now in
    let rest = c.split_at.result.1.now in
    let cut : some ++ rest ≡ c.loop-left.left.now = search rules in
    let few : c.push_rows.new.herd ≡ agents some = c.in_ok-push_rows.ensures program are
    ∙ ap (λ l. l ++ agents some) c.in_ok-few.ensures in
    let more = c.in_ok-append.ensures ∙ ap (λ l. herd ++ l) few in
    ap (λ l. l ++ agents rest) more
    ∙ append_assoc herd (agents some) (agents rest)
    ∙ ap (λ l. herd ++ l) (sym (map-append (agent_at program c.args.own.now) some rest)
    ∙ ap agents cut)
    ∙ c.loop-left.invariant program are
