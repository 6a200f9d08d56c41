use Rattle.std.proofs.Common.{◌≡◌, ◌∙◌, sym, ap, subst, filter, Some, length, slice_get, rules}
use Rattle.std.proofs.lemmas.List.{length-map}
use Rattle.brace_model.specs.declared.world.Agent.{Agent}
use Rattle.brace_fold.specs.Rows.{AreMoved}
use Rattle.brace_fold.proofs.Ownings.{picked-row}
use Rattle.brace_herd.proofs.NearLemmas.{kept_all}
use Rattle.brace_herd.proofs.near.staying.Goals as goal

pub returns-then-is_all : goal.returns-then-is_all
returns-then-is_all c agents pass moved stand =
    let kept = filter pass agents in
    let stay = c.args.stay.now in
    let many = ap length moved.ids_are ∙ length-map agents (λ (a : Agent). a.id) in
    let long : length stay ≡ length agents =
    search (rules, many, c.is_all.ensures, c.if-is_all.true) in
    subst (λ l. AreMoved l c.args.rows)
    (sym (kept_all pass agents (sym (length-map kept (λ (a : Agent). Some a))
    ∙ ap length (sym stand) ∙ length-map stay (λ p. slice_get agents p) ∙ long))) moved

pub returns : goal.returns
returns c agents pass moved stand =
    subst (λ l. AreMoved l c.in_ok-these.these)
    (picked-row agents (filter pass agents) c.args.stay.now stand)
    (c.in_ok-these.ensures agents moved)
