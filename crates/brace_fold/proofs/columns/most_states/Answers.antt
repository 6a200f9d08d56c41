use Rattle.std.proofs.Common.{◌≤◌, All, List, length, subst}
use Rattle.std.proofs.lemmas.List.{take_all}
use Rattle.brace_model.specs.declared.program.Class.{Class}
use Rattle.brace_fold.proofs.columns.most_states.Goals as goal

pub returns : goal.returns
returns c =
    let many = subst (λ (l : List Class). length l ≤ c.loop-class.class-index)
    c.as_slice-class-items.ensures c.loop-class-test.false in
    subst (λ (l : List Class). All (λ k. length k.states ≤ c.loop-class.most) l)
    (take_all c.loop-class.class-index c.args.program.now.classes many) c.loop-class.invariant
