use Rattle.std.proofs.Common.{◌≡◌, ◌≤◌, ◌+◌, ◌*◌, ◌/◌, ℕ, List, false, sym, ap, subst, length, arith, rules}
use Rattle.brace_fold.specs.inner.Crowds.{AreTaken}
use Rattle.brace_fold.proofs.Crowdings.{taken-all, taken-none}
use Rattle.brace_fold.proofs.crowd.taken_on.Goals as goal
use Rattle.brace_fold.proofs.crowd.taken_on.Goals.{then-any_on_side+in_ok-take_between, else-any_on_side}

pub loop-eight-preserved : goal.loop-eight-preserved
loop-eight-preserved c =
    let set = c.args.set in
    let words = c.args.words.now in
    let eight = c.loop-eight.eight in
    let on : 8 * eight + 8 ≡ 8 * (eight + 1) = omega arith in
    let within : 8 * c.loop-eight.eight + 8 ≤ length c.args.words.now =
    omega (arith, c.requires, c.loop-eight-test.true) in
    subst (λ n. AreTaken set words n c.if-any_on_side.numbers.items) on
    (elim c.if-any_on_side.branch [
      | then-any_on_side+in_ok-take_between w ↦
          subst (λ (l : List ℕ). AreTaken set words (8 * eight + 8) l)
          (sym (ap (λ v. v.items) w.numbers-is))
          (w.in_ok-take_between.ensures c.loop-eight.invariant)
      | else-any_on_side w ↦
          subst (λ (l : List ℕ). AreTaken set words (8 * eight + 8) l)
          (sym (ap (λ v. v.items) w.numbers-is))
          (taken-none set words c.loop-eight.numbers.items (8 * eight) (8 * eight + 8)
          (omega arith) within (c.any_on_side.ensures w.if-any_on_side.false)
          c.loop-eight.invariant)
    ])

pub returns : goal.returns
returns c = λ lanes d long.
    let end : c.loop-eight.eight ≡ c.args.count / 8 = search rules in
    taken-all c.args.set c.args.words.now c.take_between-2.new.numbers.items c.args.count lanes d
    c.requires long (c.in_ok-take_between-2.ensures
    (subst (λ n. AreTaken c.args.set c.args.words.now (8 * n) c.loop-eight.numbers.items) end
    c.loop-eight.invariant))
