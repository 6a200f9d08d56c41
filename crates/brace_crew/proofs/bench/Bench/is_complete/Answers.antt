use Rattle.std.proofs.Common.{rules, ◌≡◌, ap, subst, ◌<◌, length, get_or, arith}
use Rattle.std.specs.List.{All}
use Rattle.std.proofs.lemmas.List.{take_all}
use Rattle.std.proofs.lemmas.List.Elements.{All-more}
use Rattle.brace_core.specs.declared.name.Turn.TheVariants.{Done}
use Rattle.brace_crew.specs.Members.{IsDone, IsAt}
use Rattle.brace_crew.specs.inner.Driven.{AreCounted}
use Rattle.brace_crew.proofs.BenchRounds.{used_to, all_at_end}
use Rattle.brace_crew.proofs.bench.Bench.is_complete.Goals as goal

pub loop-member-preserved : goal.loop-member-preserved
loop-member-preserved g c =
    let members = c.args.self.now.members in
    let i = c.loop-member.member-index in
    let m = c.member-item.result in
    let Q = IsDone c.args.steps in
    let all : c.as_slice-member-items.result.now ≡ members = search rules in
    let low : i < length members = subst (λ ms. i < length ms) all c.loop-member-test.true in
    let done : c.next.result ≡ Done = search rules in
    All-more Q members i m low c.loop-member.invariant (subst (λ ms. Q (get_or ms i m)) all (subst Q c.member-item.is (subst (λ t. t ≡ Done) c.next.ensures done)))

pub returns : goal.returns
returns g c is within =
    let members = c.args.self.now.members in
    let i = c.loop-member.member-index in
    let all : c.as_slice-member-items.result.now ≡ members = search rules in
    let done : All (IsDone c.args.steps) members = subst (All (IsDone c.args.steps)) (take_all i members (omega (arith, ap length all, c.loop-member-test.false))) c.loop-member.invariant in
    let counted = subst (λ b. AreCounted b.seat b.members) c.self.view_is c.self.invariant.members_counted in
    let at : All (IsAt c.args.steps) members = all_at_end c.args.steps members within done in
    record { at = at; used_to = used_to c.args.steps c.args.self.now.seat members counted at }
