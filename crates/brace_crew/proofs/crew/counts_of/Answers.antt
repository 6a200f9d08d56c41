use Rattle.std.proofs.Common.{rules, ◌≡◌, ◌∙◌, sym, ap, get_or, true, None, is_none}
use Rattle.brace_pieces.specs.Given.{together}
use Rattle.brace_crew.proofs.CountsGiven.{one_given}
use Rattle.brace_crew.proofs.crew.counts_of.Goals as goal
use Rattle.brace_num.proofs.Options.{none_there}

pub loop-member-preserved : goal.loop-member-preserved
loop-member-preserved g c s are at_end =
    let members = c.args.members.now in
    let i = c.loop-member.member-index in
    let m = c.member-item.result in
    let p = c.in-Part.part in
    let at : get_or members i m ≡ m = sym c.member-item.is in
    let here : is_none c.cause.result ≡ true = search rules in
    let none : p.cause ≡ None = sym c.cause.ensures.same ∙ none_there c.cause.result here in
    c.in_ok-join-in-Part.ensures
    ∙ ap (together c.loop-member.all) c.counts.ensures.same
    ∙ one_given s members are at_end i m c.loop-member-test.true at p c.in-Part.is c.cause.ensures.course (c.counts.ensures.given none) c.loop-member.all (c.loop-member.invariant s are at_end)
