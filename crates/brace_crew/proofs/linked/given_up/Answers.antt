use Rattle.std.proofs.Common.{ap, subst, Err}
use Rattle.brace_crew.specs.Came.{CameTo}
use Rattle.brace_crew.specs.Members.{opening_of}
use Rattle.brace_crew.proofs.RunMembers.{no_part, desk_opening, desk_setting}
use Rattle.brace_crew.proofs.linked.given_up.Goals as goal

pub left-requires-clause-desk : goal.left-requires-clause-desk
left-requires-clause-desk g c =
    let (publisher, are) = c.requires.members in
    desk_setting c.args.setting.now publisher c.args.members.items are c.pop.new.self.items c.in-Some-Desk.field-0 c.in-Some-Desk.ensures.items
    c.in-Some-Desk.desk c.in-Some-Desk.field-0-is

pub unreachable-requires : goal.unreachable-requires
unreachable-requires g c =
    let (publisher, are) = c.requires.members in
    no_part c.args.setting.now publisher c.args.members.items are c.pop.new.self.items c.in-Some-Part.field-0 c.in-Some-Part.ensures.items
    (ap opening_of c.in-Some-Part.field-0-is)

pub returns : goal.returns
returns g c = record {
  came = λ publisher are.
      subst (λ p. CameTo g.P.Publisher c.args.setting.now p c.left.result.0 (Err c.left.result.1))
      (desk_opening c.args.setting.now publisher c.args.members.items are c.pop.new.self.items c.in-Some-Desk.field-0 c.in-Some-Desk.ensures.items
      c.in-Some-Desk.desk c.in-Some-Desk.field-0-is)
      c.left.ensures.came;
  no_end = c.left.ensures.no_end;
}
