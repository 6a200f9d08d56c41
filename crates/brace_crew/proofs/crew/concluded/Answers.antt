use Rattle.std.proofs.Common.{rules, ◌≡◌, ◌∙◌, sym, ap, subst, vec_len, length, All}
use Rattle.brace_crew.specs.Came.{CameTo}
use Rattle.brace_crew.specs.Workers.{EndsBehind}
use Rattle.brace_crew.specs.Members.{opening_of, IsAt}
use Rattle.brace_crew.specs.inner.Crews.{AreParts}
use Rattle.brace_crew.proofs.RunMembers.{some_member, no_part, desk_opening, parts_behind, parts_at, desk_behind}
use Rattle.brace_crew.proofs.crew.concluded.Goals as goal

pub settled-requires-clause-parts : goal.settled-requires-clause-parts
settled-requires-clause-parts g c =
    let (publisher, are) = c.requires.members in
    subst (AreParts c.args.setting.now) (sym c.deref.ensures.value)
    (parts_behind c.args.setting.now publisher c.args.members.items are c.pop.new.self.items c.in-Some-Desk.field-0 c.in-Some-Desk.ensures.items)

pub settled-requires-clause-ended : goal.settled-requires-clause-ended
settled-requires-clause-ended g c =
    let s = c.args.setting.now in
    let (publisher, are) = c.requires.members in
    let (n, ended) = c.requires.ended in
    let rest = c.pop.new.self.items in
    let last = c.in-Some-Desk.field-0 in
    let is = c.in-Some-Desk.ensures.items in (
      n,
      (
        subst (All (IsAt n)) (sym c.deref.ensures.value) (parts_at s publisher c.args.members.items are rest last is n ended),
        desk_behind s publisher c.args.members.items are rest last is n ended c.in-Some-Desk.desk c.in-Some-Desk.field-0-is,
      ),
    )

pub unreachable-requires : goal.unreachable-requires
unreachable-requires g c =
    let (publisher, are) = c.requires.members in
    no_part c.args.setting.now publisher c.args.members.items are c.pop.new.self.items c.in-Some-Part.field-0 c.in-Some-Part.ensures.items
    (ap opening_of c.in-Some-Part.field-0-is)

pub unreachable-requires-in-None : goal.unreachable-requires-in-None
unreachable-requires-in-None g c =
    let (publisher, are) = c.requires.members in
    let none : vec_len c.args.members ≡ 0 = c.in-None.ensures.cases.0 in
    let long : vec_len c.args.members ≡ length c.args.members.items = search rules in
    some_member c.args.setting.now publisher c.args.members.items are (sym long ∙ none)

pub returns : goal.returns
returns g c =
    let s = c.args.setting.now in
    let rest = c.pop.new.self.items in
    let last = c.in-Some-Desk.field-0 in
    let is = c.in-Some-Desk.ensures.items in
    record {
      came = λ publisher are.
          subst (λ p. CameTo g.P.Publisher s p c.settled.result.0 c.settled.result.1)
          (desk_opening s publisher c.args.members.items are rest last is c.in-Some-Desk.desk c.in-Some-Desk.field-0-is)
          c.settled.ensures.came;
      ends = λ publisher n are ended.
          subst (λ p. EndsBehind g.P.Publisher s p c.settled.result.0 n c.settled.result.1)
          (desk_opening s publisher c.args.members.items are rest last is c.in-Some-Desk.desk c.in-Some-Desk.field-0-is)
          (c.settled.ensures.ends n
          (subst (All (IsAt n)) (sym c.deref.ensures.value) (parts_at s publisher c.args.members.items are rest last is n ended))
          (desk_behind s publisher c.args.members.items are rest last is n ended c.in-Some-Desk.desk c.in-Some-Desk.field-0-is));
    }
