use Rattle.std.proofs.Common.{sym, subst, length, drop}
use Rattle.std.specs.List.{All}
use Rattle.brace_crew.specs.Members.{course_of, IsAt, IsWithin}
use Rattle.brace_crew.specs.Benches.{OnBench}
use Rattle.brace_crew.proofs.RunEnds.{all_back}
use Rattle.brace_crew.proofs.bench.Bench.drive.Goals as goal

pub returns-clause-within : goal.returns-clause-within
returns-clause-within g c all =
    let ms = c.drive_members.new.members in
    let Q = IsWithin c.args.steps in
    let before : All Q c.self.inside.members.items = subst (λ (b : OnBench g.row.P.Denot). All Q b.members) (sym c.self.view_is) all in
    let back = all_back (λ m. (course_of m).actor) ms c.deref_mut.result.now (drop (length ms) c.self.inside.members.items) c.self.inside.members.len
    c.drive_members.ensures.same.numbers (sym c.deref_mut.ensures.len) in
    subst (All Q) (sym back) (c.drive_members.ensures.within (subst (All Q) (sym c.deref_mut.ensures.value) before))

pub returns-clause-done : goal.returns-clause-done
returns-clause-done g c is all =
    let ms = c.drive_members.new.members in
    let Q = IsWithin c.args.steps in
    let before : All Q c.self.inside.members.items = subst (λ (b : OnBench g.row.P.Denot). All Q b.members) (sym c.self.view_is) all in
    let back = all_back (λ m. (course_of m).actor) ms c.deref_mut.result.now (drop (length ms) c.self.inside.members.items) c.self.inside.members.len
    c.drive_members.ensures.same.numbers (sym c.deref_mut.ensures.len) in
    subst (All (IsAt c.args.steps)) (sym back) (c.drive_members.ensures.done is (subst (All Q) (sym c.deref_mut.ensures.value) before))

pub returns-clause-used_to : goal.returns-clause-used_to
returns-clause-used_to g c is all =
    let Q = IsWithin c.args.steps in
    let before : All Q c.self.inside.members.items = subst (λ (b : OnBench g.row.P.Denot). All Q b.members) (sym c.self.view_is) all in
    c.drive_members.ensures.used_to is (subst (All Q) (sym c.deref_mut.ensures.value) before)
