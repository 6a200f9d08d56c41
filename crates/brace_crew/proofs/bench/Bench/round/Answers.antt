use Rattle.std.proofs.Common.{sym, subst, length, drop}
use Rattle.std.specs.List.{All}
use Rattle.brace_crew.specs.Members.{course_of, IsWithin}
use Rattle.brace_crew.specs.Benches.{OnBench}
use Rattle.brace_crew.proofs.RunEnds.{all_back}
use Rattle.brace_crew.proofs.bench.Bench.round.Goals as goal

pub returns-clause-within : goal.returns-clause-within
returns-clause-within g c all =
    let ms = c.make_turns.new.members in
    let Q = IsWithin c.args.steps in
    let before : All Q c.self.inside.members.items = subst (λ (b : OnBench g.row.P.Denot). All Q b.members) (sym c.self.view_is) all in
    let back = all_back (λ m. (course_of m).actor) ms c.deref_mut.result.now (drop (length ms) c.self.inside.members.items) c.self.inside.members.len
    c.make_turns.ensures.same.numbers (sym c.deref_mut.ensures.len) in
    subst (All Q) (sym back) (c.make_turns.ensures.within (subst (All Q) (sym c.deref_mut.ensures.value) before))
