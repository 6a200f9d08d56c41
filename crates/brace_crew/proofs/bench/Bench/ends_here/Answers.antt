use Rattle.std.proofs.Common.{◌≡◌, ◌∙◌, sym, ap, subst, map, drop, length}
use Rattle.std.specs.List.{All}
use Rattle.brace_crew.specs.Members.{course_of, opening_of, HasTold, IsAt, WasUntold}
use Rattle.brace_crew.specs.Benches.{OnBench}
use Rattle.brace_crew.specs.inner.Crews.{HaveDeskLast}
use Rattle.brace_crew.specs.inner.Driven.{AreCounted}
use Rattle.brace_crew.proofs.BenchRounds.{still_counted}
use Rattle.brace_crew.proofs.RunEnds.{all_back}
use Rattle.brace_crew.proofs.bench.Bench.ends_here.Goals as goal

pub end_here-requires : goal.end_here-requires
end_here-requires g c = record {
  desk_last = subst HaveDeskLast (sym c.deref_mut.ensures.value) (subst (λ (b : OnBench g.row.P.Denot). HaveDeskLast b.members) (sym c.self.view_is) c.requires.desk_last);
}

pub invariant_of-self : goal.invariant_of-self
invariant_of-self g c =
    let items = c.self.inside.members.items in
    let ms = c.end_here.new.members in
    let v = c.self.inside.end.seat.view in
    let courses = c.end_here.ensures.courses in
    let back = all_back course_of ms c.deref_mut.result.now (drop (length ms) items) c.self.inside.members.len courses (sym c.deref_mut.ensures.len) in
    record {
      at_lanes = c.self.invariant.at_lanes;
      number_is = c.self.invariant.number_is;
      members_counted = subst (AreCounted v) (sym back) (still_counted v items ms (courses ∙ ap (map course_of) c.deref_mut.ensures.value) c.self.invariant.members_counted);
    }

pub returns : goal.returns
returns g c =
    let items = c.self.inside.members.items in
    let ms = c.end_here.new.members in
    let asked = c.end_here.ensures in
    let value = c.deref_mut.ensures.value in
    let back = all_back course_of ms c.deref_mut.result.now (drop (length ms) items) c.self.inside.members.len asked.courses (sym c.deref_mut.ensures.len) in
    record {
      told = λ e. subst (All HasTold) (sym back) (asked.told e);
      untold = λ e s n within settings at.
          let settings_there = subst (All (λ m. (course_of m).setting ≡ s)) (sym value) (subst (λ (b : OnBench g.row.P.Denot). All (λ m. (course_of m).setting ≡ s) b.members) (sym c.self.view_is) settings) in
          let at_there = subst (All (IsAt n)) (sym value) (subst (λ (b : OnBench g.row.P.Denot). All (IsAt n) b.members) (sym c.self.view_is) at) in
          subst (All (WasUntold s n)) (sym back) (asked.untold e s n within settings_there at_there);
      same = λ e.
          ap (λ l. record { number = c.self.inside.number; members = l; lanes = c.self.inside.end.seat.lanes; seat = c.self.inside.end.seat.view }) (back ∙ asked.same e ∙ value)
          ∙ c.self.view_is;
      courses = ap (map course_of) back ∙ asked.courses ∙ ap (map course_of) value ∙ ap (λ (b : OnBench g.row.P.Denot). map course_of b.members) c.self.view_is;
      openings = ap (map opening_of) back ∙ asked.openings ∙ ap (map opening_of) value ∙ ap (λ (b : OnBench g.row.P.Denot). map opening_of b.members) c.self.view_is;
      lanes = ap (λ (b : OnBench g.row.P.Denot). b.lanes) c.self.view_is;
      seat = ap (λ (b : OnBench g.row.P.Denot). b.seat) c.self.view_is;
    }
