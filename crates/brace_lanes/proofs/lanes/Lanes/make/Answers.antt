use Rattle.std.proofs.Common.{◌≡◌, ◌∙◌, ◌+◌, ◌*◌, List, ℕ, None, replicate, get_or, ap, sym, subst, arith, rules}
use Rattle.atomic_table.specs.Table.{opening as opened}
use Rattle.brace_lanes.specs.Views.{opening}
use Rattle.brace_lanes.specs.Rule.{IsKept}
use Rattle.brace_lanes.proofs.StepsAllowed.{starts}
use Rattle.brace_lanes.proofs.MakeLemmas.{some_seats, one_more}
use Rattle.brace_lanes.proofs.lanes.Lanes.make.Goals as goal

pub vacant-requires : goal.vacant-requires
vacant-requires g c =
    let n = c.args.actors in
    let zeros : c.as_slice.result.now ≡ replicate c.word_count.result 0 = search rules in
    subst (λ (ws : List ℕ). IsKept g.F.Cargo.schedule g.F.Cargo.right (opened ws (replicate (n * n + n * n) None) (opening c.of.result.value n c.from.result 0 1))) (sym (zeros ∙ ap (λ j. replicate j 0) c.word_count.ensures)) (starts g.F.Cargo.schedule g.F.Cargo.right c.of.result.value n c.from.result)

pub index_mut-requires : goal.index_mut-requires
index_mut-requires g c =
    let some = some_seats c.in_ok-table.table.shared.table_id c.args.setting.now c.args.actors c.args.seats c.loop.all.items c.loop.counter c.loop.invariant in
    omega (arith, some, c.loop.all.ok.0)

pub split-requires-clause-lanes : goal.split-requires-clause-lanes
split-requires-clause-lanes g c = ap (λ s. s.lanes) (c.index_mut.ensures.value ∙ ap (λ l. get_or l 0 c.index_mut.result.now) c.loop.invariant)

pub split-requires-clause-first : goal.split-requires-clause-first
split-requires-clause-first g c = ap (λ s. s.view.number) (c.index_mut.ensures.value ∙ ap (λ l. get_or l 0 c.index_mut.result.now) c.loop.invariant)

pub loop-preserved : goal.loop-preserved
loop-preserved g c =
    let was = c.index_mut.ensures.value ∙ ap (λ l. get_or l 0 c.index_mut.result.now) c.loop.invariant in
    let h = one_more c.in_ok-table.table.shared.table_id c.args.setting.now c.args.actors c.args.seats c.loop.all.items c.loop.counter c.index_mut.result.now c.split.new.self c.in_ok-next.next c.loop.invariant c.loop.auto.counter was c.in_ok-next.ensures.first c.in_ok-next.ensures.made in
    search (h, rules)
