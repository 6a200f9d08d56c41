use Rattle.std.proofs.Common.{◌∙◌, sym, ap, length, map, subst}
use Rattle.std.specs.List.{range_with_len}
use Rattle.std.specs.List.Sorted.{IsPermutation}
use Rattle.std.proofs.lemmas.List.Sorted.{IsPermutation-map, IsPermutation-sym}
use Rattle.brace_model.specs.World.{RisesById}
use Rattle.brace_fold.specs.Listed.{agents_in}
use Rattle.brace_fold.proofs.RowLemmas.{by_id_is}
use Rattle.brace_herd.specs.inner.Packing.{agent_at}
use Rattle.brace_herd.proofs.packing.packed.Goals as goal

pub returns-then-rises : goal.returns-then-rises
returns-then-rises c =
    let program = c.args.program.now in
    let own = c.args.own.now in
    let agent = agent_at program own in
    let all = range_with_len 0 (length own.ids.items) in
    let rows = c.in-Ok.rows.items in
    let is = c.in_ok-herd.ensures program (c.deref.ensures.value ∙ c.in_ok-types.ensures)
    ∙ ap (map agent) c.deref-2.ensures.value in
    let same = subst (λ l. IsPermutation (range_with_len 0 (length l)) rows)
    c.as_slice.ensures.value c.in-Ok.ensures in
    let moved = subst (IsPermutation (map agent all)) (sym is)
    (IsPermutation-map agent all rows same) in
    sym (by_id_is c.in_ok-herd.herd (agents_in program own) c.if-rises.ensures
    (IsPermutation-sym (map agent all) c.in_ok-herd.herd moved))
