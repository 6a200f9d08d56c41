use Rattle.std.proofs.Common.{◌≡◌, ◌∙◌, ◌+◌, ◌-◌, ◌<◌, ◌≤◌, ap, arith, get_or, length, map, refl, rules, subst, sym, w64, to_z, of_z}
use Rattle.brace_model.specs.declared.program.Comb.TheVariants.{Sum}
use Rattle.brace_model.specs.Total.{total_of}
use Rattle.brace_model.specs.Value.{typed}
use Rattle.brace_code.proofs.ViewLemmas.{rows_part}
use Rattle.brace_fold.specs.inner.Deeds.{between}
use Rattle.brace_fold.proofs.Walks.{between-at, between-long}
use Rattle.brace_fold.proofs.spoken.SummedAtSpoken.total.Goals as goal

pub sum_at-requires-clause-within : goal.sum_at-requires-clause-within
sum_at-requires-clause-within c = λ k low.
    let me = c.args.self.now in
    let from = c.args.from in
    let next = c.args.next in
    let rows = me.rows.now in
    let part : c.in_ok-rows.rows.now ≡ between from next rows = search rules in
    let last : next ≤ length rows = search rules in
    let some : k < length (between from next rows) = subst (λ l. k < length l) part low in
    let here : from + k < next = omega (arith, some, between-long from next rows last) in
    subst (λ row. row < length me.column.now)
    (sym (ap (λ l. get_or l k 0) part ∙ between-at from next rows k 0 here))
    (me.within (from + k) (omega (arith, here, last)))

pub returns : goal.returns
returns c = λ n low long.
    let me = c.args.self.now in
    let part : c.in_ok-rows.rows.now ≡ between c.args.from c.args.next me.rows.now =
    search rules in
    let kept : to_z w64 (of_z w64 c.in_ok-total.total) ≡ c.in_ok-total.total = search rules in
    kept ∙ c.in_ok-total.ensures ∙ ap (λ words. total_of Sum (map (typed me.ty) words))
    (rows_part me.column.now me.column.now me.rows.now c.in_ok-rows.rows.now
    (c.args.next - c.args.from) c.args.from refl part)
