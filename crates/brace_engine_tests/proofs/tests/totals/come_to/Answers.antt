use Rattle.std.proofs.Common.{sym, subst, List}
use Rattle.brace_model.specs.Query.{Saying}
use Rattle.brace_comb.specs.declared.entry.Entry.{Entry}
use Rattle.brace_engine_tests.specs.declared.tests.totals.Said.{Said}
use Rattle.brace_comb.specs.Entries.{CanMerge}
use Rattle.brace_comb.proofs.Said.{may_merge_said}
use Rattle.brace_engine_tests.proofs.tests.totals.come_to.Goals as goal

abbrev saying : Said → Saying
saying s = record { target = s.target; field = s.field; value = s.value }

pub merge-requires-clause-joins : goal.merge-requires-clause-joins
merge-requires-clause-joins c =
    let r = c.requires in
    subst (λ (l : List Entry). CanMerge c.in_ok-ab.ab l) (sym c.entries.ensures.same)
    (may_merge_said saying (λ t f. c.args.comb) c.args.a.now c.args.b.now c.in_ok-ab.ab c.in_ok-second.second
    c.in_ok-ab.ensures c.in_ok-second.ensures r.first_fit r.second_fit r.first_few r.second_few)

pub merge-requires-2-clause-joins : goal.merge-requires-2-clause-joins
merge-requires-2-clause-joins c =
    let r = c.requires in
    subst (λ (l : List Entry). CanMerge c.in_ok-ba.ba l) (sym c.entries-2.ensures.same)
    (may_merge_said saying (λ t f. c.args.comb) c.args.b.now c.args.a.now c.in_ok-ba.ba c.in_ok-first.first
    c.in_ok-ba.ensures c.in_ok-first.ensures r.second_fit r.first_fit r.second_few r.first_few)
