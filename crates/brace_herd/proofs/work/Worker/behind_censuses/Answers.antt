use Rattle.std.proofs.Common.{◌∙◌, sym, ap, subst, inl, Some, ◌+◌, map, filter_map, flat_map, length}
use Rattle.std.specs.Prelude.{option_map}
use Rattle.std.specs.List.Sorted.{IsStrictlyIncreasing}
use Rattle.brace_pieces.specs.declared.piece.Cause.TheVariants as cause
use Rattle.brace_pieces.specs.Together.{with_number}
use Rattle.brace_pieces.specs.Censuses.{parent_fault}
use Rattle.brace_herd.specs.Works.{cause_of}
use Rattle.brace_pieces.specs.Exchanged.{counts_brought}
use Rattle.brace_herd.specs.Ready.{HasBorn}
use Rattle.brace_herd.proofs.CensusWork.{low_next, rising, found_is, has_born, sum_is}
use Rattle.brace_herd.proofs.work.Worker.behind_censuses.Goals as goal

pub first_too_far-requires : goal.first_too_far-requires
first_too_far-requires c =
    let w = c.args.self.now in
    let born = c.args.born.items in
    let sum = sum_is w c.requires.worker c.args.tick c.args.left born c.deref.result.now w.next
    c.requires.left c.deref.ensures.value (flat_map counts_brought c.args.taken.now.items)
    c.in_ok-census_of.field-0 c.in_ok-all.all c.in_ok-census_of.ensures c.in_ok-all.ensures.sum in
    low_next w c.requires.worker c.args.tick c.args.taken.now.items c.requires.work
    c.args.left born c.requires.left c.in_ok-all.all sum

pub returns-in-Some-clause-faulted : goal.returns-in-Some-clause-faulted
returns-in-Some-clause-faulted c =
    let m = c.args.self.now.setting.now.job.program in
    let w = c.args.self.now in
    let born = c.args.born.items in
    let sum = sum_is w c.requires.worker c.args.tick c.args.left born c.deref.result.now w.next
    c.requires.left c.deref.ensures.value (flat_map counts_brought c.args.taken.now.items)
    c.in_ok-census_of.field-0 c.in_ok-all.all c.in_ok-census_of.ensures c.in_ok-all.ensures.sum in
    let found = found_is w c.requires.worker c.args.tick c.args.taken.now.items
    c.requires.work c.args.left born c.requires.left c.in_ok-all.all sum
    (Some c.in-Some.parent) c.in-Some.ensures.first in
    inl (ap (λ f. Some (cause.Fault f)) c.birth_fault.ensures ∙ sym (ap cause_of found))

pub returns-clause-passes : goal.returns-clause-passes
returns-clause-passes c =
    let w = c.args.self.now in
    let born = c.args.born.items in
    let sum = sum_is w c.requires.worker c.args.tick c.args.left born c.deref.result.now w.next
    c.requires.left c.deref.ensures.value (flat_map counts_brought c.args.taken.now.items)
    c.in_ok-census_of.field-0 c.in_ok-all.all c.in_ok-census_of.ensures c.in_ok-all.ensures.sum in
    found_is w c.requires.worker c.args.tick c.args.taken.now.items c.requires.work
    c.args.left born c.requires.left c.in_ok-all.all sum c.first_too_far.result
    c.first_too_far.ensures.first
    ∙ ap (option_map (parent_fault c.args.self.now.setting.now.job.program c.args.tick))
    c.in_default.is

pub numbered-requires-clause-rises : goal.numbered-requires-clause-rises
numbered-requires-clause-rises c =
    let w = c.args.self.now in
    let born = c.args.born.items in
    let sum = sum_is w c.requires.worker c.args.tick c.args.left born c.deref.result.now w.next
    c.requires.left c.deref.ensures.value (flat_map counts_brought c.args.taken.now.items)
    c.in_ok-census_of.field-0 c.in_ok-all.all c.in_ok-census_of.ensures c.in_ok-all.ensures.sum in
    subst (λ ps. IsStrictlyIncreasing (map (λ p. p.id) ps)) (sym c.as_slice-parents.ensures)
    (rising w c.requires.worker c.args.tick c.args.taken.now.items c.requires.work
    c.args.left born c.requires.left c.in_ok-all.all sum)

pub returns-clause-ready : goal.returns-clause-ready
returns-clause-ready c =
    let w = c.args.self.now in
    let born = c.args.born.items in
    let sum = sum_is w c.requires.worker c.args.tick c.args.left born c.deref.result.now w.next
    c.requires.left c.deref.ensures.value (flat_map counts_brought c.args.taken.now.items)
    c.in_ok-census_of.field-0 c.in_ok-all.all c.in_ok-census_of.ensures c.in_ok-all.ensures.sum in
    let by_rank = c.in_ok-born.ensures
    ∙ ap (λ ps. filter_map (with_number w.next
    (map (λ p. p.id) ps)) c.args.born.items) c.as_slice-parents.ensures in
    subst (λ ps. HasBorn w.setting.now w.part c.args.tick c.args.left c.in_ok-born.born.items
    (w.next + length ps)) (sym c.as_slice-parents.ensures)
    (has_born w c.requires.worker c.args.tick c.args.taken.now.items c.requires.work c.args.left
    born c.requires.left c.in_ok-all.all sum
    c.first_too_far.result c.first_too_far.ensures.first c.in_default.is c.in_ok-born.born.items
    by_rank)
