use Rattle.std.proofs.Common.{◌≡◌, ◌∙◌, ◌+◌, ◌++◌, [], ℕ, List, true, sym, ap, arith, subst, map, length, rules}
use Rattle.std.specs.Prelude.{filter, nat_lt}
use Rattle.std.specs.List.{list_all, range_with_len}
use Rattle.std.specs.List.Sorted.{IsPermutation}
use Rattle.std.proofs.lemmas.List.{length-append, length-map}
use Rattle.std.proofs.lemmas.List.Sorted.{IsPermutation-trans}
use Rattle.brace_num.proofs.Orders.{distinct_moved}
use Rattle.brace_model.specs.declared.world.Agent.{Agent}
use Rattle.brace_model.specs.Lawful.{is_lawful_agent}
use Rattle.brace_fold.specs.Arranged.{AreArranged, in_places}
use Rattle.brace_fold.specs.Asked.{by_row}
use Rattle.brace_fold.specs.Rows.{AreColumns, IsPicked, rows_in}
use Rattle.brace_fold.specs.Sums.{AreSummed}
use Rattle.brace_fold.proofs.ArrangedLemmas.{in-order}
use Rattle.brace_fold.proofs.MoveLemmas.{picked-by, rows-back}
use Rattle.brace_fold.proofs.Ownings.{picked-row}
use Rattle.brace_fold.proofs.RowLemmas.{all_lawful, are_rows, by_id_moved, lawful_moved, rows_are}
use Rattle.brace_herd.specs.Placed.{ArePlaces}
use Rattle.brace_herd.specs.inner.Hearing.{CanSay, CanSum}
use Rattle.brace_herd.specs.Said.{faults_over, said_over}
use Rattle.brace_herd.proofs.CellLemmas.{both_moved, first_moved}
use Rattle.brace_herd.proofs.HoldWork.{apart_behind}
use Rattle.brace_herd.proofs.NearLemmas.{places_rise}
use Rattle.brace_herd.proofs.query.Queries.summed.Goals.{In_ok-expect_wide}
use Rattle.brace_herd.proofs.query.Queries.summed.Goals as goal

-- those that it is given are lawful, and stand in columns
stand : (c : In_ok-expect_wide) (guests : List Agent)
    → (can : CanSum c.args.setting.now c.args.self.now c.args.tick c.args.count guests
    c.args.rows.now)
    → AreColumns (can.those ++ guests) c.as_columns-columns.result
    × (list_all (is_lawful_agent c.args.setting.now.job.program) (can.those ++ guests) ≡ true)
    × (rows_in c.args.setting.now.job.program c.as_columns-columns.result
    ≡ can.those ++ guests)
stand c guests can =
    let m = c.args.setting.now.job.program in
    let agents = can.those ++ guests in
    let are = c.as_columns-columns.ensures.are (ap (map (λ v. v.now)) c.deref-2.ensures.value
    ∙ c.in_ok-states.ensures ∙ c.deref.ensures.value) agents can.moved in
    let lawful = lawful_moved m (can.own ++ guests) agents
    (both_moved can.own can.those guests can.same) can.lawful in (
      are,
      lawful,
      rows_are m agents c.as_columns-columns.result are c.in_ok-expect_wide.ensures
          (all_lawful m agents lawful),
    )

pub of-requires : goal.of-requires
of-requires c =
    let (guests, can) = c.requires in
    let (are, lawful, same) = stand (goal.at.of-requires c).In_ok-expect_wide guests can in
    are_rows c.args.setting.now.job.program (can.those ++ guests) c.as_columns-columns.result are
    c.in_ok-expect_wide.ensures lawful
    (distinct_moved (λ (a : Agent). a.id) (can.own ++ guests) (can.those ++ guests)
    (both_moved can.own can.those guests can.same) can.apart)

pub said_to-requires-clause-can : goal.said_to-requires-clause-can
said_to-requires-clause-can c =
    let (guests, can) = c.requires in
    let m = c.args.setting.now.job.program in
    let (are, lawful, same) =
    stand (goal.at.said_to-requires-clause-can c).In_ok-expect_wide guests can in (
      can.those ++ guests,
      record {
        queries = can.queries;
        arranged_so = subst (λ l. AreArranged m l c.in_ok-arranged.arranged) same
            c.in_ok-arranged.ensures;
      },
    )

pub returns : goal.returns
returns c guests can =
    let s = c.args.setting.now in
    let m = s.job.program in
    let tick = c.args.tick in
    let agents = can.those ++ guests in
    let both = both_moved can.own can.those guests can.same in
    let (are, lawful, same) = stand (goal.at.returns c).In_ok-expect_wide guests can in
    let arranged = c.in_ok-arranged.arranged in
    let is = subst (λ l. AreArranged m l arranged) same c.in_ok-arranged.ensures in
    let order = arranged.order.items in
    let all = in_places agents arranged in
    let first : List ℕ = filter (λ row. nat_lt row (length can.those)) order in
    let theirs = by_row agents first in
    let own = c.in_ok-own.own.items in
    let moved = in-order m agents arranged is in
    let stand : ArePlaces all theirs own = picked-by agents order own first
    (subst (λ n. IsPicked own order (filter (λ row. nat_lt row n) order)) can.many
    c.in_ok-own.ensures) in
    let all_many : length c.args.rows.now.ids.items ≡ length can.those + length guests =
    ap length can.moved.ids_are ∙ length-map agents (λ (a : Agent). a.id)
    ∙ length-append can.those guests in
    let len : c.len.result ≡ length c.args.rows.now.ids.items = search rules in
    let many : c.saturating_sub.result ≡ length guests =
    omega (arith, c.saturating_sub.ensures, len, all_many, can.many) in
    let rest = c.in_ok-rest.rest.items in
    let behind : IsPicked rest order (range_with_len (length can.those) (length guests)) =
    subst (λ n. IsPicked rest order (range_with_len (length can.those) n)) many
    (subst (λ n. IsPicked rest order (range_with_len n c.saturating_sub.result)) can.many
    c.in_ok-rest.ensures) in
    let places : ArePlaces all guests rest = subst (λ l. ArePlaces all l rest)
    (rows-back can.those guests)
    (picked-by agents order rest (range_with_len (length can.those) (length guests)) behind) in
    let sorted = c.in_ok-places.ensures in
    let there = IsPermutation-trans can.own can.those theirs can.same
    (first_moved can.those guests order is.places) in
    let asked : IsPermutation can.own (by_row all c.deref-3.result.now) =
    subst (IsPermutation can.own) (sym (ap (by_row all) c.deref-3.ensures.value
    ∙ picked-row all theirs own stand)) there in
    let says : CanSay s c.args.self.now agents arranged =
    record { queries = can.queries; arranged_so = is } in
    let world = by_id_moved (can.own ++ guests) agents can.apart both in
    record {
      stand = record {
        all = all;
        theirs = theirs;
        moved = IsPermutation-trans (can.own ++ guests) agents all both moved;
        listed = c.in_ok-expect_listed.ensures all is.moved
            (lawful_moved m agents all moved lawful);
        same = there;
        own_stand = stand;
        guests_stand = places_rise all guests c.as_slice.result.now rest
            c.in_ok-places.places.items places (apart_behind can.own guests can.apart)
            (c.as_slice.ensures.value ∙ is.moved.ids_are) sorted.same sorted.in_order;
      };
      sums = subst (λ w. AreSummed m all (said_over s tick can.own w) c.in_ok-said.said) world
          (c.in_ok-said.ensures.said agents can.own says asked);
      quiet = subst (λ w. faults_over s tick can.own w ≡ []) world
          (c.in_ok-said.ensures.quiet agents can.own says asked);
    }
