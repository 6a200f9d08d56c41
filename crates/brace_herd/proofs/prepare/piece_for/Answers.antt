use Rattle.std.proofs.Common.{◌∙◌, refl, sym, ap, ap₂, subst, ℤ, pos, ◌≤ℤ◌, FitsSigned, w64, [], ◌++◌, filter, Contains, rules}
use Rattle.std.proofs.lemmas.Int.{to_z-of_z}
use Rattle.std.proofs.lemmas.List.Elements.{All-head}
use Rattle.brace_num.specs.declared.kinds.Area.{Area}
use Rattle.brace_cuts.specs.Space.{LawfulCuts, area_of}
use Rattle.brace_cuts.specs.declared.space.Cuts.{Cuts}
use Rattle.brace_fold.specs.Rows.{by_id}
use Rattle.brace_invert.specs.Held.{is_near}
use Rattle.brace_pieces.specs.declared.piece.Piece.TheVariants as piece
use Rattle.brace_pieces.specs.declared.setting.Stage.TheVariants as stage
use Rattle.brace_pieces.specs.Settings.{cuts_of}
use Rattle.brace_pieces.specs.Steps.{met}
use Rattle.brace_pieces.specs.Owned.{owned}
use Rattle.brace_pieces.specs.Right.{IsRightAt, census_of}
use Rattle.brace_pieces.specs.Continued.{on}
use Rattle.brace_pieces.proofs.CutLemmas.{cuts_lawful, lawful_as, part_as}
use Rattle.brace_pieces.proofs.Meetings.{range_some}
use Rattle.brace_herd.specs.Works.{own_before}
use Rattle.brace_herd.specs.Holding.{mine}
use Rattle.brace_herd.specs.Ready.{IsReadyFor, left_in}
use Rattle.brace_herd.specs.inner.Tables.{shares_in}
use Rattle.brace_pieces.proofs.StepLemmas.{of_run}
use Rattle.brace_pieces.proofs.OutLemmas.{met_is_part, right_in}
use Rattle.brace_herd.proofs.PieceLemmas.{met_other, moved_right, sums_right, told_right}
use Rattle.brace_herd.proofs.HoldWork.{held_of, mine_lawful}
use Rattle.brace_herd.proofs.LawfulOn.{left_lawful}
use Rattle.brace_herd.proofs.prepare.piece_for.Goals as goal

pub agents_of-requires-clause-cuts : goal.agents_of-requires-clause-cuts
agents_of-requires-clause-cuts c =
    lawful_as _ _ _ _ c.cuts_at-cuts.ensures c.requires.worker.lawful.plan_is_lawful

pub agents_of-requires-clause-part : goal.agents_of-requires-clause-part
agents_of-requires-clause-part c =
    let w = c.args.worker.now in
    let is_part = met_is_part w.setting.now c.args.at w.part c.args.to c.requires.next.shows_nothing
    (All-head (λ q. Contains (met w.setting.now c.args.at w.part) q) c.args.to [] c.requires.to) in
    part_as _ _ w.setting.now.job.first _ _ _ c.cuts_at-cuts.ensures
    c.requires.worker.lawful.plan_is_lawful is_part

pub area-area-requires-clause-lawful : goal.area-area-requires-clause-lawful
area-area-requires-clause-lawful c =
    lawful_as _ _ _ _ c.cuts_at-cuts.ensures c.requires.worker.lawful.plan_is_lawful

pub area-area-requires-clause-in_range : goal.area-area-requires-clause-in_range
area-area-requires-clause-in_range c =
    let w = c.args.worker.now in
    let is_part = met_is_part w.setting.now c.args.at w.part c.args.to c.requires.next.shows_nothing
    (All-head (λ q. Contains (met w.setting.now c.args.at w.part) q) c.args.to [] c.requires.to) in
    part_as _ _ w.setting.now.job.first _ _ _ c.cuts_at-cuts.ensures
    c.requires.worker.lawful.plan_is_lawful is_part

pub agents_near-requires : goal.agents_near-requires
agents_near-requires c =
    let s = c.args.worker.now.setting.now in
    let fits : FitsSigned w64 c.range-range.result = search rules in
    subst (λ r. pos 0 ≤ℤ r)
    (sym (to_z-of_z w64 c.range-range.result fits ∙ c.range-range.ensures))
    (range_some s c.requires.worker.lawful)

pub moves_to-requires-clause-is_part : goal.moves_to-requires-clause-is_part
moves_to-requires-clause-is_part c =
    let w = c.args.worker.now in
    met_is_part w.setting.now c.args.at w.part c.args.to c.requires.next.shows_nothing
    (All-head (λ q. Contains (met w.setting.now c.args.at w.part) q) c.args.to [] c.requires.to)

pub returns-in_ok-agents_of-in-Hand-Owns : goal.returns-in_ok-agents_of-in-Hand-Owns
returns-in_ok-agents_of-in-Hand-Owns c =
    let w = c.args.worker.now in
    let s = w.setting.now in
    let t = c.args.at.tick in
    let found = c.in_ok-agents_of-in-Hand-Owns.field-0 in
    let ready = subst (λ st. IsReadyFor s w.part stage.Hand t st) c.in-Hand-Owns.is-1
    (subst (λ a. IsReadyFor s w.part a t c.args.stance.now) c.in-Hand-Owns.is-0 c.requires.ready) in
    let given = c.in_ok-agents_of-in-Hand-Owns.ensures _ ready
    ∙ ap (λ (cuts : Cuts). owned s.job.program cuts c.args.to
    (own_before s w.part stage.Hand t)) c.cuts_at-cuts.ensures in
    record {
      right =
          right_in s w.number w.part c.args.to c.args.at (piece.Hand found) c.requires.next.stands
          (subst (λ a. IsRightAt s w.number a t w.part c.args.to (piece.Hand found))
          (sym c.in-Hand-Owns.is-0) given);
      goes_on = tt;
    }

pub returns-in_ok-agents_near-in-Border-Owns : goal.returns-in_ok-agents_near-in-Border-Owns
returns-in_ok-agents_near-in-Border-Owns c =
    let w = c.args.worker.now in
    let s = w.setting.now in
    let m = s.job.program in
    let t = c.args.at.tick in
    let found = c.in_ok-agents_near-in-Border-Owns.field-0 in
    let ready = subst (λ st. IsReadyFor s w.part stage.Border t st) c.in-Border-Owns.is-1
    (subst (λ a. IsReadyFor s w.part a t c.args.stance.now) c.in-Border-Owns.is-0 c.requires.ready)
    in
    let own = own_before s w.part stage.Border t in
    let fits : FitsSigned w64 c.range-range.result = search rules in
    let given = c.in_ok-agents_near-in-Border-Owns.ensures.near _ ready
    ∙ ap₂ (λ (area : Area) (r : ℤ). filter (is_near m area r) own)
    (c.area-area.ensures ∙ ap (λ (cuts : Cuts). area_of cuts c.args.to) c.cuts_at-cuts.ensures)
    (to_z-of_z w64 c.range-range.result fits ∙ c.range-range.ensures) in
    record {
      right =
          right_in s w.number w.part c.args.to c.args.at (piece.Border found) c.requires.next.stands
          (subst (λ a. IsRightAt s w.number a t w.part c.args.to (piece.Border found))
          (sym c.in-Border-Owns.is-0) given);
      goes_on = tt;
    }

pub told_to-requires : goal.told_to-requires
told_to-requires c =
    let s = c.args.worker.now.setting.now in
    record {
      cuts = subst LawfulCuts (sym c.cuts_at-cuts.ensures)
          (cuts_lawful s.epoch s.cuts c.args.at.tick c.requires.worker.lawful.plan_is_lawful);
    }

pub returns-in_ok-moves_to-in-Move-Leaves : goal.returns-in_ok-moves_to-in-Move-Leaves
returns-in_ok-moves_to-in-Move-Leaves c =
    let w = c.args.worker.now in
    let s = w.setting.now in
    let t = c.args.at.tick in
    let found = c.in_ok-moves_to-in-Move-Leaves.field-0 in
    let ready = subst (λ st. IsReadyFor s w.part stage.Move t st) c.in-Move-Leaves.is-1
    (subst (λ a. IsReadyFor s w.part a t c.args.stance.now) c.in-Move-Leaves.is-0 c.requires.ready)
    in
    let given = c.in_ok-moves_to-in-Move-Leaves.ensures.theirs _ ready.lives
    ∙ ap (λ xs. owned s.job.program (cuts_of s t) c.args.to
    (left_in s w.part t ++ xs)) c.deref-in-Move-Leaves.ensures.value in
    record {
      right =
          right_in s w.number w.part c.args.to c.args.at (piece.Move found) c.requires.next.stands
          (subst (λ a. IsRightAt s w.number a t w.part c.args.to (piece.Move found))
          (sym c.in-Move-Leaves.is-0)
          (moved_right s c.requires.worker.lawful c.requires.worker.numbers t w.part c.args.to
          (left_in s w.part t) c.in-Move-Leaves.born.items found refl ready.born_so given));
      goes_on = tt;
    }

pub returns-in_ok-census_of-in-Census-Leaves : goal.returns-in_ok-census_of-in-Census-Leaves
returns-in_ok-census_of-in-Census-Leaves c =
    let w = c.args.worker.now in
    let s = w.setting.now in
    let t = c.args.at.tick in
    let found = c.in_ok-census_of-in-Census-Leaves.field-0 in
    let ready = subst (λ st. IsReadyFor s w.part stage.Census t st) c.in-Census-Leaves.is-1
    (subst (λ a. IsReadyFor s w.part a t c.args.stance.now) c.in-Census-Leaves.is-0
    c.requires.ready) in
    let lawful = left_lawful s c.requires.worker.lawful t (on s t).agents _
    (mine_lawful w c.requires.worker t) in
    let given = c.in_ok-census_of-in-Census-Leaves.ensures _ ready.lives lawful
    ∙ ap (census_of (left_in s w.part t)) (c.deref-in-Census-Leaves.ensures.value ∙ ready.bears) in
    record {
      right =
          right_in s w.number w.part c.args.to c.args.at (piece.Census found) c.requires.next.stands
          (subst (λ a. IsRightAt s w.number a t w.part c.args.to (piece.Census found))
          (sym c.in-Census-Leaves.is-0) given);
      goes_on = tt;
    }

pub returns-in_ok-entries-in-Effects-Hears : goal.returns-in_ok-entries-in-Effects-Hears
returns-in_ok-entries-in-Effects-Hears c =
    let w = c.args.worker.now in
    let s = w.setting.now in
    let t = c.args.at.tick in
    let entries = c.in_ok-entries-in-Effects-Hears.entries in
    let held = c.in-Effects-Hears.held.items in
    let heard = c.in-Effects-Hears.heard in
    let ready = subst (λ st. IsReadyFor s w.part stage.Effects t st) c.in-Effects-Hears.is-1
    (subst (λ a. IsReadyFor s w.part a t c.args.stance.now) c.in-Effects-Hears.is-0
    c.requires.ready) in
    let run = of_run s w.number c.args.at c.requires.next.stands in
    record {
      right =
          right_in s w.number w.part c.args.to c.args.at
          (piece.Effects entries) c.requires.next.stands
          (subst (λ a. IsRightAt s w.number a t w.part c.args.to (piece.Effects entries))
          (sym c.in-Effects-Hears.is-0)
          (told_right s c.requires.worker.lawful c.requires.worker.numbers t w.part
          c.requires.worker.is_part (run.apart c.in-Effects-Hears.is-0) c.args.to held heard entries
          ready.1
          (λ said faults h. c.in_ok-entries-in-Effects-Hears.ensures.told said faults
          (rw c.deref.ensures.value h)
          ∙ ap (λ cuts. shares_in s.job.program cuts c.args.to c.deref.result.now
          said) c.cuts_at-cuts.ensures
          ∙ ap (λ list. shares_in s.job.program
          (cuts_of s t) c.args.to list said) c.deref.ensures.value)));
      goes_on = tt;
    }

pub told_sums-requires : goal.told_sums-requires
told_sums-requires c =
    let w = c.args.worker.now in
    let s = w.setting.now in
    let is_part = met_is_part s c.args.at w.part c.args.to c.requires.next.shows_nothing
    (All-head (λ q. Contains (met s c.args.at w.part) q) c.args.to [] c.requires.to) in
    record {
      cuts = subst LawfulCuts (sym c.cuts_at-cuts.ensures)
          (cuts_lawful s.epoch s.cuts c.args.at.tick c.requires.worker.lawful.plan_is_lawful);
      part = part_as _ _ s.job.first _ _ _ c.cuts_at-cuts.ensures
          c.requires.worker.lawful.plan_is_lawful is_part;
    }

pub returns-in_ok-entries-in-Effects-Holds : goal.returns-in_ok-entries-in-Effects-Holds
returns-in_ok-entries-in-Effects-Holds c =
    let w = c.args.worker.now in
    let s = w.setting.now in
    let t = c.args.at.tick in
    let entries = c.in_ok-entries-in-Effects-Holds.entries in
    let held = c.in-Effects-Holds.held in
    let ready = subst (λ st. IsReadyFor s w.part stage.Effects t st) c.in-Effects-Holds.is-1
    (subst (λ a. IsReadyFor s w.part a t c.args.stance.now) c.in-Effects-Holds.is-0
    c.requires.ready) in
    let run = of_run s w.number c.args.at c.requires.next.stands in
    let other = met_other s c.args.at w.part c.args.to
    (All-head (λ q. Contains (met s c.args.at w.part) q) c.args.to [] c.requires.to) in
    record {
      right =
          right_in s w.number w.part c.args.to c.args.at
          (piece.Effects entries) c.requires.next.stands
          (subst (λ a. IsRightAt s w.number a t w.part c.args.to (piece.Effects entries))
          (sym c.in-Effects-Holds.is-0)
          (sums_right s c.requires.worker.lawful c.requires.worker.numbers t w.part
          c.requires.worker.is_part (run.apart c.in-Effects-Holds.is-0) c.args.to held entries
          ready.1
          (held_of w c.requires.worker t (mine s w.part t) ready.1.holds.guests
          ready.1.holds.holds c.args.to other)
          (λ said moved stand h.
          c.in_ok-entries-in-Effects-Holds.ensures.told ready.1.holds.stand.all
          ready.1.holds.guests said moved stand h
          ∙ ap (λ cuts. shares_in s.job.program cuts c.args.to (by_id ready.1.holds.guests) said)
          c.cuts_at-cuts.ensures)));
      goes_on = tt;
    }
