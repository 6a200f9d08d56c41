use Rattle.std.proofs.Common.{◌∙◌, ◌++◌, [], ap}
use Rattle.std.proofs.lemmas.List.{with_items_is}
use Rattle.brace_watch.proofs.Boxes.{boxes_figured, whole_figured}
use Rattle.brace_watch.proofs.Printed.{line_is, lines_more, lines_all}
use Rattle.brace_watch.proofs.print.print_watched.Goals as goal

pub loop-place-preserved : goal.loop-place-preserved
loop-place-preserved c =
    let program = c.args.program.now in
    let cuts = c.args.cuts.now in
    let agents = c.args.agents.now in
    let found = c.in_ok-found.ensures in
    let owned = c.deref_mut.ensures.value ∙ c.loop-place.invariant.owned in
    let is = c.requires.watches c.loop-place.place _ c.loop-place-test.true in
    let whole = whole_figured program _ cuts is agents _ _ _ owned found.boxes found.joined in
    let each = boxes_figured program _ cuts is agents _ _ owned found.boxes in
    record {
      owned = with_items_is c.loop-place.boxes c.figures_of.new.boxes
          (c.figures_of.auto.boxes ∙ c.deref_mut.ensures.len)
          ∙ found.kept ∙ owned;
      told = lines_more program cuts c.args.tick agents c.args.watches.now c.loop-place.place _ []
          c.loop-place.lines.items _ c.loop-place-test.true c.loop-place.invariant.told
          (c.in_ok-append_line.ensures.printed ∙ ap (λ l. c.loop-place.lines.items ++ l)
          (line_is program cuts c.args.tick agents c.loop-place.place _ _ _ _ c.type_of.ensures
          whole each));
    }

pub returns-clause-printed : goal.returns-clause-printed
returns-clause-printed c =
    c.in_ok-extend_from_slice.ensures.items ∙ ap (λ l. c.args.out.now.items ++ l)
    (c.deref.ensures.value ∙ lines_all c.args.program.now c.args.cuts.now c.args.tick
    c.args.agents.now c.args.watches.now c.loop-place.place [] _ c.loop-place-test.false
    c.loop-place.invariant.told)
