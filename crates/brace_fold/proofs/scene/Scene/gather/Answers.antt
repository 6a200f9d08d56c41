use Rattle.std.proofs.Common.{◌∙◌, sym, subst, ◌++◌, List, Some, ap, ap₂, flat_map, map, rules, arith}
use Rattle.brace_plan.specs.Acts.{near_by}
use Rattle.brace_code.specs.declared.lane.Lane.{Lane}
use Rattle.brace_model.specs.Value.{Scope}
use Rattle.brace_fold.specs.declared.crowd.Crowd.{Crowd}
use Rattle.brace_fold.specs.declared.crowd.Depth.{Depth}
use Rattle.brace_fold.specs.declared.gathering.Entered.{Entered}
use Rattle.brace_fold.specs.inner.Crowds.{AreOf, deeper, entered, lanes_inside, rows, spread}
use Rattle.brace_fold.specs.inner.Deeds.{between, into}
use Rattle.brace_fold.proofs.Enterings.{enters-more, enters-none, kept_inside, reached, same_front, stretches-more}
use Rattle.brace_fold.proofs.Looks.{appended_behind, appended_count, appended_front}
use Rattle.brace_fold.proofs.scene.Scene.gather.Goals as goal

pub loop-next-init : goal.loop-next-init
loop-next-init c = record {
  from = omega arith;
  within = omega (arith, c.requires.from);
  led = c.requires.led;
  full = c.in_ok-lanes.ensures.full c.args.crowd.now.depth;
  of = λ scopes stands.
      enters-none c.args.self.now (deeper c.args.crowd.now.depth) scopes c.args.class
      c.args.bounds.now c.args.from _ (c.in_ok-lanes.ensures.none c.args.crowd.now.depth);
  stretches =
      let none = c.in_ok-lanes.ensures.none c.args.crowd.now.depth in
      ap spread c.in_ok-stretches.ensures.items ∙ ap (map (λ (l : Lane). l.this)) (sym none);
}

pub loop-next-preserved : goal.loop-next-preserved
loop-next-preserved c =
    let scene = c.args.self.now in
    let depth = c.args.crowd.now.depth in
    let lanes : Entered = c.loop-next.lanes in
    let near = c.find.new.near.items in
    let count = c.in_ok-count.count in
    let finds = c.in_ok-count.ensures.finds in
    let low = c.loop-next.invariant.full.near in
    let front =
    appended_front lanes.count count lanes.near.items near finds.found low finds.appended in
    let inside = c.in_ok-enter.ensures.lanes
    ∙ ap (λ l. l ++ map (entered depth c.in_ok-lane.lane) (between lanes.count count near))
    (kept_inside lanes (record lanes { near = c.find.new.near })
    (same_front lanes.near.items near lanes.count front) depth) in
    record {
      from = omega (arith, c.loop-next.invariant.from);
      within = search rules;
      led = c.in_ok-count.ensures.led;
      full = c.in_ok-enter.ensures.full;
      of = λ scopes stands.
          let behind =
          appended_behind lanes.count count lanes.near.items near finds.found low finds.appended in
          enters-more scene c.args.crowd.now scopes c.args.class c.args.bounds.now c.args.from
          c.loop-next.next c.in_ok-lane.lane
          _ _ finds.found _ stands c.loop-next.invariant.from
          c.in_ok-lane.ensures
          (λ s is. finds.near s is
          ∙ ap₂ (λ k l. map (λ b. Some b) (near_by scene.program.now (rows scene) s k l))
          c.sought-sought.ensures.class c.sought-sought.ensures.bounds)
          behind inside (c.loop-next.invariant.of scopes stands);
      stretches =
          let many =
          appended_count lanes.count count lanes.near.items near finds.found low finds.appended in
          stretches-more depth c.in_ok-lane.lane (lanes_inside depth lanes) _
          (between lanes.count count near) _ c.loop-next.stretches.items
          c.stretch.new.stretches.items c.loop-next.invariant.stretches c.in_ok-stretch.ensures
          (reached near lanes.count count (omega (arith, many)) finds.appended.within) inside;
    }

pub enter-requires-clause-full : goal.enter-requires-clause-full
enter-requires-clause-full c =
    let lanes : Entered = c.loop-next.lanes in
    let full = c.loop-next.invariant.full in
    let finds = c.in_ok-count.ensures.finds in
    record {
      near = omega (
        arith,
        finds.appended.within,
        appended_count lanes.count c.in_ok-count.count lanes.near.items c.find.new.near.items
            finds.found full.near finds.appended,
      );
      this = full.this;
      place = full.place;
      outer = full.outer;
    }

pub enter-requires-clause-rises : goal.enter-requires-clause-rises
enter-requires-clause-rises c =
    let lanes : Entered = c.loop-next.lanes in
    let finds = c.in_ok-count.ensures.finds in
    omega (
      arith,
      appended_count lanes.count c.in_ok-count.count lanes.near.items
          c.find.new.near.items finds.found c.loop-next.invariant.full.near finds.appended,
    )

pub returns-clause-inside : goal.returns-clause-inside
returns-clause-inside c = λ scopes stands.
    let scene = c.args.self.now in
    let crowd : Crowd = c.args.crowd.now in
    let lanes : List Lane = c.lanes_inside-lanes.result in
    let kids : List Scope = flat_map (into scene c.args.class c.args.bounds.now)
    (between c.args.from c.loop-next.next scopes) in
    let of : AreOf scene c.deeper.result scopes lanes kids =
    subst (λ (d : Depth). AreOf scene d scopes lanes kids) (sym c.deeper.ensures)
    (subst (λ (l : List Lane). AreOf scene (deeper crowd.depth) scopes l kids)
    (sym c.lanes_inside-lanes.ensures) (c.loop-next.invariant.of scopes stands)) in
    c.in_ok-inside.ensures scene scopes kids stands of
    (ap spread c.from_vec.ensures
    ∙ c.loop-next.invariant.stretches
    ∙ ap (map (λ (l : Lane). l.this)) (sym c.lanes_inside-lanes.ensures))
