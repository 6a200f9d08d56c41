use Rattle.std.proofs.Common.{◌≡◌, ◌∙◌, ◌+◌, ◌<◌, ◌≤◌, [], sym, ap, subst, ℕ, List, Some, get_or, length, slice_get, take, arith, rules}
use Rattle.std.specs.Prelude.{option_map}
use Rattle.std.proofs.lemmas.List.{length-map, take_all}
use Rattle.std.proofs.lemmas.Option.{get_or_from_slice_get, same_Some, slice_get-get_or, slice_get-map}
use Rattle.brace_model.specs.declared.world.Agent.{Agent}
use Rattle.brace_herd.specs.inner.Near.{AreNear}
use Rattle.brace_herd.proofs.NearLemmas.{near_first, near_more, none_near}
use Rattle.brace_herd.proofs.near.rows_near.Goals as goal

pub returns-in_default : goal.returns-in_default
returns-in_default c area range agents wide moved =
    let rows = c.args.rows.now in
    let none : length rows.classes.items ≤ 0 =
    subst (λ (l : List ℕ). length l ≤ 0) c.as_slice-classes.ensures.value
    c.in_default.ensures.none in
    let long : length agents ≡ 0 = omega (
      arith,
      none,
      ap length moved.classes,
      length-map agents (λ (a : Agent). a.class),
    ) in
    subst (AreNear c.args.program.now area range agents agents)
    (sym c.in_ok-near.ensures.items)
    (none_near c.args.program.now area range agents long)

pub loop-row-init : goal.loop-row-init
loop-row-init c =
    let program = c.args.program.now in
    record {
      axes = c.in_ok-axes.ensures.axes;
      few = search rules;
      room = search rules;
      near = λ area range agents wide moved.
          subst (AreNear program area range agents []) (sym c.in_ok-near.ensures.items)
          (near_first program area range agents);
    }

pub loop-row-preserved : goal.loop-row-preserved
loop-row-preserved c =
    let k = c.loop-row.row in
    let rows = c.args.rows.now in
    let program = c.args.program.now in
    let so = c.loop-row.invariant in
    record {
      axes = c.in_ok-known.ensures.axes;
      few = omega (arith, so.few, c.add_near.ensures.len);
      room = omega (arith, so.room, c.add_near.ensures.room);
      near = λ area range agents wide moved.
          let many : length rows.classes.items ≡ length agents =
          ap length moved.classes ∙ length-map agents (λ (a : Agent). a.class) in
          let under : k < length rows.classes.items = search rules in
          let low : k < length agents = omega (arith, under, many) in
          let d : Agent = record { class = 0; id = 0; states = [] } in
          let a = get_or agents k d in
          let there : slice_get agents k ≡ Some a = slice_get-get_or agents k d low in
          let its : get_or agents k a ≡ a = get_or_from_slice_get agents k a a there in
          let number = get_or rows.classes.items k 0 in
          let read = slice_get-get_or rows.classes.items k 0 under in
          let class : number ≡ a.class =
          same_Some _ _ (sym read ∙ ap (λ l. slice_get l k) moved.classes
          ∙ slice_get-map (λ (b : Agent). b.class) agents k
          ∙ ap (option_map (λ (b : Agent). b.class)) there) in
          let led : c.in_ok-known.known.class ≡ number = search rules in
          let same = sym class ∙ sym led in
          let near = c.is_near_at-wanted.ensures.near program rows agents a area range
          c.in_ok-known.ensures.axes moved there same wide in
          let fit = c.is_near_at-wanted.ensures.fit program rows agents a
          c.in_ok-known.ensures.axes moved there same in
          let wanted = c.is_near_at-wanted.result in
          subst (AreNear program area range agents (take (k + 1) agents))
          (sym {A = List ℕ} c.add_near.ensures.items)
          (near_more program area range agents k a wanted c.loop-row.near.items low there its near
          fit (so.near area range agents wide moved));
    }

pub returns : goal.returns
returns c area range agents wide moved =
    let many : length c.args.rows.now.classes.items ≡ length agents =
    ap length moved.classes ∙ length-map agents (λ (a : Agent). a.class) in
    let long : length c.args.rows.now.classes.items ≤ c.loop-row.row = search rules in
    let all = take_all c.loop-row.row agents (omega (arith, long, many)) in
    subst (λ l. AreNear c.args.program.now area range agents l c.loop-row.near.items) all
    (c.loop-row.invariant.near area range agents wide moved)
