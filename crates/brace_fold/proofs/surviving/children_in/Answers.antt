use Rattle.std.proofs.Common.{◌≡◌, ◌∙◌, sym, ap, arith, length, rules}
use Rattle.std.proofs.lemmas.Option.{get_or_from_slice_get}
use Rattle.brace_fold.specs.Rows.{rows_in}
use Rattle.brace_fold.specs.inner.Rulings.{agent_at, child_of}
use Rattle.brace_fold.proofs.Survivings.{born-more, row-at}
use Rattle.brace_fold.proofs.surviving.children_in.Goals as goal

pub loop-k-preserved : goal.loop-k-preserved
loop-k-preserved c =
    let k = c.loop-k.k in
    let lanes = c.args.lanes.now in
    let columns = c.args.columns.now in
    let class = c.args.class.now in
    let gifts = c.args.gifts.now in
    let lane = c.in_ok-lane.lane in
    record {
      long = search rules;
      each = λ program has.
          let rows = rows_in program columns in
          let parent = c.in_ok-parent.ensures.agent program has in
          rw c.in_ok-push.ensures.items (born-more class gifts rows lanes c.loop-k.born.items k
          c.in_ok-child.child c.loop-k.invariant.long
          (c.loop-k.invariant.each program has) (λ d l.
          c.in_ok-child.ensures ∙ ap (child_of class gifts k)
          (parent ∙ sym (row-at program columns lane.place d c.in_ok-parent.ensures.within)
          ∙ ap (agent_at rows d)
          (sym (get_or_from_slice_get lanes k lane l c.in_ok-lane.ensures)))));
    }

pub returns : goal.returns
returns c = λ program has.
    let end : c.loop-k.k ≡ length c.args.lanes.now = omega (
      arith,
      c.loop-k-test.false,
      c.loop-k.auto.k-end,
    ) in
    record {
      long = c.loop-k.invariant.long ∙ end;
      each = λ k a d l low. c.loop-k.invariant.each program has k a d l (omega (arith, low, end));
    }
