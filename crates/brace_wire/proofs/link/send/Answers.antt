use Rattle.std.proofs.Common.{◌∙◌, [], ◌∷◌, refl, sym, arith}
use Rattle.brace_wire.specs.Links.{sent_at_once, sent_late}
use Rattle.brace_wire.specs.inner.Standing.{CanCount}
use Rattle.brace_wire.specs.declared.fate.Fate.TheVariants.{Lose, Deliver, Twice, After}
use Rattle.brace_wire.proofs.SendLemmas.{once_by, late_by, can_count, none_more, ok_known, ok_more}
use Rattle.brace_wire.proofs.link.send.Goals as goal

pub returns-in-Lose : goal.returns-in-Lose
returns-in-Lose c =
    let by = sym c.fate_of.ensures ∙ c.in-Lose.is in
    record {
      at_once = none_more _ _ (once_by c.args.fates.now c.args.kept.now c.in-Some.kept c.in-Some.is Lose by);
      late = none_more _ _ (late_by c.args.fates.now c.args.kept.now c.in-Some.kept c.in-Some.is Lose by);
      counts = can_count c.args.kept.now c.in-Some.kept c.in-Some.is (omega arith);
      types = refl;
    }

pub returns-in-Deliver : goal.returns-in-Deliver
returns-in-Deliver c =
    let by = sym c.fate_of.ensures ∙ c.in-Deliver.is in
    let late = late_by c.args.fates.now c.args.kept.now c.in-Some.kept c.in-Some.is Deliver by in
    record {
      at_once = ok_more c.carry.result c.args.at_once.now.items c.carry.new.out.items (sent_at_once c.args.fates.now c.args.kept.now) (c.in-Some.kept.frame ∷ [])
          (once_by c.args.fates.now c.args.kept.now c.in-Some.kept c.in-Some.is Deliver by) c.carry.ensures.same;
      late = ok_known c.carry.result _ (none_more c.args.late.now.items (sent_late c.args.fates.now c.args.kept.now) late);
      counts = ok_known c.carry.result (CanCount c.args.kept.now) (can_count c.args.kept.now c.in-Some.kept c.in-Some.is (omega arith));
      types = c.carry.ensures.types;
    }

pub returns-in-Twice : goal.returns-in-Twice
returns-in-Twice c =
    let by = sym c.fate_of.ensures ∙ c.in-Twice.is in
    let late = late_by c.args.fates.now c.args.kept.now c.in-Some.kept c.in-Some.is Twice by in
    record {
      at_once = ok_more c.carry_twice.result c.args.at_once.now.items c.carry_twice.new.out.items (sent_at_once c.args.fates.now c.args.kept.now)
          (c.in-Some.kept.frame ∷ c.in-Some.kept.frame ∷ [])
          (once_by c.args.fates.now c.args.kept.now c.in-Some.kept c.in-Some.is Twice by) c.carry_twice.ensures.same;
      late = ok_known c.carry_twice.result _ (none_more c.args.late.now.items (sent_late c.args.fates.now c.args.kept.now) late);
      counts = ok_known c.carry_twice.result (CanCount c.args.kept.now) (can_count c.args.kept.now c.in-Some.kept c.in-Some.is (omega arith));
      types = c.carry_twice.ensures.types;
    }

pub returns-in-After : goal.returns-in-After
returns-in-After c =
    let by = sym c.fate_of.ensures ∙ c.in-After.is in
    let once = once_by c.args.fates.now c.args.kept.now c.in-Some.kept c.in-Some.is After by in
    record {
      at_once = ok_known c.carry-in-After.result _ (none_more c.args.at_once.now.items (sent_at_once c.args.fates.now c.args.kept.now) once);
      late = ok_more c.carry-in-After.result c.args.late.now.items c.carry-in-After.new.out.items (sent_late c.args.fates.now c.args.kept.now) (c.in-Some.kept.frame ∷ [])
          (late_by c.args.fates.now c.args.kept.now c.in-Some.kept c.in-Some.is After by) c.carry-in-After.ensures.same;
      counts = ok_known c.carry-in-After.result (CanCount c.args.kept.now) (can_count c.args.kept.now c.in-Some.kept c.in-Some.is (omega arith));
      types = c.carry-in-After.ensures.types;
    }
