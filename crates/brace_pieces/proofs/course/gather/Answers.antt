use Rattle.std.proofs.Common.{◌≡◌, ◌∙◌, ◌++◌, ◌∷◌, [], cond, length, arith, ap, sym, rules}
use Rattle.std.specs.List.{filter, range_with_len}
use Rattle.std.specs.Vec.{vec_len, vec_capacity}
use Rattle.std.proofs.lemmas.List.{append-nil}
use Rattle.brace_pieces.specs.Steps.{meet}
use Rattle.brace_pieces.proofs.CourseLemmas.{kept_more, kept_few}
use Rattle.brace_pieces.proofs.CutLemmas.{cuts_lawful}
use Rattle.brace_pieces.proofs.course.gather.Goals.{then-meet_within, else-meet_within}
use Rattle.brace_pieces.proofs.course.gather.Goals as goal

pub overflow_add-q-end : goal.overflow_add-q-end
overflow_add-q-end c =
    let s = c.args.setting.now in
    let few = (cuts_lawful s.epoch s.cuts s.job.first c.requires.plan).parts_are_few in
    omega (arith, few, c.parts-q-end.ensures)

pub push_reserved-requires : goal.push_reserved-requires
push_reserved-requires c =
    let few = kept_few (meet c.args.setting.now c.in-Some.at c.args.actor) c.loop-q.q c.loop-q.others.items c.loop-q.invariant.0 in
    let long : vec_len c.loop-q.others ≡ length c.loop-q.others.items = search rules in
    omega (arith, few, long, c.loop-q.invariant.1, c.requires.room, c.parts-q-end.ensures, c.loop-q-test.true)

pub loop-q-preserved : goal.loop-q-preserved
loop-q-preserved c =
    let test = meet c.args.setting.now c.in-Some.at c.args.actor in
    let more = kept_more test c.loop-q.q in
    let kept = filter test (range_with_len 0 c.loop-q.q) in
    elim c.if-meet_within.branch [
      | then-meet_within w ↦
          let passes = sym c.meet_within.ensures ∙ w.if-meet_within.true in (
            ap (λ v. v.items) w.others-is
                ∙ w.push_reserved.ensures.items
                ∙ ap (λ xs. xs ++ c.loop-q.q ∷ []) c.loop-q.invariant.0
                ∙ ap (λ v. kept ++ cond v (c.loop-q.q ∷ []) []) (sym passes)
                ∙ sym more,
            ap vec_capacity w.others-is ∙ w.push_reserved.ensures.capacity ∙ c.loop-q.invariant.1,
          )
      | else-meet_within w ↦
          let fails = sym c.meet_within.ensures ∙ w.if-meet_within.false in (
            ap (λ v. v.items) w.others-is
                ∙ c.loop-q.invariant.0
                ∙ sym (append-nil kept)
                ∙ ap (λ v. kept ++ cond v (c.loop-q.q ∷ []) []) (sym fails)
                ∙ sym more,
            ap vec_capacity w.others-is ∙ c.loop-q.invariant.1,
          )
    ]
