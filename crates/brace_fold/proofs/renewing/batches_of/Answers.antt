use Rattle.std.proofs.Common.{◌≡◌, ◌≤◌, ◌∙◌, ◌+◌, ◌++◌, sym, ap, subst, arith, ℤ, List, [], ◌∷◌, length, take, drop, map}
use Rattle.std.specs.List.{All}
use Rattle.std.proofs.lemmas.List.Elements.{All-append, All-cons, All-nil}
use Rattle.brace_model.specs.declared.world.Agent.{Agent}
use Rattle.brace_fold.specs.declared.renewing.Batch.{Batch}
use Rattle.brace_fold.specs.inner.Renewals.{HasReach, Renews, left_by}
use Rattle.brace_fold.proofs.RenewLemmas.{Follows, follows-all, follows-one, told-back, told-front}
use Rattle.brace_fold.proofs.renewing.batches_of.Goals as goal
use denote.Ref.{Bor}

pub loop-from-preserved : goal.loop-from-preserved
loop-from-preserved c =
    let ground = c.args.ground.now in
    let program = ground.plans.now in
    let agents = c.args.agents.now in
    let rows = c.args.rows.now in
    let from = c.loop-from.from in
    let n = c.of_class-count.result in
    let left = c.split_at.result.1.now in
    let batches = c.loop-from.batches.items in
    let batch = c.in_ok-batch.batch in
    let born = c.loop-from.born.items in
    let more = c.batch_of.new.born.items in
    let within = c.of_class-count.ensures.within in
    let back : left ≡ drop from agents = c.split_at.ensures.back in
    let these : c.split_at-in-loop-from-2.result.0.now ≡ take n (drop from agents) = c.split_at-in-loop-from-2.ensures.front ∙ ap (take n) back in
    let theirs : c.split_at-in-loop-from-3.result.0.now ≡ take n (drop from rows) =
    c.split_at-in-loop-from-3.ensures.front ∙ ap (take n) c.split_at-in-loop-from.ensures.back in
    let grown : c.push.new.self.items ≡ batches ++ batch ∷ [] = c.in_ok-push.ensures.items in
    record {
      reach = subst (All HasReach) (sym grown) (All-append HasReach batches (batch ∷ []) c.loop-from.invariant.reach
          (All-cons HasReach batch [] c.in_ok-batch.ensures.reach (All-nil HasReach)));
      within = omega (arith, within, c.split_at.ensures.back_len);
      renews = λ totals are.
          let told : map (λ (r : Bor (List ℤ)). r.now) c.split_at-in-loop-from-3.result.0.now ≡ map totals c.split_at-in-loop-from-2.result.0.now =
          ap (map (λ (r : Bor (List ℤ)). r.now)) theirs
          ∙ told-front totals (drop from rows) (drop from agents) (told-back totals rows agents are from) n
          ∙ ap (map totals) (sym these) in
          let here : Renews program ground.seed ground.tick totals (take n (drop from agents)) (left_by batch (take n (drop from agents))) born more =
          subst (λ (l : List Agent). Renews program ground.seed ground.tick totals l (left_by batch l) born more) these (c.in_ok-batch.ensures.renews totals told) in
          subst (λ (l : List Batch). Follows program ground.seed ground.tick totals agents (from + n) l more c.args.born.now.items) (sym grown)
          (follows-one program ground.seed ground.tick totals agents from n batches batch born more c.args.born.now.items
          (c.in_ok-batch.ensures.count ∙ ap (λ (l : List Agent). length l) these) (subst (λ (l : List Agent). n ≤ length l) back within) here
          (c.loop-from.invariant.renews totals are));
    }

pub returns-clause-renews : goal.returns-clause-renews
returns-clause-renews c = λ totals are.
    let ground = c.args.ground.now in
    follows-all ground.plans.now ground.seed ground.tick totals c.args.agents.now c.loop-from.from c.loop-from.batches.items c.loop-from.born.items
    c.args.born.now.items c.loop-from-test.false (c.loop-from.invariant.renews totals are)
