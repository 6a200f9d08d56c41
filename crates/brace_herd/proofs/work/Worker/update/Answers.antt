use Rattle.std.proofs.Common.{◌≡◌, ◌∙◌, filter_map, subst, sym, inr, append-nil, rules}
use Rattle.std.specs.List.Sorted.{IsPermutation}
use Rattle.std.specs.Result.{result_err}
use Rattle.std.proofs.lemmas.List.Sorted.{IsPermutation-refl}
use Rattle.brace_model.proofs.FaultLemmas.{least_none}
use Rattle.brace_fold.specs.Rows.{AreMoved}
use Rattle.brace_pieces.specs.declared.piece.Cause.TheVariants as cause
use Rattle.brace_herd.specs.Works.{IsCauseOf}
use Rattle.brace_herd.specs.Ready.{children_in, left_in, updates_in}
use Rattle.brace_herd.proofs.HoldWork.{ok_always}
use Rattle.brace_herd.proofs.WorkHeard.{OfResults, err_weaker, left_is, born_is, none_found, cause_found, near_lawful}
use Rattle.brace_herd.proofs.work.Worker.update.Goals as goal

pub leaves-requires-clause-leaves : goal.leaves-requires-clause-leaves
leaves-requires-clause-leaves c =
    let w = c.args.self.now in
    let left = c.in_ok-left in
    let is = left_is w c.requires.worker c.args.tick c.args.held.items c.args.heard.now
    c.requires.heard left.left.items left.ensures.left left.ensures.passes in
    record {
      quiet = (least_none (updates_in w.setting.now w.part c.args.tick)).0
          (none_found w c.requires.worker c.args.tick c.args.held.items c.args.heard.now
          c.requires.heard left.ensures.passes);
      those = left_in w.setting.now w.part c.args.tick;
      same = IsPermutation-refl (left_in w.setting.now w.part c.args.tick);
      lives = subst (λ l. AreMoved l c.in-Ok.left) (append-nil c.deref.result.now
          ∙ c.deref.ensures.value ∙ is) c.in-Ok.ensures.rows;
      bears = subst (IsPermutation (children_in w.setting.now w.part c.args.tick))
          (sym (born_is w c.requires.worker c.args.tick c.args.held.items c.args.heard.now
          c.requires.heard left.born.items left.ensures.born left.ensures.passes))
          (IsPermutation-refl (children_in w.setting.now w.part c.args.tick));
    }

pub returns-in-Ok-clause-passes : goal.returns-in-Ok-clause-passes
returns-in-Ok-clause-passes c =
    ok_always c.leaves.result _ (none_found c.args.self.now c.requires.worker c.args.tick
    c.args.held.items c.args.heard.now c.requires.heard c.in_ok-left.ensures.passes)

pub returns-in-Ok-clause-faulted : goal.returns-in-Ok-clause-faulted
returns-in-Ok-clause-faulted c =
    let w = c.args.self.now in
    err_weaker c.leaves.result (λ e. e ≡ cause.NoMemory)
    (IsCauseOf (updates_in w.setting.now w.part c.args.tick))
    (λ e is. inr is) c.leaves.ensures.faulted

pub returns-in_err-left-clause-faulted : goal.returns-in_err-left-clause-faulted
returns-in_err-left-clause-faulted c =
    err_weaker c.from_residual.result
    (λ e. OfResults c.args.self.now c.requires.worker c.args.tick c.args.held.items c.args.heard.now
    (λ rs. IsCauseOf (filter_map result_err rs) e))
    (IsCauseOf (updates_in c.args.self.now.setting.now c.args.self.now.part c.args.tick))
    (λ e each. cause_found c.args.self.now c.requires.worker c.args.tick c.args.held.items
    c.args.heard.now c.requires.heard e each)
    (search (c.in_err-left.ensures, c.from_residual.ensures, rules))

pub updated-requires-clause-rules : goal.updated-requires-clause-rules
updated-requires-clause-rules c =
    c.rules-plans.ensures c.args.self.now.setting.now c.requires.worker.queries_are

pub updated-requires-clause-agents : goal.updated-requires-clause-agents
updated-requires-clause-agents c =
    near_lawful c.args.self.now c.requires.worker c.args.tick c.args.held.items
    c.requires.heard.holds
