use Rattle.std.proofs.lemmas.List.Sorted.{IsPermutation-trans}
use Rattle.brace_num.proofs.Orders.{one_sorted}
use Rattle.brace_model.specs.declared.world.Agent.{Agent}
use Rattle.brace_pieces.specs.Continued.{on}
use Rattle.brace_herd.proofs.CellLemmas.{stored_so}
use Rattle.brace_herd.proofs.HoldWork.{kids_rise, left_rises, mine_lawful}
use Rattle.brace_herd.proofs.LawfulOn.{left_lawful}
use Rattle.brace_herd.specs.Ready.{children_in, left_in}
use Rattle.brace_herd.proofs.work.Worker.leaves.Goals as goal

pub returns-in-Ok-clause-ready : goal.returns-in-Ok-clause-ready
returns-in-Ok-clause-ready c =
    let w = c.args.self.now in
    let s = w.setting.now in
    let t = c.args.tick in
    let leaves = c.requires.leaves in
    let born = c.in_ok-born.born.items in
    let sorted = c.in_ok-born.ensures in
    record {
      lives = stored_so s.job.program (left_in s w.part t) leaves.those c.args.renewed.left
          (left_rises w c.requires.worker t) leaves.same leaves.lives c.in-Ok.ensures
          (left_lawful s c.requires.worker.lawful t (on s t).agents _
          (mine_lawful w c.requires.worker t));
      bears = one_sorted (λ (a : Agent). a.id) born (children_in s w.part t)
          (IsPermutation-trans _ _ born leaves.bears sorted.same) sorted.in_order
          (kids_rise w c.requires.worker t);
      same_next = c.requires.next;
    }
