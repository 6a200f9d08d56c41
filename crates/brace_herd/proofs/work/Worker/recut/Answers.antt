use Rattle.std.proofs.Common.{◌++◌, List, flat_map, refl, subst}
use Rattle.std.specs.List.Sorted.{IsPermutation}
use Rattle.std.proofs.lemmas.List.Sorted.{IsPermutation-sym, IsPermutation-trans}
use Rattle.brace_model.specs.declared.world.Agent.{Agent}
use Rattle.brace_pieces.specs.Continued.{on}
use Rattle.brace_pieces.specs.Settings.{cuts_of}
use Rattle.brace_pieces.specs.Owned.{owned}
use Rattle.brace_herd.specs.Works.{own_before}
use Rattle.brace_pieces.specs.Exchanged.{brought}
use Rattle.brace_pieces.specs.declared.setting.Stage.TheVariants as stage
use Rattle.brace_herd.proofs.CellLemmas.{own_rises}
use Rattle.brace_herd.proofs.WorkOwned.{gathered_behind, recut_moved}
use Rattle.brace_herd.proofs.HoldWork.{mine_lawful}
use Rattle.brace_herd.proofs.work.Worker.recut.Goals as goal

pub returns-clause-owns : goal.returns-clause-owns
returns-clause-owns c =
    let w = c.args.self.now in
    let s = w.setting.now in
    let t = c.args.tick in
    let now = owned s.job.program (cuts_of s t) w.part in
    let own = own_before s w.part stage.Hand t in
    let taken = flat_map brought c.args.taken.now.items in
    let more = subst (λ (l : List Agent). IsPermutation (l ++ taken) c.in_ok-more.more)
    c.new.ensures c.in_ok-more.ensures.same in
    let moved : IsPermutation (now (on s t).agents) (now own ++ c.in_ok-more.more) =
    IsPermutation-trans _ (now own ++ taken) _
    (IsPermutation-sym _ _ (recut_moved w c.requires.worker t c.args.taken.now.items
    c.requires.work own refl)) (gathered_behind (now own) taken c.in_ok-more.more more) in
    c.in_ok-all.ensures own (now (on s t).agents) c.requires.own
    (own_rises s c.requires.worker.lawful w.part (cuts_of s t) t) moved
    (mine_lawful w c.requires.worker t)
