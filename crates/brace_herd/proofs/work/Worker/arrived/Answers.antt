use Rattle.std.proofs.Common.{◌∙◌, ◌+◌, ◌++◌, List, flat_map, refl, subst}
use Rattle.std.specs.List.Sorted.{IsPermutation}
use Rattle.std.proofs.lemmas.List.Sorted.{IsPermutation-sym, IsPermutation-trans}
use Rattle.brace_model.specs.declared.world.Agent.{Agent}
use Rattle.brace_model.specs.Lawful.{is_lawful_agent}
use Rattle.brace_pieces.specs.Settings.{cuts_of}
use Rattle.brace_pieces.specs.Owned.{owned, owns}
use Rattle.brace_pieces.specs.Continued.{on}
use Rattle.brace_pieces.specs.Exchanged.{brought}
use Rattle.brace_herd.specs.Ready.{left_in}
use Rattle.brace_herd.proofs.CellLemmas.{own_rises}
use Rattle.brace_herd.proofs.LawfulOn.{on_lawful, some_pass}
use Rattle.brace_herd.proofs.WorkOwned.{gathered_behind, kept_both, next_moved}
use Rattle.brace_herd.proofs.work.Worker.arrived.Goals as goal

pub returns-clause-owns : goal.returns-clause-owns
returns-clause-owns c =
    let w = c.args.self.now in
    let s = w.setting.now in
    let m = s.job.program in
    let t = c.args.tick in
    let mine = owned m (cuts_of s t) w.part in
    let left = left_in s w.part t in
    let born = c.args.born.items in
    let taken = flat_map brought c.args.taken.now.items in
    let next = mine (on s (t + 1)).agents in
    let kept = c.in_ok-born.ensures ∙ c.deref.ensures.value ∙ c.kept.ensures in
    let more = subst (λ (l : List Agent). IsPermutation (l ++ taken) c.in_ok-more.more) kept
    c.in_ok-more.ensures.same in
    let together : IsPermutation next (mine left ++ (mine born ++ taken)) =
    subst (IsPermutation next) (kept_both m (cuts_of s t) w.part left born taken)
    (IsPermutation-sym _ _ (next_moved w c.requires.worker t c.args.taken.now.items
    c.requires.work left born refl c.requires.born)) in
    let moved : IsPermutation next (mine left ++ c.in_ok-more.more) =
    IsPermutation-trans next _ _ together
    (gathered_behind (mine left) (mine born ++ taken) c.in_ok-more.more more) in
    c.in_ok-all.ensures left next c.requires.left
    (own_rises s c.requires.worker.lawful w.part (cuts_of s t) (t + 1)) moved
    (some_pass (is_lawful_agent m) (owns m (cuts_of s t) w.part) (on s (t + 1)).agents
    (on_lawful s c.requires.worker.lawful (t + 1)).each_is_lawful)
