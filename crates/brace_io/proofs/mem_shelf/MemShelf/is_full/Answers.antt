use Rattle.std.proofs.Common.{◌≡◌, ◌∙◌, Some, ap, sym}
use Rattle.brace_io.specs.inner.MemStages.{IsAt}
use Rattle.brace_io.specs.MemShelves.{Shelved, entry_of, entry_written, spent_at}
use Rattle.brace_io.proofs.MemLemmas.{entry_in_place, writing_at, is_at}
use Rattle.brace_io.proofs.mem_shelf.MemShelf.is_full.Goals as goal

pub returns : goal.returns
returns c =
    let (name, w) = c.requires in
    let es = c.self.inside.files.items in
    let before = c.args.self.now.entries in
    let same : before ≡ es = sym (ap (λ (s : Shelved). s.entries) c.self.view_is) in
    let here : IsAt es name c.self.inside.index = writing_at c.self.inside.doing es c.self.inside.name.numbers c.self.inside.place c.self.inside.index name (ap (λ (s : Shelved). s.stage) c.self.view_is ∙ w) c.self.invariant in
    let e : entry_of before name ≡ Some c.index.result.now = entry_in_place before es name c.self.inside.index c.index.result.now same (is_at before es name c.self.inside.index same here) here.0 c.index.ensures in
    c.is_spent.ensures ∙ sym (ap spent_at (ap (entry_written before) w ∙ e))
