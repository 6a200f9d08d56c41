use Rattle.std.proofs.Common.{◌≡◌, ◌∙◌, ◌++◌, ℕ, List, Option, Some, min, take, length, ap, sym}
use Rattle.std.proofs.Math.ListN.{set}
use Rattle.brace_io.specs.Shelves.{Writing}
use Rattle.brace_io.specs.inner.MemStages.{IsAt}
use Rattle.brace_io.specs.MemShelves.{Entry, Shelved, entry_of, entry_written, bytes_in, room_left, with_more, OthersAlone}
use Rattle.brace_io.proofs.MemLemmas.{entry, file_changed, writing_at, is_at}
use Rattle.brace_io.proofs.mem_shelf.MemShelf.add.Goals as goal

added : (c : goal.After-self-1) (name : List ℕ) → c.args.self.now.stage ≡ Writing (Some name) → (entry_of c.args.self.now.entries name ≡ Some c.index_mut.result.now) × ((entry_of (set c.self.inside.files.items c.self.inside.index c.add.new.self) name ≡ Some (entry c.index_mut.result.now.name (Some (bytes_in c.index_mut.result.now.file ++ take c.add.result c.args.piece.now)) c.index_mut.result.now.room)) × OthersAlone c.args.self.now.entries (set c.self.inside.files.items c.self.inside.index c.add.new.self) name)
added c name w =
    let es = c.self.inside.files.items in
    let before = c.args.self.now.entries in
    let same : before ≡ es = sym (ap (λ (s : Shelved). s.entries) c.self.view_is) in
    let here : IsAt es name c.self.inside.index = writing_at c.self.inside.doing es c.self.inside.name.numbers c.self.inside.place c.self.inside.index name (ap (λ (s : Shelved). s.stage) c.self.view_is ∙ w) c.self.invariant in
    file_changed before es name c.self.inside.index c.index_mut.result.now c.add.new.self _ same (is_at before es name c.self.inside.index same here) here.0 c.index_mut.ensures.value c.add.ensures.all

pub returns-clause-count : goal.returns-clause-count
returns-clause-count c =
    let (name, w) = c.requires in
    c.add.ensures.count ∙ sym (ap (λ (o : Option Entry). min (length c.args.piece.now) (room_left o)) (ap (entry_written c.args.self.now.entries) w ∙ (added c name w).0))

pub returns-clause-adds : goal.returns-clause-adds
returns-clause-adds c name w =
    let a = added c name w in
    a.1.0 ∙ sym (ap (with_more (take c.add.result c.args.piece.now)) a.0)

pub returns-clause-others : goal.returns-clause-others
returns-clause-others c name w = (added c name w).1.1
