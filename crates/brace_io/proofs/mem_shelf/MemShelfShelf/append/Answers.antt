use Rattle.std.proofs.Common.{◌≡◌, ◌∙◌, List, ap}
use Rattle.brace_io.specs.MemShelves.{Entry, Shelved, entry_of}
use Rattle.brace_io.proofs.mem_shelf.MemShelfShelf.append.Goals as goal

pub returns-clause-others : goal.returns-clause-others
returns-clause-others c name w other ne =
    let entries : c.refuses.new.self.entries ≡ c.args.self.now.entries = ap (λ (s : Shelved). s.entries) c.refuses.ensures.counted in
    c.add.ensures.others name (ap (λ (s : Shelved). s.stage) c.refuses.ensures.counted ∙ w) other ne ∙ ap (λ (x : List Entry). entry_of x other) entries
