use Rattle.std.proofs.Common.{◌≡◌, ◌∙◌, ap, sym}
use Rattle.brace_io.specs.MemShelves.{Shelved, files_of, bytes_in}
use Rattle.brace_io.proofs.MemLemmas.{file_in_place, reading_at, is_at}
use Rattle.brace_io.proofs.mem_shelf.MemShelf.open_bytes.Goals as goal

pub returns-in-Some : goal.returns-in-Some
returns-in-Some c name place w =
    let same : c.args.self.now.entries ≡ c.self.inside.files.items = sym (ap (λ (s : Shelved). s.entries) c.self.view_is) in
    let here = (reading_at c.self.inside.doing c.self.inside.files.items c.self.inside.name.numbers c.self.inside.place c.self.inside.index name place (ap (λ (s : Shelved). s.stage) c.self.view_is ∙ w) c.self.invariant).0 in
    let file : files_of c.args.self.now.entries name ≡ c.index.result.now.file = file_in_place c.args.self.now.entries c.self.inside.files.items name c.self.inside.index c.index.result.now same (is_at c.args.self.now.entries c.self.inside.files.items name c.self.inside.index same here) here.0 c.index.ensures in
    sym (ap bytes_in (file ∙ c.in-Some.ensures))

pub returns-in-None : goal.returns-in-None
returns-in-None c name place w =
    let same : c.args.self.now.entries ≡ c.self.inside.files.items = sym (ap (λ (s : Shelved). s.entries) c.self.view_is) in
    let here = (reading_at c.self.inside.doing c.self.inside.files.items c.self.inside.name.numbers c.self.inside.place c.self.inside.index name place (ap (λ (s : Shelved). s.stage) c.self.view_is ∙ w) c.self.invariant).0 in
    let file : files_of c.args.self.now.entries name ≡ c.index.result.now.file = file_in_place c.args.self.now.entries c.self.inside.files.items name c.self.inside.index c.index.result.now same (is_at c.args.self.now.entries c.self.inside.files.items name c.self.inside.index same here) here.0 c.index.ensures in
    sym (ap bytes_in (file ∙ c.in-None.ensures))
