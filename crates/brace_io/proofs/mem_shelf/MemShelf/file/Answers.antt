use Rattle.std.proofs.Common.{◌≡◌, ◌<◌, ◌≤◌, length, ap, sym, arith}
use Rattle.brace_io.specs.MemShelves.{Shelved, files_of}
use Rattle.brace_io.proofs.MemLemmas.{file_in_place, file_missing}
use Rattle.brace_io.proofs.mem_shelf.MemShelf.file.Goals as goal

pub returns-then-index-len : goal.returns-then-index-len
returns-then-index-len c =
    let same : c.args.self.now.entries ≡ c.self.inside.files.items = sym (ap (λ (s : Shelved). s.entries) c.self.view_is) in
    let lt : c.find-index.result < length c.self.inside.files.items = omega (arith, c.if-index-len.true, c.len.ensures) in
    let e : files_of c.args.self.now.entries c.args.name.now ≡ c.index.result.now.file = file_in_place c.args.self.now.entries c.self.inside.files.items c.args.name.now c.find-index.result c.index.result.now same c.find-index.ensures lt c.index.ensures in
    rw e c.content.ensures

pub returns-else-index-len : goal.returns-else-index-len
returns-else-index-len c =
    let same : c.args.self.now.entries ≡ c.self.inside.files.items = sym (ap (λ (s : Shelved). s.entries) c.self.view_is) in
    let le : length c.self.inside.files.items ≤ c.find-index.result = omega (arith, c.if-index-len.false, c.len.ensures) in
    file_missing c.args.self.now.entries c.self.inside.files.items c.args.name.now c.find-index.result same c.find-index.ensures le
