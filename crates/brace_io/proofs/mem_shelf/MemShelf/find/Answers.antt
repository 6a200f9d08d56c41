use Rattle.std.proofs.Common.{◌≡◌, ◌∙◌, length, ap, arith, sym}
use Rattle.brace_io.specs.MemShelves.{Shelved}
use Rattle.brace_io.proofs.MemLemmas.{some_index, none_index}
use Rattle.brace_io.proofs.mem_shelf.MemShelf.find.Goals as goal

pub returns-in-Some : goal.returns-in-Some
returns-in-Some c = some_index c.args.name.now c.args.self.now.entries c.in-Some.index (sym c.position.ensures ∙ c.in-Some.is)

pub returns-in-None : goal.returns-in-None
returns-in-None c =
    let e = none_index c.args.name.now c.args.self.now.entries (sym c.position.ensures ∙ c.in-None.is) in
    let same : c.args.self.now.entries ≡ c.self.inside.files.items = sym (ap (λ (s : Shelved). s.entries) c.self.view_is) in
    let long : length c.args.self.now.entries ≡ length c.self.inside.files.items = ap length same in
    omega (arith, e, long, c.len.ensures)
