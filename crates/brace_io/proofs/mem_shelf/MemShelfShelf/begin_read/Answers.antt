use Rattle.std.proofs.Common.{◌≡◌, ◌∙◌, ℕ, List, ap, sym, rules}
use Rattle.std.specs.List.{position_or_len}
use Rattle.brace_io.specs.MemShelves.{Entry, Shelved, named}
use Rattle.brace_io.proofs.MemLemmas.{held_below}
use Rattle.brace_io.proofs.mem_shelf.MemShelfShelf.begin_read.Goals as goal

pub invariant_of-self-2 : goal.invariant_of-self-2
invariant_of-self-2 c =
    let same : c.refuses.new.self.entries ≡ c.self.inside.files.items = sym (ap (λ (s : Shelved). s.entries) c.self.view_is) in
    let name : c.spoken-2.result.numbers ≡ c.args.name.now = c.spoken-2.ensures in
    let at : c.find-self-inside.result ≡ position_or_len (named c.args.name.now) c.self.inside.files.items = c.find-self-inside.ensures ∙ ap (λ (x : List Entry). position_or_len (named c.args.name.now) x) same in
    (held_below c.refuses.new.self.entries c.self.inside.files.items c.args.name.now c.find-self-inside.result same c.find-self-inside.ensures (search rules), at ∙ ap (λ (n : List ℕ). position_or_len (named n) c.self.inside.files.items) (sym name))
