use Rattle.std.proofs.Common.{◌≡◌, ◌-◌, ◌∙◌, ◌++◌, ℕ, List, Some, min, take, drop, length, ap, sym}
use Rattle.brace_io.specs.Shelves.{Reading}
use Rattle.brace_io.specs.MemShelves.{Entry, Shelved, files_of, bytes_in, unread}
use Rattle.brace_io.proofs.MemLemmas.{reading_at, rest_from}
use Rattle.brace_io.proofs.mem_shelf.MemShelfShelf.read.Goals as goal

rest : (c : goal.After-self-1) → take (length c.open_bytes-bytes.result.now - c.min-from.result) (drop c.min-from.result c.open_bytes-bytes.result.now) ≡ unread c.args.self.now.entries c.args.self.now.stage
rest c =
    let (name, (place, w)) = c.requires in
    let entries : c.refuses.new.self.entries ≡ c.args.self.now.entries = ap (λ (s : Shelved). s.entries) c.refuses.ensures.counted in
    let stage : c.refuses.new.self.stage ≡ Reading (Some (name, place)) = ap (λ (s : Shelved). s.stage) c.refuses.ensures.counted ∙ w in
    let bytes : c.open_bytes-bytes.result.now ≡ bytes_in (files_of c.args.self.now.entries name) = c.open_bytes-bytes.ensures name place stage ∙ ap (λ (x : List Entry). bytes_in (files_of x name)) entries in
    let spot = (reading_at c.self.inside.doing c.self.inside.files.items c.self.inside.name.numbers c.self.inside.place c.self.inside.index name place (ap (λ (s : Shelved). s.stage) c.self.view_is ∙ stage) c.self.invariant).1 in
    rest_from _ c.open_bytes-bytes.result.now place c.self.inside.place c.min-from.result bytes spot c.min-from.ensures ∙ sym (ap (unread c.args.self.now.entries) w)

pub returns-clause-count : goal.returns-clause-count
returns-clause-count c = c.copy_front-n.ensures.count ∙ ap (λ (l : List ℕ). min (length c.args.buffer.now) (length l)) (rest c)

pub returns-clause-bytes : goal.returns-clause-bytes
returns-clause-bytes c = c.copy_front-n.ensures.same ∙ ap (λ (l : List ℕ). take c.copy_front-n.result l ++ drop c.copy_front-n.result c.args.buffer.now) (rest c)
