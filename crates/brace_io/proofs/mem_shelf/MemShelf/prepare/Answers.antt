use Rattle.std.proofs.Common.{◌≡◌, ◌<◌, ◌≤◌, ◌∙◌, Some, None, length, ap, sym, refl, arith}
use Rattle.std.proofs.Math.ListN.{set}
use Rattle.brace_io.specs.MemShelves.{Shelved, entry_of, files_of, OthersAlone}
use Rattle.brace_io.proofs.MemLemmas.{entry, entry_eq, in_place, at_end, old_name_in, file_in_place, file_missing}
use Rattle.brace_io.proofs.mem_shelf.MemShelf.prepare.Goals as goal

set_in : (c : goal.In_ok-set_room) → (entry_of (set c.self.inside.files.items c.find-index.result c.set_room.new.self) c.args.name.now ≡ Some (entry c.args.name.now (files_of c.args.self.now.entries c.args.name.now) c.args.room)) × OthersAlone c.args.self.now.entries (set c.self.inside.files.items c.find-index.result c.set_room.new.self) c.args.name.now
set_in c =
    let same : c.args.self.now.entries ≡ c.self.inside.files.items = sym (ap (λ (s : Shelved). s.entries) c.self.view_is) in
    let lt : c.find-index.result < length c.self.inside.files.items = omega (arith, c.if-index-len.true, c.len.ensures) in
    let old = c.index_mut.result.now in
    let name : old.name ≡ c.args.name.now = old_name_in c.args.self.now.entries c.self.inside.files.items c.args.name.now c.find-index.result old same c.find-index.ensures lt c.index_mut.ensures.value in
    let file : files_of c.args.self.now.entries c.args.name.now ≡ old.file = file_in_place c.args.self.now.entries c.self.inside.files.items c.args.name.now c.find-index.result old same c.find-index.ensures lt c.index_mut.ensures.value in
    in_place c.args.self.now.entries c.self.inside.files.items c.args.name.now c.find-index.result c.set_room.new.self _ _ same c.find-index.ensures lt
    (c.in_ok-set_room.ensures.ok ∙ entry_eq old.name c.args.name.now old.file (files_of c.args.self.now.entries c.args.name.now) c.args.room c.args.room name (sym file) refl)

push : (c : goal.In_ok-push) → (entry_of c.push.new.self.items c.args.name.now ≡ Some (entry c.args.name.now (files_of c.args.self.now.entries c.args.name.now) c.args.room)) × OthersAlone c.args.self.now.entries c.push.new.self.items c.args.name.now
push c =
    let same : c.args.self.now.entries ≡ c.self.inside.files.items = sym (ap (λ (s : Shelved). s.entries) c.self.view_is) in
    let le : length c.self.inside.files.items ≤ c.find-index.result = omega (arith, c.if-index-len.false, c.len.ensures) in
    let none : files_of c.args.self.now.entries c.args.name.now ≡ None = file_missing c.args.self.now.entries c.self.inside.files.items c.args.name.now c.find-index.result same c.find-index.ensures le in
    at_end c.args.self.now.entries c.self.inside.files.items c.push.new.self.items c.args.name.now c.find-index.result c.in_ok-file.file _ _ same c.find-index.ensures le
    (c.in_ok-file.ensures ∙ entry_eq c.args.name.now c.args.name.now None (files_of c.args.self.now.entries c.args.name.now) c.args.room c.args.room refl (sym none) refl) c.in_ok-push.ensures.items

pub returns-in_ok-set_room-clause-prepared : goal.returns-in_ok-set_room-clause-prepared
returns-in_ok-set_room-clause-prepared c = (set_in c).0

pub returns-in_ok-set_room-clause-others : goal.returns-in_ok-set_room-clause-others
returns-in_ok-set_room-clause-others c = (set_in c).1

pub returns-in_ok-push-clause-prepared : goal.returns-in_ok-push-clause-prepared
returns-in_ok-push-clause-prepared c = (push c).0

pub returns-in_ok-push-clause-others : goal.returns-in_ok-push-clause-others
returns-in_ok-push-clause-others c = (push c).1
