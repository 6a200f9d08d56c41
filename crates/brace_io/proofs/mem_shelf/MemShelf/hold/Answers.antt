use Rattle.std.proofs.Common.{◌≡◌, ◌<◌, ◌≤◌, ◌∙◌, ◌++◌, ℕ, List, Some, length, ap, sym, arith}
use Rattle.std.proofs.Math.ListN.{set}
use Rattle.brace_io.specs.MemShelves.{Entry, Shelved, entry_of, OthersAlone}
use Rattle.brace_io.proofs.MemLemmas.{entry, entry_eq, in_place, at_end, old_name_in}
use Rattle.brace_io.proofs.mem_shelf.MemShelf.hold.Goals as goal

put : (c : goal.After-self-1) → (entry_of (set c.self.inside.files.items c.find-index.result c.put.new.self) c.args.name.now ≡ Some (entry c.args.name.now (Some c.args.bytes.now) (length c.args.bytes.now))) × OthersAlone c.args.self.now.entries (set c.self.inside.files.items c.find-index.result c.put.new.self) c.args.name.now
put c =
    let same : c.args.self.now.entries ≡ c.self.inside.files.items = sym (ap (λ (s : Shelved). s.entries) c.self.view_is) in
    let lt : c.find-index.result < length c.self.inside.files.items = omega (arith, c.if-index-len.true, c.len.ensures) in
    let old = c.index_mut.result.now in
    let content : c.extend_from_slice.new.self.items ≡ c.args.bytes.now = c.in_ok-extend_from_slice.ensures.items ∙ ap (λ (l : List ℕ). l ++ c.args.bytes.now) c.in_ok-copy.ensures.items in
    let name : old.name ≡ c.args.name.now = old_name_in c.args.self.now.entries c.self.inside.files.items c.args.name.now c.find-index.result old same c.find-index.ensures lt c.index_mut.ensures.value in
    in_place c.args.self.now.entries c.self.inside.files.items c.args.name.now c.find-index.result c.put.new.self _ _ same c.find-index.ensures lt
    (c.put.ensures ∙ entry_eq old.name c.args.name.now (Some c.extend_from_slice.new.self.items) (Some c.args.bytes.now) _ (length c.args.bytes.now) name (ap Some content) (ap length content))

push : (c : goal.In_ok-push) → (entry_of c.push.new.self.items c.args.name.now ≡ Some (entry c.args.name.now (Some c.args.bytes.now) (length c.args.bytes.now))) × OthersAlone c.args.self.now.entries c.push.new.self.items c.args.name.now
push c =
    let same : c.args.self.now.entries ≡ c.self.inside.files.items = sym (ap (λ (s : Shelved). s.entries) c.self.view_is) in
    let le : length c.self.inside.files.items ≤ c.find-index.result = omega (arith, c.if-index-len.false, c.len.ensures) in
    let content : c.extend_from_slice.new.self.items ≡ c.args.bytes.now = c.in_ok-extend_from_slice.ensures.items ∙ ap (λ (l : List ℕ). l ++ c.args.bytes.now) c.in_ok-copy.ensures.items in
    let name : c.in_ok-file.file.name ≡ c.args.name.now = ap (λ (x : Entry). x.name) c.in_ok-file.ensures in
    at_end c.args.self.now.entries c.self.inside.files.items c.push.new.self.items c.args.name.now c.find-index.result c.put-else-index-len.new.self _ _ same c.find-index.ensures le
    (c.put-else-index-len.ensures ∙ entry_eq c.in_ok-file.file.name c.args.name.now (Some c.extend_from_slice.new.self.items) (Some c.args.bytes.now) _ (length c.args.bytes.now) name (ap Some content) (ap length content)) c.in_ok-push.ensures.items

pub returns-then-index-len-clause-held : goal.returns-then-index-len-clause-held
returns-then-index-len-clause-held c = (put c).0

pub returns-then-index-len-clause-others : goal.returns-then-index-len-clause-others
returns-then-index-len-clause-others c = (put c).1

pub returns-in_ok-push-clause-held : goal.returns-in_ok-push-clause-held
returns-in_ok-push-clause-held c = (push c).0

pub returns-in_ok-push-clause-others : goal.returns-in_ok-push-clause-others
returns-in_ok-push-clause-others c = (push c).1
