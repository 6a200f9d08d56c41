use Rattle.std.proofs.Common.{◌≡◌, ◌<◌, ◌≤◌, ◌∙◌, [], List, Some, length, ap, sym, arith}
use Rattle.std.proofs.Math.ListN.{set}
use Rattle.std.specs.List.{position_or_len}
use Rattle.brace_io.specs.MemShelves.{Entry, Shelved, named, entry_of, call_fails, with_bytes, OthersAlone}
use Rattle.brace_io.proofs.MemLemmas.{entry, file_changed, entry_missing, unprepared_fails, prepared_passes}
use Rattle.brace_io.proofs.mem_shelf.MemShelfShelf.create.Goals as goal

emptied : (c : goal.After-self-3-1) → (entry_of c.args.self.now.entries c.args.name.now ≡ Some c.index_mut.result.now) × ((entry_of (set c.self.inside.files.items c.find-index.result c.clear.new.self) c.args.name.now ≡ Some (entry c.index_mut.result.now.name (Some []) c.index_mut.result.now.room)) × OthersAlone c.args.self.now.entries (set c.self.inside.files.items c.find-index.result c.clear.new.self) c.args.name.now)
emptied c =
    let es = c.self.inside.files.items in
    let before = c.args.self.now.entries in
    let first : before ≡ c.refuses.new.self.entries = sym (ap (λ (s : Shelved). s.entries) c.refuses.ensures.counted) in
    let same : before ≡ es = first ∙ sym (ap (λ (s : Shelved). s.entries) c.self.view_is) in
    let at : c.find-index.result ≡ position_or_len (named c.args.name.now) before = c.find-index.ensures ∙ ap (λ (x : List Entry). position_or_len (named c.args.name.now) x) (sym first) in
    let lt : c.find-index.result < length es = omega (arith, c.if-index-len.false, c.len.ensures) in
    file_changed before es c.args.name.now c.find-index.result c.index_mut.result.now c.clear.new.self (Some []) same at lt c.index_mut.ensures.value c.clear.ensures

pub returns-then-index-len-clause-fails : goal.returns-then-index-len-clause-fails
returns-then-index-len-clause-fails c =
    let es = c.self.inside.files.items in
    let before = c.args.self.now.entries in
    let first : before ≡ c.refuses.new.self.entries = sym (ap (λ (s : Shelved). s.entries) c.refuses.ensures.counted) in
    let same : before ≡ es = first ∙ sym (ap (λ (s : Shelved). s.entries) c.self.view_is) in
    let at : c.find-index.result ≡ position_or_len (named c.args.name.now) before = c.find-index.ensures ∙ ap (λ (x : List Entry). position_or_len (named c.args.name.now) x) (sym first) in
    let le : length es ≤ c.find-index.result = omega (arith, c.if-index-len.true, c.len.ensures) in
    sym (unprepared_fails (call_fails c.args.self.now) (entry_of before c.args.name.now) (sym c.refuses.ensures.listed ∙ c.if-refuses.false) (entry_missing before es c.args.name.now c.find-index.result same at le))

pub returns-clause-fails : goal.returns-clause-fails
returns-clause-fails c = sym (prepared_passes (call_fails c.args.self.now) (entry_of c.args.self.now.entries c.args.name.now) c.index_mut.result.now (sym c.refuses.ensures.listed ∙ c.if-refuses.false) (emptied c).0)

pub returns-clause-empties : goal.returns-clause-empties
returns-clause-empties c =
    let e = emptied c in
    e.1.0 ∙ sym (ap (with_bytes []) e.0)

pub returns-clause-others : goal.returns-clause-others
returns-clause-others c = (emptied c).1.1
