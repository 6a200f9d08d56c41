use Rattle.std.proofs.Common.{◌≡◌, ◌≤◌, ◌<◌, ◌+◌, ◌++◌, ◌∙◌, ℕ, List, Some, take, length, length-drop, length-take, arith, ap, sym}
use Rattle.brace_io.specs.Shelves.{held_at, Next, ReadsFrom}
use Rattle.brace_io.proofs.ReadLemmas.{file_of, reads_as, whole_file, length_more, front_more}
use Rattle.brace_io.proofs.read.read_whole.Goals as goal

pub file-preserved : goal.file-preserved
file-preserved g c =
    let i = c.file.invariant in
    let e = c.in_ok-got.ensures in
    let z = c.in_ok-extend_from_slice.ensures.items in
    let name = c.args.name.now in
    let got = c.in_ok-got.got in
    let bytes = c.file.bytes.items in
    let all = c.extend_from_slice.new.self.items in
    let given = c.read.new.buffer in
    let in_given : got ≤ length given = e.within in
    let more : all ≡ bytes ++ take got given = z in
    let longer : length all ≡ length bytes + got = length_more bytes all given got more in_given in
    let here : ReadsFrom (g.S.Shelf.held c.file.shelf) (g.S.Shelf.stage c.file.shelf) name (length bytes) = reads_as _ _ _ name (length bytes) (sym i.same) i.reads in
    let next : (file : List ℕ) → held_at (g.S.Shelf.held c.args.shelf.now) name ≡ Some file → Next file (length bytes) given got = λ file h. e.next name file (length bytes) here (ap (λ k. held_at k name) i.same ∙ h) in
    let at : ReadsFrom (g.S.Shelf.held c.args.shelf.now) (g.S.Shelf.stage c.read.new.self) name (length bytes + got) = reads_as _ _ _ name (length bytes + got) i.same (e.reads name (length bytes) here) in
    record {
      within = omega (arith, longer, i.within, c.if-got-room.false);
      chunk = i.chunk;
      has = i.has;
      same = e.held_alone ∙ i.same;
      faults = e.faults_alone ∙ i.faults;
      reads = rw longer at;
      so_far = λ file h. front_more bytes all given file got more longer (i.so_far file h) (next file h).0;
      inside = λ file h. let n = (next file h).1 in omega (arith, longer, i.inside file h, n, length-drop (length bytes) file);
    }

pub returns-then-got-eq0-clause-all : goal.returns-then-got-eq0-clause-all
returns-then-got-eq0-clause-all g c =
    let i = c.file.invariant in
    let e = c.in_ok-got.ensures in
    let name = c.args.name.now in
    let bytes = c.file.bytes.items in
    let here : ReadsFrom (g.S.Shelf.held c.file.shelf) (g.S.Shelf.stage c.file.shelf) name (length bytes) = reads_as _ _ _ name (length bytes) (sym i.same) i.reads in
    let filled : 0 < length c.read.new.buffer = let a = c.read.auto.buffer in let b = c.deref_mut.ensures.len in omega (arith, a, b, i.chunk, length-take {A = ℕ}) in
    whole_file _ name bytes i.has i.so_far (λ file h. (e.next name file (length bytes) here (ap (λ k. held_at k name) i.same ∙ h)).2 (omega arith) filled)

pub returns-then-got-room-clause-long : goal.returns-then-got-room-clause-long
returns-then-got-room-clause-long g c = λ _ told.
    let i = c.file.invariant in
    let e = c.in_ok-got.ensures in
    let name = c.args.name.now in
    let bytes = c.file.bytes.items in
    let (file, h) = file_of _ name i.has told in
    let here : ReadsFrom (g.S.Shelf.held c.file.shelf) (g.S.Shelf.stage c.file.shelf) name (length bytes) = reads_as _ _ _ name (length bytes) (sym i.same) i.reads in
    let n = (e.next name file (length bytes) here (ap (λ k. held_at k name) i.same ∙ h)).1 in
    (file, (h, omega (arith, i.within, n, c.if-got-room.true, length-drop (length bytes) file)))
