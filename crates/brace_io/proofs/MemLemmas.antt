-- What a write at an entry, or one more entry, changes.
use Rattle.std.proofs.Common.{◌≡◌, ◌≢◌, ◌<◌, ◌≤◌, ◌-◌, ◌∙◌, ◌++◌, ◌||◌, ℕ, List, [], ◌∷◌, Option, Some, None, Bool, true, false, not, cond, length, get_or, take, drop, min, is_some, nat_lt, sym, refl, ap, subst, arith}
use Rattle.std.proofs.Math.ListN.{set}
use Rattle.std.specs.List.{position, position_or_len, slice_get}
use Rattle.std.specs.Option.{option_or}
use Rattle.std.proofs.lemmas.Bool.Decides.{nat_tests}
use Rattle.std.proofs.lemmas.Slice.Eq.{bytes_eq-Decides}
use Rattle.std.proofs.lemmas.Option.{slice_get-get_or, slice_get_past}
use Rattle.std.proofs.lemmas.List.Folds.{find-set, find_past, find-append, find_at}
use Rattle.std.proofs.lemmas.List.Sums.{passes_at_first, prefix_len-le-length}
use Rattle.std.proofs.lemmas.List.{take_rest, drop_min}
use Rattle.brace_io.specs.Shelves.{Stage, Reading, Writing}
use Rattle.brace_io.specs.inner.MemStages.{mem_stage, IsAt, Spotted}
use Rattle.brace_io.specs.declared.mem_shelf.Doing.{Doing}
use Rattle.brace_io.specs.declared.mem_shelf.Doing.TheVariants as doing
use Rattle.brace_io.specs.MemShelves.{Entry, named, entry_of, file_in, files_of, OthersAlone}

pub named-same : (entry : Entry) (name : List ℕ) → entry.name ≡ name → named name entry ≡ true
named-same entry name e = (bytes_eq-Decides entry.name name).1 e

false_of : (b : Bool) → (b ≡ true → ⊥) → b ≡ false
false_of true h = absurd (h refl)
false_of false h = refl

pub named-other : (entry : Entry) (name other : List ℕ) → entry.name ≡ name → other ≢ name → named other entry ≡ false
named-other entry name other e ne = false_of (named other entry) (λ t. ne (sym ((bytes_eq-Decides entry.name other).0 t) ∙ e))

some_of : (b : Bool) (n i : ℕ) → cond b (Some n) None ≡ Some i → i ≡ n
some_of true n i e = cc
some_of false n i e = cc

none_of : (b : Bool) (n : ℕ) → cond b (Some n) None ≡ None → b ≡ false
none_of true n e = cc
none_of false n e = refl

pub some_index : (name : List ℕ) (es : List Entry) (i : ℕ) → position (named name) es ≡ Some i → i ≡ position_or_len (named name) es
some_index name es i e = some_of (nat_lt (position_or_len (named name) es) (length es)) (position_or_len (named name) es) i e

not_below : (n m : ℕ) → n ≤ m → nat_lt n m ≡ false → m ≡ n
not_below n m le f = grind (arith, nat_tests)

pub none_index : (name : List ℕ) (es : List Entry) → position (named name) es ≡ None → length es ≡ position_or_len (named name) es
none_index name es e = not_below (position_or_len (named name) es) (length es) (prefix_len-le-length _ es) (none_of (nat_lt (position_or_len (named name) es) (length es)) (position_or_len (named name) es) e)

pub entry_here : (es : List Entry) (name : List ℕ) (i : ℕ) (d : Entry) → i ≡ position_or_len (named name) es → i < length es → entry_of es name ≡ Some (get_or es i d)
entry_here es name i d e lt = find_at (named name) es ∙ (ap (slice_get es) (sym e) ∙ slice_get-get_or es i d lt)

pub entry_none : (es : List Entry) (name : List ℕ) (i : ℕ) → i ≡ position_or_len (named name) es → length es ≤ i → entry_of es name ≡ None
entry_none es name i e le = find_at (named name) es ∙ (ap (slice_get es) (sym e) ∙ slice_get_past es i le)

pub name_here : (es : List Entry) (name : List ℕ) (i : ℕ) (d : Entry) → i ≡ position_or_len (named name) es → i < length es → (get_or es i d).name ≡ name
name_here es name i d e lt =
    let P : ℕ → Type 0 = λ k. k < length es → named name (get_or es k d) ≡ true in
    (bytes_eq-Decides (get_or es i d).name name).0 (subst P (sym e) (passes_at_first (named name) es d) lt)

pub file_here : (es : List Entry) (name : List ℕ) (i : ℕ) (old : Entry) → i ≡ position_or_len (named name) es → i < length es → old ≡ get_or es i old → files_of es name ≡ old.file
file_here es name i old e lt is = ap file_in (entry_here es name i old e lt ∙ ap Some (sym is))

pub old_name : (es : List Entry) (name : List ℕ) (i : ℕ) (old : Entry) → i ≡ position_or_len (named name) es → i < length es → old ≡ get_or es i old → old.name ≡ name
old_name es name i old e lt is = ap (λ (x : Entry). x.name) is ∙ name_here es name i old e lt

pub set_here : (es : List Entry) (name : List ℕ) (i : ℕ) (y : Entry) → i ≡ position_or_len (named name) es → i < length es → y.name ≡ name → entry_of (set es i y) name ≡ Some y
set_here es name i y e lt n = find-set (named name) es i y e lt (named-same y name n)

pub set_others : (es : List Entry) (name : List ℕ) (i : ℕ) (y : Entry) → i ≡ position_or_len (named name) es → i < length es → y.name ≡ name → OthersAlone es (set es i y) name
set_others es name i y e lt n other ne = find_past (named other) es i y y (named-other (get_or es i y) name other (name_here es name i y e lt) ne) (named-other y name other n ne)

none_or : (o p : Option Entry) → o ≡ None → option_or o p ≡ p
none_or None p e = refl
none_or (Some x) p e = cc

or_none : (o : Option Entry) → option_or o None ≡ o
or_none None = refl
or_none (Some x) = refl

pub push_here : (es : List Entry) (name : List ℕ) (i : ℕ) (y : Entry) → i ≡ position_or_len (named name) es → length es ≤ i → y.name ≡ name → entry_of (es ++ y ∷ []) name ≡ Some y
push_here es name i y e le n = find-append (named name) es (y ∷ []) ∙ (none_or (entry_of es name) (cond (named name y) (Some y) None) (entry_none es name i e le) ∙ ap (λ (b : Bool). cond b (Some y) None) (named-same y name n))

pub push_others : (es : List Entry) (name : List ℕ) (y : Entry) → y.name ≡ name → OthersAlone es (es ++ y ∷ []) name
push_others es name y n other ne = find-append (named other) es (y ∷ []) ∙ (ap (λ (b : Bool). option_or (entry_of es other) (cond b (Some y) None)) (named-other y name other n ne) ∙ or_none (entry_of es other))

abbrev pub entry : List ℕ → Option (List ℕ) → ℕ → Entry
entry name file room = record { name = name; file = file; room = room }

pub entry_eq : (n m : List ℕ) (f g : Option (List ℕ)) (r q : ℕ) → n ≡ m → f ≡ g → r ≡ q → entry n f r ≡ entry m g q
entry_eq n m f g r q a b c = ap (λ (x : List ℕ). entry x f r) a ∙ (ap (λ (x : Option (List ℕ)). entry m x r) b ∙ ap (λ (x : ℕ). entry m g x) c)

-- a write at the name's entry
pub in_place : (before es : List Entry) (name : List ℕ) (i : ℕ) (y : Entry) (file : Option (List ℕ)) (room : ℕ) → before ≡ es → i ≡ position_or_len (named name) before → i < length es → y ≡ entry name file room → (entry_of (set es i y) name ≡ Some (entry name file room)) × OthersAlone before (set es i y) name
in_place before es name i y file room same at lt is =
    let at' : i ≡ position_or_len (named name) es = at ∙ ap (λ (x : List Entry). position_or_len (named name) x) same in
    let n : y.name ≡ name = ap (λ (x : Entry). x.name) is in
    (set_here es name i y at' lt n ∙ ap Some is, λ other ne. set_others es name i y at' lt n other ne ∙ ap (λ (x : List Entry). entry_of x other) (sym same))

-- one more entry, of a name that had none
pub at_end : (before es all : List Entry) (name : List ℕ) (i : ℕ) (y : Entry) (file : Option (List ℕ)) (room : ℕ) → before ≡ es → i ≡ position_or_len (named name) before → length es ≤ i → y ≡ entry name file room → all ≡ es ++ y ∷ [] → (entry_of all name ≡ Some (entry name file room)) × OthersAlone before all name
at_end before es all name i y file room same at le is end =
    let at' : i ≡ position_or_len (named name) es = at ∙ ap (λ (x : List Entry). position_or_len (named name) x) same in
    let n : y.name ≡ name = ap (λ (x : Entry). x.name) is in
    (ap (λ (x : List Entry). entry_of x name) end ∙ (push_here es name i y at' le n ∙ ap Some is), λ other ne. ap (λ (x : List Entry). entry_of x other) end ∙ (push_others es name y n other ne ∙ ap (λ (x : List Entry). entry_of x other) (sym same)))

pub old_name_in : (before es : List Entry) (name : List ℕ) (i : ℕ) (old : Entry) → before ≡ es → i ≡ position_or_len (named name) before → i < length es → old ≡ get_or es i old → old.name ≡ name
old_name_in before es name i old same at lt is = old_name es name i old (at ∙ ap (λ (x : List Entry). position_or_len (named name) x) same) lt is

pub file_in_place : (before es : List Entry) (name : List ℕ) (i : ℕ) (old : Entry) → before ≡ es → i ≡ position_or_len (named name) before → i < length es → old ≡ get_or es i old → files_of before name ≡ old.file
file_in_place before es name i old same at lt is = ap (λ (x : List Entry). files_of x name) same ∙ file_here es name i old (at ∙ ap (λ (x : List Entry). position_or_len (named name) x) same) lt is

pub file_missing : (before es : List Entry) (name : List ℕ) (i : ℕ) → before ≡ es → i ≡ position_or_len (named name) before → length es ≤ i → files_of before name ≡ None
file_missing before es name i same at le = ap (λ (x : List Entry). files_of x name) same ∙ ap file_in (entry_none es name i (at ∙ ap (λ (x : List Entry). position_or_len (named name) x) same) le)

some_not_none : (o : Option (List ℕ)) → is_some o ≡ true → o ≡ None → ⊥
some_not_none None h e = cc
some_not_none (Some file) h e = cc

pub held_below : (before es : List Entry) (name : List ℕ) (i : ℕ) → before ≡ es → i ≡ position_or_len (named name) before → is_some (files_of before name) ≡ true → i < length es
held_below before es name i same at has =
    let at' : i ≡ position_or_len (named name) es = at ∙ ap (λ (x : List Entry). position_or_len (named name) x) same in
    let le : position_or_len (named name) es ≤ length es = prefix_len-le-length _ es in
    let ne : i ≢ length es = λ e. some_not_none (files_of before name) has (file_missing before es name i same at (omega (arith, e))) in
    omega (arith, le, at', ne)

abbrev name_at : Stage → List ℕ
name_at (Reading (Some at)) = at.0
name_at (Writing (Some name)) = name
name_at _ = []

abbrev place_at : Stage → ℕ
place_at (Reading (Some at)) = at.1
place_at _ = 0

pub writing_at : (d : Doing) (es : List Entry) (said : List ℕ) (place i : ℕ) (name : List ℕ) → mem_stage d said place ≡ Writing (Some name) → Spotted d es said i → IsAt es name i
writing_at doing.Writing es said place i name e h = subst (λ (x : List ℕ). IsAt es x i) (ap name_at e) h
writing_at _ es said place i name e h = cc

pub reading_at : (d : Doing) (es : List Entry) (said : List ℕ) (place i : ℕ) (name : List ℕ) (p : ℕ) → mem_stage d said place ≡ Reading (Some (name, p)) → Spotted d es said i → IsAt es name i × (place ≡ p)
reading_at doing.Reading es said place i name p e h = (subst (λ (x : List ℕ). IsAt es x i) (ap name_at e) h, ap place_at e)
reading_at _ es said place i name p e h = cc

pub is_at : (before es : List Entry) (name : List ℕ) (i : ℕ) → before ≡ es → IsAt es name i → i ≡ position_or_len (named name) before
is_at before es name i same h = h.1 ∙ ap (λ (x : List Entry). position_or_len (named name) x) (sym same)

pub entry_in_place : (before es : List Entry) (name : List ℕ) (i : ℕ) (old : Entry) → before ≡ es → i ≡ position_or_len (named name) before → i < length es → old ≡ get_or es i old → entry_of before name ≡ Some old
entry_in_place before es name i old same at lt is = ap (λ (x : List Entry). entry_of x name) same ∙ (entry_here es name i old (at ∙ ap (λ (x : List Entry). position_or_len (named name) x) same) lt ∙ ap Some (sym is))

-- another file at the name's entry
pub file_changed : (before es : List Entry) (name : List ℕ) (i : ℕ) (old y : Entry) (file : Option (List ℕ)) → before ≡ es → i ≡ position_or_len (named name) before → i < length es → old ≡ get_or es i old → y ≡ entry old.name file old.room → (entry_of before name ≡ Some old) × ((entry_of (set es i y) name ≡ Some (entry old.name file old.room)) × OthersAlone before (set es i y) name)
file_changed before es name i old y file same at lt is change =
    let at' : i ≡ position_or_len (named name) es = at ∙ ap (λ (x : List Entry). position_or_len (named name) x) same in
    let n : old.name ≡ name = old_name es name i old at' lt is in
    let e : entry old.name file old.room ≡ entry name file old.room = entry_eq old.name name file file old.room old.room n refl refl in
    let r = in_place before es name i y file old.room same at lt (change ∙ e) in
    (entry_in_place before es name i old same at lt is, (r.0 ∙ ap Some (sym e), r.1))

pub entry_missing : (before es : List Entry) (name : List ℕ) (i : ℕ) → before ≡ es → i ≡ position_or_len (named name) before → length es ≤ i → entry_of before name ≡ None
entry_missing before es name i same at le = ap (λ (x : List Entry). entry_of x name) same ∙ entry_none es name i (at ∙ ap (λ (x : List Entry). position_or_len (named name) x) same) le

pub unprepared_fails : (b : Bool) (o : Option Entry) → b ≡ false → o ≡ None → b || not (is_some o) ≡ true
unprepared_fails b o e n = ap (λ (x : Bool). x || not (is_some o)) e ∙ ap (λ (x : Option Entry). not (is_some x)) n

pub prepared_passes : (b : Bool) (o : Option Entry) (y : Entry) → b ≡ false → o ≡ Some y → b || not (is_some o) ≡ false
prepared_passes b o y e n = ap (λ (x : Bool). x || not (is_some o)) e ∙ ap (λ (x : Option Entry). not (is_some x)) n

-- a slice from the place, or from the end where the place is behind it
pub rest_from : (file bytes : List ℕ) (place spot from : ℕ) → bytes ≡ file → spot ≡ place → from ≡ min spot (length bytes) → take (length bytes - from) (drop from bytes) ≡ drop place file
rest_from file bytes place spot from b s f = take_rest bytes from ∙ (ap (λ (k : ℕ). drop k bytes) f ∙ (drop_min spot bytes ∙ (ap (λ (k : ℕ). drop k bytes) s ∙ ap (drop place) b)))
