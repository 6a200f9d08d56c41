-- Tables of names, shown as maps; names that an earlier one equals; names within a limit.
use Rattle.std.proofs.Common.{◌≡◌, refl, sym, ap, ◌∙◌, ℕ, Bool, true, false, List, [], ◌∷◌, ◌++◌, map, Bor, subst, ◌+◌, ◌<◌, take, drop, get_or, length, append_assoc, arith, suc, inl, inr, ◌≤◌}
use Rattle.std.specs.Prelude.{Some, cond, is_some, ◌||◌, if◌then◌else◌, Option, slice_get}
use Rattle.std.specs.Map.{lookup}
use Rattle.std.specs.Str.{bytes_eq}
use Rattle.std.proofs.lemmas.List.{map-append, at_drop_more, append-nil}
use Rattle.indexmap.specs.IndexMap.{IndexMap, get, insert_entry}
use Rattle.indexmap.proofs.CallerLemmas.{insert_entry-new}
use Rattle.brace_num.proofs.Options.{not_some}
use Rattle.brace_names.specs.Tables.{look, has, with_name, repeated_after}
use Rattle.std.specs.List.{list_any}
use Rattle.std.proofs.lemmas.Bool.{cases_Bool}
use Rattle.std.proofs.lemmas.List.Folds.{list_any-append}
use Rattle.std.proofs.lemmas.Slice.Eq.{bytes_eq-Decides}
use Rattle.std.proofs.Math.Seq.{take-suc}
use Rattle.brace_num.proofs.Booleans.{or_false, or_true}
use Rattle.brace_syntax.specs.declared.tree.Ident.{Ident}
use Rattle.std.specs.Option.{option_map}
use Rattle.std.proofs.lemmas.Option.{slice_get_past}
use Rattle.brace_names.specs.declared.fault.Which.{Which}
use Rattle.brace_names.specs.declared.finding.Finding.{Finding}
use Rattle.brace_names.specs.Found.{too_many}

abbrev pub same_bytes : Bor (List ℕ) → Bor (List ℕ) → Bool
same_bytes a b = bytes_eq a.now b.now

module _ {V : Type 0} where
  abbrev pub entry_of : Bor (List ℕ) × V → List ℕ × V
  entry_of entry = (entry.0.now, entry.1)

  abbrev pub shown : List (Bor (List ℕ) × V) → List (List ℕ × V)
  shown entries = map entry_of entries

  pub look-shown : (name : List ℕ) (es : List (Bor (List ℕ) × V)) → look (shown es) name ≡ lookup (λ key. bytes_eq name key.now) es
  look-shown name [] = refl
  look-shown name (e ∷ es) = ap (cond (bytes_eq name e.0.now) (Some e.1)) (look-shown name es)

  appended : (es : List (Bor (List ℕ) × V)) (names : List (List ℕ × V)) (key : Bor (List ℕ)) (v : V) → shown es ≡ names → has names key.now ≡ false
      → shown (es ++ (key, v) ∷ []) ≡ with_name names key.now v
  appended es names key v view absent = rw absent (map-append entry_of es ((key, v) ∷ []) ∙ ap (λ t. t ++ (key.now, v) ∷ []) view)

  -- a name that stands for something stays
  pub with_name-kept : (names : List (List ℕ × V)) (name : List ℕ) (v : V) → has names name ≡ true → names ≡ with_name names name v
  with_name-kept names name v there = rw there refl

module _ {V S : Type 0} (m : IndexMap (Bor (List ℕ)) V S) (names : List (List ℕ × V)) (key : Bor (List ℕ)) (view : shown m.entries ≡ names) where
  -- a name that stands for nothing
  pub absent-shown : false ≡ is_some (get same_bytes m key) → has names key.now ≡ false
  absent-shown absent = sym (ap (λ t. has t key.now) view) ∙ (ap is_some (look-shown key.now m.entries) ∙ sym absent)

  pub present-shown : true ≡ is_some (get same_bytes m key) → has names key.now ≡ true
  present-shown there = sym (ap (λ t. has t key.now) view) ∙ (ap is_some (look-shown key.now m.entries) ∙ sym there)

  -- a name that stands for nothing goes last
  pub added-shown : (v : V) (entries : List (Bor (List ℕ) × V)) → false ≡ is_some (get same_bytes m key)
      → entries ≡ insert_entry same_bytes m.entries key v → shown entries ≡ with_name names key.now v
  added-shown v entries absent inserted =
      ap shown (inserted ∙ insert_entry-new same_bytes m key v (not_some _ (sym absent))) ∙ appended m.entries names key v view (absent-shown absent)

module _ {A : Type 0} where
  has-last : (table : List (List ℕ × A)) (name : List ℕ) (x : A) (other : List ℕ) → has (table ++ (name, x) ∷ []) other ≡ (has table other || bytes_eq other name)
  has-last [] name x other = elim (cases_Bool (bytes_eq other name)) [
    | inl same ↦ rw same refl
    | inr apart ↦ rw apart refl
  ]
  has-last (e ∷ table) name x other = elim (cases_Bool (bytes_eq other e.0)) [
    | inl same ↦ rw same refl
    | inr apart ↦ rw apart (has-last table name x other)
  ]

  found_again : (table : List (List ℕ × A)) (name other : List ℕ) → has table name ≡ true → has table other ≡ (has table other || bytes_eq other name)
  found_again table name other there = elim (cases_Bool (bytes_eq other name)) [
    | inl same ↦ rw (same, or_true (has table other)) (ap (has table) ((bytes_eq-Decides other name).0 same) ∙ there)
    | inr apart ↦ rw (apart, or_false (has table other)) refl
  ]

  -- which names stand for something, once one more does
  has-with_name : (table : List (List ℕ × A)) (name : List ℕ) (x : A) (other : List ℕ) → has (with_name table name x) other ≡ (has table other || bytes_eq other name)
  has-with_name table name x other = elim (cases_Bool (has table name)) [
    | inl there ↦ rw there (found_again table name other there)
    | inr new ↦ rw new (has-last table name x other)
  ]

  -- the table has exactly these names
  abbrev pub Knows : List (List ℕ × A) → List (List ℕ) → Type 0
  Knows table earlier = (name : List ℕ) → has table name ≡ list_any (bytes_eq name) earlier

  pub knows-more : (table : List (List ℕ × A)) (earlier : List (List ℕ)) (name : List ℕ) (x : A) → Knows table earlier → Knows (with_name table name x) (earlier ++ name ∷ [])
  knows-more table earlier name x knows other =
      has-with_name table name x other
      ∙ (ap (λ b. b || bytes_eq other name) (knows other)
      ∙ (ap (λ b. list_any (bytes_eq other) earlier || b) (sym (or_false (bytes_eq other name)))
      ∙ sym (list_any-append (bytes_eq other) earlier (name ∷ []))))

abbrev pub text : Ident → List ℕ
text name = name.text

abbrev pub texts : ℕ → List Ident → List (List ℕ)
texts n names = map text (take n names)

pub texts-more : (names : List Ident) (i : ℕ) (d : Ident) → i < length names → texts (i + 1) names ≡ texts i names ++ text (get_or names i d) ∷ []
texts-more names i d inside =
    ap (λ (n : ℕ). texts n names) (let e : i + 1 ≡ suc i = omega arith in e)
    ∙ (ap (λ (l : List Ident). map text l) (take-suc names i d inside) ∙ map-append text (take i names) (get_or names i d ∷ []))

-- one name more is seen
pub seen-more : (names : List Ident) (i : ℕ) (d : Ident) (again all : List ℕ) (seen : List (List ℕ × Unit {0})) → i < length names → Knows seen (texts i names)
    → again ++ repeated_after (texts i names) (drop i names) ≡ all
    → (again ++ (if has seen (text (get_or names i d)) then (get_or names i d).at ∷ [] else [])) ++ repeated_after (texts (i + 1) names) (drop (i + 1) names) ≡ all
seen-more names i d again all seen inside knows before =
    append_assoc again (if has seen (text (get_or names i d)) then (get_or names i d).at ∷ [] else []) (repeated_after (texts (i + 1) names) (drop (i + 1) names))
    ∙ (ap (λ (b : Bool). again ++ ((if b then (get_or names i d).at ∷ [] else []) ++ repeated_after (texts (i + 1) names) (drop (i + 1) names))) (knows (text (get_or names i d)))
    ∙ (ap (λ (e : List (List ℕ)). again ++ ((if list_any (bytes_eq (text (get_or names i d))) (texts i names) then (get_or names i d).at ∷ [] else []) ++ repeated_after e (drop (i + 1) names))) (texts-more names i d inside)
    ∙ (sym (at_drop_more (λ (l : List Ident). again ++ repeated_after (texts i names) l) names i d inside) ∙ before)))

pub knows-next : (names : List Ident) (i : ℕ) (d : Ident) (seen : List (List ℕ × Unit {0})) → i < length names → Knows seen (texts i names)
    → Knows (with_name seen (text (get_or names i d)) tt) (texts (i + 1) names)
knows-next names i d seen inside knows =
    subst (Knows (with_name seen (text (get_or names i d)) tt)) (sym (texts-more names i d inside)) (knows-more seen (texts i names) (text (get_or names i d)) tt knows)

-- a turn of the loop over the names
pub turn : (names : List Ident) (i : ℕ) (x : Ident) (again after all : List ℕ) (seen known : List (List ℕ × Unit {0})) → i < length names → x ≡ get_or names i x
    → after ≡ again ++ (if has seen x.text then x.at ∷ [] else []) → known ≡ with_name seen x.text tt
    → again ++ repeated_after (texts i names) (drop i names) ≡ all → Knows seen (texts i names)
    → (after ++ repeated_after (texts (i + 1) names) (drop (i + 1) names) ≡ all) × Knows known (texts (i + 1) names)
turn names i x again after all seen known inside is noted kept before knows = (
  ap (λ (l : List ℕ). l ++ repeated_after (texts (i + 1) names) (drop (i + 1) names)) noted
      ∙ subst (λ (y : Ident). (again ++ (if has seen y.text then y.at ∷ [] else [])) ++ repeated_after (texts (i + 1) names) (drop (i + 1) names) ≡ all)
      (sym is) (seen-more names i x again all seen inside knows before),
  subst (λ (t : List (List ℕ × Unit {0})). Knows t (texts (i + 1) names)) (sym kept)
      (subst (λ (y : Ident). Knows (with_name seen y.text tt) (texts (i + 1) names)) (sym is) (knows-next names i x seen inside knows)),
)

module _ {A : Type 0} where
  pub within : (out : List Finding) (which : Which) (name : A → Ident) (all : List A) (limit : ℕ) → length all ≤ limit
      → out ≡ out ++ too_many which (option_map name (slice_get all limit))
  within out which name all limit few =
      sym (append-nil out) ∙ ap (λ (o : Option A). out ++ too_many which (option_map name o)) (sym (slice_get_past all limit few))

pub within_names : (out : List Finding) (which : Which) (all : List Ident) (limit : ℕ) → length all ≤ limit → out ≡ out ++ too_many which (slice_get all limit)
within_names out which all limit few = sym (append-nil out) ∙ ap (λ (o : Option Ident). out ++ too_many which o) (sym (slice_get_past all limit few))
