-- The numbers and the names of fields and classes, and what the checks of names say of them.
use Rattle.std.proofs.Common.{◌≡◌, refl, sym, ap, subst, ◌∙◌, ℕ, ◌+◌, ◌<◌, ◌≤◌, Bool, true, false, List, [], ◌∷◌, ◌++◌, map, flat_map, fold, length, length-append, append_assoc, arith, inl, inr, zero, suc}
use Rattle.std.specs.Prelude.{Option, Some, None, option_map, option_and_then, slice_get, if◌then◌else◌, ⊤, ◌&&◌, ◌||◌, IsTrue}
use Rattle.std.specs.List.{AllByRecursion, IsDistinct, list_any, list_all}
use Rattle.std.proofs.lemmas.Bool.{cases_Bool, true≢false, or_parts, and_from}
use Rattle.std.proofs.lemmas.List.{length-map}
use Rattle.std.proofs.lemmas.Option.{slice_get-map}
use Rattle.brace_num.proofs.Lists.{each_weaker, at_seam, each_append, each_front}
use Rattle.brace_syntax.specs.declared.tree.Ident.{Ident}
use Rattle.brace_syntax.specs.declared.tree.MemberTree.{MemberTree}
use Rattle.brace_syntax.specs.declared.tree.MemberTree.TheVariants as m
use Rattle.brace_syntax.specs.declared.tree.ClassTree.{ClassTree}
use Rattle.brace_names.specs.declared.declared.Field.{Field}
use Rattle.brace_names.specs.declared.declared.Field.TheVariants as field
use Rattle.brace_names.specs.Kinds.{type_named, comb_named}
use Rattle.brace_names.specs.Tables.{with_name, table, repeated, repeated_after}
use Rattle.brace_names.specs.Classes.{known, fields_behind, fields, numbered_from, title, is_coordinate, has_position}
use Rattle.brace_check.proofs.Ties.{StateHeading, EffectHeading, Heading, state_declared, effect_declared, heading, FieldIs, FieldsFit, named_too, all_back}
use Rattle.std.specs.Str.{bytes_eq}
use Rattle.std.proofs.lemmas.List.Folds.{list_any-append, list_all-append}
use Rattle.std.proofs.lemmas.Slice.Eq.{bytes_eq-Decides}
use Rattle.brace_syntax.specs.declared.tree.TyName.{TyName}
use Rattle.brace_syntax.specs.declared.tree.TyName.TheVariants as tyname
use Rattle.brace_syntax.specs.declared.tree.ExprTree.{ExprTree}
use Rattle.brace_names.specs.declared.finding.Finding.{Finding}
use Rattle.brace_names.specs.declared.finding.Finding.TheVariants as finding
use Rattle.brace_names.specs.declared.fault.NameFault.{NameFault}
use Rattle.brace_names.specs.declared.fault.Which.{Which}
use Rattle.brace_names.specs.Findings.{faults_at}
use Rattle.brace_names.specs.Found.{too_many, position}
use Rattle.brace_model.specs.declared.program.Ty.TheVariants as ty
use Rattle.brace_model.specs.declared.program.State.{State}
use Rattle.brace_model.specs.Typing.{same_type}
use Rattle.brace_model.specs.Lawful.{is_position}
use Rattle.brace_check.specs.Programs.{rule, share, shares, effect_of, place_of}
use Rattle.brace_names.specs.Scopes.{Home, outermost}
use Rattle.brace_names.specs.Faults.{fault_of}
use Rattle.std.proofs.lemmas.List.Elements.{recursion_from_All}
use Rattle.brace_num.specs.Names.{is_name}
use Rattle.brace_tok.specs.declared.kinds.Token.{Token}
use Rattle.brace_tok.specs.Names.{IsNamed}
use Rattle.brace_tok.specs.Spells.{Spells}
use Rattle.brace_tok.proofs.Named.{spells_names}
use Rattle.brace_syntax.specs.Reads as r
use Rattle.brace_syntax.specs.Reads.{ReadsField, ReadsMember, ReadsMembers, ReadsClass, ReadsClasses}

-- a field of a class with these states and effects
abbrev FieldOf : List StateHeading → List EffectHeading → Field → Type 0
FieldOf states effects (field.State i t shared) = slice_get states i ≡ Some (record { ty = t; shared = shared })
FieldOf states effects (field.Effect i t shared c) = slice_get effects i ≡ Some (record { ty = t; shared = shared; comb = c })

abbrev AllOf : List StateHeading → List EffectHeading → List (Ident × Field) → Type 0
AllOf states effects = AllByRecursion (λ one. FieldOf states effects one.1)

one-more : {A : Type 0} (xs : List A) (x : A) → length (xs ++ x ∷ []) ≡ length xs + 1
one-more xs x = length-append xs (x ∷ [])

-- the fields of members, behind those of others
fields_of : (states : List StateHeading) (effects : List EffectHeading) (members : List MemberTree)
    → AllOf (states ++ flat_map state_declared members) (effects ++ flat_map effect_declared members) (fields_behind (length states) (length effects) members)
fields_of states effects [] = tt
fields_of states effects (m.State shared type name x at ∷ members) =
    let one : StateHeading = record { ty = type_named type; shared = shared } in
    let seam : (states ++ one ∷ []) ++ flat_map state_declared members ≡ states ++ one ∷ flat_map state_declared members = append_assoc states (one ∷ []) (flat_map state_declared members) in (
      at_seam states one (flat_map state_declared members),
      subst (λ (l : List StateHeading). AllOf l (effects ++ flat_map effect_declared members) (fields_behind (length states + 1) (length effects) members)) seam
          (subst (λ (k : ℕ). AllOf ((states ++ one ∷ []) ++ flat_map state_declared members) (effects ++ flat_map effect_declared members) (fields_behind k (length effects) members))
          (one-more states one) (fields_of (states ++ one ∷ []) effects members)),
    )
fields_of states effects (m.Effect shared type name c at ∷ members) =
    let one : EffectHeading = record { ty = type_named type; shared = shared; comb = comb_named c } in
    let seam : (effects ++ one ∷ []) ++ flat_map effect_declared members ≡ effects ++ one ∷ flat_map effect_declared members = append_assoc effects (one ∷ []) (flat_map effect_declared members) in (
      at_seam effects one (flat_map effect_declared members),
      subst (λ (l : List EffectHeading). AllOf (states ++ flat_map state_declared members) l (fields_behind (length states) (length effects + 1) members)) seam
          (subst (λ (k : ℕ). AllOf (states ++ flat_map state_declared members) ((effects ++ one ∷ []) ++ flat_map effect_declared members) (fields_behind (length states) k members))
          (one-more effects one) (fields_of states (effects ++ one ∷ []) members)),
    )
fields_of states effects (_ ∷ members) = fields_of states effects members

-- the names of the states of members, and a name at the number of its state
abbrev pub state_called : MemberTree → List (List ℕ)
state_called (m.State shared type name x at) = name.text ∷ []
state_called _ = []

abbrev pub CalledSo : List (List ℕ) → List ℕ → Field → Type 0
CalledSo names name (field.State i t shared) = slice_get names i ≡ Some name
CalledSo names name (field.Effect i t shared c) = ⊤

abbrev AllCalled : List (List ℕ) → List (Ident × Field) → Type 0
AllCalled names = AllByRecursion (λ one. CalledSo names one.0.text one.1)

states_called : (names : List (List ℕ)) (effects : ℕ) (members : List MemberTree) → AllCalled (names ++ flat_map state_called members) (fields_behind (length names) effects members)
states_called names effects [] = tt
states_called names effects (m.State shared type name x at ∷ members) = (
  at_seam names name.text (flat_map state_called members),
  subst (λ (l : List (List ℕ)). AllCalled l (fields_behind (length names + 1) effects members)) (append_assoc names (name.text ∷ []) (flat_map state_called members))
      (subst (λ (k : ℕ). AllCalled ((names ++ name.text ∷ []) ++ flat_map state_called members) (fields_behind k effects members))
      (one-more names name.text) (states_called (names ++ name.text ∷ []) effects members)),
)
states_called names effects (m.Effect shared type name c at ∷ members) = (tt, states_called names (effects + 1) members)
states_called names effects (_ ∷ members) = states_called names effects members

-- what holds of each of them holds of the entries of their table
table_keeps : {A : Type 0} (P : List ℕ → A → Type 0) (start : List (List ℕ × A)) (all : List (Ident × A)) → AllByRecursion (λ e. P e.0 e.1) start → AllByRecursion (λ e. P e.0.text e.1) all
    → AllByRecursion (λ e. P e.0 e.1) (fold (λ names one. with_name names one.0.text one.1) start all)
table_keeps P start [] kept none = kept
table_keeps P start (one ∷ all) kept h = table_keeps P (with_name start one.0.text one.1) all (named_too P start one.0.text one.1 kept h.0) h.1

pub own_called : (class : ClassTree) → AllByRecursion (λ e. CalledSo (flat_map state_called class.members) e.0 e.1) (table (fields class))
own_called class = table_keeps (CalledSo (flat_map state_called class.members)) [] (fields class) tt (states_called [] 0 class.members)

-- the field of a class of a number
field_is : (headings : List Heading) (number : ℕ) (h : Heading) → slice_get headings number ≡ Some h → (x : Field) → FieldOf h.states h.effects x → FieldIs headings number x
field_is headings number h there (field.State i t shared) is = ap (λ (o : Option Heading). option_and_then (λ h. slice_get h.states i) o) there ∙ is
field_is headings number h there (field.Effect i t shared c) is = ap (λ (o : Option Heading). option_and_then (λ h. slice_get h.effects i) o) there ∙ is

-- the fields of a class are those that its heading has
pub fields_fit : (headings : List Heading) (number : ℕ) (class : ClassTree) → slice_get headings number ≡ Some (heading class) → FieldsFit headings number (table (fields class))
fields_fit headings number class there =
    each_weaker (λ (e : List ℕ × Field). FieldOf (flat_map state_declared class.members) (flat_map effect_declared class.members) e.1) (λ (e : List ℕ × Field). FieldIs headings number e.1)
    (λ e is. field_is headings number (heading class) there e.1 is) (table (fields class))
    (table_keeps (λ (key : List ℕ) (x : Field). FieldOf (flat_map state_declared class.members) (flat_map effect_declared class.members) x) [] (fields class) tt (fields_of [] [] class.members))

-- so are those of all classes
pub record ClassAt (classes : List ClassTree) (number : ℕ) (own : List (List ℕ × Field)) : Type 0 where
  pub class : ClassTree
  pub is : slice_get classes number ≡ Some class
  pub own_is : table (fields class) ≡ own

class_at : (classes : List ClassTree) (number : ℕ) (own : List (List ℕ × Field)) (o : Option ClassTree) → slice_get classes number ≡ o
    → option_map (λ class. table (fields class)) o ≡ Some own → ClassAt classes number own
class_at classes number own None is h = absurd (cc)
class_at classes number own (Some class) is h = record { class = class; is = is; own_is = (let same : table (fields class) ≡ own = cc in same) }

pub others_fit : (classes : List ClassTree) (number : ℕ) (own : List (List ℕ × Field)) → slice_get (known classes).fields number ≡ Some own → FieldsFit (map heading classes) number own
others_fit classes number own h =
    let c : ClassAt classes number own = class_at classes number own (slice_get classes number) refl (sym (slice_get-map (λ (class : ClassTree). table (fields class)) classes number) ∙ h) in
    subst (FieldsFit (map heading classes) number) c.own_is
    (fields_fit (map heading classes) number c.class (slice_get-map heading classes number ∙ ap (option_map heading) c.is))

-- classes are numbered below their count
numbered_below : (number : ℕ) (classes : List ClassTree) (all : ℕ) → number + length classes ≤ all → AllByRecursion (λ e. e.1 < all) (numbered_from number classes)
numbered_below number [] all under = tt
numbered_below number (class ∷ classes) all under =
    (omega (arith, under), numbered_below (number + 1) classes all (omega (arith, under)))

pub classes_fit : (classes : List ClassTree) → AllByRecursion (λ e. e.1 < length classes) (known classes).classes
classes_fit classes =
    table_keeps (λ (key : List ℕ) (k : ℕ). k < length classes) [] (numbered_from 0 classes) tt (numbered_below 0 classes (length classes) (omega arith))

-- equal bytes
bytes-flip : (a b : List ℕ) → bytes_eq a b ≡ true → bytes_eq b a ≡ true
bytes-flip a b h = let same : a ≡ b = (bytes_eq-Decides a b).0 h in (bytes_eq-Decides b a).1 (sym same)

pub bytes-apart : (a b : List ℕ) → bytes_eq a b ≡ false → bytes_eq b a ≡ false
bytes-apart a b h = elim (cases_Bool (bytes_eq b a)) [
  | inl same ↦ absurd (true≢false (sym (bytes-flip b a same) ∙ h))
  | inr apart ↦ apart
]

abbrev pub Apart : List ℕ → List (List ℕ) → Type 0
Apart name = AllByRecursion (λ other. bytes_eq name other ≡ false)

-- names of which none is repeated differ
abbrev pub text : Ident → List ℕ
text name = name.text

none_if : (test : Bool) (at : ℕ) (rest : List ℕ) → (if test then at ∷ [] else []) ++ rest ≡ [] → test ≡ false
none_if true at rest h = absurd (cc)
none_if false at rest h = refl

rest_if : (test : Bool) (at : ℕ) (rest : List ℕ) → (if test then at ∷ [] else []) ++ rest ≡ [] → rest ≡ []
rest_if true at rest h = absurd (cc)
rest_if false at rest h = h

abbrev New : List (List ℕ) → List ℕ → Type 0
New earlier name = list_any (bytes_eq name) earlier ≡ false

new_one : (earlier : List (List ℕ)) (one name : List ℕ) → New (earlier ++ one ∷ []) name → (list_any (bytes_eq name) earlier || (bytes_eq name one || false)) ≡ false
new_one earlier one name h = sym (list_any-append (bytes_eq name) earlier (one ∷ [])) ∙ h

record Fresh (earlier : List (List ℕ)) (names : List (List ℕ)) : Type 0 where
  new : AllByRecursion (New earlier) names
  differ : IsDistinct bytes_eq names

fresh : (earlier : List (List ℕ)) (names : List Ident) → repeated_after earlier names ≡ [] → Fresh earlier (map text names)
unfolding IsDistinct
fresh earlier [] h = record { new = tt; differ = tt }
fresh earlier (name ∷ names) h =
    let later : Fresh (earlier ++ name.text ∷ []) (map text names) =
    fresh (earlier ++ name.text ∷ []) names (rest_if (list_any (bytes_eq name.text) earlier) name.at (repeated_after (earlier ++ name.text ∷ []) names) h) in
    record {
      new = (
        none_if (list_any (bytes_eq name.text) earlier) name.at (repeated_after (earlier ++ name.text ∷ []) names) h,
        each_weaker (New (earlier ++ name.text ∷ [])) (New earlier)
            (λ other is. (or_parts (list_any (bytes_eq other) earlier) (bytes_eq other name.text || false) (new_one earlier name.text other is)).0) (map text names) later.new,
      );
      differ = (
        each_weaker (New (earlier ++ name.text ∷ [])) (λ other. bytes_eq name.text other ≡ false)
            (λ other is. bytes-apart other name.text ((or_parts (bytes_eq other name.text) false ((or_parts (list_any (bytes_eq other) earlier) (bytes_eq other name.text || false) (new_one earlier name.text other is)).1)).0))
            (map text names) later.new,
        later.differ,
      );
    }

-- a finding is no fault
abbrev pub Fine : Finding → Type 0
Fine (finding.Fault x) = true ≡ false
Fine _ = ⊤

abbrev pub AllFine : List Finding → Type 0
AllFine = AllByRecursion Fine

pub all_fine : (all : List Finding) → flat_map fault_of all ≡ [] → AllFine all
all_fine [] clean = tt
all_fine (finding.Fault x ∷ all) clean = absurd (cc)
all_fine (_ ∷ all) clean = (tt, all_fine all clean)

none_at : (kind : ℕ → NameFault) (places : List ℕ) → AllFine (faults_at kind places) → places ≡ []
none_at kind [] fine = refl
none_at kind (p ∷ places) fine = absurd (true≢false fine.0)

pub names_differ : (kind : ℕ → NameFault) (names : List Ident) → AllFine (faults_at kind (repeated names)) → IsDistinct bytes_eq (map text names)
names_differ kind names fine = (fresh [] names (none_at kind (repeated names) fine)).differ

-- nothing stands past a limit
within : {A : Type 0} (xs : List A) (limit : ℕ) → slice_get xs limit ≡ None → length xs ≤ limit
within [] limit h = omega arith
within (x ∷ xs) zero h = absurd (cc)
within (x ∷ xs) (suc limit) h = let rest : length xs ≤ limit = within xs limit h in omega (arith, rest)

no_more : (which : Which) (o : Option Ident) → AllFine (too_many which o) → o ≡ None
no_more which None fine = refl
no_more which (Some name) fine = absurd (true≢false fine.0)

pub few_names : (which : Which) (names : List Ident) (limit : ℕ) → AllFine (too_many which (slice_get names limit)) → length names ≤ limit
few_names which names limit fine = within names limit (no_more which (slice_get names limit) fine)

pub few_of : (which : Which) (all : List (Ident × Field)) (limit : ℕ)
    → AllFine (too_many which (option_map (λ one. one.0) (slice_get all limit))) → length all ≤ limit
few_of which all limit fine =
    let first : Ident × Field → Ident = λ one. one.0 in
    subst (λ (k : ℕ). k ≤ limit) (length-map all first)
    (few_names which (map first all) limit (subst (λ (o : Option Ident). AllFine (too_many which o)) (sym (slice_get-map first all limit)) fine))

positioned : (test : Bool) (x : Finding) → AllFine (if test then [] else x ∷ []) → ((AllFine (x ∷ [])) → true ≡ false) → test ≡ true
positioned true x fine never = refl
positioned false x fine never = absurd (true≢false (never fine))

pub has_its_position : (class : ClassTree) → AllFine (position class) → has_position class ≡ true
has_its_position class fine = positioned (has_position class) _ fine (λ h. h.0)

-- the names of the states and effects of members are among their titles
module _ (home : Home) where
  abbrev states_at : List MemberTree → List ℕ → List State
  states_at members n = (shares home members n).0.states

  abbrev state_names : List MemberTree → List ℕ → List (List ℕ)
  state_names members n = map (λ s. s.name) (states_at members n)

  abbrev effect_names : List MemberTree → List (List ℕ)
  effect_names members = map (λ e. e.name) (flat_map effect_of members)

  abbrev titles : List MemberTree → List (List ℕ)
  titles members = map text (map title members)

  -- how many there are
  pub fields_count : (members : List MemberTree) (n : List ℕ) (states effects : ℕ)
      → length (fields_behind states effects members) ≡ length (states_at members n) + length (flat_map effect_of members)
  fields_count [] n states effects = refl
  fields_count (m.State shared type name x at ∷ members) n states effects =
      let k : List ℕ = (share home (m.State shared type name x at) n).1 in
      let rest : length (fields_behind (states + 1) effects members) ≡ length (states_at members k) + length (flat_map effect_of members) = fields_count members k (states + 1) effects in
      let total : suc (length (fields_behind (states + 1) effects members)) ≡ suc (length (states_at members k)) + length (flat_map effect_of members) = omega (arith, rest) in
      total
  fields_count (m.Effect shared type name c at ∷ members) n states effects =
      let k : List ℕ = (share home (m.Effect shared type name c at) n).1 in
      let rest : length (fields_behind states (effects + 1) members) ≡ length (states_at members k) + length (flat_map effect_of members) = fields_count members k states (effects + 1) in
      let total : suc (length (fields_behind states (effects + 1) members)) ≡ length (states_at members k) + suc (length (flat_map effect_of members)) = omega (arith, rest) in
      total
  fields_count (one ∷ members) n states effects = fields_count members (share home one n).1 states effects

  -- a name that is apart from all titles is apart from all fields
  apart_from : (name : List ℕ) (members : List MemberTree) (n : List ℕ) → Apart name (titles members) → Apart name (state_names members n) × Apart name (effect_names members)
  apart_from name [] n h = (tt, tt)
  apart_from name (m.State shared type word x at ∷ members) n h =
      let rest : Apart name (state_names members _) × Apart name (effect_names members) = apart_from name members (share home (m.State shared type word x at) n).1 h.1 in
      ((h.0, rest.0), rest.1)
  apart_from name (m.Effect shared type word c at ∷ members) n h =
      let rest : Apart name (state_names members n) × Apart name (effect_names members) = apart_from name members n h.1 in
      (rest.0, (h.0, rest.1))
  apart_from name (one ∷ members) n h = apart_from name members (share home one n).1 h.1

  insert : (x one : List ℕ) (xs ys : List (List ℕ)) → Apart x (xs ++ ys) → bytes_eq x one ≡ false → Apart x (xs ++ one ∷ ys)
  insert x one [] ys h apart = (apart, h)
  insert x one (z ∷ xs) ys h apart = (h.0, insert x one xs ys h.1 apart)

  -- one name more between names that differ
  differ_between : (one : List ℕ) (xs ys : List (List ℕ)) → IsDistinct bytes_eq (xs ++ ys) → Apart one xs → Apart one ys → IsDistinct bytes_eq (xs ++ one ∷ ys)
  unfolding IsDistinct
  differ_between one [] ys h here there = (there, h)
  differ_between one (x ∷ xs) ys h here there =
      (insert x one xs ys h.0 (bytes-apart one x here.0), differ_between one xs ys h.1 here.1 there)

  -- the fields of a class have names of their own each
  pub fields_differ : (members : List MemberTree) (n : List ℕ) → IsDistinct bytes_eq (titles members) → IsDistinct bytes_eq (state_names members n ++ effect_names members)
  unfolding IsDistinct
  fields_differ [] n h = tt
  fields_differ (m.State shared type name x at ∷ members) n h =
      let k : List ℕ = (share home (m.State shared type name x at) n).1 in
      let apart : Apart name.text (state_names members k) × Apart name.text (effect_names members) = apart_from name.text members k h.0 in
      (each_append (λ other. bytes_eq name.text other ≡ false) (state_names members k) (effect_names members) apart.0 apart.1, fields_differ members k h.1)
  fields_differ (m.Effect shared type name c at ∷ members) n h =
      let apart : Apart name.text (state_names members n) × Apart name.text (effect_names members) = apart_from name.text members n h.0 in
      differ_between name.text (state_names members n) (effect_names members) (fields_differ members n h.1) apart.0 apart.1
  fields_differ (one ∷ members) n h = fields_differ members (share home one n).1 h.1

  -- a coordinate is the first state of its name
  abbrev placed : List ℕ → List State → Bool
  placed axis states = is_position axis (slice_get states (place_of axis states))

  not_later : (axis : List ℕ) (members : List MemberTree) → Apart axis (titles members) → list_any (is_coordinate axis) members ≡ false
  not_later axis [] h = refl
  not_later axis (m.State true tyname.Fixed name x at ∷ members) h = rw h.0 (not_later axis members h.1)
  not_later axis (_ ∷ members) h = not_later axis members h.1

  placed_here : (axis : List ℕ) (s : State) (states : List State) → bytes_eq s.name axis ≡ true → placed axis (s ∷ states) ≡ (s.shared && same_type s.ty ty.Fixed)
  placed_here axis s states same =
      let first : place_of axis (s ∷ states) ≡ 0 = rw same refl in
      ap (λ (k : ℕ). is_position axis (slice_get (s ∷ states) k)) first ∙ ap (λ (b : Bool). b && (s.shared && same_type s.ty ty.Fixed)) same

  placed_later : (axis : List ℕ) (s : State) (states : List State) → bytes_eq s.name axis ≡ false → placed axis (s ∷ states) ≡ placed axis states
  placed_later axis s states apart =
      let more : 1 + place_of axis states ≡ suc (place_of axis states) = omega arith in
      let far : place_of axis (s ∷ states) ≡ suc (place_of axis states) = rw apart more in
      ap (λ (k : ℕ). is_position axis (slice_get (s ∷ states) k)) far

  -- a state is the coordinate, or one behind it is
  abbrev here : List ℕ → Bool → TyName → Ident → Option ExprTree → ℕ → List MemberTree → Bool
  here axis shared type name x at members = list_any (is_coordinate axis) (m.State shared type name x at ∷ members)

  stands_here : (axis : List ℕ) (shared : Bool) (type : TyName) (name : Ident) (x : Option ExprTree) (at : ℕ) (members : List MemberTree)
      → list_any (is_coordinate axis) members ≡ false → here axis shared type name x at members ≡ true → (shared && same_type (type_named type) ty.Fixed) ≡ true
  stands_here axis true tyname.Fixed name x at members none is = refl
  stands_here axis true tyname.Int name x at members none is = absurd (true≢false (sym is ∙ none))
  stands_here axis true tyname.Bool name x at members none is = absurd (true≢false (sym is ∙ none))
  stands_here axis true (tyname.Other other) name x at members none is = absurd (true≢false (sym is ∙ none))
  stands_here axis false type name x at members none is = absurd (true≢false (sym is ∙ none))

  stands_later : (axis : List ℕ) (shared : Bool) (type : TyName) (name : Ident) (x : Option ExprTree) (at : ℕ) (members : List MemberTree)
      → bytes_eq axis name.text ≡ false → here axis shared type name x at members ≡ true → list_any (is_coordinate axis) members ≡ true
  stands_later axis true tyname.Fixed name x at members apart is = subst (λ (b : Bool). (b || list_any (is_coordinate axis) members) ≡ true) apart is
  stands_later axis true tyname.Int name x at members apart is = is
  stands_later axis true tyname.Bool name x at members apart is = is
  stands_later axis true (tyname.Other other) name x at members apart is = is
  stands_later axis false type name x at members apart is = is

  -- a class with a coordinate has its place
  pub is_placed : (axis : List ℕ) (members : List MemberTree) (n : List ℕ) → IsDistinct bytes_eq (titles members) → list_any (is_coordinate axis) members ≡ true
      → placed axis (states_at members n) ≡ true
  unfolding IsDistinct
  is_placed axis [] n h is = absurd (true≢false (sym is))
  is_placed axis (m.State shared type name x at ∷ members) n h is =
      let k : List ℕ = (share home (m.State shared type name x at) n).1 in
      let s : State = record { name = name.text; ty = type_named type; shared = shared; rule = (rule x (outermost home false) n).0 } in
      elim (cases_Bool (bytes_eq name.text axis)) [
        | inl same ↦
            let one : name.text ≡ axis = (bytes_eq-Decides name.text axis).0 same in
            let later : list_any (is_coordinate axis) members ≡ false = not_later axis members (subst (λ (name : List ℕ). Apart name (titles members)) one h.0) in
            placed_here axis s (states_at members k) same ∙ stands_here axis shared type name x at members later is
        | inr apart ↦
            placed_later axis s (states_at members k) apart
            ∙ is_placed axis members k h.1 (stands_later axis shared type name x at members (bytes-apart name.text axis apart) is)
      ]
  is_placed axis (one ∷ members) n h is = is_placed axis members (share home one n).1 h.1 is

-- a member that is a field has a name
abbrev pub Worded : MemberTree → Type 0
Worded (m.State shared type name x at) = IsTrue (is_name name.text)
Worded (m.Effect shared type name c at) = IsTrue (is_name name.text)
Worded _ = ⊤

-- so have a class and its members
pub record WordedClass (class : ClassTree) : Type 0 where
  pub named : IsTrue (is_name class.name.text)
  pub members : AllByRecursion Worded class.members

module _ (src : List ℕ) where
  abbrev Words : List Token → Type 0
  Words = AllByRecursion (IsNamed src)

  worded_field : (shared : Bool) (at : ℕ) (toks : List Token) (x : MemberTree) → ReadsField src shared at toks x → Words toks → Worded x
  worded_field shared at _ _ (r.state word type name semicolon t _ _ is _) h = h.1.1.0 is
  worded_field shared at _ _ (r.ruled a word type name colon semicolon t x _ _ is _ _ _) h = h.1.1.0 is
  worded_field shared at _ _ (r.effect word type name colon combinator semicolon t c _ _ is _ _ _) h = h.1.1.0 is

  worded_member : (toks : List Token) (x : MemberTree) → ReadsMember src toks x → Words toks → Worded x
  worded_member _ _ (r.public a word x _ g) h = worded_field true word.from a x g h.1
  worded_member _ _ (r.private a word x _ g) h = worded_field false word.from a x g h.1
  worded_member _ _ _ h = tt

  worded_members : (toks : List Token) (xs : List MemberTree) → ReadsMembers src toks xs → Words toks → AllByRecursion Worded xs
  worded_members _ _ r.none h = tt
  worded_members _ _ (r.more a b x xs g e) h = (worded_member a x g (each_front (IsNamed src) a b h), worded_members b xs e (all_back (IsNamed src) a b h))

  worded_class : (toks : List Token) (x : ClassTree) → ReadsClass src toks x → Words toks → WordedClass x
  worded_class _ _ (r.class a word name opening closing xs _ is _ _ g) h =
      record { named = h.1.0 is; members = worded_members a xs g (each_front (IsNamed src) a (closing ∷ []) h.1.1.1) }

  worded_classes : (toks : List Token) (xs : List ClassTree) → ReadsClasses src toks xs → Words toks → AllByRecursion WordedClass xs
  worded_classes _ _ (r.last a x g) h = (worded_class a x g h, tt)
  worded_classes _ _ (r.more a b x xs g e) h = (worded_class a x g (each_front (IsNamed src) a b h), worded_classes b xs e (all_back (IsNamed src) a b h))

  -- the classes of a script that is read from a source
  pub script_worded : (toks : List Token) (xs : List ClassTree) → Spells src toks → ReadsClasses src toks xs → AllByRecursion WordedClass xs
  script_worded toks xs spelled read = worded_classes toks xs read (recursion_from_All (IsNamed src) toks (spells_names src toks spelled))

-- the names of the fields in the program
module _ (home : Home) where
  states_named : (members : List MemberTree) (n : List ℕ) → AllByRecursion Worded members → list_all is_name (map (λ (s : State). s.name) (shares home members n).0.states) ≡ true
  states_named [] n h = refl
  states_named (m.State shared type name x at ∷ members) n h =
      and_from (is_name name.text) (list_all is_name (map (λ (s : State). s.name) (shares home members _).0.states)) h.0
      (states_named members (share home (m.State shared type name x at) n).1 h.1)
  states_named (one ∷ members) n h = states_named members (share home one n).1 h.1

  effects_named : (members : List MemberTree) → AllByRecursion Worded members → list_all is_name (map (λ e. e.name) (flat_map effect_of members)) ≡ true
  effects_named [] h = refl
  effects_named (m.Effect shared type name c at ∷ members) h =
      and_from (is_name name.text) (list_all is_name (map (λ e. e.name) (flat_map effect_of members))) h.0 (effects_named members h.1)
  effects_named (_ ∷ members) h = effects_named members h.1

  pub fields_named : (members : List MemberTree) (n : List ℕ) → AllByRecursion Worded members
      → list_all is_name (map (λ (s : State). s.name) (shares home members n).0.states ++ map (λ e. e.name) (flat_map effect_of members)) ≡ true
  fields_named members n h =
      let states : List (List ℕ) = map (λ (s : State). s.name) (shares home members n).0.states in
      let effects : List (List ℕ) = map (λ e. e.name) (flat_map effect_of members) in
      list_all-append is_name states effects ∙ and_from (list_all is_name states) (list_all is_name effects) (states_named members n h) (effects_named members h)
