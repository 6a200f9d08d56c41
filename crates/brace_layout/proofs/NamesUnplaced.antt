-- What is found in the names of a script at place 0 is what is found in the script, at place 0.
use Rattle.std.proofs.Common.{◌≡◌, refl, sym, ap, ◌∙◌, ℕ, Bool, true, false, List, [], ◌∷◌, ◌++◌, map, ◌+◌, flat_map, fold, codes, inl, inr}
use Rattle.std.specs.Prelude.{Option, Some, None, if◌then◌else◌, ◌&&◌, ◌||◌, slice_get, option_map}
use Rattle.std.specs.Str.{bytes_eq}
use Rattle.brace_syntax.specs.declared.tree.Ident.{Ident}
use Rattle.brace_syntax.specs.declared.tree.TyName.{TyName}
use Rattle.brace_syntax.specs.declared.tree.TyName.TheVariants as ty
use Rattle.brace_syntax.specs.declared.tree.ExprTree.{ExprTree}
use Rattle.brace_syntax.specs.declared.tree.ExprTree.TheVariants as e
use Rattle.brace_show.specs.Alike.{ident_at_0, number_at_0, type_at_0, expr_step, expr_at_0, gift_at_0, member_at_0, class_at_0}
use Rattle.brace_model.specs.Typing.{unary_faults, binary_faults}
use Rattle.brace_names.specs.declared.fault.NameFault.TheVariants.{DuplicateName, UnknownClass}
use Rattle.brace_names.specs.declared.declared.Field.{Field}
use Rattle.brace_names.specs.declared.scope.Named.{Named}
use Rattle.brace_names.specs.declared.scope.Named.TheVariants as named
use Rattle.brace_names.specs.declared.scope.LoopField.{LoopField}
use Rattle.brace_names.specs.declared.finding.Finding.{Finding}
use Rattle.brace_names.specs.declared.finding.Finding.TheVariants as finding
use Rattle.brace_names.specs.Kinds.{unary_named, binary_named, type_named, comb_named}
use Rattle.brace_names.specs.Tables.{look, with_name, table, repeated, repeated_after}
use Rattle.brace_names.specs.Scopes.{Scope, is_taken, class_number, read, read_own, of_loop, Home, home_of, outermost}
use Rattle.brace_names.specs.Findings as f
use Rattle.brace_names.specs.Found.{expression, expression_step, sought, is_state, states_given, declarations, class_names, found}
use Rattle.brace_names.proofs.Folds.{Expressions, of_expression, of-Lit, of-True, of-False, of-Name, of-OfThis, of-OfLoop, of-Unary, of-Binary, of-Choice, of-Rand}
use Rattle.brace_layout.specs.Unplaced.{name_fault_at_0, targets_in}
use Rattle.brace_layout.proofs.WalkZero as walk
use Rattle.brace_layout.proofs.WalkZero.{Unplaced, type_zero, many, block_zeroed}
use mathlib.Core.List.{map-append}
use Rattle.std.specs.List.{list_any}
use Rattle.std.proofs.lemmas.Bool.{cases_Bool}
use Rattle.std.proofs.lemmas.Option.{slice_get-map}
use Rattle.brace_syntax.specs.declared.tree.GiftTree.{GiftTree}
use Rattle.brace_syntax.specs.declared.tree.MemberTree.{MemberTree}
use Rattle.brace_syntax.specs.declared.tree.MemberTree.TheVariants as m
use Rattle.brace_syntax.specs.declared.tree.ClassTree.{ClassTree}
use Rattle.brace_syntax.specs.declared.tree.Tree.{Tree}
use Rattle.brace_model.specs.declared.program.Ty.{Ty}
use Rattle.brace_names.specs.declared.fault.NameFault.{NameFault}
use Rattle.brace_names.specs.declared.fault.NameFault.TheVariants as fault
use Rattle.brace_names.specs.declared.fault.Which.{Which}
use Rattle.brace_names.specs.declared.fault.Which.TheVariants as which
use Rattle.brace_names.specs.declared.declared.Field.TheVariants as field
use Rattle.brace_names.specs.declared.resolved.Binding.{Binding}
use Rattle.brace_names.specs.declared.resolved.Target.{Target}
use Rattle.brace_names.specs.Classes.{Known, known, title, fields, fields_behind, numbered_from, is_coordinate, has_position}
use Rattle.brace_names.specs.Walk.{in_classes}
use Rattle.brace_names.specs.Found as names
use Rattle.brace_names.specs.Faults.{fault_of, binding_of, site_of, assignment_of, too_many, faults_among, faults}

-- a finding at place 0
abbrev pub finding_at_0 : Finding → Finding
finding_at_0 (finding.Fault x) = finding.Fault (name_fault_at_0 x)
finding_at_0 (finding.Names b) = finding.Names (record { at = 0; target = b.target })
finding_at_0 (finding.Site at) = finding.Site 0
finding_at_0 (finding.Assignment at) = finding.Assignment 0

abbrev pub zeroed : List Finding → List Finding
zeroed = map finding_at_0

pub both : (xs ys a b : List Finding) → zeroed xs ≡ a → zeroed ys ≡ b → zeroed (xs ++ ys) ≡ a ++ b
both = walk.both finding_at_0

if_site : (test : Bool) (at : ℕ) → zeroed (f.site_if test at) ≡ f.site_if test 0
if_site true at = refl
if_site false at = refl

reads_at : (n : Scope) (at : ℕ) (name : Ident) (o : Option Named) → zeroed (f.reads n at name o) ≡ f.reads n 0 (ident_at_0 name) o
reads_at n at name (Some (named.Field x)) =
    both (f.names_as name.at (f.target_of x)) (f.site_if (f.is_summed n x) at) (f.names_as 0 (f.target_of x)) (f.site_if (f.is_summed n x) 0) refl (if_site (f.is_summed n x) at)
reads_at n at name _ = refl

loop_at : (variable name : Ident) (o : Option LoopField) → zeroed (f.names_of_loop variable name o) ≡ f.names_of_loop (ident_at_0 variable) (ident_at_0 name) o
loop_at variable name None = refl
loop_at variable name (Some x) = refl

abbrev ExprUnplaced : ExprTree → Type 0
ExprUnplaced x = (n : Scope) → zeroed (expression x n) ≡ expression (expr_at_0 x) n

through : (x y : ExprTree) (g h : Scope → List Finding) → expression x ≡ g → expr_at_0 x ≡ y → expression y ≡ h → ((n : Scope) → zeroed (g n) ≡ h n) → ExprUnplaced x
through x y g h a b c same n =
    ap (λ (k : Scope → List Finding). zeroed (k n)) a ∙ (same n ∙ ap (λ (k : Scope → List Finding). k n) (sym (ap expression b ∙ c)))

kinds : Expressions ExprUnplaced
kinds = record {
  lit = λ number. through (e.Lit number) (e.Lit (number_at_0 number)) _ _ (of-Lit expression_step number) (of-Lit expr_step number) (of-Lit expression_step (number_at_0 number)) (λ n. refl);
  true_ = λ at. through (e.True at) (e.True 0) _ _ (of-True expression_step at) (of-True expr_step at) (of-True expression_step 0) (λ n. refl);
  false_ = λ at. through (e.False at) (e.False 0) _ _ (of-False expression_step at) (of-False expr_step at) (of-False expression_step 0) (λ n. refl);
  name = λ name. through (e.Name name) (e.Name (ident_at_0 name)) _ _ (of-Name expression_step name) (of-Name expr_step name) (of-Name expression_step (ident_at_0 name))
      (λ n. reads_at n name.at name (read n name.text));
  of_this = λ name at. through (e.OfThis name at) (e.OfThis (ident_at_0 name) 0) _ _ (of-OfThis expression_step name at) (of-OfThis expr_step name at) (of-OfThis expression_step (ident_at_0 name) 0)
      (λ n. reads_at n at name (read_own n name.text));
  of_loop = λ variable name. through (e.OfLoop variable name) (e.OfLoop (ident_at_0 variable) (ident_at_0 name)) _ _
      (of-OfLoop expression_step variable name) (of-OfLoop expr_step variable name) (of-OfLoop expression_step (ident_at_0 variable) (ident_at_0 name))
      (λ n. walk.either finding_at_0 n.in_query _ [] _ [] (loop_at variable name (of_loop n variable.text name.text)) refl);
  unary = λ op x at hx. through (e.Unary op x at) (e.Unary op (expr_at_0 x) 0) _ _ (of-Unary expression_step op x at) (of-Unary expr_step op x at) (of-Unary expression_step op (expr_at_0 x) 0)
      (λ n.
      let test : Bool = unary_faults (unary_named op) in
      both (expression x n) (f.site_if test at) (expression (expr_at_0 x) n) (f.site_if test 0) (hx n) (if_site test at));
  binary = λ op x y at hx hy. through (e.Binary op x y at) (e.Binary op (expr_at_0 x) (expr_at_0 y) 0) _ _
      (of-Binary expression_step op x y at) (of-Binary expr_step op x y at) (of-Binary expression_step op (expr_at_0 x) (expr_at_0 y) 0)
      (λ n.
      let test : Bool = binary_faults (binary_named op) in
      both (expression x n ++ expression y n) (f.site_if test at) (expression (expr_at_0 x) n ++ expression (expr_at_0 y) n) (f.site_if test 0)
      (both (expression x n) (expression y n) (expression (expr_at_0 x) n) (expression (expr_at_0 y) n) (hx n) (hy n)) (if_site test at));
  choice = λ w x y at hw hx hy. through (e.Choice w x y at) (e.Choice (expr_at_0 w) (expr_at_0 x) (expr_at_0 y) 0) _ _
      (of-Choice expression_step w x y at) (of-Choice expr_step w x y at) (of-Choice expression_step (expr_at_0 w) (expr_at_0 x) (expr_at_0 y) 0)
      (λ n. both (expression w n ++ expression x n) (expression y n) (expression (expr_at_0 w) n ++ expression (expr_at_0 x) n) (expression (expr_at_0 y) n)
      (both (expression w n) (expression x n) (expression (expr_at_0 w) n) (expression (expr_at_0 x) n) (hw n) (hx n)) (hy n));
  rand = λ at. through (e.Rand at) (e.Rand 0) _ _ (of-Rand expression_step at) (of-Rand expr_step at) (of-Rand expression_step 0) (λ n. refl);
}

pub expression_unplaced : (x : ExprTree) → ExprUnplaced x
expression_unplaced = of_expression ExprUnplaced kinds

-- statements
pub typed_at : (type : TyName) → zeroed (f.typed type) ≡ f.typed (type_at_0 type)
typed_at ty.Int = refl
typed_at _ = refl

declares_at : (n : Scope) (name : Ident) → zeroed (f.declares n name) ≡ f.declares n (ident_at_0 name)
declares_at n name = walk.either finding_at_0 (is_taken n name.text) (f.fault (DuplicateName name.at)) [] (f.fault (DuplicateName 0)) [] refl refl

class_at : (at : ℕ) (o : Option ℕ) → zeroed (f.names_class at o) ≡ f.names_class 0 o
class_at at None = refl
class_at at (Some k) = refl

loops_at : (n : Scope) (class other : Ident) → zeroed (f.loops_over n class other) ≡ f.loops_over n (ident_at_0 class) (ident_at_0 other)
loops_at n class other =
    both (f.names_class class.at (class_number n class.text)) (f.names_again class other (class_number n other.text)) (f.names_class 0 (class_number n class.text)) (f.names_again (ident_at_0 class) (ident_at_0 other) (class_number n other.text))
    (class_at class.at (class_number n class.text))
    (walk.either finding_at_0 (bytes_eq class.text other.text) (f.names_class other.at (class_number n other.text)) (f.fault (UnknownClass other.at))
    (f.names_class 0 (class_number n other.text)) (f.fault (UnknownClass 0)) (class_at other.at (class_number n other.text)) refl)

field_at : (at : ℕ) (name : Ident) (o : Option Field) → zeroed (f.names_field at name o) ≡ f.names_field 0 (ident_at_0 name) o
field_at at name None = refl
field_at at name (Some x) = refl

pub assigns_at : (n : Scope) (at : ℕ) (name : Ident) → zeroed (f.assigns n at name) ≡ f.assigns n 0 (ident_at_0 name)
assigns_at n at name =
    let o : Option Field = look n.home.own name.text in
    both (f.names_field at name o) (f.assignment at) (f.names_field 0 (ident_at_0 name) o) (f.assignment 0) (field_at at name o) refl

assigns_loop_at : (n : Scope) (variable name : Ident) → zeroed (f.assigns_of_loop n variable name) ≡ f.assigns_of_loop n (ident_at_0 variable) (ident_at_0 name)
assigns_loop_at n variable name =
    let o : Option LoopField = of_loop n variable.text name.text in
    both (f.names_of_loop variable name o) (f.assignment variable.at) (f.names_of_loop (ident_at_0 variable) (ident_at_0 name) o) (f.assignment 0) (loop_at variable name o) refl

pub sought_unplaced : Unplaced finding_at_0 sought
sought_unplaced = record {
  constant = λ type name x n. both (f.typed type ++ f.declares n name) (expression x n) (f.typed (type_at_0 type) ++ f.declares n (ident_at_0 name)) (expression (expr_at_0 x) n)
      (both (f.typed type) (f.declares n name) (f.typed (type_at_0 type)) (f.declares n (ident_at_0 name)) (typed_at type) (declares_at n name)) (expression_unplaced x n);
  condition = expression_unplaced;
  head = λ class variable other at n. both (f.loops_over n class other) (f.declares n variable) (f.loops_over n (ident_at_0 class) (ident_at_0 other)) (f.declares n (ident_at_0 variable))
      (loops_at n class other) (declares_at n variable);
  assigned = λ at name x n. both (f.assigns n at name) (expression x n) (f.assigns n 0 (ident_at_0 name)) (expression (expr_at_0 x) n) (assigns_at n at name) (expression_unplaced x n);
  assigned_of_loop = λ variable name x n. both (f.assigns_of_loop n variable name) (expression x n) (f.assigns_of_loop n (ident_at_0 variable) (ident_at_0 name)) (expression (expr_at_0 x) n)
      (assigns_loop_at n variable name) (expression_unplaced x n);
}

abbrev pub nought : ℕ → ℕ
nought at = 0

-- names that are repeated
repeated_if : (test : Bool) (at : ℕ) → map nought (if test then at ∷ [] else []) ≡ (if test then 0 ∷ [] else [])
repeated_if true at = refl
repeated_if false at = refl

repeats : (earlier : List (List ℕ)) (names_ : List Ident) → map nought (repeated_after earlier names_) ≡ repeated_after earlier (map ident_at_0 names_)
repeats earlier [] = refl
repeats earlier (name ∷ names_) =
    let test : Bool = list_any (bytes_eq name.text) earlier in
    let rest : List ℕ = repeated_after (earlier ++ name.text ∷ []) names_ in
    map-append nought (if test then name.at ∷ [] else []) rest
    ∙ (ap (λ (l : List ℕ). l ++ map nought rest) (repeated_if test name.at)
    ∙ ap (λ (l : List ℕ). (if test then 0 ∷ [] else []) ++ l) (repeats (earlier ++ name.text ∷ []) names_))

module _ (kind : ℕ → NameFault) (same : (at : ℕ) → name_fault_at_0 (kind at) ≡ kind 0) where
  faults_zero : (places : List ℕ) → zeroed (f.faults_at kind places) ≡ f.faults_at kind (map nought places)
  faults_zero [] = refl
  faults_zero (at ∷ places) =
      ap (λ (x : NameFault). finding.Fault x ∷ zeroed (f.faults_at kind places)) (same at) ∙ ap (λ (l : List Finding). finding.Fault (kind 0) ∷ l) (faults_zero places)

  repeated_zero : (names_ : List Ident) → zeroed (f.faults_at kind (repeated names_)) ≡ f.faults_at kind (repeated (map ident_at_0 names_))
  repeated_zero names_ = faults_zero (repeated names_) ∙ ap (f.faults_at kind) (repeats [] names_)

limit_zero : (w : Which) (o : Option Ident) → zeroed (names.too_many w o) ≡ names.too_many w (option_map ident_at_0 o)
limit_zero w None = refl
limit_zero w (Some name) = refl

-- members
module _ (n : Scope) where
  given_zero : (gifts : List GiftTree) → map ident_at_0 (states_given n gifts) ≡ states_given n (map gift_at_0 gifts)
  given_zero [] = refl
  given_zero (g ∷ gifts) = elim (cases_Bool (is_state (look n.home.own g.state.text))) [
    | inl given ↦ rw given (ap (λ (l : List Ident). ident_at_0 g.state ∷ l) (given_zero gifts))
    | inr other ↦ rw other (given_zero gifts)
  ]

  gift_zero : (g : GiftTree) → zeroed (names.gift n g) ≡ names.gift n (gift_at_0 g)
  gift_zero g =
      both (f.assigns n g.state.at g.state) (names.expression g.value n) (f.assigns n 0 (ident_at_0 g.state)) (names.expression (expr_at_0 g.value) n)
      (assigns_at n g.state.at g.state) (expression_unplaced g.value n)

  gifts_zero : (gifts : List GiftTree) → zeroed (flat_map (names.gift n) gifts) ≡ flat_map (names.gift n) (map gift_at_0 gifts)
  gifts_zero gifts = many finding_at_0 (names.gift n) gift_at_0 gifts gift_zero

  spawned_zero : (gifts : List GiftTree) (at : ℕ) → zeroed (names.gifts_found n gifts at) ≡ names.gifts_found n (map gift_at_0 gifts) 0
  spawned_zero gifts at =
      let a : List Finding = flat_map (names.gift n) gifts in
      let b : List Finding = f.faults_at fault.DuplicateName (repeated (states_given n gifts)) in
      let a0 : List Finding = flat_map (names.gift n) (map gift_at_0 gifts) in
      let b0 : List Finding = f.faults_at fault.DuplicateName (repeated (states_given n (map gift_at_0 gifts))) in
      both (a ++ b) (f.site at) (a0 ++ b0) (f.site 0)
      (both a b a0 b0 (gifts_zero gifts)
      (repeated_zero fault.DuplicateName (λ at. refl) (states_given n gifts) ∙ ap (λ (l : List Ident). f.faults_at fault.DuplicateName (repeated l)) (given_zero gifts))) refl

  rule_zero : (x : Option ExprTree) → zeroed (names.rule x n) ≡ names.rule (option_map expr_at_0 x) n
  rule_zero None = refl
  rule_zero (Some x) = expression_unplaced x n

member_zero : (home : Home) (x : MemberTree) → zeroed (names.member home x) ≡ names.member home (member_at_0 x)
member_zero home (m.State shared type name x at) =
    let n : Scope = outermost home false in
    both (f.typed type) (names.rule x n) (f.typed (type_at_0 type)) (names.rule (option_map expr_at_0 x) n) (typed_at type) (rule_zero n x)
member_zero home (m.Effect shared type name comb at) = typed_at type
member_zero home (m.Run block at) = block_zeroed finding_at_0 sought sought_unplaced block (outermost home true)
member_zero home (m.Die x at) = expression_unplaced x (outermost home false)
member_zero home (m.Spawn x gifts at) =
    let n : Scope = outermost home false in
    both (names.expression x n) (names.gifts_found n gifts at) (names.expression (expr_at_0 x) n) (names.gifts_found n (map gift_at_0 gifts) 0)
    (expression_unplaced x n) (spawned_zero n gifts at)
member_zero home _ = refl

-- fields
module _ {A : Type 0} where
  abbrev entry_zero : Ident × A → Ident × A
  entry_zero one = (ident_at_0 one.0, one.1)

  table_from : (known_ : List (List ℕ × A)) (all : List (Ident × A))
      → fold (λ names one. with_name names one.0.text one.1) known_ (map entry_zero all) ≡ fold (λ names one. with_name names one.0.text one.1) known_ all
  table_from known_ [] = refl
  table_from known_ (one ∷ all) = table_from (with_name known_ one.0.text one.1) all

  table_zero : (all : List (Ident × A)) → table (map entry_zero all) ≡ table all
  table_zero all = table_from [] all

fields_zero : (states effects : ℕ) (xs : List MemberTree) → map entry_zero (fields_behind states effects xs) ≡ fields_behind states effects (map member_at_0 xs)
fields_zero states effects [] = refl
fields_zero states effects (m.State shared type name x at ∷ xs) =
    ap (λ (l : List (Ident × Field)). (ident_at_0 name, field.State states (type_named type) shared) ∷ l) (fields_zero (states + 1) effects xs)
    ∙ ap (λ (t : Ty). (ident_at_0 name, field.State states t shared) ∷ fields_behind (states + 1) effects (map member_at_0 xs)) (sym (type_zero type))
fields_zero states effects (m.Effect shared type name c at ∷ xs) =
    ap (λ (l : List (Ident × Field)). (ident_at_0 name, field.Effect effects (type_named type) shared (comb_named c)) ∷ l) (fields_zero states (effects + 1) xs)
    ∙ ap (λ (t : Ty). (ident_at_0 name, field.Effect effects t shared (comb_named c)) ∷ fields_behind states (effects + 1) (map member_at_0 xs)) (sym (type_zero type))
fields_zero states effects (_ ∷ xs) = fields_zero states effects xs

pub own_zero : (class : ClassTree) → table (fields class) ≡ table (fields (class_at_0 class))
own_zero class = sym (table_zero (fields class)) ∙ ap table (fields_zero 0 0 class.members)

tables_zero : (classes : List ClassTree) → map (λ class. table (fields class)) classes ≡ map (λ class. table (fields class)) (map class_at_0 classes)
tables_zero [] = refl
tables_zero (class ∷ classes) =
    ap (λ (l : List (List ℕ × Field)). l ∷ map (λ class. table (fields class)) classes) (own_zero class)
    ∙ ap (λ (l : List (List (List ℕ × Field))). table (fields (class_at_0 class)) ∷ l) (tables_zero classes)

numbers_zero : (k : ℕ) (classes : List ClassTree) → map entry_zero (numbered_from k classes) ≡ numbered_from k (map class_at_0 classes)
numbers_zero k [] = refl
numbers_zero k (class ∷ classes) = ap (λ (l : List (Ident × ℕ)). (ident_at_0 class.name, k) ∷ l) (numbers_zero (k + 1) classes)

pub known_zero : (classes : List ClassTree) → known classes ≡ known (map class_at_0 classes)
known_zero classes =
    let a : table (numbered_from 0 classes) ≡ table (numbered_from 0 (map class_at_0 classes)) = sym (table_zero (numbered_from 0 classes)) ∙ ap table (numbers_zero 0 classes) in
    ap (λ (t : List (List ℕ × ℕ)). record { classes = t; fields = map (λ class. table (fields class)) classes }) a
    ∙ ap (λ (t : List (List (List ℕ × Field))). record { classes = table (numbered_from 0 (map class_at_0 classes)); fields = t }) (tables_zero classes)

-- what a class declares
titles_zero : (xs : List MemberTree) → map ident_at_0 (map title xs) ≡ map title (map member_at_0 xs)
titles_zero [] = refl
titles_zero (m.State shared type name x at ∷ xs) = ap (λ (l : List Ident). ident_at_0 name ∷ l) (titles_zero xs)
titles_zero (x ∷ xs) = ap (λ (l : List Ident). ident_at_0 (title x) ∷ l) (titles_zero xs)

module _ (axis : List ℕ) where
  coordinate_zero : (x : MemberTree) → is_coordinate axis (member_at_0 x) ≡ is_coordinate axis x
  coordinate_zero (m.State true ty.Fixed name x at) = refl
  coordinate_zero _ = refl

  coordinates_zero : (xs : List MemberTree) → list_any (is_coordinate axis) (map member_at_0 xs) ≡ list_any (is_coordinate axis) xs
  coordinates_zero [] = refl
  coordinates_zero (x ∷ xs) =
      ap (λ (b : Bool). b || list_any (is_coordinate axis) (map member_at_0 xs)) (coordinate_zero x)
      ∙ ap (λ (b : Bool). is_coordinate axis x || b) (coordinates_zero xs)

position_zero : (class : ClassTree) → zeroed (names.position class) ≡ names.position (class_at_0 class)
position_zero class =
    let a : Bool = list_any (is_coordinate (codes "x")) class.members in
    let b : Bool = list_any (is_coordinate (codes "y")) (map member_at_0 class.members) in
    walk.either finding_at_0 (has_position class) [] (f.fault (fault.NoPosition class.name.at)) [] (f.fault (fault.NoPosition 0)) refl refl
    ∙ (ap (λ (t : Bool). if a && t then [] else f.fault (fault.NoPosition 0)) (sym (coordinates_zero (codes "y") class.members))
    ∙ ap (λ (t : Bool). if t && b then [] else f.fault (fault.NoPosition 0)) (sym (coordinates_zero (codes "x") class.members)))

first_zero : (o : Option (Ident × Field)) → option_map ident_at_0 (option_map (λ one. one.0) o) ≡ option_map (λ one. one.0) (option_map entry_zero o)
first_zero None = refl
first_zero (Some one) = refl

declarations_zero : (class : ClassTree) → zeroed (declarations class) ≡ declarations (class_at_0 class)
declarations_zero class =
    let a : List Finding = f.faults_at fault.DuplicateName (repeated (map title class.members)) in
    let a0 : List Finding = f.faults_at fault.DuplicateName (repeated (map title (map member_at_0 class.members))) in
    let o : Option Ident = option_map (λ one. one.0) (slice_get (fields class) 64) in
    let o0 : Option Ident = option_map (λ one. one.0) (slice_get (fields (class_at_0 class)) 64) in
    let same : option_map ident_at_0 o ≡ o0 =
    first_zero (slice_get (fields class) 64)
    ∙ ap (λ (p : Option (Ident × Field)). option_map (λ one. one.0) p)
    (sym (slice_get-map entry_zero (fields class) 64) ∙ ap (λ (l : List (Ident × Field)). slice_get l 64) (fields_zero 0 0 class.members)) in
    both (a ++ names.too_many which.Fields o) (names.position class) (a0 ++ names.too_many which.Fields o0) (names.position (class_at_0 class))
    (both a (names.too_many which.Fields o) a0 (names.too_many which.Fields o0)
    (repeated_zero fault.DuplicateName (λ at. refl) (map title class.members) ∙ ap (λ (l : List Ident). f.faults_at fault.DuplicateName (repeated l)) (titles_zero class.members))
    (limit_zero which.Fields o ∙ ap (names.too_many which.Fields) same))
    (position_zero class)

class_names_zero : (names_ : List Ident) → zeroed (class_names names_) ≡ class_names (map ident_at_0 names_)
class_names_zero names_ =
    both (f.faults_at fault.DuplicateClass (repeated names_)) (names.too_many which.Classes (slice_get names_ 16))
    (f.faults_at fault.DuplicateClass (repeated (map ident_at_0 names_))) (names.too_many which.Classes (slice_get (map ident_at_0 names_) 16))
    (repeated_zero fault.DuplicateClass (λ at. refl) names_)
    (limit_zero which.Classes (slice_get names_ 16) ∙ ap (names.too_many which.Classes) (sym (slice_get-map ident_at_0 names_ 16)))

-- a class at place 0 is the same to its members
pub home_zero : (all : Known) (number : ℕ) (class : ClassTree) → home_of all number (class_at_0 class) ≡ home_of all number class
home_zero all number class = ap (λ (own : List (List ℕ × Field)). record { known = all; number = number; own = own }) (sym (own_zero class))

module _ {A : Type 0} (at_0 : A → A) (member : Home → MemberTree → List A) (zero : (home : Home) (x : MemberTree) → map at_0 (member home x) ≡ member home (member_at_0 x)) where
  -- what is found in the members of classes
  pub classes_zero : (all : Known) (number : ℕ) (classes : List ClassTree) → map at_0 (in_classes member all number classes) ≡ in_classes member all number (map class_at_0 classes)
  classes_zero all number [] = refl
  classes_zero all number (class ∷ classes) =
      walk.both at_0 (flat_map (member (home_of all number class)) class.members) (in_classes member all (number + 1) classes)
      (flat_map (member (home_of all number (class_at_0 class))) (map member_at_0 class.members)) (in_classes member all (number + 1) (map class_at_0 classes))
      (many at_0 (member (home_of all number class)) member_at_0 class.members (zero (home_of all number class))
      ∙ ap (λ (home : Home). flat_map (member home) (map member_at_0 class.members)) (sym (home_zero all number class)))
      (classes_zero all (number + 1) classes)

  -- and in those of a script
  pub script_zero : (classes : List ClassTree) → map at_0 (in_classes member (known classes) 0 classes) ≡ in_classes member (known (map class_at_0 classes)) 0 (map class_at_0 classes)
  script_zero classes = classes_zero (known classes) 0 classes ∙ ap (λ (all : Known). in_classes member all 0 (map class_at_0 classes)) (known_zero classes)

titles_of : (classes : List ClassTree) → map ident_at_0 (map (λ class. class.name) classes) ≡ map (λ class. class.name) (map class_at_0 classes)
titles_of [] = refl
titles_of (class ∷ classes) = ap (λ (l : List Ident). ident_at_0 class.name ∷ l) (titles_of classes)

-- a script with 0 in each place
abbrev pub tree_at_0 : Tree → Tree
tree_at_0 tree = record { classes = map class_at_0 tree.classes }

pub found_zero : (tree : Tree) → zeroed (found tree) ≡ found (tree_at_0 tree)
found_zero tree =
    let classes : List ClassTree = tree.classes in
    let a : List Finding = class_names (map (λ class. class.name) classes) in
    let b : List Finding = flat_map declarations classes in
    let d : List Finding = in_classes names.member (known classes) 0 classes in
    let a0 : List Finding = class_names (map (λ class. class.name) (map class_at_0 classes)) in
    let b0 : List Finding = flat_map declarations (map class_at_0 classes) in
    let d0 : List Finding = in_classes names.member (known (map class_at_0 classes)) 0 (map class_at_0 classes) in
    both (a ++ b) d (a0 ++ b0) d0
    (both a b a0 b0 (class_names_zero (map (λ class. class.name) classes) ∙ ap class_names (titles_of classes)) (many finding_at_0 declarations class_at_0 classes declarations_zero))
    (script_zero finding_at_0 names.member member_zero classes)

-- faults, sites, assignments and bindings among what is found
faults_of_zero : (all : List Finding) → map name_fault_at_0 (flat_map fault_of all) ≡ flat_map fault_of (zeroed all)
faults_of_zero [] = refl
faults_of_zero (finding.Fault x ∷ all) = ap (λ (l : List NameFault). name_fault_at_0 x ∷ l) (faults_of_zero all)
faults_of_zero (_ ∷ all) = faults_of_zero all

sites_of_zero : (all : List Finding) → map nought (flat_map site_of all) ≡ flat_map site_of (zeroed all)
sites_of_zero [] = refl
sites_of_zero (finding.Site at ∷ all) = ap (λ (l : List ℕ). 0 ∷ l) (sites_of_zero all)
sites_of_zero (_ ∷ all) = sites_of_zero all

assignments_of_zero : (all : List Finding) → map nought (flat_map assignment_of all) ≡ flat_map assignment_of (zeroed all)
assignments_of_zero [] = refl
assignments_of_zero (finding.Assignment at ∷ all) = ap (λ (l : List ℕ). 0 ∷ l) (assignments_of_zero all)
assignments_of_zero (_ ∷ all) = assignments_of_zero all

abbrev target_in : Binding → Target
target_in b = b.target

targets_of_zero : (all : List Finding) → map target_in (flat_map binding_of all) ≡ map target_in (flat_map binding_of (zeroed all))
targets_of_zero [] = refl
targets_of_zero (finding.Names b ∷ all) = ap (λ (l : List Target). b.target ∷ l) (targets_of_zero all)
targets_of_zero (_ ∷ all) = targets_of_zero all

past_zero : (w : Which) (o : Option ℕ) → map name_fault_at_0 (too_many w o) ≡ too_many w (option_map nought o)
past_zero w None = refl
past_zero w (Some at) = refl

past_limit_zero : (w : Which) (l l0 : List ℕ) → map nought l ≡ l0 → map name_fault_at_0 (too_many w (slice_get l 4096)) ≡ too_many w (slice_get l0 4096)
past_limit_zero w l l0 same =
    past_zero w (slice_get l 4096) ∙ ap (too_many w) (sym (slice_get-map nought l 4096) ∙ ap (λ (l : List ℕ). slice_get l 4096) same)

among_zero : (all : List Finding) → map name_fault_at_0 (faults_among all) ≡ faults_among (zeroed all)
among_zero all =
    let a : List NameFault = flat_map fault_of all in
    let b : List NameFault = too_many which.Sites (slice_get (flat_map site_of all) 4096) in
    let d : List NameFault = too_many which.Assignments (slice_get (flat_map assignment_of all) 4096) in
    let b0 : List NameFault = too_many which.Sites (slice_get (flat_map site_of (zeroed all)) 4096) in
    map-append name_fault_at_0 (a ++ b) d
    ∙ (ap (λ (l : List NameFault). l ++ map name_fault_at_0 d) (map-append name_fault_at_0 a b)
    ∙ (ap (λ (l : List NameFault). l ++ map name_fault_at_0 b ++ map name_fault_at_0 d) (faults_of_zero all)
    ∙ (ap (λ (l : List NameFault). flat_map fault_of (zeroed all) ++ l ++ map name_fault_at_0 d) (past_limit_zero which.Sites (flat_map site_of all) (flat_map site_of (zeroed all)) (sites_of_zero all))
    ∙ ap (λ (l : List NameFault). flat_map fault_of (zeroed all) ++ b0 ++ l)
    (past_limit_zero which.Assignments (flat_map assignment_of all) (flat_map assignment_of (zeroed all)) (assignments_of_zero all)))))

-- the faults of a script at place 0, and what its names stand for
pub faults_unplaced : (tree : Tree) → map name_fault_at_0 (faults tree) ≡ faults (tree_at_0 tree)
faults_unplaced tree = among_zero (found tree) ∙ ap faults_among (found_zero tree)

pub targets_unplaced : (tree : Tree) → targets_in tree ≡ targets_in (tree_at_0 tree)
targets_unplaced tree = targets_of_zero (found tree) ∙ ap (λ (all : List Finding). map target_in (flat_map binding_of all)) (found_zero tree)
