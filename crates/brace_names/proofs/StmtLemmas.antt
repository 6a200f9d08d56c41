-- The scope behind the statements of a block, statements that declare the same, and classes in turn.
use Rattle.std.proofs.Common.{◌≡◌, refl, sym, ap, subst, ◌∙◌, ℕ, ◌+◌, List, [], ◌∷◌, ◌++◌, take, drop, get_or, length, map, flat_map, ◌<◌, ◌≤◌, append_assoc, arith, inl, inr}
use Rattle.std.specs.Prelude.{Option, Some, None}
use Rattle.std.proofs.lemmas.Bool.{cases_Bool}
use Rattle.std.proofs.lemmas.List.{append-nil, drop_more}
use Rattle.std.proofs.lemmas.List.Sums.{sum_by-cons}
use Rattle.std.proofs.Math.Seq.{take-append_seam}
use Rattle.std.proofs.Math.ListN.{drop_of_length-le}
use Rattle.brace_syntax.specs.declared.tree.Ident.{Ident}
use Rattle.brace_syntax.specs.declared.tree.MemberTree.{MemberTree}
use Rattle.brace_syntax.specs.declared.tree.ClassTree.{ClassTree}
use Rattle.brace_model.specs.declared.program.Ty.{Ty}
use Rattle.brace_names.specs.declared.scope.Local.{Local}
use Rattle.brace_names.specs.declared.scope.Local.TheVariants as local
use Rattle.brace_names.specs.Tables.{has, with_name}
use Rattle.brace_names.specs.Classes.{Known}
use Rattle.brace_names.specs.Scopes.{Home, home_of, Scope, past}
use Rattle.brace_names.specs.Walk.{Part, behind, declared_in, constants_in, in_classes}

module _ {A : Type 0} where
  -- the scope behind all of these statements
  abbrev pub behind_all : List (Part A) → Scope → Scope
  behind_all [] scope = scope
  behind_all (part ∷ parts) scope = behind_all parts (behind part scope)

record Added {A : Type 0} (table after : List (List ℕ × A)) : Type 0 where
  pub more : List (List ℕ × A)
  pub is : after ≡ table ++ more

module _ {A : Type 0} where
  added : (table : List (List ℕ × A)) (name : List ℕ) (x : A) → Added table (with_name table name x)
  added table name x = elim (cases_Bool (has table name)) [
    | inl there ↦ rw there (record { more = []; is = sym (append-nil table) })
    | inr new ↦ rw new (record { more = (name, x) ∷ []; is = refl })
  ]

-- the scope is the first one with more names and so many more constants
record Grown (scope after : Scope) (count : ℕ) : Type 0 where
  pub more : List (List ℕ × Local)
  pub is : after ≡ record scope { locals = scope.locals ++ more; constants = scope.constants + count }

none_more : (scope : Scope) (l : List (List ℕ × Local)) → record scope { locals = l } ≡ record scope { locals = l; constants = scope.constants + 0 }
none_more scope l = ap (λ (n : ℕ). record scope { locals = l; constants = n }) (omega arith)

same : (scope : Scope) → Grown scope scope 0
same scope = record { more = []; is = ap (λ (l : List (List ℕ × Local)). record scope { locals = l }) (sym (append-nil scope.locals)) ∙ none_more scope (scope.locals ++ []) }

declared_grows : (one : Option (Ident × Ty)) (scope : Scope) → Grown scope (declared_in one scope) 0
declared_grows None scope = same scope
declared_grows (Some (name, t)) scope =
    let a : Added scope.locals (with_name scope.locals name.text (local.Constant scope.constants t)) = added scope.locals name.text (local.Constant scope.constants t) in
    record { more = a.more; is = ap (λ (l : List (List ℕ × Local)). record scope { locals = l }) a.is ∙ none_more scope (scope.locals ++ a.more) }

module _ {A : Type 0} where
  pub constants-cons : (part : Part A) (parts : List (Part A)) → constants_in (part ∷ parts) ≡ part.constants + constants_in parts
  constants-cons part parts = sum_by-cons (λ (p : Part A). p.constants) part parts

  grows : (parts : List (Part A)) (scope : Scope) → Grown scope (behind_all parts scope) (constants_in parts)
  grows [] scope = same scope
  grows (part ∷ parts) scope =
      let first : Grown scope (declared_in part.declared scope) 0 = declared_grows part.declared scope in
      let rest : Grown (behind part scope) (behind_all parts (behind part scope)) (constants_in parts) = grows parts (behind part scope) in
      record {
        more = first.more ++ rest.more;
        is =
            rest.is
            ∙ (ap (λ (s : Scope). record s { locals = s.locals ++ rest.more; constants = (s.constants + part.constants) + constants_in parts }) first.is
            ∙ (ap (λ (l : List (List ℕ × Local)). record scope { locals = l; constants = ((scope.constants + 0) + part.constants) + constants_in parts }) (append_assoc scope.locals first.more rest.more)
            ∙ ap (λ (n : ℕ). record scope { locals = scope.locals ++ (first.more ++ rest.more); constants = n }) (omega (arith, constants-cons part parts))));
      }

  -- what a block leaves of the scope, once its own names are forgotten
  pub left_behind : (parts : List (Part A)) (scope after : Scope) → after ≡ behind_all parts scope
      → record after { loops = scope.loops; locals = take (length scope.locals) after.locals } ≡ past (constants_in parts) scope
  left_behind parts scope after e =
      let g : Grown scope (behind_all parts scope) (constants_in parts) = grows parts scope in
      ap (λ (s : Scope). record s { loops = scope.loops; locals = take (length scope.locals) s.locals }) (e ∙ g.is)
      ∙ ap (λ (l : List (List ℕ × Local)). record scope { locals = l; constants = scope.constants + constants_in parts }) (take-append_seam scope.locals g.more)

  -- what a loop over the statements of a block leaves of the scope, once it has come to their end
  pub left_by_loop : {T : Type 0} (part : T → Part A) (statements items : List T) (i : ℕ) (scope now : Scope)
      → items ≡ statements → length items ≤ i → behind_all (map part (drop i statements)) now ≡ behind_all (map part statements) scope
      → record now { loops = scope.loops; locals = take (length scope.locals) now.locals } ≡ past (constants_in (map part statements)) scope
  left_by_loop {T = T} part statements items i scope now same over so_far =
      let end : length statements ≤ i = subst (λ (l : List T). length l ≤ i) same over in
      left_behind (map part statements) scope now
      (ap (λ (l : List T). behind_all (map part l) now) (sym (drop_of_length-le statements end)) ∙ so_far)

-- two parts declare the same
pub record Same {A B : Type 0} (p : Part A) (q : Part B) : Type 0 where
  pub declared : p.declared ≡ q.declared
  pub constants : p.constants ≡ q.constants

-- so the scope behind them is one
pub behind_same : {A B : Type 0} (p : Part A) (q : Part B) (scope : Scope) → Same p q → behind p scope ≡ behind q scope
behind_same p q scope h =
    ap (λ (d : Option (Ident × Ty)). past p.constants (declared_in d scope)) h.declared
    ∙ ap (λ (k : ℕ). past k (declared_in q.declared scope)) h.constants

-- what is found in one class more
module _ {A : Type 0} (member : Home → MemberTree → List A) (all : Known) (classes : List ClassTree) where
  pub class_more : (i number next : ℕ) (one : ClassTree) (out after : List A)
      → i < length classes → one ≡ get_or classes i one → next ≡ number + 1
      → after ≡ out ++ flat_map (member (home_of all number one)) one.members
      → after ++ in_classes member all next (drop (i + 1) classes)
      ≡ out ++ in_classes member all number (drop i classes)
  class_more i number next one out after within is e found =
      let mine : List A = flat_map (member (home_of all number one)) one.members in
      let rest : List ClassTree = drop (i + 1) classes in
      let cut : one ∷ rest ≡ drop i classes = ap (λ (c : ClassTree). c ∷ rest) is ∙ sym (drop_more classes i one within) in
      ap (λ (l : List A). l ++ in_classes member all next rest) found
      ∙ (ap (λ (k : ℕ). (out ++ mine) ++ in_classes member all k rest) e
      ∙ (append_assoc out mine (in_classes member all (number + 1) rest)
      ∙ ap (λ (l : List ClassTree). out ++ in_classes member all number l) cut))
