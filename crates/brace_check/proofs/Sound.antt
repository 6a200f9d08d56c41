-- Where the checks accept a script, its expressions have the types that they give, what is said fits its effects, and its statements are well formed in the program.
use Rattle.std.proofs.Common.{◌≡◌, refl, sym, ap, subst, ◌∙◌, ℕ, ◌+◌, Bool, true, false, List, [], ◌∷◌, ◌++◌, length, inl, inr, ◌<◌, nat_lt, map}
use Rattle.std.specs.Prelude.{not, ◌&&◌, ◌||◌, ◌==◌, Option, Some, None, option_map, option_and_then, Result, Ok, if◌then◌else◌, Err, nat_le, is_some, unwrap_or}
use Rattle.std.proofs.lemmas.Bool.{true≢false, cases_Bool, not-false, and_from, lt-ltb, leb-false}
use Rattle.brace_num.proofs.Lists.{none_front}
use Rattle.brace_syntax.specs.declared.tree.Digits.{Digits}
use Rattle.brace_syntax.specs.declared.tree.Digits.TheVariants as d
use Rattle.brace_syntax.specs.declared.tree.ExprTree.{ExprTree}
use Rattle.brace_syntax.specs.declared.tree.ExprTree.TheVariants as e
use Rattle.brace_names.specs.declared.declared.Field.{Field}
use Rattle.brace_names.specs.declared.declared.Field.TheVariants as field
use Rattle.brace_names.specs.declared.scope.Named.{Named}
use Rattle.brace_names.specs.declared.scope.Named.TheVariants as named
use Rattle.brace_names.specs.declared.scope.LoopField.{LoopField}
use Rattle.brace_names.specs.Kinds.{unary_named, binary_named, type_named}
use Rattle.brace_names.specs.Scopes.{Scope, read, read_own, of_loop, class_number, inside, past}
use Rattle.brace_names.proofs.Folds.{Expressions, of_expression, ProvedStmt, stmts_of, Statements, proved, stmts-proved, of-Lit, of-True, of-False, of-Name, of-OfThis, of-OfLoop, of-Unary, of-Binary, of-Choice, of-Rand, of-Const, of-when, of-either, of-Foreach, of-Assign, of-AssignThis, of-AssignLoop}
use Rattle.brace_model.specs.declared.program.Ty.{Ty}
use Rattle.brace_model.specs.declared.program.Ty.TheVariants as ty
use Rattle.brace_model.specs.declared.program.Value.TheVariants as val
use Rattle.brace_model.specs.declared.program.Who.{Who}
use Rattle.brace_model.specs.declared.program.Who.TheVariants.{This}
use Rattle.brace_model.specs.declared.program.UnOp.{UnOp}
use Rattle.brace_model.specs.declared.program.BinOp.{BinOp}
use Rattle.brace_model.specs.declared.program.Comb.{Comb}
use Rattle.brace_model.specs.declared.program.Expr.{Expr}
use Rattle.brace_model.specs.declared.program.Expr.TheVariants as expr
use Rattle.brace_model.specs.declared.program.Effect.{Effect}
use Rattle.brace_model.specs.Typing.{Names, same_type, only, type_of_value, class_named, may_name, state_type, effect_named, is_sited, is_sum, unary_faults, binary_faults, unary_type, binary_type, choice_type, type_of as type_in, takes, scope_after, is_of_type, within_loop, in_turn}
use Rattle.brace_model.proofs.LawEquations as model
use Rattle.brace_model.proofs.TypeLemmas.{one_type}
use Rattle.brace_check.specs.declared.fault.CheckFault.{CheckFault}
use Rattle.brace_check.specs.declared.fault.CheckFault.TheVariants.{OtherAgentInUpdate, ReadsEffectInQuery, PrivateOfOtherClass, WrongType, NestedTooDeep}
use Rattle.brace_check.specs.Types.{digits_type, field_type, is_shared, named_type, typed_at, with_type, type_step, type_of, place}
use Rattle.brace_check.specs.Findings.{reads, crosses, reads_of_loop, said_type, misfits, nests, loops_over}
use Rattle.brace_check.specs.Found.{expression as found_in, expression_step as found_step, valued, says, says_to_loop, sought}
use Rattle.brace_check.specs.Meanings.{Meaning, literal, number_of, named_as, loop_agent, agent_of, loop_number, expression, expression_step, block, part, part_step}
use Rattle.brace_check.proofs.Ties.{EffectHeading, FieldIs, declared, same-self, sited, TypeOk, type_ok, typed_ok, not_if, own_may, EffectIs, state_typed, effect_is, Tied, NamedIs, LoopIs, own_is, read_is, of_loop_is, TargetIs, found_among, tied_past, tied_declared, tied_inside, Entered, entered, target_is, same_part, same_blocks}
use Rattle.brace_model.specs.declared.program.Comb.TheVariants as comb
use Rattle.brace_model.specs.declared.program.Stmt.TheVariants as stmt
use Rattle.brace_model.proofs.LawEquations.{scope_after-Assign, scope_after-Const, scope_after-If, scope_after-Foreach}
use Rattle.std.specs.Str.{bytes_eq}
use Rattle.brace_syntax.specs.declared.tree.Ident.{Ident}
use Rattle.brace_syntax.specs.declared.tree.TyName.{TyName}
use Rattle.brace_syntax.specs.declared.tree.StmtTree.{StmtTree}
use Rattle.brace_syntax.specs.declared.tree.StmtTree.TheVariants as s
use Rattle.brace_syntax.specs.declared.tree.StmtTree.TheOpen as layer
use Rattle.brace_names.specs.Tables.{look}
use Rattle.brace_names.specs.Walk.{Part, behind, constants_in, part_step as walk_step}
use Rattle.brace_names.specs.Walk as walk
use Rattle.brace_names.proofs.StmtLemmas.{behind_same}
use Rattle.brace_model.specs.declared.program.Stmt.{Stmt}
use Rattle.brace_check.specs.Found as checks

module _ {A : Type 0} where
  pub nil_back : (xs ys : List A) → xs ++ ys ≡ [] → ys ≡ []
  nil_back [] ys h = h
  nil_back (x ∷ xs) ys h = absurd (cc)

-- literals
literal_typed : (number : Digits) → type_of_value (literal number) ≡ digits_type number
literal_typed (d.Int z) = refl
literal_typed (d.Fixed z) = refl

abbrev okay : Ty → Result Ty ℕ
okay t = Ok t

same_ok : (t u : Ty) → okay t ≡ okay u → Some t ≡ Some u
same_ok t u h = let same : t ≡ u = cc in ap (λ (v : Ty). Some v) same

abbrev summed : Scope → Comb → Bool
summed n c = not n.in_query && is_sum c

module _ (n : Scope) (m : Names) (tied : Tied n m) where
  -- a total in a rule
  total_typed : (i k : ℕ) (t : Ty) (shared : Bool) (c : Comb) → n.in_query ≡ false → FieldIs (declared m) m.own (field.Effect i t shared c)
      → type_in (expr.Total i t (only (summed n c) k)) m ≡ Some t
  total_typed i k t shared c outside is =
      let h : EffectHeading = record { ty = t; shared = shared; comb = c } in
      let found : EffectIs h (effect_named m This i) = effect_is m This m.own i t shared refl (own_may m shared) c is in
      let rule : m.in_rule ≡ true = tied.in_rule ∙ ap not outside in
      ap (λ (b : Bool). type_in (expr.Total i t (only (not b && is_sum c) k)) m) outside
      ∙ (model.type_of-Total i t (only (is_sum c) k) m
      ∙ (ap (λ (b : Bool). if b then option_and_then (λ e. only (same_type e.ty t && is_sited (is_sum e.comb) (only (is_sum c) k)) t) (effect_named m This i) else None) rule
      ∙ (ap (λ (o : Option Effect). option_and_then (λ e. only (same_type e.ty t && is_sited (is_sum e.comb) (only (is_sum c) k)) t) o) found.named
      ∙ (ap (λ (g : EffectHeading). only (same_type g.ty t && is_sited (is_sum g.comb) (only (is_sum c) k)) t) found.is
      ∙ (ap (λ (b : Bool). only (b && is_sited (is_sum c) (only (is_sum c) k)) t) (same-self t)
      ∙ ap (λ (b : Bool). only b t) (sited (is_sum c) k))))))

  -- `n` and `this.n`
  named_sound : (at : ℕ) (o : Option Named) → NamedIs m o → reads n at o ≡ [] → (t : Ty) → typed_at at (option_map named_type o) ≡ Ok t → (k : List ℕ)
      → type_in (named_as n at o k).0 m ≡ Some t
  named_sound at None is clean t h k = absurd (cc)
  named_sound at (Some (named.Constant i u)) is clean t h k = model.type_of-Local i m ∙ (is ∙ same_ok u t h)
  named_sound at (Some (named.Field (field.State i u shared))) is clean t h k =
      model.type_of-Field This i m ∙ (state_typed m This m.own i u shared refl (own_may m shared) is ∙ same_ok u t h)
  named_sound at (Some (named.Field (field.Effect i u shared c))) is clean t h k =
      total_typed i (length k) u shared c (not_if n.in_query (ReadsEffectInQuery at) clean) is ∙ same_ok u t h

  -- what may be named of the agent of a loop
  pub may_cross : (at : ℕ) (x : LoopField) → crosses n at (Some x) ≡ [] → may_name m x.class (is_shared x.field) ≡ true
  may_cross at x h =
      ap (λ (own : ℕ). is_shared x.field || (x.class == own)) tied.number
      ∙ not-false (is_shared x.field || (x.class == n.home.number)) (not_if (not (is_shared x.field || (x.class == n.home.number))) (PrivateOfOtherClass at) h)

  -- `q.n` in a query
  in_field : (at : ℕ) (x : LoopField) (f : Field) → x.field ≡ f → LoopIs m (Some x) → n.in_query ≡ true → reads n at (Some (named.Field x.field)) ≡ [] → crosses n at (Some x) ≡ []
      → (t : Ty) → okay (field_type x.field) ≡ okay t → state_type m (loop_agent x.loops) (number_of (Some x.field)) ≡ Some t
  in_field at x (field.Effect i u shared c) e is query clean apart t h =
      let read_it : reads n at (Some (named.Field (field.Effect i u shared c))) ≡ [] = subst (λ (f : Field). reads n at (Some (named.Field f)) ≡ []) e clean in
      absurd (true≢false (sym query ∙ not_if n.in_query (ReadsEffectInQuery at) read_it))
  in_field at x (field.State i u shared) e is query clean apart t h =
      let may : may_name m x.class shared ≡ true = subst (λ (f : Field). may_name m x.class (is_shared f) ≡ true) e (may_cross at x apart) in
      ap (λ (f : Field). state_type m (loop_agent x.loops) (number_of (Some f))) e
      ∙ (state_typed m (loop_agent x.loops) x.class i u shared is.0 may (subst (FieldIs (declared m) x.class) e is.1)
      ∙ same_ok u t (subst (λ (f : Field). okay (field_type f) ≡ okay t) e h))

  loop_sound : (at : ℕ) (o : Option LoopField) → LoopIs m o → n.in_query ≡ true → reads n at (option_map (λ x. named.Field x.field) o) ≡ [] → crosses n at o ≡ []
      → (t : Ty) → typed_at at (option_map (λ x. field_type x.field) o) ≡ Ok t → state_type m (agent_of o) (loop_number o) ≡ Some t
  loop_sound at None is query clean apart t h = absurd (cc)
  loop_sound at (Some x) is query clean apart t h = in_field at x x.field refl is query clean apart t h

  of_loop_sound : (at : ℕ) (o : Option LoopField) → LoopIs m o → reads_of_loop n at o ≡ [] → (t : Ty) → typed_at at (option_map (λ x. field_type x.field) o) ≡ Ok t
      → type_in (expr.Field (agent_of o) (loop_number o)) m ≡ Some t
  of_loop_sound at o is f t h =
      let front : List CheckFault = reads n at (option_map (λ x. named.Field x.field) o) in
      let back : List CheckFault = crosses n at o in
      elim (cases_Bool n.in_query) [
        | inl query ↦
            let clean : front ++ back ≡ [] = sym (ap (λ (b : Bool). if b then front ++ back else OtherAgentInUpdate at ∷ []) query) ∙ f in
            model.type_of-Field (agent_of o) (loop_number o) m ∙ loop_sound at o is query (none_front front back clean) (nil_back front back clean) t h
        | inr rule ↦
            let never : OtherAgentInUpdate at ∷ [] ≡ [] = sym (ap (λ (b : Bool). if b then front ++ back else OtherAgentInUpdate at ∷ []) rule) ∙ f in
            absurd (cc)
      ]

-- operations
unary_sound : (op : UnOp) (k : ℕ) (x : Expr) (m : Names) (u t : Ty) → type_in x m ≡ Some u → unary_type op u ≡ Some t
    → type_in (expr.Unary op (only (unary_faults op) k) x) m ≡ Some t
unary_sound op k x m u t hx h =
    model.type_of-Unary op (only (unary_faults op) k) x m
    ∙ (ap (λ (b : Bool). if b then option_and_then (unary_type op) (type_in x m) else None) (sited (unary_faults op) k)
    ∙ (ap (option_and_then (unary_type op)) hx ∙ h))

binary_sound : (op : BinOp) (k : ℕ) (x y : Expr) (m : Names) (u v t : Ty) → type_in x m ≡ Some u → type_in y m ≡ Some v → binary_type op u v ≡ Some t
    → type_in (expr.Binary op (only (binary_faults op) k) x y) m ≡ Some t
binary_sound op k x y m u v t hx hy h =
    model.type_of-Binary op (only (binary_faults op) k) x y m
    ∙ (ap (λ (b : Bool). if b then option_and_then (λ s. option_and_then (binary_type op s) (type_in y m)) (type_in x m) else None) (sited (binary_faults op) k)
    ∙ (ap (λ (o : Option Ty). option_and_then (λ s. option_and_then (binary_type op s) (type_in y m)) o) hx
    ∙ (ap (option_and_then (binary_type op u)) hy ∙ h)))

choice_sound : (c x y : Expr) (m : Names) (b u v t : Ty) → type_in c m ≡ Some b → type_in x m ≡ Some u → type_in y m ≡ Some v → choice_type b u v ≡ Some t
    → type_in (expr.Choice c x y) m ≡ Some t
choice_sound c x y m b u v t hc hx hy h =
    model.type_of-Choice c x y m
    ∙ (ap (λ (o : Option Ty). option_and_then (λ p. option_and_then (λ s. option_and_then (choice_type p s) (type_in y m)) (type_in x m)) o) hc
    ∙ (ap (λ (o : Option Ty). option_and_then (λ s. option_and_then (choice_type b s) (type_in y m)) o) hx
    ∙ (ap (option_and_then (choice_type b u)) hy ∙ h)))

-- what is found, the type and the meaning agree at a scope
abbrev SoundAt : (Scope → List CheckFault) → (Scope → Result Ty ℕ) → (Scope → Meaning Expr) → Type 0
SoundAt f r s = (n : Scope) (m : Names) → Tied n m → f n ≡ [] → (t : Ty) → r n ≡ Ok t → (k : List ℕ) → type_in (s n k).0 m ≡ Some t

abbrev pub Sound : ExprTree → Type 0
Sound x = SoundAt (found_in x) (type_of x) (expression x)

kind : (x : ExprTree) (f : Scope → List CheckFault) (r : Scope → Result Ty ℕ) (s : Scope → Meaning Expr) → found_in x ≡ f → type_of x ≡ r → expression x ≡ s → SoundAt f r s → Sound x
kind x f r s ef er es h n m tied clean t typed k =
    ap (λ (g : Scope → Meaning Expr). type_in (g n k).0 m) es
    ∙ h n m tied (ap (λ (g : Scope → List CheckFault). g n) (sym ef) ∙ clean) t (ap (λ (g : Scope → Result Ty ℕ). g n) (sym er) ∙ typed) k

values_sound : Expressions Sound
values_sound = record {
  lit = λ number. kind (e.Lit number) _ _ _ (of-Lit found_step number) (of-Lit type_step number) (of-Lit expression_step number)
      (λ n m tied f t h k. model.type_of-Lit (literal number.digits) m ∙ (ap (λ (u : Ty). Some u) (literal_typed number.digits) ∙ same_ok (digits_type number.digits) t h));
  true_ = λ at. kind (e.True at) _ _ _ (of-True found_step at) (of-True type_step at) (of-True expression_step at)
      (λ n m tied f t h k. model.type_of-Lit (val.Flag true) m ∙ same_ok ty.Bool t h);
  false_ = λ at. kind (e.False at) _ _ _ (of-False found_step at) (of-False type_step at) (of-False expression_step at)
      (λ n m tied f t h k. model.type_of-Lit (val.Flag false) m ∙ same_ok ty.Bool t h);
  name = λ name. kind (e.Name name) _ _ _ (of-Name found_step name) (of-Name type_step name) (of-Name expression_step name)
      (λ n m tied f t h k. named_sound n m tied name.at (read n name.text) (read_is n m tied name.text) f t h k);
  of_this = λ name at. kind (e.OfThis name at) _ _ _ (of-OfThis found_step name at) (of-OfThis type_step name at) (of-OfThis expression_step name at)
      (λ n m tied f t h k. named_sound n m tied at (read_own n name.text) (own_is n m tied name.text) f t h k);
  of_loop = λ variable name. kind (e.OfLoop variable name) _ _ _ (of-OfLoop found_step variable name) (of-OfLoop type_step variable name) (of-OfLoop expression_step variable name)
      (λ n m tied f t h k. of_loop_sound n m tied variable.at (of_loop n variable.text name.text) (of_loop_is n m tied variable.text name.text) f t h);
  unary = λ op x at hx. kind (e.Unary op x at) _ _ _ (of-Unary found_step op x at) (of-Unary type_step op x at) (of-Unary expression_step op x at)
      (λ n m tied f t h k.
      let o : TypeOk (λ u. typed_at at (unary_type (unary_named op) u)) (type_of x n) t = type_ok (λ u. typed_at at (unary_type (unary_named op) u)) (type_of x n) t h in
      unary_sound (unary_named op) (length (expression x n k).1) (expression x n k).0 m o.operand t
      (hx n m tied f o.operand o.is k) (typed_ok at (unary_type (unary_named op) o.operand) t o.gives));
  binary = λ op x y at hx hy. kind (e.Binary op x y at) _ _ _ (of-Binary found_step op x y at) (of-Binary type_step op x y at) (of-Binary expression_step op x y at)
      (λ n m tied f t h k.
      let j : List ℕ = (expression x n k).1 in
      let o : TypeOk (λ u. with_type (λ v. typed_at at (binary_type (binary_named op) u v)) (type_of y n)) (type_of x n) t =
      type_ok (λ u. with_type (λ v. typed_at at (binary_type (binary_named op) u v)) (type_of y n)) (type_of x n) t h in
      let p : TypeOk (λ v. typed_at at (binary_type (binary_named op) o.operand v)) (type_of y n) t =
      type_ok (λ v. typed_at at (binary_type (binary_named op) o.operand v)) (type_of y n) t o.gives in
      binary_sound (binary_named op) (length (expression y n j).1) (expression x n k).0 (expression y n j).0 m o.operand p.operand t
      (hx n m tied (none_front (found_in x n) (found_in y n) f) o.operand o.is k) (hy n m tied (nil_back (found_in x n) (found_in y n) f) p.operand p.is j)
      (typed_ok at (binary_type (binary_named op) o.operand p.operand) t p.gives));
  choice = λ c x y at hc hx hy. kind (e.Choice c x y at) _ _ _ (of-Choice found_step c x y at) (of-Choice type_step c x y at) (of-Choice expression_step c x y at)
      (λ n m tied f t h k.
      let j : List ℕ = (expression c n k).1 in
      let i : List ℕ = (expression x n j).1 in
      let o : TypeOk (λ b. with_type (λ u. with_type (λ v. typed_at at (choice_type b u v)) (type_of y n)) (type_of x n)) (type_of c n) t =
      type_ok (λ b. with_type (λ u. with_type (λ v. typed_at at (choice_type b u v)) (type_of y n)) (type_of x n)) (type_of c n) t h in
      let p : TypeOk (λ u. with_type (λ v. typed_at at (choice_type o.operand u v)) (type_of y n)) (type_of x n) t =
      type_ok (λ u. with_type (λ v. typed_at at (choice_type o.operand u v)) (type_of y n)) (type_of x n) t o.gives in
      let q : TypeOk (λ v. typed_at at (choice_type o.operand p.operand v)) (type_of y n) t =
      type_ok (λ v. typed_at at (choice_type o.operand p.operand v)) (type_of y n) t p.gives in
      let front : found_in c n ++ found_in x n ≡ [] = none_front (found_in c n ++ found_in x n) (found_in y n) f in
      choice_sound (expression c n k).0 (expression x n j).0 (expression y n i).0 m o.operand p.operand q.operand t
      (hc n m tied (none_front (found_in c n) (found_in x n) front) o.operand o.is k) (hx n m tied (nil_back (found_in c n) (found_in x n) front) p.operand p.is j)
      (hy n m tied (nil_back (found_in c n ++ found_in x n) (found_in y n) f) q.operand q.is i) (typed_ok at (choice_type o.operand p.operand q.operand) t q.gives));
  rand = λ at. kind (e.Rand at) _ _ _ (of-Rand found_step at) (of-Rand type_step at) (of-Rand expression_step at)
      (λ n m tied f t h k. model.type_of-Rand (length k) m ∙ same_ok ty.Fixed t h);
}

-- where an expression of a script has a type, what it means has that type in its program
pub sound : (x : ExprTree) → Sound x
sound = of_expression Sound values_sound

-- what fits is of the type that is asked for
fits : (want : Ty) (at : ℕ) (r : Result Ty ℕ) → misfits (Some want) at r ≡ [] → r ≡ Ok want
fits want at (Err place) h = absurd (cc)
fits want at (Ok t) h =
    let same : want ≡ t = one_type want t (not-false (same_type want t) (not_if (not (same_type want t)) (WrongType at) h)) in
    ap (λ (u : Ty). Ok u) (sym same)

abbrev effect_with : List ℕ → Ty → Bool → Comb → Effect
effect_with name t shared joins = record { name = name; ty = t; shared = shared; comb = joins }

-- a value that fits an effect is taken by it
module _ (name : List ℕ) (t : Ty) (shared : Bool) (at : ℕ) (r : Result Ty ℕ) (o : Option Ty) (gives : (u : Ty) → r ≡ Ok u → o ≡ Some u) where
  takes_one : misfits (Some t) at r ≡ [] → o ≡ Some t
  takes_one h = gives t (fits t at r h)

  takes_any : (q : Result Ty ℕ) → r ≡ q → misfits None at r ≡ [] → takes (Some (effect_with name t shared comb.Count)) o ≡ true
  takes_any (Err place) is h = let never : misfits None at (Err place) ≡ [] = subst (λ (q : Result Ty ℕ). misfits None at q ≡ []) is h in absurd (cc)
  takes_any (Ok u) is h = ap (takes (Some (effect_with name t shared comb.Count))) (gives u is)

  takes_ok : (joins : Comb) → misfits (said_type joins t) at r ≡ [] → takes (Some (effect_with name t shared joins)) o ≡ true
  takes_ok comb.Count h = takes_any r refl h
  takes_ok comb.Sum h = ap (takes (Some (effect_with name t shared comb.Sum))) (takes_one h) ∙ same-self t
  takes_ok comb.Min h = ap (takes (Some (effect_with name t shared comb.Min))) (takes_one h) ∙ same-self t
  takes_ok comb.Max h = ap (takes (Some (effect_with name t shared comb.Max))) (takes_one h) ∙ same-self t
  takes_ok comb.Or h = ap (takes (Some (effect_with name t shared comb.Or))) (takes_one h) ∙ same-self t

module _ (n : Scope) (m : Names) (tied : Tied n m) (x : ExprTree) (k : List ℕ) where
  -- a value in which nothing is found
  pub has_type : (want : Ty) → valued (Some want) x n ≡ [] → type_in (expression x n k).0 m ≡ Some want
  has_type want h =
      sound x n m tied (none_front (found_in x n) (misfits (Some want) (place x) (type_of x n)) h) want
      (fits want (place x) (type_of x n) (nil_back (found_in x n) (misfits (Some want) (place x) (type_of x n)) h)) k

  -- a value is said to an effect of the class of an agent
  said : (who : Who) (class i : ℕ) (t : Ty) (shared : Bool) (c : Comb) (at : ℕ) → class_named m who ≡ Some class → may_name m class shared ≡ true
      → FieldIs (declared m) class (field.Effect i t shared c) → valued (said_type c t) x n ≡ [] → scope_after (stmt.Assign who i (expression x n k).0 at) m ≡ Some m
  said who class i t shared c at named may is clean =
      let h : EffectHeading = record { ty = t; shared = shared; comb = c } in
      let e : EffectIs h (effect_named m who i) = effect_is m who class i t shared named may c is in
      let found : Result Ty ℕ = type_of x n in
      let none : found_in x n ≡ [] = none_front (found_in x n) (misfits (said_type c t) (place x) found) clean in
      let fit : misfits (said_type e.effect.comb e.effect.ty) (place x) found ≡ [] =
      subst (λ (g : EffectHeading). misfits (said_type g.comb g.ty) (place x) found ≡ []) (sym e.is) (nil_back (found_in x n) (misfits (said_type c t) (place x) found) clean) in
      scope_after-Assign who i (expression x n k).0 at m
      ∙ ap (λ (b : Bool). only b m)
      (ap (λ (o : Option Effect). takes o (type_in (expression x n k).0 m)) e.named
      ∙ takes_ok e.effect.name e.effect.ty e.effect.shared (place x) found (type_in (expression x n k).0 m)
      (λ u is. sound x n m tied none u is k) e.effect.comb fit)

  -- `n <- x` and `this.n <- x`
  pub said_to_this : (at : ℕ) (o : Option Field) → TargetIs m o → says at o x n ≡ [] → scope_after (stmt.Assign This (number_of o) (expression x n k).0 at) m ≡ Some m
  said_to_this at (Some (field.Effect i t shared c)) is clean = said This m.own i t shared c at refl (own_may m shared) is clean
  said_to_this at _ is clean = absurd (cc)

  -- `q.n <- x`
  to_field : (at : ℕ) (y : LoopField) (f : Field) → y.field ≡ f → LoopIs m (Some y) → crosses n at (Some y) ≡ [] → says at (Some y.field) x n ≡ []
      → scope_after (stmt.Assign (loop_agent y.loops) (number_of (Some y.field)) (expression x n k).0 at) m ≡ Some m
  to_field at y (field.State i t shared) e is apart clean =
      let never : says at (Some (field.State i t shared)) x n ≡ [] = subst (λ (f : Field). says at (Some f) x n ≡ []) e clean in
      absurd (cc)
  to_field at y (field.Effect i t shared c) e is apart clean =
      ap (λ (f : Field). scope_after (stmt.Assign (loop_agent y.loops) (number_of (Some f)) (expression x n k).0 at) m) e
      ∙ said (loop_agent y.loops) y.class i t shared c at is.0 (subst (λ (f : Field). may_name m y.class (is_shared f) ≡ true) e (may_cross n m tied at y apart))
      (subst (FieldIs (declared m) y.class) e is.1) (subst (λ (f : Field). says at (Some f) x n ≡ []) e clean)

  pub said_to_loop : (at : ℕ) (o : Option LoopField) → LoopIs m o → says_to_loop at o x n ≡ []
      → scope_after (stmt.Assign (agent_of o) (loop_number o) (expression x n k).0 at) m ≡ Some m
  said_to_loop at None is clean = absurd (cc)
  said_to_loop at (Some y) is clean =
      let apart : List CheckFault = crosses n at (Some y) in
      to_field at y y.field refl is (none_front apart (says at (Some y.field) x n) clean) (nil_back apart (says at (Some y.field) x n) clean)

-- a statement, in a scope, behind so many sites
record StepSound (s : Part (Meaning Stmt)) (n : Scope) (m : Names) (k : List ℕ) : Type 0 where
  after : Names
  gives : scope_after (s.here n k).0 m ≡ Some after
  tied : Tied (behind s n) after

abbrev PartSound : Part (List CheckFault) → Part (Meaning Stmt) → Type 0
PartSound q s = (n : Scope) (m : Names) → Tied n m → q.here n ≡ [] → (k : List ℕ) → StepSound s n m k

-- and a block
pub record RunSound (ss : List (Part (Meaning Stmt))) (n : Scope) (m : Names) (k : List ℕ) : Type 0 where
  pub after : Names
  pub gives : in_turn (map scope_after (block ss n k).0) m ≡ Some after

abbrev StmtSound : StmtTree → Type 0
StmtSound x = PartSound (checks.part x) (part x)

abbrev pub TreesSound : List StmtTree → Type 0
TreesSound xs = (n : Scope) (m : Names) → Tied n m → walk.block (map checks.part xs) n ≡ [] → (k : List ℕ) → RunSound (map part xs) n m k

trees_sound : (ys : List (ProvedStmt StmtSound)) → TreesSound (stmts_of ys)
trees_sound [] n m tied clean k = record { after = m; gives = refl }
trees_sound (y ∷ ys) n m tied clean k =
    let q : Part (List CheckFault) = checks.part y.0 in
    let s : Part (Meaning Stmt) = part y.0 in
    let rest : List (Part (List CheckFault)) = map checks.part (stmts_of ys) in
    let h : StepSound s n m k = y.1 n m tied (none_front (q.here n) (walk.block rest (behind q n)) clean) k in
    let j : List ℕ = (s.here n k).1 in
    let g : RunSound (map part (stmts_of ys)) (behind s n) h.after j =
    trees_sound ys (behind s n) h.after h.tied
    (subst (λ (l : Scope). walk.block rest l ≡ []) (behind_same q s n (same_part sought y.0)) (nil_back (q.here n) (walk.block rest (behind q n)) clean)) j in
    record {
      after = g.after;
      gives = ap (option_and_then (in_turn (map scope_after (block (map part (stmts_of ys)) (behind s n) j).0))) h.gives ∙ g.gives;
    }

back : (x : StmtTree) (q : Part (List CheckFault)) (s : Part (Meaning Stmt)) → checks.part x ≡ q → part x ≡ s → PartSound q s → StmtSound x
back x q s g h sound = subst (λ (q : Part (List CheckFault)). PartSound q (part x)) (sym g) (subst (PartSound q) (sym h) sound)

-- `const T n = x`
const_sound : (type : TyName) (name : Ident) (x : ExprTree) (at : ℕ) → PartSound (walk_step sought (layer.Const type name x at)) (part_step (layer.Const type name x at))
const_sound type name x at n m tied clean k =
    let t : Ty = type_named type in
    record {
      after = record m { known = (n.constants, t) ∷ m.known };
      gives = scope_after-Const n.constants (expression x n k).0 m
          ∙ ap (option_map (λ (u : Ty). record m { known = (n.constants, u) ∷ m.known })) (has_type n m tied x k t clean);
      tied = tied_declared n m name t tied;
    }

-- a condition and two blocks
fits_if : (m : Names) (e : Expr) (a b : List Stmt) (one other : Names) → type_in e m ≡ Some ty.Bool
    → in_turn (map scope_after a) m ≡ Some one → in_turn (map scope_after b) m ≡ Some other
    → scope_after (stmt.If e a b) m ≡ Some m
fits_if m e a b one other is first second =
    scope_after-If e a b m
    ∙ ap (λ (t : Bool). only t m)
    (and_from (is_of_type ty.Bool (type_in e m)) (is_some (in_turn (map scope_after a) m) && is_some (in_turn (map scope_after b) m))
    (ap (is_of_type ty.Bool) is)
    (and_from (is_some (in_turn (map scope_after a) m)) (is_some (in_turn (map scope_after b) m)) (ap is_some first) (ap is_some second)))

-- `if` without `else`
when_sound : (w : ExprTree) (a : List StmtTree) (at : ℕ) → TreesSound a
    → PartSound (walk_step sought (layer.If w (map checks.part a) None at)) (part_step (layer.If w (map part a) None at))
when_sound w a at first n m tied clean k =
    let value : List CheckFault = valued (Some ty.Bool) w n in
    let one : List CheckFault = walk.block (map checks.part a) n in
    let none : value ++ one ≡ [] = none_front (value ++ one) [] clean in
    let j : List ℕ = (expression w n k).1 in
    let g : RunSound (map part a) n m j = first n m tied (nil_back value one none) j in
    record {
      after = m;
      gives = fits_if m (expression w n k).0 (block (map part a) n j).0 [] g.after m (has_type n m tied w k ty.Bool (none_front value one none)) g.gives refl;
      tied = tied_past n m (constants_in (map part a) + 0) tied;
    }

-- `if` with `else`
either_sound : (w : ExprTree) (a b : List StmtTree) (at : ℕ) → TreesSound a → TreesSound b
    → PartSound (walk_step sought (layer.If w (map checks.part a) (Some (map checks.part b)) at)) (part_step (layer.If w (map part a) (Some (map part b)) at))
either_sound w a b at first second n m tied clean k =
    let later : Scope = past (constants_in (map part a)) n in
    let value : List CheckFault = valued (Some ty.Bool) w n in
    let one : List CheckFault = walk.block (map checks.part a) n in
    let other : List CheckFault = walk.block (map checks.part b) (past (constants_in (map checks.part a)) n) in
    let none : value ++ one ≡ [] = none_front (value ++ one) other clean in
    let j : List ℕ = (expression w n k).1 in
    let g : RunSound (map part a) n m j = first n m tied (nil_back value one none) j in
    let i : List ℕ = (block (map part a) n j).1 in
    let d : RunSound (map part b) later m i =
    second later m (tied_past n m (constants_in (map part a)) tied)
    (subst (λ (c : ℕ). walk.block (map checks.part b) (past c n) ≡ []) (same_blocks sought a) (nil_back (value ++ one) other clean)) i in
    record {
      after = m;
      gives = fits_if m (expression w n k).0 (block (map part a) n j).0 (block (map part b) later i).0 g.after d.after
          (has_type n m tied w k ty.Bool (none_front value one none)) g.gives d.gives;
      tied = tied_past n m (constants_in (map part a) + constants_in (map part b)) tied;
    }

-- a loop
module _ (class variable other : Ident) (a : List StmtTree) (at : ℕ) (run : TreesSound a) where
  over_class : (n : Scope) (m : Names) → Tied n m → (o : Option ℕ) → class_number n class.text ≡ o → nests n at ≡ [] → loops_over class.at o ≡ []
      → walk.block (map checks.part a) (inside class variable n) ≡ [] → (k : List ℕ)
      → scope_after (stmt.Foreach (unwrap_or o 0) (block (map part a) (inside class variable n) k).0 at) m ≡ Some m
  over_class n m tied None is shallow there clean k = absurd (cc)
  over_class n m tied (Some number) is shallow there clean k =
      let few : n.loops < 2 = leb-false 2 n.loops (not_if (nat_le 2 n.loops) (NestedTooDeep at) shallow) in
      let e : Entered m n.loops number = entered m n.loops number few tied.loops in
      let g : RunSound (map part a) (inside class variable n) e.inner k =
      run (inside class variable n) e.inner (tied_inside n m class variable number is e tied) clean k in
      let body : List Stmt = (block (map part a) (inside class variable n) k).0 in
      let under : number < length m.classes = found_among (bytes_eq class.text) (λ (j : ℕ). j < length m.classes) n.home.known.classes number tied.classes is in
      scope_after-Foreach number body at m
      ∙ ap (λ (t : Bool). only t m)
      (and_from (nat_lt number (length m.classes)) (is_some (option_and_then (in_turn (map scope_after body)) (within_loop m number)))
      (lt-ltb number (length m.classes) under)
      (ap (λ (o : Option Names). is_some (option_and_then (in_turn (map scope_after body)) o)) e.is ∙ ap is_some g.gives))

  foreach_sound : PartSound (walk_step sought (layer.Foreach class variable other (map checks.part a) at)) (part_step (layer.Foreach class variable other (map part a) at))
  foreach_sound n m tied clean k =
      let over : List CheckFault = loops_over class.at (class_number n class.text) in
      let body : List CheckFault = walk.block (map checks.part a) (inside class variable n) in
      let head : nests n at ++ over ≡ [] = none_front (nests n at ++ over) body clean in
      record {
        after = m;
        gives = over_class n m tied (class_number n class.text) refl (none_front (nests n at) over head) (nil_back (nests n at) over head) (nil_back (nests n at ++ over) body clean) k;
        tied = tied_past n m (constants_in (map part a)) tied;
      }

-- behind a statement that declares nothing
tied_still : (n : Scope) (m : Names) → Tied n m → Tied (past 0 n) m
tied_still n m tied = tied_past n m 0 tied

kinds_sound : Statements StmtSound
kinds_sound = record {
  const = λ type name x at. back (s.Const type name x at) _ _ (of-Const (walk_step sought) type name x at) (of-Const part_step type name x at) (const_sound type name x at);
  when = λ w a at. back (s.If w (stmts_of a) None at) _ _ (of-when (walk_step sought) w (stmts_of a) at) (of-when part_step w (stmts_of a) at) (when_sound w (stmts_of a) at (trees_sound a));
  either_way = λ w a b at. back (s.If w (stmts_of a) (Some (stmts_of b)) at) _ _ (of-either (walk_step sought) w (stmts_of a) (stmts_of b) at) (of-either part_step w (stmts_of a) (stmts_of b) at)
      (either_sound w (stmts_of a) (stmts_of b) at (trees_sound a) (trees_sound b));
  foreach = λ class variable other a at. back (s.Foreach class variable other (stmts_of a) at) _ _
      (of-Foreach (walk_step sought) class variable other (stmts_of a) at) (of-Foreach part_step class variable other (stmts_of a) at) (foreach_sound class variable other (stmts_of a) at (trees_sound a));
  assign = λ name x. back (s.Assign name x) _ _ (of-Assign (walk_step sought) name x) (of-Assign part_step name x)
      (λ n m tied clean k. record { after = m; gives = said_to_this n m tied x k name.at (look n.home.own name.text) (target_is n m tied name.text) clean; tied = tied_still n m tied });
  assign_this = λ name x at. back (s.AssignThis name x at) _ _ (of-AssignThis (walk_step sought) name x at) (of-AssignThis part_step name x at)
      (λ n m tied clean k. record { after = m; gives = said_to_this n m tied x k at (look n.home.own name.text) (target_is n m tied name.text) clean; tied = tied_still n m tied });
  assign_loop = λ variable name x. back (s.AssignLoop variable name x) _ _ (of-AssignLoop (walk_step sought) variable name x) (of-AssignLoop part_step variable name x)
      (λ n m tied clean k. record {
        after = m;
        gives = said_to_loop n m tied x k variable.at (of_loop n variable.text name.text) (of_loop_is n m tied variable.text name.text) clean;
        tied = tied_still n m tied;
      });
}

-- a block in which nothing is found
pub block_sound : (xs : List StmtTree) → TreesSound xs
block_sound xs = subst TreesSound (stmts-proved StmtSound kinds_sound xs) (trees_sound (proved StmtSound kinds_sound xs))
