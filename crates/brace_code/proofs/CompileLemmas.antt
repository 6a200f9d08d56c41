-- Compiled code computes its expression.
use Rattle.std.proofs.Common.{◌≡◌, ◌≢◌, ◌∙◌, refl, sym, ap, subst, ℕ, ◌+◌, ◌-◌, ◌≤◌, ℤ, pos, Bool, true, false, List, [], ◌∷◌, ◌++◌, length, Option, Some, None, Ok, Err, arith, append_assoc}
use Rattle.std.specs.Prelude.{◌&&◌, if◌then◌else◌, nat_lt, unwrap_or}
use Rattle.std.specs.Option.{option_and_then}
use Rattle.std.proofs.lemmas.Bool.Decides.{nat_tests}
use Rattle.brace_model.specs.declared.program.Ty.{Ty}
use Rattle.brace_model.specs.declared.program.Ty.TheVariants as ty
use Rattle.brace_model.specs.declared.program.Value.{Value}
use Rattle.brace_model.specs.declared.program.Value.TheVariants.{Flag}
use Rattle.brace_model.specs.declared.program.UnOp.{UnOp}
use Rattle.brace_model.specs.declared.program.BinOp.{BinOp}
use Rattle.brace_model.specs.declared.program.BinOp.TheVariants as bin
use Rattle.brace_model.specs.declared.program.Who.{Who}
use Rattle.brace_model.specs.declared.program.Who.TheVariants.{This}
use Rattle.brace_model.specs.declared.program.Expr.{Expr}
use Rattle.brace_model.specs.declared.program.Expr.TheVariants as expr
use Rattle.brace_model.specs.declared.program.Expr.TheVariants.{rolls-Lit, rolls-Field, rolls-Total, rolls-Local, rolls-Unary, rolls-Binary, rolls-Choice, rolls-Rand}
use Rattle.brace_model.specs.declared.program.Expr.TheOpen as layer
use Rattle.brace_model.specs.declared.program.Expr.TheFolds.{fold-roll-Expr}
use Rattle.brace_model.specs.World.{number}
use Rattle.brace_model.specs.Value.{Scope, Worth, value, with_value, choose, unary, strict, binary}
use Rattle.brace_model.specs.Typing.{Names, same_type, is_sited, is_sum, unary_faults, binary_faults, unary_type, operation_type, binary_type, choice_type, type_of_value, type_step, type_of, state_type, constant_type, effect_named, only}
use Rattle.brace_model.specs.Typed.{Fits}
use Rattle.brace_model.proofs.TypeLemmas.{Passed, passed, some_is, only_true, only_same, chosen_some, chosen_true, and_first, and_second, one_type, IsOf, sound}
use Rattle.brace_model.proofs.ValueEquations.{value-Lit, value-Field, value-Total, value-Local, value-Unary, value-Binary, value-Choice, value-Rand}
use Rattle.brace_code.specs.declared.code.Operand.{Operand}
use Rattle.brace_code.specs.declared.code.Operand.TheVariants as operand
use Rattle.brace_code.specs.declared.code.Source.{Source}
use Rattle.brace_code.specs.declared.code.Source.TheVariants as source
use Rattle.brace_code.specs.declared.code.Source.TheVariants.{One}
use Rattle.brace_code.specs.declared.code.Instr.{Instr}
use Rattle.brace_code.specs.declared.code.Instr.TheVariants.{Push, Unary, Binary, With, Choice}
use Rattle.brace_code.specs.declared.compiling.Leaf.{Leaf}
use Rattle.brace_code.specs.declared.compiling.Two.{Two}
use Rattle.brace_code.specs.declared.compiling.Part.{Part}
use Rattle.brace_code.specs.Codes.{Computes}
use Rattle.brace_code.specs.inner.Words.{Outcome, word_of, value_of, made_word, with_word, binary_word, choose_word, operand_word, source_word}
use Rattle.brace_code.specs.inner.Runs.{Left, Deed, onward, pushed, put, top, run}
use Rattle.brace_code.specs.inner.Appended.{Does, Appends, IsLeaf, IsTwo}
use Rattle.brace_code.proofs.WordLemmas.{unary_is, strict_is, choose_is, worth_is}
use Rattle.brace_code.proofs.CodeLemmas.{deed-Push, deed-Unary, deed-Binary, deed-With, deed-Choice, run-append, run-one}

-- ---- types of expressions

abbrev Types : Type 0
Types = Names → Option Ty

type-Lit : (v : Value) (names : Names) → type_of (expr.Lit v) names ≡ Some (type_of_value v)
type-Lit v names = ap (λ e. type_of e names) (sym (rolls-Lit v)) ∙ ap (λ f. f names) (fold-roll-Expr Types type_step (layer.Lit v))

type-Field : (who : Who) (i : ℕ) (names : Names) → type_of (expr.Field who i) names ≡ state_type names who i
type-Field who i names = ap (λ e. type_of e names) (sym (rolls-Field who i)) ∙ ap (λ f. f names) (fold-roll-Expr Types type_step (layer.Field who i))

type-Total : (effect : ℕ) (t : Ty) (site : Option ℕ) (names : Names) → type_of (expr.Total effect t site) names
    ≡ (if names.in_rule then option_and_then (λ x. only (same_type x.ty t && is_sited (is_sum x.comb) site) t) (effect_named names This effect) else None)
type-Total effect t site names = ap (λ e. type_of e names) (sym (rolls-Total effect t site)) ∙ ap (λ f. f names) (fold-roll-Expr Types type_step (layer.Total effect t site))

type-Local : (n : ℕ) (names : Names) → type_of (expr.Local n) names ≡ constant_type names.known n
type-Local n names = ap (λ e. type_of e names) (sym (rolls-Local n)) ∙ ap (λ f. f names) (fold-roll-Expr Types type_step (layer.Local n))

type-Rand : (site : ℕ) (names : Names) → type_of (expr.Rand site) names ≡ Some ty.Fixed
type-Rand site names = ap (λ e. type_of e names) (sym (rolls-Rand site)) ∙ ap (λ f. f names) (fold-roll-Expr Types type_step (layer.Rand site))

type-Unary : (op : UnOp) (site : Option ℕ) (a : Expr) (names : Names) → type_of (expr.Unary op site a) names
    ≡ (if is_sited (unary_faults op) site then option_and_then (unary_type op) (type_of a names) else None)
type-Unary op site a names = ap (λ e. type_of e names) (sym (rolls-Unary op site a)) ∙ ap (λ f. f names) (fold-roll-Expr Types type_step (layer.Unary op site a))

type-Binary : (op : BinOp) (site : Option ℕ) (a b : Expr) (names : Names) → type_of (expr.Binary op site a b) names
    ≡ (if is_sited (binary_faults op) site then option_and_then (λ s. option_and_then (binary_type op s) (type_of b names)) (type_of a names) else None)
type-Binary op site a b names = ap (λ e. type_of e names) (sym (rolls-Binary op site a b)) ∙ ap (λ f. f names) (fold-roll-Expr Types type_step (layer.Binary op site a b))

type-Choice : (c a b : Expr) (names : Names) → type_of (expr.Choice c a b) names
    ≡ option_and_then (λ p. option_and_then (λ s. option_and_then (choice_type p s) (type_of b names)) (type_of a names)) (type_of c names)
type-Choice c a b names = ap (λ e. type_of e names) (sym (rolls-Choice c a b)) ∙ ap (λ f. f names) (fold-roll-Expr Types type_step (layer.Choice c a b))

-- ---- the types of parts

unary_typed : (names : Names) (op : UnOp) (site : Option ℕ) (a : Expr) (s : Ty) → type_of (expr.Unary op site a) names ≡ Some s → Passed Ty (type_of a names) (unary_type op) s
unary_typed names op site a s h = passed (type_of a names) (unary_type op) s (chosen_some (is_sited (unary_faults op) site) _ s (sym (type-Unary op site a names) ∙ h))

record BinaryTyped (names : Names) (a b : Expr) (op : BinOp) (t : Ty) : Type 0 where
  pub first : Ty
  pub first_is : type_of a names ≡ Some first
  pub second_is : type_of b names ≡ Some first
  pub gives : operation_type op first ≡ Some t

binary_typed : (names : Names) (a b : Expr) (op : BinOp) (site : Option ℕ) (t : Ty) → type_of (expr.Binary op site a b) names ≡ Some t → BinaryTyped names a b op t
binary_typed names a b op site t h =
    let p = passed (type_of a names) (λ s. option_and_then (binary_type op s) (type_of b names)) t (chosen_some (is_sited (binary_faults op) site) _ t (sym (type-Binary op site a b names) ∙ h)) in
    let q = passed (type_of b names) (binary_type op p.from) t p.gives in
    let same = one_type p.from q.from (chosen_true (same_type p.from q.from) (operation_type op p.from) t q.gives) in
    record { first = p.from; first_is = p.was; second_is = q.was ∙ ap (λ (x : Ty). Some x) (sym same); gives = chosen_some (same_type p.from q.from) (operation_type op p.from) t q.gives }

record LogicTyped (names : Names) (a b : Expr) (t : Ty) : Type 0 where
  pub first_is : type_of a names ≡ Some ty.Bool
  pub second_is : type_of b names ≡ Some ty.Bool
  pub gives : ty.Bool ≡ t

logic_typed : (names : Names) (a b : Expr) (op : BinOp) (site : Option ℕ) (t : Ty) → type_of (expr.Binary op site a b) names ≡ Some t
    → ((s : Ty) → operation_type op s ≡ only (same_type s ty.Bool) ty.Bool) → LogicTyped names a b t
logic_typed names a b op site t h logic =
    let p = binary_typed names a b op site t h in
    let e : only (same_type p.first ty.Bool) ty.Bool ≡ Some t = sym (logic p.first) ∙ p.gives in
    let bool = one_type p.first ty.Bool (only_true (same_type p.first ty.Bool) ty.Bool t e) in
    record { first_is = p.first_is ∙ ap (λ (x : Ty). Some x) bool; second_is = p.second_is ∙ ap (λ (x : Ty). Some x) bool; gives = only_same (same_type p.first ty.Bool) ty.Bool t e }

record ChoiceTyped (names : Names) (c a b : Expr) (t : Ty) : Type 0 where
  pub test_is : type_of c names ≡ Some ty.Bool
  pub first_is : type_of a names ≡ Some t
  pub second_is : type_of b names ≡ Some t

choice_typed : (names : Names) (c a b : Expr) (t : Ty) → type_of (expr.Choice c a b) names ≡ Some t → ChoiceTyped names c a b t
choice_typed names c a b t h =
    let p = passed (type_of c names) (λ p. option_and_then (λ s. option_and_then (choice_type p s) (type_of b names)) (type_of a names)) t (sym (type-Choice c a b names) ∙ h) in
    let q = passed (type_of a names) (λ s. option_and_then (choice_type p.from s) (type_of b names)) t p.gives in
    let r = passed (type_of b names) (choice_type p.from q.from) t q.gives in
    let tests = only_true (same_type p.from ty.Bool && same_type q.from r.from) q.from t r.gives in
    let is : q.from ≡ t = only_same (same_type p.from ty.Bool && same_type q.from r.from) q.from t r.gives in
    let same = one_type q.from r.from (and_second (same_type p.from ty.Bool) (same_type q.from r.from) tests) in
    let bool = one_type p.from ty.Bool (and_first (same_type p.from ty.Bool) (same_type q.from r.from) tests) in
    record { test_is = p.was ∙ ap (λ (x : Ty). Some x) bool; first_is = q.was ∙ ap (λ (x : Ty). Some x) is; second_is = r.was ∙ ap (λ (x : Ty). Some x) (sym same ∙ is) }

total_type : (names : Names) (effect : ℕ) (t : Ty) (site : Option ℕ) (s : Ty)
    → (if names.in_rule then option_and_then (λ x. only (same_type x.ty t && is_sited (is_sum x.comb) site) t) (effect_named names This effect) else None) ≡ Some s → t ≡ s
total_type names effect t site s h =
    let p = passed (effect_named names This effect) (λ x. only (same_type x.ty t && is_sited (is_sum x.comb) site) t) s (chosen_some names.in_rule _ s h) in
    only_same _ t s p.gives

-- an operation that evaluates both operands
pub record IsStrict (op : BinOp) : Type 0 where
  pub is : (site : Option ℕ) (a b : Worth) → binary op site a b ≡ with_value a (λ x. with_value b (strict op site x))

pub strictly : (op : BinOp) → op ≢ bin.And → op ≢ bin.Or → IsStrict op
strictly bin.And p q = absurd (p refl)
strictly bin.Or p q = absurd (q refl)
strictly _ p q = record { is = λ site a b. refl }

-- ---- an operand

-- a word on a stack that has room for it
put_pushed : (room : ℕ) (stack : List ℤ) (w : Outcome) → length stack + 1 ≤ room → put room stack w ≡ pushed stack w
put_pushed room stack w h = fits (nat_lt (length stack) room) (grind (arith, nat_tests))
  where
    fits : (b : Bool) → nat_lt (length stack) room ≡ true → put room stack w ≡ pushed stack w
    fits b e = rw e refl

module _ (names : Names) (e : Expr) (part : Part) (before after : List Instr) where
  -- an expression that is read of a source
  source_appends : (o : Source) (t : Ty) → part ≡ record { ty = t; depth = 1 }
      → after ≡ before ++ Push o ∷ [] → ((s : Ty) → type_of e names ≡ Some s → t ≡ s)
      → ((s : Ty) → type_of e names ≡ Some s → (scope : Scope) → Fits names scope
      → source_word scope o ≡ word_of (value e scope)) → Appends names e part before after
  source_appends o t p is types words = record {
    added = Push o ∷ [];
    is = is;
    does = λ s h. (
      ap (λ (x : Part). x.ty) p ∙ types s h,
      record {
        each = λ scope fits room stack k.
            run-one (Push o) room scope stack ∙ ap (λ (d : Deed). d room scope stack) (deed-Push o)
            ∙ put_pushed room stack (source_word scope o) (rw (ap (λ (x : Part). x.depth) p) at k)
            ∙ ap (pushed stack) (words s h scope fits);
      },
    );
  }

  leaf_appends : (leaf : Leaf) → IsLeaf names e leaf → part ≡ record { ty = leaf.ty; depth = 1 }
      → after ≡ before ++ Push (One leaf.operand) ∷ [] → Appends names e part before after
  leaf_appends leaf p part added =
      source_appends (One leaf.operand) leaf.ty part added p.type (λ s h scope fits. p.word scope)

  pub two_appends : (two : Two) (x : Expr) → x ≡ e → IsTwo names x two
      → part ≡ record { ty = two.ty; depth = 1 } → after ≡ before ++ Push two.source ∷ []
      → Appends names e part before after
  two_appends two x is p part added =
      let q = subst (λ (y : Expr). IsTwo names y two) is p in
      source_appends two.source two.ty part added q.type q.word

  pub lit_leaf : (v : Value) → e ≡ expr.Lit v → IsLeaf names e (record { ty = type_of_value v; operand = operand.Word (number v) })
  lit_leaf v is = record {
    type = λ s h. some_is (type_of_value v) s (sym (type-Lit v names) ∙ (rw is at h));
    word = λ scope. ap word_of (sym (ap (λ (x : Expr). value x scope) is ∙ value-Lit v scope));
  }

  pub field_leaf : (who : Who) (i : ℕ) (t : Ty) → e ≡ expr.Field who i → ((s : Ty) → state_type names who i ≡ Some s → t ≡ s)
      → IsLeaf names e (record { ty = t; operand = operand.Field who i })
  field_leaf who i t is types = record {
    type = λ s h. types s (sym (type-Field who i names) ∙ (rw is at h));
    word = λ scope. ap word_of (sym (ap (λ (x : Expr). value x scope) is ∙ value-Field who i scope));
  }

  pub local_leaf : (n : ℕ) (t : Ty) → e ≡ expr.Local n → ((s : Ty) → constant_type names.known n ≡ Some s → t ≡ s)
      → IsLeaf names e (record { ty = t; operand = operand.Local n })
  local_leaf n t is types = record {
    type = λ s h. types s (sym (type-Local n names) ∙ (rw is at h));
    word = λ scope. ap word_of (sym (ap (λ (x : Expr). value x scope) is ∙ value-Local n scope));
  }

  pub rand_leaf : (site : ℕ) → e ≡ expr.Rand site → IsLeaf names e (record { ty = ty.Fixed; operand = operand.Rand site })
  rand_leaf site is = record {
    type = λ s h. some_is ty.Fixed s (sym (type-Rand site names) ∙ (rw is at h));
    word = λ scope. ap word_of (sym (ap (λ (x : Expr). value x scope) is ∙ value-Rand site scope));
  }

  pub total_leaf : (effect : ℕ) (t : Ty) (site : Option ℕ) → e ≡ expr.Total effect t site → IsLeaf names e (record { ty = t; operand = operand.Total effect t site })
  total_leaf effect t site is = record {
    type = λ s h. total_type names effect t site s (sym (type-Total effect t site names) ∙ (rw is at h));
    word = λ scope. ap word_of (sym (ap (λ (x : Expr). value x scope) is ∙ value-Total effect t site scope));
  }

  pub lit_appends : (v : Value) → e ≡ expr.Lit v → part ≡ record { ty = type_of_value v; depth = 1 } → after ≡ before ++ Push (One (operand.Word (number v))) ∷ []
      → Appends names e part before after
  lit_appends v is = leaf_appends _ (lit_leaf v is)

  pub field_appends : (who : Who) (i : ℕ) (t : Ty) → e ≡ expr.Field who i → ((s : Ty) → state_type names who i ≡ Some s → t ≡ s)
      → part ≡ record { ty = t; depth = 1 } → after ≡ before ++ Push (One (operand.Field who i)) ∷ [] → Appends names e part before after
  field_appends who i t is types = leaf_appends _ (field_leaf who i t is types)

  pub local_appends : (n : ℕ) (t : Ty) → e ≡ expr.Local n → ((s : Ty) → constant_type names.known n ≡ Some s → t ≡ s)
      → part ≡ record { ty = t; depth = 1 } → after ≡ before ++ Push (One (operand.Local n)) ∷ [] → Appends names e part before after
  local_appends n t is types = leaf_appends _ (local_leaf n t is types)

  pub rand_appends : (site : ℕ) → e ≡ expr.Rand site → part ≡ record { ty = ty.Fixed; depth = 1 } → after ≡ before ++ Push (One (operand.Rand site)) ∷ []
      → Appends names e part before after
  rand_appends site is = leaf_appends _ (rand_leaf site is)

  pub total_appends : (effect : ℕ) (t : Ty) (site : Option ℕ) → e ≡ expr.Total effect t site → part ≡ record { ty = t; depth = 1 }
      → after ≡ before ++ Push (One (operand.Total effect t site)) ∷ [] → Appends names e part before after
  total_appends effect t site is = leaf_appends _ (total_leaf effect t site is)

-- ---- operations

module _ (names : Names) where
  -- what an operation on one operand does
  unary_does : (op : UnOp) (site : Option ℕ) (a : Expr) (t s : Ty) (depth : ℕ) (code : List Instr) → type_of a names ≡ Some s → unary_type op s ≡ Some t
      → Does names a depth code → Does names (expr.Unary op site a) depth (code ++ Unary op (unwrap_or site 0) ∷ [])
  unary_does op site a t s depth code typed gives does = record {
    each = λ scope fits room stack k.
        run-append code (Unary op (unwrap_or site 0) ∷ []) room scope stack
        ∙ ap (λ (l : Left). onward l (run (Unary op (unwrap_or site 0) ∷ []) room scope)) (does.each scope fits room stack k)
        ∙ go room scope stack (value a scope) (sound a names scope fits s typed)
        ∙ ap (λ (w : Worth). pushed stack (word_of w)) (sym (value-Unary op site a scope));
  }
    where
      go : (room : ℕ) (scope : Scope) (stack : List ℤ) (w : Worth) → IsOf s w
          → onward (pushed stack (word_of w)) (run (Unary op (unwrap_or site 0) ∷ []) room scope) ≡ pushed stack (word_of (with_value w (unary op site)))
      go room scope stack (Err stop) is = refl
      go room scope stack (Ok x) is = run-one (Unary op (unwrap_or site 0)) room scope (number x ∷ stack)
          ∙ ap (λ (d : Deed). d room scope (number x ∷ stack)) (deed-Unary op (unwrap_or site 0))
          ∙ ap (pushed stack) (unary_is op site x t (ap (unary_type op) (is x refl) ∙ gives))

  pub unary_appends : (e a : Expr) (op : UnOp) (site : Option ℕ) (n : ℕ) (first : Part) (before middle after : List Instr) (t : Ty) → e ≡ expr.Unary op site a
      → Appends names a first before middle → n ≡ unwrap_or site 0 → after ≡ middle ++ Unary op n ∷ []
      → ((s : Ty) → unary_type op first.ty ≡ Some s → t ≡ s) → Appends names e (record { ty = t; depth = first.depth }) before after
  unary_appends e a op site n first before middle after t is p number added types = record {
    added = p.added ++ Unary op (unwrap_or site 0) ∷ [];
    is = added ∙ ap (λ (m : ℕ). middle ++ Unary op m ∷ []) number ∙ ap (λ (c : List Instr). c ++ Unary op (unwrap_or site 0) ∷ []) p.is ∙ append_assoc before p.added (Unary op (unwrap_or site 0) ∷ []);
    does = λ s h.
        let r = unary_typed names op site a s (rw is at h) in
        let (same, does) = p.does r.from r.was in
        (types s (ap (unary_type op) same ∙ r.gives), subst (λ (x : Expr). Does names x first.depth (p.added ++ Unary op (unwrap_or site 0) ∷ [])) (sym is) (unary_does op site a s r.from first.depth p.added r.was r.gives does));
  }

  -- what an operation on two operands does
  binary_does : (op : BinOp) (site : Option ℕ) (a b : Expr) (t s : Ty) (da db depth : ℕ) (first second : List Instr) → IsStrict op → type_of a names ≡ Some s
      → operation_type op s ≡ Some t → Does names a da first → Does names b db second → da ≤ depth → db + 1 ≤ depth
      → Does names (expr.Binary op site a b) depth (first ++ (second ++ Binary op s (unwrap_or site 0) ∷ []))
  binary_does op site a b t s da db depth first second strictly typed gives p q deep deeper = record {
    each = λ scope fits room stack k.
        run-append first (second ++ last) room scope stack
        ∙ ap (λ (l : Left). onward l (run (second ++ last) room scope)) (p.each scope fits room stack (omega arith))
        ∙ go room scope stack (value a scope) (value b scope) (sound a names scope fits s typed)
        (λ (x : Value). run-append second last room scope (number x ∷ stack)
        ∙ ap (λ (l : Left). onward l (run last room scope)) (q.each scope fits room (number x ∷ stack) (omega arith)))
        ∙ ap (λ (w : Worth). pushed stack (word_of w)) (sym (strictly.is site (value a scope) (value b scope)))
        ∙ ap (λ (w : Worth). pushed stack (word_of w)) (sym (value-Binary op site a b scope));
  }
    where
      last : List Instr
      last = Binary op s (unwrap_or site 0) ∷ []

      go : (room : ℕ) (scope : Scope) (stack : List ℤ) (v w : Worth) → IsOf s v
          → ((x : Value) → run (second ++ last) room scope (number x ∷ stack) ≡ onward (pushed (number x ∷ stack) (word_of w)) (run last room scope))
          → onward (pushed stack (word_of v)) (run (second ++ last) room scope) ≡ pushed stack (word_of (with_value v (λ x. with_value w (strict op site x))))
      go room scope stack (Err stop) w is next = refl
      go room scope stack (Ok x) (Err stop) is next = next x
      go room scope stack (Ok x) (Ok y) is next = next x ∙ run-one (Binary op s (unwrap_or site 0)) room scope (number y ∷ (number x ∷ stack))
          ∙ ap (λ (d : Deed). d room scope (number y ∷ (number x ∷ stack))) (deed-Binary op s (unwrap_or site 0))
          ∙ ap (λ (r : Ty). pushed stack (made_word (unwrap_or site 0) (binary_word op r (number x) (number y)))) (sym (is x refl))
          ∙ ap (pushed stack) (strict_is op site x y t (ap (operation_type op) (is x refl) ∙ gives))

  -- what an operation does whose second operand is a word
  with_does : (op : BinOp) (site : Option ℕ) (a b : Expr) (o : Operand) (t s : Ty) (depth : ℕ) (first : List Instr) → IsStrict op → type_of a names ≡ Some s
      → operation_type op s ≡ Some t → Does names a depth first → ((scope : Scope) → operand_word scope o ≡ word_of (value b scope))
      → Does names (expr.Binary op site a b) depth (first ++ With op s (unwrap_or site 0) o ∷ [])
  with_does op site a b o t s depth first strictly typed gives p words = record {
    each = λ scope fits room stack k.
        run-append first last room scope stack
        ∙ ap (λ (l : Left). onward l (run last room scope)) (p.each scope fits room stack k)
        ∙ go room scope stack (value a scope) (value b scope) (sound a names scope fits s typed) (words scope)
        ∙ ap (λ (w : Worth). pushed stack (word_of w)) (sym (strictly.is site (value a scope) (value b scope)))
        ∙ ap (λ (w : Worth). pushed stack (word_of w)) (sym (value-Binary op site a b scope));
  }
    where
      last : List Instr
      last = With op s (unwrap_or site 0) o ∷ []

      here : (room : ℕ) (scope : Scope) (stack : List ℤ) (x : Value) (w : Outcome) → operand_word scope o ≡ w
          → run last room scope (number x ∷ stack) ≡ pushed stack (with_word w (λ b. made_word (unwrap_or site 0) (binary_word op s (number x) b)))
      here room scope stack x w e = run-one (With op s (unwrap_or site 0) o) room scope (number x ∷ stack)
          ∙ ap (λ (d : Deed). d room scope (number x ∷ stack)) (deed-With op s (unwrap_or site 0) o)
          ∙ ap (λ (w : Outcome). pushed stack (with_word w (λ b. made_word (unwrap_or site 0) (binary_word op s (number x) b)))) e

      go : (room : ℕ) (scope : Scope) (stack : List ℤ) (v w : Worth) → IsOf s v → operand_word scope o ≡ word_of w
          → onward (pushed stack (word_of v)) (run last room scope) ≡ pushed stack (word_of (with_value v (λ x. with_value w (strict op site x))))
      go room scope stack (Err stop) w is e = refl
      go room scope stack (Ok x) (Err stop) is e = here room scope stack x (Err stop) e
      go room scope stack (Ok x) (Ok y) is e = here room scope stack x (Ok (number y)) e
          ∙ ap (λ (r : Ty). pushed stack (made_word (unwrap_or site 0) (binary_word op r (number x) (number y)))) (sym (is x refl))
          ∙ ap (pushed stack) (strict_is op site x y t (ap (operation_type op) (is x refl) ∙ gives))

  -- an operation on two operands
  pub two_is : (a b : Expr) (op : BinOp) (site : Option ℕ) (n : ℕ) (first second : Leaf) (t : Ty)
      → IsStrict op → IsLeaf names a first → IsLeaf names b second → n ≡ unwrap_or site 0
      → ((s : Ty) → operation_type op first.ty ≡ Some s → t ≡ s)
      → IsTwo names (expr.Binary op site a b)
      (record { ty = t; source = source.Two op first.ty n first.operand second.operand })
  two_is a b op site n first second t strictly p q numbered types = record {
    type = λ s h. let u = binary_typed names a b op site s h in
        types s (ap (operation_type op) (p.type u.first u.first_is) ∙ u.gives);
    word = λ s h scope fits. let u = binary_typed names a b op site s h in
        go s u.first scope (value a scope) (value b scope) (p.type u.first u.first_is)
        (sound a names scope fits u.first u.first_is) u.gives (p.word scope) (q.word scope)
        ∙ ap word_of (sym (strictly.is site (value a scope) (value b scope))
        ∙ sym (value-Binary op site a b scope));
  }
    where
      made : ℤ → ℤ → Outcome
      made x y = made_word n (binary_word op first.ty x y)

      second_read : (w : Outcome) (x : ℤ) → Outcome
      second_read w x = with_word w (made x)

      first_read : Scope → Outcome → Outcome
      first_read scope w = with_word w (second_read (operand_word scope second.operand))

      go : (s r : Ty) (scope : Scope) (v w : Worth) → first.ty ≡ r → IsOf r v
          → operation_type op r ≡ Some s → operand_word scope first.operand ≡ word_of v
          → operand_word scope second.operand ≡ word_of w
          → source_word scope (source.Two op first.ty n first.operand second.operand)
          ≡ word_of (with_value v (λ x. with_value w (strict op site x)))
      go s r scope (Err stop) w same is gives e f = ap (first_read scope) e
      go s r scope (Ok x) (Err stop) same is gives e f =
          ap (first_read scope) e ∙ ap (λ (w : Outcome). second_read w (number x)) f
      go s r scope (Ok x) (Ok y) same is gives e f =
          ap (first_read scope) e ∙ ap (λ (w : Outcome). second_read w (number x)) f
          ∙ ap (λ (m : ℕ). made_word m (binary_word op first.ty (number x) (number y))) numbered
          ∙ ap (λ (q : Ty). made_word (unwrap_or site 0) (binary_word op q (number x) (number y)))
          (same ∙ sym (is x refl))
          ∙ strict_is op site x y s (ap (operation_type op) (is x refl) ∙ gives)

  pub with_appends : (e a b : Expr) (op : BinOp) (site : Option ℕ) (n : ℕ) (first : Part) (leaf : Leaf) (c0 c1 c2 : List Instr) (t : Ty)
      → e ≡ expr.Binary op site a b → IsStrict op → Appends names a first c0 c1 → IsLeaf names b leaf → n ≡ unwrap_or site 0
      → c2 ≡ c1 ++ With op first.ty n leaf.operand ∷ [] → ((s : Ty) → operation_type op first.ty ≡ Some s → t ≡ s)
      → Appends names e (record { ty = t; depth = first.depth }) c0 c2
  with_appends e a b op site n first leaf c0 c1 c2 t is strictly p q number added types = record {
    added = p.added ++ With op first.ty (unwrap_or site 0) leaf.operand ∷ [];
    is = added ∙ ap (λ (m : ℕ). c1 ++ With op first.ty m leaf.operand ∷ []) number ∙ ap (λ (c : List Instr). c ++ With op first.ty (unwrap_or site 0) leaf.operand ∷ []) p.is
        ∙ append_assoc c0 p.added _;
    does = λ s h.
        let u = binary_typed names a b op site s (rw is at h) in
        let (same, does) = p.does u.first u.first_is in (
          types s (ap (operation_type op) same ∙ u.gives),
          subst (λ (x : Expr). Does names x first.depth (p.added ++ With op first.ty (unwrap_or site 0) leaf.operand ∷ [])) (sym is)
              (subst (λ (x : Ty). Does names (expr.Binary op site a b) first.depth (p.added ++ With op x (unwrap_or site 0) leaf.operand ∷ [])) (sym same)
              (with_does op site a b leaf.operand s u.first first.depth p.added strictly u.first_is u.gives does q.word)),
        );
  }

  pub binary_appends : (e a b : Expr) (op : BinOp) (site : Option ℕ) (n : ℕ) (first second : Part) (c0 c1 c2 c3 : List Instr) (t : Ty) (depth : ℕ)
      → e ≡ expr.Binary op site a b → IsStrict op → Appends names a first c0 c1 → Appends names b second c1 c2 → n ≡ unwrap_or site 0
      → c3 ≡ c2 ++ Binary op first.ty n ∷ [] → ((s : Ty) → operation_type op first.ty ≡ Some s → t ≡ s) → first.depth ≤ depth → second.depth + 1 ≤ depth
      → Appends names e (record { ty = t; depth = depth }) c0 c3
  binary_appends e a b op site n first second c0 c1 c2 c3 t depth is strictly p q number added types deep deeper = record {
    added = p.added ++ (q.added ++ Binary op first.ty (unwrap_or site 0) ∷ []);
    is = added ∙ ap (λ (m : ℕ). c2 ++ Binary op first.ty m ∷ []) number ∙ ap (λ (c : List Instr). c ++ Binary op first.ty (unwrap_or site 0) ∷ []) (q.is ∙ ap (λ (c : List Instr). c ++ q.added) p.is)
        ∙ append_assoc (c0 ++ p.added) q.added _ ∙ append_assoc c0 p.added _;
    does = λ s h.
        let u = binary_typed names a b op site s (rw is at h) in
        let (same, does) = p.does u.first u.first_is in
        let (other, does_too) = q.does u.first u.second_is in (
          types s (ap (operation_type op) same ∙ u.gives),
          subst (λ (x : Expr). Does names x depth (p.added ++ (q.added ++ Binary op first.ty (unwrap_or site 0) ∷ []))) (sym is)
              (subst (λ (x : Ty). Does names (expr.Binary op site a b) depth (p.added ++ (q.added ++ Binary op x (unwrap_or site 0) ∷ []))) (sym same)
              (binary_does op site a b s u.first first.depth second.depth depth p.added q.added strictly u.first_is u.gives does does_too deep deeper)),
        );
  }

  -- ---- choices

  -- what a choice does between two codes that give outcomes
  choice_does : (room : ℕ) (scope : Scope) (stack : List ℤ) (x : Value) (a b : Worth) (set unset : List Instr) → type_of_value x ≡ ty.Bool
      → run set (room - length stack) scope [] ≡ pushed [] (word_of a) → run unset (room - length stack) scope [] ≡ pushed [] (word_of b)
      → run (Choice set unset ∷ []) room scope (number x ∷ stack) ≡ pushed stack (word_of (choose x a b))
  choice_does room scope stack x a b set unset is p q =
      run-one (Choice set unset) room scope (number x ∷ stack)
      ∙ ap (λ (d : Deed). d room scope (number x ∷ stack)) (deed-Choice set unset)
      ∙ ap (λ (l : Left). pushed stack (choose_word (number x) (top l) (top (run unset (room - length stack) scope [])))) p
      ∙ ap (λ (l : Left). pushed stack (choose_word (number x) (top (pushed [] (word_of a))) (top l))) q
      ∙ ap (λ (w : Outcome). pushed stack (choose_word (number x) w (top (pushed [] (word_of b))))) (top_pushed (word_of a))
      ∙ ap (λ (w : Outcome). pushed stack (choose_word (number x) (word_of a) w)) (top_pushed (word_of b))
      ∙ ap (pushed stack) (choose_is x a b is)
    where
      top_pushed : (w : Outcome) → top (pushed [] w) ≡ w
      top_pushed (Ok n) = refl
      top_pushed (Err stop) = refl

  -- an expression that tests one, and goes on with one of two outcomes
  tested_does : (e c : Expr) (f g : Scope → Worth) (dc depth : ℕ) (first set unset : List Instr) → type_of c names ≡ Some ty.Bool → Does names c dc first → dc ≤ depth
      → ((scope : Scope) → value e scope ≡ with_value (value c scope) (λ x. choose x (f scope) (g scope)))
      → ((scope : Scope) → Fits names scope → (room : ℕ) → depth ≤ room → run set room scope [] ≡ pushed [] (word_of (f scope)))
      → ((scope : Scope) → Fits names scope → (room : ℕ) → depth ≤ room → run unset room scope [] ≡ pushed [] (word_of (g scope)))
      → Does names e depth (first ++ Choice set unset ∷ [])
  tested_does e c f g dc depth first set unset typed p deep means q r = record {
    each = λ scope fits room stack k.
        run-append first (Choice set unset ∷ []) room scope stack
        ∙ ap (λ (l : Left). onward l (run (Choice set unset ∷ []) room scope)) (p.each scope fits room stack (omega arith))
        ∙ go room scope stack (value c scope) (f scope) (g scope) (sound c names scope fits ty.Bool typed)
        (q scope fits (room - length stack) (omega arith)) (r scope fits (room - length stack) (omega arith))
        ∙ ap (λ (w : Worth). pushed stack (word_of w)) (sym (means scope));
  }
    where
      go : (room : ℕ) (scope : Scope) (stack : List ℤ) (w a b : Worth) → IsOf ty.Bool w
          → run set (room - length stack) scope [] ≡ pushed [] (word_of a) → run unset (room - length stack) scope [] ≡ pushed [] (word_of b)
          → onward (pushed stack (word_of w)) (run (Choice set unset ∷ []) room scope) ≡ pushed stack (word_of (with_value w (λ x. choose x a b)))
      go room scope stack (Err stop) a b is y n = refl
      go room scope stack (Ok x) a b is y n = choice_does room scope stack x a b set unset (is x refl) y n

  -- a branch that is an expression's code
  expression_runs : (a : Expr) (da depth : ℕ) (code : List Instr) → Does names a da code → da ≤ depth
      → (scope : Scope) → Fits names scope → (room : ℕ) → depth ≤ room → run code room scope [] ≡ pushed [] (word_of (value a scope))
  expression_runs a da depth code p deep scope fits room k = p.each scope fits room [] (omega arith)

  -- a branch that is a flag
  flag_runs : (b : Bool) (depth : ℕ) → 1 ≤ depth
      → (scope : Scope) → Fits names scope → (room : ℕ) → depth ≤ room
      → run (Push (One (operand.Word (number (Flag b)))) ∷ []) room scope [] ≡ pushed [] (word_of (Ok (Flag b)))
  flag_runs b depth deep scope fits room k =
      run-one (Push (One (operand.Word (number (Flag b))))) room scope []
      ∙ ap (λ (d : Deed). d room scope []) (deed-Push (One (operand.Word (number (Flag b)))))
      ∙ put_pushed room [] (Ok (number (Flag b))) (omega arith)

  pub choice_appends : (e c a b : Expr) (test first second : Part) (c0 c1 c2 set unset : List Instr) (depth : ℕ) → e ≡ expr.Choice c a b
      → Appends names c test c0 c1 → Appends names a first [] set → Appends names b second [] unset → c2 ≡ c1 ++ Choice set unset ∷ []
      → test.depth ≤ depth → first.depth ≤ depth → second.depth ≤ depth → Appends names e (record { ty = first.ty; depth = depth }) c0 c2
  choice_appends e c a b test first second c0 c1 c2 set unset depth is p q r added deep first_deep second_deep = record {
    added = p.added ++ Choice set unset ∷ [];
    is = added ∙ ap (λ (x : List Instr). x ++ Choice set unset ∷ []) p.is ∙ append_assoc c0 p.added _;
    does = λ s typed.
        let u = choice_typed names c a b s (rw is at typed) in
        let (same, does) = p.does ty.Bool u.test_is in
        let (first_same, first_does) = q.does s u.first_is in
        let (second_same, second_does) = r.does s u.second_is in (
          first_same,
          tested_does e c (value a) (value b) test.depth depth p.added set unset u.test_is does deep (λ scope. ap (λ (x : Expr). value x scope) is ∙ value-Choice c a b scope)
              (expression_runs a first.depth depth set (rw (← q.is) at first_does) first_deep) (expression_runs b second.depth depth unset (rw (← r.is) at second_does) second_deep),
        );
  }

  -- `&&` and `||`: one branch is a flag
  pub and_appends : (e a b : Expr) (site : Option ℕ) (test second : Part) (c0 c1 c2 set unset : List Instr) (depth : ℕ) → e ≡ expr.Binary bin.And site a b
      → Appends names a test c0 c1 → Appends names b second [] set → unset ≡ Push (One (operand.Word (pos 0))) ∷ [] → c2 ≡ c1 ++ Choice set unset ∷ []
      → test.depth ≤ depth → second.depth ≤ depth → 1 ≤ depth → Appends names e (record { ty = ty.Bool; depth = depth }) c0 c2
  and_appends e a b site test second c0 c1 c2 set unset depth is p q w added deep second_deep high = record {
    added = p.added ++ Choice set unset ∷ [];
    is = added ∙ ap (λ (x : List Instr). x ++ Choice set unset ∷ []) p.is ∙ append_assoc c0 p.added _;
    does = λ s typed.
        let u = logic_typed names a b bin.And site s (rw is at typed) (λ x. refl) in
        let (same, does) = p.does ty.Bool u.first_is in
        let (second_same, second_does) = q.does ty.Bool u.second_is in (
          u.gives,
          tested_does e a (value b) (λ scope. Ok (Flag false)) test.depth depth p.added set unset u.first_is does deep (λ scope. ap (λ (x : Expr). value x scope) is ∙ value-Binary bin.And site a b scope)
              (expression_runs b second.depth depth set (rw (← q.is) at second_does) second_deep) (rw w (flag_runs false depth high)),
        );
  }

  pub or_appends : (e a b : Expr) (site : Option ℕ) (test second : Part) (c0 c1 c2 set unset : List Instr) (depth : ℕ) → e ≡ expr.Binary bin.Or site a b
      → Appends names a test c0 c1 → Appends names b second [] unset → set ≡ Push (One (operand.Word (pos 1))) ∷ [] → c2 ≡ c1 ++ Choice set unset ∷ []
      → test.depth ≤ depth → second.depth ≤ depth → 1 ≤ depth → Appends names e (record { ty = ty.Bool; depth = depth }) c0 c2
  or_appends e a b site test second c0 c1 c2 set unset depth is p q w added deep second_deep high = record {
    added = p.added ++ Choice set unset ∷ [];
    is = added ∙ ap (λ (x : List Instr). x ++ Choice set unset ∷ []) p.is ∙ append_assoc c0 p.added _;
    does = λ s typed.
        let u = logic_typed names a b bin.Or site s (rw is at typed) (λ x. refl) in
        let (same, does) = p.does ty.Bool u.first_is in
        let (second_same, second_does) = q.does ty.Bool u.second_is in (
          u.gives,
          tested_does e a (λ scope. Ok (Flag true)) (value b) test.depth depth p.added set unset u.first_is does deep (λ scope. ap (λ (x : Expr). value x scope) is ∙ value-Binary bin.Or site a b scope)
              (rw w (flag_runs true depth high)) (expression_runs b second.depth depth unset (rw (← q.is) at second_does) second_deep),
        );
  }

  -- an expression's code alone
  pub whole_computes : (e : Expr) (part : Part) (code : List Instr) (t : Ty) → Appends names e part [] code → type_of e names ≡ Some t
      → Computes names e t (record { instrs = code; ty = part.ty; depth = part.depth })
  whole_computes e part code t p typed =
      let (same, does) = p.does t typed in
      record {
        type = same;
        value = λ scope fits.
            ap (λ (l : Left). value_of part.ty (top l)) (rw p.is (does.each scope fits part.depth [] (omega arith)))
            ∙ ap (value_of part.ty) (top_pushed (word_of (value e scope)))
            ∙ ap (λ (s : Ty). value_of s (word_of (value e scope))) same
            ∙ worth_is (value e scope) t (sound e names scope fits t typed);
      }
    where
      top_pushed : (w : Outcome) → top (pushed [] w) ≡ w
      top_pushed (Ok n) = refl
      top_pushed (Err stop) = refl

pub ruleset leaf_rules = (lit_leaf, field_leaf, local_leaf, rand_leaf, total_leaf)

pub ruleset two_rules = (two_is, strictly)

pub ruleset compile_rules = (two_appends, lit_appends, field_appends, local_appends, rand_appends, total_appends)
