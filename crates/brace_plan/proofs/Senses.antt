-- What an expression in a loop's condition is worth at the loop's agent, by its sense.
use Rattle.std.proofs.Common.{◌≡◌, ◌∙◌, refl, sym, ap, subst, ℕ, ℤ, Bool, true, false, List, [], ◌++◌, Option, Some, None, Ok}
use Rattle.std.specs.Prelude.{◌&&◌, if◌then◌else◌, is_none, is_some}
use Rattle.std.specs.Option.{option_and_then}
use Rattle.std.specs.List.{list_all}
use Rattle.std.proofs.lemmas.Bool.{and_parts}
use Rattle.std.proofs.lemmas.Cmp.{int_eq_equiv}
use Rattle.std.proofs.lemmas.List.Folds.{list_all-append}
use Rattle.brace_model.specs.declared.program.Ty.{Ty}
use Rattle.brace_model.specs.declared.program.Value.{Value}
use Rattle.brace_model.specs.declared.program.Value.TheVariants.{Fixed, Flag}
use Rattle.brace_model.specs.declared.program.UnOp.{UnOp}
use Rattle.brace_model.specs.declared.program.UnOp.TheVariants as un
use Rattle.brace_model.specs.declared.program.BinOp.{BinOp}
use Rattle.brace_model.specs.declared.program.BinOp.TheVariants as bin
use Rattle.brace_model.specs.declared.program.Who.{Who}
use Rattle.brace_model.specs.declared.program.Who.TheVariants.{This, Outer, Inner}
use Rattle.brace_model.specs.declared.program.Class.{Class}
use Rattle.brace_model.specs.declared.program.Expr.{Expr, roll-Expr}
use Rattle.brace_model.specs.declared.program.Expr.TheOpen as expr
use Rattle.brace_model.specs.declared.program.Expr.TheFolds.{map-Expr, ind-Expr, fold-roll-Expr}
use Rattle.brace_model.specs.World.{number, value_at}
use Rattle.brace_model.specs.Value.{Scope, Worth, agent_of, unary, binary, choose, with_value, total_read, value_step, value}
use Rattle.brace_model.specs.Typing.{Names, is_sited, unary_faults, binary_faults, unary_type, binary_type, choice_type, type_step, type_of}
use Rattle.brace_model.proofs.TypeLemmas.{passed, chosen_some, chosen_true}
use Rattle.brace_grid.specs.Grids.{Point}
use Rattle.brace_plan.specs.declared.action.Axis.{Axis}
use Rattle.brace_plan.specs.declared.action.Side.{Side}
use Rattle.brace_plan.specs.declared.action.Side.TheVariants as side
use Rattle.brace_plan.specs.declared.action.Limit.{Limit}
use Rattle.brace_plan.specs.declared.action.Limit.TheVariants as limit
use Rattle.brace_plan.specs.declared.narrowing.Sense.{Sense}
use Rattle.brace_plan.specs.Narrowing.{plain, axis_at, field_sense, side_left, side_right, bound_of, compared, binary_sense, sense_step, sense}
use Rattle.brace_plan.specs.Acts.{limit_in, stands, coordinate, meets}

-- an outcome that is a value
abbrev pub IsValue : Worth → Type 0
IsValue w = (v : Value) × (w ≡ Ok v)

-- ---- operations without a site

no_site : (A : Type 0) (site : Option ℕ) → is_some site ≡ true → is_none site ≡ true → A
no_site A None e f = absurd (cc)
no_site A (Some n) e f = absurd (cc)

unary_clear : (op : UnOp) (site : Option ℕ) (u : Value) → is_sited (unary_faults op) site ≡ true → is_none site ≡ true → IsValue (unary op site u)
unary_clear un.Not site u e f = (_, refl)
unary_clear un.Trunc site u e f = (_, refl)
unary_clear _ site u e f = no_site _ site e f

choose_clear : (u : Value) (x y : Value) → IsValue (choose u (Ok x) (Ok y))
choose_clear (Flag true) x y = (_, refl)
choose_clear _ x y = (_, refl)

choose_same : (u : Value) (w : Worth) → choose u w w ≡ w
choose_same (Flag true) w = refl
choose_same _ w = refl

binary_clear : (op : BinOp) (site : Option ℕ) (x y : Value) → is_sited (binary_faults op) site ≡ true → is_none site ≡ true → IsValue (binary op site (Ok x) (Ok y))
binary_clear bin.Add site x y e f = no_site _ site e f
binary_clear bin.Sub site x y e f = no_site _ site e f
binary_clear bin.Mul site x y e f = no_site _ site e f
binary_clear bin.Div site x y e f = no_site _ site e f
binary_clear bin.Rem site x y e f = no_site _ site e f
binary_clear bin.And site x y e f = choose_clear x y (Flag false)
binary_clear bin.Or site x y e f = choose_clear x (Flag true) y
binary_clear _ site x y e f = (_, refl)

total_clear : (t : Ty) (site : Option ℕ) (n : ℤ) → is_none site ≡ true → IsValue (total_read t site n)
total_clear t None n e = (_, refl)
total_clear t (Some site) n e = absurd (cc)

-- ---- comparisons

left_is : (op : BinOp) (s : Side) (site : Option ℕ) (x y : Value) → side_left op ≡ Some s → binary op site (Ok x) (Ok y) ≡ Ok (Flag (stands s (number y) (number x)))
left_is bin.Lt s site x y e = ap (λ z. Ok (Flag (stands z (number y) (number x)))) (let k : side.Below ≡ s = cc in k)
left_is bin.Le s site x y e = ap (λ z. Ok (Flag (stands z (number y) (number x)))) (let k : side.AtMost ≡ s = cc in k)
left_is bin.Gt s site x y e = ap (λ z. Ok (Flag (stands z (number y) (number x)))) (let k : side.Above ≡ s = cc in k)
left_is bin.Ge s site x y e = ap (λ z. Ok (Flag (stands z (number y) (number x)))) (let k : side.AtLeast ≡ s = cc in k)
left_is bin.Eq s site x y e = ap (λ z. Ok (Flag (stands z (number y) (number x)))) (let k : side.At ≡ s = cc in k)
left_is _ s site x y e = absurd (cc)

right_is : (op : BinOp) (s : Side) (site : Option ℕ) (x y : Value) → side_right op ≡ Some s → binary op site (Ok x) (Ok y) ≡ Ok (Flag (stands s (number x) (number y)))
right_is bin.Lt s site x y e = ap (λ z. Ok (Flag (stands z (number x) (number y)))) (let k : side.Above ≡ s = cc in k)
right_is bin.Le s site x y e = ap (λ z. Ok (Flag (stands z (number x) (number y)))) (let k : side.AtLeast ≡ s = cc in k)
right_is bin.Gt s site x y e = ap (λ z. Ok (Flag (stands z (number x) (number y)))) (let k : side.Below ≡ s = cc in k)
right_is bin.Ge s site x y e = ap (λ z. Ok (Flag (stands z (number x) (number y)))) (let k : side.AtMost ≡ s = cc in k)
right_is bin.Eq s site x y e =
    ap (λ z. Ok (Flag z)) (int_eq_equiv.symm (number x) (number y)) ∙ ap (λ z. Ok (Flag (stands z (number x) (number y)))) (let k : side.At ≡ s = cc in k)
right_is _ s site x y e = absurd (cc)

-- ---- senses

-- one of two tests fails
one_fails : (P : Type 0) (x y : Bool) → (x && y) ≡ false → (x ≡ false → P) → (y ≡ false → P) → P
one_fails P true y e first second = second e
one_fails P false y e first second = first refl

fails_in : {A : Type 0} (P : Type 0) (f : A → Bool) (xs ys : List A) → list_all f (xs ++ ys) ≡ false → (list_all f xs ≡ false → P) → (list_all f ys ≡ false → P) → P
fails_in P f xs ys e = one_fails P (list_all f xs) (list_all f ys) (sym (list_all-append f xs ys) ∙ e)

fails_where : {A : Type 0} (P : Type 0) (f : A → Bool) (test : Bool) (xs : List A) → list_all f (if test then xs else []) ≡ false → (test ≡ true → list_all f xs ≡ false → P) → P
fails_where P f true xs e next = next refl e
fails_where P f false xs e next = absurd (cc)

and_first_is : (x y : Bool) → (x && y) ≡ false → y ≡ true → x ≡ false
and_first_is true y e f = absurd (let no : true ≡ false = sym f ∙ e in cc)
and_first_is false y e f = refl

same_limit : (m l : Limit) → Some m ≡ Some l → m ≡ l
same_limit m l e = cc

module _ (scope : Scope) (p : Point) where
  -- what is known of an expression's value by its sense, at an agent that stands at a point
  pub record HasSense (s : Sense) (w : Worth) : Type 0 where
    pub clear : s.clear ≡ true → IsValue w
    pub place : (axis : Axis) → s.place ≡ Some axis → (v : Value) × (w ≡ Ok v) × (number v ≡ coordinate axis p)
    pub limit : (l : Limit) → s.limit ≡ Some l → (v : Value) × (w ≡ Ok v) × (number v ≡ limit_in scope l)
    pub unmet : list_all (meets scope p) s.bounds ≡ false → w ≡ Ok (Flag false)

  is_plain : (clear : Bool) (w : Worth) → (clear ≡ true → IsValue w) → HasSense (plain clear) w
  is_plain clear w h = record { clear = h; place = λ axis e. absurd (cc); limit = λ l e. absurd (cc); unmet = λ e. absurd (cc) }

  is_placed : (place : Option Axis) (v : Value) → ((axis : Axis) → place ≡ Some axis → number v ≡ coordinate axis p) → HasSense (record (plain true) { place = place }) (Ok v)
  is_placed place v h = record { clear = λ e. (v, refl); place = λ axis e. (v, refl, h axis e); limit = λ l e. absurd (cc); unmet = λ e. absurd (cc) }

  is_limit : (m : Limit) (v : Value) → number v ≡ limit_in scope m → HasSense (record (plain true) { limit = Some m }) (Ok v)
  is_limit m v h = record { clear = λ e. (v, refl); place = λ axis e. absurd (cc); limit = λ l e. (v, refl, h ∙ ap (limit_in scope) (same_limit m l e)); unmet = λ e. absurd (cc) }

  lit_sensed : (variable : Who) (class : Class) (v : Value) → HasSense (sense_step variable class (expr.Lit v)) (Ok v)
  lit_sensed variable class (Fixed n) = is_limit (limit.Number n) (Fixed n) refl
  lit_sensed variable class _ = is_plain true _ (λ e. (_, refl))

  -- the loop's agent stands at the point
  abbrev pub StandsHere : Who → Class → Type 0
  StandsHere variable class = (i : ℕ) (axis : Axis) → axis_at class i ≡ Some axis → number (value_at (agent_of scope variable).states i) ≡ coordinate axis p

  field_sensed : (variable : Who) (class : Class) (who : Who) (i : ℕ) → StandsHere variable class → HasSense (field_sense variable class who i) (Ok (value_at (agent_of scope who).states i))
  field_sensed Outer class Outer i here = is_placed (axis_at class i) _ (here i)
  field_sensed Outer class Inner i here = is_plain true _ (λ e. (_, refl))
  field_sensed Outer class This i here = is_limit (limit.State i) _ refl
  field_sensed Inner class Outer i here = is_plain true _ (λ e. (_, refl))
  field_sensed Inner class Inner i here = is_placed (axis_at class i) _ (here i)
  field_sensed Inner class This i here = is_limit (limit.State i) _ refl
  field_sensed This class Outer i here = is_plain true _ (λ e. (_, refl))
  field_sensed This class Inner i here = is_plain true _ (λ e. (_, refl))
  field_sensed This class This i here = is_limit (limit.State i) _ refl

  -- the parts of a bound that is not met
  unmet_bound : (P : Type 0) (place : Option Axis) (s : Option Side) (l : Option Limit) → list_all (meets scope p) (bound_of place s l) ≡ false
      → ((axis : Axis) (side : Side) (m : Limit) → place ≡ Some axis → s ≡ Some side → l ≡ Some m → stands side (limit_in scope m) (coordinate axis p) ≡ false → P) → P
  unmet_bound P (Some axis) (Some side) (Some m) e next = next axis side m refl refl refl (and_first_is _ true e refl)
  unmet_bound P None s l e next = absurd (cc)
  unmet_bound P (Some axis) None l e next = absurd (cc)
  unmet_bound P (Some axis) (Some side) None e next = absurd (cc)

  compared_unmet : (op : BinOp) (site : Option ℕ) (a b : Sense) (u w : Worth) → HasSense a u → HasSense b w
      → list_all (meets scope p) (compared op a b) ≡ false → binary op site u w ≡ Ok (Flag false)
  compared_unmet op site a b u w ha hb e =
      fails_in _ (meets scope p) (bound_of a.place (side_left op) b.limit) (bound_of b.place (side_right op) a.limit) e
      (λ f. unmet_bound _ a.place (side_left op) b.limit f (λ axis s m is_place is_side is_limit far.
      let (x, was_x, at) = ha.place axis is_place in
      let (y, was_y, lim) = hb.limit m is_limit in
      ap (λ z. binary op site z w) was_x ∙ ap (binary op site (Ok x)) was_y ∙ left_is op s site x y is_side
      ∙ ap (λ z. Ok (Flag (stands s z (number x)))) lim ∙ ap (λ z. Ok (Flag (stands s (limit_in scope m) z))) at ∙ ap (λ z. Ok (Flag z)) far))
      (λ f. unmet_bound _ b.place (side_right op) a.limit f (λ axis s m is_place is_side is_limit far.
      let (y, was_y, at) = hb.place axis is_place in
      let (x, was_x, lim) = ha.limit m is_limit in
      ap (λ z. binary op site z w) was_x ∙ ap (binary op site (Ok x)) was_y ∙ right_is op s site x y is_side
      ∙ ap (λ z. Ok (Flag (stands s z (number y)))) lim ∙ ap (λ z. Ok (Flag (stands s (limit_in scope m) z))) at ∙ ap (λ z. Ok (Flag z)) far))

  -- two operands that are clear, and an operation without a site
  operands_clear : (op : BinOp) (site : Option ℕ) (a b : Sense) (u w : Worth) → is_sited (binary_faults op) site ≡ true → HasSense a u → HasSense b w
      → (a.clear && (b.clear && is_none site)) ≡ true → IsValue (binary op site u w)
  operands_clear op site a b u w sited ha hb e =
      let (first, more) = and_parts _ _ e in
      let (second, none) = and_parts _ _ more in
      let (x, was_x) = ha.clear first in
      let (y, was_y) = hb.clear second in
      let (v, is) = binary_clear op site x y sited none in
      (v, ap (λ z. binary op site z w) was_x ∙ ap (binary op site (Ok x)) was_y ∙ is)

  compare_sensed : (op : BinOp) (site : Option ℕ) (a b : Sense) (u w : Worth) → is_sited (binary_faults op) site ≡ true → HasSense a u → HasSense b w
      → HasSense (record (plain (a.clear && (b.clear && is_none site))) { bounds = if a.clear && (b.clear && is_none site) then compared op a b else [] }) (binary op site u w)
  compare_sensed op site a b u w sited ha hb = record {
    clear = operands_clear op site a b u w sited ha hb;
    place = λ axis e. absurd (cc);
    limit = λ l e. absurd (cc);
    unmet = λ e. fails_where _ (meets scope p) (a.clear && (b.clear && is_none site)) (compared op a b) e (λ clear f. compared_unmet op site a b u w ha hb f);
  }

  and_sensed : (site : Option ℕ) (a b : Sense) (u w : Worth) → is_sited false site ≡ true → HasSense a u → HasSense b w
      → HasSense (binary_sense bin.And (a.clear && (b.clear && is_none site)) a b) (binary bin.And site u w)
  and_sensed site a b u w sited ha hb = record {
    clear = operands_clear bin.And site a b u w sited ha hb;
    place = λ axis e. absurd (cc);
    limit = λ l e. absurd (cc);
    unmet = λ e. fails_in _ (meets scope p) a.bounds (if a.clear then b.bounds else []) e
        (λ f. ap (λ z. binary bin.And site z w) (ha.unmet f))
        (λ f. fails_where _ (meets scope p) a.clear b.bounds f (λ clear g.
        let (x, was) = ha.clear clear in
        ap (λ z. binary bin.And site z w) was ∙ ap (λ z. choose x z (Ok (Flag false))) (hb.unmet g) ∙ choose_same x (Ok (Flag false))));
  }

  binary_sensed : (op : BinOp) (site : Option ℕ) (a b : Sense) (u w : Worth) → is_sited (binary_faults op) site ≡ true → HasSense a u → HasSense b w
      → HasSense (binary_sense op (a.clear && (b.clear && is_none site)) a b) (binary op site u w)
  binary_sensed bin.And site a b u w sited ha hb = and_sensed site a b u w sited ha hb
  binary_sensed bin.Add site a b u w sited ha hb = compare_sensed bin.Add site a b u w sited ha hb
  binary_sensed bin.Sub site a b u w sited ha hb = compare_sensed bin.Sub site a b u w sited ha hb
  binary_sensed bin.Mul site a b u w sited ha hb = compare_sensed bin.Mul site a b u w sited ha hb
  binary_sensed bin.Div site a b u w sited ha hb = compare_sensed bin.Div site a b u w sited ha hb
  binary_sensed bin.Rem site a b u w sited ha hb = compare_sensed bin.Rem site a b u w sited ha hb
  binary_sensed bin.Lt site a b u w sited ha hb = compare_sensed bin.Lt site a b u w sited ha hb
  binary_sensed bin.Le site a b u w sited ha hb = compare_sensed bin.Le site a b u w sited ha hb
  binary_sensed bin.Gt site a b u w sited ha hb = compare_sensed bin.Gt site a b u w sited ha hb
  binary_sensed bin.Ge site a b u w sited ha hb = compare_sensed bin.Ge site a b u w sited ha hb
  binary_sensed bin.Eq site a b u w sited ha hb = compare_sensed bin.Eq site a b u w sited ha hb
  binary_sensed bin.Ne site a b u w sited ha hb = compare_sensed bin.Ne site a b u w sited ha hb
  binary_sensed bin.Min site a b u w sited ha hb = compare_sensed bin.Min site a b u w sited ha hb
  binary_sensed bin.Max site a b u w sited ha hb = compare_sensed bin.Max site a b u w sited ha hb
  binary_sensed bin.Or site a b u w sited ha hb = compare_sensed bin.Or site a b u w sited ha hb

  unary_sensed : (op : UnOp) (site : Option ℕ) (a : Sense) (u : Worth) → is_sited (unary_faults op) site ≡ true → HasSense a u
      → HasSense (plain (a.clear && is_none site)) (with_value u (unary op site))
  unary_sensed op site a u sited ha = is_plain (a.clear && is_none site) _ (λ e.
      let (clear, none) = and_parts _ _ e in
      let (x, was) = ha.clear clear in
      let (v, is) = unary_clear op site x sited none in
      (v, ap (λ z. with_value z (unary op site)) was ∙ is))

  choice_sensed : (c a b : Sense) (t u w : Worth) → HasSense c t → HasSense a u → HasSense b w
      → HasSense (plain (c.clear && (a.clear && b.clear))) (with_value t (λ x. choose x u w))
  choice_sensed c a b t u w hc ha hb = is_plain (c.clear && (a.clear && b.clear)) _ (λ e.
      let (test, more) = and_parts _ _ e in
      let (first, second) = and_parts _ _ more in
      let (x, was_x) = hc.clear test in
      let (y, was_y) = ha.clear first in
      let (z, was_z) = hb.clear second in
      let (v, is) = choose_clear x y z in
      (v, ap (λ k. with_value k (λ x. choose x u w)) was_x ∙ ap (λ k. choose x k w) was_y ∙ ap (choose x (Ok y)) was_z ∙ is))

  -- ---- expressions

  module _ (variable : Who) (class : Class) (here : StandsHere variable class) (names : Names) where
    abbrev IsSensed : Expr → Type 0
    IsSensed e = (t : Ty) → type_of e names ≡ Some t → HasSense (sense variable class e) (value e scope)

    abbrev Sensed : Type 0
    Sensed = (e : Expr) × IsSensed e

    abbrev sensed_one : Sensed → Expr
    sensed_one q = q.0

    abbrev Types : Type 0
    Types = Names → Option Ty

    abbrev Worths : Type 0
    Worths = Scope → Worth

    layer_sensed : (y : expr.Expr-F Sensed) (t : Ty) → type_step (map-Expr Expr Types type_of (map-Expr Sensed Expr sensed_one y)) names ≡ Some t
        → HasSense (sense_step variable class (map-Expr Expr Sense (sense variable class) (map-Expr Sensed Expr sensed_one y))) (value_step (map-Expr Expr Worths value (map-Expr Sensed Expr sensed_one y)) scope)
    layer_sensed (expr.Lit v) t e = lit_sensed variable class v
    layer_sensed (expr.Field who i) t e = field_sensed variable class who i here
    layer_sensed (expr.Total effect type site) t e = is_plain (is_none site) _ (total_clear type site _)
    layer_sensed (expr.Local n) t e = is_limit (limit.Constant n) _ refl
    layer_sensed (expr.Unary op site a) t e =
        let q = passed (type_of a.0 names) (unary_type op) t (chosen_some (is_sited (unary_faults op) site) _ t e) in
        unary_sensed op site (sense variable class a.0) (value a.0 scope) (chosen_true (is_sited (unary_faults op) site) _ t e) (a.1 q.from q.was)
    layer_sensed (expr.Binary op site a b) t e =
        let q = passed (type_of a.0 names) (λ s. option_and_then (binary_type op s) (type_of b.0 names)) t (chosen_some (is_sited (binary_faults op) site) _ t e) in
        let r = passed (type_of b.0 names) (binary_type op q.from) t q.gives in
        binary_sensed op site (sense variable class a.0) (sense variable class b.0) (value a.0 scope) (value b.0 scope)
        (chosen_true (is_sited (binary_faults op) site) _ t e) (a.1 q.from q.was) (b.1 r.from r.was)
    layer_sensed (expr.Choice c a b) t e =
        let q = passed (type_of c.0 names) (λ p. option_and_then (λ s. option_and_then (choice_type p s) (type_of b.0 names)) (type_of a.0 names)) t e in
        let r = passed (type_of a.0 names) (λ s. option_and_then (choice_type q.from s) (type_of b.0 names)) t q.gives in
        let k = passed (type_of b.0 names) (choice_type q.from r.from) t r.gives in
        choice_sensed (sense variable class c.0) (sense variable class a.0) (sense variable class b.0) (value c.0 scope) (value a.0 scope) (value b.0 scope)
        (c.1 q.from q.was) (a.1 r.from r.was) (b.1 k.from k.was)
    layer_sensed (expr.Rand site) t e = is_plain false _ (λ f. absurd (cc))

    pub sensed : (e : Expr) → IsSensed e
    sensed = ind-Expr IsSensed (λ x y is t e.
        let typed_so : type_step (map-Expr Expr Types type_of x) names ≡ Some t = sym (ap (λ f. f names) (fold-roll-Expr Types type_step x)) ∙ e in
        let layer = subst (λ z. type_step (map-Expr Expr Types type_of z) names ≡ Some t
        → HasSense (sense_step variable class (map-Expr Expr Sense (sense variable class) z)) (value_step (map-Expr Expr Worths value z) scope)) is
        (layer_sensed y t) typed_so in
        subst (λ s. HasSense s (value (roll-Expr x) scope)) (sym (fold-roll-Expr Sense (sense_step variable class) x))
        (subst (λ w. HasSense (sense_step variable class (map-Expr Expr Sense (sense variable class) x)) w) (sym (ap (λ f. f scope) (fold-roll-Expr Worths value_step x))) layer))
