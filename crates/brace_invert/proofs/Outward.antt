-- Blocks of an inverse program: values are said to the agents of loops alone.
use Rattle.std.proofs.Common.{◌≡◌, ◌∙◌, refl, subst, ℕ, List, [], ◌∷◌, ◌++◌, map, flat_map, sum, Bool, true, false, Option, Some, None, ◌==◌}
use Rattle.std.specs.Prelude.{if◌then◌else◌, is_none, not, ◌||◌}
use Rattle.std.specs.Option.{option_and_then}
use Rattle.std.specs.List.{list_any}
use Rattle.brace_model.specs.declared.program.Value.TheVariants.{Flag}
use Rattle.brace_model.specs.declared.program.Who.{Who}
use Rattle.brace_model.specs.declared.program.Who.TheVariants.{This, Outer, Inner}
use Rattle.brace_model.specs.declared.program.Effect.{Effect}
use Rattle.brace_model.specs.declared.program.Expr.{Expr}
use Rattle.brace_model.specs.declared.program.Expr.TheVariants.{Lit}
use Rattle.brace_model.specs.declared.program.Stmt.{Stmt}
use Rattle.brace_model.specs.declared.program.Stmt.TheVariants.{Const, If, Foreach, Assign}
use Rattle.brace_model.specs.declared.program.Ty.{Ty}
use Rattle.brace_model.specs.Typing.{Names, type_of, only, class_named, effect_named, takes, within_loop}
use Rattle.brace_model.specs.Sites.{constant_numbers, assignments}
use Rattle.brace_invert.specs.Split.{unread, places, inverse_of}
use Rattle.brace_invert.specs.Range.{says_within}
use Rattle.brace_invert.proofs.PartEquations.{inverse_of-Const, inverse_of-If, inverse_of-Foreach, inverse_of-Assign}
use Rattle.brace_invert.proofs.RangeLemmas.{says_within-If, says_within-Foreach, says_within-Assign}
use Rattle.brace_model.proofs.Blocks as b
use Rattle.brace_model.proofs.Blocks.{Plain}
use Rattle.brace_invert.proofs.Typed.{After, formed_const, formed_if, formed_loop, formed_assign, only_where}
use Rattle.std.proofs.lemmas.Bool.{or_right, or_left}

-- in how many loops a block stands
pub data Depth : Type 0 where
  top : Depth
  middle : Depth
  deepest : Depth

abbrev pub in_a_loop : Depth → Bool
in_a_loop top = false
in_a_loop middle = true
in_a_loop deepest = true

abbrev pub in_an_inner : Depth → Bool
in_an_inner top = false
in_an_inner middle = false
in_an_inner deepest = true

-- a block that says values to the agents of loops alone; in inner loops only where that is allowed
pub data Outward (deep : Bool) : Depth → List Stmt → Type 0 where
  none : (k : Depth) → Outward deep k []
  const : (k : Depth) (n : ℕ) (e : Expr) (s : List Stmt) → Outward deep k s → Outward deep k (Const n e ∷ s)
  cond : (k : Depth) (c : Expr) (a d s : List Stmt) → Outward deep k a → Outward deep k d → Outward deep k s → Outward deep k (If c a d ∷ s)
  loop : (class at : ℕ) (body s : List Stmt) → Outward deep middle body → Outward deep top s → Outward deep top (Foreach class body at ∷ s)
  inner : (class at : ℕ) (body s : List Stmt) → Outward deep deepest body → Outward deep middle s → Outward deep middle (Foreach class body at ∷ s)
  near : (effect : ℕ) (e : Expr) (at : ℕ) (s : List Stmt) → Outward deep middle s → Outward deep middle (Assign Outer effect e at ∷ s)
  far : (effect : ℕ) (e : Expr) (at : ℕ) (s : List Stmt) → deep ≡ true → Outward deep deepest s → Outward deep deepest (Assign Outer effect e at ∷ s)
  farthest : (effect : ℕ) (e : Expr) (at : ℕ) (s : List Stmt) → deep ≡ true → Outward deep deepest s → Outward deep deepest (Assign Inner effect e at ∷ s)

outward_unread : (deep : Bool) (k : Depth) (ns : List ℕ) → Outward deep k (map unread ns)
outward_unread deep k [] = none k
outward_unread deep k (n ∷ ns) = const k n (Lit (Flag false)) (map unread ns) (outward_unread deep k ns)

outward_inner : (deep : Bool) (class at : ℕ) (body s : List Stmt) (silent : Bool) → Outward deep deepest body → Outward deep middle s → Outward deep middle ((if silent then places (flat_map constant_numbers body) else Foreach class body at ∷ []) ++ s)
outward_inner deep class at body s true h rest = outward_places (flat_map constant_numbers body)
  where
    outward_places : (ns : List ℕ) → Outward deep middle (places ns ++ s)
    outward_places [] = rest
    outward_places (n ∷ ns) = cond middle (Lit (Flag false)) (map unread (n ∷ ns)) [] s (outward_unread deep middle (n ∷ ns)) (none middle) rest
outward_inner deep class at body s false h rest = inner class at body s h rest

-- the names that are in scope at a depth
pub record Placed (k : Depth) (names : Names) : Type 0 where
  pub outer : is_none names.outer_class ≡ not (in_a_loop k)
  pub inner_one : is_none names.inner_class ≡ not (in_an_inner k)

nobody : (names : Names) (who : Who) (effect : ℕ) (o : Option Ty) → is_none (class_named names who) ≡ true → takes (effect_named names who effect) o ≡ true → ⊥
nobody names who effect o none_there taken = no_effect (class_named names who) none_there _ taken
  where
    no_effect : (c : Option ℕ) → is_none c ≡ true → (f : ℕ → Option Effect) → takes (option_and_then f c) o ≡ true → ⊥
    no_effect None e f t = absurd (cc)
    no_effect (Some n) e f t = absurd (cc)

-- what an assignment to a loop's agent becomes
one_statement : (deep : Bool) (k : Depth) (who : Who) (effect : ℕ) (e : Expr) (at : ℕ) (s : List Stmt) (names : Names) → Placed k names → takes (effect_named names who effect) (type_of e names) ≡ true
    → (says_within (Assign who effect e at) (in_a_loop k) (in_an_inner k) ≡ true → deep ≡ true) → Outward deep k s → Outward deep k (inverse_of (Assign who effect e at) (in_a_loop k) ++ s)
one_statement deep k This effect e at s names placed taken allowed rest = rw (inverse_of-Assign This effect e at (in_a_loop k)) rest
one_statement deep top Outer effect e at s names placed taken allowed rest = absurd (nobody names Outer effect _ placed.outer taken)
one_statement deep top Inner effect e at s names placed taken allowed rest = absurd (nobody names Inner effect _ placed.inner_one taken)
one_statement deep middle Outer effect e at s names placed taken allowed rest = rw (inverse_of-Assign Outer effect e at true) (near effect e at s rest)
one_statement deep middle Inner effect e at s names placed taken allowed rest = absurd (nobody names Inner effect _ placed.inner_one taken)
one_statement deep deepest Outer effect e at s names placed taken allowed rest = rw (inverse_of-Assign Outer effect e at true) (far effect e at s (allowed (says_within-Assign Outer effect e at true true)) rest)
one_statement deep deepest Inner effect e at s names placed taken allowed rest = rw (inverse_of-Assign Inner effect e at true) (farthest effect e at s (allowed (says_within-Assign Inner effect e at true true)) rest)

-- a scope one loop further in
chosen_within : (first second : Bool) (x y inside : Names) → (if first then Some x else only second y) ≡ Some inside → first ≡ true → x ≡ inside
chosen_within true second x y inside e f = cc
chosen_within false second x y inside e f = absurd (cc)

chosen_deeper : (first second : Bool) (x y inside : Names) → (if first then Some x else only second y) ≡ Some inside → first ≡ false → (second ≡ true) × (y ≡ inside)
chosen_deeper true second x y inside e f = absurd (cc)
chosen_deeper false second x y inside e f = only_where second y inside e

enter_first : (names inside : Names) (class : ℕ) → Placed top names → within_loop names class ≡ Some inside → Placed middle inside
enter_first names inside class placed e =
    subst (Placed middle) (chosen_within (is_none names.outer_class) (is_none names.inner_class) (record names { outer_class = Some class }) (record names { inner_class = Some class }) inside e placed.outer)
    (record { outer = refl; inner_one = placed.inner_one })

enter_second : (names inside : Names) (class : ℕ) → Placed middle names → within_loop names class ≡ Some inside → Placed deepest inside
enter_second names inside class placed e =
    let (free, is) = chosen_deeper (is_none names.outer_class) (is_none names.inner_class) (record names { outer_class = Some class }) (record names { inner_class = Some class }) inside e placed.outer in
    subst (Placed deepest) is (record { outer = placed.outer; inner_one = refl })

enter_never : (names inside : Names) (class : ℕ) → Placed deepest names → within_loop names class ≡ Some inside → ⊥
enter_never names inside class placed e =
    let (free, is) = chosen_deeper (is_none names.outer_class) (is_none names.inner_class) (record names { outer_class = Some class }) (record names { inner_class = Some class }) inside e placed.outer in
    absurd (both_ways (is_none names.inner_class) free placed.inner_one)
  where
    both_ways : (x : Bool) → x ≡ true → x ≡ false → ⊥
    both_ways true e f = absurd (cc)
    both_ways false e f = absurd (cc)

abbrev MaySay : Bool → Depth → List Stmt → Type 0
MaySay deep k s = list_any (λ x. says_within x (in_a_loop k) (in_an_inner k)) s ≡ true → deep ≡ true

pub outward : (deep : Bool) (s : List Stmt) → Plain s → (k : Depth) (names last : Names) → Placed k names → After s names last → MaySay deep k s → Outward deep k (flat_map (λ x. inverse_of x (in_a_loop k)) s)
outward deep _ b.none k names last placed e allowed = none k
outward deep _ (b.const n x s h) k names last placed e allowed =
    let f = formed_const n x s names last e in
    rw (inverse_of-Const n x (in_a_loop k)) (const k n x _ (outward deep s h k _ last (record { outer = placed.outer; inner_one = placed.inner_one }) f.rest
    (λ y. allowed (or_right (says_within (Const n x) (in_a_loop k) (in_an_inner k)) _ y))))
outward deep _ (b.cond c a d s ha hd h) k names last placed e allowed =
    let f = formed_if c a d s names last e in
    let here = λ (y : (list_any (λ x. says_within x (in_a_loop k) (in_an_inner k)) a || list_any (λ x. says_within x (in_a_loop k) (in_an_inner k)) d) ≡ true). allowed (or_left (says_within (If c a d) (in_a_loop k) (in_an_inner k)) _ (says_within-If c a d (in_a_loop k) (in_an_inner k) ∙ y)) in
    rw (inverse_of-If c a d (in_a_loop k)) (cond k c _ _ _ (outward deep a ha k names f.first.0 placed f.first.1 (λ y. here (or_left _ _ y))) (outward deep d hd k names f.second.0 placed f.second.1 (λ y. here (or_right _ _ y)))
    (outward deep s h k names last placed f.rest (λ y. allowed (or_right (says_within (If c a d) (in_a_loop k) (in_an_inner k)) _ y))))
outward deep _ (b.loop class at body s hb h) top names last placed e allowed =
    let f = formed_loop class body at s names last e in
    rw (inverse_of-Foreach class body at false) (loop class at _ _ (outward deep body hb middle f.inside f.body_is_formed.0 (enter_first names f.inside class placed f.entered) f.body_is_formed.1
    (λ y. allowed (or_left (says_within (Foreach class body at) false false) _ (says_within-Foreach class body at false false ∙ y))))
    (outward deep s h top names last placed f.rest (λ y. allowed (or_right (says_within (Foreach class body at) false false) _ y))))
outward deep _ (b.loop class at body s hb h) middle names last placed e allowed =
    let f = formed_loop class body at s names last e in
    rw (inverse_of-Foreach class body at true) (outward_inner deep class at _ _ (sum (map assignments (flat_map (λ x. inverse_of x true) body)) == 0)
    (outward deep body hb deepest f.inside f.body_is_formed.0 (enter_second names f.inside class placed f.entered) f.body_is_formed.1
    (λ y. allowed (or_left (says_within (Foreach class body at) true false) _ (says_within-Foreach class body at true false ∙ y))))
    (outward deep s h middle names last placed f.rest (λ y. allowed (or_right (says_within (Foreach class body at) true false) _ y))))
outward deep _ (b.loop class at body s hb h) deepest names last placed e allowed =
    let f = formed_loop class body at s names last e in absurd (enter_never names f.inside class placed f.entered)
outward deep _ (b.say who effect x at s h) k names last placed e allowed =
    let f = formed_assign who effect x at s names last e in
    one_statement deep k who effect x at _ names placed f.taken (λ y. allowed (or_left (says_within (Assign who effect x at) (in_a_loop k) (in_an_inner k)) _ y))
    (outward deep s h k names last placed f.rest (λ y. allowed (or_right (says_within (Assign who effect x at) (in_a_loop k) (in_an_inner k)) _ y)))
