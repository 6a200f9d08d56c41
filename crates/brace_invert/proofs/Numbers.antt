-- What a part of a block keeps of the block's numbers: all constants, some sites, loops and assignments, in their order.
use Rattle.std.proofs.Common.{◌≡◌, ◌∙◌, refl, sym, ap, ap₂, ℕ, ◌+◌, ◌≤◌, List, [], ◌∷◌, ◌++◌, map, flat_map, sum, false, arith, append_assoc, ◌<◌, length, get_or, take}
use Rattle.std.specs.List.{concat, sum_by}
use Rattle.std.proofs.lemmas.List.{append-nil, map-append, length-append}
use Rattle.std.proofs.lemmas.List.Concat.{flat_map-append, concat_is}
use Rattle.std.proofs.lemmas.List.Folds.{flat_map-map}
use Rattle.std.proofs.lemmas.List.Sums.{sum-map, sum_by-cons, sum_by-append}
use Rattle.brace_model.specs.declared.program.Value.TheVariants.{Flag}
use Rattle.brace_model.specs.declared.program.Expr.{Expr}
use Rattle.brace_model.specs.declared.program.Expr.TheVariants.{Lit}
use Rattle.brace_model.specs.declared.program.Stmt.{Stmt}
use Rattle.brace_model.specs.declared.program.Stmt.TheVariants.{Const, If, Foreach, Assign}
use Rattle.brace_model.specs.Query.{constants}
use Rattle.brace_model.specs.Sites.{sites_of, sites_in, constant_numbers, loop_offsets, assignments}
use Rattle.brace_model.proofs.ValueEquations.{constants-Const, constants-If, constants-Foreach, constants-Assign}
use Rattle.brace_model.proofs.LawEquations.{sites_of-Lit, sites_in-Const, sites_in-If, sites_in-Foreach, constant_numbers-Const, constant_numbers-If, constant_numbers-Foreach, constant_numbers-Assign, loop_offsets-Const, loop_offsets-If, loop_offsets-Foreach, assignments-Const, assignments-If, assignments-Foreach}
use Rattle.brace_invert.specs.Split.{unread, places}
use Rattle.brace_invert.proofs.Sublists.{Sub, none, sub-refl, sub-append, sub-right, sub-by}
use Rattle.brace_model.proofs.Blocks as b
use Rattle.brace_model.proofs.Blocks.{Plain, plain}
use Rattle.brace_invert.proofs.Pruned as pruned
use Rattle.brace_invert.proofs.Pruned.{Pruned}
use Rattle.brace_num.proofs.Lists.{flat_map_next}

-- counts over a list
pub count-cons : {A : Type 0} (f : A → ℕ) (x : A) (xs : List A) → sum (map f (x ∷ xs)) ≡ f x + sum (map f xs)
count-cons f x xs = sum-map f (x ∷ xs) ∙ sum_by-cons f x xs ∙ ap (λ n. f x + n) (sym (sum-map f xs))

pub count-append : {A : Type 0} (f : A → ℕ) (xs ys : List A) → sum (map f (xs ++ ys)) ≡ sum (map f xs) + sum (map f ys)
count-append f xs ys = sum-map f (xs ++ ys) ∙ sum_by-append f xs ys ∙ ap (λ n. n + sum_by f ys) (sym (sum-map f xs)) ∙ ap (λ n. sum (map f xs) + n) (sym (sum-map f ys))

pub concat-map : {A : Type 0} (f : A → List ℕ) (xs : List A) → concat (map f xs) ≡ flat_map f xs
concat-map f xs = concat_is (map f xs) ∙ flat_map-map (λ x. x) f xs

-- what blocks carry
pub sites-If : (c : Expr) (a b : List Stmt) → sites_in (If c a b) ≡ sites_of c ++ (flat_map sites_in a ++ flat_map sites_in b)
sites-If c a b = sites_in-If c a b ∙ ap₂ (λ t u. sites_of c ++ (t ++ u)) (concat-map sites_in a) (concat-map sites_in b)

pub sites-Foreach : (class : ℕ) (body : List Stmt) (at : ℕ) → sites_in (Foreach class body at) ≡ flat_map sites_in body
sites-Foreach class body at = sites_in-Foreach class body at ∙ concat-map sites_in body

pub numbers-If : (c : Expr) (a b : List Stmt) → constant_numbers (If c a b) ≡ flat_map constant_numbers a ++ flat_map constant_numbers b
numbers-If c a b = constant_numbers-If c a b ∙ ap (λ t. t ++ concat (map constant_numbers b)) (concat-map constant_numbers a) ∙ ap (λ t. flat_map constant_numbers a ++ t) (concat-map constant_numbers b)

pub numbers-Foreach : (class : ℕ) (body : List Stmt) (at : ℕ) → constant_numbers (Foreach class body at) ≡ flat_map constant_numbers body
numbers-Foreach class body at = constant_numbers-Foreach class body at ∙ concat-map constant_numbers body

pub loops-If : (c : Expr) (a b : List Stmt) → loop_offsets (If c a b) ≡ flat_map loop_offsets a ++ flat_map loop_offsets b
loops-If c a b = loop_offsets-If c a b ∙ ap (λ t. t ++ concat (map loop_offsets b)) (concat-map loop_offsets a) ∙ ap (λ t. flat_map loop_offsets a ++ t) (concat-map loop_offsets b)

pub loops-Foreach : (class : ℕ) (body : List Stmt) (at : ℕ) → loop_offsets (Foreach class body at) ≡ at ∷ flat_map loop_offsets body
loops-Foreach class body at = loop_offsets-Foreach class body at ∙ ap (λ t. at ∷ t) (concat-map loop_offsets body)

-- constants that nothing reads
numbers-unread : (ns : List ℕ) → flat_map constant_numbers (map unread ns) ≡ ns
numbers-unread [] = refl
numbers-unread (n ∷ ns) = ap (λ t. t ++ flat_map constant_numbers (map unread ns)) (constant_numbers-Const n (Lit (Flag false))) ∙ ap (λ t. n ∷ t) (numbers-unread ns)

assignments-unread : (ns : List ℕ) → sum (map assignments (map unread ns)) ≡ 0
assignments-unread [] = refl
assignments-unread (n ∷ ns) =
    omega (arith, assignments-unread ns, assignments-Const n (Lit (Flag false)), count-cons assignments (unread n) (map unread ns))

pub numbers-places : (ns : List ℕ) → flat_map constant_numbers (places ns) ≡ ns
numbers-places [] = refl
numbers-places (n ∷ ns) = append-nil (constant_numbers (If (Lit (Flag false)) (map unread (n ∷ ns)) [])) ∙ numbers-If (Lit (Flag false)) (map unread (n ∷ ns)) []
    ∙ append-nil (flat_map constant_numbers (map unread (n ∷ ns))) ∙ numbers-unread (n ∷ ns)

pub assignments-places : (ns : List ℕ) → sum (map assignments (places ns)) ≡ 0
assignments-places [] = refl
assignments-places (n ∷ ns) = omega (arith, assignments-unread (n ∷ ns), assignments-If (Lit (Flag false)) (map unread (n ∷ ns)) [])

-- the constants of a part are those of its block
pub numbers_kept : (s p : List Stmt) → Pruned s p → flat_map constant_numbers p ≡ flat_map constant_numbers s
numbers_kept _ _ pruned.none = refl
numbers_kept _ _ (pruned.const n e s p h) = ap (λ t. constant_numbers (Const n e) ++ t) (numbers_kept s p h)
numbers_kept _ _ (pruned.cond c a pa b pb s p ha hb h) =
    ap (λ t. t ++ flat_map constant_numbers p) (numbers-If c pa pb ∙ ap (λ t. t ++ flat_map constant_numbers pb) (numbers_kept a pa ha) ∙ ap (λ t. flat_map constant_numbers a ++ t) (numbers_kept b pb hb) ∙ sym (numbers-If c a b))
    ∙ ap (λ t. constant_numbers (If c a b) ++ t) (numbers_kept s p h)
numbers_kept _ _ (pruned.loop class at body pb s p hb h) =
    ap (λ t. t ++ flat_map constant_numbers p) (numbers-Foreach class pb at ∙ numbers_kept body pb hb ∙ sym (numbers-Foreach class body at))
    ∙ ap (λ t. constant_numbers (Foreach class body at) ++ t) (numbers_kept s p h)
numbers_kept _ _ (pruned.away class at body s p h) =
    flat_map-append constant_numbers (places (flat_map constant_numbers body)) p
    ∙ ap (λ t. t ++ flat_map constant_numbers p) (numbers-places (flat_map constant_numbers body) ∙ sym (numbers-Foreach class body at))
    ∙ ap (λ t. constant_numbers (Foreach class body at) ++ t) (numbers_kept s p h)
numbers_kept _ _ (pruned.kept who effect e at s p h) = ap (λ t. constant_numbers (Assign who effect e at) ++ t) (numbers_kept s p h)
numbers_kept _ _ (pruned.left_out who effect e at s p h) = numbers_kept s p h ∙ ap (λ t. t ++ flat_map constant_numbers s) (sym (constant_numbers-Assign who effect e at))

-- how many constants a block declares
pub constants_are : (s : List Stmt) → Plain s → length (flat_map constant_numbers s) ≡ sum (map constants s)
constants_are _ b.none = refl
constants_are _ (b.const n e s h) =
    ap (λ t. length (t ++ flat_map constant_numbers s)) (constant_numbers-Const n e) ∙ omega (arith, constants_are s h, count-cons constants (Const n e) s, constants-Const n e)
constants_are _ (b.cond c x y s hx hy h) =
    let joined = length-append (flat_map constant_numbers x ++ flat_map constant_numbers y) (flat_map constant_numbers s) in
    ap (λ t. length (t ++ flat_map constant_numbers s)) (numbers-If c x y)
    ∙ omega (arith, constants_are s h, constants_are x hx, constants_are y hy, count-cons constants (If c x y) s, constants-If c x y, length-append (flat_map constant_numbers x) (flat_map constant_numbers y), joined)
constants_are _ (b.loop class at body s hb h) =
    ap (λ t. length (t ++ flat_map constant_numbers s)) (numbers-Foreach class body at)
    ∙ omega (arith, constants_are s h, constants_are body hb, count-cons constants (Foreach class body at) s, constants-Foreach class body at, length-append (flat_map constant_numbers body) (flat_map constant_numbers s))
constants_are _ (b.say who effect e at s h) =
    ap (λ t. length (t ++ flat_map constant_numbers s)) (constant_numbers-Assign who effect e at) ∙ omega (arith, constants_are s h, count-cons constants (Assign who effect e at) s, constants-Assign who effect e at)

pub constants_kept : (s p : List Stmt) → Pruned s p → sum (map constants p) ≡ sum (map constants s)
constants_kept s p h = sym (constants_are p (plain p)) ∙ ap length (numbers_kept s p h) ∙ constants_are s (plain s)

-- numbers that stand in conditions and at loops: those of a part are some of its block's
module _ (f : Stmt → List ℕ) (g : Expr → List ℕ) (at : ℕ → List ℕ) (of_if : (c : Expr) (a b : List Stmt) → f (If c a b) ≡ g c ++ (flat_map f a ++ flat_map f b)) (of_loop : (class : ℕ) (body : List Stmt) (k : ℕ) → f (Foreach class body k) ≡ at k ++ flat_map f body)
    (of_false : g (Lit (Flag false)) ≡ []) (of_unread : (n : ℕ) → f (unread n) ≡ []) where
  unread_none : (ns : List ℕ) → flat_map f (map unread ns) ≡ []
  unread_none [] = refl
  unread_none (n ∷ ns) = ap₂ (λ t u. t ++ u) (of_unread n) (unread_none ns)

  places_none : (ns : List ℕ) → flat_map f (places ns) ≡ []
  places_none [] = refl
  places_none (n ∷ ns) = append-nil (f (If (Lit (Flag false)) (map unread (n ∷ ns)) [])) ∙ of_if (Lit (Flag false)) (map unread (n ∷ ns)) [] ∙ ap₂ (λ t u. t ++ (u ++ [])) of_false (unread_none (n ∷ ns))

  some_kept : (s p : List Stmt) → Pruned s p → Sub (flat_map f p) (flat_map f s)
  some_kept _ _ pruned.none = none
  some_kept _ _ (pruned.const n e s p h) = sub-append _ _ _ _ (sub-refl (f (Const n e))) (some_kept s p h)
  some_kept _ _ (pruned.cond c a pa x px s p ha hx h) =
      sub-append (f (If c pa px)) (f (If c a x)) _ _
      (sub-by _ _ _ _ (of_if c pa px) (of_if c a x) (sub-append _ _ _ _ (sub-refl (g c)) (sub-append _ _ _ _ (some_kept a pa ha) (some_kept x px hx)))) (some_kept s p h)
  some_kept _ _ (pruned.loop class k body pb s p hb h) =
      sub-append (f (Foreach class pb k)) (f (Foreach class body k)) _ _ (sub-by _ _ _ _ (of_loop class pb k) (of_loop class body k) (sub-append _ _ _ _ (sub-refl (at k)) (some_kept body pb hb))) (some_kept s p h)
  some_kept _ _ (pruned.away class k body s p h) =
      sub-by _ _ _ _ (flat_map-append f (places (flat_map constant_numbers body)) p ∙ ap (λ t. t ++ flat_map f p) (places_none (flat_map constant_numbers body))) refl
      (sub-right (f (Foreach class body k)) _ _ (some_kept s p h))
  some_kept _ _ (pruned.kept who effect e k s p h) = sub-append _ _ _ _ (sub-refl (f (Assign who effect e k))) (some_kept s p h)
  some_kept _ _ (pruned.left_out who effect e k s p h) = sub-right (f (Assign who effect e k)) _ _ (some_kept s p h)

-- so are its sites, and the offsets of its loops
pub sites_kept : (s p : List Stmt) → Pruned s p → Sub (flat_map sites_in p) (flat_map sites_in s)
sites_kept = some_kept sites_in sites_of (λ k. []) sites-If sites-Foreach (sites_of-Lit (Flag false)) (λ n. sites_in-Const n (Lit (Flag false)) ∙ sites_of-Lit (Flag false))

pub loops_kept : (s p : List Stmt) → Pruned s p → Sub (flat_map loop_offsets p) (flat_map loop_offsets s)
loops_kept = some_kept loop_offsets (λ c. []) (λ k. k ∷ []) loops-If loops-Foreach refl (λ n. loop_offsets-Const n (Lit (Flag false)))

-- a part has no more assignments than its block
pub assignments_kept : (s p : List Stmt) → Pruned s p → sum (map assignments p) ≤ sum (map assignments s)
assignments_kept _ _ pruned.none = omega arith
assignments_kept _ _ (pruned.const n e s p h) =
    omega (arith, assignments_kept s p h, count-cons assignments (Const n e) s, count-cons assignments (Const n e) p)
assignments_kept _ _ (pruned.cond c a pa x px s p ha hx h) =
    omega (arith, assignments_kept s p h, assignments_kept a pa ha, assignments_kept x px hx, assignments-If c a x, assignments-If c pa px, count-cons assignments (If c a x) s, count-cons assignments (If c pa px) p)
assignments_kept _ _ (pruned.loop class at body pb s p hb h) =
    omega (arith, assignments_kept s p h, assignments_kept body pb hb, assignments-Foreach class body at, assignments-Foreach class pb at, count-cons assignments (Foreach class body at) s, count-cons assignments (Foreach class pb at) p)
assignments_kept _ _ (pruned.away class at body s p h) =
    omega (arith, assignments_kept s p h, count-append assignments (places (flat_map constant_numbers body)) p, assignments-places (flat_map constant_numbers body), count-cons assignments (Foreach class body at) s)
assignments_kept _ _ (pruned.kept who effect e at s p h) =
    omega (arith, assignments_kept s p h, count-cons assignments (Assign who effect e at) s, count-cons assignments (Assign who effect e at) p)
assignments_kept _ _ (pruned.left_out who effect e at s p h) = omega (arith, assignments_kept s p h, count-cons assignments (Assign who effect e at) s)

-- declarations that are added one statement after another
pub unread_more : (first : List Stmt) (xs : List Stmt) (i : ℕ) (x : Stmt) → i < length xs → x ≡ get_or xs i x
    → (first ++ map unread (flat_map constant_numbers (take i xs))) ++ map unread (constant_numbers x) ≡ first ++ map unread (flat_map constant_numbers (take (i + 1) xs))
unread_more first xs i x below is =
    append_assoc first (map unread (flat_map constant_numbers (take i xs))) (map unread (constant_numbers x))
    ∙ ap (λ t. first ++ t) (sym (map-append unread (flat_map constant_numbers (take i xs)) (constant_numbers x)) ∙ ap (map unread) (sym (flat_map_next constant_numbers xs i x below is)))

pub unread-If : (first : List Stmt) (c : Expr) (a b : List Stmt) → (first ++ map unread (flat_map constant_numbers a)) ++ map unread (flat_map constant_numbers b) ≡ first ++ map unread (constant_numbers (If c a b))
unread-If first c a b =
    append_assoc first (map unread (flat_map constant_numbers a)) (map unread (flat_map constant_numbers b))
    ∙ ap (λ t. first ++ t) (sym (map-append unread (flat_map constant_numbers a) (flat_map constant_numbers b)) ∙ ap (map unread) (sym (numbers-If c a b)))

pub ruleset unread_rules = (unread_more, unread-If, numbers-Foreach, constant_numbers-Const, constant_numbers-Assign)
