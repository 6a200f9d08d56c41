-- Of what lists come: an item of a list that was made of others is made of one of their items.
use Rattle.std.proofs.Common.{◌≡◌, ◌∙◌, refl, sym, ap, subst, ℕ, suc, List, [], ◌∷◌, map, filter, filter_map, flat_map, zip, take, get_or-take, Bool, true, Option, Some, None, Contains, inl, inr, arith}
use Rattle.std.specs.Prelude.{◌==◌}
use Rattle.std.specs.List.{list_any, cons_option}
use Rattle.std.proofs.lemmas.Bool.{eqb-true, eq-eqb}
use Rattle.std.proofs.lemmas.List.{length-take}
use Rattle.std.proofs.lemmas.List.Elements.{Contains-append_left, Contains-append_right, Contains-append_cases}
use Rattle.brace_model.specs.declared.world.Agent.{Agent}
use Rattle.brace_model.specs.Step.{numbered}
use Rattle.std.proofs.lemmas.List.Folds.{Any-from_list_any, list_any_at}
use Rattle.brace_invert.proofs.Heard.{seen_in}
use Rattle.brace_num.proofs.Lists.{in_more, in_first, in_filter, first_or_later}

-- an item that something is made of
pub record MadeOf {A B : Type 0} (h : A → Option B) (xs : List A) (b : B) : Type 0 where
  pub from : A
  pub there : Contains xs from
  pub made : h from ≡ Some b

one_more : {A B : Type 0} (h : A → Option B) (x : A) (xs : List A) (b : B) → MadeOf h xs b → MadeOf h (x ∷ xs) b
one_more h x xs b m = record { from = m.from; there = in_more x xs m.from m.there; made = m.made }

pub of_filter_map : {A B : Type 0} (h : A → Option B) (xs : List A) (b : B) → Contains (filter_map h xs) b → MadeOf h xs b
of_filter_map h [] b (k, low, is) = absurd (omega (arith, low))
of_filter_map h (x ∷ xs) b has = (elim (h x) as (λ o. h x ≡ o → Contains (cons_option o (filter_map h xs)) b → MadeOf h (x ∷ xs) b) [
  | None ↦ λ is has. one_more h x xs b (of_filter_map h xs b has)
  | Some y ↦ λ is has. elim (first_or_later y (filter_map h xs) b has) [
    | inl same ↦ record { from = x; there = in_first x xs; made = is ∙ ap Some same }
    | inr behind ↦ one_more h x xs b (of_filter_map h xs b behind)
  ]
]) refl has

pub of_map : {A B : Type 0} (f : A → B) (xs : List A) (b : B) → Contains (map f xs) b → MadeOf (λ a. Some (f a)) xs b
of_map f xs b has = of_filter_map (λ a. Some (f a)) xs b (subst (λ ys. Contains ys b) (map_made xs) has)
  where
    map_made : (xs : List _) → map f xs ≡ filter_map (λ a. Some (f a)) xs
    map_made [] = refl
    map_made (x ∷ xs) = ap (λ ys. f x ∷ ys) (map_made xs)

-- an item that gives something
pub record GivenBy {A B : Type 0} (f : A → List B) (xs : List A) (b : B) : Type 0 where
  pub from : A
  pub there : Contains xs from
  pub gives : Contains (f from) b

pub of_flat_map : {A B : Type 0} (f : A → List B) (xs : List A) (b : B) → Contains (flat_map f xs) b → GivenBy f xs b
of_flat_map f [] b (k, low, is) = absurd (omega (arith, low))
of_flat_map f (x ∷ xs) b has = elim (Contains-append_cases (f x) (flat_map f xs) b has) [
  | inl here ↦ record { from = x; there = in_first x xs; gives = here }
  | inr behind ↦ let g = of_flat_map f xs b behind in record { from = g.from; there = in_more x xs g.from g.there; gives = g.gives }
]

-- what an item gives all of them give
pub flat_map_of : {A B : Type 0} (f : A → List B) (xs : List A) (a : A) (b : B) → Contains xs a → Contains (f a) b → Contains (flat_map f xs) b
flat_map_of f [] a b (k, low, is) gives = absurd (omega (arith, low))
flat_map_of f (x ∷ xs) a b has gives = elim (first_or_later x xs a has) [
  | inl same ↦ Contains-append_left (f x) (flat_map f xs) b (subst (λ y. Contains (f y) b) (sym same) gives)
  | inr behind ↦ Contains-append_right (f x) (flat_map f xs) b (flat_map_of f xs a b behind gives)
]

-- some first items are items
pub of_take : {A : Type 0} (n : ℕ) (xs : List A) (a : A) → Contains (take n xs) a → Contains xs a
of_take n xs a (k, low, is) =
    let long = length-take n xs in
    (k, omega (arith, low, long), sym (get_or-take n xs k a (omega (arith, low, long))) ∙ is)

-- a child with an id of its own
pub record IsNumberedOf (born : List Agent) (d : ℕ × Agent) : Type 0 where
  pub child : Agent
  pub there : Contains born child
  pub number : ℕ
  pub is : d ≡ (child.id, record child { id = number })

pub of_numbered : (n : ℕ) (born : List Agent) (d : ℕ × Agent) → Contains (map (λ p. (p.0.id, p.1)) (zip born (numbered n born))) d → IsNumberedOf born d
of_numbered n [] d (k, low, is) = absurd (omega (arith, low))
of_numbered n (c ∷ born) d has = elim (first_or_later (c.id, record c { id = n }) (map (λ p. (p.0.id, p.1)) (zip born (numbered (suc n) born))) d has) [
  | inl same ↦ record { child = c; there = in_first c born; number = n; is = sym same }
  | inr behind ↦
      let later = of_numbered (suc n) born d behind in
      record { child = later.child; there = in_more c born later.child later.there; number = later.number; is = later.is }
]

-- an agent of an id that passes a test
pub record OfId (t : Agent → Bool) (xs : List Agent) (id : ℕ) : Type 0 where
  pub agent : Agent
  pub there : Contains xs agent
  pub same_id : agent.id ≡ id
  pub passes : t agent ≡ true

pub of_id : (t : Agent → Bool) (xs : List Agent) (id : ℕ) → list_any (λ b. b.id == id) (filter t xs) ≡ true → OfId t xs id
of_id t xs id e =
    let (k, b, low, is, same) = Any-from_list_any (λ (b : Agent). b.id == id) (filter t xs) e in
    let (there, passes) = seen_in t xs b (k, low, is) in
    record { agent = b; there = there; same_id = eqb-true _ _ same; passes = passes }

-- and the way back
pub id_of : (t : Agent → Bool) (xs : List Agent) (a : Agent) → Contains xs a → t a ≡ true → list_any (λ b. b.id == a.id) (filter t xs) ≡ true
id_of t xs a has passes =
    let (k, low, is) = in_filter t xs a has passes in
    list_any_at (λ (b : Agent). b.id == a.id) (filter t xs) k a low (eq-eqb _ _ (ap (λ (b : Agent). b.id) is))
