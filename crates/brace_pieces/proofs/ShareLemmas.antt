-- The shares that a part is told stand for all that is said to its agents.
use Rattle.std.proofs.Common.{◌≡◌, ◌∙◌, refl, sym, ap, ap₂, subst, ℕ, zero, suc, ◌+◌, ◌<◌, ◌≤◌, List, [], ◌∷◌, ◌++◌, map, filter, flat_map, length, Bool, true, false, cond, ◌==◌, Option, Some, None, arith, ⊎_elim, inl, inr}
use Rattle.std.specs.Prelude.{◌&&◌, slice_get}
use Rattle.std.specs.List.{Contains}
use Rattle.std.proofs.lemmas.Bool.{eqb-true, cases_eq, cases_Bool, and_parts}
use Rattle.std.proofs.lemmas.List.{append-nil, length-map}
use Rattle.std.proofs.lemmas.List.Concat.{flat_map-append}
use Rattle.std.proofs.lemmas.List.Elements.{All-contains, Contains-append_cases}
use Rattle.brace_comb.specs.Totals.{tally_of}
use Rattle.brace_model.specs.declared.program.Effect.{Effect}
use Rattle.brace_model.specs.declared.program.Class.{Class}
use Rattle.brace_model.specs.declared.program.Value.{Value}
use Rattle.brace_model.specs.declared.program.Program.{Program}
use Rattle.brace_model.specs.declared.world.Agent.{Agent}
use Rattle.brace_model.specs.World.{ids, class_of}
use Rattle.brace_model.specs.Query.{Saying}
use Rattle.brace_model.specs.Total.{said_to, total_of, totals_from}
use Rattle.brace_invert.proofs.Sublists.{Rising}
use Rattle.brace_invert.proofs.Sites.{none_within, only_one}
use Rattle.brace_invert.proofs.Heard.{seen_in}
use Rattle.brace_pieces.proofs.Origins.{of_flat_map}
use Rattle.brace_pieces.specs.Right.{Share, share_unless_silent, shares_from, shares_to}
use Rattle.brace_pieces.specs.Heard.{sayings_of, IsShareOf}
use Rattle.brace_pieces.proofs.Sayings.{none_given, joined_twice, said_to-each}
use Rattle.brace_num.proofs.Lists.{in_map, filter_weaker}

-- ---- the shares of one agent

-- what a share of other sayings says to an effect
module _ (xs : List Saying) (id k : ℕ) where
  abbrev values : List Value
  values = said_to id k xs

  abbrev given : Share → List Value
  given e = said_to id k (sayings_of xs e)

  none_pass : (t h : Saying → Bool) (ys : List Saying) → ((x : Saying) → h x ≡ true → t x ≡ false) → filter t (filter h ys) ≡ []
  none_pass t h [] fails = refl
  none_pass t h (y ∷ ys) fails = (elim (h y) as (λ c. h y ≡ c → filter t (cond c (y ∷ filter h ys) (filter h ys)) ≡ []) [
    | true ↦ λ is. ap (λ c. cond c (y ∷ filter t (filter h ys)) (filter t (filter h ys))) (fails y is) ∙ none_pass t h ys fails
    | false ↦ λ is. none_pass t h ys fails
  ]) refl

  other_given : (e : Share) → (e.target ≡ id → e.field ≡ k → ⊥) → given e ≡ []
  other_given e other = ap (map (λ x. x.value)) (none_pass (λ x. (x.target == id) && (x.field == k)) (λ x. (x.target == e.target) && (x.field == e.field)) xs (λ x h. elim (cases_Bool ((x.target == id) && (x.field == k))) [
    | inl both ↦
        let (target, field) = and_parts (x.target == id) (x.field == k) both in
        let (same, alike) = and_parts (x.target == e.target) (x.field == e.field) h in
        absurd (other (sym (eqb-true x.target e.target same) ∙ eqb-true x.target id target) (sym (eqb-true x.field e.field alike) ∙ eqb-true x.field k field))
    | inr neither ↦ neither
  ]))

  this_field : (e : Share) → e.target ≡ id → e.field ≡ k → given e ≡ values
  this_field e target field =
      ap₂ (λ i f. map (λ x. x.value) (filter (λ x. (x.target == id) && (x.field == k)) (filter (λ x. (x.target == i) && (x.field == f)) xs))) target field
      ∙ ap (map (λ x. x.value)) (filter_weaker (λ x. (x.target == id) && (x.field == k)) (λ x. (x.target == id) && (x.field == k)) xs (λ x within passes. passes))

  silent_field : (n other : ℕ) (e : Effect) → (other ≡ id → n ≡ k → ⊥) → (vs : List Value) → flat_map given (share_unless_silent other n e vs) ≡ []
  silent_field n other e differs [] = refl
  silent_field n other e differs (v ∷ vs) = append-nil _ ∙ other_given (record { target = other; field = n; total = tally_of e.comb (v ∷ vs) }) differs

  own_field : (n : ℕ) (e : Effect) → n ≡ k → (vs : List Value) → values ≡ vs → flat_map given (share_unless_silent id n e vs) ≡ values
  own_field n e same [] is = sym is
  own_field n e same (v ∷ vs) is = append-nil _ ∙ this_field (record { target = id; field = n; total = tally_of e.comb (v ∷ vs) }) refl same

  silent_fields : (n other : ℕ) (effects : List Effect) → ((j : ℕ) → n ≤ j → other ≡ id → j ≡ k → ⊥) → flat_map given (shares_from n other effects xs) ≡ []
  silent_fields n other [] differs = refl
  silent_fields n other (e ∷ effects) differs =
      flat_map-append given (share_unless_silent other n e (said_to other n xs)) (shares_from (n + 1) other effects xs)
      ∙ ap₂ (λ a b. a ++ b) (silent_field n other e (differs n (omega arith)) (said_to other n xs)) (silent_fields (n + 1) other effects (λ j low. differs j (omega (arith, low))))

  at_field : (n : ℕ) (effects : List Effect) → n ≤ k → k < n + length effects → flat_map given (shares_from n id effects xs) ≡ values
  at_field n [] low high = absurd (omega (arith, low, high))
  at_field n (e ∷ effects) low high =
      flat_map-append given (share_unless_silent id n e (said_to id n xs)) (shares_from (n + 1) id effects xs)
      ∙ (elim (cases_eq n k) [
        | inl same ↦
            ap₂ (λ a b. a ++ b) (own_field n e same (said_to id n xs) (ap (λ j. said_to id j xs) (sym same))) (silent_fields (n + 1) id effects (λ j low _ at. omega (arith, low, at, same)))
            ∙ append-nil values
        | inr other ↦
            ap₂ (λ a b. a ++ b) (silent_field n id e (λ _. other) (said_to id n xs)) (at_field (n + 1) effects (omega (arith, low, other)) (omega (arith, high)))
      ])

-- ---- the one agent of an id

above_first : (x : Agent) (w : List Agent) (y : Agent) → Rising (ids (x ∷ w)) → Contains w y → x.id < y.id
above_first x w y r there = All-contains (λ n. x.id < n) (ids w) y.id r.0 (in_map (λ (a : Agent). a.id) w y there)

alone : {B : Type 0} (f : Agent → List B) (t : Agent → Bool) (b : Agent) → t b ≡ true → (w : List Agent) → Rising (ids w) → Contains w b → ((x : Agent) → (x.id ≡ b.id → ⊥) → f x ≡ []) → flat_map f (filter t w) ≡ f b
alone f t b passes [] r (k, below, is) silent = absurd (omega (arith, below))
alone f t b passes (x ∷ w) r (zero, below, is) silent =
    ap (λ c. flat_map f (cond c (x ∷ filter t w) (filter t w))) (ap t is ∙ passes)
    ∙ ap₂ (λ ys zs. ys ++ zs) (ap f is) (none_given f (filter t w) (λ y kept. silent y (λ same. let up = above_first x w y r (seen_in t w y kept).0 in omega (arith, up, same, ap (λ a. a.id) is))))
    ∙ append-nil (f b)
alone f t b passes (x ∷ w) r (suc k, below, is) silent =
    let there : Contains w b = (k, omega (arith, below), is) in
    let up = above_first x w b r there in
    skip (t x) (silent x (λ same. omega (arith, up, same))) ∙ alone f t b passes w r.1 there silent
  where
    skip : (c : Bool) → f x ≡ [] → flat_map f (cond c (x ∷ filter t w) (filter t w)) ≡ flat_map f (filter t w)
    skip true none = ap (λ ys. ys ++ flat_map f (filter t w)) none
    skip false none = refl

-- what the shares of some agents say to an effect of one of them is what is said to it
pub shares_say : (m : Program) (xs : List Saying) (t : Agent → Bool) (w : List Agent) → Rising (ids w) → (b : Agent) → Contains w b → t b ≡ true → (class : Class) → class_of m b ≡ Some class → (k : ℕ) → k < length class.effects
    → said_to b.id k (flat_map (sayings_of xs) (flat_map (λ a. shares_to xs a (class_of m a)) (filter t w))) ≡ said_to b.id k xs
shares_say m xs t w r b there passes class is k low =
    said_to-each b.id k (sayings_of xs) (flat_map (λ a. shares_to xs a (class_of m a)) (filter t w))
    ∙ joined_twice (given xs b.id k) (λ a. shares_to xs a (class_of m a)) (filter t w)
    ∙ alone (λ a. flat_map (given xs b.id k) (shares_to xs a (class_of m a))) t b passes w r there (λ x other. silent x other (class_of m x))
    ∙ ap (λ o. flat_map (given xs b.id k) (shares_to xs b o)) is
    ∙ at_field xs b.id k 0 class.effects (omega arith) (omega (arith, low))
  where
    silent : (x : Agent) → (x.id ≡ b.id → ⊥) → (o : Option Class) → flat_map (given xs b.id k) (shares_to xs x o) ≡ []
    silent x other None = refl
    silent x other (Some c) = silent_fields xs b.id k 0 x.id c.effects (λ j _ same _. other same)

-- ---- what a share is

shared_value : (m : Program) (agents : List Agent) (xs : List Saying) (a : Agent) → Contains agents a → (class : Class) → class_of m a ≡ Some class → (n : ℕ) (e : Effect) → slice_get class.effects n ≡ Some e
    → (g : Share) → Contains (share_unless_silent a.id n e (said_to a.id n xs)) g → IsShareOf m agents xs g
shared_value m agents xs a there class is n e at g h = (elim (said_to a.id n xs) as (λ vs. said_to a.id n xs ≡ vs → Contains (share_unless_silent a.id n e vs) g → IsShareOf m agents xs g) [
  | [] ↦ λ same h. none_within (IsShareOf m agents xs g) g h
  | v ∷ vs ↦ λ same h. only_one (IsShareOf m agents xs) (record { target = a.id; field = n; total = tally_of e.comb (v ∷ vs) }) g
      (record {
        agent = a;
        class = class;
        effect = e;
        is_there = there;
        is_target = refl;
        has_class = is;
        has_effect = at;
        is_total = ap (tally_of e.comb) (sym same);
        is_heard = λ none. omega (arith, ap length same, length-map (filter (λ x. (x.target == a.id) && (x.field == n)) xs) (λ (x : Saying). x.value), none);
      }) h
]) refl h

shared_effects : (m : Program) (agents : List Agent) (xs : List Saying) (a : Agent) → Contains agents a → (class : Class) → class_of m a ≡ Some class → (n : ℕ) (effects : List Effect)
    → ((k : ℕ) (e : Effect) → slice_get effects k ≡ Some e → slice_get class.effects (n + k) ≡ Some e)
    → (g : Share) → Contains (shares_from n a.id effects xs) g → IsShareOf m agents xs g
shared_effects m agents xs a there class is n [] at g h = none_within (IsShareOf m agents xs g) g h
shared_effects m agents xs a there class is n (e ∷ effects) at g h =
    ⊎_elim
    (λ (y : Contains (share_unless_silent a.id n e (said_to a.id n xs)) g). shared_value m agents xs a there class is n e (let zero_more : n + 0 ≡ n = omega arith in subst (λ i. slice_get class.effects i ≡ Some e) zero_more (at 0 e refl)) g y)
    (λ (y : Contains (shares_from (n + 1) a.id effects xs) g). shared_effects m agents xs a there class is (n + 1) effects
    (λ k f is. let next : n + suc k ≡ n + 1 + k = omega arith in subst (λ i. slice_get class.effects i ≡ Some f) next (at (suc k) f is)) g y)
    (Contains-append_cases (share_unless_silent a.id n e (said_to a.id n xs)) (shares_from (n + 1) a.id effects xs) g h)

shared_agent : (m : Program) (agents : List Agent) (xs : List Saying) (a : Agent) → Contains agents a → (o : Option Class) → class_of m a ≡ o → (g : Share) → Contains (shares_to xs a o) g → IsShareOf m agents xs g
shared_agent m agents xs a there None is g h = none_within (IsShareOf m agents xs g) g h
shared_agent m agents xs a there (Some c) is g h =
    shared_effects m agents xs a there c is 0 c.effects (λ k e at. let same : 0 + k ≡ k = omega arith in subst (λ i. slice_get c.effects i ≡ Some e) (sym same) at) g h

-- each share is of an effect of one of the agents
pub share_is : (m : Program) (agents some : List Agent) (xs : List Saying) → ((a : Agent) → Contains some a → Contains agents a) → (g : Share) → Contains (flat_map (λ a. shares_to xs a (class_of m a)) some) g → IsShareOf m agents xs g
share_is m agents some xs there g h =
    let of = of_flat_map (λ a. shares_to xs a (class_of m a)) some g h in shared_agent m agents xs of.from (there of.from of.there) (class_of m of.from) refl g of.gives

-- ---- totals hang on what is said to the effects that a class has

pub totals_within : (n id : ℕ) (effects : List Effect) (xs ys : List Saying) → ((k : ℕ) → n ≤ k → k < n + length effects → said_to id k xs ≡ said_to id k ys) → totals_from n id effects xs ≡ totals_from n id effects ys
totals_within n id [] xs ys h = refl
totals_within n id (e ∷ effects) xs ys h =
    ap₂ (λ t ts. t ∷ ts) (ap (total_of e.comb) (h n (omega arith) (omega arith)))
    (totals_within (suc n) id effects xs ys (λ k low high. h k (omega (arith, low)) (omega (arith, high))))
