-- What was said, joined agent by agent and effect by effect.
use Rattle.std.proofs.Common.{◌≡◌, ◌∙◌, refl, sym, ap, ap₂, subst, ℕ, zero, suc, ◌+◌, ◌<◌, ◌≤◌, ℤ, Bool, true, false, ◌&&◌, List, [], ◌∷◌, ◌++◌, append-nil, append_assoc, add-one, map, flat_map, length, take, get_or, Some, arith, slice_get, ⊎_elim}
use Rattle.std.specs.Prelude.{◌==◌, nat_eq, option_map}
use Rattle.std.specs.List.{All}
use Rattle.std.proofs.lemmas.Bool.{and_parts, cases_eq, cases_lt, eq-eqb, eqb-true}
use Rattle.std.proofs.lemmas.Grind.{flat_map-append}
use Rattle.std.proofs.lemmas.List.{length-map, take_more}
use Rattle.std.proofs.lemmas.List.Elements.{All-head, All-tail, filter_passes}
use Rattle.std.proofs.lemmas.List.Sorted.{IsPermutation-refl}
use Rattle.std.proofs.lemmas.Option.{slice_get-get_or, slice_get-map}
use Rattle.brace_num.proofs.Lists.{filter_alike, filter_none, filter_twice, none_long}
use Rattle.brace_model.specs.declared.fault.Fault.{Fault}
use Rattle.brace_model.specs.declared.program.Effect.{Effect}
use Rattle.brace_model.specs.declared.program.Program.{Program}
use Rattle.brace_model.specs.declared.world.Agent.{Agent}
use Rattle.brace_model.specs.World.{RisesById, class_of}
use Rattle.brace_model.specs.Query.{Saying}
use Rattle.brace_model.specs.Total.{said_to, total_of, totals_from}
use Rattle.brace_comb.proofs.Said.{said_to-append}
use Rattle.brace_eval.specs.declared.heard.Heard.{Heard}
use Rattle.brace_eval.specs.Heard.{AreTold, IsHeard, counted, counting, effects_in, table_of}
use Rattle.brace_eval.proofs.CountLemmas.{counted-effects}
use Rattle.brace_fold.specs.Asked.{agents_at, no_agent}
use Rattle.brace_fold.specs.declared.table.Sum.{Sum}
use Rattle.brace_fold.specs.declared.table.Table.{Table}
use Rattle.brace_fold.specs.Sums.{AreSummed, sum_at}
use Rattle.brace_fold.specs.inner.Joins.{said_of, to_effect, to_first}
use Rattle.brace_fold.proofs.Counting.{some_item}
use Rattle.brace_fold.proofs.Taking.{AreApart, apart_moved}

-- ---- sayings to one effect

both-tests : (p q : Bool) → (p ≡ true → q ≡ false) → (p && q) ≡ false
both-tests true q h = h refl
both-tests false q h = refl

one-test : (p : Bool) → (p && p) ≡ p
one-test true = refl
one-test false = refl

-- a saying is to an effect
abbrev is_to : ℕ → ℕ → Saying → Bool
is_to id effect s = (s.target == id) && (s.field == effect)

to-same : (id n : ℕ) (said : List Saying) → said_to id n (to_effect id n said) ≡ said_to id n said
to-same id n said =
    ap (map (λ (s : Saying). s.value))
    (filter_twice (is_to id n) (is_to id n) said ∙ filter_alike (λ s. is_to id n s && is_to id n s) (is_to id n) said (λ s has. one-test (is_to id n s)))

to-other : (id n target effect : ℕ) (said : List Saying) → (target ≡ id → effect ≡ n → ⊥) → said_to id n (to_effect target effect said) ≡ []
to-other id n target effect said ne =
    ap (map (λ (s : Saying). s.value))
    (filter_twice (is_to id n) (is_to target effect) said
    ∙ filter_alike (λ s. is_to target effect s && is_to id n s) (λ s. false) said (λ s has. both-tests (is_to target effect s) (is_to id n s) (other s))
    ∙ filter_none said)
  where
    other : (s : Saying) → is_to target effect s ≡ true → is_to id n s ≡ false
    other s e = by (is_to id n s) refl
      where
        by : (q : Bool) → is_to id n s ≡ q → is_to id n s ≡ false
        by true t =
            let a = and_parts (s.target == target) (s.field == effect) e in
            let b = and_parts (s.target == id) (s.field == n) t in
            absurd (ne (sym (eqb-true s.target target a.0) ∙ eqb-true s.target id b.0) (sym (eqb-true s.field effect a.1) ∙ eqb-true s.field n b.1))
        by false t = t

-- sayings to the first effects of another agent, or to effects before one
first-none : (id n target : ℕ) (said : List Saying) (count : ℕ) → (target ≡ id → count ≤ n) → said_to id n (to_first target said count) ≡ []
first-none id n target said zero h = refl
first-none id n target said (suc m) h =
    said_to-append id n (to_first target said m) (to_effect target m said)
    ∙ ap₂ (λ a b. a ++ b) (first-none id n target said m (λ same. omega (arith, h same)))
    (to-other id n target m said (λ same e. omega (arith, h same, e)))

first-is : (id n : ℕ) (said : List Saying) (count : ℕ) → n < count → said_to id n (to_first id said count) ≡ said_to id n said
first-is id n said zero low = absurd (omega (arith, low))
first-is id n said (suc m) low =
    said_to-append id n (to_first id said m) (to_effect id m said)
    ∙ ⊎_elim
    (λ (e : m ≡ n). ap₂ (λ a b. a ++ b) (first-none id n id said m (λ same. omega (arith, e)))
    (ap (λ k. said_to id n (to_effect id k said)) e ∙ to-same id n said))
    (λ (ne : m ≡ n → ⊥). ap₂ (λ a b. a ++ b) (first-is id n said m (below ne)) (to-other id n id m said (λ same e. ne e)) ∙ append-nil (said_to id n said))
    (cases_eq m n)
  where
    below : (m ≡ n → ⊥) → n < m
    below ne = ⊎_elim (λ (l : n < m). l) (λ (l : m ≤ n). absurd (ne (omega (arith, l, low)))) (cases_lt n m)

module _ (program : Program) (more : List Saying) (n : ℕ) where
  others-none : (id : ℕ) (agents : List Agent) → All (λ (b : Agent). b.id ≡ id → ⊥) agents → said_to id n (flat_map (said_of program more) agents) ≡ []
  others-none id [] all = refl
  others-none id (b ∷ agents) all =
      said_to-append id n (said_of program more b) (flat_map (said_of program more) agents)
      ∙ ap₂ (λ x y. x ++ y)
      (first-none id n b.id more (length (effects_in (class_of program b))) (λ same. absurd (All-head (λ (x : Agent). x.id ≡ id → ⊥) b agents all same)))
      (others-none id agents (All-tail (λ (x : Agent). x.id ≡ id → ⊥) b agents all))

  differ : (a b : ℕ) → nat_eq a b ≡ false → a ≡ b → ⊥
  differ a b off same = absurd (let on : nat_eq a b ≡ true = eq-eqb a b same in cc)

  -- what is said to an agent of many
  pub one-is : (agents : List Agent) (k : ℕ) (d : Agent) → AreApart agents → k < length agents
      → n < length (effects_in (class_of program (get_or agents k d)))
      → said_to (get_or agents k d).id n (flat_map (said_of program more) agents) ≡ said_to (get_or agents k d).id n more
  one-is [] k d apart low less = absurd (omega (arith, low))
  one-is (b ∷ agents) zero d apart low less =
      said_to-append b.id n (said_of program more b) (flat_map (said_of program more) agents)
      ∙ ap₂ (λ x y. x ++ y) (first-is b.id n more (length (effects_in (class_of program b))) less)
      (others-none b.id agents (λ j e within same. differ b.id (get_or agents j e).id (apart 0 (suc j) e (omega arith) (omega (arith, within))) (sym same)))
      ∙ append-nil (said_to b.id n more)
  one-is (b ∷ agents) (suc k) d apart low less =
      let x = get_or agents k d in
      said_to-append x.id n (said_of program more b) (flat_map (said_of program more) agents)
      ∙ ap₂ (λ p q. p ++ q)
      (first-none x.id n b.id more (length (effects_in (class_of program b)))
      (λ same. absurd (differ b.id x.id (apart 0 (suc k) d (omega arith) low) same)))
      (one-is agents k d (λ i j e lt within. apart (suc i) (suc j) e (omega (arith, lt)) (omega (arith, within))) (omega (arith, low)) less)

-- ---- what is heard, where each effect is told the same

row-like : (n id : ℕ) (effects : List Effect) (xs ys : List Saying) → ((m : ℕ) → n ≤ m → m < n + length effects → said_to id m xs ≡ said_to id m ys)
    → totals_from n id effects xs ≡ totals_from n id effects ys
row-like n id [] xs ys h = refl
row-like n id (e ∷ effects) xs ys h =
    ap₂ (λ t l. t ∷ l) (ap (total_of e.comb) (h n (omega arith) (omega arith)))
    (row-like (suc n) id effects xs ys (λ m low high. h m (omega (arith, low)) (omega (arith, high))))

-- an agent is told the same by both
abbrev IsToldAlike : Program → List Saying → List Saying → Agent → Type 0
IsToldAlike program xs ys a = (n : ℕ) → n < length (effects_in (class_of program a)) → said_to a.id n xs ≡ said_to a.id n ys

table-like : (program : Program) (agents : List Agent) (xs ys : List Saying) → All (IsToldAlike program xs ys) agents → table_of program xs agents ≡ table_of program ys agents
table-like program [] xs ys all = refl
table-like program (a ∷ agents) xs ys all =
    ap₂ (λ r l. r ++ l)
    (row-like 0 a.id (effects_in (class_of program a)) xs ys (λ m low high. All-head (IsToldAlike program xs ys) a agents all m (omega (arith, high))))
    (table-like program agents xs ys (All-tail (IsToldAlike program xs ys) a agents all))

heard-like : (program : Program) (agents : List Agent) (xs ys : List Saying) (faults : List Fault) (heard : Heard) → All (IsToldAlike program xs ys) agents
    → IsHeard program agents xs faults heard → IsHeard program agents ys faults heard
heard-like program agents xs ys faults heard all k = record {
  totals = k.totals ∙ table-like program agents xs ys all;
  counts = k.counts ∙ table-like (counting program) agents xs ys (λ i d low n less. all i d low n
      (subst (λ m. n < m) (ap length (counted-effects program (get_or agents i d)) ∙ length-map (effects_in (class_of program (get_or agents i d))) counted) less));
  least = k.least;
  each_starts = k.each_starts;
  starts = k.starts;
}

-- what was said to each agent is all that was said
pub heard-joined : (program : Program) (agents : List Agent) (more said : List Saying) (faults : List Fault) (heard : Heard) → RisesById agents
    → IsHeard program agents (said ++ flat_map (said_of program more) agents) faults heard → IsHeard program agents (said ++ more) faults heard
heard-joined program agents more said faults heard rises =
    let each = flat_map (said_of program more) agents in
    let apart = apart_moved agents agents rises (IsPermutation-refl agents) in
    heard-like program agents (said ++ each) (said ++ more) faults heard (λ k d low n less.
    let id = (get_or agents k d).id in
    said_to-append id n said each
    ∙ ap (λ l. said_to id n said ++ l) (one-is program more n agents k d apart low less)
    ∙ sym (said_to-append id n said more))

-- ---- the sum of an effect

module _ (program : Program) (rows : List Agent) (more : List Saying) (table : Table) (row effect : ℕ) (a : Agent) (e : Effect) (sum : Sum)
    (found : slice_get rows row ≡ Some a) (has : slice_get (effects_in (class_of program a)) effect ≡ Some e) (summed : AreSummed program rows more table)
    (is : sum ≡ sum_at table effect row) where
  counted-is : sum.count ≡ length (to_effect a.id effect more)
  counted-is = ap (λ (s : Sum). s.count) is ∙ (summed.sums row effect a e found has).many ∙ length-map (to_effect a.id effect more) (λ (s : Saying). s.value)

  -- nothing was said
  pub sum-none : sum.count ≡ 0 → to_effect a.id effect more ≡ []
  sum-none none = none_long (to_effect a.id effect more) (sym counted-is ∙ none)

  -- all that was said
  pub sum-told : (number : ℤ) (count : ℕ) → number ≡ sum.number → count ≡ sum.count → 0 < sum.count
      → AreTold program a effect number count (to_effect a.id effect more)
  sum-told number count number_is count_is some = record {
    effect = e;
    has = has;
    alone = λ k d low.
        let passes = filter_passes (is_to a.id effect) more k d low in
        let parts = and_parts ((get_or (to_effect a.id effect more) k d).target == a.id) ((get_or (to_effect a.id effect more) k d).field == effect) passes in
        (eqb-true _ a.id parts.0, eqb-true _ effect parts.1);
    total = number_is ∙ ap (λ (s : Sum). s.number) is
        ∙ (summed.sums row effect a e found has).number (subst (λ (s : Sum). 0 < s.count) is some);
    many = count_is ∙ counted-is;
  }

-- an effect there is
pub effect-there : (effects : List Effect) (k : ℕ) → k < length effects → (e : Effect) × (slice_get effects k ≡ Some e)
effect-there effects k low = (get_or effects k (some_item effects k low), slice_get-get_or effects k (some_item effects k low) low)

-- one effect more
pub first-more : (id : ℕ) (said more : List Saying) (k : ℕ) → (said ++ to_first id more k) ++ to_effect id k more ≡ said ++ to_first id more (k + 1)
first-more id said more k =
    append_assoc said (to_first id more k) (to_effect id k more) ∙ ap (λ n. said ++ to_first id more n) (sym (add-one k))

-- one agent more
pub agents-more : (f : Agent → List Saying) (said : List Saying) (agents : List Agent) (k : ℕ) (d : Agent) → k < length agents
    → (said ++ flat_map f (take k agents)) ++ f (get_or agents k d) ≡ said ++ flat_map f (take (k + 1) agents)
agents-more f said agents k d low =
    append_assoc said (flat_map f (take k agents)) (f (get_or agents k d))
    ∙ ap (λ l. said ++ l)
    (ap (λ l. flat_map f (take k agents) ++ l) (sym (append-nil (f (get_or agents k d))))
    ∙ sym (flat_map-append f (take k agents) (get_or agents k d ∷ []))
    ∙ ap (flat_map f) (sym (take_more agents k d low)))

-- the agent of a row that a place has
pub row-has : (agents : List Agent) (order : List ℕ) (row place : ℕ) → slice_get order row ≡ Some place
    → slice_get (agents_at agents no_agent order) row ≡ Some (get_or agents place no_agent)
row-has agents order row place read =
    slice_get-map (λ p. get_or agents p no_agent) order row ∙ ap (option_map (λ p. get_or agents p no_agent)) read
