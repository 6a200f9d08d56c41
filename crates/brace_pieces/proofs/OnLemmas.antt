-- The continued worlds of a run: ids rise, and where the written numbers and the first world fit 64
-- bits each agent of a class has a value of 64 bits for each of its states.
use Rattle.std.proofs.Common.{◌≡◌, ◌∙◌, refl, sym, ap, subst, ℕ, zero, suc, ◌+◌, ◌-◌, ◌<◌, ◌≤◌, ℤ, List, [], ◌∷◌, ◌++◌, map, filter_map, length, get_or, Bool, true, false, if◌then◌else◌, Option, Some, None, Contains, All, arith}
use Rattle.std.specs.Prelude.{slice_get}
use Rattle.std.specs.List.{cons_option, list_all}
use Rattle.std.specs.Cmp.Lexicographic.{pointwise}
use Rattle.std.proofs.lemmas.Bool.{and_parts}
use Rattle.std.proofs.lemmas.List.Sums.{AllPass-from_list_all}
use Rattle.std.proofs.lemmas.List.Kept.{AllPairs-cons}
use Rattle.std.proofs.lemmas.List.Elements.{All-append, All-contains, Contains-get_or}
use Rattle.brace_model.specs.declared.program.Value.{Value}
use Rattle.brace_model.specs.declared.program.State.{State}
use Rattle.brace_model.specs.declared.program.Class.{Class}
use Rattle.brace_model.specs.declared.fault.Stop.{Stop}
use Rattle.brace_model.specs.declared.world.Agent.{Agent}
use Rattle.brace_model.specs.World.{World, class_of, RisesById}
use Rattle.brace_model.specs.Value.{Scope, value}
use Rattle.brace_model.specs.Query.{opening_scope}
use Rattle.brace_model.specs.Typing.{same_type, type_of_value}
use Rattle.brace_model.specs.declared.program.Spawn.{Spawn}
use Rattle.brace_model.specs.Next.{child_in, with_gifts, gifts_in, Next, next_in, unless_stopped, left_by, first_stop, update_in, holds, condition_in, changed, values_of, rules_in}
use Rattle.brace_model.specs.Step.{living, children, numbered}
use Rattle.brace_model.specs.Lawful.{is_lawful_agent, has_states}
use Rattle.brace_pieces.specs.declared.setting.Setting.{Setting}
use Rattle.brace_pieces.specs.Settings.{LawfulSetting}
use Rattle.brace_pieces.specs.Continued.{said, totals_of, becomes, left_or_kept, all_left, fitting, descent, continued, continued_after, on}
use Rattle.brace_pieces.specs.Numbers.{class_fits, agent_fits, NumbersFit}
use Rattle.brace_pieces.specs.Together.{IsWhole, AreWhole, HaveClasses}
use Rattle.brace_pieces.proofs.Merges.{Rises}
use Rattle.brace_pieces.proofs.FitLemmas.{fit_by_test}
use Rattle.brace_pieces.proofs.MoveLemmas.{descent_after, left_each}
use Rattle.brace_pieces.proofs.Origins.{of_filter_map, of_map}
use Rattle.brace_pieces.proofs.WorldLemmas.{seconds_both}
use Rattle.brace_num.proofs.Orders.{rises_by_keys, keys_by_rises}
use Rattle.std.proofs.lemmas.Option.{same_Some, none-some}

-- ---- ids

if_living : (dies : Bool) (a c b : Agent) → c.id ≡ a.id → (if dies then None else Some c) ≡ Some b → b.id ≡ a.id
if_living true a c b same e = absurd (none-some b e)
if_living false a c b same e = ap (λ (x : Agent). x.id) (sym (same_Some c b e)) ∙ same

id_by_stop : (tick : ℕ) (scope : Scope) (c : Class) (a b : Agent) (o : Option Stop) → (left_or_kept a (unless_stopped tick a o (left_by scope c a))).agent ≡ Some b → b.id ≡ a.id
id_by_stop tick scope c a b (Some stop) e = ap (λ (x : Agent). x.id) (sym (same_Some a b e))
id_by_stop tick scope c a b None e = if_living (holds (condition_in scope c.die)) a (changed c a (values_of (rules_in scope c a))) b refl e

pub id_stays : (seed tick : ℕ) (o : Option Class) (totals : List ℤ) (a b : Agent) → (left_or_kept a (next_in seed tick o totals a)).agent ≡ Some b → b.id ≡ a.id
id_stays seed tick None totals a b e = ap (λ (x : Agent). x.id) (sym (same_Some a b e))
id_stays seed tick (Some c) totals a b e = id_by_stop tick (opening_scope seed tick [] totals a) c a b (first_stop (update_in (opening_scope seed tick [] totals a) c a)) e

if_born : (bears : Bool) (a c b : Agent) → c.id ≡ a.id → (if bears then Some c else None) ≡ Some b → b.id ≡ a.id
if_born true a c b same e = ap (λ (x : Agent). x.id) (sym (same_Some c b e)) ∙ same
if_born false a c b same e = absurd (none-some b e)

child_id_by_spawn : (scope : Scope) (c : Class) (a b : Agent) (o : Option Spawn) → child_in scope c a o ≡ Some b → b.id ≡ a.id
child_id_by_spawn scope c a b None e = absurd (none-some b e)
child_id_by_spawn scope c a b (Some spawn) e =
    if_born (holds (value spawn.when scope)) a (changed c a (with_gifts a.states spawn.gifts (values_of (gifts_in scope (Some spawn))))) b refl e

child_id_by_stop : (tick : ℕ) (scope : Scope) (c : Class) (a b : Agent) (o : Option Stop) → (left_or_kept a (unless_stopped tick a o (left_by scope c a))).child ≡ Some b → b.id ≡ a.id
child_id_by_stop tick scope c a b (Some stop) e = absurd (none-some b e)
child_id_by_stop tick scope c a b None e = child_id_by_spawn scope c a b c.spawn e

-- a child that has no id of its own bears its parent's
pub child_id_stays : (seed tick : ℕ) (o : Option Class) (totals : List ℤ) (a b : Agent) → (left_or_kept a (next_in seed tick o totals a)).child ≡ Some b → b.id ≡ a.id
child_id_stays seed tick None totals a b e = absurd (none-some b e)
child_id_stays seed tick (Some c) totals a b e = child_id_by_stop tick (opening_scope seed tick [] totals a) c a b (first_stop (update_in (opening_scope seed tick [] totals a) c a)) e

-- rising ids, all below the next free one
pub record IsOrdered (world : World) : Type 0 where
  pub rises : Rises world.agents
  pub below : All (λ a. a.id < world.next) world.agents

module _ (h : Agent → Option Agent) (keeps : (a b : Agent) → h a ≡ Some b → b.id ≡ a.id) where
  kept_above : (x : ℕ) (xs : List Agent) → All (λ (a : Agent). x < a.id) xs → All (λ (b : Agent). x < b.id) (filter_map h xs)
  kept_above x xs above k d within =
      let made = of_filter_map h xs (get_or (filter_map h xs) k d) (Contains-get_or (filter_map h xs) k d within) in
      subst (λ n. x < n) (sym (keeps made.from _ made.made)) (All-contains (λ (a : Agent). x < a.id) xs made.from above made.there)

  pub kept_below : (n : ℕ) (xs : List Agent) → All (λ (a : Agent). a.id < n) xs → All (λ (b : Agent). b.id < n) (filter_map h xs)
  kept_below n xs low k d within =
      let made = of_filter_map h xs (get_or (filter_map h xs) k d) (Contains-get_or (filter_map h xs) k d within) in
      subst (λ id. id < n) (sym (keeps made.from _ made.made)) (All-contains (λ (a : Agent). a.id < n) xs made.from low made.there)

  pub kept_rise : (xs : List Agent) → Rises xs → Rises (filter_map h xs)
  kept_rise [] up = up
  kept_rise (x ∷ xs) up =
      let rest : Rises (filter_map h xs) = kept_rise xs (λ i j d less within. up (suc i) (suc j) d (omega (arith, less)) (omega (arith, within))) in
      let above : All (λ (a : Agent). x.id < a.id) xs = λ k d within. up zero (suc k) d (omega arith) (omega (arith, within)) in
      one_kept (h x) refl rest (kept_above x.id xs above)
    where
      one_kept : (o : Option Agent) → h x ≡ o → Rises (filter_map h xs) → All (λ (b : Agent). x.id < b.id) (filter_map h xs) → Rises (cons_option o (filter_map h xs))
      one_kept None is rest above = rest
      one_kept (Some b) is rest above =
          AllPairs-cons (λ (a c : Agent). a.id < c.id) b (filter_map h xs) (λ k d within. subst (λ n. n < (get_or (filter_map h xs) k d).id) (sym (keeps x b is)) (above k d within)) rest

pub numbered_from : (n m : ℕ) (born : List Agent) → m ≤ n → All (λ (b : Agent). m ≤ b.id) (numbered n born)
numbered_from n m [] low k d within = absurd (omega (arith, within))
numbered_from n m (c ∷ born) low zero d within = low
numbered_from n m (c ∷ born) low (suc k) d within = numbered_from (suc n) m born (omega (arith, low)) k d (omega (arith, within))

numbered_to : (n top : ℕ) (born : List Agent) → n + length born ≤ top → All (λ (b : Agent). b.id < top) (numbered n born)
numbered_to n top [] low k d within = absurd (omega (arith, within))
numbered_to n top (c ∷ born) low zero d within = omega (arith, low)
numbered_to n top (c ∷ born) low (suc k) d within = numbered_to (suc n) top born (omega (arith, low)) k d (omega (arith, within))

numbered_rise : (n : ℕ) (born : List Agent) → Rises (numbered n born)
numbered_rise n [] = λ i j d less within. absurd (omega (arith, within))
numbered_rise n (c ∷ born) =
    AllPairs-cons (λ (a b : Agent). a.id < b.id) (record c { id = n }) (numbered (suc n) born)
    (λ k d within. omega (arith, numbered_from (suc n) (suc n) born (omega arith) k d within)) (numbered_rise (suc n) born)

both_rise : (n : ℕ) (xs ys : List Agent) → Rises xs → Rises ys → All (λ (a : Agent). a.id < n) xs → All (λ (b : Agent). n ≤ b.id) ys → Rises (xs ++ ys)
both_rise n [] ys up rises low high = rises
both_rise n (x ∷ xs) ys up rises low high =
    let head : x.id < n = low zero x (omega arith) in
    AllPairs-cons (λ (a b : Agent). a.id < b.id) x (xs ++ ys)
    (All-append (λ (b : Agent). x.id < b.id) xs ys (λ k d within. up zero (suc k) d (omega arith) (omega (arith, within))) (λ k d within. omega (arith, head, high k d within)))
    (both_rise n xs ys (λ i j d less within. up (suc i) (suc j) d (omega (arith, less)) (omega (arith, within))) rises (λ k d within. low (suc k) d (omega (arith, within))) high)

pub children_each : (f : Agent → Next) (xs : List Agent) → children (map f xs) ≡ filter_map (λ a. (f a).child) xs
children_each f [] = refl
children_each f (x ∷ xs) = ap (cons_option (f x).child) (children_each f xs)

pub living_each : (f : Agent → Next) (xs : List Agent) → living (map f xs) ≡ filter_map (λ a. (f a).agent) xs
living_each f [] = refl
living_each f (x ∷ xs) = ap (cons_option (f x).agent) (living_each f xs)

module _ (s : Setting) where
  ordered_step : (t : ℕ) (world : World) → IsOrdered world → IsOrdered (continued s t world)
  ordered_step t world h =
      let w : List Agent = world.agents in
      let leaves : Agent → Next = λ a. left_or_kept a (becomes s t (said s t w) a) in
      let lives : List Agent = living (all_left s t w) in
      let born : List Agent = fitting lives world.next (children (all_left s t w)) in
      let keeps : (a b : Agent) → (leaves a).agent ≡ Some b → b.id ≡ a.id = λ a b e. id_stays s.job.seed t (class_of s.job.program a) (totals_of (said s t w) a (class_of s.job.program a)) a b e in
      let same : lives ≡ filter_map (λ a. (leaves a).agent) w = ap living (left_each (becomes s t (said s t w)) w) ∙ living_each leaves w in
      let up : Rises lives = subst Rises (sym same) (kept_rise (λ a. (leaves a).agent) keeps w h.rises) in
      let low : All (λ (a : Agent). a.id < world.next) lives = subst (All (λ (a : Agent). a.id < world.next)) (sym same) (kept_below (λ a. (leaves a).agent) keeps world.next w h.below) in
      let all : (continued s t world).agents ≡ lives ++ numbered world.next born = seconds_both lives born world.next in
      record {
        rises = subst Rises (sym all) (both_rise world.next lives (numbered world.next born) up (numbered_rise world.next born) low (numbered_from world.next world.next born (omega arith)));
        below = subst (All (λ (a : Agent). a.id < world.next + length born)) (sym all)
            (All-append (λ (a : Agent). a.id < world.next + length born) lives (numbered world.next born)
            (λ k d within. omega (arith, low k d within)) (numbered_to world.next (world.next + length born) born (omega arith)));
      }

  pub ordered_after : (lawful : LawfulSetting s) (n : ℕ) → IsOrdered (continued_after s n)
  unfolding continued_after
  ordered_after lawful zero = record { rises = rises_by_keys (λ (a : Agent). a.id) s.job.start.agents lawful.start_is_numbered.rises; below = lawful.start_is_numbered.below }
  ordered_after lawful (suc n) = ordered_step (s.job.first + n) (continued_after s n) (ordered_after lawful n)

  pub on_rises : (lawful : LawfulSetting s) (t : ℕ) → RisesById (on s t).agents
  on_rises lawful t = keys_by_rises (λ (a : Agent). a.id) (on s t).agents (ordered_after lawful (t - s.job.first)).rises

  after_next : (n t : ℕ) → s.job.first + n ≡ t → continued_after s (suc n) ≡ continued s t (continued_after s n)
  unfolding continued_after
  after_next n t is = ap (λ k. continued s k (continued_after s n)) is

  -- the world of the next tick is the next world
  pub on_next : (t : ℕ) → s.job.first ≤ t → on s (t + 1) ≡ continued s t (on s t)
  on_next t le =
      let n : ℕ = t - s.job.first in
      let more : t + 1 - s.job.first ≡ suc n = omega (arith, le) in
      ap (continued_after s) more ∙ after_next n t (omega (arith, le))

  -- ---- values

  class_fits_at : (classes : List Class) → list_all class_fits classes ≡ true → (n : ℕ) (c : Class) → slice_get classes n ≡ Some c → class_fits c ≡ true
  class_fits_at [] fit n c e = absurd (no_class c e)
    where
      no_class : (c : Class) → None ≡ Some c → ⊥
      no_class c e = cc
  class_fits_at (d ∷ classes) fit zero c e = ap class_fits (sym (same_class d c e)) ∙ (and_parts (class_fits d) (list_all class_fits classes) fit).0
    where
      same_class : (d c : Class) → Some d ≡ Some c → d ≡ c
      same_class d c e = cc
  class_fits_at (d ∷ classes) fit (suc n) c e = class_fits_at classes (and_parts (class_fits d) (list_all class_fits classes) fit).1 n c e

  whole_step : (lawful : LawfulSetting s) → list_all class_fits s.job.program.classes ≡ true → (t : ℕ) (world : World) → AreWhole s.job.program world.agents → AreWhole s.job.program (continued s t world).agents
  whole_step lawful written t world whole b c has is =
      let made = of_map (λ (d : ℕ × Agent). d.1) (descent s t world) b has in
      let from = descent_after s lawful t world.agents whole world.next made.from made.there in
      let same : b ≡ made.from.1 = sym (same_Some made.from.1 b made.made) in
      let classed : class_of s.job.program from.from ≡ Some c = ap (slice_get s.job.program.classes) (sym from.is_after.same_class) ∙ sym (ap (class_of s.job.program) same) ∙ is in
      let near = from.is_after.is_near c classed in
      let before = whole from.from c from.there classed in
      subst (IsWhole c) (sym same) (record {
        has_values = near.as_long ∙ before.has_values;
        values_fit = near.stays_fit before.values_fit (class_fits_at s.job.program.classes written from.from.class c classed);
      })

  as_many : (ss : List State) (vs : List Value) → pointwise same_type (map (λ (st : State). st.ty) ss) (map type_of_value vs) ≡ true → length vs ≡ length ss
  as_many [] [] e = refl
  as_many [] (v ∷ vs) e = absurd (cc)
  as_many (st ∷ ss) [] e = absurd (cc)
  as_many (st ∷ ss) (v ∷ vs) e = ap suc (as_many ss vs (and_parts (same_type st.ty (type_of_value v)) _ e).1)

  one_passes : (test : Agent → Bool) (xs : List Agent) → list_all test xs ≡ true → (a : Agent) → Contains xs a → test a ≡ true
  one_passes test xs all a has = All-contains (λ x. test x ≡ true) xs a (AllPass-from_list_all test xs all) has

  start_whole : (lawful : LawfulSetting s) → NumbersFit s → AreWhole s.job.program s.job.start.agents
  start_whole lawful numbers a c has is =
      let agents : List Agent = s.job.start.agents in
      let good = one_passes (is_lawful_agent s.job.program) agents lawful.job_is_lawful.start_is_lawful.each_is_lawful a has in
      let states = sym (ap (λ o. has_states o a) is) ∙ (and_parts _ (has_states (class_of s.job.program a) a) good).1 in
      record {
        has_values = as_many c.states a.states states;
        values_fit = fit_by_test a.states (one_passes agent_fits agents numbers.start_fits a has);
      }

  whole_after : (lawful : LawfulSetting s) → NumbersFit s → (n : ℕ) → AreWhole s.job.program (continued_after s n).agents
  unfolding continued_after
  whole_after lawful numbers zero = start_whole lawful numbers
  whole_after lawful numbers (suc n) = whole_step lawful numbers.rules_fit (s.job.first + n) (continued_after s n) (whole_after lawful numbers n)

  pub on_whole : (lawful : LawfulSetting s) → NumbersFit s → (t : ℕ) → AreWhole s.job.program (on s t).agents
  on_whole lawful numbers t = whole_after lawful numbers (t - s.job.first)

  -- ---- classes

  class_there : (o : Option Class) (a : Agent) → has_states o a ≡ true → (c : Class) × (o ≡ Some c)
  class_there None a e = absurd (cc)
  class_there (Some c) a e = (c, refl)

  classed_step : (lawful : LawfulSetting s) (t : ℕ) (world : World) → AreWhole s.job.program world.agents → HaveClasses s.job.program world.agents → HaveClasses s.job.program (continued s t world).agents
  classed_step lawful t world whole classed b has =
      let made = of_map (λ (d : ℕ × Agent). d.1) (descent s t world) b has in
      let from = descent_after s lawful t world.agents whole world.next made.from made.there in
      let same : b ≡ made.from.1 = sym (same_Some made.from.1 b made.made) in
      let (c, is) = classed from.from from.there in
      (c, ap (class_of s.job.program) same ∙ ap (slice_get s.job.program.classes) from.is_after.same_class ∙ is)

  classed_after : (lawful : LawfulSetting s) → NumbersFit s → (n : ℕ) → HaveClasses s.job.program (continued_after s n).agents
  unfolding continued_after
  classed_after lawful numbers zero a has =
      let good = one_passes (is_lawful_agent s.job.program) s.job.start.agents lawful.job_is_lawful.start_is_lawful.each_is_lawful a has in
      class_there (class_of s.job.program a) a (and_parts _ (has_states (class_of s.job.program a) a) good).1
  classed_after lawful numbers (suc n) a has = classed_step lawful (s.job.first + n) (continued_after s n) (whole_after lawful numbers n) (classed_after lawful numbers n) a has

  pub on_classed : (lawful : LawfulSetting s) → NumbersFit s → (t : ℕ) → HaveClasses s.job.program (on s t).agents
  on_classed lawful numbers t = classed_after lawful numbers (t - s.job.first)
