-- The censuses of all parts in one are that of the world: so they decide who goes too far, whose
-- children are born, and with which ids.
use Rattle.std.proofs.Common.{◌≡◌, ◌∙◌, refl, sym, ap, ap₂, subst, ℕ, zero, suc, ◌+◌, ◌<◌, List, [], ◌∷◌, ◌++◌, map, filter, flat_map, length, take, Bool, true, ◌||◌, ◌==◌, Option, Some, None, Contains, filter_map, arith}
use Rattle.std.specs.Prelude.{slice_get, sum_by, nat_lt, option_map, unwrap_or}
use Rattle.std.specs.List.{list_any, find, range_with_len}
use Rattle.std.specs.List.Sorted.{IsPermutation, IsStrictlyIncreasing}
use Rattle.std.specs.Option.{option_and_then}
use Rattle.std.proofs.lemmas.List.{length-append, length-map, take-map}
use Rattle.std.proofs.lemmas.List.Sums.{sum_by-cons, sum_by-append}
use Rattle.std.proofs.lemmas.List.Folds.{flat_map-map}
use Rattle.std.proofs.lemmas.List.Concat.{length-flat_map}
use Rattle.std.proofs.lemmas.List.Sorted.{IsPermutation-sym, IsPermutation-trans, IsPermutation-map, length_permutation, sum_by-IsPermutation}
use Rattle.brace_model.specs.declared.program.Program.{Program}
use Rattle.brace_model.specs.declared.world.Agent.{Agent}
use Rattle.brace_model.specs.declared.world.Parent.{Parent}
use Rattle.brace_model.specs.declared.world.Census.{Census}
use Rattle.brace_model.specs.World.{World, RisesById, class_of, ids, x_of, y_of}
use Rattle.brace_model.specs.Step.{living, children, count_values, most_agents, most_values, greatest_id, goes_too_far, birth_fault}
use Rattle.brace_cuts.specs.declared.space.Cuts.{Cuts}
use Rattle.brace_cuts.specs.Space.{owner_of}
use Rattle.brace_pieces.specs.declared.setting.Setting.{Setting}
use Rattle.brace_pieces.specs.declared.setting.Stage.TheVariants as stage
use Rattle.brace_pieces.specs.Settings.{cuts_of, parts, LawfulSetting}
use Rattle.brace_pieces.specs.Steps.{step, meet, met}
use Rattle.brace_pieces.specs.Owned.{owns_at, owns, owned}
use Rattle.brace_pieces.specs.Continued.{all_left, fitting, continued, listed, birth_faults}
use Rattle.brace_pieces.specs.Together.{AreWhole, HaveClasses, all_born, with_number, born_of, children_of}
use Rattle.brace_pieces.specs.Right.{census_of, census}
use Rattle.brace_pieces.specs.Censuses.{IsSumOf, IsCounted, values_in, count_born, parent_too_far, parent_fault, fault_told, bearing}
use Rattle.brace_pieces.proofs.Merges.{together, covered}
use Rattle.brace_pieces.proofs.Meetings.{owner_is_part, meets}
use Rattle.brace_pieces.proofs.ScheduleLemmas.{meets_no_self}
use Rattle.brace_pieces.proofs.HeldLemmas.{one_owns}
use Rattle.brace_pieces.proofs.Origins.{of_id, of_take}
use Rattle.brace_pieces.proofs.MoveLemmas.{ComesAfter, agent_left, child_left, left_after, owner_by_id}
use Rattle.brace_pieces.proofs.GivenLemmas.{own_living, own_children, children_rise}
use Rattle.brace_pieces.proofs.WorldLemmas.{found_below, all_fit}
use Rattle.brace_num.proofs.Booleans.{and_true}
use Rattle.brace_num.proofs.Lists.{filter_all, sum_alike}
use Rattle.brace_num.proofs.Options.{none_mapped}
use Rattle.brace_num.proofs.Orders.{keys_by_rises, one_sorted}

-- ---- lists

sum_map : {A B : Type 0} (f : B → ℕ) (g : A → B) (xs : List A) → sum_by f (map g xs) ≡ sum_by (λ x. f (g x)) xs
sum_map f g [] = refl
sum_map f g (x ∷ xs) = sum_by-cons f (g x) (map g xs) ∙ ap (λ n. f (g x) + n) (sum_map f g xs) ∙ sym (sum_by-cons (λ x. f (g x)) x xs)

sum_flat : {A B : Type 0} (f : B → ℕ) (g : A → List B) (xs : List A) → sum_by f (flat_map g xs) ≡ sum_by (λ x. sum_by f (g x)) xs
sum_flat f g [] = refl
sum_flat f g (x ∷ xs) =
    sum_by-append f (g x) (flat_map g xs)
    ∙ ap (λ n. sum_by f (g x) + n) (sum_flat f g xs)
    ∙ sym (sum_by-cons (λ x. sum_by f (g x)) x xs)

map_flat : {A B C : Type 0} (f : B → C) (g : A → List B) (xs : List A) → map f (flat_map g xs) ≡ flat_map (λ x. map f (g x)) xs
map_flat f g [] = refl
map_flat f g (x ∷ xs) = map_both (g x) (flat_map g xs) ∙ ap (λ ys. map f (g x) ++ ys) (map_flat f g xs)
  where
    map_both : (ys zs : List _) → map f (ys ++ zs) ≡ map f ys ++ map f zs
    map_both [] zs = refl
    map_both (y ∷ ys) zs = ap (λ l. f y ∷ l) (map_both ys zs)

-- ---- parents

abbrev parent_of : Agent → Parent
parent_of a = record { id = a.id; class = a.class }

parent_ids : (kids : List Agent) → map (λ (p : Parent). p.id) (map parent_of kids) ≡ ids kids
parent_ids [] = refl
parent_ids (c ∷ kids) = ap (λ ns. c.id ∷ ns) (parent_ids kids)

same_census : (a b : Census) → a.living ≡ b.living → a.values ≡ b.values → a.parents ≡ b.parents → a ≡ b
same_census a b one two three = λ i. record { living = one i; values = two i; parents = three i }

module _ (s : Setting) (lawful : LawfulSetting s) (t : ℕ) (w : List Agent) (up : RisesById w) (whole : AreWhole s.job.program w) (classed : HaveClasses s.job.program w) where
  abbrev m : Program
  m = s.job.program

  abbrev now : Cuts
  now = cuts_of s t

  abbrev lives : List Agent
  lives = living (all_left s t w)

  abbrev kids : List Agent
  kids = children (all_left s t w)

  -- of what agents leave, that of a part's agents
  abbrev of_part : ℕ → Agent → Bool
  of_part q b = list_any (λ x. x.id == b.id) (owned m now q w)

  census_is : (q : ℕ) → census s t q w ≡ census_of (filter (of_part q) lives) (filter (of_part q) kids)
  census_is q = ap₂ census_of (sym (own_living s t lawful w up whole q)) (sym (own_children s t lawful w up whole q))

  one_origin : (q r : ℕ) (b : Agent) → of_part q b ≡ true → of_part r b ≡ true → q ≡ r
  one_origin q r b first second =
      let one = of_id (owns m now q) w b.id first in
      let too = ap (λ n. list_any (λ x. x.id == n) (owned m now r w)) one.same_id ∙ second in
      one_owns m now q r one.agent one.passes (sym (owner_by_id s lawful t w up r one.agent one.there) ∙ too)

  lives_after : (b : Agent) → Contains lives b → ComesAfter m w (b.id, b)
  lives_after = left_after s lawful t w whole (λ n. n.agent) (agent_left s lawful t w whole)

  kids_after : (b : Agent) → Contains kids b → ComesAfter m w (b.id, b)
  kids_after = left_after s lawful t w whole (λ n. n.child) (child_left s lawful t w whole)

  -- ---- all in one

  module _ (p : ℕ) (part : p < parts s) where
    abbrev all_parts : List ℕ
    all_parts = p ∷ met s (step stage.Census t) p

    -- an agent's part is one of all
    some_origin : (a : Agent) (n : ℕ) → Contains w a → n ≡ a.id → list_any (λ q. list_any (λ x. x.id == n) (owned m now q w)) all_parts ≡ true
    some_origin a n has same =
        let (c, is) = classed a has in
        let owner : ℕ = owner_of now (x_of c a) (y_of c a) in
        let is_part : owner < parts s = owner_is_part s lawful t (x_of c a) (y_of c a) in
        ap (λ id. list_any (λ q. list_any (λ x. x.id == id) (owned m now q w)) all_parts) same
        ∙ ap (λ (f : ℕ → Bool). list_any f all_parts) (λ i q. owner_by_id s lawful t w up q a has i)
        ∙ ap (λ o. list_any (λ q. owns_at now q o a) all_parts) is
        ∙ ap (λ (f : ℕ → Bool). list_any f all_parts) (λ i q. sym (and_true (owner == q)) i)
        ∙ covered (meet s (step stage.Census t) p) (parts s + 1) owner p true (λ yes other. (omega (arith, is_part), meets s lawful (step stage.Census t) p owner part other is_part refl))

    -- what all parts have of what agents leave is all that they leave
    all_of : (left : List Agent) → ((b : Agent) → Contains left b → ComesAfter m w (b.id, b)) → IsPermutation (flat_map (λ q. filter (of_part q) left) all_parts) left
    all_of left after =
        subst (IsPermutation (flat_map (λ q. filter (of_part q) left) all_parts)) (filter_all left)
        (together of_part one_origin (meet s (step stage.Census t) p) (parts s + 1) p (meets_no_self s (step stage.Census t) p) (λ b. true) left
        (λ b has. let from = after b has in some_origin from.from b.id from.there (sym from.same_id)))

    all_living : IsPermutation (flat_map (λ q. filter (of_part q) lives) all_parts) lives
    all_living = all_of lives lives_after

    abbrev each : List Census
    each = map (λ q. census s t q w) all_parts

    living_summed : sum_by (λ (c : Census). c.living) each ≡ length lives
    living_summed =
        sum_map (λ (c : Census). c.living) (λ q. census s t q w) all_parts
        ∙ ap (λ (f : ℕ → ℕ). sum_by f all_parts) (λ i q. (census_is q i).living)
        ∙ sym (length-flat_map (λ q. filter (of_part q) lives) all_parts)
        ∙ sym (length_permutation _ _ all_living)

    values_summed : sum_by (λ (c : Census). c.values) each ≡ count_values lives
    values_summed =
        sum_map (λ (c : Census). c.values) (λ q. census s t q w) all_parts
        ∙ ap (λ (f : ℕ → ℕ). sum_by f all_parts) (λ i q. (census_is q i).values)
        ∙ sym (sum_flat (λ (a : Agent). length a.states) (λ q. filter (of_part q) lives) all_parts)
        ∙ sym (sum_by-IsPermutation (λ (a : Agent). length a.states) _ _ all_living)

    parents_joined : IsPermutation (flat_map (λ (c : Census). c.parents) each) (map parent_of kids)
    parents_joined =
        let same : flat_map (λ (c : Census). c.parents) each ≡ map parent_of (flat_map (λ q. filter (of_part q) kids) all_parts) =
        flat_map-map (λ (c : Census). c.parents) (λ q. census s t q w) all_parts
        ∙ ap (λ (f : ℕ → List Parent). flat_map f all_parts) (λ i q. (census_is q i).parents)
        ∙ sym (map_flat parent_of (λ q. filter (of_part q) kids) all_parts) in
        subst (λ ps. IsPermutation ps (map parent_of kids)) (sym same) (IsPermutation-map parent_of _ kids (all_of kids kids_after))

    -- the censuses of all parts in one are the census of all
    pub sum_is : (all : Census) → IsSumOf each all → all ≡ census_of lives kids
    sum_is all sum =
        same_census all (census_of lives kids) (sum.living ∙ living_summed) (sum.values ∙ values_summed)
        (one_sorted (λ (p : Parent). p.id) all.parents (map parent_of kids) (IsPermutation-trans _ _ _ (IsPermutation-sym _ _ parents_joined) sum.same) sum.in_order
        (subst IsStrictlyIncreasing (sym (parent_ids kids)) (keys_by_rises (λ (a : Agent). a.id) kids (children_rise s t lawful w up whole p))))

  -- ---- who goes too far

  values_of_kid : (b : Agent) → Contains kids b → values_in (class_of m b) ≡ length b.states
  values_of_kid b has =
      let from = kids_after b has in
      let (c, is) = classed from.from from.there in
      let near = from.is_after.is_near c is in
      let before = whole from.from c from.there is in
      ap values_in (ap (slice_get m.classes) from.is_after.same_class ∙ is) ∙ sym before.has_values ∙ sym near.as_long

  born_counted : (n : ℕ) → count_born m (take n (map parent_of kids)) ≡ count_values (take n kids)
  born_counted n =
      ap (count_born m) (take-map parent_of n kids)
      ∙ sum_map (λ (p : Parent). values_in (slice_get m.classes p.class)) parent_of (take n kids)
      ∙ sum_alike (λ (a : Agent). values_in (class_of m a)) (λ (a : Agent). length a.states) (take n kids) (λ b has. values_of_kid b (of_take n kids b has))

  module _ (free : ℕ) where
    abbrev whole_census : Census
    whole_census = census_of lives kids

    too_far_same : (r : ℕ) → parent_too_far m free whole_census r ≡ goes_too_far lives free kids r
    too_far_same r =
        let agents : length lives + length (take (suc r) (map parent_of kids)) ≡ length (lives ++ take (suc r) kids) =
        ap (λ n. length lives + n) (ap length (take-map parent_of (suc r) kids) ∙ length-map (take (suc r) kids) parent_of) ∙ sym (length-append lives (take (suc r) kids)) in
        let values : count_values lives + count_born m (take (suc r) (map parent_of kids)) ≡ count_values (lives ++ take (suc r) kids) =
        ap (λ n. count_values lives + n) (born_counted (suc r)) ∙ sym (sum_by-append (λ (a : Agent). length a.states) lives (take (suc r) kids)) in
        ap₂ (λ n v. nat_lt most_agents n || (nat_lt most_values v || nat_lt greatest_id (free + r))) agents values

    rank_same : find (parent_too_far m free whole_census) (range_with_len 0 (length (map parent_of kids))) ≡ find (goes_too_far lives free kids) (range_with_len 0 (length kids))
    rank_same =
        ap (λ n. find (parent_too_far m free whole_census) (range_with_len 0 n)) (length-map kids parent_of)
        ∙ ap (λ (f : ℕ → Bool). find f (range_with_len 0 (length kids))) (λ i r. too_far_same r i)

    fault_at : (xs : List Agent) (r : ℕ) → option_map (parent_fault m t) (slice_get (map parent_of xs) r) ≡ option_map (birth_fault m t) (slice_get xs r)
    fault_at [] r = refl
    fault_at (x ∷ xs) zero = refl
    fault_at (x ∷ xs) (suc r) = fault_at xs r

    fault_of_rank : (o : Option ℕ) → option_map (parent_fault m t) (option_and_then (slice_get (map parent_of kids)) o) ≡ option_map (birth_fault m t) (option_and_then (slice_get kids) o)
    fault_of_rank None = refl
    fault_of_rank (Some r) = fault_at kids r

    fault_same : listed (fault_told m free t whole_census) ≡ birth_faults s t (record { agents = w; next = free })
    fault_same =
        ap listed (ap (λ o. option_map (parent_fault m t) (option_and_then (slice_get (map parent_of kids)) o)) rank_same ∙ fault_of_rank (find (goes_too_far lives free kids) (range_with_len 0 (length kids))))

    bearing_is : bearing m free whole_census ≡ map parent_of (fitting lives free kids)
    bearing_is =
        ap₂ (λ o n. take (unwrap_or o n) (map parent_of kids)) rank_same (length-map kids parent_of)
        ∙ take-map parent_of (unwrap_or (find (goes_too_far lives free kids) (range_with_len 0 (length kids))) (length kids)) kids

-- where nobody goes too far all bear
pub all_bear : (program : Program) (free tick : ℕ) (all : Census) → fault_told program free tick all ≡ None → bearing program free all ≡ all.parents
all_bear program free tick all none =
    let ranks : List ℕ = range_with_len 0 (length all.parents) in
    let test : ℕ → Bool = parent_too_far program free all in
    all_fit all.parents (find test ranks) (λ r e. omega (arith, found_below test 0 (length all.parents) r e))
    (none_mapped (parent_fault program tick) (option_and_then (slice_get all.parents) (find test ranks)) none)

-- ---- what one census of all decides

module _ (s : Setting) (t p : ℕ) (world : World) (all : Census) (h : IsCounted s t p world all) where
  abbrev w : List Agent
  w = world.agents

  abbrev parents_born : Census → List Parent
  parents_born c = bearing s.job.program world.next c

  pub all_is : all ≡ census_of (living (all_left s t w)) (children (all_left s t w))
  all_is = sum_is s h.setting_is_lawful t w h.ids_rise h.are_whole h.have_classes p h.is_part all h.is_sum

  pub faults_told : listed (fault_told s.job.program world.next t all) ≡ birth_faults s t world
  faults_told =
      ap (λ c. listed (fault_told s.job.program world.next t c)) all_is
      ∙ fault_same s h.setting_is_lawful t w h.ids_rise h.are_whole h.have_classes world.next

  bearing_all : parents_born all ≡ map parent_of (all_born s t world)
  bearing_all = ap parents_born all_is ∙ bearing_is s h.setting_is_lawful t w h.ids_rise h.are_whole h.have_classes world.next

  -- the children of some agents have their ranks among all whose children are born
  pub born_by_rank : (own : List Agent) → filter_map (with_number world.next (map (λ (p : Parent). p.id) (parents_born all))) (children_of s t w own) ≡ born_of s t world own
  born_by_rank own =
      ap (λ ns. filter_map (with_number world.next ns) (children_of s t w own))
      (ap (map (λ (p : Parent). p.id)) bearing_all ∙ parent_ids (all_born s t world))

  pub next_by_rank : world.next + length (parents_born all) ≡ (continued s t world).next
  next_by_rank = ap (λ n. world.next + n) (ap length bearing_all ∙ length-map (all_born s t world) parent_of)
