-- What a part hears is what is said to its agents.
use Rattle.std.proofs.Common.{◌≡◌, ◌∙◌, refl, sym, ap, ap₂, subst, ℕ, ◌+◌, ◌<◌, ℤ, pos, ◌≤ℤ◌, ◌-ℤ◌, ◌+ℤ◌, List, [], ◌∷◌, ◌++◌, flat_map, length, Bool, true, false, Option, Some, None, arith, ◌⊎◌, inl, inr}
use Rattle.std.specs.Prelude.{int_le, if◌then◌else◌}
use Rattle.std.specs.List.{Contains, list_any}
use Rattle.std.specs.Int.{int_max}
use Rattle.std.specs.List.Sorted.{IsPermutation}
use Rattle.std.proofs.lemmas.Bool.{eq-eqb, eqb-true, cases_Bool, cases_eq, true≢false, or_left, or_right}
use Rattle.std.proofs.lemmas.Int.{ints}
use Rattle.std.proofs.lemmas.List.Sorted.{IsPermutation-refl}
use Rattle.std.proofs.lemmas.List.Elements.{All-weaker}
use Rattle.brace_num.specs.declared.kinds.Area.{Area}
use Rattle.brace_num.specs.Areas.{gap_to, gap}
use Rattle.brace_cuts.specs.declared.space.Cuts.{Cuts}
use Rattle.brace_cuts.specs.Space.{area_of, owner_of}
use Rattle.brace_model.specs.declared.program.Class.{Class}
use Rattle.brace_model.specs.declared.program.Value.{Value}
use Rattle.brace_model.specs.declared.program.Program.{Program}
use Rattle.brace_model.specs.declared.world.Agent.{Agent}
use Rattle.brace_model.specs.World.{RisesById, ids, class_of, x_of, y_of, sees}
use Rattle.brace_model.specs.Query.{query_in, query_of, said_in}
use Rattle.brace_model.specs.Total.{said_to}
use Rattle.brace_model.specs.Next.{next_in}
use Rattle.brace_model.specs.Lawful.{LawfulProgram}
use Rattle.brace_invert.specs.Split.{forward_program, inverse_program}
use Rattle.brace_invert.specs.Range.{greatest_visible, range_of}
use Rattle.brace_invert.specs.Held.{stands_near, is_in, is_near, HoldsNear}
use Rattle.brace_invert.specs.Inversion.{said_by_both}
use Rattle.brace_invert.proofs.Sublists.{rising_from}
use Rattle.brace_invert.proofs.RangeLemmas.{greatest_in_range}
use Rattle.brace_invert.proofs.Nearness.{seer_near, nearer}
use Rattle.brace_invert.proofs.Owners.{forward_held}
use Rattle.brace_invert.proofs.Heard.{seen_in, one_agent, inverse_said_held}
use Rattle.brace_pieces.specs.declared.setting.Setting.{Setting}
use Rattle.brace_pieces.specs.declared.setting.Stage.TheVariants as stage
use Rattle.brace_pieces.specs.Settings.{LawfulSetting, greatest_reach, range, cuts_of, parts}
use Rattle.brace_pieces.specs.Steps.{step, meet}
use Rattle.brace_pieces.specs.Owned.{owns, owns_at}
use Rattle.brace_pieces.specs.Continued.{said, totals_of, becomes}
use Rattle.brace_pieces.specs.Finds.{faults_of, queries_found}
use Rattle.brace_pieces.specs.Right.{Share, said_by, shares_to, shares}
use Rattle.brace_pieces.specs.Together.{AreWhole}
use Rattle.brace_pieces.specs.Heard.{own, near, said_here, tellers, heard, found_here, told, joined, IsShareOf}
use Rattle.brace_pieces.proofs.Meetings.{gap_by_point, owner_is_part, owner_has, meets}
use Rattle.brace_pieces.proofs.ScheduleLemmas.{meets_no_self}
use Rattle.brace_pieces.proofs.WorldLemmas.{totals_same}
use Rattle.brace_pieces.proofs.ShareLemmas.{shares_say, share_is, totals_within}
use Rattle.brace_pieces.proofs.Sayings.{said_to-append, said_to-each, Others, silent_to, all_given, no_share}
use Rattle.brace_pieces.proofs.Targets.{says_of, forward_says}
use Rattle.brace_pieces.proofs.QueryHeld.{seen_held, query_held}
use Rattle.brace_pieces.proofs.Merges.{any_in_row, apart_in_row, has_failed}
use Rattle.brace_pieces.proofs.HeldLemmas.{one_owns}
use Rattle.brace_pieces.proofs.Partings.{given_by_kept, given_by_held, parted}
use Rattle.brace_num.proofs.Lists.{flat_map_alike}

-- ---- areas and owners

no_gap : (a b : ℤ) → int_le (int_max (int_max (pos 0) a) (int_max (pos 0) b)) (pos 0) ≡ true → int_max (int_max (pos 0) a) (int_max (pos 0) b) ≡ pos 0
no_gap a b e = grind (arith, e)

gap_none : (a : Area) (x y : ℤ) → int_le (gap_to a x y) (pos 0) ≡ true → gap_to a x y ≡ pos 0
gap_none a x y = no_gap (int_max (a.x0 -ℤ x) (x -ℤ a.x1)) (int_max (a.y0 -ℤ y) (y -ℤ a.y1))

same_far : (z : ℤ) → z ≤ℤ z
same_far z = omega (arith, ints)

in_turn_below : (g h v r : ℤ) → g ≤ℤ h → int_le h (pos 0 +ℤ v) ≡ true → int_le g (int_max v r) ≡ true
in_turn_below g h v r low e = grind (arith, ints, low, e)

-- a part that owns an agent is its class's owner
record Placed (m : Program) (cuts : Cuts) (p : ℕ) (a : Agent) : Type 0 where
  pub class : Class
  pub is : class_of m a ≡ Some class
  pub owner : owner_of cuts (x_of class a) (y_of class a) ≡ p

placed_at : (m : Program) (cuts : Cuts) (p : ℕ) (a : Agent) (o : Option Class) → class_of m a ≡ o → owns_at cuts p o a ≡ true → Placed m cuts p a
placed_at m cuts p a None is e = absurd (true≢false (sym e))
placed_at m cuts p a (Some c) is e = record { class = c; is = is; owner = eqb-true (owner_of cuts (x_of c a) (y_of c a)) p e }

-- each agent that a part owns stands in the part's area
abbrev pub StandInside : Setting → ℕ → List Agent → Type 0
StandInside s t w =
    (p : ℕ) (a : Agent) → p < parts s → Contains w a → owns s.job.program (cuts_of s t) p a ≡ true → is_in s.job.program (area_of (cuts_of s t) p) a ≡ true

-- ---- what a part hears

module _ (s : Setting) (lawful : LawfulSetting s) (t : ℕ) (w : List Agent) (inside : StandInside s t w) (p : ℕ) (is_part : p < parts s) where
  abbrev m : Program
  m = s.job.program

  abbrev cuts : Cuts
  cuts = cuts_of s t

  abbrev area : Area
  area = area_of cuts p

  abbrev ours : Agent → Bool
  ours = owns m cuts p

  abbrev by : Agent → Bool
  by = is_near m area (range s)

  lawful_m : LawfulProgram m
  lawful_m = lawful.job_is_lawful.program_is_lawful

  stands : (a : Agent) → Contains (own s t p w) a → Contains w a × (is_in m area a ≡ true)
  stands a there = let (within, is) = seen_in ours w a there in (within, inside p a is_part within is)

  one_of_id : RisesById w → (a b : Agent) → Contains w a → Contains w b → a.id ≡ b.id → a ≡ b
  one_of_id rises = one_agent w (rising_from (ids w) rises)

  -- without inversion
  module _ (plain : s.invert ≡ false) where
    range_is : range s ≡ greatest_visible m
    range_is = ap (range_of m) plain

    holds : HoldsNear m area (greatest_visible m) w by
    holds a there h = ap (λ r. is_near m area r a) range_is ∙ h

    pub queries_same : (a : Agent) → Contains (own s t p w) a → query_of m s.job.seed t (near s t p w) a ≡ query_of m s.job.seed t w a
    queries_same a there = query_held m s.job.seed t w area by lawful_m holds a (stands a there).1

    pub said_same : said_here m s t p w ≡ said_by s t p w
    said_same = flat_map_alike (λ a. (query_of m s.job.seed t (near s t p w) a).said) (λ a. (query_of m s.job.seed t w a).said) (own s t p w) (λ a there. ap (λ d. d.said) (queries_same a there))

    module _ (rises : RisesById w) where
      -- an agent of the part is near it, and so are those that it sees
      near_itself : (a : Agent) → is_in m area a ≡ true → by a ≡ true
      near_itself a here = nearer m area a (pos 0) (range s) (subst (λ r. pos 0 ≤ℤ r) (sym range_is) (greatest_in_range m lawful_m).0) here

      far_silent : (b : Agent) → Contains w b → by b ≡ false → (n : ℕ) → said_to b.id n (said_by s t p w) ≡ []
      far_silent b within far n =
          silent_to b.id n (said_by s t p w) (all_given (λ x. Others b.id x.target) (λ a. (query_of m s.job.seed t w a).said) (own s t p w) (λ a there.
          let (aw, here) = stands a there in
          says_of m w a (Others b.id)
          (λ same. true≢false (sym (near_itself a here) ∙ ap by (one_of_id rises a b aw within same) ∙ far))
          (λ x xw seen same. true≢false (sym (seen_held m lawful_m area w by holds a here x xw seen) ∙ ap by (one_of_id rises x b xw within same) ∙ far))
          s.job.seed t))

      -- what a part tells another it makes of the agents that it holds
      pub told_same : (q : ℕ) → shares s t p q w ≡ flat_map (λ b. shares_to (said_here m s t p w) b (class_of m b)) (own s t q (near s t p w))
      told_same q =
          sym (given_by_held (λ b. shares_to (said_by s t p w) b (class_of m b)) (owns m cuts q) by w
          (λ b within far. no_share (said_by s t p w) b (class_of m b) (far_silent b within far)))
          ∙ ap (λ xs. flat_map (λ b. shares_to xs b (class_of m b)) (own s t q (near s t p w))) (sym said_same)

    -- ---- what all say to an agent of the part its own and those that it meets say

    abbrev met : ℕ → Bool
    met q = meet s (step stage.Effects t) p q

    module _ (b : Agent) (there : Contains (own s t p w) b) (n : ℕ) (rises : RisesById w) where
      abbrev to : Agent → List Value
      to a = said_to b.id n (query_of m s.job.seed t w a).said

      ours_b : (Contains w b) × (ours b ≡ true)
      ours_b = seen_in ours w b there

      -- the owner of an agent that sees this one is the part, or met
      owner_met : (a : Agent) → Contains w a → (q : ℕ) → owns m cuts q a ≡ true → q < parts s → sees m a b ≡ true → (q ≡ p) ⊎ (met q ≡ true)
      owner_met a aw q owns_it low seen = elim (cases_eq q p) [
        | inl same ↦ inl same
        | inr other ↦
            let at = placed_at m cuts q a (class_of m a) refl owns_it in
            let x : ℤ = x_of at.class a in
            let y : ℤ = y_of at.class a in
            let none : gap_to (area_of cuts q) x y ≡ pos 0 = gap_none (area_of cuts q) x y (sym (ap (λ o. stands_near (area_of cuts q) (pos 0) o a) at.is) ∙ inside q a low aw owns_it) in
            let close : is_near m area (pos 0 +ℤ greatest_visible m) a ≡ true = seer_near m lawful_m area a b (pos 0) (grind arith) seen (stands b there).1 in
            let far : int_le (gap_to area x y) (pos 0 +ℤ greatest_visible m) ≡ true = sym (ap (λ o. stands_near area (pos 0 +ℤ greatest_visible m) o a) at.is) ∙ close in
            inr (meets s lawful (step stage.Effects t) p q is_part other low
            (subst (λ r. int_le (gap area (area_of cuts q)) (int_max r (greatest_reach m)) ≡ true) (sym range_is)
            (in_turn_below (gap area (area_of cuts q)) (gap_to area x y) (greatest_visible m) (greatest_reach m) (gap_by_point area (area_of cuts q) x y (gap_to area x y) (same_far (gap_to area x y)) none) far)))
      ]

      unheard : (a : Agent) → Contains w a → (a.id ≡ b.id → ⊥) → sees m a b ≡ false → to a ≡ []
      unheard a aw other unseen =
          silent_to b.id n (query_of m s.job.seed t w a).said (says_of m w a (Others b.id) other
          (λ x xw seen same. true≢false (sym seen ∙ ap (sees m a) (one_of_id rises x b xw ours_b.0 same) ∙ unseen)) s.job.seed t)

      classless : (a : Agent) → class_of m a ≡ None → to a ≡ []
      classless a none = ap (λ o. said_to b.id n (query_in m s.job.seed t w a o).said) none

      -- who owns an agent is the part, or met
      covers : (a : Agent) (q : ℕ) → owns m cuts q a ≡ true → q < parts s → (q ≡ p) ⊎ (met q ≡ true) → list_any (λ r. owns m cuts r a) (p ∷ tellers s t p) ≡ true
      covers a q owner low (inl same) = or_left (ours a) _ (sym (ap (λ r. owns m cuts r a) same) ∙ owner)
      covers a q owner low (inr passes) = or_right (ours a) _ (any_in_row met (λ r. owns m cuts r a) (parts s + 1) 0 q (omega arith) (omega (arith, low)) passes owner)

      speaks : (a : Agent) → Contains w a → (o : Option Class) → class_of m a ≡ o → (to a ≡ []) ⊎ (list_any (λ q. owns m cuts q a) (p ∷ tellers s t p) ≡ true)
      speaks a aw None is = inl (classless a is)
      speaks a aw (Some c) is =
          let q : ℕ = owner_of cuts (x_of c a) (y_of c a) in
          let owner : owns m cuts q a ≡ true = ap (λ o. owns_at cuts q o a) is ∙ eq-eqb q q refl in
          let low : q < parts s = owner_is_part s lawful t (x_of c a) (y_of c a) in
          elim (cases_eq a.id b.id) [
            | inl same ↦ inr (covers a p (ap ours (one_of_id rises a b aw ours_b.0 same) ∙ ours_b.1) is_part (inl refl))
            | inr other ↦ elim (cases_Bool (sees m a b)) [
              | inl seen ↦ inr (covers a q owner low (owner_met a aw q owner low seen))
              | inr unseen ↦ inl (unheard a aw other unseen)
            ]
          ]

      said_is : said_to b.id n (said s t w) ≡ flat_map to w
      said_is =
          ap (λ c. said_to b.id n (if c then said_by_both m s.job.seed t w else said_in m s.job.seed t w)) plain
          ∙ said_to-each b.id n (λ a. (query_of m s.job.seed t w a).said) w

      heard_is : said_to b.id n (heard s t p w) ≡ flat_map (λ q. flat_map to (own s t q w)) (p ∷ tellers s t p)
      heard_is =
          ap (λ c. said_to b.id n (if c then (said_here (forward_program m) s t p w ++ said_in (inverse_program m) s.job.seed t (near s t p w)) else (said_here m s t p w ++ flat_map (λ q. said_by s t q w) (tellers s t p)))) plain
          ∙ ap (λ xs. said_to b.id n (xs ++ flat_map (λ q. said_by s t q w) (tellers s t p))) said_same
          ∙ said_to-each b.id n (λ q. said_by s t q w) (p ∷ tellers s t p)
          ∙ ap (λ f. flat_map f (p ∷ tellers s t p)) (λ i q. said_to-each b.id n (λ a. (query_of m s.job.seed t w a).said) (own s t q w) i)

      -- to each effect of an agent of the part all say the values that the part hears
      pub heard_all : IsPermutation (said_to b.id n (said s t w)) (said_to b.id n (heard s t p w))
      heard_all =
          subst (λ xs. IsPermutation xs (said_to b.id n (heard s t p w))) (sym said_is)
          (subst (IsPermutation (flat_map to w)) (sym heard_is) (parted to (owns m cuts) (one_owns m cuts) (p ∷ tellers s t p)
          (has_failed met (parts s + 1) 0 p (meets_no_self s (step stage.Effects t) p), apart_in_row met (parts s + 1) 0) w (λ a aw. speaks a aw (class_of m a) refl)))

  -- with inversion
  module _ (inverted : s.invert ≡ true) where
    holds_more : HoldsNear m area (range_of m true) w by
    holds_more a there h = ap (λ r. is_near m area r a) (ap (range_of m) inverted) ∙ h

    pub forward_same : (a : Agent) → Contains (own s t p w) a → query_of (forward_program m) s.job.seed t (near s t p w) a ≡ query_of (forward_program m) s.job.seed t w a
    forward_same a there = forward_held m s.job.seed t w area by lawful_m holds_more a (stands a there).1

    module _ (b : Agent) (there : Contains (own s t p w) b) (n : ℕ) (rises : RisesById w) where
      abbrev forward : List Agent → Agent → List Value
      forward list a = said_to b.id n (query_of (forward_program m) s.job.seed t list a).said

      not_ours : (a : Agent) → Contains w a → ours a ≡ false → forward w a ≡ []
      not_ours a aw isnt =
          let (bw, is) = seen_in ours w b there in
          silent_to b.id n (query_of (forward_program m) s.job.seed t w a).said
          (All-weaker (λ x. a.id ≡ x.target) (λ x. Others b.id x.target)
          (λ x own same. true≢false (sym is ∙ ap ours (sym (one_of_id rises a b aw bw (own ∙ same))) ∙ isnt))
          (query_of (forward_program m) s.job.seed t w a).said (forward_says m w a s.job.seed t))

      by_forward : said_to b.id n (said_in (forward_program m) s.job.seed t w) ≡ said_to b.id n (said_here (forward_program m) s t p w)
      by_forward =
          said_to-each b.id n (λ a. (query_of (forward_program m) s.job.seed t w a).said) w
          ∙ sym (given_by_kept (forward w) ours w not_ours)
          ∙ flat_map_alike (forward w) (forward (near s t p w)) (own s t p w) (λ a is. ap (λ d. said_to b.id n d.said) (sym (forward_same a is)))
          ∙ sym (said_to-each b.id n (λ a. (query_of (forward_program m) s.job.seed t (near s t p w) a).said) (own s t p w))

      by_inverse : said_to b.id n (said_in (inverse_program m) s.job.seed t w) ≡ said_to b.id n (said_in (inverse_program m) s.job.seed t (near s t p w))
      by_inverse =
          let (bw, here) = stands b there in
          sym (inverse_said_held m s.job.seed t w area by lawful_m rises holds_more b bw here n)

      -- to each effect of an agent of the part both programs say, in this order, the values that the part hears
      pub heard_both : said_to b.id n (said s t w) ≡ said_to b.id n (heard s t p w)
      heard_both =
          ap (λ c. said_to b.id n (if c then said_by_both m s.job.seed t w else said_in m s.job.seed t w)) inverted
          ∙ said_to-append b.id n (said_in (forward_program m) s.job.seed t w) (said_in (inverse_program m) s.job.seed t w)
          ∙ ap₂ (λ xs ys. xs ++ ys) by_forward by_inverse
          ∙ sym (said_to-append b.id n (said_here (forward_program m) s t p w) (said_in (inverse_program m) s.job.seed t (near s t p w)))
          ∙ sym (ap (λ c. said_to b.id n (if c then (said_here (forward_program m) s t p w ++ said_in (inverse_program m) s.job.seed t (near s t p w)) else (said_here m s t p w ++ flat_map (λ q. said_by s t q w) (tellers s t p)))) inverted)

  -- with inversion and without it
  module _ (b : Agent) (there : Contains (own s t p w) b) (rises : RisesById w) where
    pub hears : (n : ℕ) → IsPermutation (said_to b.id n (said s t w)) (said_to b.id n (heard s t p w))
    hears n = elim (cases_Bool s.invert) [
      | inl inverted ↦ subst (IsPermutation (said_to b.id n (said s t w))) (heard_both inverted b there n rises) (IsPermutation-refl (said_to b.id n (said s t w)))
      | inr plain ↦ heard_all plain b there n rises
    ]

    totals_heard : (class : Option Class) → totals_of (said s t w) b class ≡ totals_of (heard s t p w) b class
    totals_heard None = refl
    totals_heard (Some class) = totals_same 0 b.id class.effects (said s t w) (heard s t p w) hears

    -- so what an agent of the part becomes hangs on what the part hears
    pub becomes_heard : becomes s t (said s t w) b ≡ becomes s t (heard s t p w) b
    becomes_heard =
        let class : Option Class = class_of m b in
        ap (λ totals. next_in s.job.seed t class totals b) (totals_heard class)

  -- what it finds in its queries it finds over the agents that it holds
  pub finds_here : found_here s t p w ≡ queries_found s t p w
  finds_here = by_choice s.invert refl
    where
      by_choice : (c : Bool) → s.invert ≡ c
          → (if c then (faults_of (forward_program m) s t (near s t p w) (own s t p w) ++ faults_of (inverse_program m) s t (near s t p w) (near s t p w)) else faults_of m s t (near s t p w) (own s t p w))
          ≡ (if c then (faults_of (forward_program m) s t w (own s t p w) ++ faults_of (inverse_program m) s t (near s t p w) (near s t p w)) else faults_of m s t w (own s t p w))
      by_choice true is = ap (λ xs. xs ++ faults_of (inverse_program m) s t (near s t p w) (near s t p w)) (flat_map_alike _ _ (own s t p w) (λ a there. ap (λ d. d.faults) (forward_same is a there)))
      by_choice false is = flat_map_alike _ _ (own s t p w) (λ a there. ap (λ d. d.faults) (queries_same is a there))

  -- by the shares that it is told, an agent of a part becomes the same
  module _ (plain : s.invert ≡ false) (rises : RisesById w) (b : Agent) (there : Contains (own s t p w) b) where
    told_to : (class : Class) → class_of m b ≡ Some class → (k : ℕ) → k < length class.effects → (q : ℕ) → said_to b.id k (told s t q p w) ≡ said_to b.id k (said_by s t q w)
    told_to class is k low q =
        let (within, passes) = seen_in ours w b there in
        shares_say m (said_by s t q w) ours w (rising_from (ids w) rises) b within passes class is k low

    joined_to : (class : Class) → class_of m b ≡ Some class → (k : ℕ) → k < length class.effects → said_to b.id k (heard s t p w) ≡ said_to b.id k (joined s t p w)
    joined_to class is k low =
        let others : List ℕ = tellers s t p in
        ap (λ c. said_to b.id k (if c then (said_here (forward_program m) s t p w ++ said_in (inverse_program m) s.job.seed t (near s t p w)) else (said_here m s t p w ++ flat_map (λ q. said_by s t q w) others))) plain
        ∙ said_to-append b.id k (said_here m s t p w) (flat_map (λ q. said_by s t q w) others)
        ∙ ap (λ ys. said_to b.id k (said_here m s t p w) ++ ys)
        (said_to-each b.id k (λ q. said_by s t q w) others
        ∙ flat_map_alike (λ q. said_to b.id k (said_by s t q w)) (λ q. said_to b.id k (told s t q p w)) others (λ q _. sym (told_to class is k low q))
        ∙ sym (said_to-each b.id k (λ q. told s t q p w) others))
        ∙ sym (said_to-append b.id k (said_here m s t p w) (flat_map (λ q. told s t q p w) others))

    totals_joined : (o : Option Class) → class_of m b ≡ o → totals_of (heard s t p w) b o ≡ totals_of (joined s t p w) b o
    totals_joined None is = refl
    totals_joined (Some class) is = totals_within 0 b.id class.effects (heard s t p w) (joined s t p w) (λ k _ low. joined_to class is k (omega (arith, low)))

    pub becomes_joined : becomes s t (said s t w) b ≡ becomes s t (joined s t p w) b
    becomes_joined =
        let class : Option Class = class_of m b in
        becomes_heard b there rises ∙ ap (λ totals. next_in s.job.seed t class totals b) (totals_joined class refl)

  -- each share that it is told is of an effect of one of its agents
  pub told_is : (q : ℕ) (g : Share) → Contains (shares s t q p w) g → IsShareOf m (own s t p w) (said_by s t q w) g
  told_is q g h = share_is m (own s t p w) (own s t p w) (said_by s t q w) (λ a there. there) g h

-- whole agents stand in the areas of their owners
pub whole_inside : (s : Setting) → LawfulSetting s → (t : ℕ) (w : List Agent) → AreWhole s.job.program w → StandInside s t w
whole_inside s lawful t w whole p a is_part within owns_it =
    let at = placed_at s.job.program (cuts_of s t) p a (class_of s.job.program a) refl owns_it in
    let fits = (whole a at.class within at.is).values_fit in
    ap (λ o. stands_near (area_of (cuts_of s t) p) (pos 0) o a) at.is
    ∙ ap (λ g. int_le g (pos 0)) (owner_has s lawful t p (x_of at.class a) (y_of at.class a) (fits at.class.x) (fits at.class.y) at.owner)
