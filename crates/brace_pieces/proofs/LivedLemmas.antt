-- Of the agents that a part gives to another those that lived before are its own whose owner changes:
-- a child is not moved.
use Rattle.std.proofs.Common.{◌≡◌, ◌∙◌, sym, ap, ap₂, ℕ, ◌+◌, ◌<◌, ◌≤◌, List, [], ◌∷◌, ◌++◌, filter, Bool, true, false, cond, ◌==◌, Option, Some, None, Contains, All, arith, append-nil, refl, subst}
use Rattle.std.specs.Prelude.{nat_lt, option_map}
use Rattle.std.specs.List.{list_any, position_from}
use Rattle.std.proofs.lemmas.Bool.{lt-ltb, le-ltb, ne_eqb}
use Rattle.std.proofs.lemmas.Option.{same_Some, none-some}
use Rattle.std.proofs.lemmas.List.Elements.{All-contains, All-filter, filter-append}
use Rattle.std.proofs.lemmas.List.Folds.{list_any_none}
use Rattle.brace_model.specs.declared.program.Program.{Program}
use Rattle.brace_model.specs.declared.world.Agent.{Agent}
use Rattle.brace_model.specs.World.{World, IsNumbered, ids, class_of}
use Rattle.brace_model.specs.Next.{Next}
use Rattle.brace_model.specs.Step.{living, children, numbered}
use Rattle.brace_cuts.specs.declared.space.Cuts.{Cuts}
use Rattle.brace_pieces.specs.declared.setting.Setting.{Setting}
use Rattle.brace_pieces.specs.Settings.{cuts_of, LawfulSetting}
use Rattle.brace_pieces.specs.Owned.{owns, owned}
use Rattle.brace_pieces.specs.Continued.{said, totals_of, becomes, left_or_kept, all_left, fitting, continued}
use Rattle.brace_pieces.specs.Right as right
use Rattle.brace_pieces.specs.Together.{AreWhole, left_of, children_of, all_born, with_number, born_of}
use Rattle.brace_pieces.proofs.Origins.{of_filter_map}
use Rattle.brace_pieces.proofs.WorldLemmas.{seconds_both}
use Rattle.brace_pieces.proofs.OnLemmas.{id_stays, kept_below, numbered_from, living_each}
use Rattle.brace_pieces.proofs.GivenLemmas.{own_living, given_with_births}
use Rattle.brace_num.proofs.Booleans.{and_swap}
use Rattle.brace_num.proofs.Lists.{filter_all, filter_none, filter_alike, filter_twice}

-- a place that is found is not before the first that is looked at
place_from : (test : ℕ → Bool) (n i : ℕ) (xs : List ℕ) → position_from test n xs ≡ Some i → n ≤ i
place_from test n i [] e = absurd (none-some i e)
place_from test n i (x ∷ xs) e = by_test (test x) e (λ later. let behind = place_from test (n + 1) i xs later in omega (arith, behind))
  where
    by_test : (v : Bool) → cond v (Some n) (position_from test (n + 1) xs) ≡ Some i → (position_from test (n + 1) xs ≡ Some i → n ≤ i) → n ≤ i
    by_test true e rest = let same = same_Some n i e in omega (arith, same)
    by_test false e rest = rest e

-- a child with an id of its own has none below the next free one
id_from : (n : ℕ) (parents : List ℕ) (c b : Agent) → with_number n parents c ≡ Some b → n ≤ b.id
id_from n parents c b e = by_place (position_from (λ id. id == c.id) n parents) refl e
  where
    by_place : (o : Option ℕ) → position_from (λ id. id == c.id) n parents ≡ o → option_map (λ id. record c { id = id }) o ≡ Some b → n ≤ b.id
    by_place None is e = absurd (none-some b e)
    by_place (Some i) is e =
        let low = place_from (λ id. id == c.id) n i parents is in
        let same = ap (λ (a : Agent). a.id) (same_Some (record c { id = i }) b e) in
        omega (arith, low, same)

-- which of two tests comes first does not matter
either_first : (t u : Agent → Bool) (xs : List Agent) → filter t (filter u xs) ≡ filter u (filter t xs)
either_first t u xs = filter_twice t u xs ∙ filter_alike _ _ xs (λ x has. and_swap (u x) (t x)) ∙ sym (filter_twice u t xs)

module _ (s : Setting) (lawful : LawfulSetting s) (t : ℕ) (world : World) (good : IsNumbered world) (whole : AreWhole s.job.program world.agents) (p q : ℕ) where
  abbrev m : Program
  m = s.job.program

  abbrev now : Cuts
  now = cuts_of s t

  abbrev w : List Agent
  w = world.agents

  abbrev own : List Agent
  own = owned m now p w

  abbrev of_part : Agent → Bool
  of_part b = list_any (λ a. a.id == b.id) own

  -- it lived before
  abbrev lived : Agent → Bool
  lived a = nat_lt a.id world.next

  abbrev leaves : Agent → Next
  leaves a = left_or_kept a (becomes s t (said s t w) a)

  own_below : All (λ (a : Agent). a.id < world.next) own
  own_below = All-filter (owns m now p) (λ (a : Agent). a.id < world.next) w good.below

  left_below : All (λ (a : Agent). a.id < world.next) (left_of s t w own)
  left_below =
      subst (All (λ (a : Agent). a.id < world.next)) (sym (living_each leaves own))
      (kept_below (λ a. (leaves a).agent) (λ a b e. id_stays s.job.seed t (class_of m a) (totals_of (said s t w) a (class_of m a)) a b e) world.next own own_below)

  -- those of its agents that live on, in another's area
  abbrev goes_on : List Agent
  goes_on = owned m now q (left_of s t w own)

  born_above : (b : Agent) → Contains (born_of s t world own) b → world.next ≤ b.id
  born_above b has =
      let made = of_filter_map (with_number world.next (ids (all_born s t world))) (children_of s t w own) b has in
      id_from world.next (ids (all_born s t world)) made.from b made.made

  -- of what it gives those that lived before
  pub moved_lived : filter lived (right.moved s t p q world) ≡ goes_on
  moved_lived =
      let stay : List Agent = left_of s t w own in
      let new : List Agent = born_of s t world own in
      ap (filter lived) (given_with_births s t lawful w good.rises whole p q world.next)
      ∙ either_first lived (owns m now q) (stay ++ new)
      ∙ ap (owned m now q)
      (filter-append lived stay new
      ∙ ap₂ (λ xs ys. xs ++ ys)
      (filter_alike lived (λ a. true) stay (λ a has. lt-ltb a.id world.next (All-contains (λ (a : Agent). a.id < world.next) stay a left_below has)) ∙ filter_all stay)
      (filter_alike lived (λ a. false) new (λ a has. le-ltb a.id world.next (born_above a has)) ∙ filter_none new)
      ∙ append-nil stay)

  abbrev lives : List Agent
  lives = living (all_left s t w)

  abbrev born : List Agent
  born = fitting lives world.next (children (all_left s t w))

  none_new : (b : Agent) → world.next ≤ b.id → of_part b ≡ false
  none_new b above = list_any_none (λ (a : Agent). a.id == b.id) own (λ k a low. let below = own_below k a low in ne_eqb _ b.id (λ e. omega (arith, above, below, e)))

  next_from : filter of_part (owned m now q (continued s t world).agents) ≡ goes_on
  next_from =
      let new : List Agent = numbered world.next born in
      ap (λ agents. filter of_part (owned m now q agents)) (seconds_both lives born world.next)
      ∙ either_first of_part (owns m now q) (lives ++ new)
      ∙ ap (owned m now q)
      (filter-append of_part lives new
      ∙ ap₂ (λ xs ys. xs ++ ys) (own_living s t lawful w good.rises whole p)
      (filter_alike of_part (λ a. false) new (λ b has. none_new b (All-contains (λ (b : Agent). world.next ≤ b.id) new b (numbered_from world.next world.next born (omega arith)) has)) ∙ filter_none new)
      ∙ append-nil (left_of s t w own))

  -- what a part gives to another, without children, is what the other has in the next world of the
  -- part's agents
  pub lived_is : filter of_part (owned m now q (continued s t world).agents) ≡ filter lived (right.moved s t p q world)
  lived_is = next_from ∙ sym moved_lived
