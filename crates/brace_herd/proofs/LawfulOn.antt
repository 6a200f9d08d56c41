-- The agents of the continued worlds of a lawful run are lawful and few.
use Rattle.std.proofs.Common.{◌≡◌, refl, sym, ap, subst, ℕ, zero, suc, ◌+◌, ◌-◌, ◌≤◌, ◌^◌, ℤ, List, [], ◌∷◌, map, filter, take, length, Bool, true, Some, None, Result, Ok, Err, arith}
use Rattle.std.specs.Prelude.{unwrap_or}
use Rattle.std.specs.List.{list_all, find, range_with_len}
use Rattle.std.proofs.lemmas.Bool.{and_parts}
use Rattle.std.proofs.lemmas.Option.{same_Some}
use Rattle.std.proofs.lemmas.List.Elements.{All-filter, All-contains}
use Rattle.std.proofs.lemmas.List.Sums.{AllPass-from_list_all, list_all-from_AllPass, length-filter, count_by-le-length}
use Rattle.brace_model.specs.declared.program.Program.{Program}
use Rattle.brace_model.specs.declared.fault.Fault.{Fault}
use Rattle.brace_model.specs.declared.world.Agent.{Agent}
use Rattle.brace_model.specs.World.{World, class_of}
use Rattle.brace_model.specs.Next.{Next, next_in}
use Rattle.brace_model.specs.Step.{living, children, goes_too_far}
use Rattle.brace_model.specs.Lawful.{LawfulAgents, is_lawful_agent}
use Rattle.brace_eval.proofs.LawfulLemmas.{Leaves, AreLawful, AllLeave, all_more, next_lawful, grown_lawful}
use Rattle.brace_pieces.specs.declared.setting.Setting.{Setting}
use Rattle.brace_pieces.specs.Settings.{LawfulSetting}
use Rattle.brace_pieces.specs.Continued.{said, totals_of, becomes, left_or_kept, all_left, fitting, continued, continued_after, on}
use Rattle.brace_pieces.specs.Together.{left_of}
use Rattle.brace_pieces.proofs.MoveLemmas.{left_each}
use Rattle.brace_pieces.proofs.Origins.{of_take}
use Rattle.brace_pieces.proofs.WorldLemmas.{seconds_both}
use Rattle.brace_pieces.proofs.LimitLemmas.{fitting_few, on_numbered}
use Rattle.brace_num.proofs.Lists.{All-from_contains}

-- ---- lawful agents

module _ (program : Program) (f : Agent → Next) (leaves : (a : Agent) → is_lawful_agent program a ≡ true → Leaves program a (f a)) where
  all_leave : (agents : List Agent) → AreLawful program agents → AllLeave program agents (map f agents)
  all_leave [] all = record { lives = refl; bears = refl; few = omega arith; values = omega arith }
  all_leave (a ∷ agents) all =
      let (here, rest) = and_parts (is_lawful_agent program a) _ all in
      all_more program a agents (f a) (map f agents) (leaves a here) (all_leave agents rest)

-- a lawful agent that stays as it is
stays : (program : Program) (a : Agent) → is_lawful_agent program a ≡ true → Leaves program a (record { agent = Some a; child = None })
stays program a lawful = record {
  lives = λ b has. let same = same_Some a b has in record {
    lawful = subst (λ (x : Agent). is_lawful_agent program x ≡ true) same lawful;
    long = ap (λ (x : Agent). length x.states) (sym same);
  };
  bears = λ b has. absurd (cc);
}

-- some of the first that pass
first_pass : (test : Agent → Bool) (n : ℕ) (xs : List Agent) → list_all test xs ≡ true → list_all test (take n xs) ≡ true
first_pass test n xs all =
    list_all-from_AllPass test (take n xs) (All-from_contains (λ a. test a ≡ true) (take n xs)
    (λ a has. All-contains (λ a. test a ≡ true) xs a (AllPass-from_list_all test xs all) (of_take n xs a has)))

module _ (s : Setting) (lawful : LawfulSetting s) where
  abbrev m : Program
  m = s.job.program

  kept_lawful : (t : ℕ) (totals : List ℤ) (a : Agent) (r : Result Next Fault) → is_lawful_agent m a ≡ true
      → next_in s.job.seed t (class_of m a) totals a ≡ r → Leaves m a (left_or_kept a r)
  kept_lawful t totals a (Ok n) good is = next_lawful m s.job.seed t lawful.job_is_lawful.program_is_lawful (class_of m a) totals a n refl good is
  kept_lawful t totals a (Err e) good is = stays m a good

  -- what is left of lawful agents is lawful
  pub left_lawful : (t : ℕ) (world own : List Agent) → list_all (is_lawful_agent m) own ≡ true
      → list_all (is_lawful_agent m) (left_of s t world own) ≡ true
  left_lawful t world own good =
      (all_leave m (λ a. left_or_kept a (becomes s t (said s t world) a))
      (λ a lawful. kept_lawful t (totals_of (said s t world) a
      (class_of m a)) a _ lawful refl) own good).lives

  lawful_step : (t : ℕ) (world : World) → world.next ≤ 2 ^ 63 → LawfulAgents m world.agents → LawfulAgents m (continued s t world).agents
  lawful_step t world low before =
      let w : List Agent = world.agents in
      let f : Agent → Next = λ a. left_or_kept a (becomes s t (said s t w) a) in
      let all = subst (AllLeave m w) (sym (left_each (becomes s t (said s t w)) w))
      (all_leave m f (λ a good. kept_lawful t (totals_of (said s t w) a (class_of m a)) a _ good refl) w before.each_is_lawful) in
      let lives : List Agent = living (all_left s t w) in
      let kids : List Agent = children (all_left s t w) in
      let born : List Agent = fitting lives world.next kids in
      let few = fitting_few lives world.next kids low (omega (arith, all.few, before.few_agents)) (omega (arith, all.values, before.few_values)) in
      let ranks : List ℕ = range_with_len 0 (length kids) in
      let bear : AreLawful m born = first_pass (is_lawful_agent m) (unwrap_or (find (goes_too_far lives world.next kids) ranks) (length kids)) kids all.bears in
      let low_ids = few.low_ids in
      subst (LawfulAgents m) (sym (seconds_both lives born world.next))
      (grown_lawful m world.next lives born all.lives bear (omega (arith, low_ids)) few.few_agents few.few_values)

  low_after : (n : ℕ) → (continued_after s n).next ≤ 2 ^ 63
  low_after n =
      let same : s.job.first + n - s.job.first ≡ n = omega arith in
      subst (λ k. (continued_after s k).next ≤ 2 ^ 63) same (on_numbered s lawful (s.job.first + n)).in_range

  lawful_after : (n : ℕ) → LawfulAgents m (continued_after s n).agents
  unfolding continued_after
  lawful_after zero = lawful.job_is_lawful.start_is_lawful
  lawful_after (suc n) = lawful_step (s.job.first + n) (continued_after s n) (low_after n) (lawful_after n)

  pub on_lawful : (t : ℕ) → LawfulAgents m (on s t).agents
  on_lawful t = lawful_after (t - s.job.first)

-- ---- some of lawful agents

module _ (test pass : Agent → Bool) (xs : List Agent) where
  -- they pass what all pass
  pub some_pass : list_all test xs ≡ true → list_all test (filter pass xs) ≡ true
  some_pass all = list_all-from_AllPass test (filter pass xs) (All-filter pass (λ a. test a ≡ true) xs (AllPass-from_list_all test xs all))

  -- they are no more
  pub some_few : (n : ℕ) → length xs ≤ n → length (filter pass xs) ≤ n
  some_few n few = omega (arith, few, length-filter pass xs, count_by-le-length pass xs)
