-- What compiled rules make of an agent is what becomes of it.
use Rattle.std.proofs.Common.{◌≡◌, ◌∙◌, sym, refl, ap, ap₂, ℕ, ℤ, List, [], ◌∷◌, ◌++◌, map, zip, fold, filter_map, append-nil, Bool, true, false, Option, Some, None, Result, Ok, Err}
use Rattle.std.specs.Prelude.{◌⊎◌, if◌then◌else◌}
use Rattle.std.specs.Result.{result_err}
use Rattle.std.specs.List.{AllZip}
use Rattle.std.proofs.lemmas.List.Sums.{fold-append}
use Rattle.brace_model.specs.declared.program.Value.{Value}
use Rattle.brace_model.specs.declared.program.Expr.{Expr}
use Rattle.brace_model.specs.declared.program.State.{State}
use Rattle.brace_model.specs.declared.program.Gift.{Gift}
use Rattle.brace_model.specs.declared.program.Spawn.{Spawn}
use Rattle.brace_model.specs.declared.program.Class.{Class}
use Rattle.brace_model.specs.declared.fault.Stop.{Stop}
use Rattle.brace_model.specs.declared.fault.Fault.{Fault}
use Rattle.brace_model.specs.declared.world.Agent.{Agent}
use Rattle.brace_model.specs.World.{no_value}
use Rattle.brace_model.specs.Value.{Scope, Worth, value}
use Rattle.brace_model.specs.Typing.{Names}
use Rattle.brace_model.specs.Typed.{Fits}
use Rattle.brace_model.specs.Query.{opening_scope}
use Rattle.brace_model.specs.Next.{Next, ruled, condition_in, spawns_in, gifts_in, update_in, update_fault, earlier_stop, first_stop, values_of, holds, with_gifts, changed, child_in, left_by, next_in, next_of, unless_stopped}
use Rattle.brace_model.proofs.Gifts.{no_pairs}
use Rattle.brace_code.specs.declared.code.Code.{Code}
use Rattle.brace_plan.specs.declared.rules.Rules.{Rules}
use Rattle.brace_plan.specs.Ruling.{ruled_by, rules_by, gifts_by, gifts_of, condition_of, IsRuleOf, IsCodeOf, AreRulesOf, stop_after, stops_after}
use Rattle.brace_plan.specs.Leaving.{dies_by, spawns_by, given_by, update_by, survivor, child_by, leaves_by, next_by}

-- ---- where nothing is left of two lists, gone through pair by pair

module _ (scope : Scope) (rules : List (Option Code)) (vs : List Value) (none : (rules ≡ []) ⊎ (vs ≡ [])) where
  no_rules : rules_by scope rules vs ≡ []
  no_rules = ap (map (λ (p : Option Code × Value). ruled_by scope p.0 p.1)) (no_pairs rules vs none)

  pub all_values : (new : List Value) (all : List Worth) → new ++ values_of (rules_by scope rules vs) ≡ values_of all → new ≡ values_of all
  all_values new all h = sym (append-nil new) ∙ ap (λ ws. new ++ values_of ws) (sym no_rules) ∙ h

  pub all_stops : (met first : Option Stop) (all : List Worth) → stops_after met (rules_by scope rules vs) ≡ stops_after first all → met ≡ stops_after first all
  all_stops met first all h = ap (stops_after met) (sym no_rules) ∙ h

-- ---- the first stop

after_one : (s : Stop) (ws : List Worth) → stops_after (Some s) ws ≡ Some (fold earlier_stop s (filter_map result_err ws))
after_one s [] = refl
after_one s (Ok v ∷ ws) = after_one s ws
after_one s (Err t ∷ ws) = after_one (earlier_stop s t) ws

first_is : (ws : List Worth) → stops_after None ws ≡ first_stop ws
first_is [] = refl
first_is (Ok v ∷ ws) = first_is ws
first_is (Err t ∷ ws) = after_one t ws

-- ---- in a scope of the types that are known

condition_is : (scope : Scope) (e : Option Expr) → ruled scope e no_value ≡ condition_in scope e
condition_is scope None = refl
condition_is scope (Some e) = refl

module _ (names : Names) (scope : Scope) (fits : Fits names scope) where
  rules_alike : (ss : List State) (codes : List (Option Code)) (vs : List Value) → AllZip (λ (s : State) code. IsRuleOf names s.rule code) ss codes
      → rules_by scope codes vs ≡ map (λ (p : State × Value). ruled scope p.0.rule p.1) (zip ss vs)
  rules_alike [] [] vs are = refl
  rules_alike [] (code ∷ codes) vs are = absurd are
  rules_alike (s ∷ ss) [] vs are = absurd are
  rules_alike (s ∷ ss) (code ∷ codes) [] are = refl
  rules_alike (s ∷ ss) (code ∷ codes) (v ∷ vs) are = ap₂ (λ (w : Worth) ws. w ∷ ws) (are.0 scope fits v) (rules_alike ss codes vs are.1)

  gifts_alike : (gifts : List Gift) (codes : List Code) → AllZip (λ (g : Gift) code. IsCodeOf names g.value code) gifts codes
      → gifts_by scope codes ≡ map (λ (g : Gift). value g.value scope) gifts
  gifts_alike [] [] are = refl
  gifts_alike [] (code ∷ codes) are = absurd are
  gifts_alike (g ∷ gifts) [] are = absurd are
  gifts_alike (g ∷ gifts) (code ∷ codes) are = ap₂ (λ (w : Worth) ws. w ∷ ws) (are.0 scope fits) (gifts_alike gifts codes are.1)

  module _ (class : Class) (rules : Rules) (are : AreRulesOf names class rules) (a : Agent) where
    dies_alike : dies_by scope rules ≡ condition_in scope class.die
    dies_alike = are.die scope fits no_value ∙ condition_is scope class.die

    spawns_alike : spawns_by scope rules ≡ spawns_in scope class.spawn
    spawns_alike = are.spawn scope fits no_value ∙ condition_is scope (condition_of class.spawn)

    given_alike : (spawn : Option Spawn) → spawns_by scope rules ≡ spawns_in scope spawn → AllZip (λ (g : Gift) code. IsCodeOf names g.value code) (gifts_of spawn) rules.gifts
        → given_by scope rules ≡ gifts_in scope spawn
    given_alike None when gifts = ap (λ w. if holds w then gifts_by scope rules.gifts else []) when
    given_alike (Some s) when gifts = ap₂ (λ w ws. if holds w then ws else []) when (gifts_alike s.gifts rules.gifts gifts)

    child_alike : (spawn : Option Spawn) → spawns_by scope rules ≡ spawns_in scope spawn → AllZip (λ (g : Gift) code. IsCodeOf names g.value code) (gifts_of spawn) rules.gifts
        → (if holds (spawns_by scope rules) then Some (changed class a (with_gifts a.states (gifts_of spawn) (values_of (gifts_by scope rules.gifts)))) else None)
        ≡ child_in scope class a spawn
    child_alike None when gifts = ap (λ w. if holds w then Some (changed class a (with_gifts a.states [] (values_of (gifts_by scope rules.gifts)))) else None) when
    child_alike (Some s) when gifts =
        ap₂ (λ w ws. if holds w then Some (changed class a (with_gifts a.states s.gifts (values_of ws))) else None) when (gifts_alike s.gifts rules.gifts gifts)
        ∙ by_test (holds (value s.when scope))
      where
        given : List Worth
        given = map (λ (g : Gift). value g.value scope) s.gifts

        by_test : (b : Bool)
            → (if b then Some (changed class a (with_gifts a.states s.gifts (values_of given))) else None)
            ≡ (if b then Some (changed class a (with_gifts a.states s.gifts (values_of (if b then given else [])))) else None)
        by_test true = refl
        by_test false = refl

    update_alike : update_by scope rules a ≡ update_in scope class a
    update_alike =
        ap₂ (λ rs ws. rs ++ ws) (rules_alike class.states rules.states a.states are.states)
        (ap₂ (λ d ws. d ∷ ws) dies_alike (ap₂ (λ w ws. w ∷ ws) spawns_alike (given_alike class.spawn spawns_alike are.gifts)))

    -- what is left, and what becomes of the agent
    leaves_alike : left_by scope class a ≡ leaves_by scope class rules a
    leaves_alike =
        let stays : (left_by scope class a).agent ≡ (leaves_by scope class rules a).agent =
        ap₂ (λ w ws. survivor (holds w) class a (values_of ws)) (sym dies_alike) (sym (rules_alike class.states rules.states a.states are.states)) in
        let bears : (left_by scope class a).child ≡ (leaves_by scope class rules a).child = sym (child_alike class.spawn spawns_alike are.gifts) in
        λ i. record { agent = stays i; child = bears i }

    pub next_alike : (tick : ℕ) → next_of tick class a scope ≡ next_by tick class rules a scope
    next_alike tick = ap₂ (λ ws next. unless_stopped tick a (first_stop ws) next) (sym update_alike) leaves_alike

    -- the stop of an update, once all of it was run
    all_met : (b c d : Option Stop) → b ≡ stops_after None (rules_by scope rules.states a.states) → c ≡ stop_after b (dies_by scope rules)
        → d ≡ stops_after c (spawns_by scope rules ∷ given_by scope rules) → d ≡ first_stop (update_in scope class a)
    all_met b c d first second third =
        let rest = dies_by scope rules ∷ spawns_by scope rules ∷ given_by scope rules in
        third ∙ ap (λ o. stops_after o (spawns_by scope rules ∷ given_by scope rules)) second
        ∙ ap (λ o. stops_after o rest) first ∙ sym (fold-append stop_after None (rules_by scope rules.states a.states) rest)
        ∙ first_is (update_by scope rules a) ∙ ap first_stop update_alike

    module _ (tick : ℕ) (b c d : Option Stop) (first : b ≡ stops_after None (rules_by scope rules.states a.states)) (second : c ≡ stop_after b (dies_by scope rules))
        (third : d ≡ stops_after c (spawns_by scope rules ∷ given_by scope rules)) where
      abbrev next : Result Next Fault
      next = unless_stopped tick a (first_stop (update_in scope class a)) (left_by scope class a)

      stopped : (stop : Stop) → d ≡ Some stop → next ≡ Err (update_fault tick a stop)
      stopped stop is = ap (λ s. unless_stopped tick a s (left_by scope class a)) (sym (all_met b c d first second third) ∙ is)

      left : (dies : Bool) (new : List Value) (agent child : Option Agent) → d ≡ None → dies ≡ holds (dies_by scope rules)
          → new ≡ values_of (rules_by scope rules.states a.states) → agent ≡ survivor dies class a new → child ≡ child_by scope rules class a
          → next ≡ Ok (record { agent = agent; child = child })
      left dies new agent child is test values lives born =
          let states = values ∙ ap values_of (rules_alike class.states rules.states a.states are.states) in
          let stays : agent ≡ (left_by scope class a).agent =
          lives ∙ ap₂ (λ t vs. survivor t class a vs) (test ∙ ap holds dies_alike) states in
          let bears : child ≡ (left_by scope class a).child = born ∙ child_alike class.spawn spawns_alike are.gifts in
          ap (λ s. unless_stopped tick a s (left_by scope class a)) (sym (all_met b c d first second third) ∙ is)
          ∙ (λ i. Ok (record { agent = sym stays i; child = sym bears i }))

-- ---- the same, from what was run with one seed after another

module _ (seed tick : ℕ) (totals : List ℤ) (a : Agent) where
  abbrev scope_by : ℕ → Scope
  scope_by n = opening_scope n tick [] totals a

  module _ (class : Class) (rules : Rules) (of : (names : Names) × Fits names (scope_by seed) × AreRulesOf names class rules) (codes : List (Option Code)) (values : List Value)
      (n m : ℕ) (b c d : Option Stop) (codes_are : codes ≡ rules.states) (values_are : values ≡ a.states) (before : n ≡ seed) (between : m ≡ n)
      (first : b ≡ stops_after None (rules_by (scope_by seed) codes values)) (second : c ≡ stop_after b (dies_by (scope_by n) rules))
      (third : d ≡ stops_after c (spawns_by (scope_by m) rules ∷ given_by (scope_by m) rules)) where
    at_first : b ≡ stops_after None (rules_by (scope_by seed) rules.states a.states)
    at_first = first ∙ ap₂ (λ cs vs. stops_after None (rules_by (scope_by seed) cs vs)) codes_are values_are

    at_second : c ≡ stop_after b (dies_by (scope_by seed) rules)
    at_second = second ∙ ap (λ k. stop_after b (dies_by (scope_by k) rules)) before

    at_third : d ≡ stops_after c (spawns_by (scope_by seed) rules ∷ given_by (scope_by seed) rules)
    at_third = third ∙ ap (λ k. stops_after c (spawns_by (scope_by k) rules ∷ given_by (scope_by k) rules)) (between ∙ before)

    pub run_stopped : (stop : Stop) → d ≡ Some stop → next_in seed tick (Some class) totals a ≡ Err (update_fault tick a stop)
    run_stopped stop is = stopped of.0 (scope_by seed) of.1 class rules of.2 a tick b c d at_first at_second at_third stop is

    pub run_left : (dies : Bool) (new : List Value) (agent child : Option Agent) → d ≡ None → dies ≡ holds (dies_by (scope_by n) rules)
        → new ≡ values_of (rules_by (scope_by seed) codes values) → agent ≡ survivor dies class a new → child ≡ child_by (scope_by m) rules class a
        → next_in seed tick (Some class) totals a ≡ Ok (record { agent = agent; child = child })
    run_left dies new agent child is test made lives born =
        left of.0 (scope_by seed) of.1 class rules of.2 a tick b c d at_first at_second at_third dies new agent child is
        (test ∙ ap (λ k. holds (dies_by (scope_by k) rules)) before)
        (made ∙ ap₂ (λ cs vs. values_of (rules_by (scope_by seed) cs vs)) codes_are values_are)
        lives (born ∙ ap (λ k. child_by (scope_by k) rules class a) (between ∙ before))
