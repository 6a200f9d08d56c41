-- What a part gives to another: of what its own agents are in the next world, and of the children that
-- they have, those that the other one owns.
use Rattle.std.proofs.Common.{◌≡◌, ◌∙◌, refl, sym, ap, ap₂, ℕ, zero, suc, List, [], ◌∷◌, ◌++◌, map, filter, zip, Bool, true, false, cond, Option, Some, None, Contains, append-nil, true≢false, ℤ, filter_map, is_some, arith, take, length, option_map, unwrap_or, subst, ◌+◌}
use Rattle.std.specs.Prelude.{◌==◌}
use Rattle.std.specs.List.{list_any, cons_option, position_from, find, range_with_len}
use Rattle.brace_model.specs.declared.program.Class.{Class}
use Rattle.brace_model.specs.declared.program.Program.{Program}
use Rattle.brace_model.specs.declared.fault.Stop.{Stop}
use Rattle.brace_model.specs.declared.world.Agent.{Agent}
use Rattle.brace_model.specs.World.{class_of, RisesById, ids}
use Rattle.brace_model.specs.Value.{Scope}
use Rattle.brace_model.specs.Query.{opening_scope}
use Rattle.brace_model.specs.Next.{Next, has_births, next_in, unless_stopped, left_by, child_in, first_stop, update_in}
use Rattle.brace_model.specs.Step.{living, children, numbered, goes_too_far}
use Rattle.brace_pieces.specs.declared.setting.Setting.{Setting}
use Rattle.brace_pieces.specs.Settings.{cuts_of, LawfulSetting}
use Rattle.brace_pieces.specs.Owned.{owns, owned}
use Rattle.brace_pieces.specs.Continued.{said, totals_of, becomes, left_or_kept, all_left, fitting}
use Rattle.brace_pieces.specs.Right.{comes_from}
use Rattle.brace_pieces.specs.Right as right
use Rattle.brace_pieces.specs.Together.{AreWhole, left_of, children_of, all_born, with_number, born_of}
use Rattle.brace_pieces.proofs.MoveLemmas.{agent_left, left_each, owner_by_id}
use Rattle.brace_pieces.proofs.OnLemmas.{child_id_stays, children_each, kept_rise}
use Rattle.brace_pieces.proofs.Merges.{Rises}
use Rattle.std.proofs.lemmas.List.Elements.{filter-append}
use Rattle.std.proofs.lemmas.List.{map-append}
use Rattle.std.proofs.lemmas.Bool.{ne_eqb, eq-eqb}
use Rattle.std.proofs.lemmas.Map.Keys.{any_passes_from_place}
use Rattle.brace_invert.proofs.Heard.{seen_in}
use Rattle.brace_num.proofs.Lists.{in_first, in_more, filter_map_alike}
use Rattle.brace_num.proofs.Options.{not_some}
use Rattle.brace_num.proofs.Orders.{rises_by_keys}

module _ (s : Setting) (t : ℕ) where
  abbrev m : Program
  m = s.job.program

  no_child_by : (c : Class) (a : Agent) (scope : Scope) (o : Option Stop) → c.spawn ≡ None → (left_or_kept a (unless_stopped t a o (left_by scope c a))).child ≡ None
  no_child_by c a scope (Some stop) e = refl
  no_child_by c a scope None e = ap (child_in scope c a) e

  no_child_of : has_births m ≡ false → (o : Option Class) (a : Agent) → class_of m a ≡ o → (totals : List ℤ) → (left_or_kept a (next_in s.job.seed t o totals a)).child ≡ None
  no_child_of none None a is totals = refl
  no_child_of none (Some c) a is totals =
      let scope : Scope = opening_scope s.job.seed t [] totals a in
      no_child_by c a scope (first_stop (update_in scope c a)) (not_some c.spawn (not_any none (any_passes_from_place (λ (c : Class). is_some c.spawn) m.classes a.class c is)))
    where
      not_any : {b c : Bool} → b ≡ false → (c ≡ true → b ≡ true) → c ≡ false
      not_any {c = true} none some = absurd (true≢false (sym (some refl) ∙ none))
      not_any {c = false} none some = refl

  module _ (w : List Agent) where
    abbrev leaves : Agent → Next
    leaves a = left_or_kept a (becomes s t (said s t w) a)

    no_child : has_births m ≡ false → (a : Agent) → (leaves a).child ≡ None
    no_child none a = no_child_of none (class_of m a) a refl (totals_of (said s t w) a (class_of m a))

    pub no_children_of : has_births m ≡ false → (xs : List Agent) → children (map leaves xs) ≡ []
    no_children_of none [] = refl
    no_children_of none (x ∷ xs) = ap₂ cons_option (no_child none x) (no_children_of none xs)

  those_of : (own : List Agent) (lives : List Agent) → map (λ p. p.1) (filter (comes_from own) (map (λ a. (a.id, a)) lives)) ≡ filter (λ b. list_any (λ x. x.id == b.id) own) lives
  those_of own [] = refl
  those_of own (b ∷ lives) = elim (list_any (λ x. x.id == b.id) own) as (λ v. map (λ p. p.1) (cond v ((b.id, b) ∷ filter (comes_from own) (map (λ a. (a.id, a)) lives)) (filter (comes_from own) (map (λ a. (a.id, a)) lives))) ≡ cond v (b ∷ filter (λ b. list_any (λ x. x.id == b.id) own) lives) (filter (λ b. list_any (λ x. x.id == b.id) own) lives)) [
    | true ↦ ap (λ rest. b ∷ rest) (those_of own lives)
    | false ↦ those_of own lives
  ]

  module _ (lawful : LawfulSetting s) (w : List Agent) (up : RisesById w) (whole : AreWhole m w) (p : ℕ) where
    abbrev own : List Agent
    own = owned m (cuts_of s t) p w

    abbrev is_own : Agent → Bool
    is_own b = list_any (λ x. x.id == b.id) own

    -- of what all agents leave, itself or a child, that of own agents is what own agents leave
    module _ (h : Next → Option Agent) (keeps : (a b : Agent) → Contains w a → h (leaves w a) ≡ Some b → b.id ≡ a.id) where
      abbrev of_all : List Agent → List Agent
      of_all xs = filter_map h (map (leaves w) xs)

      abbrev owned_of : List Agent → List Agent
      owned_of xs = owned m (cuts_of s t) p xs

      own_left : (xs : List Agent) → ((a : Agent) → Contains xs a → Contains w a) → filter is_own (of_all xs) ≡ of_all (owned_of xs)
      own_left [] those = refl
      own_left (x ∷ xs) those = by_agent (h (leaves w x)) refl (owns m (cuts_of s t) p x) refl (own_left xs (λ a has. those a (in_more x xs a has)))
        where
          rest : List Agent
          rest = of_all xs

          by_agent : (o : Option Agent) → h (leaves w x) ≡ o → (v : Bool) → owns m (cuts_of s t) p x ≡ v → filter is_own rest ≡ of_all (owned_of xs)
              → filter is_own (cons_option o rest) ≡ of_all (cond v (x ∷ owned_of xs) (owned_of xs))
          by_agent None is true owner same = same ∙ ap (λ o. cons_option o (of_all (owned_of xs))) (sym is)
          by_agent None is false owner same = same
          by_agent (Some b) is v owner same =
              let own_too : is_own b ≡ v = ap (λ id. list_any (λ y. y.id == id) own) (keeps x b (those x (in_first x xs)) is) ∙ owner_by_id s lawful t w up p x (those x (in_first x xs)) ∙ owner in
              rw own_too (by_owner v)
            where
              by_owner : (v : Bool) → cond v (b ∷ filter is_own rest) (filter is_own rest) ≡ of_all (cond v (x ∷ owned_of xs) (owned_of xs))
              by_owner true = ap (λ ys. b ∷ ys) same ∙ ap (λ o. cons_option o (of_all (owned_of xs))) (sym is)
              by_owner false = same

    keeps_id : (a b : Agent) → Contains w a → (leaves w a).agent ≡ Some b → b.id ≡ a.id
    keeps_id a b has e = (agent_left s lawful t w whole a b has e).same_id

    child_keeps_id : (a b : Agent) → (leaves w a).child ≡ Some b → b.id ≡ a.id
    child_keeps_id a b e = child_id_stays s.job.seed t (class_of m a) (totals_of (said s t w) a (class_of m a)) a b e

    pub own_living : filter is_own (living (all_left s t w)) ≡ left_of s t w own
    own_living = ap (λ ns. filter is_own (living ns)) (left_each (becomes s t (said s t w)) w) ∙ own_left (λ n. n.agent) keeps_id w (λ a has. has)

    pub own_children : filter is_own (children (all_left s t w)) ≡ children_of s t w own
    own_children = ap (λ ns. filter is_own (children ns)) (left_each (becomes s t (said s t w)) w) ∙ own_left (λ n. n.child) (λ a b has e. child_keeps_id a b e) w (λ a has. has)

    pub children_rise : Rises (children (all_left s t w))
    children_rise =
        subst Rises (sym (ap children (left_each (becomes s t (said s t w)) w) ∙ children_each (leaves w) w))
        (kept_rise (λ a. (leaves w a).child) child_keeps_id w (rises_by_keys (λ (a : Agent). a.id) w up))

    none_kept : (xs : List Agent) → filter_map (with_number 0 []) xs ≡ []
    none_kept [] = refl
    none_kept (x ∷ xs) = none_kept xs

    -- children with the ids of their ranks among all that are born
    numbered_own : (n k : ℕ) (kids : List Agent) → Rises kids
        → map (λ p. p.1) (filter (comes_from own) (map (λ p. (p.0.id, p.1)) (zip (take k kids) (numbered n (take k kids))))) ≡ filter_map (with_number n (ids (take k kids))) (filter is_own kids)
    numbered_own n zero kids rise = sym (none_kept (filter is_own kids))
    numbered_own n (suc k) [] rise = refl
    numbered_own n (suc k) (c ∷ kids) rise = by_owner (is_own c) later (numbered_own (suc n) k kids (λ i j d less within. rise (suc i) (suc j) d (omega (arith, less)) (omega (arith, within))))
      where
        others : List Agent
        others = filter is_own kids

        later : filter_map (with_number n (c.id ∷ ids (take k kids))) others ≡ filter_map (with_number (suc n) (ids (take k kids))) others
        later = filter_map_alike (with_number n (c.id ∷ ids (take k kids))) (with_number (suc n) (ids (take k kids))) others (λ d has.
            let (j, low, is) = (seen_in is_own kids d has).0 in
            let below = rise zero (suc j) d (omega arith) (omega (arith, low)) in
            let first = ap (λ (x : Agent). x.id) is in
            let one : n + 1 ≡ suc n = omega arith in
            ap (λ v. option_map (λ id. record d { id = id }) (cond v (Some n) (position_from (λ id. id == d.id) (n + 1) (ids (take k kids))))) (ne_eqb c.id d.id (λ e. omega (arith, below, first, e)))
            ∙ ap (λ i. option_map (λ id. record d { id = id }) (position_from (λ id. id == d.id) i (ids (take k kids)))) one)

        entries : List (ℕ × Agent)
        entries = map (λ p. (p.0.id, p.1)) (zip (take k kids) (numbered (suc n) (take k kids)))

        first_is : with_number n (c.id ∷ ids (take k kids)) c ≡ Some (record c { id = n })
        first_is = ap (λ v. option_map (λ id. record c { id = id }) (cond v (Some n) (position_from (λ id. id == c.id) (n + 1) (ids (take k kids))))) (eq-eqb c.id c.id refl)

        by_owner : (v : Bool) → filter_map (with_number n (c.id ∷ ids (take k kids))) others ≡ filter_map (with_number (suc n) (ids (take k kids))) others
            → map (λ p. p.1) (filter (comes_from own) entries) ≡ filter_map (with_number (suc n) (ids (take k kids))) others
            → map (λ p. p.1) (cond v ((c.id, record c { id = n }) ∷ filter (comes_from own) entries) (filter (comes_from own) entries))
            ≡ filter_map (with_number n (c.id ∷ ids (take k kids))) (cond v (c ∷ others) others)
        by_owner true same rest = ap (λ ys. record c { id = n } ∷ ys) (rest ∙ sym same) ∙ ap (λ o. cons_option o (filter_map (with_number n (c.id ∷ ids (take k kids))) others)) (sym first_is)
        by_owner false same rest = rest ∙ sym same

    own_born : (free : ℕ) → let born : List Agent = fitting (living (all_left s t w)) free (children (all_left s t w)) in
        map (λ p. p.1) (filter (comes_from own) (map (λ p. (p.0.id, p.1)) (zip born (numbered free born)))) ≡ born_of s t (record { agents = w; next = free }) own
    own_born free =
        let kids : List Agent = children (all_left s t w) in
        let born : List Agent = fitting (living (all_left s t w)) free kids in
        numbered_own free (unwrap_or (find (goes_too_far (living (all_left s t w)) free kids) (range_with_len 0 (length kids))) (length kids)) kids children_rise
        ∙ ap (filter_map (with_number free (ids born))) own_children

    -- what a part gives to another, or keeps: what its agents are then, and the children that they have
    pub given_with_births : (q free : ℕ) → right.moved s t p q (record { agents = w; next = free }) ≡ owned m (cuts_of s t) q (left_of s t w own ++ born_of s t (record { agents = w; next = free }) own)
    given_with_births q free =
        let lives : List Agent = living (all_left s t w) in
        let born : List Agent = fitting lives free (children (all_left s t w)) in
        let first : List (ℕ × Agent) = map (λ a. (a.id, a)) lives in
        let second : List (ℕ × Agent) = map (λ p. (p.0.id, p.1)) (zip born (numbered free born)) in
        ap (owned m (cuts_of s t) q)
        (ap (map (λ p. p.1)) (filter-append (comes_from own) first second)
        ∙ map-append (λ (p : ℕ × Agent). p.1) (filter (comes_from own) first) (filter (comes_from own) second)
        ∙ ap₂ (λ xs ys. xs ++ ys) (those_of own lives ∙ own_living) (own_born free))

    -- what a part gives to another, or keeps
    pub given_is : has_births m ≡ false → (q free : ℕ) → right.moved s t p q (record { agents = w; next = free }) ≡ owned m (cuts_of s t) q (left_of s t w own)
    given_is none q free =
        given_with_births q free ∙ ap (λ kids. owned m (cuts_of s t) q (left_of s t w own ++ filter_map (with_number free (ids (all_born s t (record { agents = w; next = free })))) kids)) (no_children_of w none own)
        ∙ ap (owned m (cuts_of s t) q) (append-nil (left_of s t w own))
