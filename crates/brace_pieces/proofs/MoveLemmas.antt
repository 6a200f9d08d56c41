-- The agents of the next world that a part owns come from its own agents, and from those of the
-- parts that it meets.
use Rattle.std.proofs.Common.{◌≡◌, ◌∙◌, refl, sym, ap, ap₂, subst, ℕ, ◌+◌, ◌<◌, ℤ, pos, ◌≤ℤ◌, List, [], ◌∷◌, ◌++◌, map, filter, filter_map, flat_map, zip, Bool, true, false, cond, ◌&&◌, ◌==◌, Option, Some, None, Result, Contains, arith, ⊎_elim}
use Rattle.std.specs.Prelude.{slice_get}
use Rattle.std.specs.Int.{int_max}
use Rattle.std.specs.List.{list_any, range_with_len}
use Rattle.std.specs.List.Sorted.{IsPermutation}
use Rattle.std.proofs.lemmas.Bool.{eqb-true, and_parts, true≢false}
use Rattle.std.proofs.lemmas.List.{map-append, get_or-map, length-map}
use Rattle.std.proofs.lemmas.List.Elements.{Contains-append_cases}
use Rattle.std.proofs.lemmas.List.Folds.{Any-from_list_any}
use Rattle.std.proofs.lemmas.List.Sorted.{IsPermutation-sym, IsPermutation-trans, IsPermutation-map}
use Rattle.brace_model.specs.declared.program.Class.{Class}
use Rattle.brace_model.specs.declared.program.Program.{Program}
use Rattle.brace_model.specs.declared.fault.Fault.{Fault}
use Rattle.brace_model.specs.declared.world.Agent.{Agent}
use Rattle.brace_model.specs.World.{World, class_of, x_of, y_of, RisesById, ids}
use Rattle.brace_model.specs.Next.{Next, next_in}
use Rattle.brace_model.specs.Step.{living, children, numbered}
use Rattle.brace_model.specs.Lawful.{LawfulProgram}
use Rattle.brace_cuts.specs.declared.space.Cuts.{Cuts}
use Rattle.brace_cuts.specs.Space.{owner_of, AreWithin}
use Rattle.brace_cuts.proofs.Nearness.{points_near}
use Rattle.brace_pieces.specs.declared.setting.Setting.{Setting}
use Rattle.brace_pieces.specs.declared.setting.Stage.TheVariants.{Move}
use Rattle.brace_pieces.specs.Settings.{cuts_of, parts, range, greatest_reach, LawfulSetting}
use Rattle.brace_pieces.specs.Steps.{step, meet, met}
use Rattle.brace_pieces.specs.Owned.{owns_at, owns, owned}
use Rattle.brace_pieces.specs.Continued.{said, totals_of, becomes, left_or_kept, all_left, fitting, descent, continued}
use Rattle.brace_pieces.specs.Right.{comes_from}
use Rattle.brace_pieces.specs.Right as right
use Rattle.brace_pieces.specs.Together.{IsWhole, AreWhole, IsSorted}
use Rattle.brace_pieces.proofs.Merges.{together, covered, covered_none}
use Rattle.brace_pieces.proofs.Meetings.{owner_is_part, owner_has, meets}
use Rattle.brace_pieces.proofs.ScheduleLemmas.{meets_no_self}
use Rattle.brace_pieces.proofs.HeldLemmas.{one_owns}
use Rattle.brace_pieces.proofs.HeirLemmas.{has_place, IsNear, IsHeir, agent_is_heir, child_is_heir}
use Rattle.brace_pieces.proofs.Origins.{of_filter_map, of_map, of_take, of_numbered, of_id, id_of}
use Rattle.brace_num.proofs.Lists.{filter_twice, flat_map_alike, none_in, first_or_later}
use Rattle.brace_num.proofs.Options.{some_none}
use Rattle.brace_num.proofs.Orders.{filter_rises, one_sorted}
use Rattle.brace_invert.proofs.Sublists.{rising_from}
use Rattle.brace_invert.proofs.Heard.{one_agent, seen_in}
use Rattle.brace_invert.proofs.Nearness.{most_of}
use Rattle.std.proofs.lemmas.Option.{same_Some, none-some}

-- ---- reach

greater_still : (z d a b : ℤ) → z ≤ℤ d → d ≤ℤ b → z ≤ℤ int_max a b
greater_still z d a b h g = grind (arith, h, g)

turned : (d a b : ℤ) → AreWithin d a b → AreWithin d b a
turned d a b (h, g) = (g, h)

wider : (d a b v w : ℤ) → d ≤ℤ b → AreWithin d v w → AreWithin (int_max a b) v w
wider d a b v w more (h, g) = (greater_still _ d a b h more, greater_still _ d a b g more)

-- ---- heirs

-- an agent of a class stands within its reach of where another stood, and is of its class
pub record IsAfter (m : Program) (a b : Agent) : Type 0 where
  pub same_class : b.class ≡ a.class
  pub is_near : (c : Class) → class_of m a ≡ Some c → IsNear c a b

-- an entry of a descent, with the agent that it comes from
pub record ComesAfter (m : Program) (w : List Agent) (d : ℕ × Agent) : Type 0 where
  pub from : Agent
  pub there : Contains w from
  pub same_id : from.id ≡ d.0
  pub is_after : IsAfter m from d.1

-- what each agent leaves, one by one
pub left_each : (f : Agent → Result Next Fault) (agents : List Agent) → map (λ p. left_or_kept p.0 p.1) (zip agents (map f agents)) ≡ map (λ a. left_or_kept a (f a)) agents
left_each f [] = refl
left_each f (a ∷ agents) = ap (λ rest. left_or_kept a (f a) ∷ rest) (left_each f agents)

module _ (s : Setting) (lawful : LawfulSetting s) (t : ℕ) where
  abbrev m : Program
  m = s.job.program

  abbrev now : Cuts
  now = cuts_of s t

  lawful_program : LawfulProgram m
  lawful_program = lawful.job_is_lawful.program_is_lawful

  module _ (w : List Agent) (whole : AreWhole m w) where
    abbrev leaves : Agent → Next
    leaves a = left_or_kept a (becomes s t (said s t w) a)

    -- what is known of an agent that another leaves, as itself or as a child
    pub record Leaves (a b : Agent) : Type 0 where
      pub same_id : b.id ≡ a.id
      pub is_after : IsAfter m a b

    by_heir : (a b : Agent) (c : Class) → class_of m a ≡ Some c → IsHeir c a b → Leaves a b
    by_heir a b c is heir = record {
      same_id = heir.same_id;
      is_after = record { same_class = heir.same_class; is_near = λ d e. subst (λ x. IsNear x a b) (same_Some c d (sym is ∙ e)) heir.is_near };
    }

    by_itself : (a b : Agent) → class_of m a ≡ None → Some a ≡ Some b → Leaves a b
    by_itself a b is e = subst (Leaves a) (same_Some a b e) (record { same_id = refl; is_after = record { same_class = refl; is_near = λ d f. absurd (some_none _ d f is) } })

    agent_by : (o : Option Class) (a : Agent) → Contains w a → class_of m a ≡ o → (totals : List ℤ) (b : Agent) → (left_or_kept a (next_in s.job.seed t o totals a)).agent ≡ Some b → Leaves a b
    agent_by None a has is totals b e = by_itself a b is e
    agent_by (Some c) a has is totals b e =
        by_heir a b c is (agent_is_heir c (has_place m a.class c (lawful_program.classes_are_lawful a.class c is)) a (whole a c has is).has_values s.job.seed t totals b e)

    child_by : (o : Option Class) (a : Agent) → Contains w a → class_of m a ≡ o → (totals : List ℤ) (b : Agent) → (left_or_kept a (next_in s.job.seed t o totals a)).child ≡ Some b → Leaves a b
    child_by None a has is totals b e = absurd (none-some b e)
    child_by (Some c) a has is totals b e =
        by_heir a b c is (child_is_heir c (has_place m a.class c (lawful_program.classes_are_lawful a.class c is)) a (whole a c has is).has_values s.job.seed t totals b e)

    pub agent_left : (a b : Agent) → Contains w a → (leaves a).agent ≡ Some b → Leaves a b
    agent_left a b has e = agent_by (class_of m a) a has refl (totals_of (said s t w) a (class_of m a)) b e

    pub child_left : (a b : Agent) → Contains w a → (leaves a).child ≡ Some b → Leaves a b
    child_left a b has e = child_by (class_of m a) a has refl (totals_of (said s t w) a (class_of m a)) b e

    comes : (a b : Agent) → Contains w a → Leaves a b → ComesAfter m w (b.id, b)
    comes a b has l = record { from = a; there = has; same_id = sym l.same_id; is_after = l.is_after }

    all_left_each : all_left s t w ≡ map leaves w
    all_left_each = left_each (becomes s t (said s t w)) w

    -- what all agents leave, themselves or children
    pub left_after : (h : Next → Option Agent) → ((a b : Agent) → Contains w a → h (leaves a) ≡ Some b → Leaves a b) → (b : Agent) → Contains (filter_map h (all_left s t w)) b → ComesAfter m w (b.id, b)
    left_after h each b has =
        let one = of_filter_map h (map leaves w) b (subst (λ ns. Contains (filter_map h ns) b) all_left_each has) in
        let two = of_map leaves w one.from one.there in
        comes two.from b two.there (each two.from b two.there (ap h (same_Some _ _ two.made) ∙ one.made))

    with_id : (b : Agent) (n : ℕ) → ComesAfter m w (b.id, b) → ComesAfter m w (b.id, record b { id = n })
    with_id b n after = record {
      from = after.from;
      there = after.there;
      same_id = after.same_id;
      is_after = record {
        same_class = after.is_after.same_class;
        is_near = λ c e. let near = after.is_after.is_near c e in record { as_long = near.as_long; along_x = near.along_x; along_y = near.along_y; stays_fit = near.stays_fit };
      };
    }

    -- each entry of a descent comes from an agent of the world
    pub descent_after : (free : ℕ) (d : ℕ × Agent) → Contains (descent s t (record { agents = w; next = free })) d → ComesAfter m w d
    descent_after free d has =
        let lives : List Agent = living (all_left s t w) in
        let kids : List Agent = children (all_left s t w) in
        let born : List Agent = fitting lives free kids in
        ⊎_elim
        (λ alive.
        let one = of_map (λ a. (a.id, a)) lives d alive in
        subst (ComesAfter m w) (same_Some (one.from.id, one.from) d one.made) (left_after (λ n. n.agent) agent_left one.from one.there))
        (λ new.
        let one = of_numbered free born d new in
        subst (ComesAfter m w) (sym one.is) (with_id one.child one.number (left_after (λ n. n.child) child_left one.child (of_take _ kids one.child one.there))))
        (Contains-append_cases (map (λ a. (a.id, a)) lives) (map (λ p. (p.0.id, p.1)) (zip born (numbered free born))) d has)

  module _ (p : ℕ) (part : p < parts s) where
    -- what a part gets of an agent that another owned
    moved_by : (o : Option Class) (a b : Agent) → ((c : Class) → o ≡ Some c → IsWhole c a) → ((c : Class) → o ≡ Some c → IsWhole c b) → ((c : Class) → o ≡ Some c → IsNear c a b)
        → ((c : Class) → o ≡ Some c → c.reach ≤ℤ greatest_reach m)
        → list_any (λ q. owns_at now q o a && owns_at now p o b) (p ∷ met s (step Move t) p) ≡ owns_at now p o b
    moved_by None a b one two near few = covered_none (p ∷ met s (step Move t) p)
    moved_by (Some c) a b one two near few =
        let at : IsWhole c a = one c refl in
        let to : IsWhole c b = two c refl in
        let way : IsNear c a b = near c refl in
        let x : ℤ = x_of c a in
        let y : ℤ = y_of c a in
        let owner : ℕ = owner_of now x y in
        covered (meet s (step Move t) p) (parts s + 1) owner p (owns_at now p (Some c) b) (λ own other.
        let is_part : owner < parts s = owner_is_part s lawful t x y in
        let here = owner_has s lawful t owner x y (at.values_fit c.x) (at.values_fit c.y) refl in
        let there = owner_has s lawful t p (x_of c b) (y_of c b) (to.values_fit c.x) (to.values_fit c.y) (eqb-true (owner_of now (x_of c b) (y_of c b)) p own) in
        let near_x = wider c.reach (range s) (greatest_reach m) (x_of c b) x (few c refl) (turned c.reach x (x_of c b) way.along_x) in
        let near_y = wider c.reach (range s) (greatest_reach m) (y_of c b) y (few c refl) (turned c.reach y (y_of c b) way.along_y) in
        (omega (arith, is_part), meets s lawful (step Move t) p owner part other is_part (points_near now p owner (x_of c b) (y_of c b) x y (int_max (range s) (greatest_reach m)) there here near_x near_y)))

  pub few_reach : (a : Agent) (c : Class) → class_of m a ≡ Some c → c.reach ≤ℤ greatest_reach m
  few_reach a c e = most_of (λ c. c.reach) m.classes (pos 0) a.class c e

  module _ (w : List Agent) (up : RisesById w) where
    -- whose agents have an id: its owner's
    pub owner_by_id : (q : ℕ) (a : Agent) → Contains w a → list_any (λ b. b.id == a.id) (owned m now q w) ≡ owns m now q a
    owner_by_id q a has = by_owner (owns m now q a) refl
      where
        by_any : (v : Bool) → list_any (λ b. b.id == a.id) (owned m now q w) ≡ v → owns m now q a ≡ false → v ≡ false
        by_any false is fails = refl
        by_any true is fails =
            let one = of_id (owns m now q) w a.id is in
            absurd (true≢false (sym one.passes ∙ ap (owns m now q) (one_agent w (rising_from (ids w) up) one.agent a one.there has one.same_id) ∙ fails))

        by_owner : (v : Bool) → owns m now q a ≡ v → list_any (λ b. b.id == a.id) (owned m now q w) ≡ v
        by_owner true is = id_of (owns m now q) w a has is
        by_owner false is = by_any (list_any (λ b. b.id == a.id) (owned m now q w)) refl is

    comes_is : (d : ℕ × Agent) (after : ComesAfter m w d) (q : ℕ) → comes_from (owned m now q w) d ≡ owns m now q after.from
    comes_is d after q = ap (λ id. list_any (λ b. b.id == id) (owned m now q w)) (sym after.same_id) ∙ owner_by_id q after.from after.there

  seconds_that : (test : Agent → Bool) (xs : List (ℕ × Agent)) → filter test (map (λ p. p.1) xs) ≡ map (λ p. p.1) (filter (λ d. test d.1) xs)
  seconds_that test [] = refl
  seconds_that test (x ∷ xs) = elim (test x.1) as (λ v. cond v (x.1 ∷ filter test (map (λ p. p.1) xs)) (filter test (map (λ p. p.1) xs)) ≡ map (λ p. p.1) (cond v (x ∷ filter (λ d. test d.1) xs) (filter (λ d. test d.1) xs))) [
    | true ↦ ap (λ rest. x.1 ∷ rest) (seconds_that test xs)
    | false ↦ seconds_that test xs
  ]

  seconds_all : (g : ℕ → List (ℕ × Agent)) (ms : List ℕ) → flat_map (λ q. map (λ p. p.1) (g q)) ms ≡ map (λ p. p.1) (flat_map g ms)
  seconds_all g [] = refl
  seconds_all g (q ∷ ms) = ap (λ rest. map (λ p. p.1) (g q) ++ rest) (seconds_all g ms) ∙ sym (map-append (λ (p : ℕ × Agent). p.1) (g q) (flat_map g ms))

  module _ (p : ℕ) (part : p < parts s) (world : World) (up : RisesById world.agents) (whole : AreWhole m world.agents) (after : AreWhole m (continued s t world).agents) where
    abbrev w : List Agent
    w = world.agents

    abbrev entries : List (ℕ × Agent)
    entries = descent s t world

    abbrev gives : ℕ → (ℕ × Agent) → Bool
    gives q d = comes_from (owned m now q w) d && owns m now p d.1

    given_once : (q r : ℕ) (d : ℕ × Agent) → gives q d ≡ true → gives r d ≡ true → q ≡ r
    given_once q r d e f =
        let one = of_id (owns m now q) w d.0 (and_parts (comes_from (owned m now q w) d) (owns m now p d.1) e).0 in
        let two = of_id (owns m now r) w d.0 (and_parts (comes_from (owned m now r w) d) (owns m now p d.1) f).0 in
        let same = one_agent w (rising_from (ids w) up) one.agent two.agent one.there two.there (one.same_id ∙ sym two.same_id) in
        one_owns m now q r one.agent one.passes (ap (owns m now r) same ∙ two.passes)

    second_there : (xs : List (ℕ × Agent)) (d : ℕ × Agent) → Contains xs d → Contains (map (λ p. p.1) xs) d.1
    second_there xs d (k, low, is) = (k, omega (arith, low, length-map xs (λ (p : ℕ × Agent). p.1)), get_or-map (λ (p : ℕ × Agent). p.1) xs k d d.1 low ∙ ap (λ (p : ℕ × Agent). p.1) is)

    all_given : (d : ℕ × Agent) → Contains entries d → list_any (λ q. gives q d) (p ∷ met s (step Move t) p) ≡ owns m now p d.1
    all_given d has =
        let from = descent_after w whole world.next d has in
        let ms : List ℕ = p ∷ met s (step Move t) p in
        let class : Option Class = class_of m from.from in
        let same : class_of m d.1 ≡ class = ap (slice_get m.classes) from.is_after.same_class in
        ap (λ (f : ℕ → Bool). list_any (λ q. f q && owns m now p d.1) ms) (λ i q. comes_is w up d from q i)
        ∙ ap (λ o. list_any (λ q. owns m now q from.from && owns_at now p o d.1) ms) same
        ∙ moved_by p part class from.from d.1 (λ c e. whole from.from c from.there e) (λ c e. after d.1 c (second_there entries d has) (same ∙ e)) from.is_after.is_near (few_reach from.from)
        ∙ ap (λ o. owns_at now p o d.1) (sym same)

    moved_parts : (q : ℕ) → right.moved s t q p world ≡ map (λ d. d.1) (filter (gives q) entries)
    moved_parts q = seconds_that (owns m now p) (filter (comes_from (owned m now q w)) entries) ∙ ap (map (λ d. d.1)) (filter_twice (λ d. owns m now p d.1) (comes_from (owned m now q w)) entries)

    pub moved_together : IsPermutation (right.moved s t p p world ++ flat_map (λ q. right.moved s t q p world) (met s (step Move t) p)) (owned m now p (continued s t world).agents)
    moved_together =
        let ms : List ℕ = met s (step Move t) p in
        let lists : List (ℕ × Agent) = filter (gives p) entries ++ flat_map (λ q. filter (gives q) entries) ms in
        let pieces = flat_map_alike (λ q. right.moved s t q p world) (λ q. map (λ d. d.1) (filter (gives q) entries)) ms (λ q has. moved_parts q) ∙ seconds_all (λ q. filter (gives q) entries) ms in
        let all = together gives given_once (meet s (step Move t) p) (parts s + 1) p (meets_no_self s (step Move t) p) (λ d. owns m now p d.1) entries all_given in
        let given : map (λ d. d.1) lists ≡ right.moved s t p p world ++ flat_map (λ q. right.moved s t q p world) ms = map-append (λ (d : ℕ × Agent). d.1) (filter (gives p) entries) (flat_map (λ q. filter (gives q) entries) ms) ∙ sym (ap₂ (λ xs ys. xs ++ ys) (moved_parts p) pieces) in
        let owned_is : map (λ d. d.1) (filter (λ d. owns m now p d.1) entries) ≡ owned m now p (continued s t world).agents = sym (seconds_that (owns m now p) entries) in
        subst (λ xs. IsPermutation xs (owned m now p (continued s t world).agents)) given
        (subst (IsPermutation (map (λ d. d.1) lists)) owned_is (IsPermutation-map (λ (d : ℕ × Agent). d.1) lists (filter (λ d. owns m now p d.1) entries) all))

    pub moved_is : (xs : List Agent) → RisesById (continued s t world).agents → IsSorted (right.moved s t p p world ++ flat_map (λ q. right.moved s t q p world) (met s (step Move t) p)) xs → xs ≡ owned m now p (continued s t world).agents
    moved_is xs rises sorted =
        one_sorted (λ (a : Agent). a.id) xs (owned m now p (continued s t world).agents) (IsPermutation-trans _ _ _ (IsPermutation-sym _ _ moved_together) sorted.same) sorted.in_order (filter_rises (λ (a : Agent). a.id) (owns m now p) (continued s t world).agents rises)

    -- a part gives nothing to one that it does not meet
    pub none_moved : (q : ℕ) → (q ≡ p → ⊥) → meet s (step Move t) p q ≡ false → right.moved s t q p world ≡ []
    none_moved q other apart = none_in (right.moved s t q p world) (λ b has.
        let made = of_map (λ (d : ℕ × Agent). d.1) (filter (gives q) entries) b (subst (λ xs. Contains xs b) (moved_parts q) has) in
        let (there, passes) = seen_in (gives q) entries made.from made.there in
        let given = all_given made.from there ∙ (and_parts (comes_from (owned m now q w) made.from) (owns m now p made.from.1) passes).1 in
        let (k, r, low, is, gives_too) = Any-from_list_any (λ r. gives r made.from) (p ∷ met s (step Move t) p) given in
        ⊎_elim
        (λ (here : p ≡ r). other (given_once q r made.from passes gives_too ∙ sym here))
        (λ (behind : Contains (met s (step Move t) p) r).
        let meets_r = (seen_in (meet s (step Move t) p) (range_with_len 0 (parts s + 1)) r behind).1 in
        true≢false (sym meets_r ∙ ap (meet s (step Move t) p) (sym (given_once q r made.from passes gives_too)) ∙ apart))
        (first_or_later p (met s (step Move t) p) r (k, low, is)))
