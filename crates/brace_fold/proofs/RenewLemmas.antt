-- What becomes of agents that are renewed, all together.
use Rattle.std.proofs.Common.{◌≡◌, ◌∙◌, refl, sym, ap, ap₂, subst, ℕ, zero, suc, ◌+◌, ◌<◌, ◌≤◌, ℤ, pos, List, [], ◌∷◌, ◌++◌, append-nil, append_assoc, map, filter_map, length, take, drop, take-append-drop, get_or, true, Option, Some, Result, Ok, slice_get, arith}
use Rattle.std.specs.Prelude.{option_copied}
use Rattle.std.specs.List.{All, cons_option, list_all, reduce}
use Rattle.std.specs.Result.{result_ok, result_err}
use Rattle.std.proofs.lemmas.List.{drop_all, get_or-map, get_or_default, length-map, length-take-le, map-append, same_lists, take-map, drop-map}
use Rattle.std.proofs.lemmas.List.Elements.{filter_map-append}
use Rattle.brace_model.specs.declared.fault.Fault.{Fault}
use Rattle.brace_model.specs.declared.program.Class.{Class}
use Rattle.brace_model.specs.declared.program.Program.{Program}
use Rattle.brace_model.specs.declared.world.Agent.{Agent}
use Rattle.brace_model.specs.Lawful.{is_lawful_agent}
use Rattle.brace_model.specs.Query.{opening_scope}
use Rattle.brace_model.specs.Value.{Scope}
use Rattle.brace_model.specs.Next.{Next, earlier_stop, unless_stopped}
use Rattle.brace_model.specs.Step.{living, children}
use Rattle.brace_model.specs.World.{number, value_at}
use Rattle.brace_code.specs.declared.lane.Draws.{Draws}
use Rattle.brace_code.specs.declared.lane.Frame.{Frame}
use Rattle.brace_code.specs.declared.lane.Lane.{Lane}
use Rattle.brace_code.specs.Lanes.{draws_at}
use Rattle.brace_plan.specs.declared.rules.Rules.{Rules}
use Rattle.brace_plan.specs.Leaving.{IsRuled, leaves_by, next_by, update_by}
use Rattle.brace_plan.proofs.AskLemmas.{each-lawful}
use Rattle.brace_fold.specs.declared.drawn.Drawn.{Drawn}
use Rattle.brace_fold.specs.declared.outcome.Outcome.{Outcome}
use Rattle.brace_fold.specs.declared.renewing.Batch.{Batch}
use Rattle.brace_fold.specs.Becoming.{becomes_by}
use Rattle.brace_fold.specs.inner.Asks.{AreDrawn, lent, made}
use Rattle.brace_fold.specs.inner.Renewals.{Renews, left_by, living_in}
use Rattle.brace_fold.specs.inner.Rulings.{AreLanes, AreRows, Leaves, agent_at, living_from, row_lane}
use Rattle.brace_fold.proofs.ColumnLemmas.{copied-view}
use Rattle.brace_fold.proofs.Doings.{same-each}
use Rattle.brace_fold.proofs.Drawings.{draws-of}
use Rattle.brace_fold.proofs.RunLemmas.{row_scope}
use denote.Ref.{Bor}

drop-drop : {A : Type 0} (n m : ℕ) (xs : List A) → drop m (drop n xs) ≡ drop (n + m) xs
drop-drop n m [] = ap (drop m) (drop_all n [] (omega arith)) ∙ drop_all m [] (omega arith) ∙ sym (drop_all (n + m) [] (omega arith))
drop-drop zero m (x ∷ xs) = let same : m ≡ zero + m = omega arith in ap (λ k. drop k (x ∷ xs)) same
drop-drop (suc n) m (x ∷ xs) = let on : suc (n + m) ≡ suc n + m = omega arith in drop-drop n m xs ∙ ap (λ k. drop k (x ∷ xs)) on

mapped : {A B C : Type 0} (f : A → B) (g : B → C) (xs : List A) → map g (map f xs) ≡ map (λ x. g (f x)) xs
mapped f g [] = refl
mapped f g (x ∷ xs) = ap (λ l. g (f x) ∷ l) (mapped f g xs)

kept-mapped : {A B C : Type 0} (f : A → B) (g : B → Option C) (xs : List A) → filter_map g (map f xs) ≡ filter_map (λ x. g (f x)) xs
kept-mapped f g [] = refl
kept-mapped f g (x ∷ xs) = ap (cons_option (g (f x))) (kept-mapped f g xs)

-- what becomes of an agent that does not fault
abbrev fine : Next → Result Next Fault
fine next = Ok next

oks-are : (nexts : List Next) → filter_map result_ok (map fine nexts) ≡ nexts
oks-are [] = refl
oks-are (n ∷ nexts) = ap (λ l. n ∷ l) (oks-are nexts)

no-errs : (nexts : List Next) → filter_map result_err (map fine nexts) ≡ []
no-errs [] = refl
no-errs (n ∷ nexts) = no-errs nexts

module _ (program : Program) (seed tick : ℕ) (totals : Agent → List ℤ) where
  -- nobody is renewed
  pub renews-none : (born : List Agent) → Renews program seed tick totals [] [] born born
  renews-none born = record {
    nexts = [];
    quiet = refl;
    lives = refl;
    births = sym (append-nil born);
  }

  -- some are renewed, and then others
  pub renews-more : (xs ys left more a b c : List Agent) → Renews program seed tick totals xs left a b → Renews program seed tick totals ys more b c
      → Renews program seed tick totals (xs ++ ys) (left ++ more) a c
  renews-more xs ys left more a b c h k = record {
    nexts = h.nexts ++ k.nexts;
    quiet = map-append (becomes_by program seed tick totals) xs ys ∙ ap₂ (λ l m. l ++ m) h.quiet k.quiet ∙ sym (map-append fine h.nexts k.nexts);
    lives = ap₂ (λ l m. l ++ m) h.lives k.lives ∙ sym (filter_map-append (λ (n : Next). n.agent) h.nexts k.nexts);
    births = k.births ∙ ap (λ l. l ++ children k.nexts) h.births ∙ append_assoc a (children h.nexts) (children k.nexts)
        ∙ ap (λ l. a ++ l) (sym (filter_map-append (λ (n : Next). n.child) h.nexts k.nexts));
  }

  -- what was left by all, where no child was there before
  module _ (agents left born : List Agent) (h : Renews program seed tick totals agents left [] born) where
    nexts-are : filter_map result_ok (map (becomes_by program seed tick totals) agents) ≡ h.nexts
    nexts-are = ap (filter_map result_ok) h.quiet ∙ oks-are h.nexts

    pub left-of : left ≡ living (filter_map result_ok (map (becomes_by program seed tick totals) agents))
    left-of = h.lives ∙ ap living (sym nexts-are)

    pub born-of : born ≡ children (filter_map result_ok (map (becomes_by program seed tick totals) agents))
    born-of = h.births ∙ ap children (sym nexts-are)

    pub quiet-of : filter_map result_err (map (becomes_by program seed tick totals) agents) ≡ []
    quiet-of = ap (filter_map result_err) h.quiet ∙ no-errs h.nexts

  -- one batch after others
  module _ (left : List Agent) (n : ℕ) (batch : Batch) (a b : List Agent) (many : batch.count ≡ length (take n left))
      (within : n ≤ length left) (h : Renews program seed tick totals (take n left) (left_by batch (take n left)) a b) where
    counted : n ≡ batch.count
    counted = sym (many ∙ length-take-le n left within)

    renews-on : (more : List Batch) (end : List Agent) → Renews program seed tick totals (drop n left) (living_in more (drop n left)) b end
        → Renews program seed tick totals left (living_in (batch ∷ more) left) a end
    renews-on more end k =
        subst (λ (l : List Agent). Renews program seed tick totals l (living_in (batch ∷ more) left) a end) (take-append-drop n left)
        (subst (λ m. Renews program seed tick totals (take n left ++ drop n left) (left_by batch (take m left) ++ living_in more (drop m left)) a end) counted
        (renews-more (take n left) (drop n left) (left_by batch (take n left)) (living_in more (drop n left)) a b end h k))

  -- what batches came to behind some of the agents comes with what came before
  abbrev pub Follows : List Agent → ℕ → List Batch → List Agent → List Agent → Type 0
  Follows agents from batches born before =
      (more : List Batch) (end : List Agent) → Renews program seed tick totals (drop from agents) (living_in more (drop from agents)) born end
      → Renews program seed tick totals agents (living_in (batches ++ more) agents) before end

  pub follows-one : (agents : List Agent) (from n : ℕ) (batches : List Batch) (batch : Batch) (a b before : List Agent)
      → batch.count ≡ length (take n (drop from agents)) → n ≤ length (drop from agents)
      → Renews program seed tick totals (take n (drop from agents)) (left_by batch (take n (drop from agents))) a b
      → Follows agents from batches a before → Follows agents (from + n) (batches ++ batch ∷ []) b before
  follows-one agents from n batches batch a b before many within h follows more end k =
      let left = drop from agents in
      subst (λ (l : List Batch). Renews program seed tick totals agents (living_in l agents) before end) (sym (append_assoc batches (batch ∷ []) more))
      (follows (batch ∷ more) end (renews-on left n batch a b many within h more end
      (subst (λ (l : List Agent). Renews program seed tick totals l (living_in more l) b end) (sym (drop-drop from n agents)) k)))

  -- behind all agents
  pub follows-all : (agents : List Agent) (from : ℕ) (batches : List Batch) (born before : List Agent) → length agents ≤ from
      → Follows agents from batches born before → Renews program seed tick totals agents (living_in batches agents) before born
  follows-all agents from batches born before over follows =
      subst (λ (l : List Batch). Renews program seed tick totals agents (living_in l agents) before born) (append-nil batches)
      (follows [] born (subst (λ (l : List Agent). Renews program seed tick totals l [] born born) (sym (drop_all from agents over)) (renews-none born)))

-- what is left by the agents of a slice is left by those that it shows
pub renews-all : (program : Program) (seed tick : ℕ) (totals : Agent → List ℤ) (rows : List (Bor (List ℤ))) (batches : List Batch) (agents slice none born : List Agent)
    → slice ≡ agents → none ≡ [] → map (λ r. r.now) rows ≡ map totals agents
    → (map (λ r. r.now) rows ≡ map totals slice → Renews program seed tick totals slice (living_in batches slice) none born)
    → Renews program seed tick totals agents (living_in batches agents) [] born
renews-all program seed tick totals rows batches agents slice none born is nothing are h =
    subst (λ (l : List Agent). Renews program seed tick totals l (living_in batches l) [] born) is
    (subst (λ (o : List Agent). Renews program seed tick totals slice (living_in batches slice) o born) nothing (h (are ∙ ap (map totals) (sym is))))

-- ---- totals of the first agents and of the others

module _ (totals : Agent → List ℤ) (rows : List (Bor (List ℤ))) (agents : List Agent) (are : map (λ r. r.now) rows ≡ map totals agents) (n : ℕ) where
  pub told-front : map (λ r. r.now) (take n rows) ≡ map totals (take n agents)
  told-front = sym (take-map (λ (r : Bor (List ℤ)). r.now) n rows) ∙ ap (take n) are ∙ take-map totals n agents

  pub told-back : map (λ r. r.now) (drop n rows) ≡ map totals (drop n agents)
  told-back = sym (drop-map (λ (r : Bor (List ℤ)). r.now) n rows) ∙ ap (drop n) are ∙ drop-map totals n agents

-- a column of the totals of agents
pub totals-of : (totals : Agent → List ℤ) (agents : List Agent) (i : ℕ) (rows slices : List (Bor (List ℤ))) → slices ≡ rows → map (λ r. r.now) rows ≡ map totals agents
    → map (λ r. get_or r.now i (pos 0)) slices ≡ map (λ a. get_or (totals a) i (pos 0)) agents
totals-of totals agents i rows slices same are =
    let at : List ℤ → ℤ = λ row. get_or row i (pos 0) in
    ap (map (λ (r : Bor (List ℤ)). at r.now)) same
    ∙ sym (mapped (λ (r : Bor (List ℤ)). r.now) at rows)
    ∙ ap (map at) are
    ∙ mapped totals at agents

-- the columns that rules read are those of agents
pub rows-are : (seed tick : ℕ) (totals : Agent → List ℤ) (agents : List Agent) (frame : Frame) (states sums : List (List ℤ)) (shown summed : List (Bor (List ℤ)))
    (draws : List Draws) (drawn : List Drawn) → frame.this.now ≡ shown → frame.outer.now ≡ [] → frame.inner.now ≡ [] → frame.locals.now ≡ []
    → frame.totals.now ≡ summed → frame.draws.now ≡ draws
    → map (λ v. v.now) shown ≡ states → ((i : ℕ) (column : List ℤ) → slice_get states i ≡ Some column → column ≡ map (λ a. number (value_at a.states i)) agents)
    → map (λ v. v.now) summed ≡ sums → ((i : ℕ) (column : List ℤ) → slice_get sums i ≡ Some column → column ≡ map (λ a. get_or (totals a) i (pos 0)) agents)
    → map lent draws ≡ map made drawn → All (AreDrawn seed tick agents) drawn → AreRows seed tick totals agents frame
rows-are seed tick totals agents frame states sums shown summed draws drawn this outer inner locals total drew shown_is states_are summed_is sums_are lent_is drawn_are = record {
  states = λ i column e. states_are i column (copied-view shown states i column shown_is (ap (λ l. option_copied (slice_get l i)) (sym this) ∙ e));
  outer = outer;
  inner = inner;
  locals = locals;
  sums = λ i column e. sums_are i column (copied-view summed sums i column summed_is (ap (λ l. option_copied (slice_get l i)) (sym total) ∙ e));
  draws = λ site column e. draws-of seed tick agents draws drawn lent_is drawn_are site column (ap (λ l. draws_at l site) (sym drew) ∙ e);
}

-- ---- agents of one class

module _ (program : Program) (class : Class) (rules : Rules) (number seed tick : ℕ) (totals : Agent → List ℤ) (agents : List Agent) (d : Agent) (lanes : List Lane)
    (ruled : IsRuled program number class rules) (lawful : list_all (is_lawful_agent program) agents ≡ true) (alike : All (λ (a : Agent). a.class ≡ number) agents)
    (are : AreLanes (length agents) lanes) where
  abbrev of : Lane → Agent
  of lane = agent_at agents d lane

  abbrev scope : Lane → Scope
  scope = row_scope seed tick totals agents d

  abbrev leaves : Lane → Next
  leaves lane = leaves_by (scope lane) class rules (of lane)

  within : (k : ℕ) → k < length lanes → k < length agents
  within k low = subst (λ n. k < n) are.long low

  place-is : (k : ℕ) (l : Lane) → k < length lanes → (get_or lanes k l).place ≡ k
  place-is k l low = ap (λ (x : Lane). x.place) (are.each k l (within k low))

  -- the agent of a lane's row is that of its place
  row-agent : (k : ℕ) (l : Lane) → k < length lanes → get_or agents (get_or lanes k l).this d ≡ of (get_or lanes k l)
  row-agent k l low = ap (λ (x : Lane). get_or agents x.this d) (are.each k l (within k low)) ∙ ap (λ n. get_or agents n d) (sym (place-is k l low))

  -- what becomes of the agent of a lane
  becomes-at : (k : ℕ) (l : Lane) → k < length lanes → filter_map result_err (update_by (scope (get_or lanes k l)) rules (of (get_or lanes k l))) ≡ []
      → becomes_by program seed tick totals (of (get_or lanes k l)) ≡ fine (leaves (get_or lanes k l))
  becomes-at k l low quiet =
      let lane = get_or lanes k l in
      let a = of lane in
      let there : lane.place < length agents = subst (λ n. n < length agents) (sym (place-is k l low)) (within k low) in
      ruled.same seed tick (totals a) a (each-lawful program agents lane.place d lawful there) (alike lane.place d there)
      ∙ ap (λ (x : Agent). next_by tick class rules a (opening_scope seed tick [] (totals x) x)) (sym (row-agent k l low))
      ∙ ap (λ ws. unless_stopped tick a (reduce earlier_stop ws) (leaves lane)) quiet

  lanes-are : map of lanes ≡ agents
  lanes-are =
      same_lists (map of lanes) agents (length-map lanes of ∙ are.long) (λ k e low.
      let on : k < length lanes = subst (λ n. k < n) (length-map lanes of) low in
      let l : Lane = row_lane 0 in
      get_or-map of lanes k l e on ∙ ap (λ n. get_or agents n d) (place-is k l on) ∙ get_or_default agents k d e (within k on))

  pub renews-of : (out : Outcome) (old new : List Agent) → Leaves class rules agents lanes scope d out old new
      → Renews program seed tick totals agents (living_from class out 0 agents) old new
  renews-of out old new h = record {
    nexts = map leaves lanes;
    quiet = ap (map (becomes_by program seed tick totals)) (sym lanes-are) ∙ mapped of (becomes_by program seed tick totals) lanes
        ∙ same-each (λ lane. becomes_by program seed tick totals (of lane)) (λ lane. fine (leaves lane)) lanes (λ k l low. becomes-at k l low (h.quiet k l low))
        ∙ sym (mapped leaves fine lanes);
    lives = h.left ∙ sym (kept-mapped leaves (λ (n : Next). n.agent) lanes);
    births = h.born ∙ ap (λ l. old ++ l) (sym (kept-mapped leaves (λ (n : Next). n.child) lanes));
  }
