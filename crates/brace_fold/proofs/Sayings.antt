-- What lanes say, joined run by run of lanes that say to one agent.
use Rattle.std.proofs.Common.{◌≡◌, ◌∙◌, refl, sym, ap, ap₂, subst, ℕ, suc, ◌+◌, ◌*◌, ◌-◌, ◌<◌, ◌≤◌, ℤ, pos, List, [], ◌∷◌, ◌++◌, append-nil, map, length, take, drop, take-append-drop, get_or, set, true, false, Some, None, arith, slice_get, Bool, Option, ◌+ℤ◌, ⊎_elim}
use Rattle.std.specs.Prelude.{min, replicate, unwrap_or}
use Rattle.std.proofs.lemmas.Bool.{cases_lt, true≢false}
use Rattle.std.proofs.lemmas.Grind.{flat_map-append}
use Rattle.std.proofs.lemmas.Int.{ints}
use Rattle.std.proofs.lemmas.List.{drop_more, get_or_append_left, get_or-append_right, get_or-map, get_or-replicate, length-append, length-map, length-replicate, length-set, length-take, map-append, take_all, take_more}
use Rattle.std.proofs.lemmas.List.Sums.{fold-append}
use Rattle.std.proofs.lemmas.Option.{same_Some}
use Rattle.brace_model.specs.declared.program.Comb.{Comb}
use Rattle.brace_model.specs.declared.program.Comb.TheVariants.{Sum, Count}
use Rattle.brace_model.specs.declared.program.Ty.{Ty}
use Rattle.brace_model.specs.declared.program.Ty.TheVariants as ty
use Rattle.brace_model.specs.declared.program.Value.{Value}
use Rattle.brace_model.specs.declared.program.Who.{Who}
use Rattle.brace_model.specs.declared.program.Who.TheVariants.{This, Outer, Inner}
use Rattle.brace_model.specs.declared.world.Agent.{Agent}
use Rattle.brace_model.specs.Typing.{same_type}
use Rattle.brace_model.specs.World.{class_of, number}
use Rattle.brace_model.specs.Value.{Scope, agent_of, typed}
use Rattle.brace_model.specs.Query.{Saying}
use Rattle.brace_model.specs.Total.{identity, joined, total_of}
use Rattle.brace_code.specs.declared.lane.Lane.{Lane}
use Rattle.brace_code.specs.Columns.{no_lane}
use Rattle.brace_comb.proofs.Joins.{fold-counted}
use Rattle.brace_eval.specs.Heard.{effects_in}
use Rattle.brace_fold.specs.declared.crowd.Crowd.{Crowd}
use Rattle.brace_fold.specs.declared.crowd.Depth.{Depth}
use Rattle.brace_fold.specs.declared.crowd.Stretch.{Stretch}
use Rattle.brace_fold.specs.declared.saying.Ear.{Ear}
use Rattle.brace_fold.specs.declared.scene.Scene.{Scene}
use Rattle.brace_fold.specs.declared.table.Table.{Table}
use Rattle.brace_fold.specs.inner.Crowds.{IsLane, IsFound, IsOfClass, IsScene, Stands, has_outer, has_inner, rows, spread, world}
use Rattle.brace_fold.specs.inner.Deeds.{between}
use Rattle.brace_fold.specs.inner.Ears.{AreTold, IsEar, row_of, is_there, told, told_at, told_by}
use Rattle.brace_fold.specs.Sums.{IsJoined}
use Rattle.brace_fold.specs.Hears.{Hears}
use Rattle.brace_fold.specs.Asked.{no_agent}
use Rattle.brace_fold.proofs.Alikes.{hears-more}
use Rattle.brace_fold.proofs.Drawings.{mapped}
use Rattle.brace_fold.proofs.Summings.{hears-sum}
use Rattle.brace_fold.proofs.Taking.{apart_moved}
use Rattle.brace_fold.proofs.Walks.{between-at, between-long, front}

-- the total of one word more
pub total-more : (comb : Comb) (type : Ty) (words : List ℤ) (i : ℕ) (total next : ℤ) (v : Value) → i < length words
    → v ≡ typed type (get_or words i (pos 0)) → total ≡ total_of comb (map (typed type) (take i words)) → next ≡ joined comb total v
    → next ≡ total_of comb (map (typed type) (take (i + 1) words))
total-more comb type words i total next v low value before is =
    let word = get_or words i (pos 0) in
    is
    ∙ ap₂ (joined comb) before value
    ∙ sym (fold-append (joined comb) (identity comb) (map (typed type) (take i words)) (typed type word ∷ []))
    ∙ ap (total_of comb) (sym (map-append (typed type) (take i words) (word ∷ [])))
    ∙ ap (λ l. total_of comb (map (typed type) l)) (sym (take_more words i (pos 0) low))

-- a word of a type that is no flag is its value's number
kept : (type : Ty) (word : ℤ) → same_type type ty.Bool ≡ false → number (typed type word) ≡ word
kept ty.Bool word plain = absurd (true≢false plain)
kept _ word plain = refl

-- the sum of one word more
pub sum_more : (type : Ty) (words : List ℤ) (i : ℕ) (total next : ℤ) → same_type type ty.Bool ≡ false
    → i < length words → total ≡ total_of Sum (map (typed type) (take i words)) → next ≡ total +ℤ get_or words i (pos 0)
    → next ≡ total_of Sum (map (typed type) (take (i + 1) words))
sum_more type words i total next plain low before is =
    let word = get_or words i (pos 0) in
    total-more Sum type words i total next (typed type word) low refl before
    (is ∙ ap (λ n. total +ℤ n) (sym (kept type word plain)))

-- a count of the words from a place up to another
pub counted : (type : Ty) (words : List ℤ) (from next n : ℕ) → next ≤ n → length words ≡ n
    → pos (next - from) ≡ total_of Count (map (typed type) (between from next words))
counted type words from next n low is =
    let part = between from next words in
    let many = fold-counted (pos 0) (map (typed type) part) in
    let same = length-map part (typed type) in
    let long = between-long from next words (subst (λ n. next ≤ n) (sym is) low) in
    omega (arith, ints, many, same, long)

-- words were joined to the sum of an effect of the agent of a row
pub hears-words : (scene : Scene) (ear : Ear) (comb : Comb) (type : Ty) (row count : ℕ)
    (words : List ℤ) (number : ℤ) (before after : Table) (a : Agent)
    → IsScene scene → IsEar scene ear → comb ≡ ear.comb
    → IsOfClass (rows scene) ear.class row
    → slice_get (rows scene) row ≡ Some a → number ≡ total_of comb (map (typed type) words)
    → count ≡ length words → IsJoined comb ear.effect row number count before after
    → Hears scene.program.now (rows scene) (told_at a ear.effect type words) before after
hears-words scene ear comb type row count words number before after a scene_is hears same
    (b, had, of) found is many joined_is =
    let program = scene.program.now in
    let values = map (typed type) words in
    let one : Value → Saying = λ v. record { target = a.id; field = ear.effect; value = v } in
    let own : a.class ≡ ear.class =
    ap (λ (x : Agent). x.class) (same_Some a b (sym found ∙ had)) ∙ of in
    let has : slice_get (effects_in (class_of program a)) ear.effect ≡ Some hears.effect =
    ap (λ n. slice_get (effects_in (slice_get program.classes n)) ear.effect) own
    ∙ ap (λ o. slice_get (effects_in o) ear.effect) hears.has ∙ hears.there in
    let apart = apart_moved (world scene) (rows scene) scene_is.rises scene_is.moved in
    let joins : comb ≡ hears.effect.comb = same ∙ hears.comb in
    subst (λ l. Hears program (rows scene) l before after) (mapped (typed type) one words)
    (hears-sum program (rows scene) before after row ear.effect count number a hears.effect values
    apart found has (is ∙ ap (λ (c : Comb). total_of c values) joins)
    (many ∙ sym (length-map words (typed type)))
    (subst (λ k. IsJoined k ear.effect row number count before after) joins joined_is))

-- the agent that a name stands for stands in its row
pub agent-there : (scene : Scene) (depth : Depth) (who : Who) (lane : Lane) (s : Scope) → IsLane scene depth lane s → is_there depth who ≡ true
    → slice_get (rows scene) (row_of who lane) ≡ Some (agent_of s who)
agent-there scene depth This lane s h there = h.this
agent-there scene depth Outer lane s h there = by (has_outer depth) there h.outer
  where
    by : (there : Bool) → there ≡ true → IsFound there (rows scene) lane.outer s.outer → slice_get (rows scene) lane.outer ≡ Some (agent_of s Outer)
    by true e (b, same, got) = got ∙ ap (λ (o : Option Agent). let x : Option Agent = Some (unwrap_or o s.this) in x) (sym same)
    by false e h = absurd (cc)
agent-there scene depth Inner lane s h there = by (has_inner depth) there h.inner
  where
    by : (there : Bool) → there ≡ true → IsFound there (rows scene) lane.inner s.inner → slice_get (rows scene) lane.inner ≡ Some (agent_of s Inner)
    by true e (b, same, got) = got ∙ ap (λ (o : Option Agent). let x : Option Agent = Some (unwrap_or o s.this) in x) (sym same)
    by false e h = absurd (cc)

pub nowhere : Scope
nowhere = record { tick = 0; seed = 0; this = no_agent; outer = None; inner = None; locals = []; totals = [] }

module _ (who : Who) (effect : ℕ) (type : Ty) where
  told-append : (xs ys : List Scope) (ws vs : List ℤ) → length ws ≡ length xs
      → told_by who effect type (xs ++ ys) (ws ++ vs) ≡ told_by who effect type xs ws ++ told_by who effect type ys vs
  told-append [] ys [] vs e = refl
  told-append [] ys (w ∷ ws) vs e = absurd (omega (arith, e))
  told-append (x ∷ xs) ys [] vs e = absurd (omega (arith, e))
  told-append (x ∷ xs) ys (w ∷ ws) vs e =
      ap (λ l. told who effect type x w ∷ l) (told-append xs ys ws vs (omega (arith, e)))

  -- what scopes say to one agent
  told-one : (a : Agent) (xs : List Scope) (ws : List ℤ) → length ws ≡ length xs
      → ((k : ℕ) → k < length xs → agent_of (get_or xs k nowhere) who ≡ a)
      → told_at a effect type ws ≡ told_by who effect type xs ws
  told-one a [] [] e same = refl
  told-one a [] (w ∷ ws) e same = absurd (omega (arith, e))
  told-one a (x ∷ xs) [] e same = absurd (omega (arith, e))
  told-one a (x ∷ xs) (w ∷ ws) e same =
      ap₂ (λ (b : Agent) l. let s : Saying = record { target = b.id; field = effect; value = typed type w } in s ∷ l) (sym (same 0 (omega arith)))
      (told-one a xs ws (omega (arith, e)) (λ k low. same (suc k) (omega (arith, low))))

  -- some scopes more
  told-between : (scopes : List Scope) (words : List ℤ) (from next : ℕ) → from ≤ next → length words ≡ length scopes
      → told_by who effect type (take from scopes) (take from words) ++ told_by who effect type (between from next scopes) (between from next words)
      ≡ told_by who effect type (take next scopes) (take next words)
  told-between scopes words from next le long =
      sym (told-append (take from scopes) (between from next scopes) (take from words) (between from next words)
      (length-take from words ∙ ap (λ n. min from n) long ∙ sym (length-take from scopes)))
      ∙ ap₂ (told_by who effect type) (front from next scopes le) (front from next words le)

-- the agents that a name stands for in the scopes of lanes stand in the lanes' rows
pub are-told : (scene : Scene) (crowd : Crowd) (who : Who) (all : List ℕ) (scopes : List Scope)
    → Stands scene crowd scopes → all ≡ map (row_of who) crowd.lanes
    → is_there crowd.depth who ≡ true → AreTold scene who all scopes
are-told scene crowd who all scopes stands same there = record {
  long = ap length same ∙ length-map crowd.lanes (row_of who) ∙ stands.long;
  each = λ k s low.
      let lane = get_or crowd.lanes k no_lane in
      let row : get_or all k 0 ≡ row_of who lane =
      ap (λ (l : List ℕ). get_or l k 0) same
      ∙ get_or-map (row_of who) crowd.lanes k no_lane 0
      (subst (λ n. k < n) (sym stands.long) low) in
      ap (slice_get (rows scene)) row
      ∙ agent-there scene crowd.depth who lane (get_or scopes k s) (stands.lanes k no_lane s low)
      there;
}

-- what the scopes up to another place say to one agent
pub says-more : (scene : Scene) (who : Who) (effect : ℕ) (type : Ty) (scopes : List Scope)
    (words : List ℤ) (from next : ℕ) (all : List ℕ) (place : ℕ) (a b c : Table)
    → AreTold scene who all scopes
    → length words ≡ length scopes → from < next → next ≤ length all → place ≡ get_or all from 0
    → ((k : ℕ) → from + 1 ≤ k → k < next → get_or all k 0 ≡ place)
    → ((x : Agent) → slice_get (rows scene) place ≡ Some x
    → Hears scene.program.now (rows scene) (told_at x effect type (between from next words)) b c)
    → Hears scene.program.now (rows scene) (told_by who effect type (take from scopes) (take from words)) a b
    → Hears scene.program.now (rows scene) (told_by who effect type (take next scopes) (take next words)) a c
says-more scene who effect type scopes words from next all place a b c heard_by long less
    most place_is run one before =
    subst (λ l. Hears scene.program.now (rows scene) l a c) (told-between who effect type scopes words from next (omega (arith, less)) long)
    (hears-more scene.program.now (rows scene) _ _ a b c before now)
  where
    last : next ≤ length scopes
    last = subst (λ n. next ≤ n) heard_by.long most

    at_place : (k : ℕ) → from ≤ k → k < next → get_or all k 0 ≡ place
    at_place k le low = ⊎_elim (λ (l : from < k). run k (omega (arith, l)) low)
        (λ (l : k ≤ from). let e : k ≡ from =
        omega (arith, le, l) in ap (λ n. get_or all n 0) e ∙ sym place_is)
        (cases_lt from k)

    agent_at : (k : ℕ) → from ≤ k → k < next → slice_get (rows scene) place ≡ Some (agent_of (get_or scopes k nowhere) who)
    agent_at k le low =
        ap (slice_get (rows scene)) (sym (at_place k le low))
        ∙ heard_by.each k nowhere (omega (arith, low, last))

    x : Agent
    x = agent_of (get_or scopes from nowhere) who

    alone : (k : ℕ) → k < length (between from next scopes) → agent_of (get_or (between from next scopes) k nowhere) who ≡ x
    alone k low =
        let within : from + k < next = omega (arith, low, between-long from next scopes last) in
        ap (λ (s : Scope). agent_of s who) (between-at from next scopes k nowhere within)
        ∙ same_Some _ x (sym (agent_at (from + k) (omega arith) within) ∙ agent_at from (omega arith) less)

    now : Hears scene.program.now (rows scene) (told_by who effect type (between from next scopes) (between from next words)) b c
    now = subst (λ l. Hears scene.program.now (rows scene) l b c)
        (told-one who effect type x (between from next scopes) (between from next words)
        (between-long from next words (subst (λ n. next ≤ n) (sym long) last) ∙ sym (between-long from next scopes last)) alone)
        (one x (agent_at from (omega arith) less))

-- ---- stretches

-- a stretch among others
module _ (all : List Stretch) (i : ℕ) (d : Stretch) (low : i < length all) where
  abbrev rows_in : Stretch → List ℕ
  rows_in s = replicate s.count s.row

  abbrev here : Stretch
  here = get_or all i d

  abbrev front_rows : List ℕ
  front_rows = spread (take i all)

  abbrev rest_rows : List ℕ
  rest_rows = spread (drop (i + 1) all)

  parts : spread all ≡ front_rows ++ (rows_in here ++ rest_rows)
  parts =
      ap spread (sym (take-append-drop i all) ∙ ap (λ l. take i all ++ l) (drop_more all i d low))
      ∙ flat_map-append rows_in (take i all) (here ∷ drop (i + 1) all)

  spread-next : length (spread (take (i + 1) all)) ≡ length front_rows + here.count
  spread-next =
      ap (λ l. length (spread l)) (take_more all i d low)
      ∙ ap length (flat_map-append rows_in (take i all) (here ∷ [])
      ∙ ap (λ l. front_rows ++ l) (append-nil (rows_in here)))
      ∙ length-append front_rows (rows_in here)
      ∙ ap (λ n. length front_rows + n) (length-replicate here.count here.row)

  spread-within : length front_rows + here.count ≤ length (spread all)
  spread-within =
      let many = ap length parts ∙ length-append front_rows (rows_in here ++ rest_rows) in
      let more = length-append (rows_in here) rest_rows in
      omega (arith, many, more, length-replicate here.count here.row)

  module _ (at next : ℕ) (front : at ≡ length front_rows) (ends : next ≡ at + here.count) where
    -- its last row
    pub stretch-next : next ≡ length (spread (take (i + 1) all))
    stretch-next = omega (arith, front, ends, spread-next)

    pub stretch-within : next ≤ length (spread all)
    stretch-within = omega (arith, front, ends, spread-within)

    -- its rows
    pub stretch-at : (k : ℕ) → at ≤ k → k < next → get_or (spread all) k 0 ≡ here.row
    stretch-at k le less =
        let n = k - length front_rows in
        let within : n < here.count = omega (arith, front, ends, le, less) in
        ap (λ l. get_or l k 0) parts
        ∙ get_or-append_right front_rows (rows_in here ++ rest_rows) (length front_rows) k 0 refl
        (omega (arith, front, le))
        ∙ get_or_append_left (rows_in here) rest_rows 0 n
        (omega (arith, within, length-replicate here.count here.row))
        ∙ get_or-replicate here.count n here.row 0 within

-- what all lanes say
pub says-all : (who : Who) (effect : ℕ) (type : Ty) (scopes : List Scope) (words : List ℤ) (n : ℕ) → length scopes ≤ n → length words ≡ length scopes
    → told_by who effect type (take n scopes) (take n words) ≡ told_by who effect type scopes words
says-all who effect type scopes words n low long =
    ap₂ (told_by who effect type) (take_all n scopes low) (take_all n words (omega (arith, low, long)))
