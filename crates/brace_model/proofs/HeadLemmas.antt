-- Heads, where blocks grow and move.
use Rattle.std.proofs.Common.{◌≡◌, ◌∙◌, ◌<◌, ◌≤◌, ◌+◌, ℕ, ℤ, pos, List, [], ◌∷◌, ◌++◌, map, length, get_or, take, drop, All, sym, refl, ap, ap₂, subst, subst₂, arith, length-append, get_or-drop, length-drop, get_or-append-add}
use Rattle.std.specs.List.Sorted.{IsNonDecreasingBy}
use Rattle.std.proofs.lemmas.List.{map-append, length-map, get_or-map, get_or_default}
use Rattle.std.proofs.lemmas.List.Elements.{All-nil, All-cons, All-head, All-tail, All-weaker, All-append, All-map, All-push}
use Rattle.brace_model.specs.declared.program.Ty.{Ty}
use Rattle.brace_model.specs.declared.world.Agent.{Agent}
use Rattle.brace_model.specs.World.{number, value_at}
use Rattle.brace_model.specs.Value.{typed}
use Rattle.brace_model.specs.declared.stored.Block.{Block}
use Rattle.brace_model.specs.declared.stored.Spot.{Spot}
use Rattle.brace_model.specs.declared.heads.Head.{Head}
use Rattle.brace_model.specs.Words.{values_of, agent_with}
use Rattle.brace_model.specs.inner.Packed.{no_block, block_of, agent_of, agents_of, IsWithin, AreWithin, shifted, IsGrown, AreGrown, IsStored}
use Rattle.brace_model.proofs.WordLemmas.{values-kept, values-many, values-cut, value-there, value-past}
use Rattle.brace_model.proofs.BlockLemmas.{as_long, grown_append}

module _ (old new : List Block) (grown : AreGrown old new) where
  -- the agent of a head, where blocks grew
  agent-kept : (h : Head) → IsWithin old h → agent_of new h ≡ agent_of old h
  agent-kept h within =
      let more = grown.each h.block within.there in
      ap₂ (λ n (t : List Ty). agent_with n h.id t (drop h.start (block_of new h).words))
      more.same_class more.same_types
      ∙ ap (λ v. record { class = (block_of old h).class; id = h.id; states = v })
      (values-kept (block_of old h).types h.start (block_of old h).words (block_of new h).words
      more.same_words within.long)

  within-kept : (h : Head) → IsWithin old h → IsWithin new h
  within-kept h within =
      let more = grown.each h.block within.there in
      let types = ap length more.same_types in
      let words = as_long (block_of old h).words (block_of new h).words more.same_words in
      let long = within.long in
      let there = within.there in
      let many = grown.many in
      record { there = omega (arith, many, there); long = omega (arith, types, words, long) }

  -- the agents of all heads
  pub agents-kept : (heads : List Head) → AreWithin old heads
      → agents_of new heads ≡ agents_of old heads
  agents-kept [] within = refl
  agents-kept (h ∷ heads) within =
      ap₂ (λ a l. a ∷ l) (agent-kept h (All-head (IsWithin old) h heads within))
      (agents-kept heads (All-tail (IsWithin old) h heads within))

  pub all-kept : (heads : List Head) → AreWithin old heads → AreWithin new heads
  all-kept heads within = All-weaker (IsWithin old) (IsWithin new) within-kept heads within

-- ---- one more head

module _ (blocks : List Block) (class : ℕ) (types : List Ty) (words : List ℤ) (spot : Spot) (h : Head)
    (block : h.block ≡ spot.block) (start : h.start ≡ spot.start)
    (stored : IsStored blocks class types words spot) where
  -- the block of a head and its place in it
  at_spot : block_of blocks h ≡ get_or blocks spot.block no_block
  at_spot = ap (λ n. get_or blocks n no_block) block

  -- the agent of a head whose words were stored
  new-agent : agent_of blocks h ≡ agent_with class h.id types words
  new-agent =
      ap₂ (λ (b : Block) n. agent_with b.class h.id b.types (drop n b.words)) at_spot start
      ∙ ap (λ l. agent_with (get_or blocks spot.block no_block).class h.id
      (get_or blocks spot.block no_block).types l) stored.end
      ∙ ap₂ (λ n (t : List Ty). agent_with n h.id t words) stored.block.block.of_class
      stored.block.block.of_types

  pub new-within : length types ≤ length words → IsWithin blocks h
  new-within long =
      let there = stored.block.there in
      let low = stored.within in
      let all = ap length stored.end in
      let rest = length-drop spot.start (get_or blocks spot.block no_block).words in
      let many = ap length stored.block.block.of_types in
      let tall : spot.start + length (get_or blocks spot.block no_block).types
      ≤ length (get_or blocks spot.block no_block).words =
      omega (arith, low, all, rest, many, long) in
      record {
        there = omega (arith, block, there);
        long = subst₂ (λ (b : Block) n. n + length b.types ≤ length b.words) (sym at_spot)
            (sym start) tall;
      }

  -- the agents, with that of the new head
  pub agents-more : (heads : List Head) (agents : List Agent) → agents_of blocks heads ≡ agents
      → agents_of blocks (heads ++ h ∷ []) ≡ agents ++ agent_with class h.id types words ∷ []
  agents-more heads agents are =
      map-append (agent_of blocks) heads (h ∷ [])
      ∙ ap₂ (λ l a. l ++ a ∷ []) are new-agent

-- ---- blocks behind others

module _ (blocks more : List Block) where
  block-moved : (h : Head) → block_of (blocks ++ more) (shifted (length blocks) h) ≡ block_of more h
  block-moved h = get_or-append-add blocks more h.block no_block

  agents-moved : (heads : List Head)
      → agents_of (blocks ++ more) (map (shifted (length blocks)) heads) ≡ agents_of more heads
  agents-moved [] = refl
  agents-moved (h ∷ heads) =
      ap₂ (λ a l. a ∷ l)
      (ap (λ (b : Block). agent_with b.class h.id b.types (drop h.start b.words)) (block-moved h))
      (agents-moved heads)

  within-moved : (h : Head) → IsWithin more h → IsWithin (blocks ++ more) (shifted (length blocks) h)
  within-moved h within =
      let all = length-append blocks more in
      let there = within.there in
      record {
        there = omega (arith, all, there);
        long = subst (λ (b : Block). h.start + length b.types ≤ length b.words)
            (sym (block-moved h)) within.long;
      }

  -- the agents of two herds
  pub agents-joined : (heads others : List Head) → AreWithin blocks heads
      → agents_of (blocks ++ more) (heads ++ map (shifted (length blocks)) others)
      ≡ agents_of blocks heads ++ agents_of more others
  agents-joined heads others within =
      map-append (agent_of (blocks ++ more)) heads (map (shifted (length blocks)) others)
      ∙ ap₂ (λ l k. l ++ k)
      (agents-kept blocks (blocks ++ more) (grown_append blocks more) heads within)
      (agents-moved others)

  pub all-joined : (heads others : List Head) → AreWithin blocks heads → AreWithin more others
      → AreWithin (blocks ++ more) (heads ++ map (shifted (length blocks)) others)
  all-joined heads others within those =
      All-append (IsWithin (blocks ++ more)) heads (map (shifted (length blocks)) others)
      (all-kept blocks (blocks ++ more) (grown_append blocks more) heads within)
      (All-map (IsWithin (blocks ++ more)) (shifted (length blocks)) others
      (All-weaker (IsWithin more) (λ h. IsWithin (blocks ++ more) (shifted (length blocks) h))
      within-moved others those))

-- ---- reading

-- agents whose heads rise by id rise by id
pub rises-packed : (blocks : List Block) (heads : List Head)
    → IsNonDecreasingBy (λ (h : Head). h.id) heads
    → IsNonDecreasingBy (λ (a : Agent). a.id) (agents_of blocks heads)
rises-packed blocks heads rises i j d le low =
    let many = length-map heads (agent_of blocks) in
    let first : i < length heads = omega (arith, many, le, low) in
    let last : j < length heads = omega (arith, many, low) in
    subst₂ (λ (a b : Agent). a.id ≤ b.id)
    (sym (get_or-map (agent_of blocks) heads i no_head d first))
    (sym (get_or-map (agent_of blocks) heads j no_head d last)) (rises i j no_head le last)
  where
    no_head : Head
    no_head = record { id = 0; block = 0; start = 0 }

-- there are as many heads as agents
pub as_many : (blocks : List Block) (heads : List Head) (agents : List Agent) (place : ℕ)
    → agents_of blocks heads ≡ agents → place < length agents → place < length heads
as_many blocks heads agents place are low =
    let many = length-map heads (agent_of blocks) in
    let all = ap length are in
    omega (arith, many, all, low)

module _ (blocks : List Block) (heads : List Head) (place : ℕ) (h : Head)
    (low : place < length heads) (read : h ≡ get_or heads place h)
    (within : AreWithin blocks heads) where
  -- the agent at a place
  agent-there : (d : Agent) → get_or (agents_of blocks heads) place d ≡ agent_of blocks h
  agent-there d =
      get_or-map (agent_of blocks) heads place h d low ∙ ap (agent_of blocks) (sym read)

  within-there : IsWithin blocks h
  within-there = subst (IsWithin blocks) (sym read) (within place h low)

  module _ (b : Block) (is : b ≡ get_or blocks h.block b) where
    block-there : block_of blocks h ≡ b
    block-there = get_or_default blocks h.block no_block b within-there.there ∙ sym is

    -- by its block
    pub agent-by : (d : Agent) → get_or (agents_of blocks heads) place d
        ≡ agent_with b.class h.id b.types (drop h.start b.words)
    agent-by d =
        agent-there d
        ∙ ap (λ (x : Block). agent_with x.class h.id x.types (drop h.start x.words)) block-there

    pub long-enough : h.start + length b.types ≤ length b.words
    long-enough =
        subst (λ (x : Block). h.start + length x.types ≤ length x.words) block-there
        within-there.long

    pub long-from : length b.types ≤ length (drop h.start b.words)
    long-from =
        let long = long-enough in
        let rest = length-drop h.start b.words in
        omega (arith, long, rest)

    -- by the words that its types need alone
    pub agent-cut : (d : Agent)
        → agent_with b.class h.id b.types (take (length b.types) (drop h.start b.words))
        ≡ get_or (agents_of blocks heads) place d
    agent-cut d =
        ap (λ v. record { class = b.class; id = h.id; states = v })
        (values-cut b.types (drop h.start b.words))
        ∙ sym (agent-by d)

    -- how many states it has
    pub states-there : (d : Agent)
        → length b.types ≡ length (get_or (agents_of blocks heads) place d).states
    states-there d =
        sym (values-many b.types (drop h.start b.words) long-from)
        ∙ ap (λ (a : Agent). length a.states) (sym (agent-by d))

    -- a state of it
    pub number-there : (d : Agent) (state : ℕ) (t : Ty) (w : ℤ) → state < length b.types
        → typed (get_or b.types state t) (get_or b.words (h.start + state) w)
        ≡ value_at (get_or (agents_of blocks heads) place d).states state
    number-there d state t w there =
        ap (typed (get_or b.types state t)) (sym (get_or-drop h.start b.words state w))
        ∙ sym (value-there b.types (drop h.start b.words) state t w there long-from)
        ∙ ap (λ (a : Agent). value_at a.states state) (sym (agent-by d))

    pub number-past : (d : Agent) (state : ℕ) → length b.types ≤ state
        → pos 0 ≡ number (value_at (get_or (agents_of blocks heads) place d).states state)
    number-past d state past =
        ap number (sym (value-past b.types (drop h.start b.words) state past))
        ∙ ap (λ (a : Agent). number (value_at a.states state)) (sym (agent-by d))

-- a state of the agent at a place of a list, by the block that is read
module _ (blocks : List Block) (heads : List Head) (agents : List Agent) (place : ℕ) (h : Head)
    (b shared : Block) (are : agents_of blocks heads ≡ agents) (within : AreWithin blocks heads)
    (inside : place < length agents) (read : h ≡ get_or heads place h) (same : b ≡ shared)
    (there : shared ≡ get_or blocks h.block shared) where
  low : place < length heads
  low = as_many blocks heads agents place are inside

  is : b ≡ get_or blocks h.block b
  is = subst (λ (x : Block). x ≡ get_or blocks h.block x) (sym same) there

  pub state-there : (d : Agent) (state : ℕ) (t : Ty) (w : ℤ) → state < length b.types
      → typed (get_or b.types state t) (get_or b.words (h.start + state) w)
      ≡ value_at (get_or agents place d).states state
  state-there d state t w less =
      number-there blocks heads place h low read within b is d state t w less
      ∙ ap (λ (l : List Agent). value_at (get_or l place d).states state) are

  pub state-past : (d : Agent) (state : ℕ) → length b.types ≤ state
      → pos 0 ≡ number (value_at (get_or agents place d).states state)
  state-past d state past =
      number-past blocks heads place h low read within b is d state past
      ∙ ap (λ (l : List Agent). number (value_at (get_or l place d).states state)) are

-- heads that are moved by as many blocks as there are
pub moved-by : (blocks : List Block) (told others moved : List Head) (first : ℕ)
    → first ≡ length blocks → told ≡ others → moved ≡ map (shifted first) told
    → moved ≡ map (shifted (length blocks)) others
moved-by blocks told others moved first at same is =
    is ∙ ap₂ (λ n (l : List Head). map (shifted n) l) at same

-- heads whose blocks stay where they stand
pub shifted-none : (heads : List Head) → map (shifted 0) heads ≡ heads
shifted-none [] = refl
shifted-none (h ∷ heads) =
    let none : 0 + h.block ≡ h.block = omega arith in
    ap₂ (λ n l. record { id = h.id; block = n; start = h.start } ∷ l) none (shifted-none heads)

-- ---- the heads at some places

module _ (blocks : List Block) (heads : List Head) (h : Head) where
  abbrev head_at : ℕ → Head
  head_at place = get_or heads place h

  pub agents-picked : (places : List ℕ) (d : Agent) → All (λ p. p < length heads) places
      → agents_of blocks (map head_at places)
      ≡ map (λ p. get_or (agents_of blocks heads) p d) places
  agents-picked [] d within = refl
  agents-picked (p ∷ places) d within =
      ap₂ (λ (a : Agent) l. a ∷ l)
      (sym (get_or-map (agent_of blocks) heads p h d
      (All-head (λ n. n < length heads) p places within)))
      (agents-picked places d (All-tail (λ n. n < length heads) p places within))

  pub within-picked : AreWithin blocks heads → (places : List ℕ)
      → All (λ p. p < length heads) places → AreWithin blocks (map head_at places)
  within-picked all [] within = All-nil (IsWithin blocks)
  within-picked all (p ∷ places) within =
      All-cons (IsWithin blocks) (head_at p) (map head_at places)
      (all p h (All-head (λ n. n < length heads) p places within))
      (within-picked all places (All-tail (λ n. n < length heads) p places within))
