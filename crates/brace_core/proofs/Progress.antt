-- While not all actors are Done some event is enabled: of the actors in the least step that some actor has not finished, one can go on.
use Rattle.std.proofs.Common.{◌≡◌, ℕ, suc, ◌+◌, ◌-◌, ◌<◌, ◌≤◌, true, false, cond, ◌==◌, ◌&&◌, ltb, List, [], ◌∷◌, ◌++◌, length, take, get_or, refl, sym, ap, ◌∙◌, subst, arith, inl, inr}
use Rattle.std.specs.List.{filter, list_any}
use Rattle.std.proofs.lemmas.Bool.{eq-eqb, cases_lt, ltb-true, ltb-false, cond-true}
use Rattle.std.proofs.lemmas.List.{append_assoc, take_more, length-append, length-map, get_or_append_left, get_or-append_right}
use Rattle.std.proofs.lemmas.List.Elements.{filter-append}
use Rattle.brace_core.specs.declared.name.Name.{Name}
use Rattle.brace_core.specs.declared.name.Turn.{Turn}
use Rattle.brace_core.specs.declared.name.Turn.TheVariants.{Put, Take, Work, Done}
use Rattle.brace_core.specs.Schedule.{Pair, IsLawfulStep, meets, name, names_from, met, puts, takes, turns_from}
use Rattle.brace_core.specs.Events.{is_name, is_ready, is_on, names_put, names_taken}
use Rattle.brace_core.proofs.Lists.{IsFront, kept_passes, kept_below, at_map, take_past, search_below}
use Rattle.brace_core.proofs.Turns.{AreLawful, is_with, put_with, taken_with, puts_with, takes_with, names_put-append, names_taken-append, put_first, taken_first, taken_front}

-- the names of a lane from step k on have no earlier step
names_above : (k : ℕ) (steps : List (List Pair)) (p q : ℕ) (front back : List Name) (n : Name) → names_from k steps p q ≡ front ++ n ∷ back → k ≤ n.step
names_above k [] p q [] back n e = absurd cc
names_above k [] p q (m ∷ front) back n e = absurd (let no : [] ≡ m ∷ (front ++ n ∷ back) = e in cc)
names_above k (step ∷ steps) p q front back n e =
    let names : List Name = names_from (suc k) steps p q in
    elim (meets step p q) as (λ v. cond v (name k p q ∷ names) names ≡ front ++ n ∷ back → k ≤ n.step) [
      | true ↦ elim front as (λ f. name k p q ∷ names ≡ f ++ n ∷ back → k ≤ n.step) [
        | [] ↦ λ h. let same : name k p q ≡ n = cc in let at : k ≡ n.step = ap (λ m. m.step) same in omega arith
        | m ∷ f ↦ λ h.
            let later : suc k ≤ n.step = names_above (suc k) steps p q f back n (let is : name k p q ∷ names ≡ m ∷ (f ++ n ∷ back) = h in cc) in
            omega arith
      ]
      | false ↦ λ h. let later : suc k ≤ n.step = names_above (suc k) steps p q front back n h in omega arith
    ] e

-- nothing of a lane is before its name of the first step
none_before : (k : ℕ) (step : List Pair) (steps : List (List Pair)) (p q : ℕ) (front : List Name) → IsFront (front ++ name k p q ∷ []) (names_from k (step ∷ steps) p q) → length front ≡ 0
none_before k step steps p q front (back, e) =
    let names : List Name = names_from (suc k) steps p q in
    elim front as (λ f. cond (meets step p q) (name k p q ∷ names) names ≡ (f ++ name k p q ∷ []) ++ back → length f ≡ 0) [
      | [] ↦ λ h. refl
      | m ∷ f ↦ elim (meets step p q) as (λ v. cond v (name k p q ∷ names) names ≡ (m ∷ f ++ name k p q ∷ []) ++ back → suc (length f) ≡ 0) [
        | true ↦ λ h. absurd (
            let is : name k p q ∷ names ≡ m ∷ ((f ++ name k p q ∷ []) ++ back) = h in
            let rest : names ≡ (f ++ name k p q ∷ []) ++ back = cc in
            let later : suc k ≤ k = names_above (suc k) steps p q f back (name k p q) (rest ∙ append_assoc f (name k p q ∷ []) back) in
            omega arith)
        | false ↦ λ h. absurd (
            let is : names ≡ m ∷ ((f ++ name k p q ∷ []) ++ back) = h in
            let later : suc k ≤ k = names_above (suc k) steps p q (m ∷ f) back (name k p q) (is ∙ ap (λ ns. m ∷ ns) (append_assoc f (name k p q ∷ []) back)) in
            omega arith)
      ]
    ] e

-- the turns of an actor in the first step, and their length
abbrev block : ℕ → ℕ → List Pair → ℕ → List Turn
block k actors step p = puts k p (met actors step p) ++ (takes k p (met actors step p) ++ (Work ∷ []))

abbrev block_length : ℕ → List Pair → ℕ → ℕ
block_length actors step p = length (met actors step p) + length (met actors step p) + 1

module _ (k actors : ℕ) (step : List Pair) (steps : List (List Pair)) (p : ℕ) where
  length_puts : length (puts k p (met actors step p)) ≡ length (met actors step p)
  length_puts = length-map (met actors step p) (λ q. Put (name k p q))

  length_takes : length (takes k p (met actors step p)) ≡ length (met actors step p)
  length_takes = length-map (met actors step p) (λ q. Take (name k q p))

  turns_block : turns_from k actors (step ∷ steps) p ≡ block k actors step p ++ turns_from (suc k) actors steps p
  turns_block =
      let rest : List Turn = turns_from (suc k) actors steps p in
      sym (append_assoc (puts k p (met actors step p)) (takes k p (met actors step p) ++ (Work ∷ [])) rest
      ∙ ap (λ ts. puts k p (met actors step p) ++ ts) (append_assoc (takes k p (met actors step p)) (Work ∷ []) rest))

  length_block : length (block k actors step p) ≡ block_length actors step p
  length_block =
      let all : length (block k actors step p) ≡ length (puts k p (met actors step p)) + length (takes k p (met actors step p) ++ (Work ∷ [])) =
      length-append (puts k p (met actors step p)) (takes k p (met actors step p) ++ (Work ∷ [])) in
      let behind : length (takes k p (met actors step p) ++ (Work ∷ [])) ≡ length (takes k p (met actors step p)) + 1 = length-append (takes k p (met actors step p)) (Work ∷ []) in
      omega (arith, length_puts, length_takes)

  at_put : (i : ℕ) → i < length (met actors step p) → get_or (turns_from k actors (step ∷ steps) p) i Done ≡ Put (name k p (get_or (met actors step p) i 0))
  at_put i l =
      get_or_append_left (puts k p (met actors step p)) _ Done i (omega (arith, length_puts))
      ∙ at_map (λ q. Put (name k p q)) (met actors step p) i Done l

  at_take : (i : ℕ) → length (met actors step p) ≤ i → i - length (met actors step p) < length (met actors step p) →
      get_or (turns_from k actors (step ∷ steps) p) i Done ≡ Take (name k (get_or (met actors step p) (i - length (met actors step p)) 0) p)
  at_take i h l =
      get_or-append_right (puts k p (met actors step p)) _ (length (met actors step p)) i Done length_puts h
      ∙ get_or_append_left (takes k p (met actors step p)) _ Done (i - length (met actors step p)) (omega (arith, length_takes))
      ∙ at_map (λ q. Take (name k q p)) (met actors step p) (i - length (met actors step p)) Done l

  at_work : get_or (turns_from k actors (step ∷ steps) p) (length (met actors step p) + length (met actors step p)) Done ≡ Work
  at_work =
      let m : ℕ = length (met actors step p) in
      let once : m + m - m ≡ m = omega arith in
      let twice : m - m ≡ 0 = omega arith in
      get_or-append_right (puts k p (met actors step p)) _ m (m + m) Done length_puts (omega arith)
      ∙ ap (λ i. get_or (takes k p (met actors step p) ++ (Work ∷ turns_from (suc k) actors steps p)) i Done) once
      ∙ get_or-append_right (takes k p (met actors step p)) _ m m Done length_takes (omega arith)
      ∙ ap (λ i. get_or (Work ∷ turns_from (suc k) actors steps p) i Done) twice

  at_behind : (i : ℕ) → block_length actors step p ≤ i →
      get_or (turns_from k actors (step ∷ steps) p) i Done ≡ get_or (turns_from (suc k) actors steps p) (i - block_length actors step p) Done
  at_behind i h =
      ap (λ ts. get_or ts i Done) turns_block
      ∙ get_or-append_right (block k actors step p) _ (block_length actors step p) i Done length_block h

  take_behind : (i : ℕ) → block_length actors step p ≤ i →
      take i (turns_from k actors (step ∷ steps) p) ≡ block k actors step p ++ take (i - block_length actors step p) (turns_from (suc k) actors steps p)
  take_behind i h = ap (take i) turns_block ∙ take_past (block k actors step p) _ i (block_length actors step p) length_block h

-- once an actor has made the turns of the first step, they count as one put and one take for each whom it met
module _ (k actors : ℕ) (step : List Pair) (steps : List (List Pair)) (lawful : IsLawfulStep actors step) (p q : ℕ) where
  block_with : filter (is_with p q) (block k actors step p) ≡ cond (meets step p q) (Put (name k p q) ∷ []) [] ++ (cond (meets step p q) (Take (name k q p) ∷ []) [] ++ [])
  block_with =
      filter-append (is_with p q) (puts k p (met actors step p)) (takes k p (met actors step p) ++ (Work ∷ []))
      ∙ ap (λ xs. xs ++ filter (is_with p q) (takes k p (met actors step p) ++ (Work ∷ []))) (puts_with actors step lawful k p q)
      ∙ ap (λ ys. cond (meets step p q) (Put (name k p q) ∷ []) [] ++ ys) (
      filter-append (is_with p q) (takes k p (met actors step p)) (Work ∷ [])
      ∙ ap (λ xs. xs ++ []) (takes_with actors step lawful k p q))

  block_put : length (filter (is_on p q) (names_put (block k actors step p))) ≡ cond (meets step p q) 1 0
  block_put =
      ap length (put_with p q (block k actors step p) ∙ ap names_put block_with)
      ∙ elim (meets step p q) as (λ v. length (names_put (cond v (Put (name k p q) ∷ []) [] ++ (cond v (Take (name k q p) ∷ []) [] ++ []))) ≡ cond v 1 0) [ true ↦ refl | false ↦ refl ]

  block_taken : length (filter (is_on q p) (names_taken (block k actors step p))) ≡ cond (meets step p q) 1 0
  block_taken =
      ap length (taken_with p q (block k actors step p) ∙ ap names_taken block_with)
      ∙ elim (meets step p q) as (λ v. length (names_taken (cond v (Put (name k p q) ∷ []) [] ++ (cond v (Take (name k q p) ∷ []) [] ++ []))) ≡ cond v 1 0) [ true ↦ refl | false ↦ refl ]

  put_behind : (i : ℕ) → block_length actors step p ≤ i →
      length (put_first p q (turns_from k actors (step ∷ steps) p) i) ≡ cond (meets step p q) 1 0 + length (put_first p q (turns_from (suc k) actors steps p) (i - block_length actors step p))
  put_behind i h =
      let rest : List Turn = take (i - block_length actors step p) (turns_from (suc k) actors steps p) in
      ap (λ ts. length (filter (is_on p q) (names_put ts))) (take_behind k actors step steps p i h)
      ∙ ap (λ ns. length (filter (is_on p q) ns)) (names_put-append (block k actors step p) rest)
      ∙ ap length (filter-append (is_on p q) (names_put (block k actors step p)) (names_put rest))
      ∙ length-append (filter (is_on p q) (names_put (block k actors step p))) (filter (is_on p q) (names_put rest))
      ∙ ap (λ n. n + length (filter (is_on p q) (names_put rest))) block_put

  taken_behind : (i : ℕ) → block_length actors step p ≤ i →
      length (taken_first q p (turns_from k actors (step ∷ steps) p) i) ≡ cond (meets step p q) 1 0 + length (taken_first q p (turns_from (suc k) actors steps p) (i - block_length actors step p))
  taken_behind i h =
      let rest : List Turn = take (i - block_length actors step p) (turns_from (suc k) actors steps p) in
      ap (λ ts. length (filter (is_on q p) (names_taken ts))) (take_behind k actors step steps p i h)
      ∙ ap (λ ns. length (filter (is_on q p) ns)) (names_taken-append (block k actors step p) rest)
      ∙ ap length (filter-append (is_on q p) (names_taken (block k actors step p)) (names_taken rest))
      ∙ length-append (filter (is_on q p) (names_taken (block k actors step p))) (filter (is_on q p) (names_taken rest))
      ∙ ap (λ n. n + length (filter (is_on q p) (names_taken rest))) block_taken

  -- an actor that meets another has put to it once it has made its puts of the step
  put_in_step : (i : ℕ) → meets step p q ≡ true → length (met actors step p) ≤ i → 0 < length (put_first p q (turns_from k actors (step ∷ steps) p) i)
  put_in_step i m h =
      let others : List ℕ = met actors step p in
      let rest : List Turn = take (i - length others) (takes k p others ++ (Work ∷ turns_from (suc k) actors steps p)) in
      let first : length (filter (is_on p q) (names_put (puts k p others))) ≡ 1 =
      ap length (put_with p q (puts k p others) ∙ ap names_put (puts_with actors step lawful k p q)) ∙ ap (λ v. length (names_put (cond v (Put (name k p q) ∷ []) []))) m in
      let all : length (put_first p q (turns_from k actors (step ∷ steps) p) i) ≡ length (filter (is_on p q) (names_put (puts k p others))) + length (filter (is_on p q) (names_put rest)) =
      ap (λ ts. length (filter (is_on p q) (names_put ts))) (take_past (puts k p others) _ i (length others) (length_puts k actors step steps p) h)
      ∙ ap (λ ns. length (filter (is_on p q) ns)) (names_put-append (puts k p others) rest)
      ∙ ap length (filter-append (is_on p q) (names_put (puts k p others)) (names_put rest))
      ∙ length-append (filter (is_on p q) (names_put (puts k p others))) (filter (is_on p q) (names_put rest)) in
      omega arith

-- an actor whose next turn is a take of the first step has taken nothing from there
taken_none : (k actors : ℕ) (step : List Pair) (steps : List (List Pair)) → AreLawful actors (step ∷ steps) → (p q i : ℕ) →
    i < length (turns_from k actors (step ∷ steps) p) → get_or (turns_from k actors (step ∷ steps) p) i Done ≡ Take (name k q p) →
    length (taken_first q p (turns_from k actors (step ∷ steps) p) i) ≡ 0
taken_none k actors step steps lawful p q i l at =
    let ts : List Turn = turns_from k actors (step ∷ steps) p in
    let on : is_on q p (name k q p) ≡ true = ap (λ v. v && (p == p)) (eq-eqb q q refl) ∙ eq-eqb p p refl in
    let more : taken_first q p ts (i + 1) ≡ taken_first q p ts i ++ name k q p ∷ [] =
    ap (λ us. filter (is_on q p) (names_taken us)) (take_more ts i Done l ∙ ap (λ t. take i ts ++ t ∷ []) at)
    ∙ ap (filter (is_on q p)) (names_taken-append (take i ts) (Take (name k q p) ∷ []))
    ∙ filter-append (is_on q p) (names_taken (take i ts)) (name k q p ∷ [])
    ∙ ap (λ ns. taken_first q p ts i ++ ns) (cond-true (is_on q p (name k q p)) (name k q p ∷ []) [] on) in
    none_before k step steps q p (taken_first q p ts i) (subst (λ ns. IsFront ns (names_from k (step ∷ steps) q p)) more (taken_front k actors (step ∷ steps) lawful p q (i + 1)))

-- takes of names that were put are ready
abbrev pub ArePutReady : ℕ → ℕ → List (List Pair) → (ℕ → ℕ) → List Name → Type 0
ArePutReady k actors steps r flight = (p q : ℕ) → p < actors → q < actors → (n : Name) → get_or (turns_from k actors steps p) (r p) Done ≡ Take n → n.from ≡ q →
    length (taken_first q p (turns_from k actors steps p) (r p)) < length (put_first q p (turns_from k actors steps q) (r q)) → list_any (is_name n) flight ≡ true

abbrev pub SomeReady : ℕ → ℕ → List (List Pair) → (ℕ → ℕ) → List Name → Type 0
SomeReady k actors steps r flight = (p : ℕ) × (p < actors) × (is_ready flight (get_or (turns_from k actors steps p) (r p) Done) ≡ true)

as_ready : (flight : List Name) (t u : Turn) → t ≡ u → is_ready flight u ≡ true → is_ready flight t ≡ true
as_ready flight t u same ready = ap (is_ready flight) same ∙ ready

-- where an actor has not finished the first step, someone can go on in it
first_step : (k actors : ℕ) (step : List Pair) (steps : List (List Pair)) → AreLawful actors (step ∷ steps) → (r : ℕ → ℕ) (flight : List Name) →
    ArePutReady k actors (step ∷ steps) r flight → (p : ℕ) → p < actors → r p < block_length actors step p → SomeReady k actors (step ∷ steps) r flight
first_step k actors step steps lawful r flight put p low l = elim (cases_lt (r p) (length (met actors step p))) [
  | inl putting ↦ (p, low, ap (is_ready flight) (at_put k actors step steps p (r p) putting))
  | inr h ↦ elim (cases_lt (r p - length (met actors step p)) (length (met actors step p))) [
    | inl taking ↦
        let i : ℕ = r p - length (met actors step p) in
        let q : ℕ = get_or (met actors step p) i 0 in
        let meet : meets step p q ≡ true = kept_passes (meets step p) actors i taking in
        let q_low : q < actors = kept_below (meets step p) actors i taking in
        let at : get_or (turns_from k actors (step ∷ steps) p) (r p) Done ≡ Take (name k q p) = at_take k actors step steps p (r p) h taking in
        elim (cases_lt (r q) (length (met actors step q))) [
          | inl putting ↦ (q, q_low, ap (is_ready flight) (at_put k actors step steps q (r q) putting))
          | inr has_put ↦
              let is_turn : r p < length (turns_from k actors (step ∷ steps) p) =
              omega (arith, ap length (turns_block k actors step steps p), length-append (block k actors step p) (turns_from (suc k) actors steps p), length_block k actors step steps p) in
              let none : length (taken_first q p (turns_from k actors (step ∷ steps) p) (r p)) ≡ 0 = taken_none k actors step steps lawful p q (r p) is_turn at in
              let some : 0 < length (put_first q p (turns_from k actors (step ∷ steps) q) (r q)) =
              put_in_step k actors step steps lawful.0 q p (r q) (lawful.0.both_ways q p ∙ meet) has_put in
              (p, low, ap (is_ready flight) at ∙ put p q low q_low (name k q p) at refl (omega arith))
        ]
    | inr past ↦
        let is : r p ≡ length (met actors step p) + length (met actors step p) = omega arith in
        (p, low, ap (λ i. is_ready flight (get_or (turns_from k actors (step ∷ steps) p) i Done)) is ∙ ap (is_ready flight) (at_work k actors step steps p))
  ]
]

pub progress_from : (k actors : ℕ) (steps : List (List Pair)) → AreLawful actors steps → (r : ℕ → ℕ) (flight : List Name) →
    ArePutReady k actors steps r flight → (p : ℕ) × (p < actors) × (r p < length (turns_from k actors steps p)) → SomeReady k actors steps r flight
progress_from k actors [] lawful r flight put (p, low, l) = absurd (omega arith)
progress_from k actors (step ∷ steps) lawful r flight put (p, low, l) = elim (search_below actors (λ a. ltb (r a) (block_length actors step a))) [
  | inl (a, a_low, here) ↦ first_step k actors step steps lawful r flight put a a_low (ltb-true _ _ here)
  | inr none ↦
      let past : (a : ℕ) → a < actors → block_length actors step a ≤ r a = λ a a_low. ltb-false _ _ (none a a_low) in
      let left : ℕ → ℕ = λ a. r a - block_length actors step a in
      let put_later : ArePutReady (suc k) actors steps left flight = λ a b a_low b_low n at from more.
      let taken : length (taken_first b a (turns_from k actors (step ∷ steps) a) (r a)) ≡ cond (meets step a b) 1 0 + length (taken_first b a (turns_from (suc k) actors steps a) (left a)) =
      taken_behind k actors step steps lawful.0 a b (r a) (past a a_low) in
      let given : length (put_first b a (turns_from k actors (step ∷ steps) b) (r b)) ≡ cond (meets step b a) 1 0 + length (put_first b a (turns_from (suc k) actors steps b) (left b)) =
      put_behind k actors step steps lawful.0 b a (r b) (past b b_low) in
      let same : cond {A = ℕ} (meets step a b) 1 0 ≡ cond (meets step b a) 1 0 = ap (λ v. cond v 1 0) (lawful.0.both_ways a b) in
      put a b a_low b_low n (at_behind k actors step steps a (r a) (past a a_low) ∙ at) from (omega arith) in
      let some_left : left p < length (turns_from (suc k) actors steps p) =
      let low_p : block_length actors step p ≤ r p = past p low in
      omega (arith, ap length (turns_block k actors step steps p), length-append (block k actors step p) (turns_from (suc k) actors steps p), length_block k actors step steps p) in
      let (a, a_low, ready) = progress_from (suc k) actors steps lawful.1 left flight put_later (p, low, some_left) in
      (a, a_low, as_ready flight (get_or (turns_from k actors (step ∷ steps) a) (r a) Done) (get_or (turns_from (suc k) actors steps a) (left a) Done) (at_behind k actors step steps a (r a) (past a a_low)) ready)
]
