-- One actor's turns towards another: it puts and takes in turn, and its puts and takes are the names of the two lanes between them.
use Rattle.std.proofs.Common.{◌≡◌, ℕ, zero, suc, ◌+◌, ◌<◌, ◌≤◌, Bool, true, false, cond, ◌==◌, ◌&&◌, List, [], ◌∷◌, ◌++◌, length, take, refl, sym, ap, ◌∙◌, subst, arith, inl, inr}
use Rattle.std.specs.List.{filter, All}
use Rattle.std.proofs.lemmas.Bool.{eq-eqb, cases_lt, cond-false}
use Rattle.std.proofs.Math.Bool.{and-true}
use Rattle.std.proofs.lemmas.List.Elements.{filter-append}
use Rattle.brace_core.specs.declared.name.Name.{Name}
use Rattle.brace_core.specs.declared.name.Turn.{Turn}
use Rattle.brace_core.specs.declared.name.Turn.TheVariants.{Put, Take, Work, Done}
use Rattle.brace_core.specs.Schedule.{Pair, IsLawfulStep, meets, name, names_from, met, puts, takes, turns_from}
use Rattle.brace_core.specs.Events.{is_on, names_put, names_taken}
use Rattle.brace_core.proofs.Lists.{IsFront, none_above, kept_one, front_takes, take_is_front, filter_front}

pub names_put-append : (xs ys : List Turn) → names_put (xs ++ ys) ≡ names_put xs ++ names_put ys
names_put-append [] ys = refl
names_put-append (Put n ∷ xs) ys = ap (λ ns. n ∷ ns) (names_put-append xs ys)
names_put-append (Take n ∷ xs) ys = names_put-append xs ys
names_put-append (Work ∷ xs) ys = names_put-append xs ys
names_put-append (Done ∷ xs) ys = names_put-append xs ys

pub names_taken-append : (xs ys : List Turn) → names_taken (xs ++ ys) ≡ names_taken xs ++ names_taken ys
names_taken-append [] ys = refl
names_taken-append (Put n ∷ xs) ys = names_taken-append xs ys
names_taken-append (Take n ∷ xs) ys = ap (λ ns. n ∷ ns) (names_taken-append xs ys)
names_taken-append (Work ∷ xs) ys = names_taken-append xs ys
names_taken-append (Done ∷ xs) ys = names_taken-append xs ys

-- the turns that an actor p has with q
abbrev pub is_with : ℕ → ℕ → Turn → Bool
is_with p q (Put n) = is_on p q n
is_with p q (Take n) = is_on q p n
is_with p q _ = false

pub put_with : (p q : ℕ) (ts : List Turn) → filter (is_on p q) (names_put ts) ≡ names_put (filter (is_with p q) ts)
put_with p q [] = refl
put_with p q (Put n ∷ ts) = elim (is_on p q n) as (λ v. cond v (n ∷ filter (is_on p q) (names_put ts)) (filter (is_on p q) (names_put ts)) ≡ names_put (cond v (Put n ∷ filter (is_with p q) ts) (filter (is_with p q) ts))) [
  | true ↦ ap (λ ns. n ∷ ns) (put_with p q ts)
  | false ↦ put_with p q ts
]
put_with p q (Take n ∷ ts) = elim (is_on q p n) as (λ v. filter (is_on p q) (names_put ts) ≡ names_put (cond v (Take n ∷ filter (is_with p q) ts) (filter (is_with p q) ts))) [
  | true ↦ put_with p q ts
  | false ↦ put_with p q ts
]
put_with p q (Work ∷ ts) = put_with p q ts
put_with p q (Done ∷ ts) = put_with p q ts

pub taken_with : (p q : ℕ) (ts : List Turn) → filter (is_on q p) (names_taken ts) ≡ names_taken (filter (is_with p q) ts)
taken_with p q [] = refl
taken_with p q (Take n ∷ ts) = elim (is_on q p n) as (λ v. cond v (n ∷ filter (is_on q p) (names_taken ts)) (filter (is_on q p) (names_taken ts)) ≡ names_taken (cond v (Take n ∷ filter (is_with p q) ts) (filter (is_with p q) ts))) [
  | true ↦ ap (λ ns. n ∷ ns) (taken_with p q ts)
  | false ↦ taken_with p q ts
]
taken_with p q (Put n ∷ ts) = elim (is_on p q n) as (λ v. filter (is_on q p) (names_taken ts) ≡ names_taken (cond v (Put n ∷ filter (is_with p q) ts) (filter (is_with p q) ts))) [
  | true ↦ taken_with p q ts
  | false ↦ taken_with p q ts
]
taken_with p q (Work ∷ ts) = taken_with p q ts
taken_with p q (Done ∷ ts) = taken_with p q ts

-- where the two meet the one puts to the other, then takes from it
abbrev pub exchanges : ℕ → List (List Pair) → ℕ → ℕ → List Turn
exchanges k [] p q = []
exchanges k (step ∷ steps) p q =
    cond (meets step p q) (Put (name k p q) ∷ Take (name k q p) ∷ exchanges (suc k) steps p q) (exchanges (suc k) steps p q)

-- numbers at or above the number of actors meet nobody
pub meets_below : (actors : ℕ) (step : List Pair) → IsLawfulStep actors step → (p q : ℕ) → actors ≤ q → meets step p q ≡ false
meets_below actors step lawful p q h =
    elim (meets step p q) as (λ v. meets step p q ≡ v → v ≡ false) [
      | true ↦ λ e. absurd (let low : q < actors = lawful.below q p (sym (lawful.both_ways p q) ∙ e) in omega arith)
      | false ↦ λ _. refl
    ] refl

module _ (actors : ℕ) (step : List Pair) (lawful : IsLawfulStep actors step) (k p q : ℕ) where
  pub puts_with : filter (is_with p q) (puts k p (met actors step p)) ≡ cond (meets step p q) (Put (name k p q) ∷ []) []
  puts_with =
      let says : (b : ℕ) → is_with p q (Put (name k p b)) ≡ (b == q) = λ b. ap (λ v. v && (b == q)) (eq-eqb p p refl) in
      elim (cases_lt q actors) [
        | inl l ↦ kept_one (meets step p) (λ b. Put (name k p b)) (is_with p q) q says 0 actors (omega arith) (omega arith)
        | inr h ↦ none_above (meets step p) (λ b. Put (name k p b)) (is_with p q) q says 0 actors (omega arith) ∙ sym (cond-false (meets step p q) _ _ (meets_below actors step lawful p q h))
      ]

  pub takes_with : filter (is_with p q) (takes k p (met actors step p)) ≡ cond (meets step p q) (Take (name k q p) ∷ []) []
  takes_with =
      let says : (b : ℕ) → is_with p q (Take (name k b p)) ≡ (b == q) = λ b. ap (λ v. (b == q) && v) (eq-eqb p p refl) ∙ and-true (b == q) in
      elim (cases_lt q actors) [
        | inl l ↦ kept_one (meets step p) (λ b. Take (name k b p)) (is_with p q) q says 0 actors (omega arith) (omega arith)
        | inr h ↦ none_above (meets step p) (λ b. Take (name k b p)) (is_with p q) q says 0 actors (omega arith) ∙ sym (cond-false (meets step p q) _ _ (meets_below actors step lawful p q h))
      ]

-- each step is lawful
abbrev pub AreLawful : ℕ → List (List Pair) → Type 0
AreLawful actors [] = Unit {0}
AreLawful actors (step ∷ steps) = IsLawfulStep actors step × AreLawful actors steps

pub are_lawful : (actors : ℕ) (steps : List (List Pair)) → All (IsLawfulStep actors) steps → AreLawful actors steps
are_lawful actors [] all = tt
are_lawful actors (step ∷ steps) all = (all 0 [] (omega arith), are_lawful actors steps (λ i d l. all (suc i) d (omega arith)))

three_parts : (v : Bool) (x y : Turn) (rest : List Turn) → cond v (x ∷ []) [] ++ (cond v (y ∷ []) [] ++ rest) ≡ cond v (x ∷ y ∷ rest) rest
three_parts true x y rest = refl
three_parts false x y rest = refl

pub turns_with : (k actors : ℕ) (steps : List (List Pair)) → AreLawful actors steps → (p q : ℕ) →
    filter (is_with p q) (turns_from k actors steps p) ≡ exchanges k steps p q
turns_with k actors [] lawful p q = refl
turns_with k actors (step ∷ steps) (here, later) p q =
    let rest : List Turn = turns_from (suc k) actors steps p in
    filter-append (is_with p q) (puts k p (met actors step p)) (takes k p (met actors step p) ++ (Work ∷ rest))
    ∙ ap (λ xs. xs ++ filter (is_with p q) (takes k p (met actors step p) ++ (Work ∷ rest))) (puts_with actors step here k p q)
    ∙ ap (λ ys. cond (meets step p q) (Put (name k p q) ∷ []) [] ++ ys) (
    filter-append (is_with p q) (takes k p (met actors step p)) (Work ∷ rest)
    ∙ ap (λ xs. xs ++ filter (is_with p q) rest) (takes_with actors step here k p q)
    ∙ ap (λ ys. cond (meets step p q) (Take (name k q p) ∷ []) [] ++ ys) (turns_with (suc k) actors steps later p q))
    ∙ three_parts (meets step p q) (Put (name k p q)) (Take (name k q p)) (exchanges (suc k) steps p q)

pub exchanges_put : (k : ℕ) (steps : List (List Pair)) (p q : ℕ) → names_put (exchanges k steps p q) ≡ names_from k steps p q
exchanges_put k [] p q = refl
exchanges_put k (step ∷ steps) p q =
    let rest : List Turn = exchanges (suc k) steps p q in
    let names : List Name = names_from (suc k) steps p q in
    elim (meets step p q) as (λ v. names_put (cond v (Put (name k p q) ∷ Take (name k q p) ∷ rest) rest) ≡ cond v (name k p q ∷ names) names) [
      | true ↦ ap (λ ns. name k p q ∷ ns) (exchanges_put (suc k) steps p q)
      | false ↦ exchanges_put (suc k) steps p q
    ]

pub exchanges_taken : (k actors : ℕ) (steps : List (List Pair)) → AreLawful actors steps → (p q : ℕ) → names_taken (exchanges k steps p q) ≡ names_from k steps q p
exchanges_taken k actors [] lawful p q = refl
exchanges_taken k actors (step ∷ steps) (here, later) p q =
    let rest : List Turn = exchanges (suc k) steps p q in
    let names : List Name = names_from (suc k) steps q p in
    rw (here.both_ways q p) (elim (meets step p q) as (λ v. names_taken (cond v (Put (name k p q) ∷ Take (name k q p) ∷ rest) rest) ≡ cond v (name k q p ∷ names) names) [
      | true ↦ ap (λ ns. name k q p ∷ ns) (exchanges_taken (suc k) actors steps later p q)
      | false ↦ exchanges_taken (suc k) actors steps later p q
    ])

-- in each front of the exchanges the puts are the takes, or one more
abbrev pub IsInStep : List Turn → Type 0
IsInStep ts = (length (names_taken ts) ≤ length (names_put ts)) × (length (names_put ts) ≤ length (names_taken ts) + 1)

more_in_step : (n m : Name) (ts : List Turn) → ((i : ℕ) → IsInStep (take i ts)) → (i : ℕ) → IsInStep (take i (Put n ∷ Take m ∷ ts))
more_in_step n m ts each (suc (suc i)) = let (low, high) = each i in (omega arith, omega arith)
more_in_step n m ts each _ = (omega arith, omega arith)

pub exchanges_in_step : (k : ℕ) (steps : List (List Pair)) (p q i : ℕ) → IsInStep (take i (exchanges k steps p q))
exchanges_in_step k [] p q zero = (omega arith, omega arith)
exchanges_in_step k [] p q (suc i) = (omega arith, omega arith)
exchanges_in_step k (step ∷ steps) p q i =
    let rest : List Turn = exchanges (suc k) steps p q in
    elim (meets step p q) as (λ v. IsInStep (take i (cond v (Put (name k p q) ∷ Take (name k q p) ∷ rest) rest))) [
      | true ↦ more_in_step (name k p q) (name k q p) rest (exchanges_in_step (suc k) steps p q) i
      | false ↦ exchanges_in_step (suc k) steps p q i
    ]

-- the names that the first turns of an actor put on the lane from p to q, and that they took from it
abbrev pub put_first : ℕ → ℕ → List Turn → ℕ → List Name
put_first p q ts a = filter (is_on p q) (names_put (take a ts))

abbrev pub taken_first : ℕ → ℕ → List Turn → ℕ → List Name
taken_first p q ts a = filter (is_on p q) (names_taken (take a ts))

names_put_front : (xs ys : List Turn) → IsFront xs ys → IsFront (names_put xs) (names_put ys)
names_put_front xs ys (rest, e) = (names_put rest, ap names_put e ∙ names_put-append xs rest)

names_taken_front : (xs ys : List Turn) → IsFront xs ys → IsFront (names_taken xs) (names_taken ys)
names_taken_front xs ys (rest, e) = (names_taken rest, ap names_taken e ∙ names_taken-append xs rest)

module _ (k actors : ℕ) (steps : List (List Pair)) (lawful : AreLawful actors steps) (p q : ℕ) where
  pub all_put : filter (is_on p q) (names_put (turns_from k actors steps p)) ≡ names_from k steps p q
  all_put = put_with p q (turns_from k actors steps p) ∙ ap names_put (turns_with k actors steps lawful p q) ∙ exchanges_put k steps p q

  pub all_taken : filter (is_on q p) (names_taken (turns_from k actors steps p)) ≡ names_from k steps q p
  all_taken = taken_with p q (turns_from k actors steps p) ∙ ap names_taken (turns_with k actors steps lawful p q) ∙ exchanges_taken k actors steps lawful p q

  pub put_front : (a : ℕ) → IsFront (put_first p q (turns_from k actors steps p) a) (names_from k steps p q)
  put_front a =
      let ts : List Turn = turns_from k actors steps p in
      let (rest, e) = filter_front (is_on p q) (names_put (take a ts)) (names_put ts) (names_put_front (take a ts) ts (take_is_front a ts)) in
      (rest, sym all_put ∙ e)

  pub taken_front : (a : ℕ) → IsFront (taken_first q p (turns_from k actors steps p) a) (names_from k steps q p)
  taken_front a =
      let ts : List Turn = turns_from k actors steps p in
      let (rest, e) = filter_front (is_on q p) (names_taken (take a ts)) (names_taken ts) (names_taken_front (take a ts) ts (take_is_front a ts)) in
      (rest, sym all_taken ∙ e)

  -- an actor has put to another as many pieces as it has taken from it, or one more
  pub in_step : (a : ℕ) → let ts = turns_from k actors steps p in
      (length (taken_first q p ts a) ≤ length (put_first p q ts a)) × (length (put_first p q ts a) ≤ length (taken_first q p ts a) + 1)
  in_step a =
      let ts : List Turn = turns_from k actors steps p in
      let kept : List Turn = filter (is_with p q) (take a ts) in
      let is : kept ≡ take (length kept) (exchanges k steps p q) =
      front_takes kept (filter (is_with p q) ts) (filter_front (is_with p q) (take a ts) ts (take_is_front a ts)) ∙ ap (take (length kept)) (turns_with k actors steps lawful p q) in
      let each : IsInStep kept = subst IsInStep (sym is) (exchanges_in_step k steps p q (length kept)) in
      let put : length (put_first p q ts a) ≡ length (names_put kept) = ap length (put_with p q (take a ts)) in
      let taken : length (taken_first q p ts a) ≡ length (names_taken kept) = ap length (taken_with p q (take a ts)) in
      (omega arith, omega arith)
