-- What holds along every run: on each lane what was put is what was taken and what is in flight.
use Rattle.std.proofs.Common.{◌≡◌, ℕ, ◌+◌, ◌<◌, ◌≤◌, true, false, cond, ◌==◌, ◌&&◌, ◌||◌, nat_lt, List, [], ◌∷◌, ◌++◌, length, refl, sym, ap, ◌∙◌, subst, arith, inl, inr}
use Rattle.std.specs.List.{filter, list_any}
use Rattle.std.proofs.lemmas.Bool.{eqb-true, eq-eqb, ne_eqb, and_parts, cases_Bool, cases_eq, cond-true, cond-false}
use Rattle.std.proofs.Math.Bool.{or-true}
use Rattle.std.proofs.lemmas.List.{append-nil, append_assoc}
use Rattle.std.proofs.lemmas.List.Elements.{filter-append}
use Rattle.brace_core.specs.declared.name.Name.{Name}
use Rattle.brace_core.specs.declared.name.Turn.{Turn}
use Rattle.brace_core.specs.declared.name.Turn.TheVariants.{Put, Take, Work, Done}
use Rattle.brace_core.specs.Schedule.{Schedule, lane, turns}
use Rattle.brace_core.specs.Events.{State, opening, is_name, next, is_ready, is_enabled, without, flight_after, after, are_enabled, after_all, turns_made, is_on, names_put, names_taken}
use Rattle.brace_core.proofs.Lists.{IsFront, same_next}
use Rattle.brace_core.proofs.Turns.{AreLawful, names_put-append, names_taken-append, put_first, taken_first, put_front, taken_front}
use Rattle.brace_core.proofs.Owners.{left_before, puts_no_other, takes_no_other}
use Rattle.brace_core.proofs.ActorTurns.{turn_own, puts_more, takes_more}

-- names that the test finds equal are equal
pub same_name : (a b : Name) → is_name a b ≡ true → a ≡ b
same_name a b e =
    let (step, rest) = and_parts (a.step == b.step) _ e in
    let (from, to) = and_parts (a.from == b.from) _ rest in
    let s : a.step ≡ b.step = eqb-true _ _ step in
    let f : a.from ≡ b.from = eqb-true _ _ from in
    let t : a.to ≡ b.to = eqb-true _ _ to in
    ap (λ k. record { step = k; from = a.from; to = a.to }) s ∙ ap (λ p. record { step = b.step; from = p; to = a.to }) f ∙ ap (λ q. record { step = b.step; from = b.from; to = q }) t

pub is_itself : (n : Name) → is_name n n ≡ true
is_itself n =
    ap (λ v. v && ((n.from == n.from) && (n.to == n.to))) (eq-eqb n.step n.step refl)
    ∙ ap (λ v. v && (n.to == n.to)) (eq-eqb n.from n.from refl) ∙ eq-eqb n.to n.to refl

-- to take a name away changes no other lane
pub without_elsewhere : (p q : ℕ) (n : Name) (names : List Name) → is_on p q n ≡ false → filter (is_on p q) (without n names) ≡ filter (is_on p q) names
without_elsewhere p q n [] off = refl
without_elsewhere p q n (m ∷ names) off = elim (cases_Bool (is_name n m)) [
  | inl e ↦ ap (filter (is_on p q)) (cond-true (is_name n m) names (m ∷ without n names) e)
      ∙ sym (cond-false (is_on p q m) (m ∷ filter (is_on p q) names) _ (ap (is_on p q) (sym (same_name n m e)) ∙ off))
  | inr e ↦ ap (filter (is_on p q)) (cond-false (is_name n m) names (m ∷ without n names) e)
      ∙ ap (λ ms. cond (is_on p q m) (m ∷ ms) ms) (without_elsewhere p q n names off)
]

-- a lane's first name in flight is taken away from its front
pub without_first : (p q : ℕ) (n : Name) (names rest : List Name) → is_on p q n ≡ true → filter (is_on p q) names ≡ n ∷ rest → filter (is_on p q) (without n names) ≡ rest
without_first p q n [] rest on e = absurd cc
without_first p q n (m ∷ names) rest on e = elim (cases_Bool (is_name n m)) [
  | inl same ↦
      let here : cond (is_on p q m) (m ∷ filter (is_on p q) names) (filter (is_on p q) names) ≡ m ∷ filter (is_on p q) names =
      cond-true (is_on p q m) _ _ (ap (is_on p q) (sym (same_name n m same)) ∙ on) in
      ap (filter (is_on p q)) (cond-true (is_name n m) names (m ∷ without n names) same) ∙ (let both : m ∷ filter (is_on p q) names ≡ n ∷ rest = sym here ∙ e in cc)
  | inr other ↦ ap (filter (is_on p q)) (cond-false (is_name n m) names (m ∷ without n names) other) ∙ elim (cases_Bool (is_on p q m)) [
    | inl at ↦
        let first : m ∷ filter (is_on p q) names ≡ n ∷ rest = sym (cond-true (is_on p q m) _ _ at) ∙ e in
        let same : m ≡ n = cc in
        let is : is_name n m ≡ true = ap (is_name n) same ∙ is_itself n in
        absurd cc
    | inr off ↦
        cond-false (is_on p q m) _ _ off
        ∙ without_first p q n names rest on (sym (cond-false (is_on p q m) (m ∷ filter (is_on p q) names) _ off) ∙ e)
  ]
]

-- a lane on which a name is in flight has a first name in flight
pub some_in_flight : (p q : ℕ) (n : Name) (names : List Name) → is_on p q n ≡ true → list_any (is_name n) names ≡ true →
    (m : Name) × (rest : List Name) × (filter (is_on p q) names ≡ m ∷ rest)
some_in_flight p q n [] on e = absurd cc
some_in_flight p q n (m ∷ names) on e = elim (cases_Bool (is_on p q m)) [
  | inl at ↦ (m, filter (is_on p q) names, cond-true (is_on p q m) _ _ at)
  | inr off ↦ elim (cases_Bool (is_name n m)) [
    | inl same ↦ let at : is_on p q m ≡ true = ap (is_on p q) (sym (same_name n m same)) ∙ on in absurd cc
    | inr other ↦
        let (first, rest, h) = some_in_flight p q n names on (ap (λ v. v || list_any (is_name n) names) (sym other) ∙ e) in
        (first, rest, cond-false (is_on p q m) _ _ off ∙ h)
  ]
]

-- the first name in flight on a lane is in flight
pub first_in_flight : (p q : ℕ) (n : Name) (names rest : List Name) → filter (is_on p q) names ≡ n ∷ rest → list_any (is_name n) names ≡ true
first_in_flight p q n [] rest e = absurd cc
first_in_flight p q n (m ∷ names) rest e = elim (cases_Bool (is_on p q m)) [
  | inl at ↦
      let first : m ∷ filter (is_on p q) names ≡ n ∷ rest = sym (cond-true (is_on p q m) _ _ at) ∙ e in
      let same : m ≡ n = cc in
      ap (λ v. v || list_any (is_name n) names) (ap (is_name n) same ∙ is_itself n)
  | inr off ↦
      ap (λ v. is_name n m || v) (first_in_flight p q n names rest (sym (cond-false (is_on p q m) (m ∷ filter (is_on p q) names) _ off) ∙ e))
      ∙ or-true (is_name n m)
]

-- what an actor's turns so far put on a lane, and what they took from one
abbrev pub put_by_now : Schedule → State → ℕ → ℕ → List Name
put_by_now s x p q = put_first p q (turns s p) (x.place p)

abbrev pub taken_by_now : Schedule → State → ℕ → ℕ → List Name
taken_by_now s x p q = taken_first p q (turns s q) (x.place q)

-- on each lane what was put is what was taken and behind it what is in flight, and nobody has made more turns than it has
pub record IsKept (s : Schedule) (x : State) : Type 0 where
  pub flown : (p q : ℕ) → put_by_now s x p q ≡ taken_by_now s x p q ++ filter (is_on p q) x.flight
  pub within : (p : ℕ) → p < s.actors → x.place p ≤ length (turns s p)

pub kept_opening : (s : Schedule) → IsKept s opening
kept_opening s = record { flown = λ p q. refl; within = λ p l. omega arith }

module _ (s : Schedule) (lawful : AreLawful s.actors s.steps) (x : State) (e : ℕ) where
  pub is_left : is_ready x.flight (next s x e) ≡ true → x.place e < length (turns s e)
  is_left ready = left_before (turns s e) (x.place e) (λ done. let no : false ≡ true = ap (is_ready x.flight) (sym done) ∙ ready in absurd cc)

  -- an event adds the name that its turn puts to what was put
  pub put_more : x.place e < length (turns s e) → (p q : ℕ) →
      put_by_now s (after s x e) p q ≡ put_by_now s x p q ++ filter (is_on p q) (names_put (next s x e ∷ []))
  put_more l p q = elim (cases_eq p e) [
    | inl same ↦ subst (λ a. put_by_now s (after s x e) a q ≡ put_by_now s x a q ++ filter (is_on a q) (names_put (next s x e ∷ []))) (sym same)
        (ap (put_first e q (turns s e)) (cond-true (e == e) _ _ (eq-eqb e e refl)) ∙ puts_more s e (x.place e) l q)
    | inr other ↦
        ap (put_first p q (turns s p)) (cond-false (p == e) _ _ (ne_eqb p e other))
        ∙ sym (ap (λ names. put_by_now s x p q ++ names) (puts_no_other e p q (next s x e) (turn_own s e (x.place e) l) other) ∙ append-nil (put_by_now s x p q))
  ]

  pub taken_more : x.place e < length (turns s e) → (p q : ℕ) →
      taken_by_now s (after s x e) p q ≡ taken_by_now s x p q ++ filter (is_on p q) (names_taken (next s x e ∷ []))
  taken_more l p q = elim (cases_eq q e) [
    | inl same ↦ subst (λ a. taken_by_now s (after s x e) p a ≡ taken_by_now s x p a ++ filter (is_on p a) (names_taken (next s x e ∷ []))) (sym same)
        (ap (taken_first p e (turns s e)) (cond-true (e == e) _ _ (eq-eqb e e refl)) ∙ takes_more s e (x.place e) l p)
    | inr other ↦
        ap (taken_first p q (turns s q)) (cond-false (q == e) _ _ (ne_eqb q e other))
        ∙ sym (ap (λ names. taken_by_now s x p q ++ names) (takes_no_other e p q (next s x e) (turn_own s e (x.place e) l) other) ∙ append-nil (taken_by_now s x p q))
  ]

  -- what an event puts goes behind what is in flight, and what it takes was in front
  flight_more : IsKept s x → is_ready x.flight (next s x e) ≡ true → (p q : ℕ) →
      filter (is_on p q) x.flight ++ filter (is_on p q) (names_put (next s x e ∷ []))
      ≡ filter (is_on p q) (names_taken (next s x e ∷ [])) ++ filter (is_on p q) (flight_after x.flight (next s x e))
  flight_more kept ready p q = go (next s x e) refl ready
    where
      go : (t : Turn) → next s x e ≡ t → is_ready x.flight t ≡ true →
          filter (is_on p q) x.flight ++ filter (is_on p q) (names_put (t ∷ [])) ≡ filter (is_on p q) (names_taken (t ∷ [])) ++ filter (is_on p q) (flight_after x.flight t)
      go (Put n) is ok = sym (filter-append (is_on p q) x.flight (n ∷ []))
      go (Take n) is ok = elim (cases_Bool (is_on p q n)) [
        | inl on ↦
            let (m, rest, h) = some_in_flight p q n x.flight on ok in
            let l : x.place e < length (turns s e) = is_left (ap (is_ready x.flight) is ∙ ok) in
            let put : put_by_now s x p q ≡ taken_by_now s x p q ++ m ∷ rest = kept.flown p q ∙ ap (λ names. taken_by_now s x p q ++ names) h in
            let taken : taken_by_now s (after s x e) p q ≡ taken_by_now s x p q ++ n ∷ [] =
            taken_more l p q ∙ ap (λ t. taken_by_now s x p q ++ filter (is_on p q) (names_taken (t ∷ []))) is
            ∙ ap (λ names. taken_by_now s x p q ++ names) (cond-true (is_on p q n) (n ∷ []) [] on) in
            let first : m ≡ n = same_next (taken_by_now s x p q) rest [] (lane s p q) m n
            (subst (λ names. IsFront names (lane s p q)) put (put_front 0 s.actors s.steps lawful p q (x.place p)))
            (subst (λ names. IsFront names (lane s p q)) taken (taken_front 0 s.actors s.steps lawful q p ((after s x e).place q))) in
            let h' : filter (is_on p q) x.flight ≡ n ∷ rest = h ∙ ap (λ a. a ∷ rest) first in
            append-nil (filter (is_on p q) x.flight) ∙ h' ∙ sym (
            ap (λ names. names ++ filter (is_on p q) (without n x.flight)) (cond-true (is_on p q n) (n ∷ []) [] on)
            ∙ ap (λ names. n ∷ names) (without_first p q n x.flight rest on h'))
        | inr off ↦
            append-nil (filter (is_on p q) x.flight) ∙ sym (
            ap (λ names. names ++ filter (is_on p q) (without n x.flight)) (cond-false (is_on p q n) (n ∷ []) [] off)
            ∙ without_elsewhere p q n x.flight off)
      ]
      go Work is ok = append-nil (filter (is_on p q) x.flight)
      go Done is ok = absurd cc

  pub kept_after : IsKept s x → is_ready x.flight (next s x e) ≡ true → IsKept s (after s x e)
  kept_after kept ready = record { flown = flown; within = within }
    where
      flown : (p q : ℕ) → put_by_now s (after s x e) p q ≡ taken_by_now s (after s x e) p q ++ filter (is_on p q) (after s x e).flight
      flown p q =
          let put : List Name = filter (is_on p q) (names_put (next s x e ∷ [])) in
          let taken : List Name = filter (is_on p q) (names_taken (next s x e ∷ [])) in
          let before : List Name = taken_by_now s x p q in
          put_more (is_left ready) p q
          ∙ ap (λ names. names ++ put) (kept.flown p q)
          ∙ append_assoc before (filter (is_on p q) x.flight) put
          ∙ ap (λ names. before ++ names) (flight_more kept ready p q)
          ∙ sym (append_assoc before taken (filter (is_on p q) (flight_after x.flight (next s x e))))
          ∙ ap (λ names. names ++ filter (is_on p q) (after s x e).flight) (sym (taken_more (is_left ready) p q))

      within : (p : ℕ) → p < s.actors → (after s x e).place p ≤ length (turns s p)
      within p l = elim (cases_eq p e) [
        | inl same ↦
            let at : (after s x e).place p ≡ x.place p + 1 = cond-true (p == e) _ _ (eq-eqb p e same) in
            let left : x.place p < length (turns s p) = subst (λ a. x.place a < length (turns s a)) (sym same) (is_left ready) in
            omega arith
        | inr other ↦
            let at : (after s x e).place p ≡ x.place p = cond-false (p == e) _ _ (ne_eqb p e other) in
            let low : x.place p ≤ length (turns s p) = kept.within p l in
            omega arith
      ]

module _ (s : Schedule) (lawful : AreLawful s.actors s.steps) where
  pub kept_all : (x : State) (events : List ℕ) → IsKept s x → are_enabled s x events ≡ true → IsKept s (after_all s x events)
  kept_all x [] kept run = kept
  kept_all x (e ∷ events) kept run =
      let (now, later) = and_parts (is_enabled s x e) (are_enabled s (after s x e) events) run in
      let (low, ready) = and_parts (nat_lt e s.actors) (is_ready x.flight (next s x e)) now in
      kept_all (after s x e) events (kept_after s lawful x e kept ready) later

  pub put_made : (x : State) (events : List ℕ) (p q : ℕ) → are_enabled s x events ≡ true →
      put_by_now s (after_all s x events) p q ≡ put_by_now s x p q ++ filter (is_on p q) (names_put (turns_made s x events))
  put_made x [] p q run = sym (append-nil (put_by_now s x p q))
  put_made x (e ∷ events) p q run =
      let (now, later) = and_parts (is_enabled s x e) (are_enabled s (after s x e) events) run in
      let (low, ready) = and_parts (nat_lt e s.actors) (is_ready x.flight (next s x e)) now in
      let rest : List Turn = turns_made s (after s x e) events in
      put_made (after s x e) events p q later
      ∙ ap (λ names. names ++ filter (is_on p q) (names_put rest)) (put_more s lawful x e (is_left s lawful x e ready) p q)
      ∙ append_assoc (put_by_now s x p q) (filter (is_on p q) (names_put (next s x e ∷ []))) (filter (is_on p q) (names_put rest))
      ∙ ap (λ names. put_by_now s x p q ++ names) (sym (
      ap (filter (is_on p q)) (names_put-append (next s x e ∷ []) rest)
      ∙ filter-append (is_on p q) (names_put (next s x e ∷ [])) (names_put rest)))

  pub taken_made : (x : State) (events : List ℕ) (p q : ℕ) → are_enabled s x events ≡ true →
      taken_by_now s (after_all s x events) p q ≡ taken_by_now s x p q ++ filter (is_on p q) (names_taken (turns_made s x events))
  taken_made x [] p q run = sym (append-nil (taken_by_now s x p q))
  taken_made x (e ∷ events) p q run =
      let (now, later) = and_parts (is_enabled s x e) (are_enabled s (after s x e) events) run in
      let (low, ready) = and_parts (nat_lt e s.actors) (is_ready x.flight (next s x e)) now in
      let rest : List Turn = turns_made s (after s x e) events in
      taken_made (after s x e) events p q later
      ∙ ap (λ names. names ++ filter (is_on p q) (names_taken rest)) (taken_more s lawful x e (is_left s lawful x e ready) p q)
      ∙ append_assoc (taken_by_now s x p q) (filter (is_on p q) (names_taken (next s x e ∷ []))) (filter (is_on p q) (names_taken rest))
      ∙ ap (λ names. taken_by_now s x p q ++ names) (sym (
      ap (filter (is_on p q)) (names_taken-append (next s x e ∷ []) rest)
      ∙ filter-append (is_on p q) (names_taken (next s x e ∷ [])) (names_taken rest)))
