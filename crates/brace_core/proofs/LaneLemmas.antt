-- What a put and a take on one of the plain lanes change.
use Rattle.std.proofs.Common.{◌≡◌, ℕ, zero, suc, ◌+◌, ◌*◌, ◌^◌, ◌<◌, ◌≤◌, true, false, cond, ◌==◌, ◌⊎◌, nat_lt, List, [], ◌∷◌, ◌++◌, length, take, drop, get_or, set, replicate, Option, Some, None, is_some, IfSome, OnSome, option_to_list, refl, sym, ap, ◌∙◌, subst, arith, inl, inr}
use Rattle.std.specs.List.{filter, list_any, slice_get}
use Rattle.std.proofs.lemmas.Bool.{eqb-true, eq-eqb, and_parts, and_from, lt-ltb, le-ltb, cases_lt, cases_Bool, cond-true, cond-false}
use Rattle.std.proofs.lemmas.List.{get_or-set_same, get_or-set_other, length-set, length-append, length-take-le, length-take, length-replicate, get_or-replicate, get_or_past, append-nil, take_more, drop_more, drop_all, drop-append-le, get_or-take, get_or_read, set-get_or}
use Rattle.std.proofs.lemmas.List.Elements.{filter-append}
use Rattle.std.proofs.lemmas.Nat.{mul-add-lt, same_from_place}
use Rattle.std.proofs.lemmas.Option.{slice_get_within, get_or_from_slice_get}
use Rattle.brace_core.specs.declared.name.Name.{Name}
use Rattle.brace_core.specs.declared.name.Turn.TheVariants.{Put, Take}
use Rattle.brace_core.specs.Schedule.{Pair, Schedule, meets, name, names_from, lane}
use Rattle.brace_core.specs.Events.{is_name, is_on, without}
use Rattle.brace_core.specs.Exchanges.{IsNext, one_on}
use Rattle.brace_core.specs.Lanes.{OnLane, OnLanes, fresh, lane_of, puts_of, takes_of, AreBelow, AreInFlight, MakesTurn}
use Rattle.brace_core.specs.inner.Sound.{IsSound}
use Rattle.brace_core.proofs.Runs.{without_first, without_elsewhere, some_in_flight, first_in_flight}

pub at_push : {A : Type 0} (xs : List A) (x : A) (i : ℕ) (y : A) → slice_get (xs ++ x ∷ []) i ≡ Some y → (slice_get xs i ≡ Some y) ⊎ ((i ≡ length xs) × (x ≡ y))
at_push [] x zero y e = inr (refl, cc)
at_push [] x (suc i) y e = absurd cc
at_push (a ∷ xs) x zero y e = inl e
at_push (a ∷ xs) x (suc i) y e = elim (at_push xs x i y e) [ inl h ↦ inl h | inr (n, same) ↦ inr (ap suc n, same) ]

on_is : (p q : ℕ) (name : Name) → is_on p q name ≡ true → (name.from ≡ p) × (name.to ≡ q)
on_is p q name on = let (a, b) = and_parts (name.from == p) (name.to == q) on in (eqb-true _ _ a, eqb-true _ _ b)

pub is_on_itself : (name : Name) → is_on name.from name.to name ≡ true
is_on_itself name = and_from (name.from == name.from) (name.to == name.to) (eq-eqb name.from name.from refl) (eq-eqb name.to name.to refl)

at_name : {A : Type 0} (f : ℕ → ℕ → A) (p q : ℕ) (name : Name) → is_on p q name ≡ true → f p q ≡ f name.from name.to
at_name f p q name on = let (a, b) = on_is p q name on in ap (λ c. f c q) (sym a) ∙ ap (λ d. f name.from d) (sym b)

-- one lane changed
abbrev pub with_lane : {F S : Type 0} → OnLanes F S → Name → OnLane F → OnLanes F S
with_lane v name l = record v { lanes = set v.lanes (name.from * v.actors + name.to) l }

module _ {F S : Type 0} (v : OnLanes F S) (name : Name) (size : length v.lanes ≡ v.actors * v.actors) (from : name.from < v.actors) (to : name.to < v.actors) (l : OnLane F) where
  place_within : name.from * v.actors + name.to < length v.lanes
  place_within = let low : name.from * v.actors + name.to < v.actors * v.actors = mul-add-lt name.from v.actors name.to v.actors from to in omega arith

  pub lane_here : lane_of (with_lane v name l) name.from name.to ≡ l
  lane_here = cond-true (nat_lt name.to v.actors) _ _ (lt-ltb _ _ to) ∙ get_or-set_same v.lanes (name.from * v.actors + name.to) l fresh place_within

  pub lane_elsewhere : (p q : ℕ) → is_on p q name ≡ false → lane_of (with_lane v name l) p q ≡ lane_of v p q
  lane_elsewhere p q off = elim (cases_lt q v.actors) [
    | inl low ↦ ap (λ x. cond (nat_lt q v.actors) x fresh) (get_or-set_other v.lanes (name.from * v.actors + name.to) (p * v.actors + q) l fresh (λ same.
        let (a, b) = same_from_place p q name.from name.to v.actors low to same in
        let on : is_on p q name ≡ true = and_from (name.from == p) (name.to == q) (eq-eqb name.from p (sym a)) (eq-eqb name.to q (sym b)) in
        cc))
    | inr high ↦ cond-false (nat_lt q v.actors) _ _ (le-ltb _ _ high) ∙ sym (cond-false (nat_lt q v.actors) _ _ (le-ltb _ _ high))
  ]

  pub lane_counts : (m : OnLane F → ℕ) (k : ℕ) → m l ≡ m (lane_of v name.from name.to) + k → (p q : ℕ) →
      m (lane_of (with_lane v name l) p q) ≡ m (lane_of v p q) + cond (is_on p q name) k 0
  lane_counts m k e p q = elim (cases_Bool (is_on p q name)) [
    | inl on ↦
        let now : m (lane_of (with_lane v name l) p q) ≡ m l = ap m (at_name (lane_of (with_lane v name l)) p q name on ∙ lane_here) in
        let before : m (lane_of v p q) ≡ m (lane_of v name.from name.to) = ap m (at_name (lane_of v) p q name on) in
        let more : cond (is_on p q name) k 0 ≡ k = cond-true (is_on p q name) k 0 on in
        omega arith
    | inr off ↦
        let same : m (lane_of (with_lane v name l) p q) ≡ m (lane_of v p q) = ap m (lane_elsewhere p q off) in
        let none : cond (is_on p q name) k 0 ≡ 0 = cond-false (is_on p q name) k 0 off in
        omega arith
  ]

one_or_none : (p q : ℕ) (name : Name) → (is_on p q name ≡ true) ⊎ (is_on p q name ≡ false)
one_or_none p q name = cases_Bool (is_on p q name)

module _ {F S : Type 0} (schedule : S → Schedule) (right : S → Name → F → Type 0) (v : OnLanes F S) (sound : IsSound schedule right v) (name : Name) where
  abbrev here : OnLane F
  here = lane_of v name.from name.to

  pub next_below : (n : ℕ) → IsNext (schedule v.setting) name n → (name.from < v.actors) × (name.to < v.actors)
  next_below n is = let l : n < length (lane (schedule v.setting) name.from name.to) = slice_get_within _ n name is in sound.below name.from name.to (omega arith)

  -- where the opposite lane's takes are as many as the puts, one place is free
  pub has_room : puts_of v name.from name.to ≡ takes_of v name.to name.from → length here.pieces < 2
  has_room answered =
      let back : puts_of v name.to name.from ≤ takes_of v name.from name.to + 1 = sound.answered name.to name.from in
      omega arith

  module _ (piece : F) (next : IsNext (schedule v.setting) name (puts_of v name.from name.to)) (answered : puts_of v name.from name.to ≡ takes_of v name.to name.from) (fits : right v.setting name piece) where
    abbrev put : OnLane F
    put = record here { pieces = here.pieces ++ piece ∷ [] }

    pub put_puts : (p q : ℕ) → puts_of (with_lane v name put) p q ≡ puts_of v p q + one_on name p q
    put_puts = let (from, to) = next_below _ next in
        lane_counts v name sound.size from to put (λ l. l.taken + length l.pieces) 1 (omega (arith, length-append here.pieces (piece ∷ [])))

    pub put_takes : (p q : ℕ) → takes_of (with_lane v name put) p q ≡ takes_of v p q
    put_takes p q = let (from, to) = next_below _ next in
        let e : takes_of (with_lane v name put) p q ≡ takes_of v p q + cond (is_on p q name) 0 0 = lane_counts v name sound.size from to put (λ l. l.taken) 0 (omega arith) p q in
        let none : cond {A = ℕ} (is_on p q name) 0 0 ≡ 0 = elim (is_on p q name) as (λ b. cond {A = ℕ} b 0 0 ≡ 0) [ true ↦ refl | false ↦ refl ] in
        omega arith

    pub sound_put : IsSound schedule right (with_lane v name put)
    sound_put = record { few = sound.few; size = length-set v.lanes _ put ∙ sound.size; short = sound.short; below = sound.below; within = within; answered = balanced; is_right = is_right }
      where
        within : (p q : ℕ) → puts_of (with_lane v name put) p q ≤ length (lane (schedule v.setting) p q)
        within p q = elim (one_or_none p q name) [
          | inl on ↦
              let low : puts_of v p q < length (lane (schedule v.setting) p q) =
              subst (λ n. n < length (lane (schedule v.setting) p q)) (sym (at_name (puts_of v) p q name on))
              (subst (λ n. puts_of v name.from name.to < n) (sym (at_name (λ a b. length (lane (schedule v.setting) a b)) p q name on)) (slice_get_within _ _ name next)) in
              let one : one_on name p q ≡ 1 = cond-true (is_on p q name) 1 0 on in
              omega (arith, put_puts p q)
          | inr off ↦ let none : one_on name p q ≡ 0 = cond-false (is_on p q name) 1 0 off in omega (arith, put_puts p q, sound.within p q)
        ]

        balanced : (p q : ℕ) → puts_of (with_lane v name put) p q ≤ takes_of (with_lane v name put) q p + 1
        balanced p q = elim (one_or_none p q name) [
          | inl on ↦
              let same : puts_of v p q ≡ takes_of v q p = at_name (puts_of v) p q name on ∙ answered ∙ sym (at_name (λ a b. takes_of v b a) p q name on) in
              let one : one_on name p q ≡ 1 = cond-true (is_on p q name) 1 0 on in
              omega (arith, put_puts p q, put_takes q p)
          | inr off ↦ let none : one_on name p q ≡ 0 = cond-false (is_on p q name) 1 0 off in omega (arith, put_puts p q, put_takes q p, sound.answered p q)
        ]

        is_right : (p q i : ℕ) (other : Name) (x : F) → slice_get (lane (schedule v.setting) p q) (takes_of (with_lane v name put) p q + i) ≡ Some other →
            slice_get (lane_of (with_lane v name put) p q).pieces i ≡ Some x → right v.setting other x
        is_right p q i other x at held = elim (one_or_none p q name) [
          | inl on ↦ let (from, to) = next_below _ next in
              let held' : slice_get (here.pieces ++ piece ∷ []) i ≡ Some x =
              ap (λ l. slice_get l.pieces i) (sym (at_name (lane_of (with_lane v name put)) p q name on ∙ lane_here v name sound.size from to put)) ∙ held in
              let taken : takes_of (with_lane v name put) p q ≡ takes_of v name.from name.to = put_takes p q ∙ at_name (takes_of v) p q name on in
              let at' : slice_get (lane (schedule v.setting) name.from name.to) (takes_of v name.from name.to + i) ≡ Some other =
              ap (λ n. slice_get (lane (schedule v.setting) name.from name.to) (n + i)) (sym taken)
              ∙ ap (λ names. slice_get names (takes_of (with_lane v name put) p q + i)) (sym (at_name (lane (schedule v.setting)) p q name on)) ∙ at in
              elim (at_push here.pieces piece i x held') [
                | inl old ↦ sound.is_right name.from name.to i other x at' old
                | inr (last, same) ↦
                    let names : Some name ≡ Some other = sym next ∙ ap (λ n. slice_get (lane (schedule v.setting) name.from name.to) (takes_of v name.from name.to + n)) (sym last) ∙ at' in
                    let is : name ≡ other = cc in
                    subst (λ n. right v.setting n x) is (subst (right v.setting name) same fits)
              ]
          | inr off ↦ let (from, to) = next_below _ next in
              sound.is_right p q i other x (ap (λ n. slice_get (lane (schedule v.setting) p q) (n + i)) (sym (put_takes p q)) ∙ at)
              (ap (λ l. slice_get l.pieces i) (sym (lane_elsewhere v name sound.size from to put p q off)) ∙ held)
        ]

    -- the name goes behind the names in flight
    put_event : (flight : List Name) → AreInFlight (schedule v.setting) v flight → AreInFlight (schedule v.setting) (with_lane v name put) (flight ++ name ∷ [])
    put_event flight shown p q = elim (one_or_none p q name) [
      | inl on ↦
          let names : List Name = lane (schedule v.setting) p q in
          let is : slice_get names (puts_of v p q) ≡ Some name =
          ap (slice_get names) (at_name (puts_of v) p q name on) ∙ ap (λ ns. slice_get ns (puts_of v name.from name.to)) (at_name (lane (schedule v.setting)) p q name on) ∙ next in
          let low : puts_of v p q < length names = slice_get_within names _ name is in
          let more : puts_of (with_lane v name put) p q ≡ puts_of v p q + 1 = put_puts p q ∙ ap (λ n. puts_of v p q + n) (cond-true (is_on p q name) 1 0 on) in
          filter-append (is_on p q) flight (name ∷ [])
          ∙ ap (λ ns. ns ++ filter (is_on p q) (name ∷ [])) (shown p q)
          ∙ ap (λ ns. drop (takes_of v p q) (take (puts_of v p q) names) ++ ns) (cond-true (is_on p q name) (name ∷ []) [] on)
          ∙ sym (
          ap (λ n. drop n (take (puts_of (with_lane v name put) p q) names)) (put_takes p q)
          ∙ ap (λ n. drop (takes_of v p q) (take n names)) more
          ∙ ap (drop (takes_of v p q)) (take_more names (puts_of v p q) name low ∙ ap (λ n. take (puts_of v p q) names ++ n ∷ []) (get_or_from_slice_get names (puts_of v p q) name name is))
          ∙ drop-append-le (takes_of v p q) (take (puts_of v p q) names) (name ∷ []) (omega (arith, length-take-le (puts_of v p q) names (omega arith))))
      | inr off ↦
          filter-append (is_on p q) flight (name ∷ [])
          ∙ ap (λ ns. filter (is_on p q) flight ++ ns) (cond-false (is_on p q name) (name ∷ []) [] off)
          ∙ append-nil (filter (is_on p q) flight) ∙ shown p q
          ∙ sym (
          ap (λ n. drop n (take (puts_of (with_lane v name put) p q) (lane (schedule v.setting) p q))) (put_takes p q)
          ∙ ap (λ n. drop (takes_of v p q) (take n (lane (schedule v.setting) p q)))
          (put_puts p q ∙ ap (λ n. puts_of v p q + n) (cond-false (is_on p q name) 1 0 off) ∙ (let none : puts_of v p q + 0 ≡ puts_of v p q = omega arith in none)))
    ]

  module _ (x : F) (rest : List F) (held : here.pieces ≡ x ∷ rest) (next : IsNext (schedule v.setting) name (takes_of v name.from name.to)) where
    abbrev took : OnLane F
    took = record { taken = here.taken + 1; pieces = rest }

    took_puts : (p q : ℕ) → puts_of (with_lane v name took) p q ≡ puts_of v p q
    took_puts p q = let (from, to) = next_below _ next in
        let e : puts_of (with_lane v name took) p q ≡ puts_of v p q + cond (is_on p q name) 0 0 =
        lane_counts v name sound.size from to took (λ l. l.taken + length l.pieces) 0 (omega (arith, ap length held)) p q in
        let none : cond {A = ℕ} (is_on p q name) 0 0 ≡ 0 = elim (is_on p q name) as (λ b. cond {A = ℕ} b 0 0 ≡ 0) [ true ↦ refl | false ↦ refl ] in
        omega arith

    took_takes : (p q : ℕ) → takes_of (with_lane v name took) p q ≡ takes_of v p q + one_on name p q
    took_takes p q = let (from, to) = next_below _ next in lane_counts v name sound.size from to took (λ l. l.taken) 1 refl p q

    right_take : right v.setting name x
    right_take = sound.is_right name.from name.to 0 name x (let same : takes_of v name.from name.to + 0 ≡ takes_of v name.from name.to = omega arith in ap (slice_get (lane (schedule v.setting) name.from name.to)) same ∙ next) (ap (λ xs. slice_get xs 0) held)

    sound_take : IsSound schedule right (with_lane v name took)
    sound_take = record { few = sound.few; size = length-set v.lanes _ took ∙ sound.size; short = sound.short; below = sound.below; within = within; answered = balanced; is_right = is_right }
      where
        within : (p q : ℕ) → puts_of (with_lane v name took) p q ≤ length (lane (schedule v.setting) p q)
        within p q = omega (arith, took_puts p q, sound.within p q)

        balanced : (p q : ℕ) → puts_of (with_lane v name took) p q ≤ takes_of (with_lane v name took) q p + 1
        balanced p q = omega (arith, took_puts p q, took_takes q p, sound.answered p q)

        is_right : (p q i : ℕ) (other : Name) (y : F) → slice_get (lane (schedule v.setting) p q) (takes_of (with_lane v name took) p q + i) ≡ Some other →
            slice_get (lane_of (with_lane v name took) p q).pieces i ≡ Some y → right v.setting other y
        is_right p q i other y at kept = elim (one_or_none p q name) [
          | inl on ↦ let (from, to) = next_below _ next in
              let kept' : slice_get here.pieces (suc i) ≡ Some y =
              ap (λ xs. slice_get xs (suc i)) held
              ∙ ap (λ l. slice_get l.pieces i) (sym (at_name (lane_of (with_lane v name took)) p q name on ∙ lane_here v name sound.size from to took)) ∙ kept in
              let more : takes_of (with_lane v name took) p q + i ≡ takes_of v name.from name.to + suc i =
              let one : one_on name p q ≡ 1 = cond-true (is_on p q name) 1 0 on in
              omega (arith, took_takes p q, at_name (takes_of v) p q name on) in
              sound.is_right name.from name.to (suc i) other y
              (ap (slice_get (lane (schedule v.setting) name.from name.to)) (sym more)
              ∙ ap (λ names. slice_get names (takes_of (with_lane v name took) p q + i)) (sym (at_name (lane (schedule v.setting)) p q name on)) ∙ at) kept'
          | inr off ↦ let (from, to) = next_below _ next in
              let same : takes_of (with_lane v name took) p q ≡ takes_of v p q = let none : one_on name p q ≡ 0 = cond-false (is_on p q name) 1 0 off in omega (arith, took_takes p q) in
              sound.is_right p q i other y (ap (λ n. slice_get (lane (schedule v.setting) p q) (n + i)) (sym same) ∙ at)
              (ap (λ l. slice_get l.pieces i) (sym (lane_elsewhere v name sound.size from to took p q off)) ∙ kept)
        ]

    -- the name is the first in flight on its lane
    flies_first : (flight : List Name) → AreInFlight (schedule v.setting) v flight → (p q : ℕ) → is_on p q name ≡ true →
        filter (is_on p q) flight ≡ name ∷ drop (takes_of v p q + 1) (take (puts_of v p q) (lane (schedule v.setting) p q))
    flies_first flight shown p q on =
        let names : List Name = lane (schedule v.setting) p q in
        let is : slice_get names (takes_of v p q) ≡ Some name =
        ap (slice_get names) (at_name (takes_of v) p q name on) ∙ ap (λ ns. slice_get ns (takes_of v name.from name.to)) (at_name (lane (schedule v.setting)) p q name on) ∙ next in
        let within : puts_of v p q ≤ length names = sound.within p q in
        let more : takes_of v p q < puts_of v p q = omega (arith, ap length held, at_name (puts_of v) p q name on, at_name (takes_of v) p q name on) in
        shown p q
        ∙ drop_more (take (puts_of v p q) names) (takes_of v p q) name (omega (arith, length-take-le (puts_of v p q) names within))
        ∙ ap (λ n. n ∷ drop (takes_of v p q + 1) (take (puts_of v p q) names)) (get_or-take (puts_of v p q) names (takes_of v p q) name more ∙ get_or_from_slice_get names (takes_of v p q) name name is)

    take_event : (flight : List Name) → AreInFlight (schedule v.setting) v flight → AreInFlight (schedule v.setting) (with_lane v name took) (without name flight)
    take_event flight shown p q = elim (one_or_none p q name) [
      | inl on ↦
          without_first p q name flight _ on (flies_first flight shown p q on)
          ∙ sym (
          ap (λ n. drop n (take (puts_of (with_lane v name took) p q) (lane (schedule v.setting) p q))) (took_takes p q ∙ ap (λ n. takes_of v p q + n) (cond-true (is_on p q name) 1 0 on))
          ∙ ap (λ n. drop (takes_of v p q + 1) (take n (lane (schedule v.setting) p q))) (took_puts p q))
      | inr off ↦
          without_elsewhere p q name flight off ∙ shown p q
          ∙ sym (
          ap (λ n. drop n (take (puts_of (with_lane v name took) p q) (lane (schedule v.setting) p q)))
          (took_takes p q ∙ ap (λ n. takes_of v p q + n) (cond-false (is_on p q name) 1 0 off) ∙ (let none : takes_of v p q + 0 ≡ takes_of v p q = omega arith in none))
          ∙ ap (λ n. drop (takes_of v p q) (take n (lane (schedule v.setting) p q))) (took_puts p q))
    ]

    take_found : (flight : List Name) → AreInFlight (schedule v.setting) v flight → list_any (is_name name) flight ≡ true
    take_found flight shown = first_in_flight name.from name.to name flight _ (flies_first flight shown name.from name.to (is_on_itself name))

  -- a name that was not put is not in flight
  take_missed : here.pieces ≡ [] → (flight : List Name) → AreInFlight (schedule v.setting) v flight → list_any (is_name name) flight ≡ false
  take_missed none flight shown = elim (cases_Bool (list_any (is_name name) flight)) [
    | inl found ↦
        let (first, rest, is) = some_in_flight name.from name.to name flight (is_on_itself name) found in
        let names : List Name = lane (schedule v.setting) name.from name.to in
        let past : length (take (puts_of v name.from name.to) names) ≤ takes_of v name.from name.to =
        omega (arith, ap length none, length-take (puts_of v name.from name.to) names) in
        let no : first ∷ rest ≡ [] = sym is ∙ shown name.from name.to ∙ drop_all (takes_of v name.from name.to) (take (puts_of v name.from name.to) names) past in
        absurd cc
    | inr missed ↦ missed
  ]

no_pieces : {A : Type 0} (xs : List A) → nat_lt 0 (length xs) ≡ false → xs ≡ []
no_pieces [] e = refl
no_pieces (x ∷ xs) e = absurd (let yes_some : nat_lt 0 (suc (length xs)) ≡ true = lt-ltb _ _ (omega arith) in cc)

-- a lane has at most one name for each step
pub names_at_most : (k : ℕ) (steps : List (List Pair)) (p q : ℕ) → length (names_from k steps p q) ≤ length steps
names_at_most k [] p q = omega arith
names_at_most k (step ∷ steps) p q =
    let names : List Name = names_from (suc k) steps p q in
    let rest : length names ≤ length steps = names_at_most (suc k) steps p q in
    elim (meets step p q) as (λ v. length (cond v (name k p q ∷ names) names) ≤ suc (length steps)) [ true ↦ omega arith | false ↦ omega arith ]

-- what is left of a lane after a put
pub record IsPutDone {F S : Type 0} (schedule : S → Schedule) (right : S → Name → F → Type 0) (v w : OnLanes F S) (name : Name) : Type 0 where
  pub sound : IsSound schedule right w
  pub same : w.setting ≡ v.setting
  pub actors : w.actors ≡ v.actors
  pub puts : (p q : ℕ) → puts_of w p q ≡ puts_of v p q + one_on name p q
  pub takes : (p q : ℕ) → takes_of w p q ≡ takes_of v p q
  pub event : MakesTurn (schedule v.setting) v w (Put name)

-- what is left of a lane after a take that answers out
pub record IsTakeDone {F S : Type 0} (schedule : S → Schedule) (right : S → Name → F → Type 0) (v w : OnLanes F S) (name : Name) (out : Option F) : Type 0 where
  pub sound : IsSound schedule right w
  pub same : w.setting ≡ v.setting
  pub actors : w.actors ≡ v.actors
  pub puts : (p q : ℕ) → puts_of w p q ≡ puts_of v p q
  pub takes : (p q : ℕ) → takes_of w p q ≡ takes_of v p q + cond (is_some out) (one_on name p q) 0
  pub is_right : IfSome out (λ x. right v.setting name x)
  pub found : (flight : List Name) → AreInFlight (schedule v.setting) v flight → is_some out ≡ list_any (is_name name) flight
  pub event : OnSome out (MakesTurn (schedule v.setting) v w (Take name))
  pub none : is_some out ≡ nat_lt (takes_of v name.from name.to) (puts_of v name.from name.to)

module _ {F S : Type 0} (schedule : S → Schedule) (right : S → Name → F → Type 0) (V v : OnLanes F S) (is : V ≡ v) (sound : IsSound schedule right V) (name : Name)
    (r : OnLane F) (read : r ≡ get_or V.lanes (name.from * V.actors + name.to) r) where
  -- what was read is the lane
  lane_read : name.from < V.actors → name.to < V.actors → r ≡ lane_of V name.from name.to
  lane_read from to =
      let low : name.from * V.actors + name.to < length V.lanes = place_within V name sound.size from to (lane_of V name.from name.to) in
      get_or_read V.lanes (name.from * V.actors + name.to) r low read fresh ∙ sym (cond-true (nat_lt name.to V.actors) _ _ (lt-ltb _ _ to))

  pub room : IsNext (schedule v.setting) name (puts_of v name.from name.to) → puts_of v name.from name.to ≡ takes_of v name.to name.from → length r.pieces < 2
  room = subst (λ (u : OnLanes F S). IsNext (schedule u.setting) name (puts_of u name.from name.to) → puts_of u name.from name.to ≡ takes_of u name.to name.from → length r.pieces < 2) is
      (λ next answered. let (from, to) = next_below schedule right V sound name _ next in
      subst (λ (l : OnLane F). length l.pieces < 2) (sym (lane_read from to)) (has_room schedule right V sound name answered))

  pub put_done : (piece : F) (n : OnLane F) → n ≡ record { taken = r.taken; pieces = r.pieces ++ piece ∷ [] } →
      IsNext (schedule v.setting) name (puts_of v name.from name.to) → puts_of v name.from name.to ≡ takes_of v name.to name.from → right v.setting name piece →
      IsPutDone schedule right v (with_lane V name n) name
  put_done piece n new = subst (λ (u : OnLanes F S). IsNext (schedule u.setting) name (puts_of u name.from name.to) → puts_of u name.from name.to ≡ takes_of u name.to name.from →
      right u.setting name piece → IsPutDone schedule right u (with_lane V name n) name) is
      (λ next answered fits. let (from, to) = next_below schedule right V sound name _ next in
      let now : n ≡ put schedule right V sound name piece next answered fits = new ∙ ap (λ (l : OnLane F). record { taken = l.taken; pieces = l.pieces ++ piece ∷ [] }) (lane_read from to) in
      subst (λ (l : OnLane F). IsPutDone schedule right V (with_lane V name l) name) (sym now) (record {
        sound = sound_put schedule right V sound name piece next answered fits;
        same = refl;
        actors = refl;
        puts = put_puts schedule right V sound name piece next answered fits;
        takes = put_takes schedule right V sound name piece next answered fits;
        event = put_event schedule right V sound name piece next answered fits;
      }))

  -- how often a name was taken from a lane fits 64 bits
  pub few_taken : IsNext (schedule v.setting) name (takes_of v name.from name.to) → r.taken + 1 < 2 ^ 64
  few_taken = subst (λ (u : OnLanes F S). IsNext (schedule u.setting) name (takes_of u name.from name.to) → r.taken + 1 < 2 ^ 64) is
      (λ next. let (from, to) = next_below schedule right V sound name _ next in
      let low : takes_of V name.from name.to < length (lane (schedule V.setting) name.from name.to) = slice_get_within _ _ name next in
      omega (arith, ap (λ (l : OnLane F). l.taken) (lane_read from to), names_at_most 0 (schedule V.setting).steps name.from name.to, sound.short))

  pub take_done : (out : Option F) (n : OnLane F) → n.taken ≡ cond (is_some out) (r.taken + 1) r.taken → r.pieces ≡ option_to_list out ++ n.pieces → is_some out ≡ nat_lt 0 (length r.pieces) →
      IsNext (schedule v.setting) name (takes_of v name.from name.to) → IsTakeDone schedule right v (with_lane V name n) name out
  take_done out n taken pieces found = subst (λ (u : OnLanes F S). IsNext (schedule u.setting) name (takes_of u name.from name.to) → IsTakeDone schedule right u (with_lane V name n) name out) is
      (λ next. go out n taken pieces found next)
    where
      go : (out : Option F) (n : OnLane F) → n.taken ≡ cond (is_some out) (r.taken + 1) r.taken → r.pieces ≡ option_to_list out ++ n.pieces → is_some out ≡ nat_lt 0 (length r.pieces) →
          IsNext (schedule V.setting) name (takes_of V name.from name.to) → IsTakeDone schedule right V (with_lane V name n) name out
      go None n taken pieces found next = let (from, to) = next_below schedule right V sound name _ next in
          let same : n ≡ r = ap (λ (k : ℕ). record { taken = k; pieces = n.pieces }) taken ∙ ap (λ (xs : List F). record { taken = r.taken; pieces = xs }) (sym pieces) in
          let here : with_lane V name n ≡ V =
          ap (with_lane V name) (same ∙ read) ∙ ap (λ (ls : List (OnLane F)). record { setting = V.setting; actors = V.actors; lanes = ls }) (set-get_or V.lanes (name.from * V.actors + name.to) r) in
          let empty : r.pieces ≡ [] = no_pieces r.pieces (sym found) in
          subst (λ (w : OnLanes F S). IsTakeDone schedule right V w name None) (sym here) (record {
            sound = sound;
            same = refl;
            actors = refl;
            puts = λ p q. refl;
            takes = λ p q. omega arith;
            is_right = tt;
            found = λ flight shown. sym (take_missed schedule right V sound name (ap (λ (l : OnLane F). l.pieces) (sym (lane_read from to)) ∙ empty) flight shown);
            event = tt;
            none = sym (le-ltb _ _ (omega (arith, ap length (ap (λ (l : OnLane F). l.pieces) (sym (lane_read from to)) ∙ empty))));
          })
      go (Some x) n taken pieces found next = let (from, to) = next_below schedule right V sound name _ next in
          let l : OnLane F = lane_of V name.from name.to in
          let held : l.pieces ≡ x ∷ n.pieces = ap (λ (l : OnLane F). l.pieces) (sym (lane_read from to)) ∙ pieces in
          let now : n ≡ record { taken = l.taken + 1; pieces = n.pieces } = ap (λ (k : ℕ). record { taken = k; pieces = n.pieces }) (taken ∙ ap (λ (l : OnLane F). l.taken + 1) (lane_read from to)) in
          subst (λ (m : OnLane F). IsTakeDone schedule right V (with_lane V name m) name (Some x)) (sym now) (record {
            sound = sound_take schedule right V sound name x n.pieces held next;
            same = refl;
            actors = refl;
            puts = took_puts schedule right V sound name x n.pieces held next;
            takes = took_takes schedule right V sound name x n.pieces held next;
            is_right = right_take schedule right V sound name x n.pieces held next;
            found = λ flight shown. sym (take_found schedule right V sound name x n.pieces held next flight shown);
            event = take_event schedule right V sound name x n.pieces held next;
            none = sym (lt-ltb _ _ (omega (arith, ap length held)));
          })

-- lanes on which nothing was put
abbrev pub fresh_lanes : {F S : Type 0} → S → ℕ → OnLanes F S
fresh_lanes setting n = record { setting = setting; actors = n; lanes = replicate (n * n) fresh }

pub lane_fresh : {F S : Type 0} (setting : S) (n p q : ℕ) → lane_of (fresh_lanes {F = F} setting n) p q ≡ fresh
lane_fresh {F} setting n p q =
    let lanes : List (OnLane F) = replicate (n * n) fresh in
    let at : get_or lanes (p * n + q) fresh ≡ fresh = elim (cases_lt (p * n + q) (n * n)) [
      | inl low ↦ get_or-replicate (n * n) (p * n + q) fresh fresh low
      | inr high ↦ get_or_past lanes (p * n + q) fresh (omega (arith, length-replicate (n * n) (fresh {F = F})))
    ] in
    ap (λ (l : OnLane F). cond (nat_lt q n) l fresh) at ∙ elim (nat_lt q n) as (λ b. cond b (fresh {F = F}) fresh ≡ fresh) [ true ↦ refl | false ↦ refl ]

pub sound_fresh : {F S : Type 0} (schedule : S → Schedule) (right : S → Name → F → Type 0) (setting : S) (n : ℕ) → n ≤ 65 → AreBelow (schedule setting) n →
    length (schedule setting).steps ≤ 2 ^ 40 → IsSound schedule right (fresh_lanes setting n)
sound_fresh {F} {S} schedule right setting n few below short =
    let lanes : OnLanes F S = fresh_lanes setting n in
    let taken : (p q : ℕ) → takes_of lanes p q ≡ 0 = λ p q. ap (λ (l : OnLane F). l.taken) (lane_fresh setting n p q) in
    let puts : (p q : ℕ) → puts_of lanes p q ≡ 0 = λ p q. ap (λ (l : OnLane F). l.taken + length l.pieces) (lane_fresh setting n p q) in
    record {
      few = few;
      size = length-replicate (n * n) fresh;
      short = short;
      below = below;
      within = λ p q. omega (arith, puts p q);
      answered = λ p q. omega (arith, puts p q);
      is_right = λ p q i name piece at held.
          let none : slice_get [] i ≡ Some piece = ap (λ (l : OnLane F). slice_get l.pieces i) (sym (lane_fresh setting n p q)) ∙ held in
          absurd cc;
    }

pub sound_made : {F S : Type 0} (schedule : S → Schedule) (right : S → Name → F → Type 0) (setting given : S) (n made : ℕ) (lanes : List (OnLane F)) →
    given ≡ setting → lanes ≡ replicate made fresh → made ≡ n * n → n ≤ 65 → AreBelow (schedule setting) n → length (schedule setting).steps ≤ 2 ^ 40 →
    IsSound schedule right (record { setting = given; actors = n; lanes = lanes })
sound_made {F} {S} schedule right setting given n made lanes same is all few below short =
    let fresh_there : lanes ≡ replicate (n * n) fresh = is ∙ ap (λ k. replicate k (fresh {F = F})) all in
    subst (λ (s : S). IsSound schedule right (record { setting = s; actors = n; lanes = lanes })) (sym same)
    (subst (λ (ls : List (OnLane F)). IsSound schedule right (record { setting = setting; actors = n; lanes = ls })) (sym fresh_there) (sound_fresh schedule right setting n few below short))
