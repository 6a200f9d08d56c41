-- A store of a lane's word is a turn of the exchange core.
use Rattle.std.proofs.Common.{◌≡◌, ◌≢◌, ◌∙◌, refl, sym, ap, subst, ℕ, ◌+◌, ◌-◌, ◌<◌, ◌≤◌, true, false, ◌==◌, List, [], ◌∷◌, ◌++◌, take, drop, length, Some, arith, inl, inr}
use Rattle.std.specs.Prelude.{slice_index, slice_get}
use Rattle.std.specs.List.{filter, list_any}
use Rattle.std.proofs.lemmas.Bool.{eqb-true, eq-eqb, and_parts, and_from, cases_Bool, cond-true, cond-false}
use Rattle.std.proofs.lemmas.List.{append-nil, length-take, length-take-le, length-drop, take_more, drop_more, drop-append-le, get_or-take}
use Rattle.std.proofs.lemmas.List.Elements.{filter-append}
use Rattle.std.proofs.lemmas.Option.{slice_get_within, get_or_from_slice_get}
use mathlib.Core.Option.{some}
use lib.ListN.{get_elem?}
use Rattle.atomic_table.specs.Table.{State}
use Rattle.brace_core.specs.declared.name.Name.{Name}
use Rattle.brace_core.specs.declared.name.Turn.TheVariants.{Put, Take}
use Rattle.brace_core.specs.Schedule.{Schedule, lane}
use Rattle.brace_core.specs.Events.{is_name, is_on, without}
use Rattle.brace_core.specs.Exchanges.{IsNext}
use Rattle.brace_core.proofs.Runs.{without_first, without_elsewhere, first_in_flight}
use Rattle.brace_lanes.specs.declared.table.View.{View}
use Rattle.brace_lanes.specs.Places.{place, put_of, taken_of}
use Rattle.brace_lanes.specs.Views.{Serves}
use Rattle.brace_lanes.specs.Rule.{KeptAmong}
use Rattle.brace_lanes.specs.States.{Fly, MakesTurn, put_stored, taken_stored}
use Rattle.brace_lanes.proofs.PlaceLemmas.{apart, put_here, put_else, put_takes, taken_here, taken_else, taken_puts}

is_itself : (name : Name) → is_on name.from name.to name ≡ true
is_itself name = and_from (name.from == name.from) (name.to == name.to) (eq-eqb name.from name.from refl) (eq-eqb name.to name.to refl)

on_is : (p q : ℕ) (name : Name) → is_on p q name ≡ true → (name.from ≡ p) × (name.to ≡ q)
on_is p q name on = let (a, b) = and_parts (name.from == p) (name.to == q) on in (eqb-true _ _ a, eqb-true _ _ b)

not_here : (p q : ℕ) (name : Name) → is_on p q name ≡ false → (p ≡ name.from) × (q ≡ name.to) → ⊥
not_here p q name off (a, b) =
    let on : is_on p q name ≡ true = and_from (name.from == p) (name.to == q) (eq-eqb name.from p (sym a)) (eq-eqb name.to q (sym b)) in
    let no : true ≡ false = sym on ∙ off in
    absurd cc

-- ---- names of one lane

module _ (names flight : List Name) (p q t u : ℕ) (name : Name) (flies : filter (is_on p q) flight ≡ drop t (take u names)) (on : is_on p q name ≡ true) where
  put_here_flies : slice_get names u ≡ Some name → t ≤ u → filter (is_on p q) (flight ++ name ∷ []) ≡ drop t (take (u + 1) names)
  put_here_flies is low =
      let within : u < length names = slice_get_within names u name is in
      filter-append (is_on p q) flight (name ∷ [])
      ∙ ap (λ ns. ns ++ filter (is_on p q) (name ∷ [])) flies
      ∙ ap (λ ns. drop t (take u names) ++ ns) (cond-true (is_on p q name) (name ∷ []) [] on)
      ∙ sym (
      ap (drop t) (take_more names u name within ∙ ap (λ n. take u names ++ n ∷ []) (get_or_from_slice_get names u name name is))
      ∙ drop-append-le t (take u names) (name ∷ []) (omega (arith, length-take-le u names (omega (arith, within)), low)))

  first_there : slice_get names t ≡ Some name → t < u → filter (is_on p q) flight ≡ name ∷ drop (t + 1) (take u names)
  first_there is low =
      let within : t < length names = slice_get_within names t name is in
      flies
      ∙ drop_more (take u names) t name (omega (arith, length-take u names, within, low))
      ∙ ap (λ n. n ∷ drop (t + 1) (take u names)) (get_or-take u names t name low ∙ get_or_from_slice_get names t name name is)

  take_here_flies : slice_get names t ≡ Some name → t < u → filter (is_on p q) (without name flight) ≡ drop (t + 1) (take u names)
  take_here_flies is low = without_first p q name flight _ on (first_there is low)

put_elsewhere : (p q : ℕ) (flight : List Name) (name : Name) → is_on p q name ≡ false → filter (is_on p q) (flight ++ name ∷ []) ≡ filter (is_on p q) flight
put_elsewhere p q flight name off =
    filter-append (is_on p q) flight (name ∷ []) ∙ ap (λ ns. filter (is_on p q) flight ++ ns) (cond-false (is_on p q name) (name ∷ []) [] off) ∙ append-nil (filter (is_on p q) flight)

-- ---- the words of all lanes

module _ {X S : Type 0} (n seats made : ℕ) (s : State X (View S)) (kept : KeptAmong n seats made s) (j : ℕ) (v : View S) (at : get_elem? s.views j ≡ some v) (name : Name) (from : name.from < n) (to : name.to < n) (plan : Schedule) where
  abbrev a : ℕ
  a = name.from

  abbrev b : ℕ
  b = name.to

  pub put_is_turn : Serves v a → IsNext plan name (put_of n s.words a b) → MakesTurn plan n s.words (put_stored n v s.words a b) (Put name)
  put_is_turn serves next flight fly = (refl, flies)
    where
      x : ℕ
      x = slice_index v.put (place n a b) + 1

      counted : x ≡ put_of n s.words a b + 1
      counted = ap (λ k. k + 1) ((kept.each j v at).put a b from to serves)

      flies : Fly plan n (put_stored n v s.words a b) (flight ++ name ∷ [])
      flies p q lp lq = elim (cases_Bool (is_on p q name)) [
        | inl on ↦
            let (is_from, is_to) = on_is p q name on in
            let is : slice_get (lane plan p q) (put_of n s.words p q) ≡ Some name = subst (λ c. slice_get (lane plan c q) (put_of n s.words c q) ≡ Some name) is_from (subst (λ d. slice_get (lane plan a d) (put_of n s.words a d) ≡ Some name) is_to next) in
            let more : put_of n (put_stored n v s.words a b) p q ≡ put_of n s.words p q + 1 =
            subst (λ c. put_of n (put_stored n v s.words a b) c q ≡ put_of n s.words c q + 1) is_from (subst (λ d. put_of n (put_stored n v s.words a b) a d ≡ put_of n s.words a d + 1) is_to (put_here n s.words kept.size a b x from to ∙ counted)) in
            put_here_flies (lane plan p q) flight p q (taken_of n s.words p q) (put_of n s.words p q) name (fly p q lp lq) on is (kept.in_order p q lp lq)
            ∙ sym (ap (λ t. drop t (take (put_of n (put_stored n v s.words a b) p q) (lane plan p q))) (put_takes n s.words kept.size a b x from to p q) ∙ ap (λ u. drop (taken_of n s.words p q) (take u (lane plan p q))) more)
        | inr off ↦
            let other : place n p q ≢ place n a b = λ e. not_here p q name off (apart n p q a b lq to e) in
            put_elsewhere p q flight name off ∙ fly p q lp lq
            ∙ sym (ap (λ t. drop t (take (put_of n (put_stored n v s.words a b) p q) (lane plan p q))) (put_takes n s.words kept.size a b x from to p q) ∙ ap (λ u. drop (taken_of n s.words p q) (take u (lane plan p q))) (put_else n s.words kept.size a b x from to p q other))
      ]

  pub take_is_turn : Serves v b → IsNext plan name (taken_of n s.words a b) → taken_of n s.words a b < put_of n s.words a b → MakesTurn plan n s.words (taken_stored n v s.words b a) (Take name)
  take_is_turn serves next behind flight fly = (ready, flies)
    where
      x : ℕ
      x = slice_index v.taken (place n b a) + 1

      counted : x ≡ taken_of n s.words a b + 1
      counted = ap (λ k. k + 1) ((kept.each j v at).taken b a to from serves)

      ready : list_any (is_name name) flight ≡ true
      ready = first_in_flight a b name flight _ (first_there (lane plan a b) flight a b (taken_of n s.words a b) (put_of n s.words a b) name (fly a b from to) (is_itself name) next behind)

      flies : Fly plan n (taken_stored n v s.words b a) (without name flight)
      flies p q lp lq = elim (cases_Bool (is_on p q name)) [
        | inl on ↦
            let (is_from, is_to) = on_is p q name on in
            let is : slice_get (lane plan p q) (taken_of n s.words p q) ≡ Some name = subst (λ c. slice_get (lane plan c q) (taken_of n s.words c q) ≡ Some name) is_from (subst (λ d. slice_get (lane plan a d) (taken_of n s.words a d) ≡ Some name) is_to next) in
            let low : taken_of n s.words p q < put_of n s.words p q = subst (λ c. taken_of n s.words c q < put_of n s.words c q) is_from (subst (λ d. taken_of n s.words a d < put_of n s.words a d) is_to behind) in
            let more : taken_of n (taken_stored n v s.words b a) p q ≡ taken_of n s.words p q + 1 =
            subst (λ c. taken_of n (taken_stored n v s.words b a) c q ≡ taken_of n s.words c q + 1) is_from (subst (λ d. taken_of n (taken_stored n v s.words b a) a d ≡ taken_of n s.words a d + 1) is_to (taken_here n s.words kept.size b a x to from ∙ counted)) in
            take_here_flies (lane plan p q) flight p q (taken_of n s.words p q) (put_of n s.words p q) name (fly p q lp lq) on is low
            ∙ sym (ap (λ t. drop t (take (put_of n (taken_stored n v s.words b a) p q) (lane plan p q))) more ∙ ap (λ u. drop (taken_of n s.words p q + 1) (take u (lane plan p q))) (taken_puts n s.words kept.size b a x to from p q lp lq))
        | inr off ↦
            let other : place n q p ≢ place n b a = λ e. let (c, d) = apart n q p b a lp from e in not_here p q name off (d, c) in
            without_elsewhere p q name flight off ∙ fly p q lp lq
            ∙ sym (ap (λ t. drop t (take (put_of n (taken_stored n v s.words b a) p q) (lane plan p q))) (taken_else n s.words kept.size b a x to from p q other) ∙ ap (λ u. drop (taken_of n s.words p q) (take u (lane plan p q))) (taken_puts n s.words kept.size b a x to from p q lp lq))
      ]

-- how many names fly on a lane
module _ {X S : Type 0} (n seats made : ℕ) (s : State X (View S)) (kept : KeptAmong n seats made s) (plan : Schedule) (flight : List Name) (fly : Fly plan n s.words flight) (p q : ℕ) (lp : p < n) (lq : q < n) where
  pub two_fly : length (filter (is_on p q) flight) ≤ 2
  two_fly =
      let names : List Name = take (put_of n s.words p q) (lane plan p q) in
      let there : length (drop (taken_of n s.words p q) names) ≡ length names - taken_of n s.words p q = length-drop (taken_of n s.words p q) names in
      let few : length names ≤ put_of n s.words p q = omega (arith, length-take (put_of n s.words p q) (lane plan p q)) in
      omega (arith, ap length (fly p q lp lq), there, few, kept.answered p q lp lq, kept.in_order q p lq lp, kept.answered q p lq lp, kept.in_order p q lp lq)
