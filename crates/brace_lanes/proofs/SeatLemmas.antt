-- What a put and a take change of a seat's counts.
use Rattle.std.proofs.Common.{◌≡◌, ◌≢◌, ◌≤◌, ◌<◌, ◌+◌, ◌*◌, ◌^◌, ◌∙◌, ℕ, true, false, ◌==◌, ◌&&◌, nat_lt, List, [], ◌∷◌, cond, length, get_or, refl, sym, ap, subst, inl, inr, arith, length-set, true≢false}
use Rattle.std.specs.Prelude.{Option as opt, None, Some, IfSome, OnSome, is_some, slice_get, slice_index, slice_set}
use Rattle.std.proofs.lemmas.Bool.{eqb-true, eq-eqb, and_parts, and_from, lt-ltb, ltb-true, cases_Bool, cond-true, cond-false}
use Rattle.std.proofs.lemmas.List.{get_or-set_same, get_or_read}
use Rattle.std.proofs.lemmas.Option.{slice_get_within, same_Some}
use Rattle.std.proofs.Math.Bool.{and_comm}
use Rattle.atomic_table.specs.Table.{Me}
use Rattle.atomic_table.specs.declared.shared.Seat.{Seat}
use Rattle.brace_core.specs.declared.name.Name.{Name}
use Rattle.brace_core.specs.Schedule.{Schedule, lane}
use Rattle.brace_core.specs.Exchanges.{Follows, IsAnswered, one_on}
use Rattle.brace_core.specs.Lanes.{AreBelow}
use Rattle.brace_core.proofs.LaneLemmas.{names_at_most}
use Rattle.brace_lanes.specs.declared.table.View.{View}
use Rattle.brace_lanes.specs.Places.{place, slot}
use Rattle.brace_lanes.specs.Rule.{IsRightAt}
use Rattle.brace_lanes.specs.Views.{raised, claimed, has_put, has_taken}
use Rattle.brace_lanes.specs.Seats.{OnSeat, count_at, puts_of, takes_of, seen_of, misses_of}
use Rattle.brace_lanes.specs.inner.Sound.{IsSound}
use Rattle.brace_lanes.specs.inner.Steps.{LooksAt, IsOut}
use Rattle.brace_lanes.proofs.PlaceLemmas.{place_below, apart}
use Rattle.brace_lanes.proofs.StepsKept.{set_each}
use Rattle.brace_lanes.proofs.StepsAllowed.{missing, finding, is_missing, is_finding}

pub count_in : (n : ℕ) (l : List ℕ) (a b : ℕ) → a < n → b < n → count_at n l a b ≡ slice_index l (place n a b)
count_in n l a b la lb = cond-true (nat_lt a n && nat_lt b n) _ _ (and_from (nat_lt a n) (nat_lt b n) (lt-ltb a n la) (lt-ltb b n lb))

unlike : (a b c d : ℕ) → ((a ≡ c) × (b ≡ d) → ⊥) → (a == c && b == d) ≡ false
unlike a b c d other = elim (cases_Bool (a == c && b == d)) [
  | inl e ↦ let (x, y) = and_parts (a == c) (b == d) e in absurd (other (eqb-true a c x, eqb-true b d y))
  | inr e ↦ e
]

-- a count that rose at one place
pub count_raised : (n : ℕ) (l : List ℕ) (a b : ℕ) → length l ≡ n * n → a < n → b < n → (c d : ℕ) → count_at n (raised l (place n a b)) c d ≡ count_at n l c d + cond (a == c && b == d) 1 0
count_raised n l a b square la lb c d = elim (cases_Bool (nat_lt c n && nat_lt d n)) [
  | inl e ↦
      let (x, y) = and_parts (nat_lt c n) (nat_lt d n) e in
      let within = set_each n l (λ c d y. y ≡ slice_index l (place n c d) + cond (a == c && b == d) 1 0) a b (slice_index l (place n a b) + 1) lb (omega (arith, square, place_below n a b la lb))
      (ap (λ j. slice_index l (place n a b) + j) (sym (cond-true {A = ℕ} (a == a && b == b) 1 0 (and_from (a == a) (b == b) (eq-eqb a a refl) (eq-eqb b b refl)))))
      (λ c d lc ld far. let none = cond-false {A = ℕ} (a == c && b == d) 1 0 (unlike a b c d (λ t. far (λ i. place n (sym t.0 i) (sym t.1 i)))) in omega (arith, none)) in
      cond-true (nat_lt c n && nat_lt d n) _ _ e ∙ within c d (ltb-true c n x) (ltb-true d n y) ∙ ap (λ j. j + cond (a == c && b == d) 1 0) (sym (cond-true (nat_lt c n && nat_lt d n) _ _ e))
  | inr e ↦
      let none = cond-false {A = ℕ} (a == c && b == d) 1 0 (unlike a b c d (λ t. true≢false (sym (and_from (nat_lt c n) (nat_lt d n) (lt-ltb c n (subst (λ j. j < n) t.0 la)) (lt-ltb d n (subst (λ j. j < n) t.1 lb))) ∙ e))) in
      let was : count_at n l c d ≡ 0 = cond-false (nat_lt c n && nat_lt d n) _ _ e in
      let now : count_at n (raised l (place n a b)) c d ≡ 0 = cond-false (nat_lt c n && nat_lt d n) _ _ e in
      omega (arith, was, now, none)
]

-- the same at the lane that comes to a place
pub count_raised_back : (n : ℕ) (l : List ℕ) (name : Name) → length l ≡ n * n → name.from < n → name.to < n → (p q : ℕ) → count_at n (raised l (place n name.to name.from)) q p ≡ count_at n l q p + one_on name p q
count_raised_back n l name square lf lt p q = count_raised n l name.to name.from square lt lf q p ∙ ap (λ b. count_at n l q p + cond b 1 0) (and_comm (name.to == q) (name.from == p))

-- what lies in the slot that was taken last
abbrev carried : {F : Type 0} → List (ℕ × opt F) → opt F
carried [] = None
carried (x ∷ xs) = x.1

-- what a seat's next name on a lane tells: its actors are among those of the lanes, and the count read
-- is the view's and can rise
pub record IsCounted (counts read_from : List ℕ) (n a b r : ℕ) : Type 0 where
  pub own : a < n
  pub other : b < n
  pub inside : place n a b < length read_from
  pub is : slice_index counts (place n a b) ≡ r
  pub can_rise : r + 1 < 2 ^ 64

module _ {F S : Type 0} (schedule : S → Schedule) (right : S → Name → F → Type 0) (seat : Seat (opt F) (View S)) (n : ℕ) (put taken : List ℕ) (sound : IsSound schedule seat n put taken)
    (v : OnSeat S) (is : record { lanes = seat.table_id; view = seat.me.0 } ≡ v) (name : Name) where
  abbrev V : View S
  V = seat.me.0

  abbrev out : ℕ
  out = place n name.from name.to

  abbrev back : ℕ
  back = place n name.to name.from

  -- the next name behind those that a list counts
  next_name : (counts : ℕ → ℕ → ℕ) → Follows (schedule V.setting) counts name → (name.from < n) × (name.to < n) × (counts name.from name.to < 2 ^ 40)
  next_name counts next =
      let l : counts name.from name.to < length (lane (schedule V.setting) name.from name.to) = slice_get_within _ _ name next in
      let (f, t) = sound.below name.from name.to (omega arith) in
      (f, t, omega (arith, l, names_at_most 0 (schedule V.setting).steps name.from name.to, sound.short))

  pub put_counted : Follows (schedule v.view.setting) (puts_of v.view) name → (r : ℕ) → r ≡ get_or put out r → IsCounted V.put put n name.from name.to r
  put_counted = subst (λ (u : OnSeat S). Follows (schedule u.view.setting) (puts_of u.view) name → (r : ℕ) → r ≡ get_or put out r → IsCounted V.put put n name.from name.to r) is
      (λ next r read.
      let (f, t, few) = next_name (puts_of V) next in
      let inside : out < length put = omega (arith, sound.square_put, place_below n name.from name.to f t) in
      let mine : slice_index V.put out ≡ r = ap (λ l. slice_index l out) (sym sound.puts) ∙ sym (get_or_read put out r inside read 0) in
      let counted : puts_of V name.from name.to ≡ slice_index V.put out = ap (λ m. count_at m V.put name.from name.to) sound.among ∙ count_in n V.put name.from name.to f t in
      record { own = f; other = t; inside = inside; is = mine; can_rise = omega (arith, few, counted, mine) })

  pub put_level : Follows (schedule v.view.setting) (puts_of v.view) name → IsAnswered (puts_of v.view) (takes_of v.view) name → slice_index V.put out ≡ slice_index V.taken out
  put_level = subst (λ (u : OnSeat S). Follows (schedule u.view.setting) (puts_of u.view) name → IsAnswered (puts_of u.view) (takes_of u.view) name → slice_index V.put out ≡ slice_index V.taken out) is
      (λ next answered.
      let (f, t, few) = next_name (puts_of V) next in
      let counted : puts_of V name.from name.to ≡ slice_index V.put out = ap (λ m. count_at m V.put name.from name.to) sound.among ∙ count_in n V.put name.from name.to f t in
      let took : takes_of V name.to name.from ≡ slice_index V.taken out = ap (λ m. count_at m V.taken name.from name.to) sound.among ∙ count_in n V.taken name.from name.to f t in
      sym counted ∙ answered ∙ took)

  -- the piece of the next name is right for every name that is the next of this lane
  pub put_right : Follows (schedule v.view.setting) (puts_of v.view) name → (r : ℕ) → slice_index V.put out ≡ r → (piece : F) → right v.view.setting name piece → IsRightAt schedule right V.setting n out r piece
  put_right = subst (λ (u : OnSeat S). Follows (schedule u.view.setting) (puts_of u.view) name → (r : ℕ) → slice_index V.put out ≡ r → (piece : F) → right u.view.setting name piece → IsRightAt schedule right V.setting n out r piece) is
      (λ next r mine piece fits other same is_next.
      let (f, t, few) = next_name (puts_of V) next in
      let counted : puts_of V name.from name.to ≡ r = ap (λ m. count_at m V.put name.from name.to) sound.among ∙ count_in n V.put name.from name.to f t ∙ mine in
      let l : r < length (lane (schedule V.setting) other.from other.to) = slice_get_within _ _ other is_next in
      let (of, ot) = sound.below other.from other.to (omega arith) in
      let (ef, et) = apart n other.from other.to name.from name.to ot t same in
      let mine_next : slice_get (lane (schedule V.setting) name.from name.to) r ≡ Some name = ap (slice_get (lane (schedule V.setting) name.from name.to)) (sym counted) ∙ next in
      let her_next : slice_get (lane (schedule V.setting) name.from name.to) r ≡ Some other = (λ i. slice_get (lane (schedule V.setting) (sym ef i) (sym et i)) r) ∙ is_next in
      subst (λ (m : Name). right V.setting m piece) (same_Some name other (sym mine_next ∙ her_next)) fits)

  pub put_puts : name.from < n → name.to < n → (W : View S) → W ≡ has_put (claimed V out) out → (p q : ℕ) → puts_of W p q ≡ puts_of v.view p q + one_on name p q
  put_puts f t W new p q =
      let square : length V.put ≡ n * n = ap length (sym sound.puts) ∙ sound.square_put in
      ap (λ (u : View S). puts_of u p q) new
      ∙ ap (λ m. count_at m (raised V.put out) p q) sound.among
      ∙ count_raised n V.put name.from name.to square f t p q
      ∙ ap (λ m. count_at m V.put p q + one_on name p q) (sym sound.among)
      ∙ ap (λ (u : OnSeat S). puts_of u.view p q + one_on name p q) is

  pub take_counted : Follows (schedule v.view.setting) (takes_of v.view) name → (r : ℕ) → r ≡ get_or taken back r → IsCounted V.taken taken n name.to name.from r
  take_counted = subst (λ (u : OnSeat S). Follows (schedule u.view.setting) (takes_of u.view) name → (r : ℕ) → r ≡ get_or taken back r → IsCounted V.taken taken n name.to name.from r) is
      (λ next r read.
      let (f, t, few) = next_name (takes_of V) next in
      let inside : back < length taken = omega (arith, sound.square_taken, place_below n name.to name.from t f) in
      let mine : slice_index V.taken back ≡ r = ap (λ l. slice_index l back) (sym sound.takes) ∙ sym (get_or_read taken back r inside read 0) in
      let counted : takes_of V name.from name.to ≡ slice_index V.taken back = ap (λ m. count_at m V.taken name.to name.from) sound.among ∙ count_in n V.taken name.to name.from t f in
      record { own = t; other = f; inside = inside; is = mine; can_rise = omega (arith, few, counted, mine) })

  -- after a look
  module _ (f : name.from < n) (t : name.to < n) (x r : ℕ) (mine : slice_index V.taken back ≡ r) (A : Seat (opt F) (View S)) (same : A.table_id ≡ seat.table_id) (look : LooksAt schedule right n out back seat.me x A.me) where
    -- that found no name
    module _ (level : x ≡ r) where
      miss_all : A.me ≡ (missing V back x, seat.me.1)
      miss_all = look.missed (level ∙ sym mine) ∙ ap (λ (u : View S). (u, seat.me.1)) (is_missing V back x (level ∙ sym mine))

      pub miss_misses : (p q : ℕ) → misses_of A.me.0 p q ≡ misses_of v.view p q + one_on name p q
      miss_misses p q =
          ap (λ (m : Me (opt F) (View S)). misses_of m.0 p q) miss_all
          ∙ ap (λ m. count_at m (raised V.misses back) q p) sound.among
          ∙ count_raised_back n V.misses name sound.square_misses f t p q
          ∙ ap (λ m. count_at m V.misses q p + one_on name p q) (sym sound.among)
          ∙ ap (λ (u : OnSeat S). misses_of u.view p q + one_on name p q) is

      pub miss_sound : IsSound schedule A n put taken
      miss_sound = record {
        among = ap (λ (m : Me (opt F) (View S)). m.0.actors) miss_all ∙ sound.among;
        few = sound.few;
        words = ap (λ z. z.words) same ∙ sound.words;
        slots = ap (λ z. z.slots) same ∙ sound.slots;
        puts = sound.puts ∙ sym (ap (λ (m : Me (opt F) (View S)). m.0.put) miss_all);
        takes = sound.takes ∙ sym (ap (λ (m : Me (opt F) (View S)). m.0.taken) miss_all);
        square_put = sound.square_put;
        square_taken = sound.square_taken;
        square_seen = ap (λ (m : Me (opt F) (View S)). length m.0.seen) miss_all ∙ length-set V.seen back x ∙ sound.square_seen;
        square_misses = ap (λ (m : Me (opt F) (View S)). length m.0.misses) miss_all ∙ length-set V.misses back (slice_index V.misses back + 1) ∙ sound.square_misses;
        no_slot = ap (λ (m : Me (opt F) (View S)). m.1) miss_all ∙ sound.no_slot;
        idle = ap (λ (m : Me (opt F) (View S)). m.0.hand) miss_all ∙ sound.idle;
        below = subst (λ s. AreBelow (schedule s) n) (sym (ap (λ (m : Me (opt F) (View S)). m.0.setting) miss_all)) sound.below;
        short = subst (λ s. length (schedule s).steps ≤ 2 ^ 40) (sym (ap (λ (m : Me (opt F) (View S)). m.0.setting) miss_all)) sound.short;
      }

    -- that found one
    module _ (hit : x ≢ r) where
      more : slice_index V.taken back < x
      more = let low = look.low in omega (arith, low, mine, hit)

      piece : F
      piece = (look.found more).0

      saw : View S
      saw = finding V back x

      hit_all : A.me ≡ (finding V back x, (slot n out r, Some piece) ∷ [])
      unfolding piece
      hit_all = (look.found more).1 ∙ λ i. (is_finding V back x (λ e. hit (e ∙ mine)) i, (slot n out (mine i), Some ((look.found more).0)) ∷ sound.no_slot i)

      pub hit_out : IsOut (slot n out r) A.me
      hit_out = (piece, ap (λ (m : Me (opt F) (View S)). m.1) hit_all)

      seen_back : back < length V.seen
      seen_back = omega (arith, sound.square_seen, place_below n name.to name.from t f)

      -- with the slot emptied
      module _ (C : Seat (opt F) (View S)) (same_c : C.table_id ≡ A.table_id) (found : opt F) (came : A.me.1 ≡ (slot n out r, found) ∷ []) (cleared : C.me ≡ (A.me.0, (slot n out r, None) ∷ [])) where
        found_is : found ≡ Some piece
        found_is = sym (ap carried (sym (ap (λ (m : Me (opt F) (View S)). m.1) hit_all) ∙ came))

        now : C.me.0 ≡ finding V back x
        now = ap (λ (m : Me (opt F) (View S)). m.0) cleared ∙ ap (λ (m : Me (opt F) (View S)). m.0) hit_all

        pub hit_count : slice_index C.me.0.taken back ≡ r
        hit_count = ap (λ (u : View S). slice_index u.taken back) now ∙ mine

        pub hit_seen : r < slice_index C.me.0.seen back
        hit_seen =
            let s : slice_index C.me.0.seen back ≡ x = ap (λ (u : View S). slice_index u.seen back) now ∙ get_or-set_same V.seen back x 0 seen_back in
            let m = more in omega (arith, s, m, mine)

        -- and the taken word stored
        module _ (T : Seat (opt F) (View S)) (same_t : T.table_id ≡ C.table_id) (took : T.me ≡ (has_taken C.me.0 back, [])) where
          after : T.me ≡ (has_taken (finding V back x) back, [])
          after = took ∙ ap (λ (u : View S). (has_taken u back, [])) now

          pub hit_takes : (p q : ℕ) → takes_of T.me.0 p q ≡ takes_of v.view p q + cond (is_some found) (one_on name p q) 0
          hit_takes p q =
              let square : length V.taken ≡ n * n = ap length (sym sound.takes) ∙ sound.square_taken in
              ap (λ (m : Me (opt F) (View S)). takes_of m.0 p q) after
              ∙ ap (λ m. count_at m (raised V.taken back) q p) sound.among
              ∙ count_raised_back n V.taken name square f t p q
              ∙ ap (λ m. count_at m V.taken q p + one_on name p q) (sym sound.among)
              ∙ ap (λ (u : OnSeat S). takes_of u.view p q + one_on name p q) is
              ∙ ap (λ (z : opt F). takes_of v.view p q + cond (is_some z) (one_on name p q) 0) (sym found_is)

          pub hit_misses : (p q : ℕ) → misses_of T.me.0 p q ≡ misses_of v.view p q + cond (is_some found) 0 (one_on name p q)
          hit_misses p q =
              let e : misses_of T.me.0 p q ≡ misses_of v.view p q = ap (λ (m : Me (opt F) (View S)). misses_of m.0 p q) after ∙ ap (λ (u : OnSeat S). misses_of u.view p q) is in
              let g : misses_of T.me.0 p q ≡ misses_of v.view p q + 0 = omega (arith, e) in
              g ∙ ap (λ (z : opt F). misses_of v.view p q + cond (is_some z) 0 (one_on name p q)) (sym found_is)

          pub hit_found : OnSome found (takes_of v.view name.from name.to < seen_of T.me.0 name.from name.to)
          hit_found =
              let s : seen_of T.me.0 name.from name.to ≡ x = ap (λ (m : Me (opt F) (View S)). seen_of m.0 name.from name.to) after ∙ ap (λ m. count_at m (slice_set V.seen back x) name.to name.from) sound.among
              ∙ count_in n (slice_set V.seen back x) name.to name.from t f ∙ get_or-set_same V.seen back x 0 seen_back in
              let c : takes_of v.view name.from name.to ≡ r = ap (λ (u : OnSeat S). takes_of u.view name.from name.to) (sym is) ∙ ap (λ m. count_at m V.taken name.to name.from) sound.among ∙ count_in n V.taken name.to name.from t f ∙ mine in
              let m = more in
              let less : takes_of v.view name.from name.to < seen_of T.me.0 name.from name.to = omega (arith, s, c, m, mine) in
              subst (λ (z : opt F). OnSome z (takes_of v.view name.from name.to < seen_of T.me.0 name.from name.to)) (sym found_is) less

          pub hit_right : Follows (schedule v.view.setting) (takes_of v.view) name → IfSome found (λ y. right v.view.setting name y)
          unfolding piece
          hit_right next = subst (λ (z : opt F). IfSome z (λ y. right v.view.setting name y)) (sym found_is)
              (subst (λ (u : OnSeat S). Follows (schedule u.view.setting) (takes_of u.view) name → right u.view.setting name piece) is
              (λ was.
              let counted : takes_of V name.from name.to ≡ slice_index V.taken back = ap (λ m. count_at m V.taken name.to name.from) sound.among ∙ count_in n V.taken name.to name.from t f in
              (look.found more).2 name refl (ap (slice_get (lane (schedule V.setting) name.from name.to)) (sym counted) ∙ was)) next)

          pub hit_sound : IsSound schedule T n put (slice_set taken back (r + 1))
          hit_sound = record {
            among = ap (λ (m : Me (opt F) (View S)). m.0.actors) after ∙ sound.among;
            few = sound.few;
            words = ap (λ z. z.words) (same_t ∙ same_c ∙ same) ∙ sound.words;
            slots = ap (λ z. z.slots) (same_t ∙ same_c ∙ same) ∙ sound.slots;
            puts = sound.puts ∙ sym (ap (λ (m : Me (opt F) (View S)). m.0.put) after);
            takes = (λ i. slice_set (sound.takes i) back (sym mine i + 1)) ∙ sym (ap (λ (m : Me (opt F) (View S)). m.0.taken) after);
            square_put = sound.square_put;
            square_taken = length-set taken back (r + 1) ∙ sound.square_taken;
            square_seen = ap (λ (m : Me (opt F) (View S)). length m.0.seen) after ∙ length-set V.seen back x ∙ sound.square_seen;
            square_misses = ap (λ (m : Me (opt F) (View S)). length m.0.misses) after ∙ sound.square_misses;
            no_slot = ap (λ (m : Me (opt F) (View S)). m.1) after;
            idle = ap (λ (m : Me (opt F) (View S)). m.0.hand) after;
            below = subst (λ s. AreBelow (schedule s) n) (sym (ap (λ (m : Me (opt F) (View S)). m.0.setting) after)) sound.below;
            short = subst (λ s. length (schedule s).steps ≤ 2 ^ 40) (sym (ap (λ (m : Me (opt F) (View S)). m.0.setting) after)) sound.short;
          }
