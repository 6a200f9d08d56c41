-- Each step keeps what the rule says of slots.
use Rattle.std.proofs.Common.{◌≡◌, ◌≢◌, ◌≤◌, ◌<◌, ◌+◌, ◌*◌, ◌∙◌, ◌⊎◌, ℕ, zero, suc, List, [], ◌∷◌, ◌++◌, length, map, set, replicate, refl, sym, ap, subst, inl, inr, arith}
use Rattle.std.specs.Prelude.{Option as opt, None, Some, slice_set}
use Rattle.std.proofs.lemmas.Bool.{cases_eq}
use Rattle.std.proofs.lemmas.Option.{none-some}
use Rattle.std.proofs.Math.Nat.{add-mod_right}
use mathlib.Core.Option.{Option, some, none, some-injective, some-ne-none}
use lib.ListN.{get_elem?}
use Rattle.atomic_table.specs.Table.{State}
use Rattle.atomic_table.proofs.Lists.{set_else, set_here, one_turn}
use Rattle.brace_core.specs.declared.name.Name.{Name}
use Rattle.brace_core.specs.Schedule.{Schedule}
use Rattle.brace_lanes.specs.declared.table.View.{View}
use Rattle.brace_lanes.specs.declared.table.Hand.{Hand}
use Rattle.brace_lanes.specs.declared.table.Hand.TheVariants.{Empty, ToPut, ToTake}
use Rattle.brace_lanes.specs.Places.{place, slot, slot_count, word_count, put_of, taken_of}
use Rattle.brace_lanes.specs.Views.{Serves, opening, splitting, newcomer}
use Rattle.brace_lanes.specs.Rule.{KeptAmong, IsRightAt, IsFull, IsHeld, IsPutting, IsTaking, SlotsKept}
use Rattle.brace_lanes.proofs.PlaceLemmas.{put_here, put_else, put_takes, taken_here, taken_else, taken_puts, same_place, apart}
use Rattle.brace_lanes.proofs.ViewLists.{each_after, at_end, view_here}
use Rattle.brace_lanes.proofs.StepsKept.{two_at_most, zero_at}
use Rattle.brace_lanes.proofs.SlotLemmas.{slot_below, slots_apart, same_put, same_take, put_or_take, idle_or_put, idle_or_take, held_after, held_more, one_place, one_seat}

vacant_at : {F : Type 0} (m i : ℕ) → i < m → get_elem? (map some (replicate {A = opt F} m None)) i ≡ some (some None)
vacant_at zero i l = absurd (omega (arith, l))
vacant_at (suc m) zero l = refl
vacant_at (suc m) (suc i) l = vacant_at m i (omega (arith, l))

module _ {F S : Type 0} (schedule : S → Schedule) (right : S → Name → F → Type 0) where
  abbrev Homes : Type 0
  Homes = List (Option (opt F))

  abbrev Flying : ℕ → S → List ℕ → Homes → List (View S) → Type 0
  Flying n setting words homes views = (p q k : ℕ) → p < n → q < n → taken_of n words p q ≤ k → k < put_of n words p q
      → IsFull schedule right setting n homes (place n p q) k ⊎ ((k ≡ taken_of n words p q) × IsHeld views (ToTake (place n q p)))

  abbrev Free : ℕ → List ℕ → Homes → List (View S) → Type 0
  Free n words homes views = (p q k : ℕ) → p < n → q < n → put_of n words p q ≤ k → k < taken_of n words p q + 2
      → (get_elem? homes (slot n (place n p q) k) ≡ some (some None)) ⊎ ((k ≡ put_of n words p q) × IsHeld views (ToPut (place n p q)))

  -- what the rule says of the hands of all seats, and of one
  abbrev Putting : ℕ → List ℕ → Homes → View S → Type 0
  Putting n words homes v = (a b : ℕ) → a < n → b < n → v.hand ≡ ToPut (place n a b) → IsPutting n words homes v a b

  abbrev Taking : ℕ → List ℕ → Homes → View S → Type 0
  Taking n words homes v = (a b : ℕ) → a < n → b < n → v.hand ≡ ToTake (place n a b) → IsTaking n words homes v a b

  -- the view of one seat became w
  slots_after : (n : ℕ) (setting : S) (s : State (opt F) (View S)) (h : SlotsKept schedule right n setting s) (id : ℕ) (v w : View S) (words : List ℕ) (homes : Homes) → get_elem? s.views id ≡ some v → w.setting ≡ v.setting
      → Putting n words homes w → ((j : ℕ) (u : View S) → j ≢ id → get_elem? s.views j ≡ some u → Putting n words homes u)
      → Taking n words homes w → ((j : ℕ) (u : View S) → j ≢ id → get_elem? s.views j ≡ some u → Taking n words homes u)
      → Flying n setting words homes (set s.views id w) → Free n words homes (set s.views id w)
      → SlotsKept schedule right n setting record { words = words; homes = homes; views = set s.views id w }
  slots_after n setting s h id v w words homes at same putting others_put taking others_take flying free = record {
    settings = each_after (λ (u : View S). u.setting ≡ setting) s.views id w (same ∙ h.settings id v at) (λ j u far e. h.settings j u e);
    flying = flying;
    free = free;
    putting = each_after (Putting n words homes) s.views id w putting others_put;
    taking = each_after (Taking n words homes) s.views id w taking others_take;
  }

  -- where one more slot is out, those that were out are so still
  stays_out : (homes : Homes) (i j : ℕ) → get_elem? homes i ≡ some none → get_elem? (set homes j none) i ≡ some none
  stays_out homes i j was = elim (cases_eq i j) [
    | inl same ↦ ap (get_elem? (set homes j none)) same ∙ view_here homes j none none (ap (get_elem? homes) (sym same) ∙ was)
    | inr other ↦ set_else homes j i none other ∙ was
  ]

  putting_stays : (n : ℕ) (words : List ℕ) (homes : Homes) (i : ℕ) (u : View S) → Putting n words homes u → Putting n words (set homes i none) u
  putting_stays n words homes i u was c d lc ld e =
      let p = was c d lc ld e in
      record { serves = p.serves; answered = p.answered; out = stays_out homes (slot n (place n c d) (put_of n words c d)) i p.out }

  taking_stays : (n : ℕ) (words : List ℕ) (homes : Homes) (i : ℕ) (u : View S) → Taking n words homes u → Taking n words (set homes i none) u
  taking_stays n words homes i u was c d lc ld e =
      let p = was c d lc ld e in
      record { serves = p.serves; found = p.found; out = stays_out homes (slot n (place n d c) (taken_of n words d c)) i p.out }

  -- a home that held something else is at another slot
  other_home : (homes : Homes) (i j : ℕ) (x y : opt F) → (x ≡ y → ⊥) → get_elem? homes i ≡ some (some x) → get_elem? homes j ≡ some (some y) → i ≢ j
  other_home homes i j x y unlike ei ej same = unlike (some-injective x y (some-injective (some x) (some y) (sym ei ∙ ap (get_elem? homes) same ∙ ej)))

  some_or_none : (x : F) → Some x ≡ None → ⊥
  some_or_none x e = none-some x (sym e)

  module _ (n seats made : ℕ) (setting : S) (s : State (opt F) (View S)) (k : KeptAmong n seats made s) (h : SlotsKept schedule right n setting s) (id : ℕ) (v : View S) (at : get_elem? s.views id ≡ some v) where
    module _ (a b : ℕ) (la : a < n) (lb : b < n) (serves : Serves v a) where
      abbrev out : ℕ
      out = put_of n s.words a b

      abbrev next : ℕ
      next = taken_of n s.words b a

      abbrev out_slot : ℕ
      out_slot = slot n (place n a b) out

      abbrev next_slot : ℕ
      next_slot = slot n (place n b a) next

      -- a look that finds a name
      module _ (idle : v.hand ≡ Empty) (more : next < put_of n s.words b a) (w : View S) (hand : w.hand ≡ ToTake (place n a b)) (same : w.setting ≡ v.setting) (still : Serves w a) where
        abbrev Looked : Type 0
        Looked = SlotsKept schedule right n setting record { words = s.words; homes = set s.homes next_slot none; views = set s.views id w }

        pub look_slots : (x : F) × (get_elem? s.homes next_slot ≡ some (some (Some x))) × IsRightAt schedule right setting n (place n b a) next x × Looked
        look_slots = elim (h.flying b a next lb la (omega arith) more) [
          | inl (x, home, fits) ↦ (x, home, fits, slots_after n setting s h id v w s.words (set s.homes next_slot none) at same putting (λ j u far e. putting_stays n s.words s.homes next_slot u (h.putting j u e)) (taking x home) (λ j u far e. taking_stays n s.words s.homes next_slot u (h.taking j u e)) flying (free x home))
          | inr (is, (j, u, e, held)) ↦ absurd (idle_or_take (place n a b) (sym idle ∙ ap (λ (z : View S). z.hand) (sym (one_seat n seats made s k j id u v a e at ((h.taking j u e a b la lb held).serves) serves)) ∙ held))
        ]
          where
            putting : Putting n s.words (set s.homes next_slot none) w
            putting c d lc ld e = absurd (put_or_take (place n c d) (place n a b) (sym e ∙ hand))

            taking : (x : F) → get_elem? s.homes next_slot ≡ some (some (Some x)) → Taking n s.words (set s.homes next_slot none) w
            taking x home c d lc ld e =
                let (ea, eb) = apart n a b c d lb ld (same_take (place n a b) (place n c d) (sym hand ∙ e)) in
                let mine : IsTaking n s.words (set s.homes next_slot none) w a b = record { serves = still; found = more; out = view_here s.homes next_slot (some (Some x)) none home } in
                subst (λ (z : ℕ × ℕ). IsTaking n s.words (set s.homes next_slot none) w z.0 z.1) (λ i. (ea i, eb i)) mine

            flying : Flying n setting s.words (set s.homes next_slot none) (set s.views id w)
            flying p q i lp lq lo hi = elim (h.flying p q i lp lq lo hi) [
              | inl (y, home, fits) ↦ elim (cases_eq (slot n (place n p q) i) next_slot) [
                | inl one ↦
                    let (ep, eq, parity) = slots_apart n p q b a i next lp lq lb la one in
                    let t : taken_of n s.words p q ≡ next = λ j. taken_of n s.words (ep j) (eq j) in
                    let two = two_at_most n seats made s k p q lp lq in
                    let is : next ≡ i = one_turn next i 2 (omega (arith, lo, t)) (omega (arith, hi, two, t)) (sym parity) in
                    inr (sym is ∙ sym t, (id, w, view_here s.views id v w at, hand ∙ λ j. ToTake (place n (sym eq j) (sym ep j))))
                | inr other ↦ inl (y, set_else s.homes next_slot (slot n (place n p q) i) none other ∙ home, fits)
              ]
              | inr (is, held) ↦ inr (is, held_after s.views id v w (ToTake (place n q p)) at (λ e. absurd (idle_or_take (place n q p) (sym idle ∙ e))) held)
            ]

            free : (x : F) → get_elem? s.homes next_slot ≡ some (some (Some x)) → Free n s.words (set s.homes next_slot none) (set s.views id w)
            free x home p q i lp lq lo hi = elim (h.free p q i lp lq lo hi) [
              | inl empty ↦ inl (set_else s.homes next_slot (slot n (place n p q) i) none (λ e. other_home s.homes next_slot (slot n (place n p q) i) (Some x) None (some_or_none x) home empty (sym e)) ∙ empty)
              | inr (is, held) ↦ inr (is, held_after s.views id v w (ToPut (place n p q)) at (λ e. absurd (idle_or_put (place n p q) (sym idle ∙ e))) held)
            ]

      -- a claim
      module _ (idle : v.hand ≡ Empty) (few : out < taken_of n s.words a b + 2) (answered : out ≤ taken_of n s.words b a) (w : View S) (hand : w.hand ≡ ToPut (place n a b)) (same : w.setting ≡ v.setting) (still : Serves w a) where
        abbrev Claimed : Type 0
        Claimed = SlotsKept schedule right n setting record { words = s.words; homes = set s.homes out_slot none; views = set s.views id w }

        pub claim_slots : (get_elem? s.homes out_slot ≡ some (some None)) × Claimed
        claim_slots = elim (h.free a b out la lb (omega arith) few) [
          | inl empty ↦ (empty, slots_after n setting s h id v w s.words (set s.homes out_slot none) at same (putting empty) (λ j u far e. putting_stays n s.words s.homes out_slot u (h.putting j u e)) taking (λ j u far e. taking_stays n s.words s.homes out_slot u (h.taking j u e)) (flying empty) free)
          | inr (is, (j, u, e, held)) ↦ absurd (idle_or_put (place n a b) (sym idle ∙ ap (λ (z : View S). z.hand) (sym (one_seat n seats made s k j id u v a e at ((h.putting j u e a b la lb held).serves) serves)) ∙ held))
        ]
          where
            putting : get_elem? s.homes out_slot ≡ some (some None) → Putting n s.words (set s.homes out_slot none) w
            putting empty c d lc ld e =
                let (ea, eb) = apart n a b c d lb ld (same_put (place n a b) (place n c d) (sym hand ∙ e)) in
                let mine : IsPutting n s.words (set s.homes out_slot none) w a b = record { serves = still; answered = answered; out = view_here s.homes out_slot (some None) none empty } in
                subst (λ (z : ℕ × ℕ). IsPutting n s.words (set s.homes out_slot none) w z.0 z.1) (λ i. (ea i, eb i)) mine

            taking : Taking n s.words (set s.homes out_slot none) w
            taking c d lc ld e = absurd (put_or_take (place n a b) (place n c d) (sym hand ∙ e))

            flying : get_elem? s.homes out_slot ≡ some (some None) → Flying n setting s.words (set s.homes out_slot none) (set s.views id w)
            flying empty p q i lp lq lo hi = elim (h.flying p q i lp lq lo hi) [
              | inl (y, home, fits) ↦ inl (y, set_else s.homes out_slot (slot n (place n p q) i) none (other_home s.homes (slot n (place n p q) i) out_slot (Some y) None (some_or_none y) home empty) ∙ home, fits)
              | inr (is, held) ↦ inr (is, held_after s.views id v w (ToTake (place n q p)) at (λ e. absurd (idle_or_take (place n q p) (sym idle ∙ e))) held)
            ]

            free : Free n s.words (set s.homes out_slot none) (set s.views id w)
            free p q i lp lq lo hi = elim (h.free p q i lp lq lo hi) [
              | inl empty ↦ elim (cases_eq (slot n (place n p q) i) out_slot) [
                | inl one ↦
                    let (ep, eq, parity) = slots_apart n p q a b i out lp lq la lb one in
                    let u : put_of n s.words p q ≡ out = λ j. put_of n s.words (ep j) (eq j) in
                    let order = k.in_order p q lp lq in
                    let is : out ≡ i = one_turn out i 2 (omega (arith, lo, u)) (omega (arith, hi, order, u)) (sym parity) in
                    inr (sym is ∙ sym u, (id, w, view_here s.views id v w at, hand ∙ λ j. ToPut (place n (sym ep j) (sym eq j))))
                | inr other ↦ inl (set_else s.homes out_slot (slot n (place n p q) i) none other ∙ empty)
              ]
              | inr (is, held) ↦ inr (is, held_after s.views id v w (ToPut (place n p q)) at (λ e. absurd (idle_or_put (place n p q) (sym idle ∙ e))) held)
            ]

      -- a store of the put word
      module _ (holds : v.hand ≡ ToPut (place n a b)) (deep : length s.homes ≡ slot_count n) (few : out < taken_of n s.words a b + 2) (x : F) (fits : IsRightAt schedule right setting n (place n a b) out x)
          (w : View S) (hand : w.hand ≡ Empty) (same : w.setting ≡ v.setting) where
        abbrev put_words : List ℕ
        put_words = slice_set s.words (place n a b) (out + 1)

        abbrev put_homes : Homes
        put_homes = set s.homes out_slot (some (Some x))

        pub put_slots : SlotsKept schedule right n setting record { words = put_words; homes = put_homes; views = set s.views id w }
        put_slots = slots_after n setting s h id v w put_words put_homes at same putting others_put taking others_take flying free
          where
            putting : Putting n put_words put_homes w
            putting c d lc ld e = absurd (idle_or_put (place n c d) (sym hand ∙ e))

            taking : Taking n put_words put_homes w
            taking c d lc ld e = absurd (idle_or_take (place n c d) (sym hand ∙ e))

            took : (p q : ℕ) → taken_of n put_words p q ≡ taken_of n s.words p q
            took = put_takes n s.words k.size a b (out + 1) la lb

            -- the put word of this lane is one higher, that of another is as it was
            put : (p q : ℕ) → p < n → q < n → ((p ≡ a) × (q ≡ b) × (put_of n put_words p q ≡ out + 1)) ⊎ ((place n p q ≢ place n a b) × (put_of n put_words p q ≡ put_of n s.words p q))
            put p q lp lq = elim (same_place n p q a b lq lb) [
              | inl (ep, eq) ↦ inl (ep, eq, (λ j. put_of n put_words (ep j) (eq j)) ∙ put_here n s.words k.size a b (out + 1) la lb)
              | inr other ↦ inr (other, put_else n s.words k.size a b (out + 1) la lb p q other)
            ]

            others_put : (j : ℕ) (u : View S) → j ≢ id → get_elem? s.views j ≡ some u → Putting n put_words put_homes u
            others_put j u far e c d lc ld is =
                let p = h.putting j u e c d lc ld is in
                elim (put c d lc ld) [
                  | inl (ec, ed, now) ↦ absurd (far (one_place n seats made s k j id u v a e at (subst (λ m. Serves u m) ec p.serves) serves))
                  | inr (other, now) ↦ record {
                    serves = p.serves;
                    answered = let was = p.answered in omega (arith, was, now, took d c);
                    out = ap (λ m. get_elem? put_homes (slot n (place n c d) m)) now
                        ∙ set_else s.homes out_slot (slot n (place n c d) (put_of n s.words c d)) (some (Some x)) (λ same_slot. let (ec, ed, parity) = slots_apart n c d a b (put_of n s.words c d) out lc ld la lb same_slot in other (λ i. place n (ec i) (ed i)))
                        ∙ p.out;
                  }
                ]

            others_take : (j : ℕ) (u : View S) → j ≢ id → get_elem? s.views j ≡ some u → Taking n put_words put_homes u
            others_take j u far e c d lc ld is =
                let p = h.taking j u e c d lc ld is in
                let was = p.found in
                record {
                  serves = p.serves;
                  found = elim (put d c ld lc) [
                    | inl (ed, ec, now) ↦ let o : put_of n s.words d c ≡ out = λ i. put_of n s.words (ed i) (ec i) in omega (arith, was, now, o, took d c)
                    | inr (other, now) ↦ omega (arith, was, now, took d c)
                  ];
                  out = ap (λ m. get_elem? put_homes (slot n (place n d c) m)) (took d c)
                      ∙ set_else s.homes out_slot (slot n (place n d c) (taken_of n s.words d c)) (some (Some x)) (λ same_slot.
                      let (ed, ec, parity) = slots_apart n d c a b (taken_of n s.words d c) out ld lc la lb same_slot in
                      let o : put_of n s.words d c ≡ out = λ i. put_of n s.words (ed i) (ec i) in
                      let t : taken_of n s.words d c ≡ taken_of n s.words a b = λ i. taken_of n s.words (ed i) (ec i) in
                      let one : taken_of n s.words d c ≡ out = one_turn (taken_of n s.words d c) out 2 (omega (arith, was, o)) (omega (arith, few, t)) parity in
                      absurd (omega (arith, was, o, one)))
                      ∙ p.out;
                }

            gone : (p q : ℕ) → place n p q ≢ place n a b → v.hand ≡ ToPut (place n p q) → w.hand ≡ ToPut (place n p q)
            gone p q other e = absurd (other (same_put (place n p q) (place n a b) (sym e ∙ holds)))

            keeps_take : (p q : ℕ) → IsHeld s.views (ToTake (place n q p)) → IsHeld (set s.views id w) (ToTake (place n q p))
            keeps_take p q held = held_after s.views id v w (ToTake (place n q p)) at (λ e. absurd (put_or_take (place n a b) (place n q p) (sym holds ∙ e))) held

            was_flying : (p q i : ℕ) → p < n → q < n → taken_of n put_words p q ≤ i → i < put_of n s.words p q → slot n (place n p q) i ≢ out_slot
                → IsFull schedule right setting n put_homes (place n p q) i ⊎ ((i ≡ taken_of n put_words p q) × IsHeld (set s.views id w) (ToTake (place n q p)))
            was_flying p q i lp lq lo hi other = elim (h.flying p q i lp lq (omega (arith, lo, took p q)) hi) [
              | inl (y, home, is_right) ↦ inl (y, set_else s.homes out_slot (slot n (place n p q) i) (some (Some x)) other ∙ home, is_right)
              | inr (is, held) ↦ inr (is ∙ sym (took p q), keeps_take p q held)
            ]

            here : (p q i : ℕ) → p ≡ a → q ≡ b → i ≡ out → IsFull schedule right setting n put_homes (place n p q) i
            here p q i ep eq ei = subst (λ (z : ℕ × ℕ × ℕ). IsFull schedule right setting n put_homes (place n z.0 z.1) z.2) (λ j. (sym ep j, sym eq j, sym ei j))
                (x, set_here s.homes out_slot (some (Some x)) (omega (arith, deep, slot_below n a b out la lb)), fits)

            flying : Flying n setting put_words put_homes (set s.views id w)
            flying p q i lp lq lo hi = elim (put p q lp lq) [
              | inl (ep, eq, now) ↦
                  let t : taken_of n s.words p q ≡ taken_of n s.words a b = λ j. taken_of n s.words (ep j) (eq j) in
                  let u : put_of n s.words p q ≡ out = λ j. put_of n s.words (ep j) (eq j) in
                  elim (cases_eq i out) [
                    | inl new ↦ inl (here p q i ep eq new)
                    | inr old ↦ was_flying p q i lp lq lo (omega (arith, hi, now, u, old)) (λ e.
                        let parity = (slots_apart n p q a b i out lp lq la lb e).2 in
                        old (one_turn i out 2 (omega (arith, hi, now)) (omega (arith, lo, took p q, t, few)) parity))
                  ]
              | inr (other, now) ↦ was_flying p q i lp lq lo (omega (arith, hi, now)) (λ e. let (ep, eq, parity) = slots_apart n p q a b i out lp lq la lb e in other (λ j. place n (ep j) (eq j)))
            ]

            free : Free n put_words put_homes (set s.views id w)
            free p q i lp lq lo hi = elim (put p q lp lq) [
              | inl (ep, eq, now) ↦
                  let t : taken_of n s.words p q ≡ taken_of n s.words a b = λ j. taken_of n s.words (ep j) (eq j) in
                  let u : put_of n s.words p q ≡ out = λ j. put_of n s.words (ep j) (eq j) in
                  let order = k.in_order p q lp lq in
                  elim (h.free p q i lp lq (omega (arith, lo, now, u)) (omega (arith, hi, took p q))) [
                    | inl empty ↦ inl (set_else s.homes out_slot (slot n (place n p q) i) (some (Some x)) (λ e.
                        let parity = (slots_apart n p q a b i out lp lq la lb e).2 in
                        let is : out ≡ i = one_turn out i 2 (omega (arith, lo, now)) (omega (arith, hi, took p q, order, u)) (sym parity) in
                        absurd (omega (arith, is, lo, now))) ∙ empty)
                    | inr (is, held) ↦ absurd (omega (arith, is, lo, now, u))
                  ]
              | inr (other, now) ↦ elim (h.free p q i lp lq (omega (arith, lo, now)) (omega (arith, hi, took p q))) [
                | inl empty ↦ inl (set_else s.homes out_slot (slot n (place n p q) i) (some (Some x)) (λ e. let (ep, eq, parity) = slots_apart n p q a b i out lp lq la lb e in other (λ j. place n (ep j) (eq j))) ∙ empty)
                | inr (is, held) ↦ inr (is ∙ sym now, held_after s.views id v w (ToPut (place n p q)) at (gone p q other) held)
              ]
            ]

      -- a store of the taken word
      module _ (holds : v.hand ≡ ToTake (place n a b)) (deep : length s.homes ≡ slot_count n) (w : View S) (hand : w.hand ≡ Empty) (same : w.setting ≡ v.setting) where
        abbrev took_words : List ℕ
        took_words = slice_set s.words (n * n + place n a b) (next + 1)

        abbrev took_homes : Homes
        took_homes = set s.homes next_slot (some None)

        pub take_slots : SlotsKept schedule right n setting record { words = took_words; homes = took_homes; views = set s.views id w }
        take_slots = slots_after n setting s h id v w took_words took_homes at same putting others_put taking others_take flying free
          where
            putting : Putting n took_words took_homes w
            putting c d lc ld e = absurd (idle_or_put (place n c d) (sym hand ∙ e))

            taking : Taking n took_words took_homes w
            taking c d lc ld e = absurd (idle_or_take (place n c d) (sym hand ∙ e))

            puts : (p q : ℕ) → p < n → q < n → put_of n took_words p q ≡ put_of n s.words p q
            puts = taken_puts n s.words k.size a b (next + 1) la lb

            took : (p q : ℕ) → p < n → q < n → ((p ≡ b) × (q ≡ a) × (taken_of n took_words p q ≡ next + 1)) ⊎ ((place n q p ≢ place n a b) × (taken_of n took_words p q ≡ taken_of n s.words p q))
            took p q lp lq = elim (same_place n q p a b lp lb) [
              | inl (eq, ep) ↦ inl (ep, eq, (λ j. taken_of n took_words (ep j) (eq j)) ∙ taken_here n s.words k.size a b (next + 1) la lb)
              | inr other ↦ inr (other, taken_else n s.words k.size a b (next + 1) la lb p q other)
            ]

            others_take : (j : ℕ) (u : View S) → j ≢ id → get_elem? s.views j ≡ some u → Taking n took_words took_homes u
            others_take j u far e c d lc ld is =
                let p = h.taking j u e c d lc ld is in
                let was = p.found in
                elim (took d c ld lc) [
                  | inl (ed, ec, now) ↦ absurd (far (one_place n seats made s k j id u v a e at (subst (λ m. Serves u m) ec p.serves) serves))
                  | inr (other, now) ↦ record {
                    serves = p.serves;
                    found = omega (arith, was, now, puts d c ld lc);
                    out = ap (λ m. get_elem? took_homes (slot n (place n d c) m)) now
                        ∙ set_else s.homes next_slot (slot n (place n d c) (taken_of n s.words d c)) (some None) (λ same_slot. let (ed, ec, parity) = slots_apart n d c b a (taken_of n s.words d c) next ld lc lb la same_slot in other (λ i. place n (ec i) (ed i)))
                        ∙ p.out;
                  }
                ]

            others_put : (j : ℕ) (u : View S) → j ≢ id → get_elem? s.views j ≡ some u → Putting n took_words took_homes u
            others_put j u far e c d lc ld is =
                let p = h.putting j u e c d lc ld is in
                let was = p.answered in
                record {
                  serves = p.serves;
                  answered = elim (took d c ld lc) [
                    | inl (ed, ec, now) ↦ let t : taken_of n s.words d c ≡ next = λ i. taken_of n s.words (ed i) (ec i) in omega (arith, was, now, t, puts c d lc ld)
                    | inr (other, now) ↦ omega (arith, was, now, puts c d lc ld)
                  ];
                  out = ap (λ m. get_elem? took_homes (slot n (place n c d) m)) (puts c d lc ld)
                      ∙ set_else s.homes next_slot (slot n (place n c d) (put_of n s.words c d)) (some None) (λ same_slot.
                      let (ec, ed, parity) = slots_apart n c d b a (put_of n s.words c d) next lc ld lb la same_slot in
                      let found = (h.taking id v at a b la lb holds).found in
                      let o : put_of n s.words c d ≡ put_of n s.words b a = λ i. put_of n s.words (ec i) (ed i) in
                      let t : taken_of n s.words d c ≡ taken_of n s.words a b = λ i. taken_of n s.words (ed i) (ec i) in
                      let order = k.in_order a b la lb in
                      let reply = k.answered a b la lb in
                      let one : next ≡ put_of n s.words c d = one_turn next (put_of n s.words c d) 2 (omega (arith, found, o)) (omega (arith, was, t, order, reply)) (sym parity) in
                      absurd (omega (arith, found, o, one)))
                      ∙ p.out;
                }

            keeps_put : (p q : ℕ) → IsHeld s.views (ToPut (place n p q)) → IsHeld (set s.views id w) (ToPut (place n p q))
            keeps_put p q held = held_after s.views id v w (ToPut (place n p q)) at (λ e. absurd (put_or_take (place n p q) (place n a b) (sym e ∙ holds))) held

            flying : Flying n setting took_words took_homes (set s.views id w)
            flying p q i lp lq lo hi = elim (took p q lp lq) [
              | inl (ep, eq, now) ↦
                  let t : taken_of n s.words p q ≡ next = λ j. taken_of n s.words (ep j) (eq j) in
                  let two = two_at_most n seats made s k p q lp lq in
                  elim (h.flying p q i lp lq (omega (arith, lo, now, t)) (omega (arith, hi, puts p q lp lq))) [
                    | inl (y, home, is_right) ↦ inl (
                      y,
                      set_else s.homes next_slot (slot n (place n p q) i) (some None) (λ e.
                          let parity = (slots_apart n p q b a i next lp lq lb la e).2 in
                          let is : next ≡ i = one_turn next i 2 (omega (arith, lo, now)) (omega (arith, hi, puts p q lp lq, two, t)) (sym parity) in
                          absurd (omega (arith, is, lo, now))) ∙ home,
                      is_right,
                    )
                    | inr (is, held) ↦ absurd (omega (arith, is, lo, now, t))
                  ]
              | inr (other, now) ↦ elim (h.flying p q i lp lq (omega (arith, lo, now)) (omega (arith, hi, puts p q lp lq))) [
                | inl (y, home, is_right) ↦ inl (y, set_else s.homes next_slot (slot n (place n p q) i) (some None) (λ e. let (ep, eq, parity) = slots_apart n p q b a i next lp lq lb la e in other (λ j. place n (eq j) (ep j))) ∙ home, is_right)
                | inr (is, held) ↦ inr (is ∙ sym now, held_after s.views id v w (ToTake (place n q p)) at (λ e. absurd (other (same_take (place n q p) (place n a b) (sym e ∙ holds)))) held)
              ]
            ]

            was_free : (p q i : ℕ) → p < n → q < n → put_of n took_words p q ≤ i → i < taken_of n s.words p q + 2 → slot n (place n p q) i ≢ next_slot
                → (get_elem? took_homes (slot n (place n p q) i) ≡ some (some None)) ⊎ ((i ≡ put_of n took_words p q) × IsHeld (set s.views id w) (ToPut (place n p q)))
            was_free p q i lp lq lo hi other = elim (h.free p q i lp lq (omega (arith, lo, puts p q lp lq)) hi) [
              | inl empty ↦ inl (set_else s.homes next_slot (slot n (place n p q) i) (some None) other ∙ empty)
              | inr (is, held) ↦ inr (is ∙ sym (puts p q lp lq), keeps_put p q held)
            ]

            again : slot n (place n b a) (next + 2) ≡ next_slot
            again = ap (λ r. r * (n * n) + place n b a) (add-mod_right next 2)

            within : (p q i : ℕ) → p ≡ b → q ≡ a → slot n (place n p q) i ≢ next_slot → taken_of n s.words p q ≡ next → i < next + 1 + 2 → i < taken_of n s.words p q + 2
            within p q i ep eq other t hi = elim (cases_eq i (next + 2)) [
              | inl last ↦ absurd (other ((λ j. slot n (place n (ep j) (eq j)) (last j)) ∙ again))
              | inr less ↦ omega (arith, hi, less, t)
            ]

            free : Free n took_words took_homes (set s.views id w)
            free p q i lp lq lo hi = elim (cases_eq (slot n (place n p q) i) next_slot) [
              | inl one ↦ inl (ap (get_elem? took_homes) one ∙ set_here s.homes next_slot (some None) (omega (arith, deep, slot_below n b a next lb la)))
              | inr other ↦ elim (took p q lp lq) [
                | inl (ep, eq, now) ↦
                    let t : taken_of n s.words p q ≡ next = λ j. taken_of n s.words (ep j) (eq j) in
                    was_free p q i lp lq lo (within p q i ep eq other t (omega (arith, hi, now))) other
                | inr (apart_from, now) ↦ was_free p q i lp lq lo (omega (arith, hi, now)) other
              ]
            ]

    -- one more seat
    pub split_slots : SlotsKept schedule right n setting record { words = s.words; homes = s.homes; views = set s.views id (splitting v) ++ newcomer v ∷ [] }
    split_slots = record {
      settings = more (λ u. u.setting ≡ setting) (h.settings id v at) (λ j u far e. h.settings j u e) (h.settings id v at);
      flying = λ p q i lp lq lo hi. elim (h.flying p q i lp lq lo hi) [
        | inl full ↦ inl full
        | inr (is, held) ↦ inr (is, keeps (ToTake (place n q p)) held)
      ];
      free = λ p q i lp lq lo hi. elim (h.free p q i lp lq lo hi) [
        | inl empty ↦ inl empty
        | inr (is, held) ↦ inr (is, keeps (ToPut (place n p q)) held)
      ];
      putting = more (Putting n s.words s.homes)
          (λ c d lc ld e. let p = h.putting id v at c d lc ld e in record { serves = p.serves; answered = p.answered; out = p.out })
          (λ j u far e. h.putting j u e) (λ c d lc ld e. absurd (idle_or_put (place n c d) e));
      taking = more (Taking n s.words s.homes)
          (λ c d lc ld e. let p = h.taking id v at c d lc ld e in record { serves = p.serves; found = p.found; out = p.out })
          (λ j u far e. h.taking j u e) (λ c d lc ld e. absurd (idle_or_take (place n c d) e));
    }
      where
        more : (P : View S → Type 0) → P (splitting v) → ((j : ℕ) (u : View S) → j ≢ id → get_elem? s.views j ≡ some u → P u) → P (newcomer v)
            → (j : ℕ) (u : View S) → get_elem? (set s.views id (splitting v) ++ newcomer v ∷ []) j ≡ some u → P u
        more P first others new j u e = elim (at_end (set s.views id (splitting v)) (newcomer v) u j e) [
          | inl before ↦ each_after P s.views id (splitting v) first others j u before
          | inr (last, is) ↦ subst P is new
        ]

        keeps : (hand : Hand) → IsHeld s.views hand → IsHeld (set s.views id (splitting v) ++ newcomer v ∷ []) hand
        keeps hand held = held_more (set s.views id (splitting v)) (newcomer v) hand (held_after s.views id v (splitting v) hand at (λ e. e) held)

    -- the seat stays idle
    pub idle_slots : (w : View S) → v.hand ≡ Empty → w.hand ≡ Empty → w.setting ≡ v.setting → SlotsKept schedule right n setting record { words = s.words; homes = s.homes; views = set s.views id w }
    idle_slots w idle hand same = slots_after n setting s h id v w s.words s.homes at same
        (λ c d lc ld e. absurd (idle_or_put (place n c d) (sym hand ∙ e))) (λ j u far e. h.putting j u e)
        (λ c d lc ld e. absurd (idle_or_take (place n c d) (sym hand ∙ e))) (λ j u far e. h.taking j u e)
        (λ p q i lp lq lo hi. elim (h.flying p q i lp lq lo hi) [
          | inl full ↦ inl full
          | inr (is, held) ↦ inr (is, held_after s.views id v w (ToTake (place n q p)) at (λ e. absurd (idle_or_take (place n q p) (sym idle ∙ e))) held)
        ])
        (λ p q i lp lq lo hi. elim (h.free p q i lp lq lo hi) [
          | inl empty ↦ inl empty
          | inr (is, held) ↦ inr (is, held_after s.views id v w (ToPut (place n p q)) at (λ e. absurd (idle_or_put (place n p q) (sym idle ∙ e))) held)
        ])

  -- lanes that no seat has used
  pub start_slots : (setting : S) (n seats : ℕ) → SlotsKept schedule right n setting record { words = replicate (word_count n) 0; homes = map some (replicate (slot_count n) None); views = opening setting n seats 0 1 ∷ [] }
  start_slots setting n seats = record {
    settings = λ j u e. ap (λ (x : View S). x.setting) (sym (only j u e));
    flying = λ p q i lp lq lo hi. let z = zero_at (word_count n) (place n p q) in absurd (omega (arith, hi, z));
    free = λ p q i lp lq lo hi. inl (vacant_at (slot_count n) (slot n (place n p q) i) (slot_below n p q i lp lq));
    putting = λ j u e a b la lb is. absurd (idle_or_put (place n a b) (ap (λ (x : View S). x.hand) (only j u e) ∙ is));
    taking = λ j u e a b la lb is. absurd (idle_or_take (place n a b) (ap (λ (x : View S). x.hand) (only j u e) ∙ is));
  }
    where
      first_view : View S
      first_view = opening setting n seats 0 1

      only : (j : ℕ) (u : View S) → get_elem? (first_view ∷ []) j ≡ some u → first_view ≡ u
      only zero u e = some-injective first_view u e
      only (suc j) u e = absurd (some-ne-none u (sym e))
