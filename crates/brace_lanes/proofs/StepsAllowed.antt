-- Each step is allowed by the whole rule, and tells its seat what it should.
use Rattle.std.proofs.Common.{◌≡◌, ◌≢◌, ◌<◌, ◌+◌, ◌*◌, ◌-◌, ◌∙◌, ℕ, List, [], ◌∷◌, set, replicate, refl, sym, ap, subst, inl, inr, arith}
use Rattle.std.specs.Prelude.{◌==◌, Option as opt, None, Some, slice_index, slice_set}
use Rattle.std.proofs.lemmas.Bool.{cases_eq, eq-eqb, ne_eqb, cond-true, cond-false}
use Rattle.std.proofs.lemmas.List.{set-get_or}
use mathlib.Core.Option.{Option, some, none}
use lib.ListN.{get_elem?}
use Rattle.atomic_table.specs.Table.{Me, State, step, keeps, takes, gives, put_back, rest, Allows, Splits, opening as opened}
use Rattle.brace_core.specs.declared.name.Name.{Name}
use Rattle.brace_core.specs.Schedule.{Schedule}
use Rattle.brace_lanes.specs.declared.table.View.{View}
use Rattle.brace_lanes.specs.declared.table.Hand.TheVariants.{Empty, ToPut, ToTake}
use Rattle.brace_lanes.specs.Places.{place, opposite, slot, slot_count, word_count, put_of, taken_of}
use Rattle.brace_lanes.specs.Views.{Serves, opening, raised, looked, claimed, has_put, has_taken, splitting, newcomer}
use Rattle.brace_lanes.specs.Rule.{KeptAmong, IsRightAt, SlotsKept, IsKept}
use Rattle.brace_lanes.specs.inner.Steps.{LooksAt, ClaimsAt, IsCarried, Looks, Claims, StoresPut, StoresTaken}
use Rattle.brace_lanes.proofs.PlaceLemmas.{opposite_is, past_square}
use Rattle.brace_lanes.proofs.StepsKept.{kept_at, kept_looked, look_low, kept_claimed, claim_level, kept_put, kept_taken, kept_split, kept_start}
use Rattle.brace_lanes.proofs.SlotsKept.{look_slots, claim_slots, put_slots, take_slots, split_slots, idle_slots, start_slots}

module _ {S : Type 0} where
  abbrev pub missing : View S → ℕ → ℕ → View S
  missing v at x = record v { seen = slice_set v.seen at x; misses = raised v.misses at }

  abbrev pub finding : View S → ℕ → ℕ → View S
  finding v at x = record v { seen = slice_set v.seen at x; hand = ToTake at }

  pub is_missing : (v : View S) (at x : ℕ) → x ≡ slice_index v.taken at → looked v at x ≡ missing v at x
  is_missing v at x e = cond-true (x == slice_index v.taken at) (missing v at x) (finding v at x) (eq-eqb x (slice_index v.taken at) e)

  pub is_finding : (v : View S) (at x : ℕ) → x ≢ slice_index v.taken at → looked v at x ≡ finding v at x
  is_finding v at x e = cond-false (x == slice_index v.taken at) (missing v at x) (finding v at x) (ne_eqb x (slice_index v.taken at) e)

module _ {F S : Type 0} (schedule : S → Schedule) (right : S → Name → F → Type 0) where
  abbrev Rule : State (opt F) (View S) → Type 0
  Rule = IsKept schedule right

  -- a load leaves the words as they were
  loaded : (s : State (opt F) (View S)) (i : ℕ) (homes : List (Option (opt F))) (views : List (View S)) → Rule record { words = s.words; homes = homes; views = views }
      → Rule record { words = slice_set s.words i (slice_index s.words i); homes = homes; views = views }
  loaded s i homes views = subst (λ (ws : List ℕ). Rule record { words = ws; homes = homes; views = views }) (sym (set-get_or s.words i 0))

  slots_at : (n m seats made : ℕ) (setting : S) (s : State (opt F) (View S)) → KeptAmong m seats made s → SlotsKept schedule right m setting s → (id : ℕ) (v : View S) → get_elem? s.views id ≡ some v → v.actors ≡ n → SlotsKept schedule right n setting s
  slots_at n m seats made setting s k h id v at among = subst (λ (j : ℕ). SlotsKept schedule right j setting s) (sym ((k.each id v at).among) ∙ among) h

  -- a look at the put word of the lane from b to a
  pub looks : (slots id : ℕ) (me : Me (opt F) (View S)) (n a b : ℕ) → me.0.actors ≡ n → a < n → b < n → Serves me.0 a → me.0.hand ≡ Empty
      → Allows Rule slots id me (place n b a) (λ m. m) (Looks schedule right (step slots (place n b a) 0 0 none) me)
  looks slots id me n a b among la lb serves idle s (m, seats, made, setting, kept, held) deep at small =
      let v : View S = me.0 in
      let k = kept_at n m seats made s kept id v at among in
      let h = slots_at n m seats made setting s kept held id v at among in
      let x : ℕ = put_of n s.words b a in
      let lane : ℕ = place n b a in
      let place_at : ℕ = place n a b in
      let t : ℕ = slice_index v.taken place_at in
      let w : View S = looked v place_at x in
      let (same, low) = look_low n seats made s k id v a b at la lb serves in
      let here : opposite v.actors lane ≡ place_at = ap (λ j. opposite j lane) among ∙ opposite_is n a b la lb in
      let told : (after : Me (opt F) (View S)) → LooksAt schedule right n lane place_at me x after → Looks schedule right (step slots lane 0 0 none) me x after =
      λ after. subst (λ (z : ℕ × ℕ). LooksAt schedule right z.0 lane z.1 me x after) (λ i. (sym among i, sym here i)) in
      elim (cases_eq x t) [
        | inl level ↦
            let now : w ≡ missing v place_at x = is_missing v place_at x level in (
              w,
              keeps,
              tt,
              loaded s lane s.homes (set s.views id w)
                  (n, seats, made, setting, kept_looked n seats made s k id v s.homes a b at la lb, idle_slots schedule right n seats made setting s k h id v at w idle (ap (λ (u : View S). u.hand) now ∙ idle) (ap (λ (u : View S). u.setting) now)),
              told (w, me.1) record { low = low; missed = λ e. refl; found = λ l. absurd (omega (arith, l, level)) },
            )
        | inr apart ↦
            let now : w ≡ finding v place_at x = is_finding v place_at x apart in
            let more : taken_of n s.words b a < x = omega (arith, low, apart, same) in
            let (y, home, fits, slots_kept) = look_slots schedule right n seats made setting s k h id v at a b la lb serves idle more w (ap (λ (u : View S). u.hand) now) (ap (λ (u : View S). u.setting) now) (subst (λ (u : View S). Serves u a) (sym now) serves) in (
              w,
              takes (slot n lane (taken_of n s.words b a)) (Some y),
              home,
              loaded s lane (set s.homes (slot n lane (taken_of n s.words b a)) none) (set s.views id w)
                  (n, seats, made, setting, kept_looked n seats made s k id v (set s.homes (slot n lane (taken_of n s.words b a)) none) a b at la lb, slots_kept),
              told (w, (slot n lane (taken_of n s.words b a), Some y) ∷ me.1) record {
                low = low;
                missed = λ e. absurd (apart e);
                found = λ l. (
                  y,
                  ap (λ j. (w, (slot n lane j, Some y) ∷ me.1)) (sym same),
                  subst (λ (z : S × ℕ). IsRightAt schedule right z.0 n lane z.1 y) (λ i. (sym (h.settings id v at) i, sym same i)) fits,
                );
              },
            )
      ]

  -- a claim at the taken word of the lane from a to b
  pub claims : (slots id : ℕ) (me : Me (opt F) (View S)) (n a b : ℕ) → me.0.actors ≡ n → a < n → b < n → Serves me.0 a → me.0.hand ≡ Empty → slice_index me.0.put (place n a b) ≡ slice_index me.0.taken (place n a b)
      → Allows Rule slots id me (n * n + place n b a) (λ m. m) (Claims (step slots (n * n + place n b a) 0 0 none) me)
  claims slots id me n a b among la lb serves idle level s (m, seats, made, setting, kept, held) deep at small =
      let v : View S = me.0 in
      let k = kept_at n m seats made s kept id v at among in
      let h = slots_at n m seats made setting s kept held id v at among in
      let x : ℕ = taken_of n s.words a b in
      let out : ℕ = put_of n s.words a b in
      let word : ℕ = n * n + place n b a in
      let place_at : ℕ = place n a b in
      let w : View S = claimed v place_at in
      let l = claim_level n seats made s k id v a b at la lb serves level in
      let here : opposite v.actors (word - v.actors * v.actors) ≡ place_at = ap (λ j. opposite j (word - j * j)) among ∙ ap (opposite n) (past_square n b a) ∙ opposite_is n a b la lb in
      let (empty, slots_kept) = claim_slots schedule right n seats made setting s k h id v at a b la lb serves idle (let hi = l.high in omega (arith, hi)) (let p = l.put in let t = (look_low n seats made s k id v a b at la lb serves).0 in omega (arith, p, t, level)) w refl refl serves in
      let homes : List (Option (opt F)) = set s.homes (slot n place_at out) none in (
        w,
        takes (slot n place_at out) None,
        empty,
        loaded s word homes (set s.views id w) (n, seats, made, setting, kept_claimed n seats made s k id v homes place_at at, slots_kept),
        subst (λ (z : ℕ × ℕ). ClaimsAt z.0 z.1 me x (w, (slot n place_at out, None) ∷ me.1)) (λ i. (sym among i, sym here i)) record {
          low = let lo = l.low in let p = l.put in omega (arith, lo, p);
          high = let hi = l.high in let p = l.put in omega (arith, hi, p);
          claimed = ap (λ j. (w, (slot n place_at j, None) ∷ me.1)) (sym l.put);
        },
      )

  -- a store of the put word of the lane from a to b
  pub puts : (slots id : ℕ) (me : Me (opt F) (View S)) (n a b count : ℕ) → slots ≡ slot_count n → me.0.actors ≡ n → a < n → b < n → Serves me.0 a → me.0.hand ≡ ToPut (place n a b)
      → slice_index me.0.put (place n a b) ≡ count → slice_index me.0.taken (place n a b) ≡ count → IsCarried schedule right n (place n a b) count me
      → Allows Rule slots id me (place n a b) (λ _. count + 1) (λ _. StoresPut (step slots (place n a b) (count + 1) 0 none) me (count + 1))
  puts slots id me n a b count many among la lb serves holds was level (x, carry, fits) s (m, seats, made, setting, kept, held) deep at small =
      let v : View S = me.0 in
      let k = kept_at n m seats made s kept id v at among in
      let h = slots_at n m seats made setting s kept held id v at among in
      let place_at : ℕ = place n a b in
      let w : View S = has_put v place_at in
      let out : ℕ = put_of n s.words a b in
      let l = claim_level n seats made s k id v a b at la lb serves (was ∙ sym level) in
      let now : out ≡ count = sym l.put ∙ was in
      let mine : IsRightAt schedule right setting n place_at out x = subst (λ (z : S × ℕ). IsRightAt schedule right z.0 n place_at z.1 x) (λ i. (h.settings id v at i, sym now i)) fits in
      let all = put_slots schedule right n seats made setting s k h id v at a b la lb serves holds (deep ∙ many) (let hi = l.high in omega (arith, hi)) x mine w refl refl in
      let slots_kept = subst (λ (z : ℕ × List (ℕ × opt F)). SlotsKept schedule right n setting record { words = slice_set s.words place_at (z.0 + 1); homes = put_back s.homes z.1; views = set s.views id w })
      (λ i. (now i, (ap (λ (j : ℕ). (slot n place_at j, Some x) ∷ []) now ∙ sym carry) i)) all in (
        w,
        gives,
        tt,
        (n, seats, made, setting, kept_put n seats made s k id v (put_back s.homes me.1) a b count at la lb serves was level, slots_kept),
        refl,
      )

  -- a store of the taken word of the lane from b to a
  pub takes_one : (slots id : ℕ) (me : Me (opt F) (View S)) (n a b count : ℕ) → slots ≡ slot_count n → me.0.actors ≡ n → a < n → b < n → Serves me.0 a → me.0.hand ≡ ToTake (place n a b)
      → slice_index me.0.taken (place n a b) ≡ count → count < slice_index me.0.seen (place n a b) → me.1 ≡ (slot n (place n b a) count, None) ∷ []
      → Allows Rule slots id me (n * n + place n a b) (λ _. count + 1) (λ _. StoresTaken (step slots (n * n + place n a b) (count + 1) 0 none) me (count + 1))
  takes_one slots id me n a b count many among la lb serves holds was saw carry s (m, seats, made, setting, kept, held) deep at small =
      let v : View S = me.0 in
      let k = kept_at n m seats made s kept id v at among in
      let h = slots_at n m seats made setting s kept held id v at among in
      let place_at : ℕ = place n a b in
      let w : View S = has_taken v place_at in
      let next : ℕ = taken_of n s.words b a in
      let now : next ≡ count = sym ((look_low n seats made s k id v a b at la lb serves).0) ∙ was in
      let all = take_slots schedule right n seats made setting s k h id v at a b la lb serves holds (deep ∙ many) w refl refl in
      let slots_kept = subst (λ (z : ℕ × List (ℕ × opt F)). SlotsKept schedule right n setting record { words = slice_set s.words (n * n + place_at) (z.0 + 1); homes = put_back s.homes z.1; views = set s.views id w })
      (λ i. (now i, (ap (λ (j : ℕ). (slot n (place n b a) j, None) ∷ []) now ∙ sym carry) i)) all in
      let at_word : place_at ≡ (n * n + place_at) - v.actors * v.actors = sym (ap (λ j. (n * n + place_at) - j * j) among ∙ past_square n a b) in (
        w,
        gives,
        tt,
        (n, seats, made, setting, kept_taken n seats made s k id v (put_back s.homes me.1) a b count at la lb serves was saw, slots_kept),
        ap (λ j. (has_taken v j, rest me.1)) at_word,
      )

  -- the first seat makes one more
  pub splits : (id : ℕ) (v : View S) → v.number ≡ 0 → Splits Rule id v (splitting v) (newcomer v)
  splits id v first s (n, seats, made, setting, k, h) at =
      (n, seats, made + 1, setting, kept_split n seats made s k id v at first, split_slots schedule right n seats made setting s k h id v at)

  -- lanes that no seat has used, and the first seat
  pub starts : (setting : S) (n seats : ℕ) → Rule (opened (replicate (word_count n) 0) (replicate (slot_count n) None) (opening setting n seats 0 1))
  starts setting n seats = (n, seats, 1, setting, kept_start setting n seats _, start_slots schedule right setting n seats)
