-- What a lane over a link comes to, whatever the link does.
use Rattle.std.proofs.Common.{◌≡◌, ◌∙◌, ℕ, zero, suc, ◌+◌, ◌<◌, ◌≤◌, Bool, true, false, eqb, List, [], ◌∷◌, ◌++◌, length, get_or, take, Option, Some, None, refl, sym, ap, subst, arith}
use Rattle.std.specs.Prelude.{slice_get, if◌then◌else◌}
use Rattle.std.specs.List.{AllByRecursion}
use Rattle.std.proofs.lemmas.Bool.{eqb-true}
use Rattle.std.proofs.lemmas.List.{take-append-le, take_more, length-append, length-take}
use Rattle.brace_wire.proofs.Known.{some_is}
use Rattle.brace_wire.proofs.StreamLemmas.{all_append}
use Rattle.brace_wire.specs.Net.{Carried, Lane, opening, Event, IsAllowed, carried, place_back, after_hand, after, Reaches, Happens, IsInOrder, IsKept}

-- what holds of all holds of the one at a place
pub all_at : {A : Type 0} (P : A → Type 0) (xs : List A) (i : ℕ) (x : A) → AllByRecursion P xs → slice_get xs i ≡ Some x → P x
all_at P [] i x h e = absurd cc
all_at P (y ∷ ys) zero x h e = subst P (some_is y x e) h.0
all_at P (y ∷ ys) (suc i) x h e = all_at P ys i x h.1 e

module _ {F : Type 0} where
  -- a frame carries the piece that was put at its place
  abbrev pub IsPut : List F → Carried F → Type 0
  IsPut puts c = slice_get puts c.ordinal ≡ Some c.piece

  pub record Sound (lane : Lane F) : Type 0 where
    pub in_order : IsInOrder lane
    pub sent : AllByRecursion (IsPut lane.puts) lane.sent
    pub taken : lane.taken ≤ length lane.received
    pub few : length lane.puts ≤ lane.taken + 2

  pub get_more : (xs : List F) (f : F) (i : ℕ) (x : F) → slice_get xs i ≡ Some x → slice_get (xs ++ f ∷ []) i ≡ Some x
  get_more [] f i x e = absurd cc
  get_more (y ∷ ys) f zero x e = e
  get_more (y ∷ ys) f (suc i) x e = get_more ys f i x e

  still_put : (puts : List F) (f : F) (sent : List (Carried F)) → AllByRecursion (IsPut puts) sent → AllByRecursion (IsPut (puts ++ f ∷ [])) sent
  still_put puts f [] h = tt
  still_put puts f (c ∷ sent) h = (get_more puts f c.ordinal c.piece h.0, still_put puts f sent h.1)

  pub there : (xs : List F) (n : ℕ) (x : F) → slice_get xs n ≡ Some x → n < length xs
  there [] n x e = absurd cc
  there (y ∷ ys) zero x e = omega arith
  there (y ∷ ys) (suc n) x e = let more = there ys n x e in omega arith

  read_there : (xs : List F) (n : ℕ) (x : F) → slice_get xs n ≡ Some x → get_or xs n x ≡ x
  read_there [] n x e = refl
  read_there (y ∷ ys) zero x e = cc
  read_there (y ∷ ys) (suc n) x e = read_there ys n x e

  pub within : (lane : Lane F) → IsInOrder lane → length lane.received ≤ length lane.puts
  within lane h = omega (arith, ap length h ∙ length-take (length lane.received) lane.puts)

  sound_put : (lane : Lane F) (f : F) → Sound lane → length lane.puts < lane.taken + 2 → Sound (after lane (Event.put f))
  sound_put lane f h lt = record {
    in_order = h.in_order ∙ sym (take-append-le (length lane.received) lane.puts (f ∷ []) (within lane h.in_order));
    sent = still_put lane.puts f lane.sent h.sent;
    taken = h.taken;
    few = omega (arith, length-append lane.puts (f ∷ []), lt);
  }

  carried_is : (puts : List F) (i : ℕ) (o : Option F) → slice_get puts i ≡ o → AllByRecursion (IsPut puts) (carried i o)
  carried_is puts i None e = tt
  carried_is puts i (Some f) e = (e, tt)

  sound_send : (lane : Lane F) (back : ℕ) → Sound lane → Sound (after lane (Event.send back))
  sound_send lane back h = record {
    in_order = h.in_order;
    sent = all_append (IsPut lane.puts) lane.sent (carried (place_back lane back) (slice_get lane.puts (place_back lane back))) h.sent
        (carried_is lane.puts (place_back lane back) (slice_get lane.puts (place_back lane back)) refl);
    taken = h.taken;
    few = h.few;
  }

  received_more : (lane : Lane F) (c : Carried F) → Sound lane → IsPut lane.puts c → c.ordinal ≡ length lane.received → Sound (record lane { received = lane.received ++ c.piece ∷ [] })
  received_more lane c h put at =
      let n = length lane.received in
      let next : slice_get lane.puts n ≡ Some c.piece = ap (slice_get lane.puts) (sym at) ∙ put in
      let long : length (lane.received ++ c.piece ∷ []) ≡ n + 1 = length-append lane.received (c.piece ∷ []) in
      let more : take (n + 1) lane.puts ≡ take n lane.puts ++ get_or lane.puts n c.piece ∷ [] = take_more lane.puts n c.piece (there lane.puts n c.piece next) in
      record {
        in_order =
            ap (λ (l : List F). l ++ c.piece ∷ []) h.in_order
            ∙ (ap (λ (x : F). take n lane.puts ++ x ∷ []) (sym (read_there lane.puts n c.piece next)) ∙ (sym more ∙ ap (λ (k : ℕ). take k lane.puts) (sym long)));
        sent = h.sent;
        taken = omega (arith, h.taken, long);
        few = h.few;
      }

  by_test : (lane : Lane F) (c : Carried F) (b : Bool) → Sound lane → IsPut lane.puts c → eqb c.ordinal (length lane.received) ≡ b
      → Sound (if b then record lane { received = lane.received ++ c.piece ∷ [] } else lane)
  by_test lane c true h put e = received_more lane c h put (eqb-true _ _ e)
  by_test lane c false h put e = h

  sound_hand : (lane : Lane F) (i : ℕ) (o : Option (Carried F)) → Sound lane → slice_get lane.sent i ≡ o → Sound (after_hand lane o)
  sound_hand lane i None h e = h
  sound_hand lane i (Some c) h e = by_test lane c (eqb c.ordinal (length lane.received)) h (all_at (IsPut lane.puts) lane.sent i c h.sent e) refl

  sound_take : (lane : Lane F) → Sound lane → lane.taken < length lane.received → Sound (after lane Event.take_next)
  sound_take lane h lt = record { in_order = h.in_order; sent = h.sent; taken = omega (arith, lt); few = omega (arith, h.few) }

  sound_after : (lane : Lane F) (e : Event F) → Sound lane → IsAllowed lane e → Sound (after lane e)
  sound_after lane _ h (IsAllowed.put f lt) = sound_put lane f h lt
  sound_after lane _ h (IsAllowed.send back near there') = sound_send lane back h
  sound_after lane _ h (IsAllowed.hand i within') = sound_hand lane i (slice_get lane.sent i) h refl
  sound_after lane _ h (IsAllowed.take_next lt) = sound_take lane h lt

  pub sound_later : (lane later : Lane F) → Sound lane → Reaches lane later → Sound later
  sound_later lane _ h Reaches.begin = h
  sound_later lane _ h (Reaches.next later e before allowed) = sound_after later e (sound_later lane later h before) allowed

  pub sound : (lane : Lane F) → Happens lane → Sound lane
  sound lane happens = sound_later opening lane (record { in_order = refl; sent = tt; taken = omega arith; few = omega arith }) happens

  pub kept : (lane : Lane F) → Happens lane → IsKept lane
  kept lane h = let s = sound lane h in omega (arith, s.taken, s.few)
