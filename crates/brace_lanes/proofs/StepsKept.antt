-- Each step keeps the rule.
use Rattle.std.proofs.Common.{◌≡◌, ◌≢◌, ◌≤◌, ◌<◌, ◌+◌, ◌*◌, ◌%◌, ◌∙◌, ℕ, zero, suc, Bool, true, false, List, [], ◌∷◌, ◌++◌, cond, length, set, replicate, refl, sym, ap, subst, inl, inr, arith, length-set}
use Rattle.std.specs.Prelude.{slice_index, slice_set, ◌==◌}
use Rattle.std.proofs.lemmas.List.{get_or-set_other, get_or-set_same}
use mathlib.Core.Option.{some, some-injective, some-ne-none}
use mathlib.Core.Option as maybe
use Rattle.brace_lanes.specs.declared.table.Hand.{Hand}
use Rattle.brace_lanes.specs.declared.table.Hand.TheVariants.{ToPut, ToTake}
use lib.ListN.{get_elem?, length-replicate}
use Rattle.atomic_table.specs.Table.{State, step, keeps}
use Rattle.brace_lanes.specs.declared.table.View.{View}
use Rattle.brace_lanes.specs.Places.{place, opposite, word_count, put_of, taken_of}
use Rattle.brace_lanes.specs.Views.{Serves, opening, raised, looked, claimed, has_put, has_taken, splitting, newcomer}
use Rattle.brace_lanes.specs.Rule.{Fits, KeptAmong}
use Rattle.brace_lanes.proofs.PlaceLemmas.{place_below, words_below, apart, same_place, put_here, put_else, put_takes, taken_here, taken_else, taken_puts}
use Rattle.brace_lanes.proofs.ViewLists.{each_after, alone_after, alone_more, at_end}

pub zero_at : (m i : ℕ) → slice_index (replicate m 0) i ≡ 0
zero_at zero i = refl
zero_at (suc m) zero = refl
zero_at (suc m) (suc i) = zero_at m i

-- a number for each place, after that of one place became x
pub set_each : (n : ℕ) (l : List ℕ) (P : ℕ → ℕ → ℕ → Type 0) (a b x : ℕ) → b < n → place n a b < length l → P a b x → ((c d : ℕ) → c < n → d < n → place n c d ≢ place n a b → P c d (slice_index l (place n c d)))
    → (c d : ℕ) → c < n → d < n → P c d (slice_index (slice_set l (place n a b) x) (place n c d))
set_each n l P a b x lb inside here else c d lc ld = elim (same_place n c d a b ld lb) [
  | inl (ea, eb) ↦ subst (λ (t : ℕ × ℕ). P t.0 t.1 (slice_index (slice_set l (place n a b) x) (place n t.0 t.1))) (λ j. (sym ea j, sym eb j)) (subst (P a b) (sym (get_or-set_same l (place n a b) x 0 inside)) here)
  | inr other ↦ subst (P c d) (sym (get_or-set_other l (place n a b) (place n c d) x 0 other)) (else c d lc ld other)
]

module _ {S : Type 0} where
  seen_after : (n seats made : ℕ) (words : List ℕ) (v : View S) (a b : ℕ) → Fits n seats made words v → a < n → b < n
      → (c d : ℕ) → c < n → d < n → Serves v c → slice_index (slice_set v.seen (place n a b) (put_of n words b a)) (place n c d) ≤ put_of n words d c
  seen_after n seats made words v a b f la lb = set_each n v.seen (λ c d y. Serves v c → y ≤ put_of n words d c) a b (put_of n words b a) lb (omega (arith, f.square_seen, place_below n a b la lb)) (λ serves. omega arith) (λ c d lc ld other serves. f.seen c d lc ld serves)

  fits_looked : (n seats made : ℕ) (words : List ℕ) (v : View S) (a b : ℕ) → Fits n seats made words v → a < n → b < n → (hit : Bool)
      → Fits n seats made words (cond hit (record v { seen = slice_set v.seen (place n a b) (put_of n words b a); misses = raised v.misses (place n a b) })
      (record v { seen = slice_set v.seen (place n a b) (put_of n words b a); hand = ToTake (place n a b) }))
  fits_looked n seats made words v a b f la lb true = record {
    among = f.among;
    of_seats = f.of_seats;
    square_put = f.square_put;
    square_taken = f.square_taken;
    square_seen = length-set v.seen (place n a b) (put_of n words b a) ∙ f.square_seen;
    square_misses = length-set v.misses (place n a b) (slice_index v.misses (place n a b) + 1) ∙ f.square_misses;
    below = f.below;
    first = f.first;
    put = f.put;
    taken = f.taken;
    seen = seen_after n seats made words v a b f la lb;
  }
  fits_looked n seats made words v a b f la lb false = record {
    among = f.among;
    of_seats = f.of_seats;
    square_put = f.square_put;
    square_taken = f.square_taken;
    square_seen = length-set v.seen (place n a b) (put_of n words b a) ∙ f.square_seen;
    square_misses = f.square_misses;
    below = f.below;
    first = f.first;
    put = f.put;
    taken = f.taken;
    seen = seen_after n seats made words v a b f la lb;
  }

  -- a view that keeps its counts fits, where they are so of other words
  refits : (n seats made many : ℕ) (words later : List ℕ) (v : View S) (m : ℕ) (hand : Hand) → Fits n seats made words v → v.number < many → (v.number ≡ 0 → m ≡ many)
      → ((a b : ℕ) → a < n → b < n → Serves v a → slice_index v.put (place n a b) ≡ put_of n later a b)
      → ((a b : ℕ) → a < n → b < n → Serves v a → slice_index v.taken (place n a b) ≡ taken_of n later b a)
      → ((a b : ℕ) → a < n → b < n → Serves v a → slice_index v.seen (place n a b) ≤ put_of n later b a)
      → Fits n seats many later (record v { made = m; hand = hand })
  refits n seats made many words later v m hand f below first put taken seen = record {
    among = f.among;
    of_seats = f.of_seats;
    square_put = f.square_put;
    square_taken = f.square_taken;
    square_seen = f.square_seen;
    square_misses = f.square_misses;
    below = below;
    first = first;
    put = put;
    taken = taken;
    seen = seen;
  }

  number_looked : (v : View S) (at n : ℕ) → (looked v at n).number ≡ v.number
  number_looked v at n = elim (n == slice_index v.taken at) as (λ hit. (cond hit (record v { seen = slice_set v.seen at n; misses = raised v.misses at }) (record v { seen = slice_set v.seen at n; hand = ToTake at })).number ≡ v.number) [
    | true ↦ refl
    | false ↦ refl
  ]

  apart_unless : (n seats made a b : ℕ) (words : List ℕ) (v : View S) → Fits n seats made words v → Serves v a → b < n → (c d : ℕ) → d < n → c % seats ≢ v.number → place n c d ≢ place n a b
  apart_unless n seats made a b words v f serves lb c d ld far e = far (ap (λ j. j % seats) ((apart n c d a b ld lb e).0) ∙ ap (λ j. a % j) (sym f.of_seats) ∙ serves)

  -- what a claim finds
  pub record IsLevel (n : ℕ) (words : List ℕ) (v : View S) (a b : ℕ) : Type 0 where
    pub put : slice_index v.put (place n a b) ≡ put_of n words a b
    pub low : taken_of n words a b ≤ put_of n words a b
    pub high : put_of n words a b ≤ taken_of n words a b + 1

module _ {X S : Type 0} where
  -- the rule after the seat of v wrote only words that it alone writes, and no put word became less
  kept_after : (n seats made : ℕ) (s : State X (View S)) (k : KeptAmong n seats made s) (id : ℕ) (v w : View S) (words : List ℕ) (homes : List (maybe.Option X)) → get_elem? s.views id ≡ some v → length words ≡ length s.words
      → w.number ≡ v.number → Fits n seats made words w
      → ((p q : ℕ) → p < n → q < n → taken_of n words p q ≤ put_of n words p q)
      → ((p q : ℕ) → p < n → q < n → put_of n words p q ≤ taken_of n words q p + 1)
      → ((p q : ℕ) → p < n → q < n → put_of n s.words p q ≤ put_of n words p q)
      → ((a b : ℕ) → a < n → b < n → a % seats ≢ v.number → (put_of n words a b ≡ put_of n s.words a b) × (taken_of n words b a ≡ taken_of n s.words b a))
      → KeptAmong n seats made record { words = words; homes = homes; views = set s.views id w }
  kept_after n seats made s k id v w words homes at wide same mine in_order answered grows others = record {
    size = wide ∙ k.size;
    in_order = in_order;
    answered = answered;
    each = each_after (Fits n seats made words) s.views id w mine (λ j u far e. still j u far e);
    alone = alone_after s.views id v w at same k.alone;
    not_made = λ a b la lb late.
        let new = others a b la lb (λ e. omega (arith, late, e, (k.each id v at).below)) in
        let old = k.not_made a b la lb late in
        (new.0 ∙ old.0, new.1 ∙ old.1);
  }
    where
      still : (j : ℕ) (u : View S) → j ≢ id → get_elem? s.views j ≡ some u → Fits n seats made words u
      still j u far e =
          let f = k.each j u e in
          let other : (a : ℕ) → Serves u a → a % seats ≢ v.number = λ a serves hit. far (k.alone j id u v e at (sym serves ∙ ap (λ m. a % m) f.of_seats ∙ hit)) in
          refits n seats made made s.words words u u.made u.hand f f.below f.first
          (λ a b la lb serves. f.put a b la lb serves ∙ sym ((others a b la lb (other a serves)).0))
          (λ a b la lb serves. f.taken a b la lb serves ∙ sym ((others a b la lb (other a serves)).1))
          (λ a b la lb serves. let x = f.seen a b la lb serves in let y = grows b a lb la in omega (arith, x, y))

  -- the same where no word changed
  kept_same : (n seats made : ℕ) (s : State X (View S)) (k : KeptAmong n seats made s) (id : ℕ) (v w : View S) (homes : List (maybe.Option X)) → get_elem? s.views id ≡ some v → w.number ≡ v.number → Fits n seats made s.words w
      → KeptAmong n seats made record { words = s.words; homes = homes; views = set s.views id w }
  kept_same n seats made s k id v w homes at same mine =
      kept_after n seats made s k id v w s.words homes at refl same mine k.in_order k.answered (λ p q lp lq. omega arith) (λ a b la lb far. (refl, refl))

  -- the rule, among as many actors as the seat knows of
  pub kept_at : (n m seats made : ℕ) (s : State X (View S)) (k : KeptAmong m seats made s) (id : ℕ) (v : View S) → get_elem? s.views id ≡ some v → v.actors ≡ n → KeptAmong n seats made s
  kept_at n m seats made s k id v at among = subst (λ (j : ℕ). KeptAmong j seats made s) (sym ((k.each id v at).among) ∙ among) k

  -- a look at the put word of the lane from b to a
  pub kept_looked : (n seats made : ℕ) (s : State X (View S)) (k : KeptAmong n seats made s) (id : ℕ) (v : View S) (homes : List (maybe.Option X)) (a b : ℕ) → get_elem? s.views id ≡ some v → a < n → b < n
      → KeptAmong n seats made record { words = s.words; homes = homes; views = set s.views id (looked v (place n a b) (put_of n s.words b a)) }
  kept_looked n seats made s k id v homes a b at la lb =
      let x : ℕ = put_of n s.words b a in
      kept_same n seats made s k id v (looked v (place n a b) x) homes at (number_looked v (place n a b) x) (fits_looked n seats made s.words v a b (k.each id v at) la lb (x == slice_index v.taken (place n a b)))

  pub look_low : (n seats made : ℕ) (s : State X (View S)) (k : KeptAmong n seats made s) (id : ℕ) (v : View S) (a b : ℕ) → get_elem? s.views id ≡ some v → a < n → b < n → Serves v a
      → (slice_index v.taken (place n a b) ≡ taken_of n s.words b a) × (slice_index v.taken (place n a b) ≤ put_of n s.words b a)
  look_low n seats made s k id v a b at la lb serves = let c = (k.each id v at).taken a b la lb serves in let o = k.in_order b a lb la in (c, omega (arith, c, o))

  -- a claim at the taken word of the lane from a to b
  pub kept_claimed : (n seats made : ℕ) (s : State X (View S)) (k : KeptAmong n seats made s) (id : ℕ) (v : View S) (homes : List (maybe.Option X)) (at_lane : ℕ) → get_elem? s.views id ≡ some v
      → KeptAmong n seats made record { words = s.words; homes = homes; views = set s.views id (claimed v at_lane) }
  kept_claimed n seats made s k id v homes at_lane at =
      let f = k.each id v at in
      kept_same n seats made s k id v (claimed v at_lane) homes at refl
      (refits n seats made made s.words s.words v v.made (ToPut at_lane) f f.below f.first f.put f.taken f.seen)

  pub claim_level : (n seats made : ℕ) (s : State X (View S)) (k : KeptAmong n seats made s) (id : ℕ) (v : View S) (a b : ℕ) → get_elem? s.views id ≡ some v → a < n → b < n → Serves v a → slice_index v.put (place n a b) ≡ slice_index v.taken (place n a b)
      → IsLevel n s.words v a b
  claim_level n seats made s k id v a b at la lb serves level =
      let f = k.each id v at in
      let put = f.put a b la lb serves in
      let taken = f.taken a b la lb serves in
      let o = k.in_order b a lb la in
      let p = k.answered b a lb la in
      record { put = put; low = k.in_order a b la lb; high = omega (arith, level, put, taken, o, p) }

  -- a store of the put word of the lane from a to b
  pub kept_put : (n seats made : ℕ) (s : State X (View S)) (k : KeptAmong n seats made s) (id : ℕ) (v : View S) (homes : List (maybe.Option X)) (a b count : ℕ) → get_elem? s.views id ≡ some v → a < n → b < n → Serves v a
      → slice_index v.put (place n a b) ≡ count → slice_index v.taken (place n a b) ≡ count
      → KeptAmong n seats made record { words = slice_set s.words (place n a b) (count + 1); homes = homes; views = set s.views id (has_put v (place n a b)) }
  kept_put n seats made s k id v homes a b count at la lb serves was level =
      let f = k.each id v at in
      let x : ℕ = count + 1 in
      let words : List ℕ = slice_set s.words (place n a b) x in
      let inside : place n a b < length s.words = omega (arith, k.size, (words_below n a b la lb).0) in
      let now : count ≡ put_of n s.words a b = sym was ∙ f.put a b la lb serves in
      let other : (c d : ℕ) → taken_of n words c d ≡ taken_of n s.words c d = put_takes n s.words k.size a b x la lb in
      let else : (c d : ℕ) → place n c d ≢ place n a b → put_of n words c d ≡ put_of n s.words c d = put_else n s.words k.size a b x la lb in
      let here : put_of n words a b ≡ x = put_here n s.words k.size a b x la lb in
      let grows : (p q : ℕ) → p < n → q < n → put_of n s.words p q ≤ put_of n words p q = set_each n s.words (λ c d y. put_of n s.words c d ≤ y) a b x lb inside (omega (arith, now)) (λ c d lc ld o. omega arith) in
      let in_order : (p q : ℕ) → p < n → q < n → taken_of n words p q ≤ put_of n words p q =
      λ p q lp lq. let g = grows p q lp lq in let o = k.in_order p q lp lq in omega (arith, g, o, other p q) in
      let answered : (p q : ℕ) → p < n → q < n → put_of n words p q ≤ taken_of n words q p + 1 = set_each n s.words (λ c d y. y ≤ taken_of n words d c + 1) a b x lb inside
      (let t = f.taken a b la lb serves in omega (arith, t, level, other b a)) (λ c d lc ld o. let w = k.answered c d lc ld in omega (arith, w, other d c)) in
      let fits : Fits n seats made words (has_put v (place n a b)) = record {
        among = f.among;
        of_seats = f.of_seats;
        square_put = length-set v.put (place n a b) (slice_index v.put (place n a b) + 1) ∙ f.square_put;
        square_taken = f.square_taken;
        square_seen = f.square_seen;
        square_misses = f.square_misses;
        below = f.below;
        first = f.first;
        put = set_each n v.put (λ c d y. Serves v c → y ≡ put_of n words c d) a b (slice_index v.put (place n a b) + 1) lb (omega (arith, f.square_put, place_below n a b la lb))
            (λ is. ap (λ j. j + 1) was ∙ sym here) (λ c d lc ld o is. f.put c d lc ld is ∙ sym (else c d o));
        taken = λ c d lc ld is. f.taken c d lc ld is ∙ sym (other d c);
        seen = λ c d lc ld is. let y = f.seen c d lc ld is in let g = grows d c ld lc in omega (arith, y, g);
      } in
      kept_after n seats made s k id v (has_put v (place n a b)) words homes at (length-set s.words (place n a b) x) refl fits in_order answered grows
      (λ c d lc ld far. (else c d (apart_unless n seats made a b s.words v f serves lb c d ld far), other d c))

  -- a store of the taken word of the lane from b to a
  pub kept_taken : (n seats made : ℕ) (s : State X (View S)) (k : KeptAmong n seats made s) (id : ℕ) (v : View S) (homes : List (maybe.Option X)) (a b count : ℕ) → get_elem? s.views id ≡ some v → a < n → b < n → Serves v a
      → slice_index v.taken (place n a b) ≡ count → count < slice_index v.seen (place n a b)
      → KeptAmong n seats made record { words = slice_set s.words (n * n + place n a b) (count + 1); homes = homes; views = set s.views id (has_taken v (place n a b)) }
  kept_taken n seats made s k id v homes a b count at la lb serves was saw =
      let f = k.each id v at in
      let x : ℕ = count + 1 in
      let words : List ℕ = slice_set s.words (n * n + place n a b) x in
      let now : count ≡ taken_of n s.words b a = sym was ∙ f.taken a b la lb serves in
      let other : (c d : ℕ) → c < n → d < n → put_of n words c d ≡ put_of n s.words c d = taken_puts n s.words k.size a b x la lb in
      let else : (c d : ℕ) → place n d c ≢ place n a b → taken_of n words c d ≡ taken_of n s.words c d = taken_else n s.words k.size a b x la lb in
      let here : taken_of n words b a ≡ x = taken_here n s.words k.size a b x la lb in
      let each : (P : ℕ → ℕ → ℕ → Type 0) → P a b x → ((c d : ℕ) → c < n → d < n → place n c d ≢ place n a b → P c d (taken_of n s.words d c)) → (c d : ℕ) → c < n → d < n → P c d (taken_of n words d c) =
      λ P mine rest c d lc ld. elim (same_place n c d a b ld lb) [
        | inl (ea, eb) ↦ subst (λ (t : ℕ × ℕ). P t.0 t.1 (taken_of n words t.1 t.0)) (λ j. (sym ea j, sym eb j)) (subst (P a b) (sym here) mine)
        | inr o ↦ subst (P c d) (sym (else d c o)) (rest c d lc ld o)
      ] in
      let fits : Fits n seats made words (has_taken v (place n a b)) = record {
        among = f.among;
        of_seats = f.of_seats;
        square_put = f.square_put;
        square_taken = length-set v.taken (place n a b) (slice_index v.taken (place n a b) + 1) ∙ f.square_taken;
        square_seen = f.square_seen;
        square_misses = f.square_misses;
        below = f.below;
        first = f.first;
        put = λ c d lc ld is. f.put c d lc ld is ∙ sym (other c d lc ld);
        taken = set_each n v.taken (λ c d y. Serves v c → y ≡ taken_of n words d c) a b (slice_index v.taken (place n a b) + 1) lb (omega (arith, f.square_taken, place_below n a b la lb))
            (λ is. ap (λ j. j + 1) was ∙ sym here) (λ c d lc ld o is. f.taken c d lc ld is ∙ sym (else d c o));
        seen = λ c d lc ld is. let y = f.seen c d lc ld is in omega (arith, y, other d c ld lc);
      } in
      let in_order : (p q : ℕ) → p < n → q < n → taken_of n words p q ≤ put_of n words p q =
      λ p q lp lq. each (λ c d y. y ≤ put_of n words d c) (let y = f.seen a b la lb serves in omega (arith, saw, y, other b a lb la)) (λ c d lc ld o. let w = k.in_order d c ld lc in omega (arith, w, other d c ld lc)) q p lq lp in
      let answered : (p q : ℕ) → p < n → q < n → put_of n words p q ≤ taken_of n words q p + 1 =
      λ p q lp lq. each (λ c d y. put_of n words c d ≤ y + 1) (let w = k.answered a b la lb in omega (arith, now, w, other a b la lb)) (λ c d lc ld o. let w = k.answered c d lc ld in omega (arith, w, other c d lc ld)) p q lp lq in
      kept_after n seats made s k id v (has_taken v (place n a b)) words homes at (length-set s.words (n * n + place n a b) x) refl fits in_order answered (λ p q lp lq. omega (arith, other p q lp lq))
      (λ c d lc ld far. (other c d lc ld, else d c (apart_unless n seats made a b s.words v f serves lb c d ld far)))

  -- the first seat makes one more
  pub kept_split : (n seats made : ℕ) (s : State X (View S)) (k : KeptAmong n seats made s) (id : ℕ) (v : View S) → get_elem? s.views id ≡ some v → v.number ≡ 0
      → KeptAmong n seats (made + 1) record { words = s.words; homes = s.homes; views = set s.views id (splitting v) ++ newcomer v ∷ [] }
  kept_split n seats made s k id v at first =
      record {
        size = k.size;
        in_order = k.in_order;
        answered = k.answered;
        each = λ j u e. elim (at_end (set s.views id (splitting v)) (newcomer v) u j e) [
          | inl before ↦ each_after (Fits n seats (made + 1) s.words) s.views id (splitting v) one_more others j u before
          | inr (last, is) ↦ subst (Fits n seats (made + 1) s.words) is new
        ];
        alone = alone_more (set s.views id (splitting v)) (newcomer v) apart_from (alone_after s.views id v (splitting v) at refl k.alone);
        not_made = λ a b la lb late. k.not_made a b la lb (omega (arith, late));
      }
    where
      f : Fits n seats made s.words v
      f = k.each id v at

      many : v.made ≡ made
      many = f.first first

      square : length {A = ℕ} (replicate (v.actors * v.actors) 0) ≡ n * n
      square = length-replicate (v.actors * v.actors) 0 ∙ ap (λ j. j * j) f.among

      one_more : Fits n seats (made + 1) s.words (splitting v)
      one_more = refits n seats made (made + 1) s.words s.words v (v.made + 1) v.hand f (let b = f.below in omega (arith, b)) (λ zero. ap (λ j. j + 1) many) f.put f.taken f.seen

      others : (j : ℕ) (u : View S) → j ≢ id → get_elem? s.views j ≡ some u → Fits n seats (made + 1) s.words u
      others j u far e =
          let g = k.each j u e in
          refits n seats made (made + 1) s.words s.words u u.made u.hand g (let b = g.below in omega (arith, b))
          (λ zero. absurd (far (k.alone j id u v e at (zero ∙ sym first)))) g.put g.taken g.seen

      late : (a : ℕ) → a % v.seats ≡ v.made → made ≤ a % seats
      late a serves = let m : a % seats ≡ made = ap (λ j. a % j) (sym f.of_seats) ∙ serves ∙ many in omega (arith, m)

      new : Fits n seats (made + 1) s.words (newcomer v)
      new = record {
        among = f.among;
        of_seats = f.of_seats;
        square_put = square;
        square_taken = square;
        square_seen = square;
        square_misses = square;
        below = omega (arith, many);
        first = λ zero. let b = f.below in absurd (omega (arith, zero, many, b));
        put = λ a b la lb serves. zero_at (v.actors * v.actors) (place n a b) ∙ sym ((k.not_made a b la lb (late a serves)).0);
        taken = λ a b la lb serves. zero_at (v.actors * v.actors) (place n a b) ∙ sym ((k.not_made a b la lb (late a serves)).1);
        seen = λ a b la lb serves. let z = zero_at (v.actors * v.actors) (place n a b) in omega (arith, z);
      }

      apart_from : (j : ℕ) (u : View S) → get_elem? (set s.views id (splitting v)) j ≡ some u → u.number ≢ v.made
      apart_from = each_after (λ u. u.number ≢ v.made) s.views id (splitting v) (λ e. let b = f.below in omega (arith, e, many, b)) (λ j u far e same. let b = (k.each j u e).below in omega (arith, same, many, b))

  -- lanes that no seat has used, and the first seat
  pub kept_start : (setting : S) (n seats : ℕ) (homes : List (maybe.Option X)) → KeptAmong n seats 1 record { words = replicate (word_count n) 0; homes = homes; views = opening setting n seats 0 1 ∷ [] }
  kept_start setting n seats homes =
      record {
        size = length-replicate (word_count n) 0;
        in_order = λ p q lp lq. let y = zero_at (word_count n) (place n p q) in let z = zero_at (word_count n) (n * n + place n q p) in omega (arith, y, z);
        answered = λ p q lp lq. let y = zero_at (word_count n) (place n p q) in omega (arith, y);
        each = λ j v e. subst (Fits n seats 1 (replicate (word_count n) 0)) (only j v e).1 first_fits;
        alone = λ j k v w e h same. (only j v e).0 ∙ sym ((only k w h).0);
        not_made = λ a b la lb late. (zero_at (word_count n) (place n a b), zero_at (word_count n) (n * n + place n a b));
      }
    where
      first_view : View S
      first_view = opening setting n seats 0 1

      only : (j : ℕ) (v : View S) → get_elem? (first_view ∷ []) j ≡ some v → (j ≡ 0) × (first_view ≡ v)
      only zero v e = (refl, some-injective first_view v e)
      only (suc j) v e = absurd (some-ne-none v (sym e))

      first_fits : Fits n seats 1 (replicate (word_count n) 0) first_view
      first_fits = record {
        among = refl;
        of_seats = refl;
        square_put = length-replicate (n * n) 0;
        square_taken = length-replicate (n * n) 0;
        square_seen = length-replicate (n * n) 0;
        square_misses = length-replicate (n * n) 0;
        below = omega arith;
        first = λ zero. refl;
        put = λ a b la lb serves. zero_at (n * n) (place n a b) ∙ sym (zero_at (word_count n) (place n a b));
        taken = λ a b la lb serves. zero_at (n * n) (place n a b) ∙ sym (zero_at (word_count n) (n * n + place n a b));
        seen = λ a b la lb serves. let z = zero_at (n * n) (place n a b) in omega (arith, z);
      }

  -- two facts that follow: put is at most two more than taken, and where as many names of a lane were
  -- put as were taken of the opposite one, fewer than two are in flight
  pub two_at_most : (n seats made : ℕ) (s : State X (View S)) → KeptAmong n seats made s → (p q : ℕ) → p < n → q < n → put_of n s.words p q ≤ taken_of n s.words p q + 2
  two_at_most n seats made s k p q lp lq = let a = k.answered p q lp lq in let o = k.in_order q p lq lp in let b = k.answered q p lq lp in omega (arith, a, o, b)

  pub fewer_than_two : (n seats made : ℕ) (s : State X (View S)) → KeptAmong n seats made s → (p q : ℕ) → p < n → q < n → put_of n s.words p q ≡ taken_of n s.words q p → put_of n s.words p q < taken_of n s.words p q + 2
  fewer_than_two n seats made s k p q lp lq level = let o = k.in_order q p lq lp in let b = k.answered q p lq lp in omega (arith, level, o, b)
