-- What a round changes on lanes over links, and what holds of new ones.
use Rattle.std.proofs.Common.{◌≡◌, ◌∙◌, ℕ, zero, suc, ◌+◌, ◌*◌, ◌/◌, ◌%◌, ◌^◌, ◌<◌, ◌≤◌, ◌⊎◌, inl, inr, Bool, true, false, ◌||◌, cond, eqb, nat_lt, List, [], ◌∷◌, ◌++◌, length, get_or, map, take, drop, replicate, Option, Some, None, refl, sym, ap, subst, arith}
use Rattle.std.specs.Prelude.{slice_get, not}
use Rattle.std.specs.List.{sum_by, list_any}
use Rattle.std.proofs.lemmas.Bool.{lt-ltb, le-ltb, eqb-true, eq-eqb, cases_lt, cases_Bool, cond-true, cond-false}
use Rattle.std.proofs.lemmas.List.{length-replicate, get_or-replicate, get_or_past}
use Rattle.std.proofs.lemmas.List.Sums.{sum_by-cons}
use Rattle.std.proofs.lemmas.Option.{slice_get_within, slice_get_read, slice_get_past, get_or_from_slice_get}
use Rattle.std.proofs.Math.ListN.{get_or-map}
use Rattle.brace_core.specs.Schedule.{lane}
use Rattle.brace_core.specs.Lanes.{AreBelow}
use Rattle.brace_model.specs.declared.program.Ty.{Ty}
use Rattle.brace_pieces.specs.declared.setting.Setting.{Setting}
use Rattle.brace_pieces.specs.declared.piece.Piece.{Piece}
use Rattle.brace_pieces.specs.Steps.{schedule}
use Rattle.brace_wire.specs.declared.fate.Fate.{Fate}
use Rattle.brace_wire.specs.declared.kept.Kept.{Kept}
use Rattle.brace_wire.specs.Fitting.{layout}
use Rattle.brace_wire.specs.Net.{opening, Reaches}
use Rattle.brace_wire.specs.Links.{OnLink, OnLinks, fresh, link_of, received, puts_on, takes_on, received_on, sent_at_once, after_round}
use Rattle.brace_wire.specs.Shown.{HasBytes, HasDelivery, is_lost, IsBack, Becomes, GoOn}
use Rattle.brace_wire.specs.inner.Standing.{CanBeSent, CanRound, Stands, IsSound}
use Rattle.brace_wire.specs.Hope.{hope, all_hope}
use Rattle.brace_wire.proofs.AcceptLemmas.{all_same_taken}
use Rattle.brace_wire.proofs.ShownLemmas.{held_has_place, shows_round}
use Rattle.brace_wire.proofs.HopeLemmas.{round_nears, hope_of_some}
use Rattle.brace_wire.proofs.LinkLemmas.{stays, stays_same, low_received, low_taken, few_puts}

-- ---- which link stands at a place

-- a number below n * n is a place in n rows of n
pub row_of : (n i : ℕ) → i < n * n → (i / n * n + i % n ≡ i) × (i % n < n)
row_of n i lt =
    let some : 0 < n = by_size n lt in
    (omega (arith, some), omega (arith, some))
  where
    by_size : (n : ℕ) → i < n * n → 0 < n
    by_size zero lt = absurd (omega (arith, lt))
    by_size (suc m) lt = omega arith

pub link_at : (v : OnLinks) → length v.links ≡ v.actors * v.actors → (i : ℕ) (link : OnLink) → slice_get v.links i ≡ Some link → link_of v (i / v.actors) (i % v.actors) ≡ link
link_at v size i link at =
    let low : i < length v.links = slice_get_within v.links i link at in
    let (is, to) = row_of v.actors i (omega (arith, low, size)) in
    cond-true (nat_lt (i % v.actors) v.actors) _ _ (lt-ltb _ _ to)
    ∙ ap (λ k. get_or v.links k fresh) is
    ∙ get_or_from_slice_get v.links i link fresh at

-- ---- a round can be made

at_place : {A : Type 0} (xs : List A) (i : ℕ) → i < length xs → (x : A) × (slice_get xs i ≡ Some x)
at_place [] i lt = absurd (omega (arith, lt))
at_place (x ∷ xs) zero lt = (x, refl)
at_place (x ∷ xs) (suc i) lt = at_place xs i (omega (arith, lt))

module _ (s : Setting) (p q : ℕ) (link : OnLink) (st : Stands s p q link) (bytes : HasBytes s) where
  kept_is_of : (n : ℕ) (o : Option Kept) → 1 ≤ n → IsBack st.net.puts n o → CanBeSent (layout s.job.program) o
  kept_is_of n None some back = tt
  kept_is_of n (Some k) some back =
      let low : k.frame.ordinal < length (lane (schedule s) p q) = omega (arith, back.0, some, st.within) in
      let (name, at) = at_place (lane (schedule s) p q) k.frame.ordinal low in
      bytes name k.frame.piece (st.is_right k.frame.ordinal name k.frame.piece at back.1)

  pub can_round : (types : List (List Ty)) → types ≡ layout s.job.program → CanRound types link
  can_round types is = subst (λ (t : List (List Ty)). CanRound t link) (sym is) (record {
    older = kept_is_of 2 link.older (omega arith) st.shows.older;
    newer = kept_is_of 1 link.newer (omega arith) st.shows.newer;
    has_place = held_has_place link st.net st.happens st.shows;
  })

module _ (v : OnLinks) (types : List (List Ty)) (is_sound : IsSound v types) where
  stands_at : (i : ℕ) (link : OnLink) → slice_get v.links i ≡ Some link → Stands v.setting (i / v.actors) (i % v.actors) link
  stands_at i link at = subst (λ (l : OnLink). Stands v.setting (i / v.actors) (i % v.actors) l) (link_at v is_sound.size i link at) (is_sound.each (i / v.actors) (i % v.actors))

  pub can_round_at : (i : ℕ) (link : OnLink) → slice_get v.links i ≡ Some link → CanRound types link
  can_round_at i link at = can_round v.setting (i / v.actors) (i % v.actors) link (stands_at i link at) is_sound.has_bytes types is_sound.types_are

  pub short_at : (i : ℕ) (link : OnLink) → slice_get v.links i ≡ Some link → link.receiver.taken + 2 < 2 ^ 64
  short_at i link at =
      let st = stands_at i link at in
      omega (arith, low_taken v.setting (i / v.actors) (i % v.actors) link st, few_puts v.setting (i / v.actors) (i % v.actors) link st, is_sound.short)

  pub some_fates : 0 < length v.fates
  some_fates = let low : is_sound.delivers.place < length v.fates = is_sound.delivers.within in omega (arith, low)

-- ---- what it changes

mixed : {A : Type 0} (f : A → A) (m : ℕ) (xs : List A) (i : ℕ) (d : A)
    → (get_or (map f (take m xs) ++ drop m xs) i d ≡ f (get_or xs i d)) ⊎ (get_or (map f (take m xs) ++ drop m xs) i d ≡ get_or xs i d)
mixed f zero xs i d = inr refl
mixed f (suc m) [] i d = inr refl
mixed f (suc m) (x ∷ xs) zero d = inl refl
mixed f (suc m) (x ∷ xs) (suc i) d = mixed f m xs i d

length_mixed : {A : Type 0} (f : A → A) (m : ℕ) (xs : List A) → length (map f (take m xs) ++ drop m xs) ≡ length xs
length_mixed f zero xs = refl
length_mixed f (suc m) [] = refl
length_mixed f (suc m) (x ∷ xs) = ap suc (length_mixed f m xs)

-- lanes after a round that was made on so many links
abbrev pub rounded : OnLinks → ℕ → ℕ → OnLinks
rounded v made rounds = record v { links = map (after_round v.fates) (take made v.links) ++ drop made v.links; rounds = rounds }

module _ (v : OnLinks) (types : List (List Ty)) (is_sound : IsSound v types) (made rounds : ℕ) where
  -- each link was rounded or is as it was
  one_or_other : (p q : ℕ) → (link_of (rounded v made rounds) p q ≡ after_round v.fates (link_of v p q)) ⊎ (link_of (rounded v made rounds) p q ≡ link_of v p q)
  one_or_other p q = elim (cases_lt q v.actors) [
    | inl low ↦
        let here : link_of v p q ≡ get_or v.links (p * v.actors + q) fresh = cond-true (nat_lt q v.actors) _ _ (lt-ltb _ _ low) in
        let there : link_of (rounded v made rounds) p q ≡ get_or (map (after_round v.fates) (take made v.links) ++ drop made v.links) (p * v.actors + q) fresh =
        cond-true (nat_lt q v.actors) _ _ (lt-ltb _ _ low) in
        elim (mixed (after_round v.fates) made v.links (p * v.actors + q) fresh) [
          | inl one ↦ inl (there ∙ one ∙ ap (after_round v.fates) (sym here))
          | inr other ↦ inr (there ∙ other ∙ sym here)
        ]
    | inr high ↦ inr (cond-false (nat_lt q v.actors) _ _ (le-ltb _ _ high) ∙ sym (cond-false (nat_lt q v.actors) _ _ (le-ltb _ _ high)))
  ]

  pub round_events : GoOn v (rounded v made rounds)
  round_events p q = elim (one_or_other p q) [
    | inl one ↦ subst (λ (l : OnLink). Becomes [] (link_of v p q) l) (sym one) (λ net happens shows. shows_round v.fates (link_of v p q) net happens shows)
    | inr other ↦ subst (λ (l : OnLink). Becomes [] (link_of v p q) l) (sym other) (stays_same (link_of v p q))
  ]

  pub round_puts : (p q : ℕ) → puts_on (rounded v made rounds) p q ≡ puts_on v p q
  round_puts p q = elim (one_or_other p q) [ inl one ↦ ap (λ (l : OnLink). l.put) one | inr other ↦ ap (λ (l : OnLink). l.put) other ]

  pub round_takes : (p q : ℕ) → takes_on (rounded v made rounds) p q ≡ takes_on v p q
  round_takes p q = elim (one_or_other p q) [
    | inl one ↦ ap (λ (l : OnLink). l.receiver.taken) one ∙ all_same_taken (link_of v p q).receiver (sent_at_once v.fates (link_of v p q).older ++ (sent_at_once v.fates (link_of v p q).newer ++ (link_of v p q).late))
    | inr other ↦ ap (λ (l : OnLink). l.receiver.taken) other
  ]

  pub round_sound : IsSound (rounded v made rounds) types
  round_sound = record {
    few = is_sound.few;
    size = length_mixed (after_round v.fates) made v.links ∙ is_sound.size;
    below = is_sound.below;
    short = is_sound.short;
    answered = λ p q. omega (arith, is_sound.answered p q, round_puts p q, round_takes q p);
    each = λ p q. let st = is_sound.each p q in stays v.setting p q (link_of v p q) (link_of (rounded v made rounds) p q) st (round_events p q st.net st.happens st.shows);
    types_are = is_sound.types_are;
    has_bytes = is_sound.has_bytes;
    delivers = is_sound.delivers;
  }

-- lanes after a whole round
abbrev pub all_rounded : OnLinks → ℕ → OnLinks
all_rounded v rounds = record v { links = map (after_round v.fates) v.links; rounds = rounds }

pub round_made : (v : OnLinks) (rounds p q : ℕ) → link_of (all_rounded v rounds) p q ≡ after_round v.fates (link_of v p q)
round_made v rounds p q = elim (cases_lt q v.actors) [
  | inl low ↦
      cond-true (nat_lt q v.actors) _ _ (lt-ltb _ _ low)
      ∙ get_or-map (after_round v.fates) v.links (p * v.actors + q) fresh
      ∙ ap (after_round v.fates) (sym (cond-true (nat_lt q v.actors) _ _ (lt-ltb _ _ low)))
  | inr high ↦ cond-false (nat_lt q v.actors) _ _ (le-ltb _ _ high) ∙ ap (after_round v.fates) (sym (cond-false (nat_lt q v.actors) _ _ (le-ltb _ _ high)))
]

abbrev Nears : ℕ → ℕ → Type 0
Nears now before = (now ≤ before) × (0 < before → now < before)

sum_nears : (f : OnLink → ℕ) (g : OnLink → OnLink) (xs : List OnLink) → ((i : ℕ) (x : OnLink) → slice_get xs i ≡ Some x → Nears (f (g x)) (f x)) → Nears (sum_by f (map g xs)) (sum_by f xs)
sum_nears f g [] each = (omega arith, λ some. absurd (omega (arith, some)))
sum_nears f g (x ∷ xs) each =
    let here = each 0 x refl in
    let rest = sum_nears f g xs (λ i y at. each (suc i) y at) in
    let now : sum_by f (map g (x ∷ xs)) ≡ f (g x) + sum_by f (map g xs) = sum_by-cons f (g x) (map g xs) in
    let before : sum_by f (x ∷ xs) ≡ f x + sum_by f xs = sum_by-cons f x xs in (
      omega (arith, now, before, here.0, rest.0),
      λ some. elim (cases_lt 0 (f x)) [
        | inl more ↦ omega (arith, now, before, here.1 more, rest.0)
        | inr none ↦ omega (arith, now, before, here.0, rest.1 (omega (arith, some, before, none)))
      ],
    )

pub round_nearer : (v : OnLinks) (types : List (List Ty)) → IsSound v types → (rounds : ℕ) → 0 < all_hope v → all_hope (all_rounded v rounds) < all_hope v
round_nearer v types is_sound rounds =
    (sum_nears (hope v.fates) (after_round v.fates) v.links (λ i link at.
    let st = stands_at v types is_sound i link at in
    round_nears v.fates is_sound.delivers link st.net st.happens st.shows)).1

-- what a round keeps, on however many links it was made
pub record IsRoundDone (v w : OnLinks) (types : List (List Ty)) : Type 0 where
  pub sound : IsSound w types
  pub setting : w.setting ≡ v.setting
  pub actors : w.actors ≡ v.actors
  pub fates : w.fates ≡ v.fates
  pub puts : (p q : ℕ) → puts_on w p q ≡ puts_on v p q
  pub takes : (p q : ℕ) → takes_on w p q ≡ takes_on v p q
  pub events : GoOn v w

module _ (V v : OnLinks) (is : V ≡ v) (types new : List (List Ty)) (is_sound : IsSound V types) (same_types : new ≡ types) (fates : List Fate) (same : fates ≡ V.fates)
    (links : List OnLink) (rounds : ℕ) where
  abbrev with_links : List OnLink → OnLinks
  with_links ls = record V { links = ls; rounds = rounds }

  pub round_done : (made : ℕ) × (links ≡ map (after_round fates) (take made V.links) ++ drop made V.links) → IsRoundDone v (with_links links) new
  round_done (made, are) =
      let now : links ≡ map (after_round V.fates) (take made V.links) ++ drop made V.links =
      are ∙ ap (λ (fs : List Fate). map (after_round fs) (take made V.links) ++ drop made V.links) same in
      subst (λ (u : OnLinks). IsRoundDone u (with_links links) new) is
      (subst (λ (ls : List OnLink). IsRoundDone V (with_links ls) new) (sym now)
      (subst (λ (ts : List (List Ty)). IsRoundDone V (rounded V made rounds) ts) (sym same_types) (record {
        sound = round_sound V types is_sound made rounds;
        setting = refl;
        actors = refl;
        fates = refl;
        puts = round_puts V types is_sound made rounds;
        takes = round_takes V types is_sound made rounds;
        events = round_events V types is_sound made rounds;
      })))

  -- where it was made on all
  module _ (all : links ≡ map (after_round fates) V.links) where
    all_now : links ≡ map (after_round V.fates) V.links
    all_now = all ∙ ap (λ (fs : List Fate). map (after_round fs) V.links) same

    pub whole_made : (p q : ℕ) → link_of (with_links links) p q ≡ after_round v.fates (link_of v p q)
    whole_made = subst (λ (u : OnLinks). (p q : ℕ) → link_of (with_links links) p q ≡ after_round u.fates (link_of u p q)) is
        (subst (λ (ls : List OnLink). (p q : ℕ) → link_of (with_links ls) p q ≡ after_round V.fates (link_of V p q)) (sym all_now) (round_made V rounds))

    pub whole_nearer : 0 < all_hope v → all_hope (with_links links) < all_hope v
    whole_nearer = subst (λ (u : OnLinks). 0 < all_hope u → all_hope (with_links links) < all_hope u) is
        (subst (λ (ls : List OnLink). 0 < all_hope V → all_hope (with_links ls) < all_hope V) (sym all_now) (round_nearer V types is_sound rounds))

-- ---- what is under way

at_most_sum : (f : OnLink → ℕ) (xs : List OnLink) (i : ℕ) (x : OnLink) → slice_get xs i ≡ Some x → f x ≤ sum_by f xs
at_most_sum f [] i x at = absurd cc
at_most_sum f (y ∷ ys) zero x at = let same : y ≡ x = one_some y x at in omega (arith, sum_by-cons f y ys, ap f same)
  where
    one_some : (y x : OnLink) → Some y ≡ Some x → y ≡ x
    one_some y x e = cc
at_most_sum f (y ∷ ys) (suc i) x at = omega (arith, sum_by-cons f y ys, at_most_sum f ys i x at)

pub some_hope : (v : OnLinks) (types : List (List Ty)) → IsSound v types → (i : ℕ) (link : OnLink) → slice_get v.links i ≡ Some link → eqb link.put (received link.receiver) ≡ false → 0 < all_hope v
some_hope v types is_sound i link at differ =
    let st = stands_at v types is_sound i link at in
    let low : received link.receiver < link.put = omega (arith, low_received v.setting (i / v.actors) (i % v.actors) link st, differs link.put (received link.receiver) differ) in
    omega (arith, at_most_sum (hope v.fates) v.links i link at, hope_of_some v.fates is_sound.delivers link st.net.puts st.shows.older st.shows.newer st.shows.put low)
  where
    differs : (a b : ℕ) → eqb a b ≡ false → a ≡ b → ⊥
    differs a b not same = let no : true ≡ false = sym (eq-eqb a b same) ∙ not in absurd cc

-- all that was put on a link was received
abbrev pub IsQuiet : OnLink → Type 0
IsQuiet l = l.put ≡ received l.receiver

quiet_at : (xs : List OnLink) → ((i : ℕ) (link : OnLink) → slice_get xs i ≡ Some link → IsQuiet link) → (i : ℕ) → IsQuiet (get_or xs i fresh)
quiet_at [] each i = refl
quiet_at (x ∷ xs) each zero = each 0 x refl
quiet_at (x ∷ xs) each (suc i) = quiet_at xs (λ k link at. each (suc k) link at) i

-- one link more is quiet
pub quiet_more : (xs : List OnLink) (n : ℕ) (x : OnLink) → ((i : ℕ) (link : OnLink) → i < n → slice_get xs i ≡ Some link → IsQuiet link) → slice_get xs n ≡ Some x → eqb x.put (received x.receiver) ≡ true
    → (i : ℕ) (link : OnLink) → i < n + 1 → slice_get xs i ≡ Some link → IsQuiet link
quiet_more xs n x before there quiet i link low at = elim (cases_lt i n) [
  | inl less ↦ before i link less at
  | inr high ↦
      let end : i ≡ n = omega (arith, low, high) in
      let whose : x ≡ link = same_some x link (sym there ∙ ap (slice_get xs) (sym end) ∙ at) in
      subst IsQuiet whose (eqb-true _ _ quiet)
]
  where
    same_some : (a b : OnLink) → Some a ≡ Some b → a ≡ b
    same_some a b e = cc

-- where all of a list of links are quiet, all lanes are
pub all_quiet : (v : OnLinks) → ((i : ℕ) (link : OnLink) → slice_get v.links i ≡ Some link → link.put ≡ received link.receiver) → (p q : ℕ) → puts_on v p q ≡ received_on v p q
all_quiet v each p q = by_test (nat_lt q v.actors)
  where
    by_test : (b : Bool) → IsQuiet (cond b (get_or v.links (p * v.actors + q) fresh) fresh)
    by_test true = quiet_at v.links each (p * v.actors + q)
    by_test false = refl

-- ---- what was received and not taken

-- what is read of a list is there
pub item_there : (xs items : List OnLink) (i : ℕ) (x : OnLink) → items ≡ xs → i < length items → x ≡ get_or items i x → slice_get xs i ≡ Some x
item_there xs items i x same low at = ap (λ (l : List OnLink). slice_get l i) (sym same) ∙ slice_get_read items (length items) i x refl low at

pub none_there : (xs items : List OnLink) (i : ℕ) → items ≡ xs → false ≡ nat_lt i (length items) → slice_get xs i ≡ None
none_there xs items i same past = elim (cases_lt i (length items)) [
  | inl low ↦ absurd (let within = lt-ltb _ _ low in cc)
  | inr high ↦ ap (λ (l : List OnLink). slice_get l i) (sym same) ∙ slice_get_past items i high
]

module _ (V v : OnLinks) (is : V ≡ v) (p q : ℕ) where
  abbrev holds : OnLink → Bool
  holds l = nat_lt l.receiver.taken (received l.receiver)

  -- a link that is read tells whether its receiver holds a piece
  pub held_is : (link : OnLink) → q < V.actors → slice_get V.links (p * V.actors + q) ≡ Some link → holds link ≡ nat_lt (takes_on v p q) (received_on v p q)
  held_is link low at =
      let same : link ≡ link_of V p q = sym (cond-true (nat_lt q V.actors) _ _ (lt-ltb _ _ low) ∙ get_or_from_slice_get V.links (p * V.actors + q) link fresh at) in
      subst (λ (u : OnLinks). holds link ≡ nat_lt (takes_on u p q) (received_on u p q)) is (ap holds same)

  -- between actors for whom there is no link nothing is received
  pub none_held : (q < V.actors → slice_get V.links (p * V.actors + q) ≡ None) → false ≡ nat_lt (takes_on v p q) (received_on v p q)
  none_held none = subst (λ (u : OnLinks). false ≡ nat_lt (takes_on u p q) (received_on u p q)) is (elim (cases_lt q V.actors) [
    | inl low ↦ ap holds (sym (cond-true (nat_lt q V.actors) _ _ (lt-ltb _ _ low) ∙ nothing_there V.links (p * V.actors + q) (none low)))
    | inr high ↦ ap holds (sym (cond-false (nat_lt q V.actors) _ _ (le-ltb _ _ high)))
  ])
    where
      nothing_there : (xs : List OnLink) (i : ℕ) → slice_get xs i ≡ None → get_or xs i fresh ≡ fresh
      nothing_there [] i none = refl
      nothing_there (x ∷ xs) zero none = absurd cc
      nothing_there (x ∷ xs) (suc i) none = nothing_there xs i none

-- ---- new lanes

abbrev pub fresh_links : Setting → ℕ → List Fate → OnLinks
fresh_links setting n fates = record { setting = setting; actors = n; fates = fates; rounds = 0; links = replicate (n * n) fresh }

pub link_fresh : (setting : Setting) (n : ℕ) (fates : List Fate) (p q : ℕ) → link_of (fresh_links setting n fates) p q ≡ fresh
link_fresh setting n fates p q =
    let links : List OnLink = replicate (n * n) fresh in
    let at : get_or links (p * n + q) fresh ≡ fresh = elim (cases_lt (p * n + q) (n * n)) [
      | inl low ↦ get_or-replicate (n * n) (p * n + q) fresh fresh low
      | inr high ↦ get_or_past links (p * n + q) fresh (omega (arith, high, length-replicate (n * n) fresh))
    ] in
    ap (λ (l : OnLink). cond (nat_lt q n) l fresh) at ∙ elim (nat_lt q n) as (λ b. cond b fresh fresh ≡ fresh) [ true ↦ refl | false ↦ refl ]

stands_fresh : (s : Setting) (p q : ℕ) → Stands s p q fresh
stands_fresh s p q = record {
  net = opening;
  happens = Reaches.begin;
  shows = record { put = refl; older = omega arith; newer = omega arith; late = tt; taken = refl; waiting = refl };
  within = omega arith;
  is_right = λ i name piece at put. absurd (nothing i piece put);
}
  where
    nothing : (i : ℕ) (piece : Piece) → slice_get [] i ≡ Some piece → ⊥
    nothing i piece e = absurd cc

-- one of some fates is other than a loss
pub delivery_of : (fates : List Fate) → list_any (λ fate. not (is_lost fate)) fates ≡ true → HasDelivery fates
delivery_of [] e = absurd cc
delivery_of (fate ∷ fates) e = elim (cases_Bool (is_lost fate)) [
  | inl lost ↦
      let rest = delivery_of fates (ap (λ (b : Bool). not b || list_any (λ fate. not (is_lost fate)) fates) (sym lost) ∙ e) in
      record { place = suc rest.place; within = (let low : rest.place < length fates = rest.within in omega (arith, low)); delivers = rest.delivers }
  | inr kept ↦ record { place = 0; within = omega arith; delivers = kept }
]

pub sound_made : (setting given : Setting) (n made rounds : ℕ) (fates : List Fate) (links : List OnLink) (types : List (List Ty)) → given ≡ setting → links ≡ replicate made fresh → made ≡ n * n → n ≤ 65
    → AreBelow (schedule setting) n → length (schedule setting).steps ≤ 2 ^ 40 → HasBytes setting → list_any (λ fate. not (is_lost fate)) fates ≡ true → types ≡ layout setting.job.program
    → IsSound (record { setting = given; actors = n; fates = fates; rounds = rounds; links = links }) types
sound_made setting given n made rounds fates links types same is all few below short bytes some types_are =
    let now : links ≡ replicate (n * n) fresh = is ∙ ap (λ k. replicate k fresh) all in
    subst (λ (s : Setting). IsSound (record { setting = s; actors = n; fates = fates; rounds = rounds; links = links }) types) (sym same)
    (subst (λ (ls : List OnLink). IsSound (record { setting = setting; actors = n; fates = fates; rounds = rounds; links = ls }) types) (sym now) (record {
      few = few;
      size = length-replicate (n * n) fresh;
      below = below;
      short = short;
      answered = λ p q. omega (arith, ap (λ (l : OnLink). l.put) (link_fresh setting n fates p q));
      each = λ p q. subst (λ (l : OnLink). Stands setting p q l) (sym (link_fresh setting n fates p q)) (stands_fresh setting p q);
      types_are = types_are;
      has_bytes = bytes;
      delivers = delivery_of fates some;
    }))
