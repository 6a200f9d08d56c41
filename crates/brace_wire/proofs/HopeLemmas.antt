-- How many rounds lanes may still need: each round brings them nearer.
use Rattle.std.proofs.Common.{◌≡◌, ◌∙◌, ℕ, zero, suc, ◌+◌, ◌-◌, ◌*◌, ◌/◌, ◌%◌, ◌<◌, ◌≤◌, ◌⊎◌, inl, inr, Bool, true, false, ◌||◌, eqb, List, [], ◌∷◌, ◌++◌, length, get_or, Option, Some, None, refl, sym, ap, subst, arith}
use Rattle.std.specs.Prelude.{if◌then◌else◌}
use Rattle.std.specs.List.{fold}
use Rattle.std.proofs.lemmas.Bool.{eqb-true, eq-eqb, ne_eqb, or_parts, cases_Bool}
use Rattle.std.proofs.lemmas.List.{length-append}
use Rattle.std.proofs.lemmas.List.Folds.{list_any-append}
use Rattle.std.proofs.lemmas.Nat.{mod-mul-add}
use Rattle.brace_core.proofs.OrderLemmas.{met_from}
use Rattle.brace_core.specs.declared.name.Name.{Name}
use Rattle.brace_pieces.specs.declared.piece.Piece.{Piece}
use Rattle.brace_wire.specs.declared.frame.Frame.{Frame}
use Rattle.brace_wire.specs.declared.fate.Fate.{Fate}
use Rattle.brace_wire.specs.declared.fate.Fate.TheVariants.{Lose, Deliver, Twice, After}
use Rattle.brace_wire.specs.declared.kept.Kept.{Kept}
use Rattle.brace_wire.specs.Net.{Lane, opening, Happens}
use Rattle.brace_wire.specs.Links.{OnReceiver, OnLink, received, with_put, accepted, fate_of, at_once, late_of, sent_at_once, sent_late, sent_again, after_round}
use Rattle.brace_wire.specs.Shown.{is_lost, HasDelivery, IsBack, Shows}
use Rattle.brace_wire.specs.Hope.{comes, rounds_by, rounds_in, due_in, rounds_left, hope}
use Rattle.brace_wire.proofs.NetLemmas.{sound, within}
use Rattle.brace_wire.proofs.AcceptLemmas.{accepted_by}
use Rattle.brace_wire.proofs.ShownLemmas.{all_received, shows_round, reaches_on}

-- ---- what is handed over

one_more : (r : OnReceiver) (f : Frame) → eqb f.ordinal (received r) ≡ true → received (accepted r f) ≡ received r + 1
one_more r f e = ap received (accepted_by r f true e) ∙ omega (arith, length-append r.waiting (f.piece ∷ []))

no_more : (r : OnReceiver) (f : Frame) → eqb f.ordinal (received r) ≡ false → accepted r f ≡ r
no_more r f e = accepted_by r f false e

rises : (r : OnReceiver) (f : Frame) → received r ≤ received (accepted r f)
rises r f = elim (cases_Bool (eqb f.ordinal (received r))) [
  | inl is ↦ omega (arith, one_more r f is)
  | inr not ↦ omega (arith, ap received (no_more r f not))
]

pub all_rises : (r : OnReceiver) (frames : List Frame) → received r ≤ received (fold accepted r frames)
all_rises r [] = omega arith
all_rises r (f ∷ frames) = omega (arith, rises r f, all_rises (accepted r f) frames)

-- where the next one comes more is received
came : (r : OnReceiver) (frames : List Frame) → comes (received r) frames ≡ true → received r < received (fold accepted r frames)
came r [] e = absurd cc
came r (f ∷ frames) e = elim (cases_Bool (eqb f.ordinal (received r))) [
  | inl is ↦ omega (arith, one_more r f is, all_rises (accepted r f) frames)
  | inr not ↦
      let same : accepted r f ≡ r = no_more r f not in
      let later : comes (received r) frames ≡ true = ap (λ (b : Bool). b || comes (received r) frames) (sym not) ∙ e in
      subst (λ (q : OnReceiver). received r < received (fold accepted q frames)) (sym same) (came r frames later)
]

-- and where it does not come nothing is
none_came : (r : OnReceiver) (frames : List Frame) → comes (received r) frames ≡ false → fold accepted r frames ≡ r
none_came r [] e = refl
none_came r (f ∷ frames) e =
    let parts = or_parts (eqb f.ordinal (received r)) (comes (received r) frames) e in
    ap (λ (q : OnReceiver). fold accepted q frames) (no_more r f parts.0) ∙ none_came r frames parts.1

-- ---- fates in turn

most_rounds : (fates : List Fate) (k n : ℕ) → rounds_in fates k n ≤ k + 1
most_rounds fates zero n = omega arith
most_rounds fates (suc k) n = by_fate (fate_of fates n) (most_rounds fates k (n + 1))
  where
    by_fate : (fate : Fate) → rounds_in fates k (n + 1) ≤ k + 1 → rounds_by fate (rounds_in fates k (n + 1)) ≤ suc k + 1
    by_fate Lose before = omega (arith, before)
    by_fate Deliver before = omega arith
    by_fate Twice before = omega arith
    by_fate After before = omega arith

-- where a sending is not lost no later one counts
not_lost : (fate : Fate) (a b : ℕ) → is_lost fate ≡ false → rounds_by fate a ≡ rounds_by fate b
not_lost Lose a b e = absurd cc
not_lost _ a b e = refl

enough : (fates : List Fate) (k n j : ℕ) → j < k → is_lost (fate_of fates (n + j)) ≡ false → rounds_in fates (suc k) n ≡ rounds_in fates k n
enough fates zero n j lt e = absurd (omega arith)
enough fates (suc k) n zero lt e = not_lost (fate_of fates n) (rounds_in fates (suc k) (n + 1)) (rounds_in fates k (n + 1))
    (let same : n + 0 ≡ n = omega arith in ap (λ m. is_lost (fate_of fates m)) (sym same) ∙ e)
enough fates (suc k) n (suc j) lt e =
    let same : n + suc j ≡ n + 1 + j = omega arith in
    ap (rounds_by (fate_of fates n)) (enough fates k (n + 1) j (omega arith) (ap (λ m. is_lost (fate_of fates m)) (sym same) ∙ e))

differs : (a b : ℕ) → eqb a b ≡ false → a ≡ b → ⊥
differs a b not same = let no : true ≡ false = sym (eq-eqb a b same) ∙ not in absurd cc

mod_more : (n f : ℕ) → 0 < f → (n + f) % f ≡ n % f
mod_more n f some =
    let low : n % f < f = omega (arith, some) in
    let is : n + f ≡ (n / f + 1) * f + n % f = omega (arith, some) in
    ap (λ m. m % f) is ∙ mod-mul-add (n / f + 1) f (n % f) low

module _ (fates : List Fate) (delivers : HasDelivery fates) where
  -- one of as many sendings as there are fates is not lost
  some_delivery : (n : ℕ) → (i : ℕ) × (i < length fates) × (is_lost (fate_of fates (n + i)) ≡ false)
  some_delivery n =
      let (i, low, at) = met_from n (length fates) delivers.place delivers.within in
      (i, low, ap (λ m. is_lost (get_or fates m Lose)) at ∙ delivers.delivers)

  -- a lost sending is one round less
  one_less : (n : ℕ) → fate_of fates n ≡ Lose → rounds_in fates (length fates) (n + 1) + 1 ≡ rounds_in fates (length fates) n
  one_less n lost = by_count (length fates) refl
    where
      by_count : (f : ℕ) → length fates ≡ f → rounds_in fates f (n + 1) + 1 ≡ rounds_in fates f n
      by_count zero e = absurd (let some : delivers.place < length fates = delivers.within in omega (arith, some, e))
      by_count (suc k) e =
          let (i, low, delivered) = some_delivery (n + 1) in
          let near : i < k = elim (cases_Bool (eqb i k)) [
            | inl is ↦ absurd (
                let last : n + 1 + i ≡ n + length fates = omega (arith, e, eqb-true i k is) in
                let again : fate_of fates (n + 1 + i) ≡ Lose = ap (fate_of fates) last ∙ ap (λ m. get_or fates m Lose) (mod_more n (length fates) (omega (arith, e))) ∙ lost in
                let no : true ≡ false = ap is_lost (sym again) ∙ delivered in
                cc)
            | inr not ↦ let other : i ≡ k → ⊥ = differs i k not in omega (arith, e, low, other)
          ] in
          ap (λ m. m + 1) (enough fates k (n + 1) i near delivered) ∙ ap (λ (fate : Fate). rounds_by fate (rounds_in fates k (n + 1))) (sym lost)

  -- ---- a piece that is due

  some_fate : 1 ≤ length fates
  some_fate = let low : delivers.place < length fates = delivers.within in omega (arith, low)

  rounds_at : (n : ℕ) (fate : Fate) → fate_of fates n ≡ fate → (later : ℕ) × (rounds_in fates (length fates) n ≡ rounds_by fate later)
  rounds_at n fate is = by_count (length fates) some_fate
    where
      by_count : (f : ℕ) → 1 ≤ f → (later : ℕ) × (rounds_in fates f n ≡ rounds_by fate later)
      by_count zero some = absurd (omega (arith, some))
      by_count (suc k) some = (rounds_in fates k (n + 1), ap (λ (x : Fate). rounds_by x (rounds_in fates k (n + 1))) is)

  some_round : (fate : Fate) (later : ℕ) → 1 ≤ rounds_by fate later
  some_round Lose later = omega arith
  some_round _ later = omega arith

  by_coming : (b : Bool) (n m : ℕ) → 1 ≤ m → 1 ≤ n → n ≤ m → (1 ≤ (if b then 1 else n)) × ((if b then 1 else n) ≤ m)
  by_coming true n m some high low = (omega arith, some)
  by_coming false n m some high low = (high, low)

  pub due_high : (late : List Frame) (next : ℕ) (o : Option Kept) → due_in fates late next o ≤ length fates + 1
  due_high late next None = omega arith
  due_high late next (Some k) =
      let (later, is) = rounds_at k.sent (fate_of fates k.sent) refl in
      (by_coming (comes next late) (rounds_in fates (length fates) k.sent) (length fates + 1) (omega arith)
      (omega (arith, is, some_round (fate_of fates k.sent) later)) (most_rounds fates (length fates) k.sent)).1

  due_some : (late : List Frame) (next : ℕ) (k : Kept) → 1 ≤ due_in fates late next (Some k)
  due_some late next k =
      let (later, is) = rounds_at k.sent (fate_of fates k.sent) refl in
      (by_coming (comes next late) (rounds_in fates (length fates) k.sent) (length fates + 1) (omega arith)
      (omega (arith, is, some_round (fate_of fates k.sent) later)) (most_rounds fates (length fates) k.sent)).0

  -- a piece whose frame is the next one, and none of whose frames comes in a round
  module _ (k : Kept) (next : ℕ) (late late_then : List Frame) (is_next : k.frame.ordinal ≡ next) (missed : comes next late ≡ false) where
    due_now : due_in fates late next (Some k) ≡ rounds_in fates (length fates) k.sent
    due_now = ap (λ (c : Bool). if c then 1 else rounds_in fates (length fates) k.sent) missed

    it_comes : comes next (k.frame ∷ []) ≡ true
    it_comes = ap (λ (b : Bool). b || false) (eq-eqb k.frame.ordinal next is_next)

    due_by : (fate : Fate) → fate_of fates k.sent ≡ fate → comes next (at_once fate k.frame) ≡ false → comes next late_then ≡ comes next (late_of fate k.frame)
        → due_in fates late_then next (sent_again (Some k)) + 1 ≤ due_in fates late next (Some k)
    due_by Lose is once afterwards =
        let now : due_in fates late_then next (sent_again (Some k)) ≡ rounds_in fates (length fates) (k.sent + 1) =
        ap (λ (c : Bool). if c then 1 else rounds_in fates (length fates) (k.sent + 1)) afterwards in
        omega (arith, now, due_now, one_less k.sent is)
    due_by Deliver is once afterwards = absurd (let no : true ≡ false = sym it_comes ∙ once in cc)
    due_by Twice is once afterwards = absurd (
        let here : comes next (k.frame ∷ k.frame ∷ []) ≡ true = ap (λ (b : Bool). b || comes next (k.frame ∷ [])) (eq-eqb k.frame.ordinal next is_next) in
        let no : true ≡ false = sym here ∙ once in cc)
    due_by After is once afterwards =
        let now : due_in fates late_then next (sent_again (Some k)) ≡ 1 =
        ap (λ (c : Bool). if c then 1 else rounds_in fates (length fates) (k.sent + 1)) (afterwards ∙ it_comes) in
        let (later, two) = rounds_at k.sent After is in
        omega (arith, now, due_now, two)

  -- ---- a round on a link

  module _ (puts : List Piece) (late : List Frame) (r : OnReceiver) where
    abbrev handed : Option Kept → Option Kept → List Frame
    handed older newer = sent_at_once fates older ++ (sent_at_once fates newer ++ late)

    abbrev then_late : Option Kept → Option Kept → List Frame
    then_late older newer = sent_late fates older ++ sent_late fates newer

    abbrev then_received : Option Kept → Option Kept → ℕ
    then_received older newer = received (fold accepted r (handed older newer))

    abbrev now_left : Option Kept → Option Kept → ℕ
    now_left older newer = rounds_left fates late older newer (received r) (length puts - received r)

    abbrev then_left : Option Kept → Option Kept → ℕ
    then_left older newer =
        rounds_left fates (then_late older newer) (sent_again older) (sent_again newer) (then_received older newer) (length puts - then_received older newer)

    -- the frame of a piece that is kept is not the next one
    abbrev IsOther : Option Kept → Type 0
    IsOther None = Unit {0}
    IsOther (Some k) = k.frame.ordinal ≡ received r → ⊥

    other_late : (o : Option Kept) → IsOther o → comes (received r) (sent_late fates o) ≡ false
    other_late None h = refl
    other_late (Some k) h = by_fate (fate_of fates k.sent)
      where
        by_fate : (fate : Fate) → comes (received r) (late_of fate k.frame) ≡ false
        by_fate Lose = refl
        by_fate Deliver = refl
        by_fate Twice = refl
        by_fate After = ap (λ (b : Bool). b || false) (ne_eqb k.frame.ordinal (received r) h)

    comes_in : (xs ys : List Frame) → comes (received r) (xs ++ ys) ≡ (comes (received r) xs || comes (received r) ys)
    comes_in xs ys = list_any-append (λ f. eqb f.ordinal (received r)) xs ys

    or_false : (b : Bool) → (b || false) ≡ b
    or_false true = refl
    or_false false = refl

    -- what comes in no part comes not at all
    misses : (older newer : Option Kept) → comes (received r) (handed older newer) ≡ false
        → (comes (received r) (sent_at_once fates older) ≡ false) × (comes (received r) (sent_at_once fates newer) ≡ false) × (comes (received r) late ≡ false)
    misses older newer e =
        let one = or_parts (comes (received r) (sent_at_once fates older)) (comes (received r) (sent_at_once fates newer ++ late)) (sym (comes_in (sent_at_once fates older) (sent_at_once fates newer ++ late)) ∙ e) in
        let two = or_parts (comes (received r) (sent_at_once fates newer)) (comes (received r) late) (sym (comes_in (sent_at_once fates newer) late) ∙ one.1) in
        (one.0, two.0, two.1)

    -- the next piece is received, or is due a round earlier
    newer_nears : (older : Option Kept) (k : Kept) → k.frame.ordinal ≡ received r → IsOther older
        → (received r < then_received older (Some k))
        ⊎ ((then_received older (Some k) ≡ received r) × (due_in fates (then_late older (Some k)) (received r) (sent_again (Some k)) + 1 ≤ due_in fates late (received r) (Some k)))
    newer_nears older k is other = elim (cases_Bool (comes (received r) (handed older (Some k)))) [
      | inl yes_comes ↦ inl (came r (handed older (Some k)) yes_comes)
      | inr none ↦
          let m = misses older (Some k) none in
          inr (
            ap received (none_came r (handed older (Some k)) none),
            due_by k (received r) late (then_late older (Some k)) is m.2 (fate_of fates k.sent) refl m.1
                (comes_in (sent_late fates older) (sent_late fates (Some k)) ∙ ap (λ (b : Bool). b || comes (received r) (sent_late fates (Some k))) (other_late older other)),
          )
    ]

    older_nears : (k : Kept) (newer : Option Kept) → k.frame.ordinal ≡ received r → IsOther newer
        → (received r < then_received (Some k) newer)
        ⊎ ((then_received (Some k) newer ≡ received r) × (due_in fates (then_late (Some k) newer) (received r) (sent_again (Some k)) + 1 ≤ due_in fates late (received r) (Some k)))
    older_nears k newer is other = elim (cases_Bool (comes (received r) (handed (Some k) newer))) [
      | inl yes_comes ↦ inl (came r (handed (Some k) newer) yes_comes)
      | inr none ↦
          let m = misses (Some k) newer none in
          inr (
            ap received (none_came r (handed (Some k) newer) none),
            due_by k (received r) late (then_late (Some k) newer) is m.2 (fate_of fates k.sent) refl m.0
                (comes_in (sent_late fates (Some k)) (sent_late fates newer) ∙ (ap (λ (b : Bool). comes (received r) (sent_late fates (Some k)) || b) (other_late newer other) ∙ or_false (comes (received r) (sent_late fates (Some k))))),
          )
    ]

    -- of at most one piece that is left
    left_one : (older newer : Option Kept) (late' : List Frame) (next n : ℕ) → n ≤ 1 → rounds_left fates late' older newer next n ≤ length fates + 1
    left_one older newer late' next zero low = omega arith
    left_one older newer late' next (suc zero) low = due_high late' next newer
    left_one older newer late' next (suc (suc n)) low = absurd (omega (arith, low))

    other_of : (n m : ℕ) (o : Option Kept) → IsBack puts n o → length puts ≡ received r + m → (n ≡ m → ⊥) → IsOther o
    other_of n m None back count differ = tt
    other_of n m (Some k) back count differ = λ is. differ (omega (arith, back.0, count, is))

    one_left : (older : Option Kept) (k : Kept) → IsBack puts 2 older → IsBack puts 1 (Some k) → length puts ≡ received r + 1 → then_received older (Some k) ≤ length puts
        → then_left older (Some k) < now_left older (Some k)
    one_left older k before back count full =
        let now : now_left older (Some k) ≡ due_in fates late (received r) (Some k) =
        ap (rounds_left fates late older (Some k) (received r)) (let n : length puts - received r ≡ 1 = omega (arith, count) in n) in
        elim (newer_nears older k (omega (arith, back.0, count)) (other_of 2 1 older before count (λ e. omega (arith, e)))) [
          | inl more ↦
              let none : length puts - then_received older (Some k) ≡ 0 = omega (arith, more, count) in
              let done : then_left older (Some k) ≡ 0 =
              ap (rounds_left fates (then_late older (Some k)) (sent_again older) (sent_again (Some k)) (then_received older (Some k))) none in
              omega (arith, done, now, due_some late (received r) k)
          | inr still ↦
              let one : length puts - then_received older (Some k) ≡ 1 = omega (arith, still.0, count) in
              let left : then_left older (Some k) ≡ due_in fates (then_late older (Some k)) (received r) (sent_again (Some k)) =
              ap (rounds_left fates (then_late older (Some k)) (sent_again older) (sent_again (Some k)) (then_received older (Some k))) one
              ∙ ap (λ n. due_in fates (then_late older (Some k)) n (sent_again (Some k))) still.0 in
              omega (arith, left, now, still.1)
        ]

    two_left : (k : Kept) (newer : Option Kept) → IsBack puts 2 (Some k) → IsBack puts 1 newer → length puts ≡ received r + 2 → then_received (Some k) newer ≤ length puts
        → then_left (Some k) newer < now_left (Some k) newer
    two_left k newer back before count full =
        let now : now_left (Some k) newer ≡ due_in fates late (received r) (Some k) + (length fates + 1) =
        ap (rounds_left fates late (Some k) newer (received r)) (let n : length puts - received r ≡ 2 = omega (arith, count) in n) in
        elim (older_nears k newer (omega (arith, back.0, count)) (other_of 1 2 newer before count (λ e. omega (arith, e)))) [
          | inl more ↦
              let small : length puts - then_received (Some k) newer ≤ 1 = omega (arith, more, count) in
              omega (
                arith,
                now,
                due_some late (received r) k,
                left_one (sent_again (Some k)) (sent_again newer) (then_late (Some k) newer) (then_received (Some k) newer) (length puts - then_received (Some k) newer) small,
              )
          | inr still ↦
              let two : length puts - then_received (Some k) newer ≡ 2 = omega (arith, still.0, count) in
              let left : then_left (Some k) newer ≡ due_in fates (then_late (Some k) newer) (received r) (sent_again (Some k)) + (length fates + 1) =
              ap (rounds_left fates (then_late (Some k) newer) (sent_again (Some k)) (sent_again newer) (then_received (Some k) newer)) two
              ∙ ap (λ n. due_in fates (then_late (Some k) newer) n (sent_again (Some k)) + (length fates + 1)) still.0 in
              omega (arith, left, now, still.1)
        ]

    abbrev Nears : Option Kept → Option Kept → Type 0
    Nears older newer = (then_left older newer ≤ now_left older newer) × (0 < now_left older newer → then_left older newer < now_left older newer)

    less : (older newer : Option Kept) → then_left older newer < now_left older newer → Nears older newer
    less older newer lt = (omega (arith, lt), λ some. lt)

    with_newer : (older newer : Option Kept) → IsBack puts 2 older → IsBack puts 1 newer → length puts ≡ received r + 1 → then_received older newer ≤ length puts → Nears older newer
    with_newer older None before back count full = absurd (omega (arith, back, count))
    with_newer older (Some k) before back count full = less older (Some k) (one_left older k before back count full)

    with_older : (older newer : Option Kept) → IsBack puts 2 older → IsBack puts 1 newer → length puts ≡ received r + 2 → then_received older newer ≤ length puts → Nears older newer
    with_older None newer before back count full = absurd (omega (arith, before, count))
    with_older (Some k) newer before back count full = less (Some k) newer (two_left k newer before back count full)

    nearer : (older newer : Option Kept) → IsBack puts 2 older → IsBack puts 1 newer → received r ≤ length puts → length puts ≤ received r + 2 → then_received older newer ≤ length puts → Nears older newer
    nearer older newer before back low high full = by_left (length puts - received r) refl
      where
        by_left : (n : ℕ) → length puts - received r ≡ n → Nears older newer
        by_left zero e =
            let none : length puts - then_received older newer ≡ 0 = omega (arith, e, all_rises r (handed older newer)) in
            let now : now_left older newer ≡ 0 = ap (rounds_left fates late older newer (received r)) e in
            let done : then_left older newer ≡ 0 = ap (rounds_left fates (then_late older newer) (sent_again older) (sent_again newer) (then_received older newer)) none in
            (omega (arith, now, done), λ some. absurd (omega (arith, now, some)))
        by_left (suc zero) e = with_newer older newer before back (omega (arith, e, low)) full
        by_left (suc (suc n)) e = with_older older newer before back (omega (arith, e, high)) full

  -- a round brings a link nearer
  pub round_nears : (link : OnLink) (lane : Lane Piece) → Happens lane → Shows link lane
      → (hope fates (after_round fates link) ≤ hope fates link) × (0 < hope fates link → hope fates (after_round fates link) < hope fates link)
  round_nears link lane happens shows =
      let s = sound lane happens in
      let now = all_received link lane happens shows in
      let behind = shows_round fates link lane happens shows in
      let later_happens = reaches_on opening lane behind.later happens behind.reaches in
      let afterwards = all_received (after_round fates link) behind.later later_happens behind.shows in
      let full : received (after_round fates link).receiver ≤ length lane.puts =
      omega (arith, afterwards, within behind.later (sound behind.later later_happens).in_order, behind.shows.put, shows.put) in
      subst (λ n. (rounds_left fates (sent_late fates link.older ++ sent_late fates link.newer) (sent_again link.older) (sent_again link.newer) (received (after_round fates link).receiver)
      (n - received (after_round fates link).receiver) ≤ rounds_left fates link.late link.older link.newer (received link.receiver) (n - received link.receiver))
      × (0 < rounds_left fates link.late link.older link.newer (received link.receiver) (n - received link.receiver)
      → rounds_left fates (sent_late fates link.older ++ sent_late fates link.newer) (sent_again link.older) (sent_again link.newer) (received (after_round fates link).receiver)
      (n - received (after_round fates link).receiver) < rounds_left fates link.late link.older link.newer (received link.receiver) (n - received link.receiver)))
      (sym shows.put)
      (nearer lane.puts link.late link.receiver link.older link.newer shows.older shows.newer (omega (arith, now, within lane s.in_order)) (omega (arith, now, s.taken, s.few)) full)

  -- ---- a put and a take

  -- a put costs at most as many rounds as one piece takes
  pub put_hope : (link : OnLink) (name : Name) (piece : Piece) → received link.receiver ≤ link.put → hope fates (with_put link name piece) ≤ hope fates link + (length fates + 1)
  put_hope link name piece low = by_left (link.put - received link.receiver) refl
    where
      by_left : (n : ℕ) → link.put - received link.receiver ≡ n → hope fates (with_put link name piece) ≤ hope fates link + (length fates + 1)
      by_left zero e =
          let one : link.put + 1 - received link.receiver ≡ 1 = omega (arith, e, low) in
          let afterwards : hope fates (with_put link name piece) ≡ due_in fates link.late (received link.receiver) (with_put link name piece).newer =
          ap (rounds_left fates link.late link.newer (with_put link name piece).newer (received link.receiver)) one in
          omega (arith, afterwards, due_high link.late (received link.receiver) (with_put link name piece).newer)
      by_left (suc zero) e =
          let two : link.put + 1 - received link.receiver ≡ 2 = omega (arith, e) in
          let afterwards : hope fates (with_put link name piece) ≡ due_in fates link.late (received link.receiver) link.newer + (length fates + 1) =
          ap (rounds_left fates link.late link.newer (with_put link name piece).newer (received link.receiver)) two in
          let now : hope fates link ≡ due_in fates link.late (received link.receiver) link.newer =
          ap (rounds_left fates link.late link.older link.newer (received link.receiver)) e in
          omega (arith, afterwards, now)
      by_left (suc (suc n)) e =
          let more : link.put + 1 - received link.receiver ≡ suc (suc (n + 1)) = omega (arith, e) in
          let afterwards : hope fates (with_put link name piece) ≡ due_in fates link.late (received link.receiver) link.newer + (length fates + 1) =
          ap (rounds_left fates link.late link.newer (with_put link name piece).newer (received link.receiver)) more in
          let now : hope fates link ≡ due_in fates link.late (received link.receiver) link.older + (length fates + 1) =
          ap (rounds_left fates link.late link.older link.newer (received link.receiver)) e in
          omega (arith, afterwards, now, due_high link.late (received link.receiver) link.newer)

-- a link on which something is under way needs a round
pub hope_of_some : (fates : List Fate) → HasDelivery fates → (link : OnLink) (puts : List Piece) → IsBack puts 2 link.older → IsBack puts 1 link.newer → link.put ≡ length puts
    → received link.receiver < link.put → 0 < hope fates link
hope_of_some fates delivers link puts before back count lt = by_left (link.put - received link.receiver) refl
  where
    by_newer : (o : Option Kept) → IsBack puts 1 o → 1 ≤ due_in fates link.late (received link.receiver) o
    by_newer None none = absurd (omega (arith, none, count, lt))
    by_newer (Some k) h = due_some fates delivers link.late (received link.receiver) k

    by_left : (n : ℕ) → link.put - received link.receiver ≡ n → 0 < hope fates link
    by_left zero e = absurd (omega (arith, e, lt))
    by_left (suc zero) e =
        let now : hope fates link ≡ due_in fates link.late (received link.receiver) link.newer = ap (rounds_left fates link.late link.older link.newer (received link.receiver)) e in
        omega (arith, now, by_newer link.newer back)
    by_left (suc (suc n)) e =
        let now : hope fates link ≡ due_in fates link.late (received link.receiver) link.older + (length fates + 1) =
        ap (rounds_left fates link.late link.older link.newer (received link.receiver)) e in
        omega (arith, now)
