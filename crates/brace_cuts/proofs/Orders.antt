-- Lines by rising tick: the last that is not later than a tick.
use Rattle.std.proofs.Common.{◌≡◌, ◌∙◌, ℕ, zero, suc, ◌+◌, ◌-◌, ◌<◌, ◌≤◌, List, [], ◌∷◌, length, get_or, take, true, false, refl, sym, ap, subst, arith, Option, Some, None}
use Rattle.std.specs.Prelude.{nat_le, slice_get, slice_index, option_map, unwrap_or}
use Rattle.std.specs.List.{last_or}
use Rattle.std.specs.List.Sorted.{IsStrictlyIncreasing, IsPartitionedBy}
use Rattle.std.proofs.lemmas.Bool.Decides.{nat_tests}
use Rattle.std.proofs.lemmas.List.{length-map, get_or-map, length-take-le, get_or-take}
use Rattle.std.proofs.lemmas.Option.{same_Some}
use Rattle.brace_cuts.specs.declared.plan.CutLine.{CutLine}
use Rattle.brace_cuts.specs.declared.plan.CutPlan.{CutPlan}
use Rattle.brace_cuts.specs.Space.{cuts_at, no_cuts}
use Rattle.brace_cuts.specs.CutPlans.{ticks_of, IsInOrder}
use Rattle.brace_cuts.proofs.Strips.{filter_is_front}

-- the last of some items
pub last_is : {X : Type 0} (o : Option X) (xs : List X) (i : ℕ) (d : X) → length xs ≡ i + 1 → last_or o xs ≡ Some (get_or xs i d)
last_is o [] i d e = absurd (omega (arith, e))
last_is o (x ∷ []) zero d e = refl
last_is o (x ∷ []) (suc i) d e = absurd (omega (arith, e))
last_is o (x ∷ y ∷ xs) zero d e = absurd (omega (arith, e))
last_is o (x ∷ y ∷ xs) (suc i) d e = last_is (Some x) (y ∷ xs) i d (omega (arith, e))

last_from : {X : Type 0} (o : Option X) (x : X) (xs : List X) → o ≡ Some x → slice_get (x ∷ xs) (length xs) ≡ last_or o xs
last_from o x [] e = sym e
last_from o x (y ∷ xs) e = last_from (Some y) y xs refl

-- there is a last item where there is one
pub last_at : {X : Type 0} (xs : List X) → slice_get xs (length xs - 1) ≡ last_or None xs
last_at [] = refl
last_at (x ∷ xs) = let e : length (x ∷ xs) - 1 ≡ length xs = omega arith in ap (slice_get (x ∷ xs)) e ∙ last_from (Some x) x xs refl

-- ticks that rise from each to the next rise altogether
rising : (ticks : List ℕ) (i k : ℕ) → IsStrictlyIncreasing ticks → i + k < length ticks → slice_index ticks i ≤ slice_index ticks (i + k)
rising ticks i zero up below = let e : i + 0 ≡ i = omega arith in subst (λ n. slice_index ticks i ≤ slice_index ticks n) (sym e) (omega arith)
rising ticks i (suc k) up below =
    let e : i + suc k ≡ i + k + 1 = omega arith in
    let before = rising ticks i k up (omega (arith, below)) in
    let step = up (i + k) (omega (arith, below)) in
    subst (λ n. slice_index ticks i ≤ slice_index ticks n) (sym e) (omega (arith, before, step))

tick_at : (lines : List CutLine) (i : ℕ) (d : CutLine) → i < length lines → slice_index (ticks_of lines) i ≡ (get_or lines i d).tick
tick_at lines i d below = get_or-map (λ line. line.tick) lines i d 0 below

lines_rise : (lines : List CutLine) (i j : ℕ) (d : CutLine) → IsStrictlyIncreasing (ticks_of lines) → i ≤ j → j < length lines → (get_or lines i d).tick ≤ (get_or lines j d).tick
lines_rise lines i j d up le below =
    let e : i + (j - i) ≡ j = omega arith in
    let long = length-map lines (λ line. line.tick) in
    let r = rising (ticks_of lines) i (j - i) up (omega (arith, long, below)) in
    omega (arith, subst (λ n. slice_index (ticks_of lines) i ≤ slice_index (ticks_of lines) n) e r, tick_at lines i d (omega (arith, le, below)), tick_at lines j d below)

le_test : (a b t : ℕ) → a ≤ b → nat_le b t ≡ true → nat_le a t ≡ true
le_test a b t le e = grind (arith, nat_tests)

-- the lines that are not later than a tick come first
pub lines_are_parted : (lines : List CutLine) (tick : ℕ) → IsStrictlyIncreasing (ticks_of lines) → IsPartitionedBy (λ line. nat_le line.tick tick) lines
lines_are_parted lines tick up i j d le below is = le_test _ _ tick (lines_rise lines i j d up le below) is

zero_le : (t : ℕ) → nat_le 0 t ≡ true
zero_le t = grind (arith, nat_tests)

-- the first line is never later
pub first_is_not_later : (lines : List CutLine) (tick : ℕ) (d : CutLine) → IsInOrder lines → (0 < length lines) × (nat_le (get_or lines 0 d).tick tick ≡ true)
first_is_not_later [] tick d order = absurd (cc (order.begins))
first_is_not_later (line ∷ lines) tick d order =
    let first : line.tick ≡ 0 = same_Some line.tick 0 order.begins in
    (omega arith, ap (λ n. nat_le n tick) first ∙ zero_le tick)

-- so some line is not later
pub some_line : (lines : List CutLine) (tick n : ℕ) → IsInOrder lines
    → ((k : ℕ) (d : CutLine) → n ≤ k → k < length lines → nat_le (get_or lines k d).tick tick ≡ false) → 1 ≤ n
some_line lines tick zero order isnt =
    let d : CutLine = record { tick = 0; cuts = no_cuts } in
    let (some, first) = first_is_not_later lines tick d order in
    let other = isnt 0 d (omega arith) some in
    absurd (cc (first, other))
some_line lines tick (suc n) order isnt = omega arith

-- the cuts of the last line that is not later
pub cuts_of_last : (plan : CutPlan) (tick n i : ℕ) (d : CutLine) → n ≡ i + 1 → n ≤ length plan.lines
    → ((k : ℕ) (e : CutLine) → k < n → nat_le (get_or plan.lines k e).tick tick ≡ true)
    → ((k : ℕ) (e : CutLine) → n ≤ k → k < length plan.lines → nat_le (get_or plan.lines k e).tick tick ≡ false)
    → (get_or plan.lines i d).cuts ≡ cuts_at plan tick
cuts_of_last plan tick n i d e within is isnt =
    let front = filter_is_front (λ line. nat_le line.tick tick) plan.lines n within is isnt in
    let last : last_or None (take n plan.lines) ≡ Some (get_or plan.lines i d) =
    last_is None (take n plan.lines) i d (length-take-le n plan.lines within ∙ e) ∙ ap Some (get_or-take n plan.lines i d (omega (arith, e))) in
    ap (λ o. unwrap_or (option_map (λ line. line.cuts) o) no_cuts) (sym (ap (last_or None) front ∙ last))
