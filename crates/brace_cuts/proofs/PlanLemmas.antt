-- A line of the form without a fault behind a plan's lines makes a plan with them.
use Rattle.std.proofs.Common.{◌≡◌, ◌∙◌, ℕ, zero, suc, ◌+◌, ◌-◌, ◌<◌, ◌≤◌, ◌^◌, ◌%◌, ℤ, List, [], ◌∷◌, ◌++◌, length, get_or, take, drop, Bool, true, false, refl, sym, ap, ap₂, subst, arith, ⊎_elim, Option, Some, None, length-append}
use Rattle.std.specs.Prelude.{nat_lt, nat_le, ◌==◌, ◌&&◌, not, if◌then◌else◌, filter_map, is_some, slice_get, slice_index, unwrap_or, codes, position}
use Rattle.std.specs.List.{list_all, last_or, cons_option}
use Rattle.std.specs.List.Sorted.{IsStrictlyIncreasing}
use Rattle.std.specs.Str.{bytes_eq}
use Rattle.std.proofs.Math.Seq.{get_or-append_seam}
use Rattle.std.proofs.lemmas.Bool.{cases_lt, and_parts}
use Rattle.std.proofs.lemmas.Bool.Decides.{nat_tests}
use Rattle.std.proofs.lemmas.List.{length-map, get_or-map, map-append, get_or_append_left}
use Rattle.brace_num.specs.Spelling.{count_of, fixed_of}
use Rattle.brace_cuts.specs.declared.plan.CutLine.{CutLine}
use Rattle.brace_cuts.specs.declared.kinds.PlanKind.TheVariants.{NotRising, OffEpoch, OtherCount, TooMany}
use Rattle.brace_cuts.specs.Space.{rises, can_cut, parts_of}
use Rattle.brace_cuts.specs.CutPlans.{tick_in_range, cut_in_range, cut_of, cuts_of, parts_in, line_with, line_around, line_in, line_of, is_later, is_rising, are_alike, fault_of, ticks_of, IsPlanLine, IsPlan}
use Rattle.brace_cuts.proofs.Orders.{last_is}

-- what a line of the form is made of
record Formed (line : CutLine) : Type 0 where
  low : nat_le line.tick (2 ^ 32) ≡ true
  xs : list_all can_cut line.cuts.xs ≡ true
  ys : list_all can_cut line.cuts.ys ≡ true

low_tick : (b : Bool) (m n : ℕ) → nat_le m (2 ^ 32) ≡ b → (if b then Some m else None) ≡ Some n → nat_le n (2 ^ 32) ≡ true
low_tick true m n e h = let same : m ≡ n = cc in subst (λ k. nat_le k (2 ^ 32) ≡ true) same e
low_tick false m n e h = absurd (cc)

tick_is_low : (o : Option ℕ) (n : ℕ) → tick_in_range o ≡ Some n → nat_le n (2 ^ 32) ≡ true
tick_is_low None n h = absurd (cc)
tick_is_low (Some m) n h = low_tick (nat_le m (2 ^ 32)) m n refl h

high_cut : (b : Bool) (m n : ℤ) → can_cut m ≡ b → (if b then Some m else None) ≡ Some n → can_cut n ≡ true
high_cut true m n e h = let same : m ≡ n = cc in subst (λ k. can_cut k ≡ true) same e
high_cut false m n e h = absurd (cc)

cut_is_high : (o : Option ℤ) (n : ℤ) → cut_in_range o ≡ Some n → can_cut n ≡ true
cut_is_high None n h = absurd (cc)
cut_is_high (Some m) n h = high_cut (can_cut m) m n refl h

with_one : (o : Option ℤ) (cuts : List ℤ) → ((n : ℤ) → o ≡ Some n → can_cut n ≡ true) → list_all can_cut cuts ≡ true → list_all can_cut (cons_option o cuts) ≡ true
with_one None cuts h all = all
with_one (Some c) cuts h all = ap₂ (λ p q. p && q) (h c refl) all

all_are_high : (texts : List (List ℕ)) → list_all can_cut (filter_map cut_of texts) ≡ true
all_are_high [] = refl
all_are_high (text ∷ texts) = with_one (cut_of text) (filter_map cut_of texts) (λ n e. cut_is_high (fixed_of text) n e) (all_are_high texts)

cuts_with : (b : Bool) (texts : List (List ℕ)) (cuts : List ℤ) → (if b then Some (filter_map cut_of texts) else None) ≡ Some cuts → list_all can_cut cuts ≡ true
cuts_with true texts cuts h = let same : filter_map cut_of texts ≡ cuts = cc in subst (λ l. list_all can_cut l ≡ true) same (all_are_high texts)
cuts_with false texts cuts h = absurd (cc)

cuts_are_high : (texts : List (List ℕ)) (cuts : List ℤ) → cuts_of texts ≡ Some cuts → list_all can_cut cuts ≡ true
cuts_are_high texts cuts h = cuts_with (list_all (λ text. is_some (cut_of text)) texts) texts cuts h

with_parts : (t : Option ℕ) (xs ys : Option (List ℤ)) (line : CutLine) → ((n : ℕ) → t ≡ Some n → nat_le n (2 ^ 32) ≡ true)
    → ((l : List ℤ) → xs ≡ Some l → list_all can_cut l ≡ true) → ((l : List ℤ) → ys ≡ Some l → list_all can_cut l ≡ true)
    → line_with t xs ys ≡ Some line → Formed line
with_parts None xs ys line a b d h = absurd (cc)
with_parts (Some n) None ys line a b d h = absurd (cc)
with_parts (Some n) (Some xs) None line a b d h = absurd (cc)
with_parts (Some n) (Some xs) (Some ys) line a b d h =
    let same : record { tick = n; cuts = record { xs = xs; ys = ys } } ≡ line = cc in
    subst Formed same (record { low = a n refl; xs = b xs refl; ys = d ys refl })

around : (tick : List ℕ) (cuts : List (List ℕ)) (y : Option ℕ) (line : CutLine) → line_around tick cuts y ≡ Some line → Formed line
around tick cuts None line h = absurd (cc)
around tick cuts (Some y) line h =
    with_parts _ _ _ line (λ n e. tick_is_low (count_of tick) n e) (λ l e. cuts_are_high (take y cuts) l e) (λ l e. cuts_are_high (drop (y + 1) cuts) l e) h

in_form : (b : Bool) (tick : List ℕ) (cuts : List (List ℕ)) (y : Option ℕ) (line : CutLine) → (if b then line_around tick cuts y else None) ≡ Some line → Formed line
in_form true tick cuts y line h = around tick cuts y line h
in_form false tick cuts y line h = absurd (cc)

formed_in : (parts : List (List ℕ)) (line : CutLine) → line_in parts ≡ Some line → Formed line
formed_in (at ∷ tick ∷ x ∷ cuts) line h =
    in_form (bytes_eq at (codes "at") && bytes_eq x (codes "x")) tick cuts (position (λ part. bytes_eq part (codes "y")) cuts) line h
formed_in _ line h = absurd (cc)

-- what a line without a fault passes
record Judged (epoch : ℕ) (earlier : List CutLine) (line : CutLine) : Type 0 where
  rising : is_rising earlier line ≡ true
  on_epoch : (line.tick % epoch == 0) ≡ true
  alike : are_alike (unwrap_or (slice_get earlier 0) line) line ≡ true
  few : nat_lt 64 (parts_of line.cuts) ≡ false

four_tests : (a b d e : Bool) → (if not a then Some NotRising else if not b then Some OffEpoch else if not d then Some OtherCount else if e then Some TooMany else None) ≡ None
    → (a ≡ true) × (b ≡ true) × (d ≡ true) × (e ≡ false)
four_tests true true true false h = (refl, refl, refl, refl)
four_tests true true true true h = absurd (cc)
four_tests true true false e h = absurd (cc)
four_tests true false d e h = absurd (cc)
four_tests false b d e h = absurd (cc)

judged : (epoch : ℕ) (earlier : List CutLine) (line : CutLine) → fault_of epoch earlier line ≡ None → Judged epoch earlier line
judged epoch earlier line h =
    let (a, b, d, e) = four_tests (is_rising earlier line) (line.tick % epoch == 0) (are_alike (unwrap_or (slice_get earlier 0) line) line) (nat_lt 64 (parts_of line.cuts)) h in
    record { rising = a; on_epoch = b; alike = d; few = e }

-- what is known of the lines so far
pub record PlanSoFar (epoch : ℕ) (lines : List CutLine) : Type 0 where
  pub begins : 0 < length lines → slice_get (ticks_of lines) 0 ≡ Some 0
  pub goes_on : IsStrictlyIncreasing (ticks_of lines)
  pub each : (n : ℕ) (first line : CutLine) → slice_get lines 0 ≡ Some first → slice_get lines n ≡ Some line → IsPlanLine epoch first line

pub none_so_far : (epoch : ℕ) → PlanSoFar epoch []
none_so_far epoch = record {
  begins = λ h. absurd (omega (arith, h));
  goes_on = λ k h. absurd (omega (arith, h));
  each = λ n first line e f. absurd (cc (e));
}

is_zero : (n : ℕ) → (n == 0) ≡ true → n ≡ 0
is_zero n e = grind (arith, nat_tests)

at_most : (n : ℕ) → nat_lt 64 n ≡ false → n ≤ 64
at_most n e = grind (arith, nat_tests)

lt_of : (m n : ℕ) → nat_lt m n ≡ true → m < n
lt_of m n e = grind (arith, nat_tests)

new_line : (epoch : ℕ) (earlier : List CutLine) (first line : CutLine) → Formed line → Judged epoch earlier line → unwrap_or (slice_get earlier 0) line ≡ first → IsPlanLine epoch first line
new_line epoch earlier first line f j e =
    let (both, later) = and_parts (rises line.cuts.xs && rises line.cuts.ys) (is_later (last_or None earlier) line.tick) j.rising in
    let (xs, ys) = and_parts (rises line.cuts.xs) (rises line.cuts.ys) both in
    record {
      tick_ends_an_epoch = is_zero (line.tick % epoch) j.on_epoch;
      tick_is_low = f.low;
      is_like_the_first = ap (λ l. are_alike l line) (sym e) ∙ j.alike;
      cuts_are_lawful = record { xs_rise = xs; ys_rise = ys; xs_can_cut = f.xs; ys_can_cut = f.ys; parts_are_few = at_most (parts_of line.cuts) j.few };
    }

-- an item of a list with one more at its end
at_front : {X : Type 0} (xs : List X) (x y : X) (n : ℕ) → n < length xs → slice_get (xs ++ x ∷ []) n ≡ Some y → slice_get xs n ≡ Some y
at_front [] x y n below e = absurd (omega (arith, below))
at_front (z ∷ xs) x y zero below e = e
at_front (z ∷ xs) x y (suc n) below e = at_front xs x y n (omega (arith, below)) e

at_end : {X : Type 0} (xs : List X) (x y : X) (n : ℕ) → length xs ≤ n → slice_get (xs ++ x ∷ []) n ≡ Some y → x ≡ y
at_end [] x y zero over e = cc
at_end [] x y (suc n) over e = absurd (cc (e))
at_end (z ∷ xs) x y zero over e = absurd (omega (arith, over))
at_end (z ∷ xs) x y (suc n) over e = at_end xs x y n (omega (arith, over)) e

-- the first of a list with one more at its end
first_of : {X : Type 0} (xs : List X) (x y : X) → slice_get (xs ++ x ∷ []) 0 ≡ Some y → unwrap_or (slice_get xs 0) x ≡ y
first_of [] x y e = cc
first_of (z ∷ xs) x y e = cc

-- ticks go on by a later one
later_tick : (ticks : List ℕ) (t : ℕ) → IsStrictlyIncreasing ticks → (0 < length ticks → slice_index ticks (length ticks - 1) < t) → IsStrictlyIncreasing (ticks ++ t ∷ [])
later_tick ticks t up last k below =
    let long : k + 1 < length ticks + 1 = omega (arith, below, length-append ticks (t ∷ [])) in
    ⊎_elim
    (λ (inside : k + 1 < length ticks).
    let a = get_or_append_left ticks (t ∷ []) 0 k (omega (arith, inside)) in
    let b = get_or_append_left ticks (t ∷ []) 0 (k + 1) inside in
    omega (arith, a, b, up k inside))
    (λ (over : length ticks ≤ k + 1).
    let here : k + 1 ≡ length ticks = omega (arith, over, long) in
    let a = get_or_append_left ticks (t ∷ []) 0 k (omega (arith, here)) in
    let b : slice_index (ticks ++ t ∷ []) (k + 1) ≡ t = ap (slice_index (ticks ++ t ∷ [])) here ∙ get_or-append_seam ticks t [] 0 in
    let c : slice_index ticks k < t = let e : length ticks - 1 ≡ k = omega (arith, here) in subst (λ n. slice_index ticks n < t) e (last (omega (arith, here))) in
    omega (arith, a, b, c))
    (cases_lt (k + 1) (length ticks))

-- the last tick is below that of a later line
last_below : (earlier : List CutLine) (tick : ℕ) → is_later (last_or None earlier) tick ≡ true → 0 < length (ticks_of earlier) → slice_index (ticks_of earlier) (length (ticks_of earlier) - 1) < tick
last_below [] tick later some = absurd (omega (arith, some))
last_below (d ∷ earlier) tick later some =
    let lines = d ∷ earlier in
    let long = length-map lines (λ line. line.tick) in
    let e : length (ticks_of lines) - 1 ≡ length earlier = omega (arith, long) in
    let last = last_is None lines (length earlier) d (omega arith) in
    let test : nat_lt (get_or lines (length earlier) d).tick tick ≡ true = sym (ap (λ o. is_later o tick) last) ∙ later in
    let at = get_or-map (λ line. line.tick) lines (length earlier) d 0 (omega arith) in
    subst (λ n. slice_index (ticks_of lines) n < tick) (sym e) (omega (arith, at, lt_of _ _ test))

first_tick : (earlier : List CutLine) (line : CutLine) → is_later (last_or None earlier) line.tick ≡ true → (0 < length earlier → slice_get (ticks_of earlier) 0 ≡ Some 0)
    → slice_get (ticks_of (earlier ++ line ∷ [])) 0 ≡ Some 0
first_tick [] line later begins = ap Some (is_zero line.tick later)
first_tick (d ∷ earlier) line later begins = begins (omega arith)

old_first : {X : Type 0} (xs : List X) (x y : X) → 0 < length xs → unwrap_or (slice_get xs 0) x ≡ y → slice_get xs 0 ≡ Some y
old_first [] x y some e = absurd (omega (arith, some))
old_first (z ∷ xs) x y some e = ap Some e

each_more : (epoch : ℕ) (earlier : List CutLine) (line : CutLine) → Formed line → Judged epoch earlier line → PlanSoFar epoch earlier
    → (n : ℕ) (first other : CutLine) → slice_get (earlier ++ line ∷ []) 0 ≡ Some first → slice_get (earlier ++ line ∷ []) n ≡ Some other → IsPlanLine epoch first other
each_more epoch earlier line f j p n first other is_first is_other =
    let same_first = first_of earlier line first is_first in
    ⊎_elim
    (λ (inside : n < length earlier). p.each n first other (old_first earlier line first (omega (arith, inside)) same_first) (at_front earlier line other n inside is_other))
    (λ (over : length earlier ≤ n). subst (IsPlanLine epoch first) (at_end earlier line other n over is_other) (new_line epoch earlier first line f j same_first))
    (cases_lt n (length earlier))

-- one line more
pub more_so_far : (epoch : ℕ) (earlier : List CutLine) (line : CutLine) (text : List ℕ) → line_of text ≡ Some line → fault_of epoch earlier line ≡ None
    → PlanSoFar epoch earlier → PlanSoFar epoch (earlier ++ line ∷ [])
more_so_far epoch earlier line text form none p =
    let f = formed_in (parts_in text) line form in
    let j = judged epoch earlier line none in
    let (both, later) = and_parts (rises line.cuts.xs && rises line.cuts.ys) (is_later (last_or None earlier) line.tick) j.rising in
    record {
      begins = λ h. first_tick earlier line later p.begins;
      goes_on = subst IsStrictlyIncreasing (sym (map-append (λ (l : CutLine). l.tick) earlier (line ∷ []))) (later_tick (ticks_of earlier) line.tick p.goes_on (last_below earlier line.tick later));
      each = λ n first other is_first is_other. each_more epoch earlier line f j p n first other is_first is_other;
    }

-- a plan
pub whole_plan : (epoch : ℕ) (lines : List CutLine) → 0 < length lines → PlanSoFar epoch lines → IsPlan epoch (record { lines = lines })
whole_plan epoch lines some p = record { in_order = record { begins = p.begins some; goes_on = p.goes_on }; lines_are_lawful = p.each }
