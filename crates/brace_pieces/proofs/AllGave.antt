-- What all parts give in all steps, kind by kind, is what the whole worlds say.
use Rattle.std.proofs.Common.{◌≡◌, ◌∙◌, refl, sym, ap, ap₂, ℕ, ◌+◌, ◌-◌, ◌<◌, ◌≤◌, List, [], ◌∷◌, ◌++◌, map, filter, flat_map, take, length, Bool, true, false, cond, not, ◌&&◌, ◌==◌, Ok, arith, append-nil, true≢false, take_all}
use Rattle.std.specs.Prelude.{sum, sum_by, nat_lt, if◌then◌else◌}
use Rattle.std.specs.List.{range_with_len}
use Rattle.std.proofs.lemmas.Bool.{and_right, eq-eqb, le-ltb}
use Rattle.std.proofs.lemmas.List.Sums.{sum_by-cons, sum_by-append, sum-map}
use Rattle.brace_core.proofs.CoreLaw.{sum_agree}
use Rattle.brace_model.specs.Next.{has_births}
use Rattle.brace_model.specs.Run.{world_after}
use Rattle.brace_pieces.specs.declared.setting.Setting.{Setting}
use Rattle.brace_pieces.specs.declared.setting.Stage.TheVariants.{Hand, Border, Effects, Census, Move, Show}
use Rattle.brace_pieces.specs.declared.setting.Step.{Step}
use Rattle.brace_pieces.specs.Settings.{LawfulSetting, cuts_of, parts, is_end}
use Rattle.brace_pieces.specs.Steps.{step, made_if, is_recut, show, steps_in, steps, met, meet, parts_meet, is_show}
use Rattle.brace_pieces.specs.Numbers.{NumbersFit}
use Rattle.brace_pieces.specs.Continued.{on}
use Rattle.brace_pieces.specs.Right.{border, handed, moved, shares}
use Rattle.brace_pieces.specs.Counts.{agents_at, over_pairs, over_ticks, changing, count_border, count_effects, count_moved, count_handed}
use Rattle.brace_pieces.proofs.CourseLemmas.{kept_more}
use Rattle.brace_pieces.proofs.PlaceLemmas.{shape}
use Rattle.brace_pieces.specs.Given.{lived, given_in, all_given}
use Rattle.brace_pieces.proofs.SumLemmas.{sum_swap, sum_flat, sum_kept}
use Rattle.brace_pieces.proofs.GaveLemmas.{meet_is, handed_changing, no_handed, no_border, no_shares, moved_changing, no_moved}
use Rattle.brace_num.proofs.Lists.{sum_none, sum_alike}
use Rattle.brace_num.proofs.Rows.{in_row}

-- numbers from one on are so many less
module _ (s : Setting) where
  abbrev numbers : List ℕ
  numbers = range_with_len 0 (parts s)

  abbrev ticks : List ℕ
  ticks = range_with_len s.job.first (s.job.last - s.job.first)

  -- ---- over those that a part meets

  module _ (at : Step) (nothing_shown : is_show at.stage ≡ false) (p : ℕ) (part : p < parts s) where
    publisher : meet s at p (parts s) ≡ false
    publisher =
        ap (λ v. not (p == parts s) && (if nat_lt p (parts s) && v then parts_meet s at p (parts s) else is_show at.stage)) (le-ltb (parts s) (parts s) (omega arith))
        ∙ ap (λ v. not (p == parts s) && v) (if_none (nat_lt p (parts s)) (parts_meet s at p (parts s)) (is_show at.stage) ∙ nothing_shown)
        ∙ and_right (not (p == parts s)) false refl
      where
        if_none : (a b c : Bool) → (if a && false then b else c) ≡ c
        if_none true b c = refl
        if_none false b c = refl

    -- where a part gives nothing to those that it does not meet, it gives to those it meets what it gives to all others
    over_met : (f : ℕ → ℕ) → ((q : ℕ) → q < parts s → (p ≡ q → ⊥) → parts_meet s at p q ≡ false → f q ≡ 0) → sum_by f (met s at p) ≡ sum_by f (filter (λ q. not (p == q)) numbers)
    over_met f none =
        ap (sum_by f) (kept_more (meet s at p) (parts s) ∙ ap (λ v. filter (meet s at p) numbers ++ cond v (parts s ∷ []) []) publisher ∙ append-nil (filter (meet s at p) numbers))
        ∙ sum_kept f (meet s at p) (λ q. not (p == q)) numbers (λ q has.
        let (from, high) = in_row 0 (parts s) q has in
        let low : q < parts s = omega (arith, high) in
        ap (λ v. cond v (f q) 0) (meet_is s at p q part low) ∙ by_tests q (p == q) (parts_meet s at p q) refl refl (none q low))
      where
        by_tests : (q : ℕ) (v m : Bool) → (p == q) ≡ v → parts_meet s at p q ≡ m → ((p ≡ q → ⊥) → parts_meet s at p q ≡ false → f q ≡ 0) → cond (not v && m) (f q) 0 ≡ cond (not v) (f q) 0
        by_tests q true m same meets none = refl
        by_tests q false true same meets none = refl
        by_tests q false false same meets none = sym (none (λ e. true≢false (sym (eq-eqb p q e) ∙ same)) meets)

  -- over all pairs
  over_all : (at : Step) → is_show at.stage ≡ false → (f : ℕ → ℕ → ℕ) → ((p q : ℕ) → p < parts s → q < parts s → (p ≡ q → ⊥) → parts_meet s at p q ≡ false → f p q ≡ 0)
      → sum_by (λ p. sum_by (f p) (met s at p)) numbers ≡ over_pairs s f
  over_all at nothing_shown f none =
      sum_agree (λ p. sum_by (f p) (met s at p)) (λ p. sum (map (f p) (filter (λ q. not (p == q)) numbers))) 0 (parts s) (λ p low high.
      let part : p < parts s = omega (arith, high) in
      over_met at nothing_shown p part (f p) (λ q other apart meets. none p q part other apart meets) ∙ sym (sum-map (f p) (filter (λ q. not (p == q)) numbers)))
      ∙ sym (sum-map (λ p. sum (map (f p) (filter (λ q. not (p == q)) numbers))) numbers)

  -- ---- over all steps

  none_if : (c : Bool) (n : ℕ) → n ≡ 0 → cond c n 0 ≡ 0
  none_if true n none = none
  none_if false n none = refl

  module _ (f : Step → ℕ) (nothing_shown : (t : ℕ) → f (step Show t) ≡ 0) (nothing_told : (t : ℕ) → f (step Census t) ≡ 0) where
    made : (c : Bool) (at : Step) → sum_by f (made_if c at) ≡ cond c (f at) 0
    made true at = omega (arith, sum_by-cons f at [])
    made false at = refl

    none_shown : (t : ℕ) → sum_by f (show s t) ≡ 0
    none_shown t = made (is_end s t) (step Show t) ∙ by_end (is_end s t)
      where
        by_end : (c : Bool) → cond c (f (step Show t)) 0 ≡ 0
        by_end true = nothing_shown t
        by_end false = refl

    abbrev in_tick : ℕ → ℕ
    in_tick t = cond (is_recut s t) (f (step Hand t)) 0 + (f (step Border t) + (cond (not s.invert) (f (step Effects t)) 0 + f (step Move t)))

    of_tick : (t : ℕ) → sum_by f (steps_in s t) ≡ in_tick t
    of_tick t =
        let hand : List Step = made_if (is_recut s t) (step Hand t) in
        let effects : List Step = made_if (not s.invert) (step Effects t) in
        let census : List Step = made_if (has_births s.job.program) (step Census t) in
        let ending : List Step = step Move t ∷ show s (t + 1) in
        let born : sum_by f census ≡ 0 = made (has_births s.job.program) (step Census t) ∙ none_if (has_births s.job.program) (f (step Census t)) (nothing_told t) in
        let one = sum_by-append f hand (step Border t ∷ (effects ++ (census ++ ending))) in
        let two = sum_by-cons f (step Border t) (effects ++ (census ++ ending)) in
        let three = sum_by-append f effects (census ++ ending) in
        let four = sum_by-append f census ending in
        let five = sum_by-cons f (step Move t) (show s (t + 1)) in
        let first = made (is_recut s t) (step Hand t) in
        let second = made (not s.invert) (step Effects t) in
        let last = none_shown (t + 1) in
        ap (sum_by f) (shape s t) ∙ omega (arith, one, two, three, four, five, first, second, born, last)

    of_steps : (count : ℕ → ℕ) → ((t : ℕ) → s.job.first ≤ t → t < s.job.last → in_tick t ≡ count t) → sum_by f (steps s) ≡ over_ticks s count
    of_steps count each =
        let all = sum_flat f (steps_in s) ticks in
        let row = sum_agree (λ t. sum_by f (steps_in s t)) count s.job.first (s.job.last - s.job.first) (λ t low high. of_tick t ∙ each t low (omega (arith, low, high))) in
        let front = none_shown s.job.first in
        let both = sum_by-append f (show s s.job.first) (flat_map (steps_in s) ticks) in
        let listed = sum-map count ticks in
        omega (arith, all, row, front, both, listed)

  -- of each part in all steps
  of_parts : (f : ℕ → Step → ℕ) → sum_by (λ p. sum_by (f p) (take (length (steps s) + 1) (steps s))) numbers ≡ sum_by (λ at. sum_by (λ p. f p at) numbers) (steps s)
  of_parts f =
      let all : take (length (steps s) + 1) (steps s) ≡ steps s = take_all (length (steps s) + 1) (steps s) (omega arith) in
      ap (λ xs. sum_by (λ p. sum_by (f p) xs) numbers) all ∙ sum_swap f numbers (steps s)

  -- in a step of another kind nothing is given
  none_given : (at : Step) → sum_by (λ p. sum_by (λ q. 0) (met s at p)) numbers ≡ 0
  none_given at = sum_alike (λ p. sum_by (λ q. 0) (met s at p)) (λ p. 0) numbers (λ p has. sum_none (met s at p)) ∙ sum_none numbers

  -- ---- kind by kind

  module _ (lawful : LawfulSetting s) (fit : NumbersFit s)
      (runs : (t : ℕ) → s.job.first ≤ t → t ≤ s.job.last → world_after s.job (t - s.job.first) ≡ Ok (on s t)) where
    agents_are : (t : ℕ) → s.job.first ≤ t → t ≤ s.job.last → agents_at s t ≡ (on s t).agents
    agents_are t low high = rw (runs t low high) refl

    -- those of the next tick
    next_are : (t : ℕ) → s.job.first ≤ t → t < s.job.last → agents_at s (t + 1) ≡ (on s (t + 1)).agents
    next_are t low high = agents_are (t + 1) (omega (arith, low)) (omega (arith, high))

    now_are : (t : ℕ) → s.job.first ≤ t → t < s.job.last → agents_at s t ≡ (on s t).agents
    now_are t low high = agents_are t low (omega (arith, high))

    abbrev borders : Step → ℕ
    borders at = sum_by (λ p. (given_in s p at).border) numbers

    pub border_counted : (all_given s).border ≡ count_border s
    border_counted =
        of_parts (λ p at. (given_in s p at).border)
        ∙ of_steps borders (λ t. none_given (step Show t)) (λ t. none_given (step Census t)) (λ t. over_pairs s (λ p q. length (border s t p q (agents_at s t)))) (λ t low high.
        let pairs = over_all (step Border t) refl (λ p q. length (border s t p q (on s t).agents)) (λ p q other part apart meets. ap length (no_border s lawful fit t p q other part apart meets)) in
        let here = ap (λ l. over_pairs s (λ p q. length (border s t p q l))) (sym (now_are t low high)) in
        let hand = none_if (is_recut s t) (borders (step Hand t)) (none_given (step Hand t)) in
        let effects = none_if (not s.invert) (borders (step Effects t)) (none_given (step Effects t)) in
        let move = none_given (step Move t) in
        omega (arith, pairs, here, hand, effects, move))

    abbrev told : Step → ℕ
    told at = sum_by (λ p. (given_in s p at).effects) numbers

    abbrev all_told : ℕ
    all_told = over_ticks s (λ t. over_pairs s (λ p q. length (shares s t p q (agents_at s t))))

    told_by : (b : Bool) → s.invert ≡ b → sum_by told (steps s) ≡ (if b then 0 else all_told)
    told_by true is =
        of_steps told (λ t. none_given (step Show t)) (λ t. none_given (step Census t)) (λ t. 0) (λ t low high.
        let hand = none_if (is_recut s t) (told (step Hand t)) (none_given (step Hand t)) in
        let effects = ap (λ v. cond (not v) (told (step Effects t)) 0) is in
        let border = none_given (step Border t) in
        let move = none_given (step Move t) in
        omega (arith, hand, border, effects, move))
        ∙ sum-map (λ t. 0) ticks ∙ sum_none ticks
    told_by false is =
        of_steps told (λ t. none_given (step Show t)) (λ t. none_given (step Census t)) (λ t. over_pairs s (λ p q. length (shares s t p q (agents_at s t)))) (λ t low high.
        let pairs = over_all (step Effects t) refl (λ p q. length (shares s t p q (on s t).agents)) (λ p q other part apart meets. ap length (no_shares s lawful fit t p q other part apart is meets)) in
        let here = ap (λ l. over_pairs s (λ p q. length (shares s t p q l))) (sym (now_are t low high)) in
        let hand = none_if (is_recut s t) (told (step Hand t)) (none_given (step Hand t)) in
        let effects = ap (λ v. cond (not v) (told (step Effects t)) 0) is in
        let border = none_given (step Border t) in
        let move = none_given (step Move t) in
        omega (arith, pairs, here, hand, border, effects, move))

    pub effects_counted : (all_given s).effects ≡ count_effects s
    effects_counted = of_parts (λ p at. (given_in s p at).effects) ∙ told_by s.invert refl

    abbrev moves : Step → ℕ
    moves at = sum_by (λ p. (given_in s p at).moved) numbers

    pub moved_counted : (all_given s).moved ≡ count_moved s
    moved_counted =
        of_parts (λ p at. (given_in s p at).moved)
        ∙ of_steps moves (λ t. none_given (step Show t)) (λ t. none_given (step Census t)) (λ t. over_pairs s (λ p q. changing s.job.program (cuts_of s t) p (agents_at s t) (cuts_of s t) q (agents_at s (t + 1)))) (λ t low high.
        let pairs = over_all (step Move t) refl (λ p q. length (lived (on s t).next (moved s t p q (on s t)))) (λ p q other part apart meets. ap (λ l. length (lived (on s t).next l)) (no_moved s lawful fit t low p q other part apart meets)) in
        let each : (p q : ℕ) → length (lived (on s t).next (moved s t p q (on s t))) ≡ changing s.job.program (cuts_of s t) p (agents_at s t) (cuts_of s t) q (agents_at s (t + 1)) = λ p q.
        moved_changing s lawful fit t low p q
        ∙ ap₂ (λ a b. changing s.job.program (cuts_of s t) p a (cuts_of s t) q b) (sym (now_are t low high)) (sym (next_are t low high)) in
        let here = ap (over_pairs s) (λ i p q. each p q i) in
        let hand = none_if (is_recut s t) (moves (step Hand t)) (none_given (step Hand t)) in
        let effects = none_if (not s.invert) (moves (step Effects t)) (none_given (step Effects t)) in
        let border = none_given (step Border t) in
        omega (arith, pairs, here, hand, border, effects))

    abbrev hands : Step → ℕ
    hands at = sum_by (λ p. (given_in s p at).handed) numbers

    abbrev recut_in : ℕ → ℕ
    recut_in t = over_pairs s (λ p q. let all = agents_at s t in changing s.job.program (cuts_of s (t - 1)) p all (cuts_of s t) q all)

    pub handed_counted : (all_given s).handed ≡ count_handed s
    handed_counted =
        of_parts (λ p at. (given_in s p at).handed)
        ∙ of_steps hands (λ t. none_given (step Show t)) (λ t. none_given (step Census t)) (λ t. if is_recut s t then recut_in t else 0) (λ t low high.
        let pairs = over_all (step Hand t) refl (λ p q. length (handed s t p q (on s t).agents)) (λ p q other part apart meets. ap length (no_handed s lawful fit t p q other part apart meets)) in
        let each : (p q : ℕ) → length (handed s t p q (on s t).agents) ≡ changing s.job.program (cuts_of s (t - 1)) p (agents_at s t) (cuts_of s t) q (agents_at s t) = λ p q.
        handed_changing s lawful fit t p q ∙ ap (λ l. changing s.job.program (cuts_of s (t - 1)) p l (cuts_of s t) q l) (sym (now_are t low high)) in
        let here = ap (over_pairs s) (λ i p q. each p q i) in
        let hand = ap (λ n. cond (is_recut s t) n 0) (pairs ∙ here) in
        let effects = none_if (not s.invert) (hands (step Effects t)) (none_given (step Effects t)) in
        let border = none_given (step Border t) in
        let move = none_given (step Move t) in
        omega (arith, hand, border, effects, move))
