-- The schedule of a run is lawful.
use Rattle.std.proofs.Common.{◌≡◌, ◌∙◌, refl, ap, ap₂, ℕ, ◌+◌, ◌-◌, ℤ, pos, false, ◌==◌, ◌&&◌, not, arith}
use Rattle.std.specs.Prelude.{if◌then◌else◌, filter, slice_index_or, nat_lt, int_le, ◌-ℤ◌}
use Rattle.std.specs.Int.{int_max}
use Rattle.std.proofs.lemmas.Bool.{eq-eqb, and_left}
use Rattle.std.proofs.lemmas.List.Elements.{All-map}
use Rattle.brace_num.specs.declared.kinds.Area.{Area}
use Rattle.brace_num.specs.Areas.{apart, gap}
use Rattle.brace_core.specs.Schedule.{IsLawful, IsLawfulStep}
use Rattle.brace_cuts.specs.declared.space.Cuts.{Cuts}
use Rattle.brace_cuts.specs.Space.{area_of}
use Rattle.brace_pieces.specs.declared.setting.Setting.{Setting}
use Rattle.brace_pieces.specs.declared.setting.Stage.{Stage}
use Rattle.brace_pieces.specs.declared.setting.Stage.TheVariants.{Hand, Census, Show}
use Rattle.brace_pieces.specs.declared.setting.Step.{Step}
use Rattle.brace_pieces.specs.Settings.{parts, range, greatest_reach, cuts_of}
use Rattle.brace_pieces.specs.Steps.{schedule, steps, pairs_below, meet, parts_meet, may_reach, are_recut, share, is_show}
use Rattle.brace_pieces.proofs.Pairs.{lawful_where}
use Rattle.std.proofs.Math.Bool.{or_comm}
use Rattle.brace_num.proofs.Booleans.{and_swap}
use Rattle.brace_num.proofs.Numbers.{eq_swap}

max_either_way : (a b : ℤ) → int_max a b ≡ int_max b a
max_either_way a b = grind (arith)

apart_either_way : (a b c d : ℤ) → apart a b c d ≡ apart c d a b
apart_either_way a b c d = ap (int_max (pos 0)) (max_either_way (a -ℤ d) (c -ℤ b))

gap_either_way : (a b : Area) → gap a b ≡ gap b a
gap_either_way a b = ap₂ int_max (apart_either_way a.x0 a.x1 b.x0 b.x1) (apart_either_way a.y0 a.y1 b.y0 b.y1)

reach_either_way : (s : Setting) (tick p q : ℕ) → may_reach s tick p q ≡ may_reach s tick q p
reach_either_way s tick p q =
    let cuts : Cuts = cuts_of s tick in
    ap (λ g. int_le g (int_max (range s) (greatest_reach s.job.program))) (gap_either_way (area_of cuts p) (area_of cuts q))

recut_either_way : (s : Setting) (tick p q : ℕ) → are_recut s tick p q ≡ are_recut s tick q p
recut_either_way s tick p q =
    let before : Cuts = cuts_of s (tick - 1) in
    let after : Cuts = cuts_of s tick in
    or_comm (share before p after q) (share before q after p)

pub parts_either_way : (s : Setting) (stage : Stage) (tick p q : ℕ) → parts_meet s (record { stage = stage; tick = tick }) p q ≡ parts_meet s (record { stage = stage; tick = tick }) q p
parts_either_way s Hand tick p q = recut_either_way s tick p q
parts_either_way s Census tick p q = refl
parts_either_way s Show tick p q = refl
parts_either_way s _ tick p q = reach_either_way s tick p q

meet_either_way : (s : Setting) (at : Step) (p q : ℕ) → meet s at p q ≡ meet s at q p
meet_either_way s at p q =
    ap₂ (λ a b. not a && b) (eq_swap p q)
    (ap (λ c. if c then parts_meet s at p q else is_show at.stage) (and_swap (nat_lt p (parts s)) (nat_lt q (parts s)))
    ∙ ap (λ m. if nat_lt q (parts s) && nat_lt p (parts s) then m else is_show at.stage) (parts_either_way s at.stage at.tick p q))

pub meets_no_self : (s : Setting) (at : Step) (p : ℕ) → meet s at p p ≡ false
meets_no_self s at p = and_left (not (p == p)) (if nat_lt p (parts s) && nat_lt p (parts s) then parts_meet s at p p else is_show at.stage) (ap not (eq-eqb p p refl))

pub schedule_lawful : (s : Setting) → IsLawful (schedule s)
schedule_lawful s =
    let step_lawful : (at : Step) → IsLawfulStep (parts s + 1) (filter (λ m. meet s at m.from m.to) (pairs_below (parts s + 1))) = λ at. lawful_where (meet s at) (parts s + 1) (meets_no_self s at) (meet_either_way s at) in
    All-map (IsLawfulStep (parts s + 1)) (λ at. filter (λ m. meet s at m.from m.to) (pairs_below (parts s + 1))) (steps s) (λ i d low. step_lawful (slice_index_or (steps s) i d))
