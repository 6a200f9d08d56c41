-- The cuts that hold in a tick of a lawful plan are lawful, and make as many parts in every tick.
use Rattle.std.proofs.Common.{◌≡◌, ◌∙◌, refl, sym, ap, ap₂, subst, ℕ, suc, ◌+◌, ◌*◌, ◌<◌, List, [], ◌∷◌, length, filter, Bool, true, false, cond, Option, Some, None, arith}
use Rattle.std.specs.Prelude.{slice_get, option_map, unwrap_or, nat_le, ◌==◌}
use Rattle.std.specs.List.{last_or}
use Rattle.std.proofs.lemmas.Bool.{and_parts, eqb-true}
use Rattle.brace_cuts.specs.declared.space.Cuts.{Cuts}
use Rattle.brace_cuts.specs.declared.plan.CutLine.{CutLine}
use Rattle.brace_cuts.specs.declared.plan.CutPlan.{CutPlan}
use Rattle.brace_cuts.specs.Space.{LawfulCuts, cuts_at, no_cuts, parts_of}
use Rattle.brace_cuts.specs.CutPlans.{ticks_of, IsPlan, are_alike}

-- the last item that a test keeps has what all items have
last_kept : {A : Type 0} (P : A → Type 0) (t : A → Bool) (o : Option A) (xs : List A)
    → ((x : A) → o ≡ Some x → P x) → ((n : ℕ) (x : A) → slice_get xs n ≡ Some x → P x)
    → (x : A) → last_or o (filter t xs) ≡ Some x → P x
last_kept P t o [] first each x e = first x e
last_kept P t o (y ∷ xs) first each x e = (elim (t y) as (λ v. last_or o (cond v (y ∷ filter t xs) (filter t xs)) ≡ Some x → P x) [
  | true ↦ last_kept P t (Some y) xs (λ z e. each 0 z e) (λ n z e. each (suc n) z e) x
  | false ↦ last_kept P t o xs first (λ n z e. each (suc n) z e) x
]) e

cuts_there : (P : Cuts → Type 0) (o : Option CutLine) → P no_cuts → ((line : CutLine) → o ≡ Some line → P line.cuts) → P (unwrap_or (option_map (λ line. line.cuts) o) no_cuts)
cuts_there P None none some = none
cuts_there P (Some line) none some = some line refl

no_cuts_lawful : LawfulCuts no_cuts
no_cuts_lawful = record { xs_rise = refl; ys_rise = refl; xs_can_cut = refl; ys_can_cut = refl; parts_are_few = omega arith }

-- a plan has a first line
first_of : (lines : List CutLine) → slice_get (ticks_of lines) 0 ≡ Some 0 → (line : CutLine) × (slice_get lines 0 ≡ Some line) × (line.tick ≡ 0)
first_of [] e = absurd (cc)
first_of (line ∷ lines) e = (line, refl, cc)

pub cuts_lawful : (epoch : ℕ) (plan : CutPlan) (tick : ℕ) → IsPlan epoch plan → LawfulCuts (cuts_at plan tick)
cuts_lawful epoch plan tick lawful =
    let (first, is_first, at_0) = first_of plan.lines lawful.in_order.begins in
    cuts_there LawfulCuts (last_or None (filter (λ line. nat_le line.tick tick) plan.lines)) no_cuts_lawful
    (last_kept (λ line. LawfulCuts line.cuts) (λ line. nat_le line.tick tick) None plan.lines (λ line e. absurd (cc)) (λ n line e. (lawful.lines_are_lawful n first line is_first e).cuts_are_lawful))

-- as many cuts along x and along y
abbrev AsMany : Cuts → Cuts → Type 0
AsMany a b = (length a.xs ≡ length b.xs) × (length a.ys ≡ length b.ys)

as_many : (a b : CutLine) → are_alike a b ≡ true → AsMany a.cuts b.cuts
as_many a b e =
    let (x, y) = and_parts (length a.cuts.xs == length b.cuts.xs) (length a.cuts.ys == length b.cuts.ys) e in
    (eqb-true _ _ x, eqb-true _ _ y)

as_many_parts : (a b : Cuts) → AsMany a b → parts_of a ≡ parts_of b
as_many_parts a b (x, y) = ap₂ (λ m n. (n + 1) * (m + 1)) x y

-- there is a last item behind one
last_some : {A : Type 0} (o : Option A) (x : A) (xs : List A) → o ≡ Some x → (y : A) × (last_or o xs ≡ Some y)
last_some o x [] e = (x, e)
last_some o x (y ∷ xs) e = last_some (Some y) y xs refl

parts_there : (o : Option CutLine) (n : ℕ) → ((line : CutLine) → o ≡ Some line → parts_of line.cuts ≡ n) → (line : CutLine) → o ≡ Some line → parts_of (unwrap_or (option_map (λ line. line.cuts) o) no_cuts) ≡ n
parts_there None n each line e = absurd (cc)
parts_there (Some other) n each line e = each other refl

-- where the first line's tick is 0 the lines up to a tick have a last one
last_line : (lines : List CutLine) (first : CutLine) (tick : ℕ) → slice_get lines 0 ≡ Some first → first.tick ≡ 0 → (line : CutLine) × (last_or None (filter (λ line. nat_le line.tick tick) lines) ≡ Some line)
last_line [] first tick e at_0 = absurd (cc)
last_line (line ∷ lines) first tick e at_0 =
    let same : line.tick ≡ 0 = ap (λ l. l.tick) (let it : line ≡ first = cc in it) ∙ at_0 in
    let low : nat_le line.tick tick ≡ true = grind (arith, same) in
    let kept : filter (λ line. nat_le line.tick tick) (line ∷ lines) ≡ line ∷ filter (λ line. nat_le line.tick tick) lines = ap (λ v. cond v (line ∷ filter (λ line. nat_le line.tick tick) lines) (filter (λ line. nat_le line.tick tick) lines)) low in
    let (last, is_last) = last_some (Some line) line (filter (λ line. nat_le line.tick tick) lines) refl in
    (last, ap (last_or None) kept ∙ is_last)

parts_at : (epoch : ℕ) (plan : CutPlan) (first : CutLine) (tick : ℕ) → IsPlan epoch plan → slice_get plan.lines 0 ≡ Some first → first.tick ≡ 0 → parts_of (cuts_at plan tick) ≡ parts_of first.cuts
parts_at epoch plan first tick lawful is_first at_0 =
    let lines : List CutLine = filter (λ line. nat_le line.tick tick) plan.lines in
    let (last, is_last) = last_line plan.lines first tick is_first at_0 in
    parts_there (last_or None lines) (parts_of first.cuts)
    (last_kept (λ line. parts_of line.cuts ≡ parts_of first.cuts) (λ line. nat_le line.tick tick) None plan.lines (λ line e. absurd (cc))
    (λ n line e. sym (as_many_parts first.cuts line.cuts (as_many first line ((lawful.lines_are_lawful n first line is_first e).is_like_the_first))))) last is_last

-- a plan makes as many parts in each tick
pub parts_stay : (epoch : ℕ) (plan : CutPlan) (tick other : ℕ) → IsPlan epoch plan → parts_of (cuts_at plan tick) ≡ parts_of (cuts_at plan other)
parts_stay epoch plan tick other lawful =
    let (first, is_first, at_0) = first_of plan.lines lawful.in_order.begins in
    parts_at epoch plan first tick lawful is_first at_0 ∙ sym (parts_at epoch plan first other lawful is_first at_0)

-- the cuts of a tick, under another name
pub lawful_as : (epoch : ℕ) (plan : CutPlan) (tick : ℕ) (cuts : Cuts) → cuts ≡ cuts_at plan tick → IsPlan epoch plan → LawfulCuts cuts
lawful_as epoch plan tick cuts is lawful = subst LawfulCuts (sym is) (cuts_lawful epoch plan tick lawful)

pub part_as : (epoch : ℕ) (plan : CutPlan) (first tick p : ℕ) (cuts : Cuts) → cuts ≡ cuts_at plan tick → IsPlan epoch plan → p < parts_of (cuts_at plan first) → p < parts_of cuts
part_as epoch plan first tick p cuts is lawful low = subst (λ n. p < n) (parts_stay epoch plan first tick lawful ∙ ap parts_of (sym is)) low
