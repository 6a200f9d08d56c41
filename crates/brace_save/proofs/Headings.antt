-- The lines of a heading, read one by one: where one is bad or missing, the file is judged so.
use Rattle.std.proofs.Common.{◌≡◌, ◌∙◌, ℕ, ◌+◌, ◌-◌, ◌^◌, ◌<◌, ◌≤◌, List, [], ◌∷◌, ◌++◌, length, take, map, Bool, true, false, refl, sym, ap, subst, arith, Result, Ok, Err}
use Rattle.std.specs.Prelude.{codes}
use Rattle.std.proofs.lemmas.List.{get_or-take, length-append, take-append-le, take_more_same}
use Rattle.brace_num.proofs.Options.{ok_not_err}
use Rattle.brace_model.specs.declared.program.Program.{Program}
use Rattle.brace_save.specs.declared.kinds.PointFault.TheVariants.{BadLine, NoMemory}
use Rattle.brace_save.specs.declared.kinds.PointFault.{PointFault}
use Rattle.brace_save.specs.Texts.{Moment, IsMoment, class_line, count_line, end_line, heading, lines}
use Rattle.brace_save.specs.Lines.{Begin, IsRead, heading_length}
use Rattle.brace_save.specs.inner.Steps.{IsCountAt, found, other, missing, no_memory, line, moment_of, place, version}
use Rattle.brace_save.proofs.Begins.{bare_is, bad_at, cut_at, first_lines, line_same, line_in, version_same, place_is, place_range, fault_before, heading_long, whole_long}

-- the first n lines are those of a heading
abbrev pub Headed : ℕ → Bool → ℕ → ℕ → ℕ → List (List ℕ) → Type 0
Headed n b tick seed next all = take n all ≡ take n (heading b (moment_of b tick seed next []))

-- what is told is in range
abbrev pub InRange : ℕ → ℕ → ℕ → Type 0
InRange tick seed next = (tick ≤ 2 ^ 32) × (seed < 2 ^ 64) × (next ≤ 2 ^ 63)

-- a line of a heading is one of a count
abbrev Counts : ℕ → Bool → List ℕ → ℕ → Type 0
Counts i b word most = (program : Program) (m : Moment) → IsMoment program b m → (n : ℕ) × (n ≤ most) × (line (lines program b m) i ≡ count_line word n)

pub tick_counts : (b : Bool) → Counts 1 b (codes "tick ") (2 ^ 32)
tick_counts true program m is = (m.tick, is.tick_in_range, refl)
tick_counts false program m is = (m.tick, is.tick_in_range, refl)

pub seed_counts : (b : Bool) → Counts 2 b (codes "seed ") (2 ^ 64 - 1)
seed_counts true program m is = let s = is.seed_in_range in (m.seed, omega (arith, s), refl)
seed_counts false program m is = let s = is.seed_in_range in (m.seed, omega (arith, s), refl)

pub next_counts : Counts 3 true (codes "next ") (2 ^ 63)
next_counts program m is = (m.world.next, is.numbered.in_range, refl)

pub heading_begins : (program : Program) (all : List (List ℕ)) (n : ℕ) (b : Bool) (tick seed next : ℕ) → n ≤ place b → InRange tick seed next → Headed n b tick seed next all → Begin program (take n all)
heading_begins program all n b tick seed next low range e =
    first_lines program all n b (moment_of b tick seed next []) (bare_is program b tick seed next range.0 range.1 range.2) (e ∙ same b n low)
  where
    same : (b : Bool) (n : ℕ) → n ≤ place b → take n (heading b (moment_of b tick seed next [])) ≡ take n (lines program b (moment_of b tick seed next []))
    same b n low =
        let h = heading b (moment_of b tick seed next []) in
        let classes = map class_line program.classes in
        let long : length h ≡ place b = heading_long b (moment_of b tick seed next []) in
        let two = length-append h classes in
        let three = length-append (h ++ classes) [] in
        sym (take-append-le n ((h ++ classes) ++ []) (end_line [] ∷ []) (omega (arith, long, two, three, low))
        ∙ take-append-le n (h ++ classes) [] (omega (arith, long, two, low)) ∙ take-append-le n h classes (omega (arith, long, low)))

pub version_first : (all : List (List ℕ)) (n : ℕ) (b : Bool) (tick seed next : ℕ) → 0 < n → Headed n b tick seed next all → line all 0 ≡ version b
version_first all n b tick seed next some e =
    line_in all (take n (heading b (moment_of b tick seed next []))) n 0 e some ∙ get_or-take n (heading b (moment_of b tick seed next [])) 0 [] some ∙ of b
  where
    of : (b : Bool) → line (heading b (moment_of b tick seed next [])) 0 ≡ version b
    of true = refl
    of false = refl

err_same : {A E : Type 0} (x y : E) → ◌≡◌ {A = Result A E} (Err x) (Err y) → x ≡ y
err_same x y e = cc

-- a count of a heading that is refused
pub count_refused : (program : Program) (all : List (List ℕ)) (rest : List ℕ) (i : ℕ) (b : Bool) (tick seed next : ℕ) (word : List ℕ) (most : ℕ) (r : Result ℕ PointFault) (cause : PointFault)
    → 0 < i → i < place b → InRange tick seed next → Headed i b tick seed next all → Counts i b word most → i ≤ length all
    → IsCountAt all i word most r → r ≡ Err cause → (cause ≡ NoMemory → ⊥) → IsRead program all rest (Err cause)
count_refused program all rest i b tick seed next word most (Ok n) cause some low range e counts within (found k below le is) err ok = absurd (ok_not_err n cause err)
count_refused program all rest i b tick seed next word most (Err f) cause some low range e counts within (other below none) err ok =
    let first : line all 0 ≡ version b = version_first all i b tick seed next some e in
    let at : heading_length all ≡ place b = place_is all b first in
    subst (λ k. IsRead program all rest (Err k)) (err_same f cause err)
    (bad_at program all rest i (BadLine (i + 1)) below (heading_begins program all i b tick seed next (omega (arith, low)) range e)
    (λ begun.
    let (m, more, are) = begun in
    let c = are.tells_next in
    let same : c ≡ b = version_same program all more b c m (i + 1) are.same (omega arith) (omega (arith, below)) first in
    let told : take (i + 1) all ++ more ≡ lines program b m = subst (λ x. take (i + 1) all ++ more ≡ lines program x m) same are.same in
    let (n, le, is) = counts program m (subst (λ x. IsMoment program x m) same are.moment_is) in
    none n le (sym (line_same all more (lines program b m) (i + 1) i told (omega arith) (omega (arith, below))) ∙ is))
    (fault_before program all (i + 1) (omega (arith, some)) (omega (arith, at, low))))
count_refused program all rest i b tick seed next word most (Err f) cause some low range e counts within (missing over) err ok =
    let first : line all 0 ≡ version b = version_first all i b tick seed next some e in
    subst (λ k. IsRead program all rest (Err k)) (err_same f cause err)
    (cut_at program all rest i over (heading_begins program all i b tick seed next (omega (arith, low)) range e)
    (λ whole. let long = whole_long program all b whole first (omega (arith, some, within)) in absurd (omega (arith, long, low, over))))
count_refused program all rest i b tick seed next word most (Err f) cause some low range e counts within no_memory err ok = absurd (ok (sym (err_same f cause err)))

-- the front is one line longer
pub headed_more : (all : List (List ℕ)) (i : ℕ) (b : Bool) (tick seed next : ℕ) (t : List ℕ) → Headed i b tick seed next all → i < length all → line all i ≡ t → i < place b → line (heading b (moment_of b tick seed next [])) i ≡ t → Headed (i + 1) b tick seed next all
headed_more all i b tick seed next t e below is low at =
    let h = heading b (moment_of b tick seed next []) in
    let long : length h ≡ place b = heading_long b (moment_of b tick seed next []) in
    take_more_same all h i [] below (omega (arith, long, low)) e (is ∙ sym at)

pub headed_first : (all : List (List ℕ)) (b : Bool) (tick seed next : ℕ) → 1 ≤ length all → line all 0 ≡ version b → Headed 1 b tick seed next all
headed_first all b tick seed next some first =
    headed_more all 0 b tick seed next (version b) refl (omega (arith, some)) first (let p = place_range b in omega (arith, p.0)) (of b)
  where
    of : (b : Bool) → line (heading b (moment_of b tick seed next [])) 0 ≡ version b
    of true = refl
    of false = refl

-- a count that is found
pub count_found : (all : List (List ℕ)) (i : ℕ) (word : List ℕ) (most n : ℕ) (r : Result ℕ PointFault) → IsCountAt all i word most r → r ≡ Ok n → (i < length all) × (n ≤ most) × (line all i ≡ count_line word n)
count_found all i word most n (Ok j) (found k below le is) e =
    let same : k ≡ n = cc in
    (below, subst (λ x. x ≤ most) same le, is ∙ ap (count_line word) same)
count_found all i word most n (Err f) (other below none) e = absurd cc
count_found all i word most n (Err f) (missing over) e = absurd cc
count_found all i word most n (Err f) no_memory e = absurd cc

-- the lines of tick and seed are found
pub tick_headed : (all : List (List ℕ)) (b : Bool) (tick seed next : ℕ) → 1 ≤ length all → line all 0 ≡ version b → 1 < length all → line all 1 ≡ count_line (codes "tick ") tick → Headed 2 b tick seed next all
tick_headed all b tick seed next some first below is =
    headed_more all 1 b tick seed next (count_line (codes "tick ") tick) (headed_first all b tick seed next some first) below is (let p = place_range b in omega (arith, p.0)) (of b)
  where
    of : (b : Bool) → line (heading b (moment_of b tick seed next [])) 1 ≡ count_line (codes "tick ") tick
    of true = refl
    of false = refl

pub seed_headed : (all : List (List ℕ)) (b : Bool) (tick seed next : ℕ) → Headed 2 b tick seed next all → 2 < length all → line all 2 ≡ count_line (codes "seed ") seed → Headed 3 b tick seed next all
seed_headed all b tick seed next e below is =
    headed_more all 2 b tick seed next (count_line (codes "seed ") seed) e below is (let p = place_range b in omega (arith, p.0)) (of b)
  where
    of : (b : Bool) → line (heading b (moment_of b tick seed next [])) 2 ≡ count_line (codes "seed ") seed
    of true = refl
    of false = refl

pub next_headed : (all : List (List ℕ)) (tick seed next : ℕ) → Headed 3 true tick seed next all → 3 < length all → line all 3 ≡ count_line (codes "next ") next → Headed 4 true tick seed next all
next_headed all tick seed next e below is = headed_more all 3 true tick seed next (count_line (codes "next ") next) e below is (omega arith) refl

-- the first three lines are found
pub record Seeded (all : List (List ℕ)) (b : Bool) (tick seed : ℕ) : Type 0 where
  pub tick_in_range : tick ≤ 2 ^ 32
  pub seed_in_range : seed < 2 ^ 64
  pub there : 2 < length all
  pub headed : (next : ℕ) → Headed 3 b tick seed next all

pub seeded : (all : List (List ℕ)) (b c : Bool) (tick seed : ℕ) (r s : Result ℕ PointFault) → c ≡ b → (1 ≤ length all) × (line all 0 ≡ version c) → IsCountAt all 1 (codes "tick ") (2 ^ 32) r → r ≡ Ok tick
    → IsCountAt all 2 (codes "seed ") (2 ^ 64 - 1) s → s ≡ Ok seed → Seeded all b tick seed
seeded all b c tick seed r s same first at_tick told at_seed grown =
    let (below, low, is) = count_found all 1 (codes "tick ") (2 ^ 32) tick r at_tick told in
    let (below₂, low₂, is₂) = count_found all 2 (codes "seed ") (2 ^ 64 - 1) seed s at_seed grown in
    record {
      tick_in_range = low;
      seed_in_range = omega (arith, low₂);
      there = below₂;
      headed = λ next. seed_headed all b tick seed next (tick_headed all b tick seed next first.0 (first.1 ∙ ap version same) below is) below₂ is₂;
    }
