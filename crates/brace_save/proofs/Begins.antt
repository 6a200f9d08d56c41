-- Which lines a checkpoint begins with, and how the first bad one is told.
use Rattle.std.proofs.Common.{◌≡◌, ◌∙◌, ℕ, ◌+◌, ◌-◌, ◌^◌, ◌<◌, ◌≤◌, List, [], ◌∷◌, ◌++◌, length, take, drop, map, get_or, cond, eqb, Bool, true, false, refl, sym, ap, ap₂, subst, arith, inl, Err}
use Rattle.std.specs.Prelude.{◌&&◌, codes, nat_lt, nat_le}
use Rattle.std.specs.Str.{bytes_eq}
use Rattle.std.proofs.lemmas.Bool.Decides.{nat_tests}
use Rattle.std.proofs.lemmas.List.{get_or-take, get_or_append_left, length-append, length-map, length-take-le, take-append-drop, take_all, take_more}
use Rattle.brace_model.specs.declared.program.Program.{Program}
use Rattle.brace_model.specs.Published.{agent_text}
use Rattle.brace_save.specs.declared.kinds.PointFault.{PointFault}
use Rattle.brace_save.specs.declared.kinds.PointFault.TheVariants.{Incomplete, BadLine, OtherClasses, BadVersion}
use Rattle.brace_save.specs.Texts.{Moment, IsMoment, class_line, end_line, heading, lines}
use Rattle.brace_save.specs.Lines.{AreAll, Begin, IsRead, bad, cut, fault_of, heading_length}
use Rattle.brace_save.specs.inner.Steps.{line, version, place, moment_of, front, front_length}

-- a line among the first ones of a checkpoint is the checkpoint's
pub line_same : (all rest whole : List (List ℕ)) (n k : ℕ) → take n all ++ rest ≡ whole → k < n → n ≤ length all → line whole k ≡ line all k
line_same all rest whole n k e below within =
    let long : length (take n all) ≡ n = length-take-le n all within in
    ap (λ l. get_or l k []) (sym e) ∙ get_or_append_left (take n all) rest [] k (omega (arith, long, below)) ∙ get_or-take n all k [] below

-- a line among the first ones
pub line_in : (all start : List (List ℕ)) (n k : ℕ) → take n all ≡ start → k < n → line all k ≡ line start k
line_in all start n k e below = sym (get_or-take n all k [] below) ∙ ap (λ l. get_or l k []) e

-- a moment without agents
pub bare_is : (program : Program) (b : Bool) (tick seed next : ℕ) → tick ≤ 2 ^ 32 → seed < 2 ^ 64 → next ≤ 2 ^ 63 → IsMoment program b (moment_of b tick seed next [])
bare_is program true tick seed next t s n = record {
  tick_in_range = t;
  seed_in_range = s;
  numbered = record { rises = λ k le. absurd (omega (arith, le)); below = λ k d le. absurd (omega (arith, le)); in_range = n };
  lawful = record { each_is_lawful = refl; few_agents = omega arith; few_values = omega arith };
  values_fit = refl;
  least = λ e. absurd cc;
}
bare_is program false tick seed next t s n = record {
  tick_in_range = t;
  seed_in_range = s;
  numbered = record { rises = λ k le. absurd (omega (arith, le)); below = λ k d le. absurd (omega (arith, le)); in_range = omega arith };
  lawful = record { each_is_lawful = refl; few_agents = omega arith; few_values = omega arith };
  values_fit = refl;
  least = λ e. refl;
}

-- a front of the lines of a moment begins a checkpoint
pub front_begins : (program : Program) (b : Bool) (m : Moment) (some rest : List (List ℕ)) → IsMoment program b m → some ++ rest ≡ lines program b m → Begin program some
front_begins program b m some rest is e = (m, rest, record { tells_next = b; moment_is = is; same = e })

-- the first lines of a moment's begin a checkpoint
pub first_lines : (program : Program) (all : List (List ℕ)) (i : ℕ) (b : Bool) (m : Moment) → IsMoment program b m → take i all ≡ take i (lines program b m) → Begin program (take i all)
first_lines program all i b m is e =
    front_begins program b m (take i all) (drop i (lines program b m)) is (ap (λ l. l ++ drop i (lines program b m)) e ∙ take-append-drop i (lines program b m))

-- line number i + 1 is bad, and no line before it
pub bad_at : (program : Program) (all : List (List ℕ)) (rest : List ℕ) (i : ℕ) (cause : PointFault) → i < length all → Begin program (take i all) → (Begin program (take (i + 1) all) → ⊥)
    → fault_of program all (i + 1) ≡ cause → IsRead program all rest (Err cause)
bad_at program all rest i cause below before none is =
    let same : i ≡ i + 1 - 1 = omega arith in
    subst (λ f. IsRead program all rest (Err f)) is (bad (i + 1) (record {
      counted = omega arith;
      before = subst (λ n. Begin program (take n all)) same before;
      bad = inl (omega (arith, below), none);
    }))

-- the lines end before those of a checkpoint do
pub cut_at : (program : Program) (all : List (List ℕ)) (rest : List ℕ) (i : ℕ) → length all ≤ i → Begin program (take i all) → (AreAll program all → ⊥) → IsRead program all rest (Err Incomplete)
cut_at program all rest i over before none = cut (subst (Begin program) (take_all i all over) before) none

-- one line more
pub one_more : (all start : List (List ℕ)) (i : ℕ) (text : List ℕ) → take i all ≡ start → i < length all → line all i ≡ text → take (i + 1) all ≡ start ++ text ∷ []
one_more all start i text e below is = take_more all i [] below ∙ ap (λ l. l ++ line all i ∷ []) e ∙ ap (λ t. start ++ t ∷ []) is

-- the first line of a checkpoint tells its version
pub first_is : (program : Program) (b : Bool) (m : Moment) → line (lines program b m) 0 ≡ version b
first_is program true m = refl
first_is program false m = refl

versions_differ : version true ≡ version false → ⊥
versions_differ e = absurd (omega (arith, ap (λ l. get_or l 17 0) e))

-- a file of one version begins no checkpoint of the other one
pub version_same : (program : Program) (all rest : List (List ℕ)) (b c : Bool) (m : Moment) (n : ℕ) → take n all ++ rest ≡ lines program c m → 0 < n → n ≤ length all → line all 0 ≡ version b → c ≡ b
version_same program all rest b c m n e some within first =
    of b c (sym (first_is program c m) ∙ line_same all rest (lines program c m) n 0 e some within ∙ first)
  where
    of : (b c : Bool) → version c ≡ version b → c ≡ b
    of true true e = refl
    of true false e = absurd (versions_differ (sym e))
    of false true e = absurd (versions_differ e)
    of false false e = refl

-- a first line of no version
pub bad_version : (program : Program) (all : List (List ℕ)) (rest : List ℕ) → 0 < length all → (line all 0 ≡ version false → ⊥) → (line all 0 ≡ version true → ⊥)
    → IsRead program all rest (Err BadVersion)
bad_version program all rest some one two =
    bad_at program all rest 0 BadVersion some (front_begins program false (moment_of false 0 0 0 []) [] (lines program false (moment_of false 0 0 0 [])) (bare_is program false 0 0 0 (omega arith) (omega arith) (omega arith)) refl)
    (λ begun. let (m, more, are) = begun in other are.tells_next (sym (first_is program are.tells_next m) ∙ line_same all more (lines program are.tells_next m) 1 0 are.same (omega arith) (omega (arith, some)))) refl
  where
    other : (b : Bool) → version b ≡ line all 0 → ⊥
    other true e = two (sym e)
    other false e = one (sym e)

-- how many lines stand before those of classes
pub place_is : (all : List (List ℕ)) (b : Bool) → line all 0 ≡ version b → heading_length all ≡ place b
place_is all true e = ap (λ l. cond (bytes_eq l (codes "brace checkpoint 2")) 4 3) e
place_is all false e = ap (λ l. cond (bytes_eq l (codes "brace checkpoint 2")) 4 3) e

pub place_range : (b : Bool) → (3 ≤ place b) × (place b ≤ 4)
place_range true = (omega arith, omega arith)
place_range false = (omega arith, omega arith)

fault_by : (program : Program) (all : List (List ℕ)) (n : ℕ) (a b c : Bool) → eqb n 1 ≡ a → nat_lt (heading_length all) n ≡ b → nat_le n (heading_length all + length program.classes) ≡ c
    → fault_of program all n ≡ cond a BadVersion (cond (b && c) OtherClasses (BadLine n))
fault_by program all n a b c p q r =
    ap (λ x. cond x BadVersion (cond (nat_lt (heading_length all) n && nat_le n (heading_length all + length program.classes)) OtherClasses (BadLine n))) p
    ∙ ap₂ (λ x y. cond a BadVersion (cond (x && y) OtherClasses (BadLine n))) q r

-- the fault of a bad line before those of classes, of one in a class's place, and of one behind
pub fault_before : (program : Program) (all : List (List ℕ)) (n : ℕ) → 1 < n → n ≤ heading_length all → fault_of program all n ≡ BadLine n
fault_before program all n first before =
    fault_by program all n false false (nat_le n (heading_length all + length program.classes)) (grind (arith, nat_tests)) (grind (arith, nat_tests)) refl

pub fault_of_class : (program : Program) (all : List (List ℕ)) (n : ℕ) → 1 < n → heading_length all < n → n ≤ heading_length all + length program.classes → fault_of program all n ≡ OtherClasses
fault_of_class program all n first low high =
    fault_by program all n false true true (grind (arith, nat_tests)) (grind (arith, nat_tests)) (grind (arith, nat_tests))

pub fault_behind : (program : Program) (all : List (List ℕ)) (n : ℕ) → 1 < n → heading_length all < n → heading_length all + length program.classes < n → fault_of program all n ≡ BadLine n
fault_behind program all n first low high =
    fault_by program all n false true false (grind (arith, nat_tests)) (grind (arith, nat_tests)) (grind (arith, nat_tests))

pub heading_long : (b : Bool) (m : Moment) → length (heading b m) ≡ place b
heading_long true m = refl
heading_long false m = refl

-- how long the front of a moment's lines is, and they all
pub front_long : (program : Program) (b : Bool) (m : Moment) → length (front program b m) ≡ front_length program b m.world.agents
front_long program b m =
    let third = length-append (heading b m ++ map class_line program.classes) (map (agent_text program) m.world.agents) in
    let second = length-append (heading b m) (map class_line program.classes) in
    let first : length (heading b m) ≡ place b = heading_long b m in
    omega (arith, third, second, first, length-map program.classes class_line, length-map m.world.agents (agent_text program))

pub all_long : (program : Program) (b : Bool) (m : Moment) → length (lines program b m) ≡ front_length program b m.world.agents + 1
all_long program b m = omega (arith, length-append (front program b m) (end_line m.world.agents ∷ []), front_long program b m)

-- the lines of a checkpoint are at least those of a heading and of classes, and one more
pub whole_long : (program : Program) (all : List (List ℕ)) (b : Bool) → AreAll program all → line all 0 ≡ version b → 1 ≤ length all → place b + length program.classes + 1 ≤ length all
whole_long program all b whole first some =
    let (m, are) = whole in
    let c = are.tells_next in
    let e : take 1 all ++ drop 1 all ≡ lines program c m = take-append-drop 1 all ∙ are.same in
    let same : c ≡ b = version_same program all (drop 1 all) b c m 1 e (omega arith) some first in
    let p : place c ≡ place b = ap place same in
    let l : length all ≡ front_length program c m.world.agents + 1 = ap length are.same ∙ all_long program c m in
    omega (arith, l, p)

-- a file with no whole line
pub ended_at_once : (program : Program) (all : List (List ℕ)) (rest : List ℕ) → length all ≡ 0 → IsRead program all rest (Err Incomplete)
ended_at_once program all rest none =
    let m = moment_of false 0 0 0 [] in
    cut_at program all rest 0 (omega (arith, none)) (front_begins program false m [] (lines program false m) (bare_is program false 0 0 0 (omega arith) (omega arith) (omega arith)) refl)
    (λ whole. let (w, are) = whole in absurd (omega (arith, none, ap length are.same, all_long program are.tells_next w)))
