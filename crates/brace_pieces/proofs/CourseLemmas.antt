-- An actor's course makes the turns of the run's schedule.
use Rattle.std.proofs.Common.{◌≡◌, ◌∙◌, refl, sym, ap, ap₂, subst, ℕ, zero, suc, ◌+◌, ◌-◌, ◌*◌, ◌<◌, ◌≤◌, List, [], ◌∷◌, ◌++◌, map, filter, sum_by, length, take, get_or, Bool, true, cond, Option, Some, None, ◌==◌, ◌&&◌, arith, inl, inr}
use Rattle.std.specs.Prelude.{slice_get, is_some}
use Rattle.std.specs.List.{range_with_len}
use Rattle.std.proofs.lemmas.Bool.{eq-eqb, cases_lt}
use Rattle.std.proofs.lemmas.List.Elements.{filter-append}
use Rattle.std.proofs.lemmas.List.Sums.{sum_by-cons}
use Rattle.std.proofs.lemmas.List.{append_assoc, length-append, length-map, get_or_append_left, get_or-append_right, get_or_past, get_or_default, take-take, take_all}
use Rattle.brace_core.specs.declared.name.Turn.{Turn}
use Rattle.brace_core.specs.declared.name.Turn.TheVariants.{Put, Take, Work, Done}
use Rattle.brace_core.specs.Schedule.{Pair, front, meets, name, puts, takes, turns, turns_from, turn_at}
use Rattle.brace_core.specs.Schedule as core
use Rattle.brace_core.proofs.Lists.{at_map}
use Rattle.brace_core.proofs.Fronts.{longer}
use Rattle.brace_pieces.specs.declared.setting.Setting.{Setting}
use Rattle.brace_pieces.specs.declared.setting.Step.{Step}
use Rattle.brace_pieces.specs.Settings.{parts}
use Rattle.brace_pieces.specs.Steps.{steps, meet, met, pairs_below, schedule}
use Rattle.brace_pieces.specs.Courses.{OnCourse, IsCourse, met_in, step_of, others_of, exchanges, turn_in, turn_of, turns_in, past_of, gone_behind, gone_on}
use Rattle.brace_pieces.proofs.PlaceLemmas.{some_is}
use Rattle.brace_pieces.proofs.Pairs.{has, met_where, met_in_rows}
use Rattle.std.proofs.lemmas.List.Folds.{list_any_at}
use Rattle.brace_num.proofs.Rows.{row_has, row_more, row_alike, row_kept}
use Rattle.brace_num.proofs.Booleans.{and_true}

-- ---- whom an actor meets

has_within : (n a q : ℕ) → a ≤ q → q < a + n → has q (range_with_len a n) ≡ true
has_within n a q low high = let (k, below, is) = row_has a n q low high in list_any_at (λ m. m == q) (range_with_len a n) k q below (eq-eqb _ _ is)

module _ (s : Setting) (p : ℕ) (is_actor : p < parts s + 1) where
  -- the pairs of a step
  abbrev pairs_in : Step → List Pair
  pairs_in at = filter (λ m. meet s at m.from m.to) (pairs_below (parts s + 1))

  met_same : (at : Step) → core.met (parts s + 1) (pairs_in at) p ≡ met s at p
  met_same at =
      let n : ℕ = parts s + 1 in
      let all : List ℕ = range_with_len 0 n in
      row_alike (meets (pairs_in at) p) (meet s at p) 0 n (λ q low high.
      met_where (meet s at) (pairs_below n) p q
      ∙ ap (λ v. meet s at p q && v) (met_in_rows all all p q ∙ ap₂ (λ a b. a && b) (has_within n 0 p (omega arith) (omega (arith, is_actor))) (has_within n 0 q (omega arith) (omega (arith, high))))
      ∙ and_true (meet s at p q))

  -- the turns in some steps in a row, which are numbered from k on
  abbrev walk : ℕ → List Step → List Turn
  walk k [] = []
  walk k (at ∷ ats) = exchanges k p (met s at p) ++ (Work ∷ walk (suc k) ats)

  turns_are : (k : ℕ) (ats : List Step) → turns_from k (parts s + 1) (map pairs_in ats) p ≡ walk k ats
  turns_are k [] = refl
  turns_are k (at ∷ ats) =
      ap₂ (λ others rest. puts k p others ++ (takes k p others ++ (Work ∷ rest))) (met_same at) (turns_are (suc k) ats)
      ∙ sym (append_assoc (puts k p (met s at p)) (takes k p (met s at p)) (Work ∷ walk (suc k) ats))

-- ---- one turn of a list

-- up to the work of a step, that and no later turn counts
up_to : (ts rest : List Turn) (w d : Turn) (m : ℕ) → m ≤ length ts → get_or (ts ++ (w ∷ rest)) m d ≡ get_or ts m w
up_to [] rest w d zero low = refl
up_to [] rest w d (suc m) low = absurd (omega (arith, low))
up_to (t ∷ ts) rest w d zero low = refl
up_to (t ∷ ts) rest w d (suc m) low = up_to ts rest w d m (omega (arith, low))

-- behind it only later ones
from_there : (ts rest : List Turn) (w d : Turn) (n m : ℕ) → n ≡ length ts + 1 + m → get_or (ts ++ (w ∷ rest)) n d ≡ get_or rest m d
from_there [] rest w d zero m e = absurd (omega (arith, e))
from_there [] rest w d (suc n) m e = let same : n ≡ m = omega (arith, e) in ap (λ i. get_or rest i d) same
from_there (t ∷ ts) rest w d zero m e = absurd (omega (arith, e))
from_there (t ∷ ts) rest w d (suc n) m e = from_there ts rest w d n m (omega (arith, e))

pub exchanges_long : (k p : ℕ) (others : List ℕ) → length (exchanges k p others) ≡ 2 * length others
exchanges_long k p others =
    omega (arith, length-append (puts k p others) (takes k p others), length-map others (λ q. Put (name k p q)), length-map others (λ q. Take (name k q p)))

module _ (s : Setting) (p : ℕ) (is_actor : p < parts s + 1) where
  turn_there : (k n : ℕ) (ats : List Step) (made : ℕ) → made ≤ 2 * length (met_in s (slice_get ats n) p)
      → get_or (walk s p is_actor k ats) (sum_by (turns_in s p) (take n ats) + made) Done ≡ turn_in (k + n) p (met_in s (slice_get ats n) p) made (slice_get ats n)
  turn_there k n [] made few = refl
  turn_there k zero (at ∷ ats) made few =
      let others : List ℕ = met s at p in
      let here : k ≡ k + 0 = omega arith in
      let none : 0 + made ≡ made = omega arith in
      ap (λ i. get_or (exchanges k p others ++ (Work ∷ walk s p is_actor (suc k) ats)) i Done) none
      ∙ up_to (exchanges k p others) (walk s p is_actor (suc k) ats) Work Done made (omega (arith, few, exchanges_long k p others))
      ∙ ap (λ j. get_or (exchanges j p others) made Work) here
  turn_there k (suc n) (at ∷ ats) made few =
      let others : List ℕ = met s at p in
      let before : ℕ = sum_by (turns_in s p) (take n ats) in
      let there : suc k + n ≡ k + suc n = omega arith in
      from_there (exchanges k p others) (walk s p is_actor (suc k) ats) Work Done (sum_by (turns_in s p) (at ∷ take n ats) + made) (before + made)
      (omega (arith, exchanges_long k p others, sum_by-cons (turns_in s p) at (take n ats)))
      ∙ turn_there (suc k) n ats made few
      ∙ ap (λ j. turn_in j p (met_in s (slice_get ats n) p) made (slice_get ats n)) there

-- the next turn on a course is that of the schedule
pub course_turn : (c : OnCourse) → IsCourse c → turn_of c ≡ turn_at (schedule c.setting) c.actor (past_of c)
course_turn c h =
    let s : Setting = c.setting in
    let p : ℕ = c.actor in
    let first : 0 + c.number ≡ c.number = omega arith in
    sym (ap (λ ts. get_or ts (past_of c) Done) (turns_are s p h.is_actor 0 (steps s))
    ∙ turn_there s p h.is_actor 0 c.number (steps s) c.made h.before_work
    ∙ ap (λ k. turn_in k p (others_of c) c.made (step_of c)) first)

-- ---- the first steps

rows_to : {A : Type 0} (f : Step → A) (n : ℕ) (ats : List Step) → take n (map f ats) ≡ map f (take n ats)
rows_to f zero [] = refl
rows_to f (suc n) [] = refl
rows_to f zero (at ∷ ats) = refl
rows_to f (suc n) (at ∷ ats) = ap (λ xs. f at ∷ xs) (rows_to f n ats)

got_to : (n e : ℕ) (ats : List Step) → n < e → slice_get (take e ats) n ≡ slice_get ats n
got_to n zero ats low = absurd (omega (arith, low))
got_to n (suc e) [] low = refl
got_to zero (suc e) (at ∷ ats) low = refl
got_to (suc n) (suc e) (at ∷ ats) low = got_to n e ats (omega (arith, low))

module _ (s : Setting) (p : ℕ) (is_actor : p < parts s + 1) where
  -- the turns of the first steps, so many, and how many these are
  turns_to : (e : ℕ) → turns (front (schedule s) e) p ≡ walk s p is_actor 0 (take e (steps s))
  turns_to e = ap (λ rows. turns_from 0 (parts s + 1) rows p) (rows_to (pairs_in s p is_actor) e (steps s)) ∙ turns_are s p is_actor 0 (take e (steps s))

  walk_long : (k : ℕ) (ats : List Step) → length (walk s p is_actor k ats) ≡ sum_by (turns_in s p) ats
  walk_long k [] = refl
  walk_long k (at ∷ ats) =
      let others : List ℕ = met s at p in
      omega (arith, length-append (exchanges k p others) (Work ∷ walk s p is_actor (suc k) ats), exchanges_long k p others, walk_long (suc k) ats, sum_by-cons (turns_in s p) at ats)

  pub turns_count : (e : ℕ) → length (turns (front (schedule s) e) p) ≡ sum_by (turns_in s p) (take e (steps s))
  turns_count e = ap length (turns_to e) ∙ walk_long 0 (take e (steps s))

-- its next turn up to an end behind the step that it stands in
pub turn_until : (c : OnCourse) → IsCourse c → (e : ℕ) → c.number < e → turn_of c ≡ turn_at (front (schedule c.setting) e) c.actor (past_of c)
turn_until c h e low =
    let s : Setting = c.setting in
    let p : ℕ = c.actor in
    let at : slice_get (take e (steps s)) c.number ≡ step_of c = got_to c.number e (steps s) low in
    let before : sum_by (turns_in s p) (take c.number (take e (steps s))) ≡ sum_by (turns_in s p) (take c.number (steps s)) =
    ap (sum_by (turns_in s p)) (take-take c.number e (steps s) (omega (arith, low))) in
    let few : c.made ≤ 2 * length (met_in s (slice_get (take e (steps s)) c.number) p) = subst (λ o. c.made ≤ 2 * length (met_in s o p)) (sym at) h.before_work in
    let first : 0 + c.number ≡ c.number = omega arith in
    sym (ap (λ ts. get_or ts (past_of c) Done) (turns_to s p h.is_actor e)
    ∙ ap (λ n. get_or (walk s p h.is_actor 0 (take e (steps s))) (n + c.made) Done) (sym before)
    ∙ turn_there s p h.is_actor 0 c.number (take e (steps s)) c.made few
    ∙ ap (λ o. turn_in (0 + c.number) p (met_in s o p) c.made o) at
    ∙ ap (λ k. turn_in k p (others_of c) c.made (step_of c)) first)

-- and up to one that is not
pub turn_over : (c : OnCourse) → IsCourse c → (e : ℕ) → e ≤ c.number → Done ≡ turn_at (front (schedule c.setting) e) c.actor (past_of c)
turn_over c h e high =
    let s : Setting = c.setting in
    let p : ℕ = c.actor in
    let more = longer (schedule s) e c.number p high in
    let long : length (turns (front (schedule s) e) p) ≤ past_of c = omega (arith, more, turns_count s p h.is_actor c.number) in
    sym (get_or_past (turns (front (schedule s) e) p) (past_of c) Done long)

-- ---- the turns in a step

at_map_or : (h : ℕ → Turn) (xs : List ℕ) (i d : ℕ) → i < length xs → get_or (map h xs) i Work ≡ h (get_or xs i d)
at_map_or h xs i d low = at_map h xs i Work low ∙ ap h (get_or_default xs i 0 d low)

module _ (k p : ℕ) (others : List ℕ) where
  pub put_there : (i d : ℕ) → i < length others → get_or (exchanges k p others) i Work ≡ Put (name k p (get_or others i d))
  put_there i d low =
      get_or_append_left (puts k p others) (takes k p others) Work i (omega (arith, low, length-map others (λ q. Put (name k p q))))
      ∙ at_map_or (λ q. Put (name k p q)) others i d low

  pub take_there : (i j d : ℕ) → i ≡ length others + j → j < length others → get_or (exchanges k p others) i Work ≡ Take (name k (get_or others j d) p)
  take_there i j d is low =
      let back : i - length others ≡ j = omega (arith, is) in
      get_or-append_right (puts k p others) (takes k p others) (length others) i Work (length-map others (λ q. Put (name k p q))) (omega (arith, is))
      ∙ ap (λ n. get_or (takes k p others) n Work) back
      ∙ at_map_or (λ q. Take (name k q p)) others j d low

  pub work_there : (i : ℕ) → 2 * length others ≤ i → get_or (exchanges k p others) i Work ≡ Work
  work_there i high = get_or_past (exchanges k p others) i Work (omega (arith, high, exchanges_long k p others))

-- the turn of a course whose step and others are known
turn_shape : (c : OnCourse) (o : Option Step) (others : List ℕ) → o ≡ step_of c → others ≡ others_of c → is_some o ≡ true
    → turn_of c ≡ get_or (exchanges c.number c.actor others) c.made Work
turn_shape c None others is same some = absurd (cc)
turn_shape c (Some at) others is same some = sym (ap₂ (λ os o. turn_in c.number c.actor os c.made o) same is)

module _ (c : OnCourse) (o : Option Step) (others : List ℕ) (is : o ≡ step_of c) (same : others ≡ others_of c) (some : is_some o ≡ true) where
  pub puts_next : (q : ℕ) → c.made < length others → q ≡ get_or others c.made q → Put (name c.number c.actor q) ≡ turn_of c
  puts_next q low at =
      ap (λ q. Put (name c.number c.actor q)) at ∙ sym (put_there c.number c.actor others c.made q low) ∙ sym (turn_shape c o others is same some)

  pub takes_next : (j q : ℕ) → c.made ≡ length others + j → j < length others → q ≡ get_or others j q → Take (name c.number q c.actor) ≡ turn_of c
  takes_next j q behind low at =
      ap (λ q. Take (name c.number q c.actor)) at ∙ sym (take_there c.number c.actor others c.made j q behind low) ∙ sym (turn_shape c o others is same some)

  pub works_next : 2 * length others ≤ c.made → Work ≡ turn_of c
  works_next high = sym (work_there c.number c.actor others c.made high) ∙ sym (turn_shape c o others is same some)

-- ---- one turn on

-- behind a put or a take it stands in the same step
stays : (c : OnCourse) (o : Option Step) → c.made < 2 * length (met_in c.setting o c.actor)
    → gone_behind c (turn_in c.number c.actor (met_in c.setting o c.actor) c.made o) ≡ record c { made = c.made + 1 }
stays c None low = absurd (omega (arith, low))
stays c (Some at) low =
    let others : List ℕ = met c.setting at c.actor in
    elim (cases_lt c.made (length others)) [
      | inl first ↦ ap (gone_behind c) (put_there c.number c.actor others c.made 0 first)
      | inr second ↦ ap (gone_behind c) (take_there c.number c.actor others c.made (c.made - length others) 0 (omega arith) (omega (arith, low)))
    ]

pub goes_within : (c : OnCourse) → c.made < 2 * length (others_of c) → gone_on c ≡ record c { made = c.made + 1 }
goes_within c low = stays c (step_of c) low

-- behind its work in the next one
pub goes_behind : (c : OnCourse) (at : Step) → step_of c ≡ Some at → 2 * length (others_of c) ≤ c.made → gone_on c ≡ record c { number = c.number + 1; made = 0 }
goes_behind c at is high =
    let works : turn_of c ≡ Work = ap (turn_in c.number c.actor (others_of c) c.made) is ∙ work_there c.number c.actor (others_of c) c.made high in
    ap (gone_behind c) works

-- one more step before
one_more : (f : Step → ℕ) (xs : List Step) (n : ℕ) (at : Step) → slice_get xs n ≡ Some at → sum_by f (take (suc n) xs) ≡ sum_by f (take n xs) + f at
one_more f [] n at is = absurd (cc)
one_more f (x ∷ xs) zero at is = let same : f x ≡ f at = ap f (some_is x at is) in omega (arith, same, sum_by-cons f x [])
one_more f (x ∷ xs) (suc n) at is = omega (arith, one_more f xs n at is, sum_by-cons f x (take (suc n) xs), sum_by-cons f x (take n xs))

-- each turn counts once
pub one_past : (c : OnCourse) → IsCourse c → (turn_of c ≡ Done → ⊥) → past_of (gone_on c) ≡ past_of c + 1
one_past c h left = elim (cases_lt c.made (2 * length (others_of c))) [
  | inl low ↦ ap past_of (goes_within c low) ∙ within
  | inr high ↦ behind (step_of c) refl high
]
  where
    within : past_of (record c { made = c.made + 1 }) ≡ past_of c + 1
    within = omega arith

    behind : (o : Option Step) → step_of c ≡ o → 2 * length (others_of c) ≤ c.made → past_of (gone_on c) ≡ past_of c + 1
    behind None is high = absurd (left (ap (turn_in c.number c.actor (others_of c) c.made) is))
    behind (Some at) is high =
        let others : length (others_of c) ≡ length (met c.setting at c.actor) = ap (λ o. length (met_in c.setting o c.actor)) is in
        let more = one_more (turns_in c.setting c.actor) (steps c.setting) c.number at is in
        let made = h.before_work in
        let one : c.number + 1 ≡ suc c.number = omega arith in
        let counted = ap (λ n. sum_by (turns_in c.setting c.actor) (take n (steps c.setting))) one ∙ more in
        ap past_of (goes_behind c at is high) ∙ omega (arith, others, counted, made, high)

-- it stays on the course
pub course_within : (c : OnCourse) → IsCourse c → c.made < 2 * length (others_of c) → IsCourse (record c { made = c.made + 1 })
course_within c h low = record { is_actor = h.is_actor; before_work = omega (arith, low) }

pub course_behind : (c : OnCourse) → IsCourse c → IsCourse (record c { number = c.number + 1; made = 0 })
course_behind c h = record { is_actor = h.is_actor; before_work = omega arith }

pub stays_course : (c : OnCourse) → IsCourse c → (turn_of c ≡ Done → ⊥) → IsCourse (gone_on c)
stays_course c h left = elim (cases_lt c.made (2 * length (others_of c))) [
  | inl low ↦ subst IsCourse (sym (goes_within c low)) (course_within c h low)
  | inr high ↦ behind (step_of c) refl high
]
  where
    behind : (o : Option Step) → step_of c ≡ o → 2 * length (others_of c) ≤ c.made → IsCourse (gone_on c)
    behind None is high = absurd (left (ap (turn_in c.number c.actor (others_of c) c.made) is))
    behind (Some at) is high = subst IsCourse (sym (goes_behind c at is high)) (course_behind c h)

-- a step that is there is one of all steps
pub there_within : (xs : List Step) (n : ℕ) (at : Step) → slice_get xs n ≡ Some at → n + 1 ≤ length xs
there_within [] n at is = absurd (cc)
there_within (x ∷ xs) zero at is = omega arith
there_within (x ∷ xs) (suc n) at is = omega (arith, there_within xs n at is)

-- ---- at the end of the first steps

-- each place below the end has a step
some_at : (xs : List Step) (k : ℕ) → k < length xs → (at : Step) × (slice_get xs k ≡ Some at)
some_at [] k low = absurd (omega (arith, low))
some_at (x ∷ xs) zero low = (x, refl)
some_at (x ∷ xs) (suc k) low = some_at xs k (omega (arith, low))

-- it stands no step before this end, before all turns of a step, and behind the same steps
pub record StandsThere (c : OnCourse) (n : ℕ) : Type 0 where
  pub behind : n ≤ c.number
  pub no_turn : c.made ≡ 0
  pub same_steps : take c.number (steps c.setting) ≡ take n (steps c.setting)
  pub no_later : (k : ℕ) → k < c.number → k < length (steps c.setting) → k < n

pub stands_there : (c : OnCourse) → IsCourse c → (n : ℕ) → n ≤ length (steps c.setting) → past_of c ≡ length (turns (front (schedule c.setting) n) c.actor) → StandsThere c n
stands_there c h n within at = elim (cases_lt c.number n) [
  | inl low ↦
      let (there, is) = some_at (steps c.setting) c.number (omega (arith, low, within)) in
      let one = one_more (turns_in c.setting c.actor) (steps c.setting) c.number there is in
      let longest = longer (schedule c.setting) (suc c.number) n c.actor (omega (arith, low)) in
      let others : length (others_of c) ≡ length (met c.setting there c.actor) = ap (λ o. length (met_in c.setting o c.actor)) is in
      absurd (omega (arith, one, longest, others, at, h.before_work, turns_count c.setting c.actor h.is_actor (suc c.number)))
  | inr high ↦
      let up = longer (schedule c.setting) n c.number c.actor high in
      let none : c.made ≡ 0 = omega (arith, at, up, turns_count c.setting c.actor h.is_actor c.number) in
      elim (cases_lt n c.number) [
        | inl over ↦ elim (cases_lt n (length (steps c.setting))) [
          | inl left ↦
              let (there, is) = some_at (steps c.setting) n left in
              let one = one_more (turns_in c.setting c.actor) (steps c.setting) n there is in
              let longest = longer (schedule c.setting) (suc n) c.number c.actor (omega (arith, over)) in
              absurd (omega (arith, one, longest, at, turns_count c.setting c.actor h.is_actor n, turns_count c.setting c.actor h.is_actor (suc n), turns_count c.setting c.actor h.is_actor c.number))
          | inr all ↦ record {
            behind = high;
            no_turn = none;
            same_steps = take_all c.number (steps c.setting) (omega (arith, all, high)) ∙ sym (take_all n (steps c.setting) all);
            no_later = λ k before there. omega (arith, there, all);
          }
        ]
        | inr same ↦ let is : c.number ≡ n = omega (arith, high, same) in record {
          behind = high;
          no_turn = none;
          same_steps = ap (λ k. take k (steps c.setting)) is;
          no_later = λ k before there. omega (arith, before, is);
        }
      ]
]

-- ---- numbers in a row, one by one

pub kept_more : (f : ℕ → Bool) (n : ℕ) → filter f (range_with_len 0 (n + 1)) ≡ filter f (range_with_len 0 n) ++ cond (f n) (n ∷ []) []
kept_more f n =
    let one : n + 1 ≡ suc n = omega arith in
    let here : 0 + n ≡ n = omega arith in
    ap (λ m. filter f (range_with_len 0 m)) one ∙ ap (filter f) (row_more 0 n ∙ ap (λ b. range_with_len 0 n ++ b ∷ []) here) ∙ filter-append f (range_with_len 0 n) (n ∷ [])

-- of so many numbers no more are kept
pub kept_few : (f : ℕ → Bool) (n : ℕ) (xs : List ℕ) → xs ≡ filter f (range_with_len 0 n) → length xs ≤ n
kept_few f n xs same = omega (arith, ap length same, row_kept f 0 n)
