-- All members of a run before their first turns.
use Rattle.std.proofs.Common.{◌≡◌, ◌∙◌, refl, sym, ap, ap₂, subst, ℕ, ◌+◌, ◌<◌, ◌%◌, ◌==◌, cond, List, [], ◌∷◌, ◌++◌, map, length, get_or, All, AllPairs, Bool, true, filter, Some, None, arith, eq-eqb, append-nil}
use Rattle.std.specs.List.{range_with_len}
use Rattle.std.proofs.Math.Nat.{mod-one}
use Rattle.std.proofs.lemmas.Bool.{ne_eqb}
use Rattle.std.proofs.Math.ListN.{get_or-append}
use Rattle.std.proofs.lemmas.List.FromFn.{length-range_with_len, get_or-range_with_len}
use Rattle.std.proofs.lemmas.List.Kept.{AllPairs-filter}
use Rattle.std.proofs.lemmas.List.{map-append, length-map, length-append, get_or-map}
use Rattle.std.proofs.lemmas.List.Elements.{All-nil, All-cons, All-head, All-tail, All-map, All-push, filter-append}
use Rattle.brace_pieces.specs.declared.setting.Setting.{Setting}
use Rattle.brace_pieces.specs.Settings.{parts}
use Rattle.brace_pieces.specs.Courses.{at_start, past_of}
use Rattle.brace_desk.specs.Desks.{OnDesk}
use Rattle.brace_crew.specs.Members.{course_of, opening_of, HasTold, WasUntold}
use Rattle.brace_crew.specs.declared.member.Member.{Member}
use Rattle.brace_crew.specs.declared.member.Member.TheVariants as member
use Rattle.brace_crew.specs.inner.Crews.{AreMembers, AreNew, HaveDeskLast, all_numbers, opening_in, served}
use Rattle.brace_invert.proofs.Heard.{seen_in}
use Rattle.brace_num.proofs.Lists.{All-from_contains, filter_alike, filter_all}
use Rattle.brace_num.proofs.Rows.{row_joined, in_row}

pub of_all_map : {A B : Type 0} (f : A → B) (P : B → Type 0) (xs : List A) → All P (map f xs) → All (λ x. P (f x)) xs
of_all_map f P [] all = All-nil (λ x. P (f x))
of_all_map f P (x ∷ xs) all = All-cons (λ x. P (f x)) x xs (All-head P (f x) (map f xs) all) (of_all_map f P xs (All-tail P (f x) (map f xs) all))

pub row_more : (n : ℕ) → range_with_len 0 n ++ n ∷ [] ≡ range_with_len 0 (n + 1)
row_more n =
    let here : n ≡ 0 + n = omega arith in
    ap (λ m. range_with_len 0 n ++ m ∷ []) here ∙ row_joined 0 n 1

-- numbers that a test keeps of a row rise
pub kept_rise : (f : ℕ → Bool) (n a : ℕ)
    → AllPairs (λ (x y : ℕ). x < y) (filter f (range_with_len a n))
kept_rise f n a = AllPairs-filter (λ (x y : ℕ). x < y) f (range_with_len a n) (λ i j d up low.
    let long = length-range_with_len a n in
    let here = get_or-range_with_len a n i d (omega (arith, up, low, long)) in
    let there = get_or-range_with_len a n j d (omega (arith, low, long)) in
    omega (arith, up, here, there))

-- a worker serves a number behind a row, or it does not
pub serves_more : (workers worker n : ℕ) → n % workers ≡ worker → served workers worker (range_with_len 0 (n + 1)) ≡ served workers worker (range_with_len 0 n) ++ n ∷ []
serves_more workers worker n is =
    ap (served workers worker) (sym (row_more n)) ∙ filter-append (λ a. a % workers == worker) (range_with_len 0 n) (n ∷ [])
    ∙ ap (λ b. served workers worker (range_with_len 0 n) ++ cond b (n ∷ []) []) (eq-eqb (n % workers) worker is)

pub serves_same : (workers worker n : ℕ) → (n % workers ≡ worker → ⊥) → served workers worker (range_with_len 0 (n + 1)) ≡ served workers worker (range_with_len 0 n)
serves_same workers worker n is =
    ap (served workers worker) (sym (row_more n)) ∙ filter-append (λ a. a % workers == worker) (range_with_len 0 n) (n ∷ [])
    ∙ ap (λ b. served workers worker (range_with_len 0 n) ++ cond b (n ∷ []) []) (ne_eqb (n % workers) worker is) ∙ append-nil (served workers worker (range_with_len 0 n))

-- what members are made for
pub part_opens : {P : Type 0} (s : Setting) (publisher : P) (n : ℕ) → n < parts s → opening_in s publisher n ≡ None
part_opens s publisher n low = ap (λ b. cond b (Some publisher) None) (ne_eqb n (parts s) (λ e. omega (arith, e, low)))

pub desk_opens : {P : Type 0} (s : Setting) (publisher : P) → opening_in s publisher (parts s) ≡ Some publisher
desk_opens s publisher = ap (λ b. cond b (Some publisher) None) (eq-eqb (parts s) (parts s) refl)

pub no_members : {P : Type 0} (s : Setting) (publisher : P) → AreMembers {P = P} s publisher [] []
no_members s publisher = record { settings = All-nil (λ m. (course_of m).setting ≡ s); numbered = refl; openings = refl }

pub no_new : {P : Type 0} → AreNew {P = P} []
no_new = All-nil (λ m. past_of (course_of m) ≡ 0)

module _ {P : Type 0} (s : Setting) (n : ℕ) (all : List (Member P)) (m : Member P) (start : course_of m ≡ at_start s n) where
  -- one more member
  pub members_more : (publisher : P) (numbers : List ℕ) → AreMembers s publisher numbers all → opening_of m ≡ opening_in s publisher n
      → AreMembers s publisher (numbers ++ n ∷ []) (all ++ m ∷ [])
  members_more publisher numbers are opens = record {
    settings = All-push (λ m. (course_of m).setting ≡ s) all m are.settings (ap (λ c. c.setting) start);
    numbered = map-append (λ m. (course_of m).actor) all (m ∷ []) ∙ ap₂ (λ l k. l ++ k ∷ []) are.numbered (ap (λ c. c.actor) start);
    openings = map-append opening_of all (m ∷ []) ∙ ap₂ (λ l o. l ++ o ∷ []) are.openings opens ∙ sym (map-append (opening_in s publisher) numbers (n ∷ []));
  }

  pub new_more : AreNew all → AreNew (all ++ m ∷ [])
  new_more new = All-push (λ m. past_of (course_of m) ≡ 0) all m new (ap past_of start)

-- the numbers that a worker serves of a row are of the row
served_below : (workers worker n : ℕ) → All (λ a. a < n) (served workers worker (range_with_len 0 n))
served_below workers worker n =
    All-from_contains (λ a. a < n) (served workers worker (range_with_len 0 n)) (λ a has. (let there = in_row 0 n a (seen_in (λ a. a % workers == worker) (range_with_len 0 n) a has).0 in omega (arith, there.1)))

row_below : (n : ℕ) → All (λ a. a < n) (range_with_len 0 n)
row_below n = All-from_contains (λ a. a < n) (range_with_len 0 n) (λ a has. (let there = in_row 0 n a has in omega (arith, there.1)))

module _ {P : Type 0} (s : Setting) (publisher : P) where
  -- of members of lower numbers than the desk's none is the desk
  no_desk : (numbers : List ℕ) (members : List (Member P)) → AreMembers s publisher numbers members → All (λ n. n < parts s) numbers → All (λ m. opening_of m ≡ None) members
  no_desk numbers members are low =
      of_all_map opening_of (λ o. o ≡ None) members (subst (All (λ o. o ≡ None)) (sym are.openings)
      (All-map (λ o. o ≡ None) (opening_in s publisher) numbers (λ i d within. part_opens s publisher (get_or numbers i d) (low i d within))))

  -- where so are all but the last, that one may be
  last_desk : (numbers : List ℕ) (n : ℕ) (members : List (Member P)) → AreMembers s publisher (numbers ++ n ∷ []) members → All (λ n. n < parts s) numbers → HaveDeskLast members
  last_desk numbers n members are low = record { are_parts = each }
    where
      long : length members ≡ length numbers + 1
      long = sym (length-map members opening_of) ∙ ap length are.openings ∙ length-map (numbers ++ n ∷ []) (opening_in s publisher) ∙ length-append numbers (n ∷ [])

      each : (i : ℕ) (d : Member P) → i + 1 < length members → opening_of (get_or members i d) ≡ None
      each i d within =
          let here : i < length numbers = omega (arith, within, long) in
          sym (get_or-map opening_of members i d None (omega (arith, within))) ∙ ap (λ os. get_or os i None) are.openings
          ∙ get_or-map (opening_in s publisher) (numbers ++ n ∷ []) i n None (omega (arith, here, length-append numbers (n ∷ [])))
          ∙ ap (opening_in s publisher) (get_or-append numbers (n ∷ []) n i here) ∙ part_opens s publisher (get_or numbers i n) (low i n here)

  -- it is so among all members, and among those of a worker
  pub all_desk_last : (members : List (Member P)) → AreMembers s publisher (all_numbers s) members → HaveDeskLast members
  all_desk_last members are = last_desk (range_with_len 0 (parts s)) (parts s) members (subst (λ ns. AreMembers s publisher ns members) (sym (row_more (parts s))) are) (row_below (parts s))

  pub served_desk_last : (workers : ℕ) (members : List (Member P)) → AreMembers s publisher (served workers (parts s % workers) (all_numbers s)) members → HaveDeskLast members
  served_desk_last workers members are =
      let w : ℕ = parts s % workers in
      last_desk (served workers w (range_with_len 0 (parts s))) (parts s) members (subst (λ ns. AreMembers s publisher ns members) (serves_more workers w (parts s) refl) are) (served_below workers w (parts s))

  -- and the other workers have parts alone
  pub served_parts : (workers worker : ℕ) (members : List (Member P)) → (parts s % workers ≡ worker → ⊥) → AreMembers s publisher (served workers worker (all_numbers s)) members → All (λ m. opening_of m ≡ None) members
  served_parts workers worker members other are =
      no_desk (served workers worker (range_with_len 0 (parts s))) members (subst (λ ns. AreMembers s publisher ns members) (serves_same workers worker (parts s) other) are) (served_below workers worker (parts s))

-- a part does not hold up the end of a run
pub part_told : {P : Type 0} (m : Member P) → opening_of m ≡ None → HasTold m
part_told (member.Part p) none = tt
part_told (member.Desk d) none = absurd (cc)

pub part_untold : {P : Type 0} (s : Setting) (n : ℕ) (m : Member P) → opening_of m ≡ None → WasUntold s n m
part_untold s n (member.Part p) none = tt
part_untold s n (member.Desk d) none = absurd (cc)

-- one worker serves all
pub serves_all : (worker : ℕ) → worker ≡ 0 → (xs : List ℕ) → served 1 worker xs ≡ xs
serves_all worker is xs =
    filter_alike (λ a. a % 1 == worker) (λ a. true) xs
    (λ a has. eq-eqb (a % 1) worker (mod-one a ∙ sym is)) ∙ filter_all xs

-- the desk behind other members
module _ {P : Type 0} (s : Setting) (publisher : P) (all : List (Member P)) (d : OnDesk P) (start : d.course ≡ at_start s (parts s)) (opening : d.opening ≡ publisher) where
  pub with_desk : (numbers : List ℕ) → AreMembers s publisher numbers all → AreMembers s publisher (numbers ++ parts s ∷ []) (all ++ member.Desk d ∷ [])
  with_desk numbers are = members_more s (parts s) all (member.Desk d) start publisher numbers are (ap Some opening ∙ sym (desk_opens s publisher))

  pub new_desk : AreNew all → AreNew (all ++ member.Desk d ∷ [])
  new_desk = new_more s (parts s) all (member.Desk d) start
