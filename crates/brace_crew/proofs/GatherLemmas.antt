-- The members of a run taken back from the lists of its workers, one from each in turn.
use Rattle.std.proofs.Common.{◌≡◌, ◌∙◌, refl, sym, ap, ap₂, subst, ℕ, suc, ◌+◌, ◌-◌, ◌%◌, ◌<◌, ◌≤◌, ◌==◌, Bool, true, false, cond, List, [], ◌∷◌, ◌++◌, map, length, get_or, set, take, Option, Some, None, arith, inl, inr}
use Rattle.std.specs.List.{All, range_with_len}
use Rattle.std.specs.Option.{option_to_list}
use Rattle.std.proofs.Math.Seq.{take-append_seam}
use Rattle.std.proofs.lemmas.Bool.{cases_eq, eq-eqb, eqb-true}
use Rattle.std.proofs.lemmas.List.{length-map, length-append, map-append, get_or-set_same, get_or-set_other, get_or-map}
use Rattle.std.proofs.lemmas.List.Elements.{All-nil, All-cons, All-head, All-tail, All-push, All-set, All-map}
use Rattle.brace_lanes.specs.Seats.{OnSeat}
use Rattle.brace_pieces.specs.declared.setting.Setting.{Setting}
use Rattle.brace_pieces.specs.Settings.{parts}
use Rattle.brace_crew.specs.declared.member.Member.{Member}
use Rattle.brace_crew.specs.Benches.{OnBench, IsUsedTo}
use Rattle.brace_crew.specs.Members.{course_of, opening_of, IsLast}
use Rattle.brace_crew.specs.Workers.{IsSeatOf, AreSeatsTo}
use Rattle.brace_crew.specs.inner.Crews.{AreMembers, opening_in, all_numbers, served}
use Rattle.brace_crew.specs.inner.Teams.{AreRosters, IsTeam, HasCome, AreStill, seat_of}
use Rattle.brace_crew.proofs.MemberLemmas.{row_more, of_all_map}
use Rattle.brace_crew.proofs.TeamLemmas.{team_later}

-- ---- one member more, and one less

module _ {P : Type 0} (s : Setting) (publisher : P) where
  abbrev Are : List ℕ → List (Member P) → Type 0
  Are numbers members = AreMembers s publisher numbers members

  -- the first member
  are_first : (n : ℕ) (ns : List ℕ) (m : Member P) (ms : List (Member P)) → Are (n ∷ ns) (m ∷ ms) → Are (n ∷ []) (m ∷ [])
  are_first n ns m ms are = record {
    settings = All-cons (λ m. (course_of m).setting ≡ s) m [] (All-head (λ m. (course_of m).setting ≡ s) m ms are.settings) (All-nil (λ m. (course_of m).setting ≡ s));
    numbered = first_number are.numbered;
    openings = first_opening are.openings;
  }
    where
      first_number : (course_of m).actor ∷ map (λ m. (course_of m).actor) ms ≡ n ∷ ns → (course_of m).actor ∷ [] ≡ n ∷ []
      first_number is = cc

      first_opening : opening_of m ∷ map opening_of ms ≡ opening_in s publisher n ∷ map (opening_in s publisher) ns → opening_of m ∷ [] ≡ opening_in s publisher n ∷ []
      first_opening is = cc

  -- all members but the first
  are_rest : (n : ℕ) (ns : List ℕ) (m : Member P) (ms : List (Member P)) → Are (n ∷ ns) (m ∷ ms) → Are ns ms
  are_rest n ns m ms are = record {
    settings = All-tail (λ m. (course_of m).setting ≡ s) m ms are.settings;
    numbered = rest_numbers are.numbered;
    openings = rest_openings are.openings;
  }
    where
      rest_numbers : (course_of m).actor ∷ map (λ m. (course_of m).actor) ms ≡ n ∷ ns → map (λ m. (course_of m).actor) ms ≡ ns
      rest_numbers is = cc

      rest_openings : opening_of m ∷ map opening_of ms ≡ opening_in s publisher n ∷ map (opening_in s publisher) ns → map opening_of ms ≡ map (opening_in s publisher) ns
      rest_openings is = cc

  -- where a number is left, a member is left
  some_left : (n : ℕ) (ns : List ℕ) → Are (n ∷ ns) [] → ⊥
  some_left n ns are = let none : [] ≡ n ∷ ns = are.numbered in absurd (cc)

  -- one member behind others
  are_more : (ns : List ℕ) (n : ℕ) (ms : List (Member P)) (m : Member P) → Are ns ms → Are (n ∷ []) (m ∷ []) → Are (ns ++ n ∷ []) (ms ++ m ∷ [])
  are_more ns n ms m all one = record {
    settings = All-push (λ m. (course_of m).setting ≡ s) ms m all.settings (All-head (λ m. (course_of m).setting ≡ s) m [] one.settings);
    numbered = map-append (λ m. (course_of m).actor) ms (m ∷ []) ∙ ap₂ (λ k l. k ++ l) all.numbered one.numbered;
    openings = map-append opening_of ms (m ∷ []) ∙ ap₂ (λ k l. k ++ l) all.openings one.openings ∙ sym (map-append (opening_in s publisher) ns (n ∷ []));
  }

  -- ---- taken in turn

  -- the first members are taken, and of each list the rest is left
  pub record IsTaking (workers count i : ℕ) (lists : List (List (Member P))) (members : List (Member P)) : Type 0 where
    pub taken : Are (range_with_len 0 i) members
    pub left : (w : ℕ) (d : List (Member P)) → w < workers → Are (served workers w (range_with_len i (count - i))) (get_or lists w d)

  pub taken_all : (workers count i : ℕ) (lists : List (List (Member P))) (members : List (Member P)) → count ≡ parts s + 1 → i ≡ count → IsTaking workers count i lists members → Are (all_numbers s) members
  taken_all workers count i lists members is all taking = subst (λ n. Are (range_with_len 0 n) members) (all ∙ is) taking.taken

  module _ (workers count i : ℕ) (lists : List (List (Member P))) (members : List (Member P)) (more : i < count) (taking : IsTaking workers count i lists members) where
    abbrev rest_row : List ℕ
    rest_row = range_with_len (i + 1) (count - (i + 1))

    row_opens : range_with_len i (count - i) ≡ i ∷ rest_row
    row_opens =
        let one : count - i ≡ suc (count - (i + 1)) = omega (arith, more) in
        ap (range_with_len i) one

    -- the numbers that are left to a worker, of which this one is the next of one worker
    left_here : (w : ℕ) → i % workers ≡ w → served workers w (range_with_len i (count - i)) ≡ i ∷ served workers w rest_row
    left_here w is = ap (served workers w) row_opens ∙ ap (λ b. cond b (i ∷ served workers w rest_row) (served workers w rest_row)) (eq-eqb (i % workers) w is)

    left_else : (w : ℕ) → (w ≡ i % workers → ⊥) → served workers w (range_with_len i (count - i)) ≡ served workers w rest_row
    left_else w other = ap (served workers w) row_opens ∙ ap (λ b. cond b (i ∷ served workers w rest_row) (served workers w rest_row)) (unlike (i % workers == w) refl)
      where
        unlike : (b : Bool) → b ≡ (i % workers == w) → (i % workers == w) ≡ false
        unlike true is = absurd (other (sym (eqb-true (i % workers) w (sym is))))
        unlike false is = sym is

    module _ (low : i % workers < workers) (d : List (Member P)) (now : List (Member P)) (at : get_or lists (i % workers) d ≡ now) where
      here : Are (i ∷ served workers (i % workers) rest_row) now
      here = subst (Are (i ∷ served workers (i % workers) rest_row)) at (subst (λ ns. Are ns (get_or lists (i % workers) d)) (left_here (i % workers) refl) (taking.left (i % workers) d low))

      -- the list of the next member is not empty
      pub some_taken : now ≡ [] → ⊥
      some_taken none = some_left i (served workers (i % workers) rest_row) (subst (Are (i ∷ served workers (i % workers) rest_row)) none here)

      -- the next member is taken from its list
      pub taking_more : (m : Member P) (rest : List (Member P)) → length lists ≡ workers → now ≡ m ∷ rest → IsTaking workers count (i + 1) (set lists (i % workers) rest) (members ++ m ∷ [])
      taking_more m rest long is = record {
        taken = subst (λ ns. Are ns (members ++ m ∷ [])) (row_more i) (are_more (range_with_len 0 i) i members m taking.taken (are_first i (served workers (i % workers) rest_row) m rest opened));
        left = each;
      }
        where
          opened : Are (i ∷ served workers (i % workers) rest_row) (m ∷ rest)
          opened = subst (Are (i ∷ served workers (i % workers) rest_row)) is here

          each : (w : ℕ) (d : List (Member P)) → w < workers → Are (served workers w rest_row) (get_or (set lists (i % workers) rest) w d)
          each w d w_low = elim (cases_eq w (i % workers)) [
            | inl same ↦ subst (λ k. Are (served workers k rest_row) (get_or (set lists (i % workers) rest) k d)) (sym same)
                (subst (Are (served workers (i % workers) rest_row)) (sym (get_or-set_same lists (i % workers) rest d (omega (arith, low, long))))
                (are_rest i (served workers (i % workers) rest_row) m rest opened))
            | inr other ↦ subst (Are (served workers w rest_row)) (sym (get_or-set_other lists (i % workers) w rest d other))
                (subst (λ ns. Are ns (get_or lists w d)) (left_else w other) (taking.left w d w_low))
          ]

-- ---- lists behind what gives their items

module _ {A : Type 0} {P : Type 0} (f : A → List (Member P)) (lists : List A) (k : ℕ) (old new : A) (low : k < length lists) (at : old ≡ get_or lists k old) where
  pub list_here : get_or (map f lists) k [] ≡ f old
  list_here = get_or-map f lists k old [] low ∙ ap f (sym at)

  -- what holds of all members holds of one that is taken, and of those that are left
  pub kept_more : (Q : Member P → Type 0) (r : Option (Member P)) → f old ≡ option_to_list r ++ f new → All (λ l. All Q (f l)) lists
      → All (λ l. All Q (f l)) (set lists k new) × All Q (option_to_list r)
  kept_more Q r is all = (All-set (λ l. All Q (f l)) lists k new (split r opened).0 all, (split r opened).1)
    where
      opened : All Q (option_to_list r ++ f new)
      opened = subst (All Q) is (subst (λ l. All Q (f l)) (sym at) (all k old low))

      split : (r : Option (Member P)) → All Q (option_to_list r ++ f new) → All Q (f new) × All Q (option_to_list r)
      split None every = (every, All-nil Q)
      split (Some m) every = (All-tail Q m (f new) every, All-cons Q m [] (All-head Q m (f new) every) (All-nil Q))

-- ---- so many of each

pub as_long : {A B C : Type 0} (f : A → C) (g : B → C) (xs : List A) (ys : List B) → map f xs ≡ map g ys → length xs ≡ length ys
as_long f g xs ys same = sym (length-map xs f) ∙ ap length same ∙ length-map ys g

-- a place is left while not all were handed out
pub place_left : {A : Type 0} (gone left all : List A) (x : A) (rest : List A) (n capacity : ℕ) → gone ++ left ≡ all → left ≡ x ∷ rest → n ≡ length gone → length all ≤ capacity → n < capacity
place_left gone left all x rest n capacity whole opens so_many fits =
    omega (arith, so_many, fits, ap length whole, length-append gone left, ap length opens)

-- ---- the benches that were lent to a run, and that came back, with all taken off them

module _ {P A : Type 0} (f : A → List (Member P)) (s : Setting) (publisher : P) (workers : ℕ) (before lent after rest : List (OnBench P)) (n : ℕ) (lists : List A)
    (team : IsTeam s publisher workers (all_numbers s) before) (value : lent ≡ before) (many : length lent ≡ n) (later : AreStill lent after)
  where
    abbrev members_of : OnBench P → List (Member P)
    members_of b = b.members

    back : take n (after ++ rest) ≡ after
    back = ap (λ k. take k (after ++ rest)) (sym many ∙ sym later.one_each) ∙ take-append_seam after rest

    team_now : IsTeam s publisher workers (all_numbers s) after
    team_now = team_later s publisher workers (all_numbers s) before after team (subst (λ l. AreStill l after) value later)

    module _ (are : map f lists ≡ map members_of (take n (after ++ rest))) where
      all_lists : map f lists ≡ map members_of after
      all_lists = are ∙ ap (map members_of) back

      pub many_lists : length lists ≡ workers
      many_lists = sym (length-map lists f) ∙ ap length all_lists ∙ team_now.rosters.one_each

      pub rosters_left : AreRosters s publisher (length lists) (all_numbers s) (map f lists)
      rosters_left =
          let at : AreRosters s publisher workers (all_numbers s) (map f lists) = subst (AreRosters s publisher workers (all_numbers s)) (sym all_lists) team_now.rosters in
          subst (λ w. AreRosters s publisher w (all_numbers s) (map f lists)) (sym many_lists) at

      pub last_left : (before end : ℕ) → All (λ b. All (IsLast s before end) b.members) after → All (λ l. All (IsLast s before end) (f l)) lists
      last_left before end last = let Q : Member P → Type 0 = IsLast s before end in of_all_map f (All Q) lists (subst (All (All Q)) (sym all_lists) (All-map (All Q) members_of after last))

    pub seats_left : (end : ℕ) → All (HasCome end) after → (seats : List (OnSeat Setting)) → seats ≡ map seat_of (take n (after ++ rest)) → AreSeatsTo s end workers seats
    seats_left end come seats are = record {
      one_each = ap length is ∙ length-map after seat_of ∙ long;
      by_number = λ k d low.
          let b : OnBench P = record { number = 0; members = []; lanes = d.lanes; seat = d.view } in
          let here : get_or seats k d ≡ seat_of (get_or after k b) = ap (λ l. get_or l k d) is ∙ get_or-map seat_of after k b d (omega (arith, low, long)) in
          subst (λ (seat : OnSeat Setting). IsSeatOf s workers k seat.view) (sym here) (team_now.seats k b low);
      one_lanes = (
        team_now.one_lanes.0,
        subst (All (λ seat. seat.lanes ≡ team_now.one_lanes.0)) (sym is) (All-map (λ seat. seat.lanes ≡ team_now.one_lanes.0) seat_of after team_now.one_lanes.1),
      );
      used_to = subst (All (λ seat. IsUsedTo end seat.view)) (sym is) (All-map (λ seat. IsUsedTo end seat.view) seat_of after (λ k d low. (come k d low).used_to));
    }
      where
        is : seats ≡ map seat_of after
        is = are ∙ ap (map seat_of) back

        long : length after ≡ workers
        long = sym (length-map after members_of) ∙ team_now.rosters.one_each
