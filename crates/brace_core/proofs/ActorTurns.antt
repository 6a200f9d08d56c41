-- What an actor's turns so far put and took: which name is next, and one turn more.
use Rattle.std.proofs.Common.{◌≡◌, ◌∙◌, refl, sym, ap, subst, ℕ, ◌+◌, ◌<◌, ◌==◌, true, List, [], ◌∷◌, ◌++◌, length, take, Some, slice_get, arith}
use Rattle.std.specs.List.{filter}
use Rattle.std.proofs.lemmas.Bool.{and_from, eq-eqb, cond-true}
use Rattle.std.proofs.lemmas.List.{append_assoc, append-nil, length-append, take_more, take_all}
use Rattle.std.proofs.lemmas.List.Elements.{filter-append}
use Rattle.brace_core.specs.declared.name.Name.{Name}
use Rattle.brace_core.specs.declared.name.Turn.{Turn}
use Rattle.brace_core.specs.declared.name.Turn.TheVariants.{Put, Take, Done}
use Rattle.brace_core.specs.Schedule.{Schedule, lane, turns, turn_at}
use Rattle.brace_core.specs.Events.{is_on, names_put, names_taken}
use Rattle.brace_core.specs.Exchanges.{put_by, taken_by}
use Rattle.brace_core.proofs.Lists.{IsFront}
use Rattle.brace_core.proofs.Turns.{AreLawful, put_first, taken_first, names_put-append, names_taken-append, put_front, taken_front, in_step, all_put, all_taken}
use Rattle.brace_core.proofs.Owners.{IsOwn, own_turns, own_at, left_before, done_past}
use Rattle.brace_num.proofs.Lists.{at_seam}

front_next : {A : Type 0} (xs all : List A) (x : A) → IsFront (xs ++ x ∷ []) all → slice_get all (length xs) ≡ Some x
front_next {A} xs all x (rest, e) = ap (λ (ys : List A). slice_get ys (length xs)) (e ∙ append_assoc xs (x ∷ []) rest) ∙ at_seam xs x rest

module _ (s : Schedule) (a past : ℕ) where
  abbrev turn : Turn
  turn = turn_at s a past

  abbrev puts_in : ℕ → ℕ → List Name
  puts_in q n = put_first a q (turns s a) n

  abbrev takes_in : ℕ → ℕ → List Name
  takes_in q n = taken_first q a (turns s a) n

  pub is_left : (turn ≡ Done → ⊥) → past < length (turns s a)
  is_left some = left_before (turns s a) past some

  module _ (low : past < length (turns s a)) where
    pub turn_own : IsOwn a turn
    turn_own = own_at a (turns s a) past (own_turns 0 s.actors s.steps a) low

    pub puts_more : (q : ℕ) → puts_in q (past + 1) ≡ puts_in q past ++ filter (is_on a q) (names_put (turn ∷ []))
    puts_more q =
        ap (λ ts. filter (is_on a q) (names_put ts)) (take_more (turns s a) past Done low)
        ∙ ap (filter (is_on a q)) (names_put-append (take past (turns s a)) (turn ∷ []))
        ∙ filter-append (is_on a q) (names_put (take past (turns s a))) (names_put (turn ∷ []))

    pub takes_more : (q : ℕ) → takes_in q (past + 1) ≡ takes_in q past ++ filter (is_on q a) (names_taken (turn ∷ []))
    takes_more q =
        ap (λ ts. filter (is_on q a) (names_taken ts)) (take_more (turns s a) past Done low)
        ∙ ap (filter (is_on q a)) (names_taken-append (take past (turns s a)) (turn ∷ []))
        ∙ filter-append (is_on q a) (names_taken (take past (turns s a))) (names_taken (turn ∷ []))

    pub puts_count : (q : ℕ) → length (puts_in q (past + 1)) ≡ length (puts_in q past) + put_by turn a q
    puts_count q = ap length (puts_more q) ∙ length-append (puts_in q past) (filter (is_on a q) (names_put (turn ∷ [])))

    pub takes_count : (q : ℕ) → length (takes_in q (past + 1)) ≡ length (takes_in q past) + taken_by turn q a
    takes_count q = ap length (takes_more q) ∙ length-append (takes_in q past) (filter (is_on q a) (names_taken (turn ∷ [])))

  module _ (lawful : AreLawful s.actors s.steps) where
    module _ (n : Name) (is : turn ≡ Put n) where
      put_left : past < length (turns s a)
      put_left = is_left (λ done. let no : Put n ≡ Done = sym is ∙ done in absurd cc)

      pub put_own : n.from ≡ a
      put_own = subst (IsOwn a) is (turn_own put_left)

      put_here : is_on a n.to n ≡ true
      put_here = and_from (n.from == a) (n.to == n.to) (eq-eqb n.from a put_own) (eq-eqb n.to n.to refl)

      one_put : puts_in n.to (past + 1) ≡ puts_in n.to past ++ n ∷ []
      one_put = puts_more put_left n.to ∙ ap (λ t. puts_in n.to past ++ filter (is_on a n.to) (names_put (t ∷ []))) is
          ∙ ap (λ names. puts_in n.to past ++ names) (cond-true (is_on a n.to n) (n ∷ []) [] put_here)

      pub put_next : slice_get (lane s a n.to) (length (puts_in n.to past)) ≡ Some n
      put_next = front_next (puts_in n.to past) (lane s a n.to) n
          (subst (λ names. IsFront names (lane s a n.to)) one_put (put_front 0 s.actors s.steps lawful a n.to (past + 1)))

      pub put_answered : length (puts_in n.to past) ≡ length (takes_in n.to past)
      put_answered =
          let (low, high) = in_step 0 s.actors s.steps lawful a n.to past in
          let (low', high') = in_step 0 s.actors s.steps lawful a n.to (past + 1) in
          let none : takes_in n.to (past + 1) ≡ takes_in n.to past =
          takes_more put_left n.to ∙ ap (λ t. takes_in n.to past ++ filter (is_on n.to a) (names_taken (t ∷ []))) is ∙ append-nil (takes_in n.to past) in
          omega (arith, ap length one_put, ap length none, length-append (puts_in n.to past) (n ∷ []), low, high, low', high')

    module _ (n : Name) (is : turn ≡ Take n) where
      take_left : past < length (turns s a)
      take_left = is_left (λ done. let no : Take n ≡ Done = sym is ∙ done in absurd cc)

      pub take_own : n.to ≡ a
      take_own = subst (IsOwn a) is (turn_own take_left)

      take_here : is_on n.from a n ≡ true
      take_here = and_from (n.from == n.from) (n.to == a) (eq-eqb n.from n.from refl) (eq-eqb n.to a take_own)

      one_taken : takes_in n.from (past + 1) ≡ takes_in n.from past ++ n ∷ []
      one_taken = takes_more take_left n.from ∙ ap (λ t. takes_in n.from past ++ filter (is_on n.from a) (names_taken (t ∷ []))) is
          ∙ ap (λ names. takes_in n.from past ++ names) (cond-true (is_on n.from a n) (n ∷ []) [] take_here)

      pub take_front : IsFront (takes_in n.from past ++ n ∷ []) (lane s n.from a)
      take_front = subst (λ names. IsFront names (lane s n.from a)) one_taken (taken_front 0 s.actors s.steps lawful a n.from (past + 1))

      pub take_next : slice_get (lane s n.from a) (length (takes_in n.from past)) ≡ Some n
      take_next = front_next (takes_in n.from past) (lane s n.from a) n take_front

    module _ (is : turn ≡ Done) where
      all_made : take past (turns s a) ≡ turns s a
      all_made = take_all past (turns s a) (done_past a (turns s a) past (own_turns 0 s.actors s.steps a) is)

      pub puts_all : (q : ℕ) → length (puts_in q past) ≡ length (lane s a q)
      puts_all q = ap (λ ts. length (filter (is_on a q) (names_put ts))) all_made ∙ ap length (all_put 0 s.actors s.steps lawful a q)

      pub takes_all : (q : ℕ) → length (takes_in q past) ≡ length (lane s q a)
      takes_all q = ap (λ ts. length (filter (is_on q a) (names_taken ts))) all_made ∙ ap length (all_taken 0 s.actors s.steps lawful a q)
