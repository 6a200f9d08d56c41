-- What parts bring, joined in any order, is the whole worlds.
use Rattle.std.proofs.Common.{◌≡◌, ◌⊎◌, inl, inr, ◌∙◌, refl, sym, ap, ap₂, subst, ℕ, List, [], ◌∷◌, ◌++◌, map, flat_map, append_assoc, append-nil}
use Rattle.std.specs.List.{AllZip, range_with_len}
use Rattle.std.specs.List.Sorted.{IsPermutation}
use Rattle.std.proofs.lemmas.List.Concat.{flat_map-append}
use Rattle.std.proofs.lemmas.List.Sorted.{IsPermutation-sym, IsPermutation-trans, IsPermutation-append_right, IsPermutation-append_comm}
use Rattle.brace_model.specs.declared.world.Agent.{Agent}
use Rattle.brace_pieces.specs.declared.setting.Setting.{Setting}
use Rattle.brace_pieces.specs.declared.piece.Shown.{Shown}
use Rattle.brace_pieces.specs.Settings.{LawfulSetting, cuts_of, parts}
use Rattle.brace_pieces.specs.Numbers.{NumbersFit}
use Rattle.brace_pieces.specs.Continued.{on}
use Rattle.brace_pieces.specs.Owned.{owned}
use Rattle.brace_pieces.proofs.AllLemmas.{all_is}
use Rattle.brace_pieces.proofs.OnLemmas.{on_rises, on_classed}
use Rattle.brace_desk.specs.declared.desk.Lot.{Lot}
use Rattle.brace_desk.specs.Desks.{whole_at}
use Rattle.brace_desk.specs.inner.Joins.{of_parts, added_to, IsSortedWorld}
use Rattle.brace_desk.specs.Lots.{world_of, brought}

-- ---- the last of a list that is made of another one

pub record IsLastOf {A B : Type 0} (f : A → B) (xs : List A) (ys : List B) (y : B) : Type 0 where
  pub before : List A
  pub one : A
  pub all_are : xs ≡ before ++ one ∷ []
  pub before_are : ys ≡ map f before
  pub one_is : y ≡ f one

only_one : {A B : Type 0} (f : A → B) (x : A) (xs : List A) (y : B) → map f (x ∷ xs) ≡ y ∷ [] → IsLastOf f (x ∷ xs) [] y
only_one f x [] y e = let one : y ≡ f x = cc in record { before = []; one = x; all_are = refl; before_are = refl; one_is = one }
only_one f x (z ∷ xs) y e = absurd (cc)

pub last_of : {A B : Type 0} (f : A → B) (xs : List A) (ys : List B) (y : B) → map f xs ≡ ys ++ y ∷ [] → IsLastOf f xs ys y
last_of f [] [] y e = absurd (cc)
last_of f [] (b ∷ ys) y e = absurd (cc)
last_of f (x ∷ xs) [] y e = only_one f x xs y e
last_of f (x ∷ xs) (b ∷ ys) y e =
    let first : b ≡ f x = cc in
    let rest : map f xs ≡ ys ++ y ∷ [] = cc in
    let h = last_of f xs ys y rest in
    record { before = x ∷ h.before; one = h.one; all_are = ap (λ l. x ∷ l) h.all_are; before_are = ap₂ (λ z l. z ∷ l) first h.before_are; one_is = h.one_is }

none_of : {A B : Type 0} (f : A → B) (xs : List A) → map f xs ≡ [] → xs ≡ []
none_of f [] e = refl
none_of f (x ∷ xs) e = absurd (cc)

-- ---- worlds with the agents of others

no_more : (xs : List Shown) → added_to xs [] ≡ []
no_more [] = refl
no_more (x ∷ xs) = refl

pub none_added : (all xs ys : List Shown) → (xs ≡ []) ⊎ (ys ≡ []) → all ++ added_to xs ys ≡ all
none_added all xs ys (inl none) = ap (λ l. all ++ added_to l ys) none ∙ append-nil all
none_added all xs ys (inr none) = ap (λ l. all ++ added_to xs l) none ∙ ap (λ l. all ++ l) (no_more xs) ∙ append-nil all

-- ---- lists in a row, in two orders

-- the last of the one row is the next of the other
one_over : {A : Type 0} (f : ℕ → List A) (joined before : List ℕ) (one : ℕ)
    → IsPermutation (flat_map f (joined ++ one ∷ []) ++ flat_map f before) (flat_map f joined ++ flat_map f (before ++ one ∷ []))
one_over {A} f joined before one =
    let here : List A = f one in
    let a : List A = flat_map f joined in
    let b : List A = flat_map f before in
    let left : (a ++ here) ++ b ≡ flat_map f (joined ++ one ∷ []) ++ flat_map f before =
    ap (λ l. (a ++ l) ++ b) (sym (append-nil here)) ∙ ap (λ l. l ++ b) (sym (flat_map-append f joined (one ∷ []))) in
    let right : a ++ (b ++ here) ≡ flat_map f joined ++ flat_map f (before ++ one ∷ []) =
    ap (λ l. a ++ (b ++ l)) (sym (append-nil here)) ∙ ap (λ l. a ++ l) (sym (flat_map-append f before (one ∷ []))) in
    let moved : IsPermutation ((a ++ here) ++ b) (a ++ (b ++ here)) =
    subst (λ l. IsPermutation l (a ++ (b ++ here))) (sym (append_assoc a here b)) (IsPermutation-append_right a (here ++ b) (b ++ here) (IsPermutation-append_comm here b)) in
    subst (λ l. IsPermutation l (flat_map f joined ++ flat_map f (before ++ one ∷ []))) left (subst (IsPermutation ((a ++ here) ++ b)) right moved)

-- ---- lots of some parts

shown_same : (t : ℕ) (b : Shown) (agents : List Agent) (next : ℕ) → b.tick ≡ t → b.agents ≡ agents → b.next ≡ next → b ≡ record { tick = t; agents = agents; next = next }
shown_same t b agents next at have ids =
    ap (λ n. record { tick = n; agents = b.agents; next = b.next }) at
    ∙ ap (λ l. record { tick = t; agents = l; next = b.next }) have
    ∙ ap (λ n. record { tick = t; agents = agents; next = n }) ids

-- lots of some parts were joined, and those of others are left
pub record IsLeft (s : Setting) (held : ℕ) (ticks : List ℕ) (lots : List Lot) (worlds : List Shown) : Type 0 where
  pub joined : List ℕ
  pub left : List ℕ
  pub same : (f : ℕ → List Agent) → IsPermutation (flat_map f joined ++ flat_map f left) (flat_map f (range_with_len 0 (parts s)))
  pub lots_are : lots ≡ map (brought s held ticks) left
  pub worlds_are : worlds ≡ map (of_parts s held joined) ticks

module _ (s : Setting) (held : ℕ) where
  one_part : (p : ℕ) (ticks : List ℕ) → map (world_of s held p) ticks ≡ map (of_parts s held (p ∷ [])) ticks
  one_part p [] = refl
  one_part p (t ∷ ticks) =
      ap₂ (λ agents l. record { tick = t; agents = agents; next = (on s t).next } ∷ l)
      (sym (append-nil (owned s.job.program (cuts_of s held) p (on s t).agents))) (one_part p ticks)

  one_more : (joined : List ℕ) (p : ℕ) (ticks : List ℕ)
      → added_to (map (of_parts s held joined) ticks) (map (world_of s held p) ticks) ≡ map (of_parts s held (joined ++ p ∷ [])) ticks
  one_more joined p [] = refl
  one_more joined p (t ∷ ticks) =
      let f : ℕ → List Agent = λ q. owned s.job.program (cuts_of s held) q (on s t).agents in
      ap₂ (λ agents l. record { tick = t; agents = agents; next = (on s t).next } ∷ l)
      (ap (λ l. flat_map f joined ++ l) (sym (append-nil (f p))) ∙ sym (flat_map-append f joined (p ∷ []))) (one_more joined p ticks)

  -- the first lot is taken
  pub left_first : (ticks : List ℕ) (lots rest : List Lot) (lot : Lot) → lots ≡ map (brought s held ticks) (range_with_len 0 (parts s)) → lots ≡ rest ++ lot ∷ []
      → IsLeft s held ticks rest lot.worlds
  left_first ticks lots rest lot are is =
      let h = last_of (brought s held ticks) (range_with_len 0 (parts s)) rest lot (sym are ∙ is) in
      record {
        joined = h.one ∷ [];
        left = h.before;
        same = λ f. subst (λ l. IsPermutation (flat_map f (h.one ∷ []) ++ flat_map f h.before) (flat_map f l)) (sym h.all_are) (one_over f [] h.before h.one);
        lots_are = h.before_are;
        worlds_are = ap (λ l. l.worlds) h.one_is ∙ one_part h.one ticks;
      }

  -- one more is taken
  pub left_next : (ticks : List ℕ) (lots rest : List Lot) (lot : Lot) (worlds more : List Shown) → IsLeft s held ticks lots worlds → lots ≡ rest ++ lot ∷ []
      → more ≡ added_to worlds lot.worlds → IsLeft s held ticks rest more
  left_next ticks lots rest lot worlds more so is added =
      let h = last_of (brought s held ticks) so.left rest lot (sym so.lots_are ∙ is) in
      record {
        joined = so.joined ++ h.one ∷ [];
        left = h.before;
        same = λ f. IsPermutation-trans _ _ _ (one_over f so.joined h.before h.one)
            (subst (λ l. IsPermutation (flat_map f so.joined ++ flat_map f l) (flat_map f (range_with_len 0 (parts s)))) h.all_are (so.same f));
        lots_are = h.before_are;
        worlds_are = added ∙ ap₂ added_to so.worlds_are (ap (λ l. l.worlds) h.one_is) ∙ one_more so.joined h.one ticks;
      }

  module _ (lawful : LawfulSetting s) (numbers : NumbersFit s) where
    whole_is : (joined : List ℕ) (t : ℕ) (b : Shown)
        → IsPermutation (flat_map (λ q. owned s.job.program (cuts_of s held) q (on s t).agents) joined) (flat_map (λ q. owned s.job.program (cuts_of s held) q (on s t).agents) (range_with_len 0 (parts s)))
        → IsSortedWorld (of_parts s held joined t) b → b ≡ whole_at s t
    whole_is joined t b same sorted =
        shown_same t b (on s t).agents (on s t).next sorted.same_tick
        (all_is s lawful held (on s t).agents b.agents (on_rises s lawful t) (on_classed s lawful numbers t)
        (record { same = IsPermutation-trans _ _ _ (IsPermutation-sym _ _ same) sorted.by_id.same; in_order = sorted.by_id.in_order }))
        sorted.same_next

    all_whole : (joined : List ℕ) → ((f : ℕ → List Agent) → IsPermutation (flat_map f joined) (flat_map f (range_with_len 0 (parts s))))
        → (ticks : List ℕ) (all : List Shown) → AllZip IsSortedWorld (map (of_parts s held joined) ticks) all → all ≡ map (whole_at s) ticks
    all_whole joined same [] [] sorted = refl
    all_whole joined same [] (b ∷ all) sorted = absurd sorted
    all_whole joined same (t ∷ ticks) [] sorted = absurd sorted
    all_whole joined same (t ∷ ticks) (b ∷ all) (one, rest) =
        ap₂ (λ x l. x ∷ l) (whole_is joined t b (same (λ q. owned s.job.program (cuts_of s held) q (on s t).agents)) one) (all_whole joined same ticks all rest)

    -- none is left
    pub left_none : (ticks : List ℕ) (lots : List Lot) (worlds all : List Shown) → IsLeft s held ticks lots worlds → lots ≡ [] → AllZip IsSortedWorld worlds all → all ≡ map (whole_at s) ticks
    left_none ticks lots worlds all so none sorted =
        let gone : so.left ≡ [] = none_of (brought s held ticks) so.left (sym so.lots_are ∙ none) in
        let same : (f : ℕ → List Agent) → IsPermutation (flat_map f so.joined) (flat_map f (range_with_len 0 (parts s))) =
        λ f. subst (λ l. IsPermutation l (flat_map f (range_with_len 0 (parts s)))) (ap (λ l. flat_map f so.joined ++ flat_map f l) gone ∙ append-nil (flat_map f so.joined)) (so.same f) in
        all_whole so.joined same ticks all (subst (λ l. AllZip IsSortedWorld l all) so.worlds_are sorted)
