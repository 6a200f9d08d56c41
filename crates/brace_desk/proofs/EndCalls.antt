-- The ends of a run among its steps, and a publisher's calls at these.
use Rattle.std.proofs.Common.{◌≡◌, ◌∙◌, refl, sym, ap, subst, ℕ, zero, suc, ◌+◌, ◌<◌, ◌≤◌, List, [], ◌∷◌, ◌++◌, map, filter, take, take_all, count_by, length, All, Bool, true, false, cond, Some, slice_get, option_map, arith}
use Rattle.std.proofs.lemmas.Option.{slice_get-map, slice_get_within, get_or_from_slice_get}
use Rattle.std.proofs.lemmas.List.{take_more, take-take, length-append, length-map}
use Rattle.std.proofs.lemmas.List.Elements.{All-push, filter-append}
use Rattle.std.proofs.lemmas.List.Sums.{fold-append, length-filter, sum_by-take-le}
use Rattle.brace_pieces.specs.declared.setting.Setting.{Setting}
use Rattle.brace_pieces.specs.declared.setting.Stage.TheVariants.{Show}
use Rattle.brace_pieces.specs.declared.setting.Step.{Step}
use Rattle.brace_pieces.specs.Settings.{parts, shown_ticks, ends}
use Rattle.brace_pieces.specs.Steps.{step, steps, is_show}
use Rattle.brace_pieces.specs.Right.{IsFaultless}
use Rattle.brace_desk.specs.declared.publisher.Publisher as publisher
use Rattle.brace_desk.specs.Calls.{Call, behind}
use Rattle.brace_desk.specs.Desks.{whole_at, end_calls, ends_before, AreFaultless}
use Rattle.brace_pieces.proofs.OrderLemmas.{ends_shown}

-- ---- what is kept of a list up to a place

pub take_one : {A : Type 0} (xs : List A) (n : ℕ) (x : A) → slice_get xs n ≡ Some x → take (n + 1) xs ≡ take n xs ++ x ∷ []
take_one xs n x is = take_more xs n x (slice_get_within xs n x is) ∙ ap (λ y. take n xs ++ y ∷ []) (get_or_from_slice_get xs n x x is)

kept_on : {A : Type 0} (f : A → Bool) (xs : List A) (n : ℕ) (x : A) → slice_get xs n ≡ Some x → length (filter f (take (n + 1) xs)) ≡ length (filter f (take n xs)) + length (filter f (x ∷ []))
kept_on f xs n x is =
    ap (λ ys. length (filter f ys)) (take_one xs n x is) ∙ ap length (filter-append f (take n xs) (x ∷ [])) ∙ length-append (filter f (take n xs)) (filter f (x ∷ []))

-- an item that is kept stands behind those that are kept before it
kept_there : {A : Type 0} (f : A → Bool) (xs : List A) (n : ℕ) (x : A) → slice_get xs n ≡ Some x → f x ≡ true → slice_get (filter f xs) (length (filter f (take n xs))) ≡ Some x
kept_there f [] n x is keeps = absurd (cc)
kept_there f (y ∷ xs) zero x is keeps =
    let same : y ≡ x = cc in
    ap (λ c. slice_get (cond c (y ∷ filter f xs) (filter f xs)) 0) (ap f same ∙ keeps) ∙ is
kept_there f (y ∷ xs) (suc n) x is keeps = by_test (f y) (kept_there f xs n x is keeps)
  where
    by_test : (c : Bool) → slice_get (filter f xs) (length (filter f (take n xs))) ≡ Some x
        → slice_get (cond c (y ∷ filter f xs) (filter f xs)) (length (cond c (y ∷ filter f (take n xs)) (filter f (take n xs)))) ≡ Some x
    by_test true h = h
    by_test false h = h

-- the first steps show no more ends than all
pub few_shown : (ats : List Step) (n : ℕ) → length (filter (λ at. is_show at.stage) (take n ats)) ≤ length (filter (λ at. is_show at.stage) ats)
few_shown ats n =
    let t : Step → Bool = λ at. is_show at.stage in
    let few : count_by t (take n ats) ≤ count_by t ats =
    sum_by-take-le (λ (at : Step). cond (t at) 1 0) ats n in
    omega (arith, length-filter t (take n ats), length-filter t ats, few)

-- ---- the ends before a step

module _ (s : Setting) where
  pub ends_more : (n : ℕ) (at : Step) → slice_get (steps s) n ≡ Some at → is_show at.stage ≡ true → ends_before s (n + 1) ≡ ends_before s n + 1
  ends_more n at is shows = kept_on (λ at. is_show at.stage) (steps s) n at is ∙ ap (λ c. ends_before s n + length (cond c (at ∷ []) [])) shows

  pub ends_same : (n : ℕ) (at : Step) → slice_get (steps s) n ≡ Some at → is_show at.stage ≡ false → ends_before s (n + 1) ≡ ends_before s n
  ends_same n at is none =
      let on = kept_on (λ at. is_show at.stage) (steps s) n at is ∙ ap (λ c. ends_before s n + length (cond c (at ∷ []) [])) none in
      omega (arith, on)

  pub ends_up : (m n : ℕ) → m ≤ n → ends_before s m ≤ ends_before s n
  ends_up m n low = let few = few_shown (take n (steps s)) m in omega (arith, few, ap (λ ats. length (filter (λ at. is_show at.stage) ats)) (take-take m n (steps s) low))

  -- behind the last step all ends are before
  pub ends_all : (n : ℕ) → length (steps s) ≤ n → ends_before s n ≡ length (ends s)
  ends_all n high = ap (λ xs. length (filter (λ at. is_show at.stage) xs)) (take_all n (steps s) high) ∙ ap length (ends_shown s) ∙ length-map (ends s) (step Show)

  end_same : (es : List ℕ) (m t : ℕ) → slice_get (map (step Show) es) m ≡ Some (step Show t) → slice_get es m ≡ Some t
  end_same [] m t is = absurd (cc)
  end_same (e ∷ es) zero t is = ap (option_map (λ at. at.tick)) is
  end_same (e ∷ es) (suc m) t is = end_same es m t is

  -- the end of a step in which all is shown stands behind the ends before
  pub end_there : (n t : ℕ) → slice_get (steps s) n ≡ Some (step Show t) → slice_get (ends s) (ends_before s n) ≡ Some t
  end_there n t is =
      end_same (ends s) (ends_before s n) t
      (subst (λ xs. slice_get xs (ends_before s n) ≡ Some (step Show t)) (ends_shown s) (kept_there (λ at. is_show at.stage) (steps s) n (step Show t) is refl))

  -- the call at an end, with the continued worlds
  abbrev pub whole_call : ℕ → Call
  whole_call end = record { tick = end; worlds = map (whole_at s) (shown_ticks s end) }

  pub call_there : (n t : ℕ) → slice_get (steps s) n ≡ Some (step Show t) → slice_get (end_calls s) (ends_before s n) ≡ Some (whole_call t)
  call_there n t is = slice_get-map whole_call (ends s) (ends_before s n) ∙ ap (option_map whole_call) (end_there n t is)

  -- one more end before which no part found a fault
  pub faultless_more : (m t : ℕ) → slice_get (ends s) m ≡ Some t → AreFaultless s m → ((p : ℕ) → p < parts s → IsFaultless s t p) → AreFaultless s (m + 1)
  faultless_more m t is before here =
      let Q : ℕ → Type 0 = λ end. (p : ℕ) → p < parts s → IsFaultless s end p in
      subst (All Q) (sym (take_one (ends s) m t is)) (All-push Q (take m (ends s)) t before here)

  -- one more call that was answered
  pub behind_more : {P : Type 0} (of : publisher.Ghosts P) (opening : P) (m t : ℕ) (before after : of.State) → slice_get (end_calls s) m ≡ Some (whole_call t)
      → before ≡ behind of s opening (take m (end_calls s)) → after ≡ of.after before s t (map (whole_at s) (shown_ticks s t)) → after ≡ behind of s opening (take (m + 1) (end_calls s))
  behind_more of opening m t before after is was done =
      let one : of.State → Call → of.State = λ x c. of.after x s c.tick c.worlds in
      done ∙ ap (λ x. of.after x s t (map (whole_at s) (shown_ticks s t))) was
      ∙ sym (ap (behind of s opening) (take_one (end_calls s) m (whole_call t) is) ∙ fold-append one (of.state opening) (take m (end_calls s)) (whole_call t ∷ []))
