-- A part is sound behind each of its turns.
use Rattle.std.proofs.Common.{◌≡◌, ◌∙◌, refl, sym, ap, subst, ℕ, suc, ◌+◌, ◌-◌, ◌<◌, ◌≤◌, List, [], ◌∷◌, ◌++◌, take, drop, length, get_or, filter, Bool, false, cond, Option, Some, None, arith}
use Rattle.std.specs.List.{range_with_len}
use Rattle.std.proofs.lemmas.List.{length-append, length-take-le, drop_all}
use Rattle.brace_core.specs.declared.name.Name.{Name}
use Rattle.brace_pieces.specs.declared.setting.Setting.{Setting}
use Rattle.brace_pieces.specs.declared.setting.Step.{Step}
use Rattle.brace_pieces.specs.declared.piece.Cause.{Cause}
use Rattle.brace_pieces.specs.declared.piece.Piece.{Piece}
use Rattle.brace_pieces.specs.declared.piece.Shown.{Shown}
use Rattle.brace_pieces.specs.Settings.{parts}
use Rattle.brace_pieces.specs.Steps.{meet}
use Rattle.brace_pieces.specs.Right.{IsRight}
use Rattle.brace_pieces.specs.declared.turns.Turns.{Turns}
use Rattle.brace_pieces.specs.Courses.{OnCourse, met_in, step_of, others_of}
use Rattle.brace_pieces.specs.Turns.{PutsNext, TakesNext, IsTurns}
use Rattle.brace_pieces.specs.declared.counts.Counts.{Counts}
use Rattle.brace_herd.specs.declared.query.Queries.{Queries}
use Rattle.brace_part.specs.declared.standing.Standing.{Standing}
use Rattle.brace_herd.specs.Workers.{IsPartOf}
use Rattle.brace_part.specs.Parts.{IsCauseOfAll}
use Rattle.brace_pieces.specs.Exchanged.{AreOut, AreTaken}
use Rattle.brace_pieces.specs.Exchanged as pieces
use Rattle.brace_pieces.specs.Exchanged.AreTaken.{none_taken, more_taken}
use Rattle.brace_part.specs.inner.Ready.{IsReady, IsNextAt, AreKept}
use Rattle.brace_part.specs.inner.Sound.{GoesOn, IsSound}
use Rattle.brace_pieces.proofs.OutLemmas.{puts_last, one_taken}
use Rattle.std.proofs.lemmas.List.Elements.{filter-append}
use Rattle.brace_num.proofs.Rows.{row_kept, row_joined}
use Rattle.brace_pieces.proofs.ScheduleLemmas.{meets_no_self}

abbrev pub one_on : OnCourse → OnCourse
one_on c = record c { made = c.made + 1 }

-- behind a turn that leads to the step of a number, with a cause
module _ (t u : Turns) (n m : ℕ) (here : u.course ≡ record t.course { number = n; made = m }) (turns : IsTurns u) (o : Option Cause) (same : u.cause ≡ o) where
  pub sound_at : (queries : Queries) (old new : Standing) (room places : ℕ) → IsSound t queries old room → (o ≡ None → GoesOn (record t.course { number = n; made = m }) new)
      → IsCauseOfAll t.course.setting t.course.actor n o → AreKept t.course.setting t.course.actor new.shown → places ≡ room → IsSound u queries new places
  sound_at queries old new room places h goes found kept as_many = record {
    is_part = subst (λ k. IsPartOf k.setting k.actor queries) (sym here) h.is_part;
    turns = turns;
    goes_on = λ none. subst (λ k. GoesOn k new) (sym here) (goes (sym same ∙ none));
    found = subst (λ k. IsCauseOfAll k.setting k.actor k.number u.cause) (sym here) (subst (IsCauseOfAll t.course.setting t.course.actor n) (sym same) found);
    kept = subst (λ k. AreKept k.setting k.actor new.shown) (sym here) kept;
    has_room = subst (λ k. parts k.setting ≤ places) (sym here) (subst (λ r. parts t.course.setting ≤ r) (sym as_many) h.has_room);
  }

-- what no exchange changes
abbrev pub kept_of : Standing → List Shown × Counts × ℕ
kept_of standing = (standing.shown, standing.counts, standing.next)

module _ (c : OnCourse) (old new : Standing) (h : GoesOn c old) (stance : new.stance ≡ old.stance) (kept : kept_of new ≡ kept_of old) where
  abbrev others : List ℕ
  others = others_of c

  -- behind a put
  pub put_goes : (n : Name) → PutsNext c n → (piece : Piece) → old.out.items ≡ new.out.items ++ piece ∷ [] → new.taken.items ≡ old.taken.items → IsRight c.setting n piece × (pieces.GoesOn piece × GoesOn (one_on c) new)
  put_goes n turn piece out taken =
      let low = turn.low in
      let q : ℕ = get_or others c.made 0 in
      let (right, (goes, left)) = puts_last c.setting c.number c.actor others c.made q new.out.items piece low refl (subst (AreOut c.setting c.number c.actor (drop c.made others)) out h.puts) in
      let none : c.made - length others ≡ c.made + 1 - length others = omega (arith, low) in (
        subst (λ m. IsRight c.setting m piece) (sym turn.same) right,
        (
          goes,
          record {
            ready = subst (IsReady c.setting c.actor (step_of c)) (sym stance) h.ready;
            next_is = subst (IsNextAt c.setting (step_of c)) (sym (ap (λ x. x.2) kept)) h.next_is;
            faultless = h.faultless;
            puts = left;
            took = subst (λ m. AreTaken c.setting c.number c.actor (take m others) new.taken.items) none (subst (AreTaken c.setting c.number c.actor (take (c.made - length others) others)) (sym taken) h.took);
            keeps = ap (λ x. x.0) kept ∙ h.keeps;
            counted = ap (λ x. x.1) kept ∙ h.counted;
          },
        ),
      )

  -- behind a take
  pub take_goes : (n : Name) → TakesNext c n → (piece : Piece) → new.out.items ≡ old.out.items → new.taken.items ≡ old.taken.items ++ piece ∷ [] → IsRight c.setting n piece → pieces.GoesOn piece → GoesOn (one_on c) new
  take_goes n turn piece out taken right goes =
      let high = turn.high in
      let i : ℕ = c.made - length others in
      let more : i + 1 ≡ c.made + 1 - length others = omega (arith, high) in
      let still : drop c.made others ≡ drop (c.made + 1) others = drop_all c.made others high ∙ sym (drop_all (c.made + 1) others (omega (arith, high))) in
      record {
        ready = subst (IsReady c.setting c.actor (step_of c)) (sym stance) h.ready;
        next_is = subst (IsNextAt c.setting (step_of c)) (sym (ap (λ x. x.2) kept)) h.next_is;
        faultless = h.faultless;
        puts = subst (λ qs. AreOut c.setting c.number c.actor qs new.out.items) still (subst (AreOut c.setting c.number c.actor (drop c.made others)) (sym out) h.puts);
        took = subst (λ m. AreTaken c.setting c.number c.actor (take m others) new.taken.items) more
            (subst (AreTaken c.setting c.number c.actor (take (i + 1) others)) (sym taken)
            (one_taken c.setting c.number c.actor others i (get_or others i 0) old.taken.items piece turn.low refl (subst (λ m. IsRight c.setting m piece) turn.same right) goes h.took));
        keeps = ap (λ x. x.0) kept ∙ h.keeps;
        counted = ap (λ x. x.1) kept ∙ h.counted;
      }

-- ---- there is room for all that it takes

one_missing : (f : ℕ → Bool) (n a q : ℕ) → a ≤ q → q < a + n → f q ≡ false → length (filter f (range_with_len a n)) + 1 ≤ n
one_missing f n a q low high none =
    let k : ℕ = q - a in
    let m : ℕ = n - k - 1 in
    let whole : n ≡ k + suc m = omega (arith, low, high) in
    let there : a + k ≡ q = omega (arith, low) in
    let rest : List ℕ = filter f (range_with_len (a + k + 1) m) in
    let split : filter f (range_with_len a n) ≡ filter f (range_with_len a k) ++ rest =
    ap (λ v. filter f (range_with_len a v)) whole ∙ ap (filter f) (sym (row_joined a k (suc m)))
    ∙ filter-append f (range_with_len a k) (range_with_len (a + k) (suc m))
    ∙ ap (λ v. filter f (range_with_len a k) ++ cond v ((a + k) ∷ rest) rest) (ap f there ∙ none) in
    let sum = length-append (filter f (range_with_len a k)) rest in
    omega (arith, row_kept f a k, row_kept f (a + k + 1) m, ap length split, sum, whole)

met_few : (s : Setting) (o : Option Step) (p : ℕ) → p < parts s → length (met_in s o p) ≤ parts s
met_few s None p part = omega arith
met_few s (Some at) p part = let few = one_missing (meet s at p) (parts s + 1) 0 p (omega arith) (omega (arith, part)) (meets_no_self s at p) in omega (arith, few)

taken_long : (s : Setting) (k p : ℕ) (qs : List ℕ) (taken : List Piece) → AreTaken s k p qs taken → length taken ≡ length qs
taken_long s k p qs taken none_taken = refl
taken_long s k p qs taken (more_taken others pieces q piece h right goes) =
    let rest = taken_long s k p others pieces h in
    omega (arith, rest, length-append pieces (piece ∷ []), length-append others (q ∷ []))

-- a part that takes a piece has a place for it
pub has_place : (c : OnCourse) (standing : Standing) (n : Name) (room : ℕ) → c.actor < parts c.setting → GoesOn c standing → TakesNext c n → parts c.setting ≤ room → length standing.taken.items < room
has_place c standing n room part h turn places =
    let others : List ℕ = others_of c in
    let i : ℕ = c.made - length others in
    let low = turn.low in
    let few = met_few c.setting (step_of c) c.actor part in
    let long = taken_long c.setting c.number c.actor (take i others) standing.taken.items h.took in
    let taken : length (take i others) ≡ i = length-take-le i others (omega (arith, low)) in
    omega (arith, long, taken, low, few, places)
