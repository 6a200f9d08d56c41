-- What holds of a part where it prepared a step.
use Rattle.std.proofs.Common.{◌≡◌, ◌∙◌, refl, sym, ap, ap₂, subst, ℕ, ◌+◌, ◌-◌, ◌<◌, List, [], ◌∷◌, ◌++◌, take, drop, length, true, false, cond, not, ◌&&◌, Some, None, ◌==◌, arith, true≢false}
use Rattle.std.specs.Prelude.{slice_get, nat_lt, if◌then◌else◌, fold}
use Rattle.std.specs.List.{range_with_len}
use Rattle.std.proofs.lemmas.Bool.{ne_eqb, and_right, lt-ltb, le-ltb}
use Rattle.brace_pieces.specs.declared.setting.Setting.{Setting}
use Rattle.brace_pieces.specs.declared.setting.Stage.{Stage}
use Rattle.brace_pieces.specs.declared.setting.Stage.TheVariants as stage
use Rattle.brace_pieces.specs.declared.setting.Step.{Step}
use Rattle.brace_pieces.specs.declared.piece.Piece.{Piece}
use Rattle.brace_pieces.specs.declared.piece.Piece.TheVariants as piece
use Rattle.brace_pieces.specs.declared.piece.Shown.{Shown}
use Rattle.brace_pieces.specs.Settings.{LawfulSetting, parts}
use Rattle.brace_pieces.specs.Steps.{steps, met, meet, is_show}
use Rattle.brace_pieces.specs.Continued.{on}
use Rattle.brace_pieces.specs.Right.{IsRightAt}
use Rattle.brace_pieces.specs.Courses.{OnCourse, met_in, step_of, others_of}
use Rattle.brace_pieces.proofs.CourseLemmas.{kept_more}
use Rattle.brace_part.specs.declared.standing.Standing.{Standing}
use Rattle.brace_part.specs.Parts.{keeps_at, keeps_before, brings_to, brings_at}
use Rattle.brace_pieces.specs.declared.counts.Counts.{Counts}
use Rattle.brace_pieces.specs.Given.{counts_behind, counts_up_to}
use Rattle.brace_pieces.specs.Exchanged.{counted, AreOut, AreTaken}
use Rattle.brace_pieces.specs.Exchanged.AreOut.{none_out, more_out}
use Rattle.brace_pieces.specs.Exchanged.AreTaken.{none_taken}
use Rattle.brace_part.specs.inner.Ready.{IsReady, IsNextAt, IsFaultlessAt, IsFaultlessBefore}
use Rattle.brace_part.specs.inner.Sound.{GoesOn}
use Rattle.brace_pieces.proofs.StepLemmas.{of_run}
use Rattle.brace_pieces.proofs.OutLemmas.{right_in}
use Rattle.brace_part.proofs.ShownLemmas.{kept_is_shown}
use Rattle.brace_pieces.proofs.CountLemmas.{counts_end, counts_showing, counts_exchanging}
use Rattle.brace_num.proofs.Lists.{filter_none}
use Rattle.brace_num.proofs.Rows.{row_alike}

-- a part that made no turn in a step goes on where it has what it needs, and what it puts
pub goes_on : (c : OnCourse) (standing : Standing) → c.made ≡ 0 → IsReady c.setting c.actor (step_of c) standing.stance → IsNextAt c.setting (step_of c) standing.next → IsFaultlessAt c.setting c.actor (step_of c)
    → AreOut c.setting c.number c.actor (others_of c) standing.out.items → standing.taken.items ≡ [] → standing.shown ≡ keeps_at c.setting c.actor (step_of c) → standing.counts ≡ counts_up_to c.setting c.actor c.number → GoesOn c standing
goes_on c standing start ready number faultless out nothing keeps counted =
    let none : 0 ≡ c.made - length (others_of c) = omega (arith, start) in
    record {
      ready = ready;
      next_is = number;
      faultless = faultless;
      puts = subst (λ n. AreOut c.setting c.number c.actor (drop n (others_of c)) standing.out.items) (sym start) out;
      took = subst (λ n. AreTaken c.setting c.number c.actor (take n (others_of c)) standing.taken.items) none (subst (AreTaken c.setting c.number c.actor []) (sym nothing) none_taken);
      keeps = keeps;
      counted = counted;
    }

-- ---- where all is shown

module _ (s : Setting) (p t : ℕ) (part : p < parts s) where
  abbrev shows : Step
  shows = record { stage = stage.Show; tick = t }

  no_part : (q : ℕ) → q < parts s → meet s shows p q ≡ false
  no_part q low =
      ap₂ (λ a b. not (p == q) && (if a && b then false else true)) (lt-ltb p (parts s) part) (lt-ltb q (parts s) low) ∙ and_right (not (p == q)) false refl

  publisher : meet s shows p (parts s) ≡ true
  publisher =
      ap₂ (λ a b. not a && (if nat_lt p (parts s) && b then false else true)) (ne_eqb p (parts s) (λ same. omega (arith, part, same))) (le-ltb (parts s) (parts s) (omega arith))
      ∙ ap (λ a. true && (if a && false then false else true)) (lt-ltb p (parts s) part)

  pub met_where_shown : met s shows p ≡ parts s ∷ []
  met_where_shown =
      kept_more (meet s shows p) (parts s)
      ∙ ap₂ (λ xs c. xs ++ cond c (parts s ∷ []) []) (row_alike (meet s shows p) (λ q. false) 0 (parts s) (λ q low high. no_part q (omega (arith, high))) ∙ filter_none (range_with_len 0 (parts s))) publisher

-- what a part shows is right
pub shows_right : (s : Setting) (k p : ℕ) (at : Step) (list : List Shown) → LawfulSetting s → p < parts s → slice_get (steps s) k ≡ Some at → at.stage ≡ stage.Show
    → list ≡ brings_to s p at.stage at.tick → IsFaultlessBefore s p at.stage at.tick → AreOut s k p (met s at p) (piece.Show list ∷ [])
shows_right s k p at list lawful part stands show brings faultless =
    let t : ℕ = at.tick in
    let low = (of_run s k at stands).low in
    let right : IsRightAt s k stage.Show t p (parts s) (piece.Show list) = record {
      is_part = part;
      shown = subst (λ st. list ≡ brings_to s p st t) show brings ∙ kept_is_shown s lawful.plan_is_lawful p t low;
      faultless = subst (λ st. IsFaultlessBefore s p st t) show faultless;
    } in
    let whom : met s at p ≡ parts s ∷ [] = subst (λ st. met s (record { stage = st; tick = t }) p ≡ parts s ∷ []) (sym show) (met_where_shown s p t part) in
    subst (λ qs. AreOut s k p qs (piece.Show list ∷ [])) (sym whom)
    (more_out (parts s) [] (piece.Show list) [] (right_in s k p (parts s) at (piece.Show list) stands (subst (λ st. IsRightAt s k st t p (parts s) (piece.Show list)) (sym show) right)) tt none_out)

-- ---- where it prepared a step

out_none : (s : Setting) (k p : ℕ) (qs : List ℕ) (out : List Piece) → qs ≡ [] → out ≡ [] → AreOut s k p qs out
out_none s k p qs out none empty = subst (λ rs. AreOut s k p rs out) (sym none) (subst (AreOut s k p []) (sym empty) none_out)

pub goes_nowhere : (c : OnCourse) (standing : Standing) → step_of c ≡ None → c.made ≡ 0 → IsReady c.setting c.actor (step_of c) standing.stance → IsNextAt c.setting (step_of c) standing.next → IsFaultlessAt c.setting c.actor (step_of c)
    → standing.shown ≡ brings_at c.setting c.actor (step_of c) → standing.out.items ≡ [] → standing.taken.items ≡ [] → standing.counts ≡ counts_behind c.setting c.actor c.number → GoesOn c standing
goes_nowhere c standing none start ready number faultless brings empty nothing counted =
    goes_on c standing start ready number faultless
    (out_none c.setting c.number c.actor (others_of c) standing.out.items (ap (λ o. met_in c.setting o c.actor) none) empty) nothing
    (brings ∙ ap (brings_at c.setting c.actor) none ∙ sym (ap (keeps_at c.setting c.actor) none))
    (counted ∙ counts_end c.setting c.actor c.number none)

pub goes_showing : (c : OnCourse) (standing : Standing) (at : Step) (list : List Shown) → LawfulSetting c.setting → c.actor < parts c.setting → step_of c ≡ Some at → at.stage ≡ stage.Show → c.made ≡ 0
    → IsReady c.setting c.actor (step_of c) standing.stance → IsNextAt c.setting (step_of c) standing.next → IsFaultlessAt c.setting c.actor (step_of c) → list ≡ brings_at c.setting c.actor (step_of c)
    → standing.out.items ≡ piece.Show list ∷ [] → standing.taken.items ≡ [] → standing.shown ≡ [] → standing.counts ≡ counts_behind c.setting c.actor c.number → GoesOn c standing
goes_showing c standing at list lawful part is show start ready number faultless brings puts nothing gone counted =
    let s : Setting = c.setting in
    let p : ℕ = c.actor in
    let out : AreOut s c.number p (met s at p) (piece.Show list ∷ []) =
    shows_right s c.number p at list lawful part is show (brings ∙ ap (brings_at s p) is) (subst (IsFaultlessAt s p) is faultless) in
    goes_on c standing start ready number faultless
    (subst (λ qs. AreOut s c.number p qs standing.out.items) (sym (ap (λ o. met_in s o p) is)) (subst (AreOut s c.number p (met s at p)) (sym puts) out)) nothing
    (gone ∙ sym (ap (keeps_at s p) is ∙ ap (λ st. keeps_before s p st at.tick) show))
    (counted ∙ counts_showing s p c.number at is show)

brings_keeps : (s : Setting) (p : ℕ) (st : Stage) (t : ℕ) → is_show st ≡ false → brings_to s p st t ≡ keeps_before s p st t
brings_keeps s p stage.Show t is = absurd (true≢false is)
brings_keeps s p _ t is = refl

pub goes_exchanging : (c : OnCourse) (standing : Standing) (at : Step) → step_of c ≡ Some at → is_show at.stage ≡ false → c.made ≡ 0
    → IsReady c.setting c.actor (step_of c) standing.stance → IsNextAt c.setting (step_of c) standing.next → IsFaultlessAt c.setting c.actor (step_of c) → standing.shown ≡ brings_at c.setting c.actor (step_of c)
    → AreOut c.setting c.number c.actor (others_of c) standing.out.items → standing.taken.items ≡ [] → (before : Counts) → before ≡ counts_behind c.setting c.actor c.number
    → (next : ℕ) → next ≡ standing.next → standing.counts ≡ fold (counted next) before standing.out.items → GoesOn c standing
goes_exchanging c standing at is nothing_shown start ready number faultless brings out nothing before gave next same counts =
    goes_on c standing start ready number faultless out nothing
    (brings ∙ ap (brings_at c.setting c.actor) is ∙ brings_keeps c.setting c.actor at.stage at.tick nothing_shown ∙ sym (ap (keeps_at c.setting c.actor) is))
    (counts ∙ ap (λ n. fold (counted n) before standing.out.items) (same ∙ subst (λ o. IsNextAt c.setting o standing.next) is number)
    ∙ ap (λ n. fold (counted (on c.setting at.tick).next) n standing.out.items) gave
    ∙ counts_exchanging c.setting c.actor c.number at is nothing_shown standing.out.items (subst (λ qs. AreOut c.setting c.number c.actor qs standing.out.items) (ap (λ o. met_in c.setting o c.actor) is) out))

pub out_same : (s r : Setting) (k j p q : ℕ) (qs rs : List ℕ) (out : List Piece) → r ≡ s → j ≡ k → q ≡ p → rs ≡ qs → AreOut r j q rs out → AreOut s k p qs out
out_same s r k j p q qs rs out a b c d h =
    subst (λ s. AreOut s k p qs out) a (subst (λ k. AreOut r k p qs out) b (subst (λ p. AreOut r j p qs out) c (subst (λ qs. AreOut r j q qs out) d h)))
