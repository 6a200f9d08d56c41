-- The publisher's course: it meets all parts where all is shown, and nobody else.
use Rattle.std.proofs.Common.{◌≡◌, ◌∙◌, refl, sym, ap, ap₂, subst, ℕ, ◌+◌, ◌-◌, ◌<◌, List, [], ◌∷◌, ◌++◌, length, get_or, slice_get, nat_lt, if◌then◌else◌, Bool, true, false, cond, not, ◌&&◌, ◌==◌, Some, arith, append-nil, true≢false}
use Rattle.std.specs.List.{range_with_len}
use Rattle.std.proofs.lemmas.Bool.{and_right, ne_eqb, le-ltb}
use Rattle.std.proofs.lemmas.List.FromFn.{length-range_with_len, get_or-range_with_len}
use Rattle.brace_core.specs.declared.name.Name.{Name}
use Rattle.brace_pieces.specs.declared.setting.Setting.{Setting}
use Rattle.brace_pieces.specs.declared.setting.Stage.{Stage}
use Rattle.brace_pieces.specs.declared.setting.Stage.TheVariants as stage
use Rattle.brace_pieces.specs.declared.setting.Step.{Step}
use Rattle.brace_pieces.specs.declared.piece.Piece.{Piece}
use Rattle.brace_pieces.specs.declared.piece.Piece.TheVariants as piece
use Rattle.brace_pieces.specs.declared.piece.Cause.{Cause}
use Rattle.brace_pieces.specs.declared.piece.Shown.{Shown}
use Rattle.brace_pieces.specs.Settings.{parts}
use Rattle.brace_pieces.specs.Steps.{step, steps, met, meet, parts_meet, is_show}
use Rattle.brace_pieces.specs.Right.{IsRight, IsRightIn, IsRightAt, IsShown}
use Rattle.brace_pieces.specs.Courses.{OnCourse, met_in, step_of, others_of}
use Rattle.brace_pieces.proofs.CourseLemmas.{kept_more}
use Rattle.brace_pieces.proofs.OutLemmas.{right_in}
use Rattle.brace_pieces.specs.Turns.{PutsNext, TakesNext}
use Rattle.brace_num.proofs.Rows.{row_alike}
use Rattle.brace_num.proofs.Lists.{filter_all, filter_none}
use Rattle.brace_pieces.proofs.ScheduleLemmas.{meets_no_self}

-- ---- whom the publisher meets

apart : (s : Setting) (at : Step) → is_show at.stage ≡ false → (q : ℕ) → meet s at (parts s) q ≡ false
apart s at none q =
    ap₂ (λ a b. not (parts s == q) && (if a && nat_lt q (parts s) then parts_meet s at (parts s) q else b)) (le-ltb (parts s) (parts s) (omega arith)) none ∙ and_right (not (parts s == q)) false refl

meets_none : (s : Setting) (at : Step) → is_show at.stage ≡ false → met s at (parts s) ≡ []
meets_none s at none = row_alike (meet s at (parts s)) (λ q. false) 0 (parts s + 1) (λ q low high. apart s at none q) ∙ filter_none (range_with_len 0 (parts s + 1))

module _ (s : Setting) (t : ℕ) where
  meets_part : (q : ℕ) → q < parts s → meet s (step stage.Show t) (parts s) q ≡ true
  meets_part q low =
      ap₂ (λ a b. not a && (if b && nat_lt q (parts s) then false else true)) (ne_eqb (parts s) q (λ same. omega (arith, low, same))) (le-ltb (parts s) (parts s) (omega arith))

  meets_all : met s (step stage.Show t) (parts s) ≡ range_with_len 0 (parts s)
  meets_all =
      let f : ℕ → Bool = meet s (step stage.Show t) (parts s) in
      kept_more f (parts s)
      ∙ ap₂ (λ xs c. xs ++ cond c (parts s ∷ []) []) (row_alike f (λ q. true) 0 (parts s) (λ q low high. meets_part q (omega (arith, high))) ∙ filter_all (range_with_len 0 (parts s))) (meets_no_self s (step stage.Show t) (parts s))
      ∙ append-nil (range_with_len 0 (parts s))

show_is : (at : Stage) (t : ℕ) → is_show at ≡ true → step at t ≡ step stage.Show t
show_is stage.Show t is = refl
show_is _ t is = absurd (true≢false (sym is))

-- all is shown in the step that it stands in, to which all parts come
pub record ShowsNext (c : OnCourse) : Type 0 where
  pub tick : ℕ
  pub stands : step_of c ≡ Some (step stage.Show tick)
  pub others : others_of c ≡ range_with_len 0 (parts c.setting)

module _ (c : OnCourse) (last : c.actor ≡ parts c.setting) where
  pub shows_in : (t : ℕ) → step_of c ≡ Some (step stage.Show t) → ShowsNext c
  shows_in t is = record {
    tick = t;
    stands = is;
    others = ap₂ (λ o p. met_in c.setting o p) is last ∙ meets_all c.setting t;
  }

  -- in another step it meets nobody
  pub nobody_met : (at : Step) → step_of c ≡ Some at → is_show at.stage ≡ false → length (others_of c) ≡ 0
  nobody_met at is none = ap length (ap₂ (λ o p. met_in c.setting o p) is last ∙ meets_none c.setting at none)

  pub shows_next : (at : Step) → step_of c ≡ Some at → 0 < length (others_of c) → ShowsNext c
  shows_next at is some = by_test (is_show at.stage) refl
    where
      by_test : (v : Bool) → is_show at.stage ≡ v → ShowsNext c
      by_test true shows = shows_in at.tick (is ∙ ap Some (show_is at.stage at.tick shows))
      by_test false none = absurd (omega (arith, some, nobody_met at is none))

  -- ---- what it puts and takes

  pub ack_right : (n : Name) → PutsNext c n → IsRight c.setting n piece.Ack
  ack_right n turn =
      let next = shows_next turn.at turn.stands (omega (arith, turn.low)) in
      subst (λ m. IsRight c.setting m piece.Ack) (sym turn.same) (right_in c.setting c.number c.actor (get_or (others_of c) c.made 0) (step stage.Show next.tick) piece.Ack next.stands last)

  module _ (n : Name) (turn : TakesNext c n) where
    pub takes_shown : ShowsNext c
    takes_shown = shows_next turn.at turn.stands (omega (arith, turn.low))

    pub takes_from : n.from ≡ get_or (others_of c) (c.made - length (others_of c)) 0
    takes_from = ap (λ m. m.from) turn.same

    pub from_part : n.from < parts c.setting
    from_part =
        let all = takes_shown.others in
        let i : ℕ = c.made - length (others_of c) in
        let low : i < parts c.setting = omega (arith, turn.low, ap length all ∙ length-range_with_len 0 (parts c.setting)) in
        let is = takes_from ∙ ap (λ xs. get_or xs i 0) all ∙ get_or-range_with_len 0 (parts c.setting) i 0 low in
        omega (arith, is, low)

    right_there : (x : Piece) → IsRight c.setting n x → IsRightAt c.setting n.step stage.Show takes_shown.tick n.from n.to x
    right_there x right = subst (IsRightIn c.setting n x) (ap (λ m. slice_get (steps c.setting) m.step) turn.same ∙ takes_shown.stands) right

    -- what it takes is what a part shows
    pub shown_taken : (worlds : List Shown) → IsRight c.setting n (piece.Show worlds) → IsShown c.setting takes_shown.tick n.from worlds
    shown_taken worlds right = right_there (piece.Show worlds) right

    halts_there : (x : Piece) (k t to : ℕ) → ((a : List Shown) → x ≡ piece.Show a → ⊥) → IsRightAt c.setting k stage.Show t n.from to x → (a : Cause) × (x ≡ piece.Halt a)
    halts_there (piece.Show worlds) k t to shows right = absurd (shows worlds refl)
    halts_there piece.Ack k t to shows right = absurd (omega (arith, from_part, right))
    halts_there (piece.Halt a) k t to shows right = (a, refl)
    halts_there _ k t to shows right = absurd right

    -- or it goes no further
    pub halts_else : (x : Piece) → IsRight c.setting n x → ((a : List Shown) → x ≡ piece.Show a → ⊥) → (a : Cause) × (x ≡ piece.Halt a)
    halts_else x right shows = halts_there x n.step takes_shown.tick n.to shows (right_there x right)
