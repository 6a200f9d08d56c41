-- A part behind its work in a step, and what it has to put before.
use Rattle.std.proofs.Common.{◌≡◌, ◌∙◌, refl, sym, ap, subst, ℕ, ◌-◌, List, [], ◌∷◌, take, drop, length, arith}
use Rattle.std.proofs.lemmas.List.{length-append, length-drop, take_all}
use Rattle.brace_core.specs.declared.name.Name.{Name}
use Rattle.brace_pieces.specs.declared.setting.Setting.{Setting}
use Rattle.brace_pieces.specs.declared.setting.Step.{Step}
use Rattle.brace_pieces.specs.declared.piece.Piece.{Piece}
use Rattle.brace_pieces.specs.Courses.{OnCourse, met_in, others_of, gone_on}
use Rattle.brace_part.specs.declared.standing.Standing.{Standing}
use Rattle.brace_part.specs.Parts.{keeps_at}
use Rattle.brace_pieces.specs.Exchanged.{AreOut, AreTaken}
use Rattle.brace_pieces.specs.Exchanged.AreOut.{none_out, more_out}
use Rattle.brace_part.specs.inner.Ready.{IsReady, IsNextAt, IsFaultlessAt}
use Rattle.brace_part.specs.inner.Sound.{GoesOn, IsAtWork}
use Rattle.brace_pieces.specs.Turns.{PutsNext, WorksNext}
use Rattle.brace_pieces.proofs.TurnLemmas.{place_is}

-- ---- before its work

out_long : (s : Setting) (k p : ℕ) (qs : List ℕ) (out : List Piece) → AreOut s k p qs out → length out ≡ length qs
out_long s k p qs out none_out = refl
out_long s k p qs out (more_out q others piece pieces right goes h) =
    let rest = out_long s k p others pieces h in
    omega (arith, rest, length-append pieces (piece ∷ []))

-- a part that puts next has a piece for it
pub puts_some : (c : OnCourse) (standing : Standing) (n : Name) → GoesOn c standing → PutsNext c n → standing.out.items ≡ [] → ⊥
puts_some c standing n h turn none =
    let low = turn.low in
    let long = out_long c.setting c.number c.actor (drop c.made (others_of c)) standing.out.items h.puts in
    let left = length-drop c.made (others_of c) in
    omega (arith, long, left, ap length none, low)

-- ---- at its work

module _ (c d : OnCourse) (place : d ≡ gone_on c) (at : Step) (turn : WorksNext c at) where
  at_work : (standing : Standing) → GoesOn c standing → IsAtWork c.setting c.actor c.number at standing
  at_work standing h =
      let high = turn.high in
      let all : take (c.made - length (others_of c)) (others_of c) ≡ others_of c = take_all (c.made - length (others_of c)) (others_of c) (omega (arith, high)) in
      record {
        stands = turn.stands;
        ready = subst (λ o. IsReady c.setting c.actor o standing.stance) turn.stands h.ready;
        next_is = subst (λ o. IsNextAt c.setting o standing.next) turn.stands h.next_is;
        faultless = subst (IsFaultlessAt c.setting c.actor) turn.stands h.faultless;
        took = subst (λ qs. AreTaken c.setting c.number c.actor qs standing.taken.items) (all ∙ ap (λ o. met_in c.setting o c.actor) turn.stands) h.took;
        keeps = h.keeps ∙ ap (keeps_at c.setting c.actor) turn.stands;
        counted = h.counted;
      }

  pub work_on : (k : ℕ) (standing : Standing) → k ≡ c.number → GoesOn c standing → IsAtWork d.setting d.actor k at standing
  work_on k standing number h =
      subst (λ x. IsAtWork x.setting x.actor k at standing) (sym (place_is c d place at turn))
      (subst (λ n. IsAtWork c.setting c.actor n at standing) (sym number) (at_work standing h))
