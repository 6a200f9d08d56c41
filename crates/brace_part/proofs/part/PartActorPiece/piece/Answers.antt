use Rattle.std.proofs.Common.{rules, ◌≡◌, ◌∙◌, ◌+◌, refl, sym, ap, subst, [], arith}
use Rattle.std.specs.Prelude.{is_some}
use Rattle.std.specs.Vec.{vec_capacity}
use Rattle.brace_core.specs.declared.name.Name.{Name}
use Rattle.brace_core.specs.declared.name.Turn.TheVariants as turn
use Rattle.brace_core.specs.Exchanges.{IsPut}
use Rattle.brace_pieces.specs.declared.piece.Piece.TheVariants as piece
use Rattle.brace_pieces.specs.Right.{IsRight}
use Rattle.brace_pieces.specs.Courses.{due_on}
use Rattle.brace_pieces.proofs.CourseLemmas.{goes_within}
use Rattle.brace_part.specs.declared.standing.Standing.{Standing}
use Rattle.brace_part.specs.Parts.{OnPart}
use Rattle.brace_pieces.specs.Exchanged.{GoesOn, IsHalted}
use Rattle.brace_part.proofs.SoundLemmas.{sound_at, put_goes}
use Rattle.brace_pieces.proofs.HaltRight.{put_halt, no_cause}
use Rattle.brace_part.proofs.GoneLemmas.{puts_some}
use Rattle.brace_part.proofs.part.PartActorPiece.piece.Goals as goal

pub put-requires-clause-turn : goal.put-requires-clause-turn
put-requires-clause-turn c = subst (λ (v : OnPart). IsPut (due_on v.course)) (sym c.self.view_is) c.requires.turn

pub invariant_of-self : goal.invariant_of-self
invariant_of-self c =
    let i = c.self.inside in
    let k = i.turns.course in
    let low = c.put.ensures.some.1.low in
    let room = vec_capacity i.standing.taken in
    sound_at i.turns c.put.new.self k.number (k.made + 1) (c.put.ensures.place ∙ goes_within k (omega (arith, low))) c.put.ensures.turns i.turns.cause c.put.ensures.cause
    i.queries i.standing i.standing room room c.self.invariant (λ none. absurd (no_cause i.turns.cause (ap is_some (sym c.put.ensures.cause ∙ c.in-Some.is)) none)) c.self.invariant.found c.self.invariant.kept refl

pub unreachable-requires : goal.unreachable-requires
unreachable-requires c =
    let i = c.self.inside in
    let next = c.put.ensures.some in
    let empty : i.standing.out.items ≡ [] = search rules in
    puts_some i.turns.course i.standing next.0 (c.self.invariant.goes_on (sym c.put.ensures.cause ∙ c.in-None.is)) next.1 empty

pub invariant_of-self-in-None : goal.invariant_of-self-in-None
invariant_of-self-in-None c =
    let i = c.self.inside in
    let k = i.turns.course in
    let next = c.put.ensures.some in
    let low = next.1.low in
    let room = vec_capacity i.standing.taken in
    let new : Standing = record { stance = i.standing.stance; next = i.standing.next; out = c.pop.new.self; taken = i.standing.taken; shown = i.standing.shown; counts = i.standing.counts } in
    sound_at i.turns c.put.new.self k.number (k.made + 1) (c.put.ensures.place ∙ goes_within k (omega (arith, low))) c.put.ensures.turns i.turns.cause c.put.ensures.cause
    i.queries i.standing new room room c.self.invariant
    (λ none. (put_goes k i.standing new (c.self.invariant.goes_on none) refl refl next.0 next.1 c.in-Some-pop.piece c.in-Some-pop.ensures.items refl).1.1) c.self.invariant.found c.self.invariant.kept refl

pub returns-in-Some-clause-right : goal.returns-in-Some-clause-right
returns-in-Some-clause-right c =
    let i = c.self.inside in
    subst (λ (v : OnPart). (m : Name) → due_on v.course ≡ turn.Put m → IsRight v.course.setting m (piece.Halt c.in-Some.cause)) c.self.view_is
    (λ m e. put_halt i.turns.course m c.in-Some.cause (c.put.ensures.next m e) (subst (IsHalted i.turns.course.setting i.turns.course.number) (sym c.put.ensures.cause ∙ c.in-Some.is) c.self.invariant.turns.right))

pub returns-in-Some-pop-clause-right : goal.returns-in-Some-pop-clause-right
returns-in-Some-pop-clause-right c =
    let i = c.self.inside in
    let new : Standing = record { stance = i.standing.stance; next = i.standing.next; out = c.pop.new.self; taken = i.standing.taken; shown = i.standing.shown; counts = i.standing.counts } in
    subst (λ (v : OnPart). (m : Name) → due_on v.course ≡ turn.Put m → IsRight v.course.setting m c.in-Some-pop.piece) c.self.view_is
    (λ m e. (put_goes i.turns.course i.standing new (c.self.invariant.goes_on (sym c.put.ensures.cause ∙ c.in-None.is)) refl refl m (c.put.ensures.next m e) c.in-Some-pop.piece c.in-Some-pop.ensures.items refl).0)

pub returns-in-Some-clause-tells : goal.returns-in-Some-clause-tells
returns-in-Some-clause-tells c none x is =
    no_cause c.self.inside.turns.cause (ap is_some (sym c.put.ensures.cause ∙ c.in-Some.is)) (ap (λ (v : OnPart). v.cause) c.self.view_is ∙ none)

pub returns-in-Some-pop-clause-tells : goal.returns-in-Some-pop-clause-tells
returns-in-Some-pop-clause-tells c none x is =
    let i = c.self.inside in
    let next = c.put.ensures.some in
    let new : Standing = record { stance = i.standing.stance; next = i.standing.next; out = c.pop.new.self; taken = i.standing.taken; shown = i.standing.shown; counts = i.standing.counts } in
    subst GoesOn is (put_goes i.turns.course i.standing new (c.self.invariant.goes_on (sym c.put.ensures.cause ∙ c.in-None.is)) refl refl next.0 next.1 c.in-Some-pop.piece c.in-Some-pop.ensures.items refl).1.0
