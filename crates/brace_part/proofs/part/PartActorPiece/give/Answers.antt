use Rattle.std.proofs.Common.{rules, ◌≡◌, ◌∙◌, ◌+◌, refl, sym, subst, arith}
use Rattle.std.specs.Vec.{vec_capacity}
use Rattle.brace_core.specs.declared.name.Name.{Name}
use Rattle.brace_core.specs.declared.name.Turn.TheVariants as turn
use Rattle.brace_core.specs.Exchanges.{IsTake}
use Rattle.brace_pieces.specs.Right.{IsRight}
use Rattle.brace_pieces.specs.Courses.{due_on}
use Rattle.brace_pieces.specs.Turns.{cause_behind}
use Rattle.brace_pieces.proofs.CourseLemmas.{goes_within}
use Rattle.brace_part.specs.declared.standing.Standing.{Standing}
use Rattle.brace_part.specs.Parts.{OnPart}
use Rattle.brace_part.proofs.SoundLemmas.{sound_at, take_goes, has_place}
use Rattle.brace_part.proofs.CauseLemmas.{found_behind, none_behind}
use Rattle.brace_pieces.proofs.HaltRight.{no_cause}
use Rattle.brace_num.proofs.Options.{not_some}
use Rattle.brace_part.proofs.part.PartActorPiece.give.Goals as goal

pub take-requires-clause-turn : goal.take-requires-clause-turn
take-requires-clause-turn c = subst (λ (v : OnPart). IsTake (due_on v.course)) (sym c.self.view_is) c.requires.turn

pub take-requires-clause-right : goal.take-requires-clause-right
take-requires-clause-right c =
    subst (λ (v : OnPart). (n : Name) → due_on v.course ≡ turn.Take n → IsRight v.course.setting n c.args.piece) (sym c.self.view_is) c.requires.right

pub invariant_of-self : goal.invariant_of-self
invariant_of-self c =
    let i = c.self.inside in
    let k = i.turns.course in
    let (n, (due, (turn, right))) = c.take.ensures.next in
    let low = turn.low in
    let high = turn.high in
    let room = vec_capacity i.standing.taken in
    sound_at i.turns c.take.new.self k.number (k.made + 1) (c.take.ensures.place ∙ goes_within k (omega (arith, low, high))) c.take.ensures.turns (cause_behind i.turns.cause c.args.piece) c.take.ensures.cause
    i.queries i.standing i.standing room room c.self.invariant (λ none. absurd (no_cause c.take.new.self.cause (sym c.is_some.ensures ∙ c.if-is_some.true) (c.take.ensures.cause ∙ none)))
    (found_behind k.setting k.actor k.number i.turns.cause c.args.piece c.self.invariant.found) c.self.invariant.kept refl

pub push_reserved-requires : goal.push_reserved-requires
push_reserved-requires c =
    let i = c.self.inside in
    let (n, (due, (turn, right))) = c.take.ensures.next in
    let none = sym c.take.ensures.cause ∙ not_some c.take.new.self.cause (sym c.is_some.ensures ∙ c.if-is_some.false) in
    let (was, goes) = none_behind i.turns.cause c.args.piece none in
    let place = has_place i.turns.course i.standing n (vec_capacity i.standing.taken) c.self.invariant.is_part.is_part (c.self.invariant.goes_on was) turn c.self.invariant.has_room in
    search (rules, place)

pub invariant_of-self-2 : goal.invariant_of-self-2
invariant_of-self-2 c =
    let i = c.self.inside in
    let k = i.turns.course in
    let (n, (due, (turn, right))) = c.take.ensures.next in
    let low = turn.low in
    let high = turn.high in
    let new : Standing = record { stance = i.standing.stance; next = i.standing.next; out = i.standing.out; taken = c.push_reserved.new.self; shown = i.standing.shown; counts = i.standing.counts } in
    sound_at i.turns c.take.new.self k.number (k.made + 1) (c.take.ensures.place ∙ goes_within k (omega (arith, low, high))) c.take.ensures.turns (cause_behind i.turns.cause c.args.piece) c.take.ensures.cause
    i.queries i.standing new (vec_capacity i.standing.taken) (vec_capacity c.push_reserved.new.self) c.self.invariant
    (λ none. (let (was, goes) = none_behind i.turns.cause c.args.piece none in take_goes k i.standing new (c.self.invariant.goes_on was) refl refl n turn c.args.piece refl c.push_reserved.ensures.items right goes))
    (found_behind k.setting k.actor k.number i.turns.cause c.args.piece c.self.invariant.found) c.self.invariant.kept c.push_reserved.ensures.capacity
