use Rattle.std.proofs.Common.{◌≡◌, ◌∙◌, refl, sym, ap, subst, ℕ, arith}
use Rattle.brace_core.specs.declared.name.Name.{Name}
use Rattle.brace_core.specs.declared.name.Turn.{Turn}
use Rattle.brace_core.specs.declared.name.Turn.TheVariants.{Put, Take, Work, Done}
use Rattle.brace_core.specs.Schedule.{Schedule, front, turn_at}
use Rattle.brace_core.specs.Exchanges.{IsPut, IsTake}
use Rattle.brace_core.proofs.Counted.{one_kept, puts_served, puts_next, puts_answered, takes_served, takes_next, counted_more}
use Rattle.brace_core.proofs.Fronts.{due_same}
use Rattle.brace_core.proofs.turn.make_turn.Goals as goal

-- the turn that is due under the actor's setting, of those before its end, is due under the exchange's
due_here : {S : Type 0} (schedule : S → Schedule) (a x : S) (end number past : ℕ) (t u : Turn) → a ≡ x → t ≡ turn_at (front (schedule a) end) number past → t ≡ u → (u ≡ Done → ⊥)
    → turn_at (schedule x) number past ≡ u
due_here {S} schedule a x end number past t u same is at some =
    ap (λ (s : S). turn_at (schedule s) number past) (sym same) ∙ due_same (schedule a) end number past (λ done. some (sym at ∙ is ∙ done)) ∙ sym is ∙ at

-- and under its own in the whole schedule
due_now : {S : Type 0} (schedule : S → Schedule) (a : S) (end number past : ℕ) (t u : Turn) → t ≡ turn_at (front (schedule a) end) number past → t ≡ u → (u ≡ Done → ⊥) → turn_at (schedule a) number past ≡ u
due_now schedule a end number past t u is at some = due_here schedule a a end number past t u refl is at some

-- a name that is taken is one
same_taken : (m n : Name) → Take m ≡ Take n → m ≡ n
same_taken m n e = cc

pub piece-piece-requires : goal.piece-piece-requires
piece-piece-requires g c = subst IsPut (sym (due_now g.F.Freight.schedule _ _ _ _ _ _ c.next.ensures c.in-Put.is (λ done. absurd cc))) tt

pub give-requires-clause-turn : goal.give-requires-clause-turn
give-requires-clause-turn g c = subst IsTake (sym (due_now g.F.Freight.schedule _ _ _ _ _ _ c.next.ensures c.in-Take.is (λ done. absurd cc))) tt

pub give-requires-clause-right : goal.give-requires-clause-right
give-requires-clause-right g c name due =
    let taken = due_now g.F.Freight.schedule _ _ _ _ _ _ c.next.ensures c.in-Take.is (λ done. absurd cc) in
    let same : name ≡ c.in-Take.name = same_taken name c.in-Take.name (sym due ∙ taken) in
    subst (λ n. g.F.Freight.right (g.A.Actor.setting c.args.actor.now) n c.in-Some.piece) (sym same)
    (subst (λ s. g.F.Freight.right s c.in-Take.name c.in-Some.piece) (sym c.requires.setting) c.in-Some.ensures.right)

pub work-requires : goal.work-requires
work-requires g c = due_now g.F.Freight.schedule _ _ _ _ _ _ c.next.ensures c.in-Work.is (λ done. absurd cc)

pub put-requires-clause-right : goal.put-requires-clause-right
put-requires-clause-right g c =
    let put = due_now g.F.Freight.schedule _ _ _ _ _ _ c.next.ensures c.in-Put.is (λ done. absurd cc) in
    subst (λ s. g.F.Freight.right s c.in-Put.name c.piece-piece.result) c.requires.setting (c.piece-piece.ensures.right c.in-Put.name put)

pub put-requires-clause-served : goal.put-requires-clause-served
put-requires-clause-served g c = puts_served _ _ _ _ _ _ c.requires.counted c.requires.lawful c.in-Put.name (due_here g.F.Freight.schedule _ _ _ _ _ _ _ c.requires.setting c.next.ensures c.in-Put.is (λ done. absurd cc))

pub put-requires-clause-next : goal.put-requires-clause-next
put-requires-clause-next g c = puts_next _ _ _ _ _ _ c.requires.counted c.requires.lawful c.in-Put.name (due_here g.F.Freight.schedule _ _ _ _ _ _ _ c.requires.setting c.next.ensures c.in-Put.is (λ done. absurd cc))

pub put-requires-clause-answered : goal.put-requires-clause-answered
put-requires-clause-answered g c = puts_answered _ _ _ _ _ _ c.requires.counted c.requires.lawful c.in-Put.name (due_here g.F.Freight.schedule _ _ _ _ _ _ _ c.requires.setting c.next.ensures c.in-Put.is (λ done. absurd cc))

pub take-requires-clause-served : goal.take-requires-clause-served
take-requires-clause-served g c = takes_served _ _ _ _ _ _ c.requires.counted c.requires.lawful c.in-Take.name (due_here g.F.Freight.schedule _ _ _ _ _ _ _ c.requires.setting c.next.ensures c.in-Take.is (λ done. absurd cc))

pub take-requires-clause-next : goal.take-requires-clause-next
take-requires-clause-next g c = takes_next _ _ _ _ _ _ c.requires.counted c.requires.lawful c.in-Take.name (due_here g.F.Freight.schedule _ _ _ _ _ _ _ c.requires.setting c.next.ensures c.in-Take.is (λ done. absurd cc))

pub returns-in-Put-clause-counted : goal.returns-in-Put-clause-counted
returns-in-Put-clause-counted g c =
    let e = c.piece-piece.ensures in
    let x = c.put.ensures in
    let n = c.in-Put.name in
    let a = g.A.Actor.number c.args.actor.now in
    counted_more _ _ _ _ _ _ c.requires.counted _ _ _ _ _ _ (ap g.F.Freight.schedule x.same) e.same_number (x.serving a c.requires.counted.served) e.goes_on
    (Put n) (due_here g.F.Freight.schedule _ _ _ _ _ _ _ c.requires.setting c.next.ensures c.in-Put.is (λ done. absurd cc)) (λ done. absurd cc)
    (λ q. let put = x.put a q in let one = one_kept n a q in omega (arith, put, one)) (λ q. let taken = x.taken q a in omega (arith, taken))

pub returns-in-Some-clause-counted : goal.returns-in-Some-clause-counted
returns-in-Some-clause-counted g c =
    let e = c.give.ensures in
    let x = c.in-Some.ensures in
    let n = c.in-Take.name in
    let a = g.A.Actor.number c.args.actor.now in
    counted_more _ _ _ _ _ _ c.requires.counted _ _ _ _ _ _ (ap g.F.Freight.schedule x.same) e.same_number (x.serving a c.requires.counted.served) e.goes_on
    (Take n) (due_here g.F.Freight.schedule _ _ _ _ _ _ _ c.requires.setting c.next.ensures c.in-Take.is (λ done. absurd cc)) (λ done. absurd cc)
    (λ q. let put = x.put a q in omega (arith, put)) (λ q. let taken = x.taken q a in let one = one_kept n q a in omega (arith, taken, one))

pub returns-in-Work-clause-counted : goal.returns-in-Work-clause-counted
returns-in-Work-clause-counted g c =
    let e = c.work.ensures in
    counted_more _ _ _ _ _ _ c.requires.counted _ _ _ _ _ _ refl e.same_number c.requires.counted.served e.goes_on
    Work (due_here g.F.Freight.schedule _ _ _ _ _ _ _ c.requires.setting c.next.ensures c.in-Work.is (λ done. absurd cc)) (λ done. absurd cc)
    (λ q. omega arith) (λ q. omega arith)
