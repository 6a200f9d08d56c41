use Rattle.std.proofs.Common.{◌≡◌, ◌+◌, ◌%◌, ◌∙◌, ℕ, false, cond, is_some, sym, subst, arith, rules}
use Rattle.brace_core.specs.Exchanges.{IsNext}
use Rattle.brace_lanes.specs.declared.tests.Talk.{Talk}
use Rattle.brace_lanes.specs.Seats.{takes_of}
use Rattle.brace_lanes.specs.Views.{opening}
use Rattle.brace_lanes.specs.inner.Talk.{talk}
use Rattle.brace_lanes.proofs.tests.put_and_take.Goals as goal

seat_is : (c : goal.After-end-3-1) → c.in-Some.seat ≡ record { lanes = c.in_ok-lanes.lanes; view = opening (record { steps = 1 }) 2 1 0 1 }
seat_is c = search rules

pub put-requires-clause-served : goal.put-requires-clause-served
put-requires-clause-served c = c.take.ensures.serving 0 (search rules)

pub take-requires-2-clause-served : goal.take-requires-2-clause-served
take-requires-2-clause-served c =
    let is = seat_is c in
    c.put.ensures.serving 1 (c.take.ensures.serving 1 ((λ i. (is i).lanes), (λ i. 1 % (is i).view.seats) ∙ sym (λ i. (is i).view.number)))

pub take-requires-2-clause-next : goal.take-requires-2-clause-next
take-requires-2-clause-next c =
    let first : IsNext (talk c.in-Some.seat.view.setting.steps) (record { step = 0; from = 0; to = 1 }) (takes_of c.in-Some.seat.view 0 1) = search rules in
    let none : is_some c.take.result ≡ false = sym c.is_some.ensures ∙ c.if-is_some.false in
    let added : takes_of c.in-Some.seat.view 0 1 + cond (is_some c.take.result) 1 0 ≡ takes_of c.in-Some.seat.view 0 1 = (λ i. takes_of c.in-Some.seat.view 0 1 + cond (none i) 1 0) ∙ omega arith in
    let count : takes_of c.put.new.self.seat.view 0 1 ≡ takes_of c.in-Some.seat.view 0 1 = c.put.ensures.taken 0 1 ∙ c.take.ensures.taken 0 1 ∙ added in
    let setting : c.put.new.self.seat.view.setting ≡ c.in-Some.seat.view.setting = c.put.ensures.same ∙ c.take.ensures.same in
    subst (λ (z : Talk × ℕ). IsNext (talk z.0.steps) (record { step = 0; from = 0; to = 1 }) z.1) (λ i. (sym setting i, sym count i)) first
