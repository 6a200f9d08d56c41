use Rattle.std.proofs.Common.{◌≡◌, ◌∙◌, ◌+◌, ◌++◌, ◌∷◌, [], sym, ap, subst, length, map, take, drop, List, ℕ, ℤ, arith, Some, Result, Ok, Err}
use Rattle.brace_model.specs.declared.fault.Fault.{Fault}
use Rattle.brace_model.specs.declared.world.Agent.{Agent}
use Rattle.brace_model.specs.World.{class_of}
use Rattle.brace_model.specs.Query.{said_in}
use Rattle.brace_model.specs.Next.{Next, next, next_in}
use Rattle.brace_model.specs.FaultOrder.{with_earlier}
use Rattle.brace_eval.specs.Heard.{row_of, table_of}
use Rattle.brace_eval.specs.inner.Updates.{with_one}
use Rattle.brace_eval.proofs.DeedLemmas.{map-more}
use Rattle.brace_eval.proofs.StepLemmas.{SoFar, so_far-ok, so_far-err, rest-long, row-first, rest-behind, next-row}
use Rattle.brace_eval.proofs.step.updates.Goals as goal
use Rattle.brace_eval.proofs.step.updates.Goals.{in-Ok+in_ok-add-in-Ok, in-Err-Fault}

pub split_at-requires : goal.split_at-requires
split_at-requires c =
    let long = rest-long c.args.program.now _ c.args.agents.now c.loop-a.a-index c.a-item.result c.loop-a.rest.now c.loop-a-test.true c.a-item.is c.loop-a.invariant.rest in
    omega (arith, long, ap length c.effects_of.ensures)

pub loop-a-preserved : goal.loop-a-preserved
loop-a-preserved c =
    let program = c.args.program.now in
    let seed = c.args.drawer.now.seed in
    let agents : List Agent = c.args.agents.now in
    let said = said_in program seed c.args.tick agents in
    let i = c.loop-a.a-index in
    let a = c.a-item.result in
    let rest : List ℤ = c.loop-a.rest.now in
    let f : Agent → Result Next Fault = next program seed c.args.tick agents in
    let rs = map f (take i agents) in
    let width = ap length c.effects_of.ensures in
    let row : c.split_at.result.0.now ≡ row_of program said a =
    c.split_at.ensures.front ∙ ap (λ (n : ℕ). take n rest) width ∙ row-first program said agents i a rest c.loop-a-test.true c.a-item.is c.loop-a.invariant.rest in
    let behind : c.split_at.result.1.now ≡ table_of program said (drop (i + 1) agents) =
    c.split_at.ensures.back ∙ ap (λ (n : ℕ). drop n rest) width ∙ rest-behind program said agents i a rest c.loop-a-test.true c.a-item.is c.loop-a.invariant.rest in
    let by_row : f a ≡ next_in seed c.args.tick (class_of program a) c.split_at.result.0.now a = next-row program seed c.args.tick agents a c.split_at.result.0.now row in
    let more : (r : Result Next Fault) → f a ≡ r → map f (take (i + 1) agents) ≡ rs ++ r ∷ [] =
    λ r is. map-more f agents i a c.loop-a-test.true c.a-item.is ∙ ap (λ (x : Result Next Fault). rs ++ x ∷ []) is in
    elim c.match-left_by.branch [
      | in-Ok+in_ok-add-in-Ok w ↦
          let left : Next = record { agent = w.in-Ok.left.agent; child = w.in-Ok.left.child } in
          let is : f a ≡ Ok left = by_row ∙ subst (λ (n : ℕ). next_in n c.args.tick (class_of program a) c.split_at.result.0.now a ≡ Ok left) c.loop-a.invariant.seed w.in-Ok.ensures.left in
          let so = so_far-ok rs left c.loop-a.nexts.living.items c.loop-a.nexts.born.items c.loop-a.least c.loop-a.invariant.so_far in
          record {
            seed = c.left_by.ensures.seed ∙ c.loop-a.invariant.seed;
            rest = behind;
            so_far = rw (w.nexts-is, w.least-is, w.in_ok-add-in-Ok.ensures.living, w.in_ok-add-in-Ok.ensures.born)
                (subst (λ (l : List (Result Next Fault)). SoFar l (with_one c.loop-a.nexts.living.items left.agent) (with_one c.loop-a.nexts.born.items left.child) c.loop-a.least) (sym (more (Ok left) is)) so);
          }
      | in-Err-Fault w ↦
          let is : f a ≡ Err w.in-Err-Fault.fault =
          by_row ∙ subst (λ (n : ℕ). next_in n c.args.tick (class_of program a) c.split_at.result.0.now a ≡ Err w.in-Err-Fault.fault) c.loop-a.invariant.seed
          (w.in-Err-Fault.ensures.fault w.in-Err-Fault.fault w.in-Err-Fault.field-0-is) in
          let so = so_far-err rs w.in-Err-Fault.fault c.loop-a.nexts.living.items c.loop-a.nexts.born.items c.loop-a.least c.loop-a.invariant.so_far in
          record {
            seed = c.left_by.ensures.seed ∙ c.loop-a.invariant.seed;
            rest = behind;
            so_far = rw (w.nexts-is, w.least-is, w.with_earlier.ensures)
                (subst (λ (l : List (Result Next Fault)). SoFar l c.loop-a.nexts.living.items c.loop-a.nexts.born.items (Some (with_earlier c.loop-a.least w.in-Err-Fault.fault))) (sym (more (Err w.in-Err-Fault.fault) is)) so);
          }
    ]
