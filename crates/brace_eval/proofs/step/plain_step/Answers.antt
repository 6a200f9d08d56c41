use Rattle.std.proofs.Common.{◌≡◌, ◌∙◌, ◌+◌, ◌≤◌, ◌^◌, sym, ap, subst, length, ℕ, List, arith, Some, None, Result, Ok, Err}
use Rattle.brace_model.specs.declared.fault.Fault.{Fault}
use Rattle.brace_model.specs.declared.world.Agent.{Agent}
use Rattle.brace_model.specs.World.{World, IsNumbered, RisesById, world_with}
use Rattle.brace_model.specs.Query.{said_in}
use Rattle.brace_model.specs.Step.{grown}
use Rattle.brace_eval.specs.Heard.{table_of}
use Rattle.brace_eval.proofs.StepLemmas.{Leaves, leaves-told, quiet-told, step-told}
use Rattle.brace_eval.proofs.NumberLemmas.{numbered_grown}
use Rattle.brace_eval.proofs.step.plain_step.Goals.{In_ok-nexts}
use Rattle.brace_eval.proofs.step.plain_step.Goals as goal

abbrev failed : Fault → Result World Fault
failed f = Err f

abbrev stepped : World → Result World Fault
stepped w = Ok w

-- a world of packed agents is that of the list of them
packed-same : (items slice packed : List Agent) (next : ℕ) → slice ≡ items → packed ≡ slice
    → world_with items next ≡ world_with packed next
packed-same items slice packed next value same = ap (λ l. world_with l next) (sym (same ∙ value))

pub all_heard-requires-clause-rises : goal.all_heard-requires-clause-rises
all_heard-requires-clause-rises c =
    subst RisesById (sym (c.as_slice-agents.ensures.value ∙ c.in_ok-listed.ensures ∙ c.agents-herd.ensures.same))
    c.agents-herd.ensures.numbered.rises

pub updates-requires-clause-totals : goal.updates-requires-clause-totals
updates-requires-clause-totals c =
    let job = c.args.job.now in
    let agents = c.as_slice-agents.result.now in
    c.deref.ensures.value ∙ c.in_ok-heard.ensures.totals
    ∙ ap (λ (n : ℕ). table_of job.program (said_in job.program n c.args.tick agents) agents) (sym c.make-drawer.ensures)

-- what is left of all agents
left : (c : In_ok-nexts) → Leaves c.args.job.now.program c.args.job.now.seed c.args.tick
    c.args.world.now.agents c.in_ok-nexts.nexts.living.items c.in_ok-nexts.nexts.born.items
left c =
    let job = c.args.job.now in
    let nexts = c.in_ok-nexts.nexts in
    leaves-told job.program job.seed c.args.tick c.args.world.now c.make-drawer.result.seed
    c.as_slice-agents.result.now nexts.living.items nexts.born.items c.make-drawer.ensures
    (c.as_slice-agents.ensures.value ∙ c.in_ok-listed.ensures ∙ c.agents-herd.ensures.same)
    (record {
      passes = c.in_ok-nexts.ensures.passes;
      living = c.in_ok-nexts.ensures.living;
      born = c.in_ok-nexts.ensures.born;
    })

pub returns-in-Some-first_too_far-clause-faulted : goal.returns-in-Some-first_too_far-clause-faulted
returns-in-Some-first_too_far-clause-faulted c fault e =
    let job = c.args.job.now in
    let world = c.args.world.now in
    let leaves = left (goal.at.returns-in-Some-first_too_far-clause-faulted c).In_ok-nexts in
    let quiet = quiet-told job.program job.seed c.args.tick world c.as_slice-agents.result.now (c.as_slice-agents.ensures.value ∙ c.in_ok-listed.ensures ∙ c.agents-herd.ensures.same)
    (sym c.in_ok-heard.ensures.least ∙ c.in_default.is) in
    let told = step-told job.program job.seed c.args.tick world c.in_ok-nexts.nexts.living.items c.in_ok-nexts.nexts.born.items c.deref-2.result.now c.deref-3.result.now c.next.result (Some c.in-Some-first_too_far.child.now) quiet leaves
    c.deref-2.ensures.value c.next.ensures.same c.deref-3.ensures.value c.in-Some-first_too_far.ensures.first in
    let same : c.birth_fault.result ≡ fault = cc in
    told ∙ ap failed (sym c.birth_fault.ensures ∙ same)

pub unreachable-requires : goal.unreachable-requires
unreachable-requires c =
    let job = c.args.job.now in
    let world = c.args.world.now in
    let leaves = left (goal.at.unreachable-requires c).In_ok-nexts in
    let ls = c.in_ok-nexts.nexts.living.items in
    let bs = c.in_ok-nexts.nexts.born.items in
    let fits = c.in_default-first_too_far.ensures.fits in
    let few : world.next + length bs ≤ 2 ^ 63 = omega (arith, fits, c.next.ensures.same, ap length c.deref-3.ensures.value) in
    let w = numbered_grown job.program job.seed c.args.tick world ls bs c.agents-herd.ensures.numbered leaves.living few in
    let same : grown world.next ls bs ≡ world_with c.in_ok-packed.packed c.in_ok-agents.next =
    ap (λ (n : ℕ). grown n ls bs) (sym c.next-2.ensures.same) ∙ sym c.in_ok-agents.ensures
    ∙ packed-same c.in_ok-agents.agents.items c.as_slice.result.now c.in_ok-packed.packed c.in_ok-agents.next c.as_slice.ensures.value c.in_ok-packed.ensures in
    c.in-None.ensures.none (subst IsNumbered same w)

pub grown-requires : goal.grown-requires
grown-requires c =
    let fits = c.in_default-first_too_far.ensures.fits in
    omega (arith, fits, c.next.ensures.same, c.next-2.ensures.same, ap length c.deref-3.ensures.value)

pub returns-clause-stepped : goal.returns-clause-stepped
returns-clause-stepped c =
    let job = c.args.job.now in
    let world = c.args.world.now in
    let leaves = left (goal.at.returns-clause-stepped c).In_ok-nexts in
    let quiet = quiet-told job.program job.seed c.args.tick world c.as_slice-agents.result.now (c.as_slice-agents.ensures.value ∙ c.in_ok-listed.ensures ∙ c.agents-herd.ensures.same)
    (sym c.in_ok-heard.ensures.least ∙ c.in_default.is) in
    let told = step-told job.program job.seed c.args.tick world c.in_ok-nexts.nexts.living.items c.in_ok-nexts.nexts.born.items c.deref-2.result.now c.deref-3.result.now c.next.result None quiet leaves
    c.deref-2.ensures.value c.next.ensures.same c.deref-3.ensures.value c.in_default-first_too_far.ensures.first in
    let whole : grown world.next c.in_ok-nexts.nexts.living.items c.in_ok-nexts.nexts.born.items ≡ c.in-Some-with_next.next =
    ap (λ (n : ℕ). grown n c.in_ok-nexts.nexts.living.items c.in_ok-nexts.nexts.born.items) (sym c.next-2.ensures.same) ∙ sym c.in_ok-agents.ensures
    ∙ packed-same c.in_ok-agents.agents.items c.as_slice.result.now c.in_ok-packed.packed c.in_ok-agents.next c.as_slice.ensures.value c.in_ok-packed.ensures
    ∙ sym c.in-Some-with_next.ensures.world in
    told ∙ ap stepped whole
