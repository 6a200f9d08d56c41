-- The plan of a cut plan, and the refusal of one.
use Rattle.std.proofs.Common.{◌≡◌, ◌∙◌, refl, sym, ap, subst, ℕ, List, Some, None, Ok}
use Rattle.brace_io.specs.Shelves.{Files}
use Rattle.brace_cuts.specs.declared.plan.CutLine.{CutLine}
use Rattle.brace_cuts.specs.declared.plan.CutPlan.{CutPlan}
use Rattle.brace_cuts.specs.declared.kinds.PlanFault.{PlanFault}
use Rattle.brace_cuts.specs.declared.kinds.PlanFault.TheVariants as plan_fault
use Rattle.brace_cuts.specs.declared.kinds.PlanKind.{PlanKind}
use Rattle.brace_cuts.specs.CutPlans as plan_file
use Rattle.brace_command.specs.declared.answer.Stopped.{Stopped}
use Rattle.brace_command.specs.Limits.{plan_limit}
use Rattle.brace_command.specs.declared.status.Status.TheVariants.{Plan}
use Rattle.brace_command.specs.Answer.{ShelfCall}
use Rattle.brace_command.specs.Outcome.{loaded, unless_bad, plan_from, plan_of}
use Rattle.brace_command.specs.Settled.{IsPlanRefused, IsUnloaded}
use Rattle.brace_command.proofs.AnswerLemmas.{refusal_unloads, memory_unloads}

-- the plan of a cut plan
pub plan_read : (epoch : ℕ) (files : Files) (name bytes : List ℕ) (plan : CutPlan) → loaded Plan plan_limit name (files name) ≡ Ok bytes
    → plan_file.first_fault epoch (plan_file.lines_of bytes) ≡ None → plan.lines ≡ plan_file.lines_in (plan_file.lines_of bytes) → plan_of files epoch (Some name) ≡ Ok plan
plan_read epoch files name bytes plan e none is =
    ap (plan_from epoch name) e ∙ ap (unless_bad name _) none ∙ ap (λ (lines : List CutLine). Ok (record { lines = lines })) (sym is)

-- a cut plan that is refused for a line
pub line_unloads : (epoch : ℕ) (name bytes : List ℕ) (shelf : ShelfCall) (fault : PlanFault) (stopped : Stopped)
    → shelf.faults_after ≡ shelf.faults_before → ((files : Files) → shelf.held ≡ Some files → loaded Plan plan_limit name (files name) ≡ Ok bytes)
    → ((number : ℕ) (kind : PlanKind) → fault ≡ plan_fault.Bad number kind → plan_file.first_fault epoch (plan_file.lines_of bytes) ≡ Some (number, kind))
    → IsPlanRefused name fault stopped → IsUnloaded (λ files found. plan_of files epoch (Some name) ≡ found) name shelf stopped
line_unloads epoch name bytes shelf (plan_fault.Bad number kind) stopped same source first is =
    refusal_unloads _ name shelf Plan _ stopped refl same is
    (λ files told. ap (plan_from epoch name) (source files told) ∙ ap (unless_bad name _) (first number kind refl))
line_unloads epoch name bytes shelf plan_fault.NoMemory stopped same source first is =
    subst (λ (e : Stopped). IsUnloaded (λ files found. plan_of files epoch (Some name) ≡ found) name shelf e) (sym is) (memory_unloads _ name shelf)
