use Rattle.std.proofs.Common.{◌≡◌, ◌++◌, flat_map, take}
use Rattle.brace_model.specs.declared.program.Who.TheVariants.{Outer}
use Rattle.brace_plan.specs.Narrowing.{loops_of}
use Rattle.brace_plan.specs.Planning.{IsPlanOf}
use Rattle.brace_plan.proofs.Whole.{OneEach_so_far}
use Rattle.brace_plan.proofs.plans.plan_queries.Given as goal

abbrev pub invariant-loop-class : goal.invariant-loop-class
invariant-loop-class l = record {
  number : l.number ≡ l.class-index;
  plans : OneEach_so_far l.program (λ n class planned. IsPlanOf l.program n class.query planned) l.class-index l.queries;
  loops : l.loops ≡ l.initial.loops ++ flat_map (λ c. loops_of l.program.classes Outer c.query) (take l.class-index l.program.classes);
}
