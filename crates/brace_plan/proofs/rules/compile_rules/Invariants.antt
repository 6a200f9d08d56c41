use Rattle.std.proofs.Common.{◌≡◌}
use Rattle.brace_model.specs.Lawful.{rule_scope}
use Rattle.brace_plan.specs.Ruling.{AreRulesOf}
use Rattle.brace_plan.proofs.Whole.{OneEach_so_far}
use Rattle.brace_plan.proofs.rules.compile_rules.Given as goal

abbrev pub invariant-loop-class : goal.invariant-loop-class
invariant-loop-class l = record {
  number : l.number ≡ l.class-index;
  rules : OneEach_so_far l.program (λ n class rules. AreRulesOf (rule_scope l.program n) class rules) l.class-index l.all;
}
