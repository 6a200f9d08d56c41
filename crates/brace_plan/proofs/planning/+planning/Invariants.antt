use Rattle.std.proofs.Common.{◌≡◌, Some, map, length, take, drop, true}
use Rattle.std.specs.Prelude.{is_some}
use Rattle.brace_model.specs.Typing.{in_turn, scope_after}
use Rattle.brace_plan.specs.Narrowing.{loops_of}
use Rattle.brace_plan.specs.inner.Doing.{names_with, variable_in, Does}
use Rattle.brace_plan.specs.Planning.{told_by}
use Rattle.brace_plan.proofs.planning.+planning.Given as goal

abbrev pub invariant-plan_block-loop-s : goal.invariant-plan_block-loop-s
invariant-plan_block-loop-s l = record {
  outside : l.outside ≡ length l.fn.constants;
  after : in_turn (map scope_after (take l.s-index l.block)) (names_with l.known l.fn.constants) ≡ Some (names_with l.known l.constants);
  rest : is_some (in_turn (map scope_after (drop l.s-index l.block)) (names_with l.known l.constants)) ≡ true;
  does : Does (names_with l.known l.fn.constants) (names_with l.known l.constants) (take l.s-index l.block) l.actions;
  told : told_by l.actions ≡ loops_of l.known.classes.now (variable_in l.known) (take l.s-index l.block);
}
