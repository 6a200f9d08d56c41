use Rattle.std.proofs.Common.{ap, sym, subst}
use Rattle.std.specs.Prelude.{nat_eq}
use Rattle.std.specs.List.{IsDistinct}
use Rattle.brace_model.specs.World.{ids}
use Rattle.brace_model.specs.Step.{count_values}
use Rattle.brace_rows.specs.AgentFile.{are_too_many}
use Rattle.brace_rows.proofs.Entering.{knows_none}
use Rattle.brace_rows.proofs.register.Register.new.Goals as goal

pub returns-clause-register : goal.returns-clause-register
unfolding IsDistinct
returns-clause-register c =
    let none = c.new.ensures.items in
    record {
      counted = sym (ap count_values none);
      known = knows_none c.new-2.result c.new.result.items c.new-2.ensures.empty none;
      differ = subst (λ l. IsDistinct nat_eq (ids l)) (sym none) tt;
      few = ap are_too_many none;
    }
