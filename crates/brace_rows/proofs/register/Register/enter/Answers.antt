use Rattle.std.proofs.Common.{◌≡◌, ◌+◌, ◌∙◌, ◌||◌, ◌++◌, ◌∷◌, [], true, false, length, ap, sym, subst, rules}
use Rattle.std.specs.Prelude.{nat_eq, nat_lt, not}
use Rattle.std.specs.BTreeSet as tree
use Rattle.std.specs.List.{IsDistinct, list_any}
use Rattle.std.specs.Ordering.{nat_cmp}
use Rattle.brace_model.specs.World.{ids}
use Rattle.brace_model.specs.Step.{most_agents, most_values, count_values}
use Rattle.brace_rows.specs.AgentFile.{are_too_many}
use Rattle.brace_rows.proofs.Entering.{Knows, counted_more, differ_more, knows_more, many_more, negated}
use Rattle.brace_rows.proofs.register.Register.enter.Goals as goal

pub returns-clause-register : goal.returns-clause-register
returns-clause-register c = λ _.
    let agents = c.args.self.now.agents.items in
    let a = c.args.agent in
    let values = c.args.self.now.values in
    let items : c.push.new.self.items ≡ agents ++ a ∷ [] = c.in_ok-push.ensures.items in
    let states : length c.as_slice-more.result.now ≡ length a.states = ap length c.as_slice-more.ensures in
    let added : true ≡ not (tree.contains nat_cmp c.args.self.now.ids a.id) = search rules in
    let fresh : list_any (nat_eq a.id) (ids agents) ≡ false = sym (c.requires.known a.id) ∙ negated true _ added in
    let room : true ≡ not (nat_lt most_agents (length agents + 1) || nat_lt most_values (values + length c.as_slice-more.result.now)) = search rules in
    record {
      counted = ap (λ n. values + n) states ∙ ap (λ n. n + length a.states) c.requires.counted ∙ sym (ap count_values items ∙ counted_more agents a);
      known = subst (Knows c.insert.new.self) (sym items) (knows_more c.args.self.now.ids c.insert.new.self agents a c.requires.known c.in_ok-insert.ensures.updates);
      differ = subst (λ l. IsDistinct nat_eq (ids l)) (sym items) (differ_more agents a c.requires.differ fresh);
      few =
          ap are_too_many items ∙ many_more agents a values c.requires.counted
          ∙ ap (λ n. nat_lt most_agents (length agents + 1) || nat_lt most_values (values + n)) (sym states) ∙ negated true _ room;
    }
