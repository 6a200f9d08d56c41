use Rattle.std.proofs.Common.{◌≡◌, ◌+◌, ◌++◌, ◌∷◌, ◌∙◌, ℕ, List, [], Bor, map, length, sym, ap, subst, arith, rules, Ok, Err}
use Rattle.std.proofs.lemmas.List.{length-map, length_push}
use Rattle.std.proofs.lemmas.List.Sums.{sum_by-append, sum_by-cons}
use Rattle.brace_model.specs.declared.world.Agent.{Agent}
use Rattle.brace_model.specs.Step.{count_values}
use Rattle.brace_save.specs.declared.kinds.PointFault.TheVariants.{BadLine}
use Rattle.brace_save.specs.Lines.{IsRead}
use Rattle.brace_save.specs.inner.Spelled.{IsAgentLine}
use Rattle.brace_save.specs.inner.Steps.{IsFront, MayFollow, line, front_length}
use Rattle.brace_save.proofs.Ends.{agent_bad, front_more}
use Rattle.brace_save.proofs.read.read_agents.Goals as goal

pub returns-then-not-may_follow-clause-refused : goal.returns-then-not-may_follow-clause-refused
returns-then-not-may_follow-clause-refused c = λ lawful rest cause err ok.
    let all = map (λ (l : Bor (List ℕ)). l.now) c.args.lines.now in
    let program = c.args.program.now in
    let agents = c.loop-i.agents.items in
    let a = c.in-Some.agent in
    let at = c.loop-i.invariant.at in
    let same : BadLine (front_length program c.args.heading.tells_next agents + 1) ≡ cause = ap (λ n. BadLine (n + 1)) (sym at) ∙ cc in
    let told : IsAgentLine program a c.field_at.result.now = c.in_ok-agent.ensures.some a (ap Ok c.in-Some.is) in
    let may_not : MayFollow agents c.args.heading.next a → ⊥ = search rules in
    let long = length-map c.args.lines.now (λ (l : Bor (List ℕ)). l.now) in
    subst (λ k. IsRead program all rest (Err k)) same
    (agent_bad program c.args.heading agents all rest a lawful c.loop-i.invariant.told (omega (arith, at, long, c.loop-i-test.true))
    (subst (IsAgentLine program a) (c.field_at.ensures ∙ ap (line all) at) told) may_not)

pub loop-i-preserved : goal.loop-i-preserved
loop-i-preserved c =
    let all = map (λ (l : Bor (List ℕ)). l.now) c.args.lines.now in
    let program = c.args.program.now in
    let b = c.args.heading.tells_next in
    let agents = c.loop-i.agents.items in
    let a = c.in-Some.agent in
    let at = c.loop-i.invariant.at in
    let told : IsAgentLine program a c.field_at.result.now = c.in_ok-agent.ensures.some a (ap Ok c.in-Some.is) in
    let may : MayFollow agents c.args.heading.next a = search rules in
    let long = length-map c.args.lines.now (λ (l : Bor (List ℕ)). l.now) in
    let pushed : agents ++ a ∷ [] ≡ c.push_agent.new.agents.items = search rules in
    let many : length c.as_slice-in-loop-i-2.result.now ≡ length a.states = search rules in
    let values : count_values (agents ++ a ∷ []) ≡ count_values agents + length a.states =
    sum_by-append (λ (k : Agent). length k.states) agents (a ∷ []) ∙ ap (λ n. count_values agents + n) (sum_by-cons (λ (k : Agent). length k.states) a []) ∙ omega arith in
    record {
      at = omega (arith, at, length_push agents a) ∙ ap (front_length program b) pushed;
      counted = omega (arith, c.loop-i.invariant.counted, many, values) ∙ ap count_values pushed;
      told = subst (λ l. IsFront program c.args.heading l all) pushed
          (front_more program c.args.heading agents all a c.loop-i.invariant.told (omega (arith, at, long, c.loop-i-test.true))
          (subst (IsAgentLine program a) (c.field_at.ensures ∙ ap (line all) at) told) may);
    }
