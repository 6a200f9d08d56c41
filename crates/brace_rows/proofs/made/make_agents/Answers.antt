use Rattle.std.proofs.Common.{◌≡◌, ◌∙◌, ◌++◌, ◌∷◌, [], List, ap, arith, sym, subst}
use Rattle.brace_model.specs.declared.world.Agent.{Agent}
use Rattle.brace_model.specs.Lawful.{LawfulAgents}
use Rattle.brace_model.specs.World.{IsNumbered, World, world_of}
use Rattle.brace_num.specs.Generator.{following}
use Rattle.brace_rows.specs.MadeAgents.{agent_at, made_agents}
use Rattle.brace_rows.proofs.Draws.{drawn_twice, made_are_lawful, made_are_low, made_more, made_rise}
use Rattle.brace_rows.proofs.Order.{rising_are_numbered}
use Rattle.brace_rows.proofs.made.make_agents.Goals as goal

pub loop-id-preserved : goal.loop-id-preserved
loop-id-preserved c =
    let g = c.loop-id.generator in
    let so_far = c.loop-id.invariant in
    record {
      made =
          c.in_ok-add_agent.ensures.agent
          ∙ ap (λ (l : List Agent). l ++ agent_at c.loop-id.id (following g) (following (following g)) ∷ []) so_far.made
          ∙ sym (made_more c.args.seed c.loop-id.id g so_far.drawn);
      drawn = c.in_ok-add_agent.ensures.drawn ∙ drawn_twice c.args.seed c.loop-id.id g so_far.drawn;
    }

pub unreachable-requires : goal.unreachable-requires
unreachable-requires c =
    let done : c.loop-id.id ≡ c.args.count = omega arith in
    let made : c.loop-id.agents ≡ made_agents c.args.seed c.args.count = c.loop-id.invariant.made ∙ ap (made_agents c.args.seed) done in
    c.in-None.ensures.none (subst (λ l. IsNumbered (world_of l)) (sym made)
    (rising_are_numbered (made_agents c.args.seed c.args.count) (made_rise c.args.seed c.args.count) (made_are_low c.args.seed c.args.count c.requires)))

pub returns-clause-lawful : goal.returns-clause-lawful
returns-clause-lawful c program four =
    let done : c.loop-id.id ≡ c.args.count = omega arith in
    let made : c.loop-id.agents ≡ made_agents c.args.seed c.args.count = c.loop-id.invariant.made ∙ ap (made_agents c.args.seed) done in
    subst (LawfulAgents program) (sym (ap (λ (w : World). w.agents) c.in-Some.ensures.world ∙ made)) (made_are_lawful program c.args.seed c.args.count four c.requires)
