use Rattle.std.proofs.Common.{◌≡◌, ◌∙◌, ◌++◌, [], append-nil, sym, ap, subst, flat_map, List, true, rules}
use Rattle.std.specs.List.{list_all}
use Rattle.std.proofs.lemmas.List.Sorted.{IsPermutation-refl}
use Rattle.brace_model.specs.declared.fault.Fault.{Fault}
use Rattle.brace_model.specs.declared.program.Program.{Program}
use Rattle.brace_model.specs.declared.world.Agent.{Agent}
use Rattle.brace_model.specs.Lawful.{is_lawful_agent}
use Rattle.brace_model.specs.Query.{Saying}
use Rattle.brace_eval.specs.Heard.{IsHeard, faults_by, said_by}
use Rattle.brace_fold.specs.Asked.{agents_at}
use Rattle.brace_fold.specs.Sums.{AreSummed}
use Rattle.brace_fold.specs.inner.Asks.{AsksIn}
use Rattle.brace_fold.specs.inner.Joins.{said_of}
use Rattle.brace_fold.proofs.Askings.{asks-quiet, asks-said}
use Rattle.brace_fold.proofs.Joinings.{heard-joined}
use Rattle.brace_fold.proofs.RowLemmas.{by_id_is}
use Rattle.brace_fold.proofs.Walks.{on_ok}
use Rattle.brace_fold.proofs.folding.fold.Goals as goal

pub ask_agents-requires-clause-lawful : goal.ask_agents-requires-clause-lawful
ask_agents-requires-clause-lawful c =
    subst (λ (p : Program). list_all (is_lawful_agent p) c.args.agents.now ≡ true)
    (sym c.program-program.ensures) c.requires.lawful

pub returns : goal.returns
returns c =
    let agents = c.args.agents.now in
    let program = c.args.plans.now in
    let seed = c.args.seed in
    let tick = c.args.tick in
    let asking = c.args.asking.now in
    let told = c.ask_agents.new.said in
    let world = by_id_is agents agents c.requires.rises (IsPermutation-refl agents) in
    let asks = λ (d : Agent). subst (λ (p : Program). AsksIn p seed tick agents d asking
    c.in_ok-said.said told) c.program-program.ensures (c.in_ok-ask_agents.ensures d) in
    record {
      heard = on_ok c.join_all.result _ _ (λ joins d said faults is.
          let none = c.in_ok-said.ensures program agents (search rules) in
          let asked = agents_at agents d asking in
          let more : List Saying = said_by program seed tick agents asked in
          let summed =
          subst (λ w. AreSummed program agents (said_by program seed tick w asked) told) world
          (asks-said program seed tick agents d asking c.in_ok-said.said told (asks d) [] none) in
          let joined = subst (λ (p : Program). AreSummed p agents more told
          → IsHeard p agents said faults c.args.heard.now
          → IsHeard p agents (said ++ flat_map (said_of p more) agents) faults
          c.join_all.new.heard) c.program-program.ensures (joins more said faults) summed is in
          let all = heard-joined program agents more said faults c.join_all.new.heard
          c.requires.rises joined in
          let quiet = subst (λ w. faults_by program seed tick w asked ≡ []) world
          (asks-quiet program seed tick agents d asking c.in_ok-said.said told (asks d)) in
          subst (λ (l : List Fault). IsHeard program agents (said ++ more) l
          c.join_all.new.heard) (sym (ap (λ l. faults ++ l) quiet ∙ append-nil faults)) all)
          c.join_all.ensures;
      quiet = on_ok c.join_all.result _ _ (λ joins d.
          subst (λ w. faults_by program seed tick w (agents_at agents d asking) ≡ []) world
          (asks-quiet program seed tick agents d asking c.in_ok-said.said told (asks d)))
          c.join_all.ensures;
    }
