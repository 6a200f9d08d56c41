use Rattle.std.proofs.Common.{◌≡◌, ◌++◌, [], ℕ, List, sym, subst}
use Rattle.brace_model.specs.declared.program.Program.{Program}
use Rattle.brace_model.specs.declared.world.Agent.{Agent}
use Rattle.brace_fold.specs.declared.arranged.Arranged.{Arranged}
use Rattle.brace_fold.specs.declared.table.Table.{Table}
use Rattle.brace_fold.specs.Arranged.{AreArranged, in_places}
use Rattle.brace_fold.specs.Asked.{by_row, no_agent}
use Rattle.brace_fold.specs.Sums.{AreSummed}
use Rattle.brace_fold.specs.inner.Asks.{AsksIn}
use Rattle.brace_eval.specs.Heard.{faults_by, said_by}
use Rattle.brace_fold.proofs.ArrangedLemmas.{in-order}
use Rattle.brace_fold.proofs.Askings.{asks-quiet, asks-said}
use Rattle.brace_fold.proofs.RowLemmas.{by_id_moved}
use Rattle.brace_fold.proofs.Walks.{on_ok}
use Rattle.brace_fold.proofs.arranged.Arranged.ask.Goals as goal

pub ask_in-requires-clause-agents : goal.ask_in-requires-clause-agents
ask_in-requires-clause-agents c =
    let (agents, is) = c.requires.agents in (
      agents,
      subst (λ (p : Program). AreArranged p agents c.args.self.now) (sym c.program-program.ensures)
          is,
    )

-- they ask by the program of the plans
asks_there : (program made : Program) (seed tick : ℕ) (agents : List Agent) (all : Arranged)
    (asking : List ℕ) (said after : Table) → made ≡ program → AreArranged program agents all
    → ((l : List Agent) (d : Agent) → AreArranged made l all
    → AsksIn made seed tick (in_places l all) d asking said after)
    → AsksIn program seed tick (in_places agents all) no_agent asking said after
asks_there program made seed tick agents all asking said after same is asks =
    subst (λ (p : Program). AsksIn p seed tick (in_places agents all) no_agent asking said after)
    same (asks agents no_agent (subst (λ (p : Program). AreArranged p agents all) (sym same) is))

pub returns-clause-said : goal.returns-clause-said
returns-clause-said c = on_ok c.ask_in.result _ _ (λ h agents before is summed.
    let program = c.args.plans.now in
    let those = in_places agents c.args.self.now in
    let asks = asks_there program c.program-program.result.now c.args.seed c.args.tick agents
    c.args.self.now c.args.asking.now c.args.said.now c.ask_in.new.said c.program-program.ensures
    is h in
    subst (λ w. AreSummed program those
    (before ++ said_by program c.args.seed c.args.tick w (by_row those c.args.asking.now))
    c.ask_in.new.said)
    (by_id_moved agents those is.apart (in-order program agents c.args.self.now is))
    (asks-said program c.args.seed c.args.tick those no_agent c.args.asking.now c.args.said.now
    c.ask_in.new.said asks before summed)) c.ask_in.ensures

pub returns-clause-quiet : goal.returns-clause-quiet
returns-clause-quiet c = on_ok c.ask_in.result _ _ (λ h agents is.
    let program = c.args.plans.now in
    let those = in_places agents c.args.self.now in
    subst (λ w. faults_by program c.args.seed c.args.tick w (by_row those c.args.asking.now) ≡ [])
    (by_id_moved agents those is.apart (in-order program agents c.args.self.now is))
    (asks-quiet program c.args.seed c.args.tick those no_agent c.args.asking.now c.args.said.now
    c.ask_in.new.said (asks_there program c.program-program.result.now c.args.seed c.args.tick
    agents c.args.self.now c.args.asking.now c.args.said.now c.ask_in.new.said
    c.program-program.ensures is h))) c.ask_in.ensures
