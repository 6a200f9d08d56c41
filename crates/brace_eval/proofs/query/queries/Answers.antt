use Rattle.std.proofs.Common.{◌∙◌, ◌+◌, ◌++◌, sym, subst, take, List, ℕ, flat_map}
use Rattle.brace_model.specs.declared.fault.Fault.{Fault}
use Rattle.brace_model.specs.declared.world.Agent.{Agent}
use Rattle.brace_model.specs.Query.{Saying, Deed, query_of}
use Rattle.std.proofs.lemmas.List.{take_all}
use Rattle.brace_eval.specs.Heard.{said_by, faults_by}
use Rattle.brace_eval.specs.inner.Tables.{Notes, NotesDeed}
use Rattle.brace_eval.proofs.DeedLemmas.{notes-then}
use Rattle.brace_eval.proofs.query.queries.Goals as goal
use Rattle.brace_num.proofs.Lists.{flat_map_next}

pub loop-this-preserved : goal.loop-this-preserved
loop-this-preserved c =
    let scene = c.args.scene.now in
    let asking : List Agent = c.args.asking.now in
    let deed : Agent → Deed = query_of scene.program.now c.args.ledger.now.drawer.seed c.args.tick scene.agents.now in
    let said : Agent → List Saying = λ a. (deed a).said in
    let faults : Agent → List Fault = λ a. (deed a).faults in
    let i = c.loop-this.this-index in
    let a = c.this-item.result in
    let first = c.args.ledger.now in
    let last = c.query.new.ledger in
    let noted : NotesDeed scene (deed a) c.loop-this.ledger last =
    subst (λ (n : ℕ). NotesDeed scene (query_of scene.program.now n c.args.tick scene.agents.now a) c.loop-this.ledger last) c.loop-this.invariant.seed c.in_ok-query.ensures.noted in
    let both = notes-then scene (flat_map said (take i asking)) (said a) (flat_map faults (take i asking)) (faults a) first c.loop-this.ledger last c.loop-this.invariant.noted noted in
    record {
      noted = subst (λ (xs : List Saying). Notes scene xs (flat_map faults (take (i + 1) asking)) first last) (sym (flat_map_next said asking i a c.loop-this-test.true c.this-item.is))
          (subst (λ (fs : List Fault). Notes scene (flat_map said (take i asking) ++ said a) fs first last) (sym (flat_map_next faults asking i a c.loop-this-test.true c.this-item.is)) both);
      seed = c.in_ok-query.ensures.seed ∙ c.loop-this.invariant.seed;
    }

pub returns-clause-noted : goal.returns-clause-noted
returns-clause-noted c =
    let scene = c.args.scene.now in
    let seed = c.args.ledger.now.drawer.seed in
    subst (λ (l : List Agent). Notes scene (said_by scene.program.now seed c.args.tick scene.agents.now l) (faults_by scene.program.now seed c.args.tick scene.agents.now l) c.args.ledger.now c.loop-this.ledger)
    (take_all c.loop-this.this-index c.args.asking.now c.loop-this-test.false) c.loop-this.invariant.noted
