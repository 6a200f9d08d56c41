use Rattle.std.proofs.Common.{◌≡◌, ◌∙◌, [], ℕ, List, sym, subst, length, get_or, rules}
use Rattle.std.proofs.lemmas.List.{length-map}
use Rattle.std.proofs.lemmas.List.Sorted.{IsPermutation-sym}
use Rattle.brace_model.specs.declared.program.Program.{Program}
use Rattle.brace_model.specs.declared.world.Agent.{Agent}
use Rattle.brace_eval.specs.Heard.{said_by}
use Rattle.brace_fold.specs.declared.arranged.Arranged.{Arranged}
use Rattle.brace_fold.specs.Arranged.{AreArranged, in_places}
use Rattle.brace_fold.specs.Asked.{by_row, no_agent}
use Rattle.brace_fold.specs.Rows.{by_id}
use Rattle.brace_fold.specs.Sums.{AreSummed}
use Rattle.brace_fold.proofs.ArrangedLemmas.{arranged-alike}
use Rattle.brace_invert.specs.Split.{forward_program, forward_query, inverse_program, inverse_query}
use Rattle.brace_herd.specs.Workers.{AreQueriesOf}
use Rattle.brace_herd.specs.Said.{said_over}
use Rattle.brace_herd.proofs.AskLemmas.{sees_same}
use Rattle.brace_herd.proofs.SumsLemmas.{all_rows_ask, quiet_both, quiet_moved, quiet_script, said_both, said_moved, said_script, says_too}
use Rattle.brace_herd.proofs.LaneLemmas.{effects_same, own_effects}
use Rattle.brace_herd.proofs.query.Queries.said_to.Goals as goal
use Rattle.brace_herd.proofs.query.Queries.said_to.Goals.{in-Script+in_ok-ask-in-Script, in-Inverted+in_ok-all-in-Inverted+in_ok-ask-in-Inverted+in_ok-ask-in-Inverted-2}

-- agents in their places stand so for both programs that are asked
both_arranged : (m p q : Program) (agents : List Agent) (arranged : Arranged)
    → p ≡ forward_program m → q ≡ inverse_program m → AreArranged m agents arranged
    → AreArranged p agents arranged × AreArranged q agents arranged
both_arranged m p q agents arranged forward inverse are = (
  arranged-alike m p agents arranged (sees_same forward_query m p forward) are,
  arranged-alike m q agents arranged (sees_same inverse_query m q inverse) are,
)

pub ask-requires-clause-agents : goal.ask-requires-clause-agents
ask-requires-clause-agents c =
    let (agents, can) = c.requires.can in
    let (plain, script) = subst (AreQueriesOf c.args.setting.now) c.in-Script.is can.queries in (
      agents,
      subst (λ (p : Program). AreArranged p agents c.args.arranged.now) (sym script)
          can.arranged_so,
    )

pub ask-requires-in-Inverted-clause-agents : goal.ask-requires-in-Inverted-clause-agents
ask-requires-in-Inverted-clause-agents c =
    let (agents, can) = c.requires.can in
    let s = c.args.setting.now in
    let (inverts, forward, inverse) = subst (AreQueriesOf s) c.in-Inverted.is can.queries in
    let (one, two) = both_arranged s.job.program c.in-Inverted.forward c.in-Inverted.inverse agents
    c.args.arranged.now forward inverse can.arranged_so in
    (agents, one)

pub ask-requires-in-Inverted-2-clause-agents : goal.ask-requires-in-Inverted-2-clause-agents
ask-requires-in-Inverted-2-clause-agents c =
    let (agents, can) = c.requires.can in
    let s = c.args.setting.now in
    let (inverts, forward, inverse) = subst (AreQueriesOf s) c.in-Inverted.is can.queries in
    let (one, two) = both_arranged s.job.program c.in-Inverted.forward c.in-Inverted.inverse agents
    c.args.arranged.now forward inverse can.arranged_so in
    (agents, two)

pub returns-clause-said : goal.returns-clause-said
returns-clause-said c agents mine can perm =
    let s = c.args.setting.now in
    let m = s.job.program in
    let seed = s.job.seed in
    let tick = c.args.tick in
    let arranged = c.args.arranged.now in
    let order = arranged.order.items in
    let rows = in_places agents arranged in
    let world = by_id agents in
    let asking = by_row rows c.args.own.now in
    let reads = λ (row : ℕ). get_or agents row no_agent in
    let start = c.in_ok-said.said in
    let many : c.len-count.result ≡ length order = search rules in
    let nothing : AreSummed m rows [] start =
    c.in_ok-said.ensures m rows (many ∙ sym (length-map order reads)) in
    let back = IsPermutation-sym mine asking perm in
    let Out = AreSummed m rows (said_over s tick mine world) in
    elim c.match-self.branch [
      | in-Script+in_ok-ask-in-Script w ↦
          let (plain, script) = subst (AreQueriesOf s) w.in-Script.is can.queries in
          let p = w.in-Script.plans in
          let after = w.ask.new.said in
          let is = subst (λ (x : Program). AreArranged x agents arranged) (sym script)
          can.arranged_so in
          let said = says_too m p (own_effects m p script) rows []
          (said_by p seed tick world asking) start after
          (w.in_ok-ask-in-Script.ensures.said agents [] is) nothing in
          subst Out (sym w.said-is)
          (subst (λ l. AreSummed m rows l after) (said_script s tick mine world p plain script)
          (said_moved p seed tick world asking mine back m rows [] after said))
      | in-Inverted+in_ok-all-in-Inverted+in_ok-ask-in-Inverted+in_ok-ask-in-Inverted-2 w ↦
          let (inverts, forward, inverse) = subst (AreQueriesOf s) w.in-Inverted.is
          can.queries in
          let p = w.in-Inverted.forward in
          let q = w.in-Inverted.inverse in
          let between = w.ask-in-Inverted.new.said in
          let after = w.ask-in-Inverted-2.new.said in
          let (one, two) = both_arranged m p q agents arranged forward inverse can.arranged_so in
          let places = w.deref.result.now in
          let all = all_rows_ask m agents arranged places can.arranged_so
          (w.deref.ensures.value ∙ w.in_ok-all-in-Inverted.ensures) in
          let before = said_by p seed tick world mine in
          let first = said_moved p seed tick world asking mine back m rows [] between
          (says_too m p (effects_same forward_query m p forward) rows []
          (said_by p seed tick world asking) start between
          (w.in_ok-ask-in-Inverted.ensures.said agents [] one) nothing) in
          let second = said_moved q seed tick world (by_row rows places) world all m rows before
          after (says_too m q (effects_same inverse_query m q inverse) rows before
          (said_by q seed tick world (by_row rows places)) between after
          (w.in_ok-ask-in-Inverted-2.ensures.said agents before two) first) in
          subst Out (sym w.said-is)
          (subst (λ l. AreSummed m rows l after)
          (said_both s tick mine world p q inverts forward inverse) second)
    ]

pub returns-clause-quiet : goal.returns-clause-quiet
returns-clause-quiet c agents mine can perm =
    let s = c.args.setting.now in
    let m = s.job.program in
    let seed = s.job.seed in
    let tick = c.args.tick in
    let arranged = c.args.arranged.now in
    let rows = in_places agents arranged in
    let world = by_id agents in
    let asking = by_row rows c.args.own.now in
    let back = IsPermutation-sym mine asking perm in
    elim c.match-self.branch [
      | in-Script+in_ok-ask-in-Script w ↦
          let (plain, script) = subst (AreQueriesOf s) w.in-Script.is can.queries in
          let p = w.in-Script.plans in
          let is = subst (λ (x : Program). AreArranged x agents arranged) (sym script)
          can.arranged_so in
          quiet_script s tick mine world p plain script
          (quiet_moved p seed tick world asking mine back
          (w.in_ok-ask-in-Script.ensures.quiet agents is))
      | in-Inverted+in_ok-all-in-Inverted+in_ok-ask-in-Inverted+in_ok-ask-in-Inverted-2 w ↦
          let (inverts, forward, inverse) = subst (AreQueriesOf s) w.in-Inverted.is
          can.queries in
          let p = w.in-Inverted.forward in
          let q = w.in-Inverted.inverse in
          let (one, two) = both_arranged m p q agents arranged forward inverse can.arranged_so in
          let places = w.deref.result.now in
          let all = all_rows_ask m agents arranged places can.arranged_so
          (w.deref.ensures.value ∙ w.in_ok-all-in-Inverted.ensures) in
          quiet_both s tick mine world p q inverts forward inverse
          (quiet_moved p seed tick world asking mine back
          (w.in_ok-ask-in-Inverted.ensures.quiet agents one))
          (quiet_moved q seed tick world (by_row rows places) world all
          (w.in_ok-ask-in-Inverted-2.ensures.quiet agents two))
    ]
