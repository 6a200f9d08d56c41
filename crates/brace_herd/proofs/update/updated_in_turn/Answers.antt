use Rattle.std.proofs.Common.{rules, ◌≡◌, ◌<◌, ◌∙◌, ◌+◌, sym, ap, subst, ℤ, List, map, Some}
use Rattle.std.proofs.lemmas.List.Sums.{AllPass-from_list_all}
use Rattle.brace_model.specs.Lawful.{is_lawful_agent}
use Rattle.brace_model.specs.declared.world.Agent.{Agent}
use Rattle.brace_model.specs.World.{class_of}
use Rattle.brace_model.specs.Next.{next_in}
use Rattle.brace_model.specs.Query.{Saying}
use Rattle.brace_eval.specs.Heard.{row_of}
use Rattle.brace_herd.proofs.TableLeft.{becoming, row_at, leaves, faults, same_left, all_left, caused}
use Rattle.brace_herd.proofs.update.updated_in_turn.Goals as goal
use Rattle.brace_herd.proofs.update.updated_in_turn.Goals.{in-Ok+in_ok-keep-in-Ok, in-Err-Fault}
use denote.Ref.{Bor}

pub loop-i-preserved : goal.loop-i-preserved
loop-i-preserved c =
    let s = c.args.setting.now in
    let tick = c.args.tick in
    let own : List Agent = c.args.own.now in
    let i = c.loop-i.i in
    let a = c.index-own-i.result in
    let low = c.loop-i-test.true in
    let is = c.index-own-i.is in
    let row = c.row_at-totals.result in
    let its : (said : List Saying) → map (λ (r : Bor (List ℤ)). r.now) c.args.rows.now ≡ map (row_of s.job.program said) own → row.now ≡ row_of s.job.program said a =
    λ said. row_at (row_of s.job.program said) c.args.rows.now own i a row low (subst (λ n. i < n) (sym c.requires.rows) low) is c.row_at-totals.ensures in
    let rules : next_in c.loop-i.room tick (class_of s.job.program a) row.now a ≡ next_in c.loop-i.room tick (class_of c.args.plans.now a) row.now a =
    sym (c.requires.rules.next c.loop-i.room tick row.now a) in
    elim c.match-left_by.branch [
      | in-Ok+in_ok-keep-in-Ok w ↦
          record {
            seed = c.left_by.ensures.seed ∙ c.loop-i.invariant.seed;
            so_far = λ said are.
                same_left (becoming s tick said own (i + 1)) _ _ _ _ _ _ (ap (λ x. x.items) w.left-is ∙ w.in_ok-keep-in-Ok.ensures.left) (ap (λ x. x.items) w.born-is ∙ w.in_ok-keep-in-Ok.ensures.born) w.least-is
                (leaves s tick said own i a low is c.loop-i.left.items c.loop-i.born.items c.loop-i.least row.now c.loop-i.room (its said are) c.loop-i.invariant.seed
                (c.loop-i.invariant.so_far said are) (record { agent = w.in-Ok.next.agent; child = w.in-Ok.next.child }) (rules ∙ w.in-Ok.ensures.left));
          }
      | in-Err-Fault w ↦
          record {
            seed = c.left_by.ensures.seed ∙ c.loop-i.invariant.seed;
            so_far = λ said are.
                same_left (becoming s tick said own (i + 1)) _ _ _ _ _ _ (ap (λ x. x.items) w.left-is) (ap (λ x. x.items) w.born-is) (w.least-is ∙ ap Some w.with_earlier.ensures)
                (faults s tick said own i a low is c.loop-i.left.items c.loop-i.born.items c.loop-i.least row.now c.loop-i.room (its said are) c.loop-i.invariant.seed
                (c.loop-i.invariant.so_far said are) w.in-Err-Fault.fault (rules ∙ w.in-Err-Fault.ensures.fault w.in-Err-Fault.fault w.in-Err-Fault.field-0-is));
          }
    ]

pub left_by-requires-clause-lawful : goal.left_by-requires-clause-lawful
left_by-requires-clause-lawful c =
    let m = c.args.setting.now.job.program in
    let all = AllPass-from_list_all (is_lawful_agent m) c.args.own.now c.requires.agents in
    c.requires.rules.lawful c.index-own-i.result ∙ ap (is_lawful_agent m) c.index-own-i.is ∙ all c.loop-i.i c.index-own-i.result c.loop-i-test.true

pub returns-in-None-clause-left : goal.returns-in-None-clause-left
returns-in-None-clause-left c said are =
    (all_left c.args.setting.now c.args.tick said c.args.own.now c.loop-i.i _ _ _ c.loop-i-test.false (c.loop-i.invariant.so_far said are)).lives

pub returns-in-None-clause-born : goal.returns-in-None-clause-born
returns-in-None-clause-born c said are =
    (all_left c.args.setting.now c.args.tick said c.args.own.now c.loop-i.i _ _ _ c.loop-i-test.false (c.loop-i.invariant.so_far said are)).births

pub returns-in-None-clause-passes : goal.returns-in-None-clause-passes
returns-in-None-clause-passes c said are =
    let all = all_left c.args.setting.now c.args.tick said c.args.own.now c.loop-i.i _ _ _ c.loop-i-test.false (c.loop-i.invariant.so_far said are) in
    sym all.first ∙ c.in-None.is

pub returns-clause-faulted : goal.returns-clause-faulted
returns-clause-faulted c said are =
    let all = all_left c.args.setting.now c.args.tick said c.args.own.now c.loop-i.i _ _ _ c.loop-i-test.false (c.loop-i.invariant.so_far said are) in
    caused _ c.in-Some.fault (sym c.in-Some.is ∙ all.first)

pub returns-in_err-keep-in-Ok-clause-faulted : goal.returns-in_err-keep-in-Ok-clause-faulted
returns-in_err-keep-in-Ok-clause-faulted c = search (c.from_residual-in_err-keep-in-Ok.ensures, rules)
