use Rattle.std.proofs.Common.{◌≡◌, ◌∙◌, sym, ap, subst, ℤ, List, filter_map, map, None}
use Rattle.std.specs.List.{list_all}
use Rattle.std.specs.Result.{result_ok, result_err}
use Rattle.brace_model.specs.FaultOrder.{least}
use Rattle.brace_model.specs.Lawful.{is_lawful_agent}
use Rattle.brace_model.specs.Step.{living, children}
use Rattle.brace_model.specs.declared.fault.Fault.{Fault}
use Rattle.brace_model.specs.declared.world.Agent.{Agent}
use Rattle.brace_model.specs.Query.{Saying}
use Rattle.brace_eval.specs.Heard.{IsHeard, row_of}
use Rattle.brace_cuts.specs.Space.{LawfulCuts}
use Rattle.brace_cuts.specs.declared.space.Cuts.{Cuts}
use Rattle.brace_pieces.specs.Settings.{cuts_of}
use Rattle.brace_pieces.specs.Owned.{owned, owns}
use Rattle.brace_pieces.proofs.CutLemmas.{cuts_lawful}
use Rattle.brace_herd.proofs.TableLeft.{by_script, lawful_too, own_lawful}
use Rattle.brace_herd.proofs.update.updated.Goals as goal
use denote.Ref.{Bor}

pub own_rows-requires : goal.own_rows-requires
own_rows-requires c =
    let s = c.args.setting.now in
    subst LawfulCuts (sym c.cuts_at-cuts.ensures) (cuts_lawful s.epoch s.cuts c.args.tick c.requires.plan)

pub kept-own-requires : goal.kept-own-requires
kept-own-requires c =
    let s = c.args.setting.now in
    subst LawfulCuts (sym c.cuts_at-cuts.ensures) (cuts_lawful s.epoch s.cuts c.args.tick c.requires.plan)

pub renew-requires-clause-lawful : goal.renew-requires-clause-lawful
renew-requires-clause-lawful c =
    let s = c.args.setting.now in
    let p = c.args.plans.now in
    let own = c.kept-own.result.items in
    lawful_too s p c.requires.rules own
    (own_lawful s p c.requires.rules (owns s.job.program c.cuts_at-cuts.result.now c.args.part) c.args.held.items own c.kept-own.ensures c.requires.agents)

pub returns-in-Ok : goal.returns-in-Ok
returns-in-Ok c =
    let s = c.args.setting.now in
    let m = s.job.program in
    let cuts = c.cuts_at-cuts.result.now in
    let part = c.args.part in
    let held = c.args.held.items in
    let own = c.kept-own.result.items in
    let kept = c.kept-own.ensures ∙ ap (λ (x : Cuts). owned m x part held) c.cuts_at-cuts.ensures in
    let rows = λ (said : List Saying) (faults : List Fault) (heard : IsHeard m held said faults c.args.heard.now).
    ap (map (λ (r : Bor (List ℤ)). r.now)) c.deref-2.ensures.value
    ∙ c.in_ok-rows.ensures.totals said faults (subst (λ (l : List Agent). IsHeard m l said faults c.args.heard.now) (sym c.deref.ensures.value) heard)
    ∙ ap (λ (l : List Agent). map (row_of m said) (owned m cuts part l)) c.deref.ensures.value ∙ ap (map (row_of m said)) (sym c.kept-own.ensures) in
    record {
      left = λ said faults heard.
          by_script s c.args.plans.now c.requires.rules c.args.tick said own (owned m (cuts_of s c.args.tick) part held) kept
          (λ rs. c.renew.new.agents.items ≡ living (filter_map result_ok rs)) (c.in-Ok.ensures.left (row_of m said) (rows said faults heard));
      born = λ said faults heard.
          by_script s c.args.plans.now c.requires.rules c.args.tick said own (owned m (cuts_of s c.args.tick) part held) kept
          (λ rs. c.in-Ok.born.items ≡ children (filter_map result_ok rs)) (c.in-Ok.ensures.born (row_of m said) (rows said faults heard));
      passes = λ said faults heard.
          by_script s c.args.plans.now c.requires.rules c.args.tick said own (owned m (cuts_of s c.args.tick) part held) kept
          (λ rs. least (filter_map result_err rs) ≡ None) (ap least (c.in-Ok.ensures.quiet (row_of m said) (rows said faults heard)));
      faulted = tt;
    }

pub updated_in_turn-requires-clause-agents : goal.updated_in_turn-requires-clause-agents
updated_in_turn-requires-clause-agents c =
    let s = c.args.setting.now in
    ap (list_all (is_lawful_agent s.job.program)) (c.deref-in-Err.ensures.value ∙ c.in-Err.ensures.kept)
    ∙ own_lawful s c.args.plans.now c.requires.rules (owns s.job.program c.cuts_at-cuts.result.now c.args.part) c.args.held.items c.kept-own.result.items
    c.kept-own.ensures c.requires.agents
