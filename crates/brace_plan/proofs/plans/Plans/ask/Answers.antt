use Rattle.std.proofs.Common.{◌≡◌, ◌∙◌, sym, refl, subst, ℕ, List, get_or, true, Some, slice_get}
use Rattle.std.specs.List.{list_all}
use Rattle.std.proofs.lemmas.Option.{slice_get_read}
use Rattle.std.proofs.lemmas.Result.{on_ok_weaker}
use Rattle.brace_model.specs.declared.program.Program.{Program}
use Rattle.brace_model.specs.declared.world.Agent.{Agent}
use Rattle.brace_model.specs.Lawful.{is_lawful_agent}
use Rattle.brace_plan.specs.declared.plans.Planned.{Planned}
use Rattle.brace_plan.specs.Answers.{IsAnswer}
use Rattle.brace_plan.proofs.AskLemmas.{asked, each-lawful}
use Rattle.brace_plan.proofs.WalkLemmas.{any-default}
use Rattle.brace_plan.proofs.plans.Plans.ask.Goals as goal

pub returns-clause-answer : goal.returns-clause-answer
returns-clause-answer c =
    let program : Program = c.self.inside.program in
    let queries : List Planned = c.self.inside.queries in
    let agents : List Agent = c.args.agents.now in
    let a : Agent = c.index-agents-place.result in
    let planned : Planned = c.in-Some.planned.now in
    let z = c.ask_plan.new.answer in
    let seed : ℕ = c.room.inside.desk.drawer.seed in
    let all : list_all (is_lawful_agent program) agents ≡ true =
    subst (λ (p : Program). list_all (is_lawful_agent p) agents ≡ true) (sym c.self.view_is) c.requires.lawful in
    let lawful : is_lawful_agent program a ≡ true =
    subst (λ (b : Agent). is_lawful_agent program b ≡ true) (sym c.index-agents-place.is) (each-lawful program agents c.args.place a all c.requires.place) in
    let got : slice_get queries a.class ≡ Some planned =
    subst (λ (l : List Planned). slice_get l a.class ≡ Some planned) c.as_slice.ensures
    (slice_get_read c.as_slice.result.now _ a.class planned refl c.in-Some.ensures.lookup.3.0 c.in-Some.ensures.lookup.1) in
    on_ok_weaker c.ask_plan.result (λ h d.
    subst (λ (p : Program). IsAnswer p c.args.room.now c.args.tick agents (get_or agents c.args.place d) z) c.self.view_is
    (subst (λ (n : ℕ). IsAnswer program n c.args.tick agents (get_or agents c.args.place d) z) c.room.view_is
    (subst (λ (b : Agent). IsAnswer program seed c.args.tick agents b z) (c.index-agents-place.is ∙ any-default agents c.args.place a d c.requires.place)
    (asked program queries c.self.invariant.1 a lawful _ seed planned z refl all got h)))) c.ask_plan.ensures.answer
