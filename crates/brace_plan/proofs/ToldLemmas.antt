-- What the plan of a class does for each of its agents, and what its rules make of them.
use Rattle.std.proofs.Common.{◌≡◌, ◌∙◌, sym, ap, subst, refl, ℕ, List, [], true, Some, None, slice_get, replicate}
use Rattle.std.specs.List.{list_all}
use Rattle.brace_model.specs.declared.program.Program.{Program}
use Rattle.brace_model.specs.declared.world.Agent.{Agent}
use Rattle.brace_model.specs.World.{no_value}
use Rattle.brace_model.specs.declared.program.Class.{Class}
use Rattle.brace_model.specs.Lawful.{LawfulProgram, is_lawful_agent, rule_scope}
use Rattle.brace_model.specs.Query.{query_in, opening_scope}
use Rattle.brace_model.specs.Next.{next_in}
use Rattle.brace_plan.specs.declared.plans.Planned.{Planned}
use Rattle.brace_plan.specs.declared.rules.Rules.{Rules}
use Rattle.brace_plan.specs.Ruling.{AreAllRulesOf, AreRulesOf}
use Rattle.brace_plan.specs.Leaving.{IsRuled}
use Rattle.brace_plan.specs.Acts.{acts}
use Rattle.brace_plan.specs.Planning.{ArePlansOf, IsPlanned, opening_of}
use Rattle.brace_plan.proofs.AskLemmas.{class, plan-of}
use Rattle.brace_plan.proofs.LeaveLemmas.{next_alike}
use Rattle.brace_plan.proofs.RuleLemmas.{not_negative}
use Rattle.brace_plan.proofs.Suiting.{opening_fits}

pub planned-of : (program : Program) (queries : List Planned) → ArePlansOf program queries → (number : ℕ) (planned : Planned)
    → slice_get queries number ≡ Some planned → IsPlanned program number planned.actions planned.constants
planned-of program queries plans number planned got = record {
  same = λ seed tick world a all lawful is.
      let here : slice_get queries a.class ≡ Some planned = ap (slice_get queries) is ∙ got in
      let own = class program queries plans a lawful in
      let of = plan-of program queries plans a lawful planned here in
      ap (λ n. acts program world planned.actions (opening_of n seed tick a)) of.constants
      ∙ of.same seed tick world a all lawful refl
      ∙ ap (query_in program seed tick world a) (sym own.1);
}

-- the rules of a class are those by which the program makes what becomes of an agent
pub ruled-of : (program : Program) (all : List Rules) → LawfulProgram program → AreAllRulesOf program all → (number : ℕ) (class : Class) (rules : Rules)
    → slice_get program.classes number ≡ Some class → slice_get all number ≡ Some rules → IsRuled program number class rules
ruled-of program all fine are number class rules has got =
    let (other, found, of) = are.each number class has in
    let both : Some other ≡ Some rules = sym found ∙ got in
    let same : other ≡ rules = cc in
    let its : AreRulesOf (rule_scope program number) class rules = subst (AreRulesOf (rule_scope program number) class) same of in
    record {
      reach = not_negative class.reach (fine.classes_are_lawful number class has).reach_is_distance;
      same = λ seed tick totals a lawful is.
          let here : slice_get program.classes a.class ≡ Some class = ap (slice_get program.classes) is ∙ has in
          ap (λ o. next_in seed tick o totals a) here
          ∙ next_alike (rule_scope program number) (opening_scope seed tick [] totals a) (opening_fits program true seed tick [] totals a number lawful is)
          class rules its a tick;
    }
