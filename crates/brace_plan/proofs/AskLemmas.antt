-- What a plan answers is what the query of its class does.
use Rattle.std.proofs.Common.{◌≡◌, ◌∙◌, sym, refl, ap, subst, ℕ, ◌<◌, List, [], ◌++◌, map, length, get_or, replicate, true, Option, Some, None, slice_get}
use Rattle.std.specs.List.{list_all}
use Rattle.std.proofs.lemmas.Bool.{and_parts}
use Rattle.std.proofs.lemmas.List.Elements.{All-nil, All-same}
use Rattle.std.proofs.lemmas.List.Sums.{AllPass-from_list_all}
use Rattle.brace_model.specs.declared.fault.Fault.{Fault}
use Rattle.brace_model.specs.declared.program.Class.{Class}
use Rattle.brace_model.specs.declared.program.Program.{Program}
use Rattle.brace_model.specs.declared.world.Agent.{Agent}
use Rattle.brace_model.specs.World.{class_of, no_value}
use Rattle.brace_model.specs.Lawful.{is_lawful_agent, has_states}
use Rattle.brace_model.specs.Value.{Scope}
use Rattle.brace_model.specs.FaultOrder.{least}
use Rattle.brace_model.specs.Query.{Deed, query_of, query_in, opening_scope}
use Rattle.brace_plan.specs.declared.answer.Answer.{Answer}
use Rattle.brace_plan.specs.declared.answer.Said.{Said}
use Rattle.brace_plan.specs.declared.plans.Planned.{Planned}
use Rattle.brace_plan.specs.declared.seat.Scene.{Scene}
use Rattle.brace_plan.specs.Answers.{IsAnswer, saying_of}
use Rattle.brace_plan.specs.Acts.{acts}
use Rattle.brace_plan.specs.Planning.{IsPlanOf, ArePlansOf}
use Rattle.brace_plan.specs.inner.Walks.{Adds, IsAnswerOf, block_in, opening, with_faults}
use Rattle.brace_plan.proofs.AnswerLemmas.{least-faults}

-- what was added to an answer that had nothing
pub answer-of : (scene : Scene) (planned : Planned) (seed : ℕ) (a : Agent) (scope : Scope) (x z : Answer)
    → scope ≡ opening scene planned seed a → x.said.items ≡ [] → x.fault ≡ None
    → Adds scene (block_in scene planned.actions scope) x z → IsAnswerOf scene planned seed a z
answer-of scene planned seed a scope x z at said fault h =
    let deed = block_in scene planned.actions (opening scene planned seed a) in
    let k : Adds scene deed x z = subst (λ p. Adds scene (block_in scene planned.actions p) x z) at h in
    let here : Said → Type 0 = λ s. s.place < length scene.agents.now in
    record {
      said = k.said ∙ ap (λ l. map (saying_of scene.agents.now) l ++ deed.said) said;
      fault = k.fault ∙ ap (λ (o : Option Fault). with_faults o deed.faults) fault ∙ least-faults deed.faults;
      placed = k.placed (All-same here x.said.items [] said (All-nil here));
    }

-- a lawful agent has a class
lawful-class : (program : Program) (a : Agent) (o : Option Class) → has_states o a ≡ true → (class : Class) × (o ≡ Some class)
lawful-class program a None h = absurd (cc)
lawful-class program a (Some class) h = (class, refl)

module _ (program : Program) (queries : List Planned) (plans : ArePlansOf program queries) (a : Agent) (lawful : is_lawful_agent program a ≡ true) where
  pub class : (class : Class) × (class_of program a ≡ Some class)
  class = lawful-class program a (class_of program a) (and_parts _ _ lawful).1

  -- the plan of a lawful agent's class
  pub plan-of : (planned : Planned) → slice_get queries a.class ≡ Some planned → IsPlanOf program a.class class.0.query planned
  plan-of planned is =
      let (other, got, of) = plans.each a.class class.0 class.1 in
      let both : Some other ≡ Some planned = sym got ∙ is in
      let same : other ≡ planned = cc in
      subst (IsPlanOf program a.class class.0.query) same of

  pub asked : (scene : Scene) (seed : ℕ) (planned : Planned) (z : Answer) → scene.program.now ≡ program
      → list_all (is_lawful_agent program) scene.agents.now ≡ true → slice_get queries a.class ≡ Some planned
      → IsAnswerOf scene planned seed a z → IsAnswer program seed scene.tick scene.agents.now a z
  asked scene seed planned z same all got h =
      let of = plan-of planned got in
      let world = scene.agents.now in
      let tick = scene.tick in
      let first : opening scene planned seed a ≡ opening_scope seed tick class.0.query [] a =
      ap (λ n. record { tick = tick; seed = seed; this = a; outer = None; inner = None; locals = replicate n no_value; totals = [] }) of.constants in
      let deed : block_in scene planned.actions (opening scene planned seed a) ≡ query_of program seed tick world a =
      ap (block_in scene planned.actions) first
      ∙ ap (λ p. acts p world planned.actions (opening_scope seed tick class.0.query [] a)) same
      ∙ of.same seed tick world a all lawful refl
      ∙ ap (query_in program seed tick world a) (sym class.1) in
      record {
        said = h.said ∙ ap (λ (d : Deed). d.said) deed;
        fault = h.fault ∙ ap (λ (d : Deed). least d.faults) deed;
        placed = h.placed;
      }

-- one of lawful agents is lawful
pub each-lawful : (program : Program) (agents : List Agent) (i : ℕ) (d : Agent) → list_all (is_lawful_agent program) agents ≡ true
    → i < length agents → is_lawful_agent program (get_or agents i d) ≡ true
each-lawful program agents i d all low = AllPass-from_list_all (is_lawful_agent program) agents all i d low
