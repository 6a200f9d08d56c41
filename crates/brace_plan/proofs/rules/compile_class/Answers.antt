use Rattle.std.proofs.Common.{◌≡◌, [], ℕ, List, sym, ap, subst, true, None}
use Rattle.std.specs.List.{list_all}
use Rattle.brace_model.specs.declared.program.State.{State}
use Rattle.brace_model.specs.declared.program.Class.{Class}
use Rattle.brace_model.specs.declared.program.Gift.{Gift}
use Rattle.brace_model.specs.Typing.{Names}
use Rattle.brace_model.specs.Lawful.{rule_scope, is_ruled, is_given}
use Rattle.brace_plan.proofs.RuleLemmas.{are_rules, gifts_typed}
use Rattle.brace_plan.proofs.rules.compile_class.Goals as goal

-- what is known of classes, if they are those of the program
abbrev known_of : ℕ → List Class → Names
known_of number classes = record { classes = classes; own = number; outer_class = None; inner_class = None; in_rule = true; known = [] }

pub compile_states-requires : goal.compile_states-requires
compile_states-requires c =
    let class = c.args.class.now in
    let lawful = c.requires.lawful.classes_are_lawful c.args.number class c.requires.class in
    subst (λ (cs : List Class). list_all (λ (s : State). is_ruled (known_of c.args.number cs) s.ty s.rule) c.as_slice.result.now ≡ true) (sym c.as_slice-classes.ensures)
    (subst (λ (ss : List State). list_all (λ (s : State). is_ruled (rule_scope c.args.program.now c.args.number) s.ty s.rule) ss ≡ true) (sym c.as_slice.ensures) lawful.rules_are_typed)

pub compile_gifts-requires : goal.compile_gifts-requires
compile_gifts-requires c =
    let class = c.args.class.now in
    let lawful = c.requires.lawful.classes_are_lawful c.args.number class c.requires.class in (
      class.states,
      subst (λ (cs : List Class). list_all (is_given (known_of c.args.number cs) class.states) c.gifts_of.result.now ≡ true) (sym c.as_slice-classes.ensures)
          (subst (λ (gs : List Gift). list_all (is_given (rule_scope c.args.program.now c.args.number) class.states) gs ≡ true) (sym c.gifts_of.ensures)
          (gifts_typed (rule_scope c.args.program.now c.args.number) class.states class.spawn lawful.spawn_is_typed)),
    )

pub returns : goal.returns
returns c =
    let class = c.args.class.now in
    are_rules c.args.program.now c.args.number class _ _ c.as_slice.result.now c.gifts_of.result.now
    (ap (known_of c.args.number) c.as_slice-classes.ensures) c.as_slice.ensures c.gifts_of.ensures
    (c.requires.lawful.classes_are_lawful c.args.number class c.requires.class)
    c.in_ok-states.ensures c.in_ok-die.ensures c.in_ok-spawn.ensures c.in_ok-gifts.ensures
