use Rattle.std.proofs.Common.{rules, refl, ◌≡◌, ◌∙◌, sym, ap, ap₂, subst, [], Some, None, false, All, Contains}
use Rattle.std.proofs.lemmas.List.Elements.{All-contains_itself}
use Rattle.brace_pieces.specs.declared.setting.Stage.TheVariants as stage
use Rattle.brace_pieces.specs.Steps.{met, is_show}
use Rattle.brace_pieces.specs.Courses.{met_in, step_of, others_of}
use Rattle.brace_part.proofs.PartLemmas.{goes_nowhere, goes_showing, goes_exchanging, out_same}
use Rattle.brace_part.specs.inner.Ready.{AreKept}
use Rattle.brace_part.proofs.part.prepare.Goals as goal

pub returns-in_default-clause-goes_on : goal.returns-in_default-clause-goes_on
returns-in_default-clause-goes_on c =
    let none : step_of c.args.course.now ≡ None = search rules in
    let empty : c.clear.new.self.items ≡ [] = search rules in
    let comes = c.requires.comes in
    goes_nowhere c.args.course.now _ none c.requires.start comes.ready comes.next_is comes.faultless comes.brings empty c.requires.nothing_taken comes.counted

pub returns-in_err-standing-clause-kept : goal.returns-in_err-standing-clause-kept
returns-in_err-standing-clause-kept c kept =
    subst (AreKept c.args.course.now.setting c.args.course.now.actor) (sym c.in_err-standing.ensures.kept) kept

pub returns-in_err-standing-clause-still : goal.returns-in_err-standing-clause-still
returns-in_err-standing-clause-still c =
    let still = c.in_err-standing.ensures.kept ∙ c.requires.comes.brings in
    search (still, c.from_residual.ensures, rules)

pub returns-then-eq-clause-goes_on : goal.returns-then-eq-clause-goes_on
returns-then-eq-clause-goes_on c =
    let is : step_of c.args.course.now ≡ Some c.in-Some.at = search rules in
    let show : c.in-Some.at.stage ≡ stage.Show = search rules in
    let comes = c.requires.comes in
    goes_showing c.args.course.now _ c.in-Some.at c.args.standing.now.shown c.requires.part.lawful c.requires.part.is_part is show c.requires.start comes.ready comes.next_is comes.faultless comes.brings
    c.in_ok-standing.ensures.out c.requires.nothing_taken c.in_ok-standing.ensures.shown comes.counted

pub prepared-requires-clause-others : goal.prepared-requires-clause-others
prepared-requires-clause-others c =
    let cs = c.args.course.now in
    let at = c.in-Some.at in
    let is : step_of cs ≡ Some at = search rules in
    let list = met c.setting.result.now at c.actor.result in
    let same : c.others.result.now ≡ list = c.others.ensures ∙ ap (λ o. met_in cs.setting o cs.actor) is ∙ ap₂ (λ s p. met s at p) (sym c.setting.ensures.setting) (sym c.actor.ensures.actor) in
    subst (All (Contains list)) (sym same) (All-contains_itself list)

pub returns-clause-goes_on : goal.returns-clause-goes_on
returns-clause-goes_on c =
    let cs = c.args.course.now in
    let is : step_of cs ≡ Some c.in-Some.at = search rules in
    let other : is_show c.in-Some.at.stage ≡ false = search rules in
    let comes = c.requires.comes in
    goes_exchanging cs _ c.in-Some.at is other c.requires.start comes.ready comes.next_is comes.faultless comes.brings
    (out_same cs.setting c.setting.result.now cs.number c.number.result cs.actor c.actor.result (others_of cs) c.others.result.now c.in_ok-standing-2.field-0.items
    c.setting.ensures.setting c.number.ensures c.actor.ensures.actor c.others.ensures c.in_ok-standing-2.ensures.out) c.requires.nothing_taken
    c.args.standing.now.counts comes.counted c.args.standing.now.next refl c.in_ok-standing-2.ensures.counts
