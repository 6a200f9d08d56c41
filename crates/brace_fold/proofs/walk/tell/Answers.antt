use Rattle.std.proofs.Common.{◌∙◌, ap, map, subst, length, ℕ, List, ℤ}
use Rattle.brace_model.specs.declared.program.Ty.{Ty}
use Rattle.brace_code.specs.Lanes.{Gives, words_of}
use Rattle.brace_fold.specs.inner.Crowds.{rows}
use Rattle.brace_fold.specs.inner.Ears.{told_by}
use Rattle.brace_fold.specs.Hears.{Hears}
use Rattle.brace_fold.proofs.Actions.{assign-leads}
use Rattle.brace_fold.proofs.Evals.{worths-of}
use Rattle.brace_fold.proofs.walk.tell.Goals as goal

pub returns-in-Some : goal.returns-in-Some
returns-in-Some c = λ scopes stands.
    let scene = c.args.scene.now in
    let crowd = c.args.crowd.now in
    let code = c.args.code.now in
    let words = words_of (length scopes) c.in-Some.view in
    let frame = c.frame-frame in
    let locals =
    ap (map (λ v. v.now)) (frame.ensures.locals ∙ c.deref-2.ensures.value)
    ∙ c.in_ok-locals.ensures ∙ c.deref.ensures.value in
    let given =
    subst (λ (n : ℕ). Gives code frame.result crowd.lanes (words_of n c.in-Some.view)) stands.long
    c.in-Some.ensures in
    let worths =
    worths-of scene crowd frame.result code words c.requires frame.ensures.this
    frame.ensures.outer frame.ensures.inner locals frame.ensures.totals frame.ensures.draws given
    scopes stands in
    let said =
    subst (λ (t : Ty). Hears scene.program.now (rows scene)
    (told_by c.args.who c.args.effect t scopes words) c.args.heard.now c.say.new.heard)
    c.ty.ensures (c.in_ok-say.ensures scopes stands worths.long) in
    assign-leads scene c.args.who c.args.effect code crowd scopes words c.args.heard.now
    c.say.new.heard worths stands said

pub returns : goal.returns
returns c = λ scopes stands.
    let scene = c.args.scene.now in
    let crowd = c.args.crowd.now in
    let code = c.args.code.now in
    let words = c.in_ok-words.words in
    let frame = c.frame-frame in
    let locals =
    ap (map (λ v. v.now)) (frame.ensures.locals ∙ c.deref-2.ensures.value)
    ∙ c.in_ok-locals.ensures ∙ c.deref.ensures.value in
    let worths =
    worths-of scene crowd frame.result code words c.requires frame.ensures.this
    frame.ensures.outer frame.ensures.inner locals frame.ensures.totals frame.ensures.draws
    c.in_ok-words.ensures scopes stands in
    let hears =
    λ (t : Ty) (l : List ℤ). Hears scene.program.now (rows scene)
    (told_by c.args.who c.args.effect t scopes l) c.args.heard.now c.say-2.new.heard in
    let first : hears c.ty-2.result words =
    subst (hears c.ty-2.result) c.as_slice.ensures
    (c.in_ok-say-2.ensures scopes stands (ap length c.as_slice.ensures ∙ worths.long)) in
    let said = subst (λ (t : Ty). hears t words) c.ty-2.ensures first in
    assign-leads scene c.args.who c.args.effect code crowd scopes words c.args.heard.now
    c.say-2.new.heard worths stands said
